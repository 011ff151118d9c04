-- What the code keeps of a layout.
use Rattle.std.specs.Prelude.{◌≡◌, ℕ, ◌+◌, ◌<◌, ◌^◌, List, [], ◌∷◌, ◌++◌, length, All, None, Bool, true, false}
use Rattle.mufom_module.specs.declared.module.Parts.{Parts}
use Rattle.mufom_plan.specs.declared.plan.Plan.{Plan}
use Rattle.mufom_plan.specs.declared.plan.PlanSymbol.{PlanSymbol}
use Rattle.mufom_place.specs.declared.placing.RegionCopy.{RegionCopy}
use Rattle.mufom_place.specs.declared.refusal.PlaceRefusal.{PlaceRefusal}
use Rattle.mufom_place.specs.declared.refusal.PlaceRefusal.TheVariants.{Misfit, NoMemory, Overlap, Unplaced}
use Rattle.mufom_place.specs.Bases.{numbered}
use Rattle.mufom_place.specs.Copies.{all_refusal}
use Rattle.mufom_place.specs.Facts.{first_some, misfit_at}
use Rattle.mufom_place.specs.Filling.{IsPlaceableCopy}
use Rattle.mufom_meaning.specs.Flat.{width}
use Rattle.mufom_planned.specs.Layout.{Layout, layout, layout_bases, whole_list}
use Rattle.mufom_planned.specs.Numbers.{symbol_number}
use Rattle.mufom_planned.specs.PlanSymbols.{with_names}
use Rattle.mufom_locating.specs.Numbered.{AreValues}
use Rattle.mufom_locating.specs.declared.layout.Layout.{Layout as Laid}

-- an error of placing is an overlap
abbrev pub is_overlap : PlaceRefusal → Bool
is_overlap (Overlap m n) = true
is_overlap (Unplaced n) = false
is_overlap (Misfit n region) = false
is_overlap NoMemory = false

-- at this width of addresses each section and each common lies in the address space and in its region
abbrev pub HaveRoom : ℕ → Layout → Type 0
HaveRoom width l = first_some (misfit_at (2 ^ width) l.plan l.sections l.commons) (numbered (l.sections ++ l.commons)) ≡ None

-- these are the copies of a layout
pub record AreCopies (l : Layout) (copied : List RegionCopy) : Type 0 where
  pub are : copied ≡ l.copied
  pub placeable : All (IsPlaceableCopy l.plan.regions) copied

-- at this width of addresses nothing keeps sections, commons and copies from being placed, they are fewer than 2^32, and these are their
-- bases
pub record ArePlacedAt (width : ℕ) (l : Layout) (bases : List ℕ) : Type 0 where
  pub few : length (whole_list l) < 2 ^ 32
  pub fits : all_refusal width l.plan l.sections l.commons l.copied ≡ None
  pub bases_are : bases ≡ layout_bases l

-- the parts are those of the layout, which fits at this width of addresses
pub record IsLaid (width : ℕ) (l : Layout) (laid : Laid) : Type 0 where
  pub count : laid.plain ≡ length l.sections + length l.commons
  pub copies : AreCopies l laid.copies
  pub whole : laid.whole ≡ whole_list l
  pub places : ArePlacedAt width l laid.bases

-- the parts are those of the layout of the module by the plan
abbrev pub IsPlacedBy : Parts → Plan → Laid → Type 0
IsPlacedBy m plan laid = IsLaid (width (m ∷ [])) (layout (m ∷ []) plan) laid

-- these are the numbers of the plan's symbols
abbrev pub numbers_of : Parts → Plan → PlanSymbol → ℕ
numbers_of m plan symbol = symbol_number (layout (with_names (m ∷ []) plan) plan) symbol.value

-- the parts are those of the layout of the module with the names of the plan's symbols, and these are the values of the symbols
pub record IsNamedLayout (m : Parts) (plan : Plan) (laid : Laid) (values : List ℕ) : Type 0 where
  pub placed : IsLaid (width (m ∷ [])) (layout (with_names (m ∷ []) plan) plan) laid
  pub values_are : AreValues m.maus (numbers_of m plan) plan.symbols values
