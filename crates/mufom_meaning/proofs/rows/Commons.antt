-- Commons of concrete modules: where they are placed, the values of their references, and the error if they are not placed.
use Rattle.std.proofs.Common.{◌≡◌, ℕ, List, [], ◌∷◌, length, Some, None, true, false, refl, ap, arith}
use Rattle.std.specs.Prelude.{codes}
use Rattle.mufom_expr.specs.declared.token.FieldKind.TheVariants.{Either}
use Rattle.mufom_expr.specs.declared.token.Letter.TheVariants.{X}
use Rattle.mufom_expr.specs.Tree.{number, variable}
use Rattle.mufom_sections.specs.declared.section.Section.{Section}
use Rattle.mufom_loads.specs.declared.load.Item.TheVariants.{Field}
use Rattle.mufom_loads.specs.declared.load.Load.TheVariants.{SetSection, One}
use Rattle.mufom_module.specs.declared.module.Order.TheVariants.{Most}
use Rattle.mufom_module.specs.declared.module.Parts.{Parts}
use Rattle.mufom_plan.specs.declared.plan.Plan.{Plan}
use Rattle.mufom_place.specs.declared.refusal.PlaceRefusal.TheVariants.{Misfit}
use Rattle.mufom_meaning.specs.declared.located.LocatedParts.{LocatedParts}
use Rattle.mufom_meaning.specs.AddressMap.{Cell}
use Rattle.mufom_meaning.specs.Steps.{counter}
use Rattle.mufom_meaning.specs.Values.{value_within}
use Rattle.mufom_meaning.specs.Readings.{readings}
use Rattle.mufom_meaning.specs.Placed.{common_sections, base_list}
use Rattle.mufom_meaning.specs.Location.{IsLocation}
use Rattle.mufom_meaning.specs.Joined.{IsJoined}
use Rattle.mufom_meaning.specs.Facts.{placement, undefined, common_unplaced}
use Rattle.mufom_meaning.specs.LocateAnswer.{locate_answer}
use Rattle.mufom_meaning.proofs.rows.Built.{a_module, relocatable, public_of, strong, weak, region_at, plan_of, image_of}

-- a module that asks for a common and loads its address
abbrev asking : ℕ → Parts
asking size = a_module (relocatable (codes "t") 4 ∷ []) [] (weak (codes "c") size 0 ∷ []) (SetSection 0 ∷ One (Field Either 4 (variable X 0)) ∷ [])

-- two modules that ask for one common, in different sizes
abbrev both : List Parts
both = asking 4 ∷ asking 6 ∷ []

-- a region for the sections and the commons
abbrev with_commons : ℕ → Plan
with_commons size = plan_of (record (region_at 256 size (codes "t" ∷ [])) { common = true } ∷ [])

-- The two are one section, of the greater size.
one_common : common_sections both ≡ record { name = codes "c"; absolute = false; purpose = None; size = 6; align = 8; base = None } ∷ []
one_common = refl

-- the common begins at a multiple of 8 after the sections of the modules
placed_after : base_list both (with_commons 64) ≡ 256 ∷ 260 ∷ 264 ∷ []
placed_after = refl

abbrev common_image : List Cell
common_image = (256, 0) ∷ (257, 0) ∷ (258, 1) ∷ (259, 8) ∷ (260, 0) ∷ (261, 0) ∷ (262, 1) ∷ (263, 8) ∷ []

addresses_loaded : image_of both (with_commons 64) ≡ common_image
unfolding readings counter value_within
addresses_loaded = refl

both_fine : locate_answer both (with_commons 64) ≡ None
unfolding locate_answer counter value_within
both_fine = refl

-- A link keeps both references, and is placed alike.
abbrev asking_linked : Parts
asking_linked = a_module (relocatable (codes "t") 4 ∷ relocatable (codes "t") 4 ∷ []) [] (weak (codes "c") 4 0 ∷ weak (codes "c") 6 0 ∷ [])
    (SetSection 0 ∷ One (Field Either 4 (variable X 0)) ∷ SetSection 1 ∷ One (Field Either 4 (variable X 1)) ∷ [])

asking_is_joined : IsJoined asking_linked both (codes "a")
asking_is_joined = record {
  named = refl;
  header = record { processor = refl; maus = refl; order = refl; ext = refl; env = refl };
  sections = refl;
  publics = refl;
  references = refl;
  loads = refl;
  start = refl;
  debug = refl;
}

linked_loaded : image_of (asking_linked ∷ []) (with_commons 64) ≡ common_image
unfolding readings counter value_within
linked_loaded = refl

linked_fine : locate_answer (asking_linked ∷ []) (with_commons 64) ≡ None
unfolding locate_answer counter value_within
linked_fine = refl

-- The common ends at 270, past a region that ends at 269, and needs a region that takes commons.
common_misfit : locate_answer both (with_commons 13) ≡ Some (placement (Misfit 2 (Some 0)))
unfolding locate_answer
common_misfit = refl

just_fits : locate_answer both (with_commons 14) ≡ None
unfolding locate_answer counter value_within
just_fits = refl

common_nowhere : locate_answer both (plan_of (region_at 256 64 (codes "t" ∷ []) ∷ [])) ≡ Some (common_unplaced (codes "c"))
unfolding locate_answer
common_nowhere = refl

-- A public of the name goes before the common, which then takes no room.
abbrev with_public : List Parts
with_public = asking 4 ∷ asking 6 ∷ a_module [] (public_of (codes "c") (number 7) ∷ []) [] [] ∷ []

public_goes_first : image_of with_public (with_commons 64)
    ≡ (256, 0) ∷ (257, 0) ∷ (258, 0) ∷ (259, 7) ∷ (260, 0) ∷ (261, 0) ∷ (262, 0) ∷ (263, 7) ∷ []
unfolding readings counter value_within
public_goes_first = refl

no_common_left : common_sections with_public ≡ []
no_common_left = refl

-- A strong reference of the name is defined by the common, and so is a weak one of size 0, whose default is not used.
abbrev also_strong : List Parts
also_strong = asking 4 ∷ asking 6 ∷ a_module [] [] (strong (codes "c") ∷ []) [] ∷ []

strong_is_defined : locate_answer also_strong (with_commons 64) ≡ None
unfolding locate_answer counter value_within
strong_is_defined = refl

strong_loaded : image_of also_strong (with_commons 64) ≡ common_image
unfolding readings counter value_within
strong_loaded = refl

other_is_undefined : locate_answer (asking 4 ∷ a_module [] [] (strong (codes "c") ∷ strong (codes "d") ∷ []) [] ∷ []) (with_commons 64)
    ≡ Some (undefined (codes "d"))
unfolding locate_answer
other_is_undefined = refl

abbrev default_beside : List Parts
default_beside = asking 4 ∷ a_module (relocatable (codes "t") 4 ∷ []) [] (weak (codes "c") 0 9 ∷ [])
    (SetSection 0 ∷ One (Field Either 4 (variable X 0)) ∷ []) ∷ []

default_not_used : image_of default_beside (with_commons 64) ≡ common_image
unfolding readings counter value_within
default_not_used = refl

-- A common that two modules ask for is not placed twice: what has it twice is not a location of them.
abbrev common_at : ℕ → ℕ → Section
common_at size base = record { name = codes "c"; absolute = true; purpose = None; size = size; align = 8; base = Some base }

abbrev text_at : ℕ → Section
text_at base = record (relocatable (codes "t") 4) { absolute = true; base = Some base }

abbrev placed_twice : LocatedParts
placed_twice = record {
  processor = codes "68000";
  name = codes "a";
  maus = 4;
  order = Most;
  sections = text_at 256 ∷ text_at 260 ∷ common_at 4 264 ∷ common_at 6 272 ∷ [];
  publics = [];
  runs = record { address = 256; bytes = 0 ∷ 0 ∷ 1 ∷ 8 ∷ 0 ∷ 0 ∷ 1 ∷ 16 ∷ [] } ∷ [];
  start = None;
  debug = [];
}

not_placed_twice : ¬ IsLocation both (with_commons 64) placed_twice
not_placed_twice h = let e : 4 ≡ 3 = ap length h.sections in omega (arith, e)
