-- What the code keeps to compute the values of symbols.
use Rattle.std.specs.Prelude.{◌≡◌, ◌+◌, ◌*◌, ◌%◌, ◌^◌, ℕ, List, map, length, drop}
use Rattle.std.specs.List.{enumerate_from}
use Rattle.mufom_plan.specs.declared.plan.PlanSymbol.{PlanSymbol}
use Rattle.mufom_plan.specs.Names.{listed_names}
use Rattle.mufom_place.specs.Filling.{AreFilled}
use Rattle.mufom_planned.specs.Layout.{Layout, layout_bases, layout_placings, whole_list}
use Rattle.mufom_planned.specs.Numbers.{placed_for}
use Rattle.mufom_locating.specs.declared.numbers.Numbering.{Numbering}
use Rattle.mufom_locating.specs.Moves.{region_move}

-- it is about this layout
pub record IsNumbering (l : Layout) (n : Numbering) : Type 0 where
  pub regions : n.regions.now ≡ l.plan.regions
  pub entries : n.entries.now ≡ map (placed_for l) (listed_names l.plan.regions)
  pub bases : n.bases.now ≡ layout_bases l
  pub moves : n.moves.now ≡ map (region_move l.copied (drop (length l.sections + length l.commons) (layout_bases l))) (enumerate_from 0 l.plan.regions)
  pub ends : AreFilled l.plan.regions (whole_list l) (layout_placings l) n.ends.now

-- these are the numbers of symbols modulo the address space
abbrev pub AreValues : ℕ → (PlanSymbol → ℕ) → List PlanSymbol → List ℕ → Type 0
AreValues maus numbers symbols values = values ≡ map (λ symbol. numbers symbol % 2 ^ (8 * maus)) symbols
