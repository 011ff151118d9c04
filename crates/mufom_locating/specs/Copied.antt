-- Copies in a location, and the bytes that are moved into them.
use Rattle.std.specs.Prelude.{◌≡◌, ℕ, List, [], ◌∷◌, map, flat_map, Some, None, option_map, option_to_list, true, ◌%◌, ◌^◌}
use Rattle.mufom_sections.specs.declared.section.Section.{Section}
use Rattle.mufom_module.specs.declared.module.Parts.{Parts}
use Rattle.mufom_plan.specs.declared.plan.Plan.{Plan}
use Rattle.mufom_place.specs.declared.placing.RegionCopy.{RegionCopy}
use Rattle.mufom_place.specs.Bases.{Numbered, numbered}
use Rattle.mufom_meaning.specs.declared.located.LocatedParts.{LocatedParts}
use Rattle.mufom_moves.specs.declared.shift.Shift.{Shift}
use Rattle.mufom_planned.specs.Layout.{Layout, Move, layout, base_at, section_move, moved_to}
use Rattle.mufom_planned.specs.Planned.{HasLocation, copied_answer}

-- the copies as sections at their bases
abbrev pub placed_copies : List RegionCopy → List ℕ → List Section
placed_copies [] bases = []
placed_copies (c ∷ copied) [] = []
placed_copies (c ∷ copied) (base ∷ bases) = record c.section { absolute = true; base = Some base } ∷ placed_copies copied bases

-- the extent of a section of a layout, if its bytes are moved
abbrev pub shift_of : Layout → Numbered → Move → Shift
shift_of l s move = record { from = base_at l s.0; size = s.1.size; to = moved_to (Some move) (base_at l s.0) % 2 ^ 64 }

abbrev pub layout_shifts : Layout → List Shift
layout_shifts l = flat_map (λ s. option_to_list (option_map (shift_of l s) (section_move l s.0))) (numbered l.sections)

-- the module is located with copies: nothing keeps it from being located, and this is its location
pub record IsLocatedWithCopies (m : Parts) (plan : Plan) (r : LocatedParts) : Type 0 where
  pub locates : copied_answer (m ∷ []) plan ≡ None
  pub located : HasLocation (m ∷ []) plan r
