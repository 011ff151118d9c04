-- Where a plan puts a list of modules: its sections, its commons, and the copies of regions that are loaded into other regions.
use Rattle.std.specs.Prelude.{ℕ, ◌+◌, ◌-◌, ◌==◌, List, length, Option, Some, None, option_map, option_and_then, position, slice_get, unwrap_or}
use Rattle.std.specs.Prelude.{Bool, false, ◌&&◌, not}
use Rattle.std.specs.List.{list_any}
use Rattle.mufom_sections.specs.declared.section.Section.{Section}
use Rattle.mufom_loads.specs.Lengths.{byte_count}
use Rattle.mufom_module.specs.declared.module.Parts.{Parts}
use Rattle.mufom_plan.specs.declared.plan.Region.{Region}
use Rattle.mufom_plan.specs.declared.plan.Plan.{Plan}
use Rattle.mufom_place.specs.declared.placing.Placing.{Placing}
use Rattle.mufom_place.specs.declared.placing.RegionCopy.{RegionCopy}
use Rattle.mufom_place.specs.Bases.{placing_of}
use Rattle.mufom_place.specs.Copies.{copies, all_sections, all_placings, all_bases}
use Rattle.mufom_meaning.specs.Flat.{flat_sections}
use Rattle.mufom_meaning.specs.Placed.{placed_commons}
use Rattle.mufom_meaning.specs.Steps.{Step, counter_step, item_step, steps}

-- a step loads at least one byte into the section
abbrev pub loads_into : ℕ → Step → Bool
loads_into n (counter_step site section t) = false
loads_into n (item_step site section item) = (section == n) && not (byte_count item == 0)

-- the section of a flat number has loaded bytes; this needs no value
abbrev pub has_bytes : List Parts → ℕ → Bool
has_bytes ms n = list_any (loads_into n) (steps ms)

-- the plan, the sections of the modules, the commons that the plan places, and the copies
pub record Layout : Type 0 where
  pub plan : Plan
  pub sections : List Section
  pub commons : List Section
  pub copied : List RegionCopy

-- the layout of a list by a plan
abbrev pub layout : List Parts → Plan → Layout
layout ms plan = record {
  plan = plan;
  sections = flat_sections ms;
  commons = placed_commons ms plan;
  copied = copies plan (flat_sections ms) (placed_commons ms plan) (has_bytes ms);
}

-- all that is placed: the sections, the commons and the copies, in one list
abbrev pub whole_list : Layout → List Section
whole_list l = all_sections l.sections l.commons l.copied

-- what the regions place, with its bases
abbrev pub layout_placings : Layout → List Placing
layout_placings l = all_placings l.plan l.sections l.commons l.copied

-- the bases, one for each of the whole list
abbrev pub layout_bases : Layout → List ℕ
layout_bases l = all_bases l.plan l.sections l.commons l.copied

-- the base at a position, or 0 if there is none
abbrev pub base_in : List ℕ → ℕ → ℕ
base_in placed n = unwrap_or (slice_get placed n) 0

-- the base of the section, common or copy at a position
abbrev pub base_at : Layout → ℕ → ℕ
base_at l n = base_in (layout_bases l) n

-- Bytes are moved from an address to another, and the bytes after it alike.
pub record Move : Type 0 where
  pub from : ℕ
  pub to : ℕ

-- the address to which a byte is moved, if it is
abbrev pub moved_to : Option Move → ℕ → ℕ
moved_to None address = address
moved_to (Some move) address = move.to + address - move.from

-- the position of the copy of a region, among all copies
abbrev pub copy_position : Layout → ℕ → Option ℕ
copy_position l region = position (λ c. c.source == region) l.copied

-- the move of a region, which is given with its position: from its base to that of its copy
abbrev pub move_to : Layout → Region → ℕ → Move
move_to l region n = record { from = region.base; to = base_at l (length l.sections + length l.commons + n) }

abbrev pub move_of : Layout → ℕ × Region → Option Move
move_of l r = option_map (move_to l r.1) (copy_position l r.0)

-- the move of the region at a position
abbrev pub move_from : Layout → ℕ → Option Move
move_from l n = option_and_then (λ region. move_of l (n, region)) (slice_get l.plan.regions n)

-- the move of what is loaded into a section: that of the region that places it
abbrev pub section_move : Layout → ℕ → Option Move
section_move l section = option_and_then (λ p. move_from l p.region) (placing_of (layout_placings l) section)
