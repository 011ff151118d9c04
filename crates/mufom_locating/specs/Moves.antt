-- How far the bytes of regions are moved, as the code keeps it.
use Rattle.std.specs.Prelude.{◌≡◌, ℕ, ◌+◌, ◌-◌, ◌%◌, ◌^◌, ◌==◌, List, map, Option, Some, None, option_map, option_and_then, option_to_list, position, slice_index_or}
use Rattle.mufom_plan.specs.declared.plan.Region.{Region}
use Rattle.mufom_place.specs.declared.placing.Placing.{Placing}
use Rattle.mufom_place.specs.declared.placing.RegionCopy.{RegionCopy}
use Rattle.mufom_place.specs.Bases.{Numbered}
use Rattle.mufom_moves.specs.declared.shift.Shift.{Shift}
use Rattle.mufom_planned.specs.Layout.{base_in}
use Rattle.mufom_locating.specs.declared.moves.Move.{Move}

-- the move of a region, which is given with its position: from its base to that of its copy, if it has one
abbrev pub region_move : List RegionCopy → List ℕ → ℕ × Region → Option Move
region_move copied placed r = option_map (λ n. record { from = r.1.base; to = base_in placed n }) (position (λ c. c.source == r.0) copied)

-- the address to which a byte is moved
abbrev pub address_in : Option Move → ℕ → ℕ
address_in None address = address
address_in (Some move) address = move.to + address - move.from

-- the move of the region of a placing
abbrev pub move_for : List (Option Move) → Option Placing → Option Move
move_for moves None = None
move_for moves (Some p) = slice_index_or moves p.region None

-- the extent of a section of a base and a size whose bytes are moved
abbrev pub shift_by : ℕ → ℕ → Move → Shift
shift_by base size move = record { from = base; size = size; to = address_in (Some move) base % 2 ^ 64 }

-- the extent of a section, if its bytes are moved
abbrev pub section_shifts : List ℕ → List (Option Placing) → List (Option Move) → Numbered → List Shift
section_shifts bases placed moves s =
    option_to_list (option_map (shift_by (base_in bases s.0) s.1.size) (move_for moves (slice_index_or placed s.0 None)))
