-- The location of a list of modules by a plan, with the plan's symbols and copies, and what is returned in place of it.
use Rattle.std.specs.Prelude.{◌≡◌, ℕ, ◌^◌, List, map, flat_map, Option, Some, None, option_map, option_to_list}
use Rattle.mufom_debug.specs.Marks.{marks_of}
use Rattle.mufom_module.specs.declared.module.Order.{Order}
use Rattle.mufom_module.specs.declared.module.Parts.{Parts}
use Rattle.mufom_plan.specs.declared.plan.Plan.{Plan}
use Rattle.mufom_place.specs.Facts.{◌or_else◌}
use Rattle.mufom_place.specs.Copies.{all_refusal}
use Rattle.mufom_meaning.specs.declared.located.LocatedParts.{LocatedParts}
use Rattle.mufom_meaning.specs.Flat.{width}
use Rattle.mufom_meaning.specs.Placed.{planned_bases}
use Rattle.mufom_meaning.specs.Readings.{readings}
use Rattle.mufom_meaning.specs.Steps.{StepReading, counter_reading, literal_reading, field_reading}
use Rattle.mufom_meaning.specs.Facts.{LocateFact, placement}
use Rattle.mufom_meaning.specs.LinkAnswer.{link_answer}
use Rattle.mufom_meaning.specs.LocateAnswer.{after_placing}
use Rattle.mufom_meaning.specs.Location.{first_header, placed_sections, located_public, located_mark}
use Rattle.mufom_meaning.specs.AddressMap.{Cell, AreRunsOf, step_cells}
use Rattle.mufom_planned.specs.Layout.{Layout, layout, whole_list, layout_bases, section_move, moved_to}
use Rattle.mufom_planned.specs.PlanSymbols.{with_symbols, first_shared}

-- What keeps a list from being located by a plan: a symbol of the plan has the name of a public, or one of the other facts, about the list
-- with the plan's symbols.
pub data PlanFact : Type 0 where
  shared_name : (name : List ℕ) → PlanFact
  of_list : (fact : LocateFact) → PlanFact

-- the sections, commons and copies of a list cannot be placed
abbrev pub layout_fact : List Parts → Layout → Option LocateFact
layout_fact ms l = option_map placement (all_refusal (width ms) l.plan l.sections l.commons l.copied)

-- the fact that locating the list by the plan returns in place of a location, if any, without symbols
abbrev pub copied_answer : List Parts → Plan → Option LocateFact
copied_answer ms plan = layout_fact ms (layout ms plan) or_else after_placing ms plan

-- the same with the plan's symbols
abbrev pub planned_answer : List Parts → Plan → Option PlanFact
planned_answer ms plan = option_map shared_name (first_shared ms plan) or_else option_map of_list (copied_answer (with_symbols ms plan) plan)

-- the section that a step sets or loads
abbrev pub reading_section : StepReading → ℕ
reading_section (counter_reading section v) = section
reading_section (literal_reading section at bytes) = section
reading_section (field_reading section at kind size v) = section

-- a byte that is loaded into a section, at the address at which it is loaded
abbrev pub moved_cell : Layout → ℕ → Cell → Cell
moved_cell l section cell = (moved_to (section_move l section) cell.0, cell.1)

-- the loaded bytes of a step, each at the address at which it is loaded
abbrev pub moved_cells : Layout → Order → ℕ → StepReading → List Cell
moved_cells l order modulus step = map (moved_cell l (reading_section step)) (step_cells order modulus step)

-- the loaded bytes of all steps
abbrev pub load_map : Layout → Order → ℕ → List StepReading → List Cell
load_map l order modulus steps = flat_map (moved_cells l order modulus) steps

-- r has the values of a list at the bases that the plan gives, its sections, commons and copies at their bases, and as runs the loaded
-- bytes, those of a region with a copy in its copy.
pub record HasLocation (ms : List Parts) (plan : Plan) (r : LocatedParts) : Type 0 where
  pub first : first_header ms ≡ Some (r.processor, r.name, r.maus, r.order)
  pub sections : r.sections ≡ placed_sections (layout_bases (layout ms plan)) (whole_list (layout ms plan))
  pub publics : map located_public r.publics ≡ (readings ms (planned_bases ms plan)).publics
  pub start : map (λ v. Some v) (option_to_list r.start) ≡ (readings ms (planned_bases ms plan)).starts
  pub debug : map (λ mark. Some mark) (marks_of r.debug) ≡ map located_mark (readings ms (planned_bases ms plan)).debug
  pub rows : AreRunsOf (load_map (layout ms plan) r.order (2 ^ width ms) (readings ms (planned_bases ms plan)).steps) r.runs

-- r is the location of the list by the plan: no fact is returned, and it is that of the list with the plan's symbols.
pub record IsPlanned (ms : List Parts) (plan : Plan) (r : LocatedParts) : Type 0 where
  pub links : link_answer ms ≡ None
  pub locates : planned_answer ms plan ≡ None
  pub located : HasLocation (with_symbols ms plan) plan r
