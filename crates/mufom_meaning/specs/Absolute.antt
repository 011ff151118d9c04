-- The absolute module of a location, as which it is written (IEEE Std 695, an absolute object module).
use Rattle.std.specs.Prelude.{ℕ, zero, suc, ◌+◌, ◌-◌, max, List, [], ◌∷◌, length, map, take, drop, flat_map, Option, Some, None, option_map}
use Rattle.std.specs.List.{enumerate_from}
use Rattle.mufom_numbers.specs.declared.limits.TheConstants.{MOST_STRING_BYTES}
use Rattle.mufom_expr.specs.Tree.{number}
use Rattle.mufom_sections.specs.declared.section.Section.{Section}
use Rattle.mufom_names.specs.declared.name.Public.{Public}
use Rattle.mufom_loads.specs.declared.load.Item.TheVariants.{Literal}
use Rattle.mufom_loads.specs.declared.load.Load.{Load}
use Rattle.mufom_loads.specs.declared.load.Load.TheVariants.{SetSection, SetPc, One}
use Rattle.mufom_module.specs.declared.module.Parts.{Parts}
use Rattle.mufom_plan.specs.declared.plan.Plan.{Plan}
use Rattle.mufom_meaning.specs.declared.located.PublicValue.{PublicValue}
use Rattle.mufom_meaning.specs.declared.located.Run.{Run}
use Rattle.mufom_meaning.specs.declared.located.LocatedParts.{LocatedParts}

-- the first `n` chunks of a list that is cut into chunks of `size` elements, of which the last may be shorter
abbrev pub chunks_within : {X : Type 0} → ℕ → ℕ → List X → List (List X)
chunks_within zero size xs = []
chunks_within (suc n) size [] = []
chunks_within (suc n) size (x ∷ xs) = take size (x ∷ xs) ∷ chunks_within n size (drop size (x ∷ xs))

-- a list cut into chunks of `size` elements (not 0), of which the last may be shorter
abbrev pub chunks : {X : Type 0} → ℕ → List X → List (List X)
chunks size xs = chunks_within (length xs) size xs

-- the part of a run from address `from` up to, but not including, address `to`
abbrev pub run_within : ℕ → ℕ → Run → Run
run_within from to run = record { address = max from run.address; bytes = drop (from - run.address) (take (to - run.address) run.bytes) }

-- the loads of a run: the program counter is set to the address of the run, and literals follow
abbrev pub loads_of_run : ℕ → Run → List Load
loads_of_run section run = SetPc section (number run.address) ∷ map (λ chunk. One (Literal chunk)) (chunks MOST_STRING_BYTES run.bytes)

-- the same loads, or none for a run without bytes
abbrev pub loads_of_bytes : ℕ → Run → List ℕ → List Load
loads_of_bytes section run [] = []
loads_of_bytes section run (byte ∷ bytes) = loads_of_run section run

-- the loads of a section that lies from one address up to another
abbrev pub loads_between : ℕ → List Run → ℕ → ℕ → List Load
loads_between section runs from to = flat_map (λ run. let row = run_within from to run in loads_of_bytes section row row.bytes) runs

-- the loads, preceded by one that makes the section the current one if there are any
abbrev pub with_section : ℕ → List Load → List Load
with_section section [] = []
with_section section (load ∷ loads) = SetSection section ∷ load ∷ loads

-- the loads of a section at a base
abbrev pub section_loads_at : ℕ → List Run → Section → Option ℕ → List Load
section_loads_at n runs section None = []
section_loads_at n runs section (Some base) = with_section n (loads_between n runs base (base + section.size))

-- The loads of a section, which is given with its position: for each run, or part of a run, inside the section, the program
-- counter of the section is set, and literals follow.
abbrev pub section_loads : List Run → ℕ × Section → List Load
section_loads runs s = section_loads_at s.0 runs s.1 s.1.base

-- a public whose value is one number
abbrev pub absolute_public : PublicValue → Public
absolute_public p = record { name = p.name; value = number p.value; notes = p.notes }

-- The absolute module of a location. It has no extension, no environment and no references, and each of its expressions is one
-- number.
abbrev pub absolute_of : LocatedParts → Parts
absolute_of r = record {
  processor = r.processor;
  name = r.name;
  maus = r.maus;
  order = r.order;
  ext = [];
  env = [];
  sections = r.sections;
  names = record { publics = map absolute_public r.publics; references = [] };
  debug = r.debug;
  loads = flat_map (section_loads r.runs) (enumerate_from 0 r.sections);
  start = option_map number r.start;
}

-- the plan that has no region
abbrev pub no_regions : Plan
no_regions = record { regions = []; symbols = []; keep = [] }
