-- The module of the runs of a text.
use Rattle.std.specs.Prelude.{ℕ, zero, suc, ◌+◌, ◌^◌, ◌≤◌, List, [], ◌∷◌, ◌++◌, map, length, sum_by, take, drop, Some, None, codes, true}
use Rattle.std.specs.List.{AllByRecursion}
use Rattle.mufom_numbers.specs.declared.limits.TheConstants.{MOST_STRING_BYTES}
use Rattle.mufom_numbers.specs.Spelling.{AreBytes}
use Rattle.mufom_sections.specs.declared.section.Section.{Section}
use Rattle.mufom_loads.specs.declared.load.Item.TheVariants.{Literal}
use Rattle.mufom_loads.specs.declared.load.Load.{Load}
use Rattle.mufom_loads.specs.declared.load.Load.TheVariants.{SetSection, One}
use Rattle.mufom_module.specs.declared.module.Order.TheVariants.{Most}
use Rattle.mufom_module.specs.declared.module.Parts.{Parts}
use Rattle.mufom_module.specs.Bare.{bare_parts}
use Rattle.mufom_meaning.specs.declared.located.Run.{Run}
use Rattle.mufom_meaning.specs.AddressMap.{AreApart}

-- the section of a run
abbrev pub run_section : Run → Section
run_section run = record { name = codes "txt"; absolute = true; purpose = None; size = length run.bytes; align = 1; base = Some run.address }

-- bytes as literals of 65,535 bytes, of which the last may be shorter; at most `most` literals
abbrev pub literals : (most : ℕ) → List ℕ → List Load
literals most [] = []
literals zero (b ∷ bytes) = []
literals (suc most) (b ∷ bytes) = One (Literal (take MOST_STRING_BYTES (b ∷ bytes))) ∷ literals most (drop MOST_STRING_BYTES (b ∷ bytes))

-- the loads of a run, whose section has this position
abbrev pub run_loads : ℕ → Run → List Load
run_loads section run = SetSection section ∷ literals (length run.bytes) run.bytes

-- the loads of runs, whose sections have the positions from this one on
abbrev pub loads_from : ℕ → List Run → List Load
loads_from section [] = []
loads_from section (run ∷ runs) = run_loads section run ++ loads_from (section + 1) runs

-- the parts of the module of runs
abbrev pub text_parts : ℕ → List Run → Parts
text_parts maus runs = record (bare_parts maus Most) {
  processor = codes "TXT";
  name = codes "text";
  sections = map run_section runs;
  loads = loads_from 0 runs;
}

-- the runs end below 2^width
abbrev pub EndBelow : ℕ → List Run → Type 0
EndBelow width [] = Unit {0}
EndBelow width (run ∷ runs) = (run.address + length run.bytes ≤ 2 ^ width) × EndBelow width runs

-- The runs of a text of which a module can be made: maximal runs in increasing order below 2^width, at most 33,554,432 of them and at most as many
-- bytes in all.
pub record HaveModule (width : ℕ) (runs : List Run) : Type 0 where
  pub apart : AreApart 0 runs
  pub below : EndBelow width runs
  pub few : length runs ≤ 33554432
  pub short : sum_by (λ run. length run.bytes) runs ≤ 33554432

-- The runs of a text: maximal runs in increasing order below 2^width, whose bytes are numbers below 256.
pub record HaveText (width : ℕ) (runs : List Run) : Type 0 where
  pub apart : AreApart 0 runs
  pub below : EndBelow width runs
  pub narrow : width ≤ 64
  pub bytes : AllByRecursion (λ run. AreBytes run.bytes) runs
