-- The program can hold the module of a text's runs.
use Rattle.std.proofs.Common.{ℕ, zero, suc, ◌+◌, ◌*◌, ◌^◌, ◌<◌, ◌≤◌, List, [], ◌∷◌, ◌++◌, map, length}
use Rattle.std.proofs.Common.{drop, sum_by, arith}
use Rattle.std.specs.List.{AllByRecursion}
use Rattle.std.proofs.Math.Nat.{pow-le-pow_right}
use Rattle.std.proofs.lemmas.List.Elements.{All-from_recursion, All-nil}
use Rattle.std.proofs.lemmas.List.Sums.{sum_by-cons}
use Rattle.mufom_numbers.specs.declared.limits.TheConstants.{MOST_STRING_BYTES}
use Rattle.mufom_numbers.specs.Spelling.{AreBytes}
use Rattle.mufom_numbers.proofs.SpellingLaws.{AreBytes-take}
use Rattle.mufom_loads.specs.declared.load.Load.{Load}
use Rattle.mufom_module.specs.Made.{IsMade, IsMadeLoad, IsMadeMark, IsMadePublic, IsMadeReference, IsMadeSection}
use Rattle.mufom_judging.proofs.judged.Stays.{AreBytes-drop}
use Rattle.mufom_meaning.specs.declared.located.Run.{Run}
use Rattle.mufom_meaning.specs.AddressMap.{AreApart}
use Rattle.mufom_titxt.specs.TextModules.{EndBelow, HaveModule, HaveText, literals, loads_from, run_section, text_parts}
use Rattle.mufom_titxt.proofs.ModuleValid.{text_is_valid}
use Rattle.mufom_works.specs.Works.{IsHeld}

-- ---- sections

made-section : (run : Run) → run.address < 2 ^ 64 → length run.bytes < 2 ^ 64 → IsMadeSection (run_section run)
made-section run low few = record { name = (omega arith, (omega arith, (omega arith, tt))); size = few; align = omega arith; base = low }

made-sections : (width from : ℕ) (runs : List Run) → 2 ^ width ≤ 2 ^ 64 → EndBelow width runs → AreApart from runs
    → sum_by (λ (run : Run). length run.bytes) runs ≤ 33554432 → AllByRecursion IsMadeSection (map run_section runs)
made-sections width from [] narrow below apart short = tt
made-sections width from (run ∷ runs) narrow below apart short =
    let total = sum_by-cons (λ (r : Run). length r.bytes) run runs in (
      made-section run (omega (arith, narrow, below.0, apart.1)) (omega (arith, total, short)),
      made-sections width (run.address + length run.bytes + 1) runs narrow below.1 apart.2 (omega (arith, total, short)),
    )

-- ---- loads

loads-append : (first second : List Load) → AllByRecursion IsMadeLoad first → AllByRecursion IsMadeLoad second → AllByRecursion IsMadeLoad (first ++ second)
loads-append [] second made more = more
loads-append (load ∷ first) second made more = (made.0, loads-append first second made.1 more)

made-literals : (most : ℕ) (bytes : List ℕ) → AreBytes bytes → AllByRecursion IsMadeLoad (literals most bytes)
made-literals zero [] are = tt
made-literals zero (b ∷ bytes) are = tt
made-literals (suc most) [] are = tt
made-literals (suc most) (b ∷ bytes) are =
    (AreBytes-take MOST_STRING_BYTES (b ∷ bytes) are, made-literals most (drop MOST_STRING_BYTES (b ∷ bytes)) (AreBytes-drop MOST_STRING_BYTES (b ∷ bytes) are))

made-loads : (section : ℕ) (runs : List Run) → section + length runs ≤ 33554432 → AllByRecursion (λ (run : Run). AreBytes run.bytes) runs
    → AllByRecursion IsMadeLoad (loads_from section runs)
made-loads section [] few are = tt
made-loads section (run ∷ runs) few are = (
  omega (arith, few),
  loads-append (literals (length run.bytes) run.bytes) (loads_from (section + 1) runs)
      (made-literals (length run.bytes) run.bytes are.0) (made-loads (section + 1) runs (omega (arith, few)) are.1),
)

-- ---- all of it

text-made : (maus : ℕ) (runs : List Run) → maus ≤ 8 → HaveModule (8 * maus) runs → HaveText (8 * maus) runs → IsMade (text_parts maus runs)
text-made maus runs high h t = record {
  processor = (omega arith, (omega arith, (omega arith, tt)));
  name = (omega arith, (omega arith, (omega arith, (omega arith, tt))));
  maus = omega (arith, high);
  ext = tt;
  env = tt;
  sections = All-from_recursion IsMadeSection (map run_section runs)
      (made-sections (8 * maus) 0 runs (pow-le-pow_right {n = 2} (omega arith) {i = 8 * maus} {j = 64} t.narrow) h.below h.apart h.short);
  publics = All-nil IsMadePublic;
  references = All-nil IsMadeReference;
  debug = All-nil IsMadeMark;
  loads = All-from_recursion IsMadeLoad (loads_from 0 runs) (made-loads 0 runs (omega (arith, h.few)) t.bytes);
  start = tt;
}

-- the program can hold it
pub text-held : (maus : ℕ) (runs : List Run) → 1 ≤ maus → maus ≤ 8 → HaveModule (8 * maus) runs → HaveText (8 * maus) runs → IsHeld (text_parts maus runs)
text-held maus runs low high h t = record { valid = text_is_valid maus runs low high h.few h.short; made = text-made maus runs high h t }
