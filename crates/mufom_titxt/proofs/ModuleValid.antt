-- The module of runs has no defect.
use Rattle.std.proofs.Common.{◌≡◌, ℕ, zero, suc, ◌+◌, ◌*◌, ◌^◌, ◌<◌, ◌≤◌, List, [], ◌∷◌, ◌++◌, map, length, take, drop, Option, Some, None, Bool}
use Rattle.std.proofs.Common.{true, false, cond, not, sum_by, refl, sym, ◌∙◌, ap, arith}
use Rattle.std.specs.Prelude.{◌||◌, nat_le, ◌==◌}
use Rattle.std.specs.List.{find, list_any}
use Rattle.std.proofs.lemmas.List.{length-take, length-append, take-append-drop}
use Rattle.std.proofs.lemmas.List.Sums.{sum_by-append}
use Rattle.mufom_numbers.specs.declared.limits.TheConstants.{MOST_STRING_BYTES as longest}
use Rattle.mufom_sections.specs.declared.section.Section.{Section}
use Rattle.mufom_loads.specs.declared.load.Item.TheVariants.{Literal, Field}
use Rattle.mufom_loads.specs.declared.load.Load.{Load}
use Rattle.mufom_loads.specs.declared.load.Load.TheVariants.{SetSection, SetPc, One, Repeat}
use Rattle.mufom_module.specs.declared.module.Parts.{Parts}
use Rattle.mufom_module.specs.declared.module.Defect.{Defect}
use Rattle.mufom_module.specs.declared.module.Defect.TheVariants as d
use Rattle.mufom_module.specs.Contents.{any_item, placed_from}
use Rattle.mufom_module.specs.Defects.{has_defect, defects, is_long, is_unit_count, has_bad_alignment, lacks_base, has_bad_place, misplaces_counter}
use Rattle.mufom_module.specs.Defects.{loads_nowhere, is_long_literal, has_bad_size, counts_of, IsValid}
use Rattle.mufom_module.specs.Weights.{section_weight, load_weight, size_weight}
use Rattle.mufom_module.specs.Written.{weight}
use Rattle.mufom_module.proofs.WeightLaws.{weight-sum}
use Rattle.mufom_meaning.specs.declared.located.Run.{Run}
use Rattle.mufom_numbers.proofs.Choices.{not_le, not_lt, two_false}
use Rattle.mufom_titxt.specs.TextModules.{run_section, literals, loads_from, text_parts}

-- ---- sections

short_names : (runs : List Run) → list_any (λ (s : Section). is_long s.name) (map run_section runs) ≡ false
short_names [] = refl
short_names (run ∷ runs) = short_names runs

aligned : (runs : List Run) → list_any has_bad_alignment (map run_section runs) ≡ false
aligned [] = refl
aligned (run ∷ runs) = aligned runs

based : (runs : List Run) → list_any lacks_base (map run_section runs) ≡ false
based [] = refl
based (run ∷ runs) = based runs

count_sections : (runs : List Run) → length (map run_section runs) ≡ length runs
count_sections [] = refl
count_sections (run ∷ runs) = ap suc (count_sections runs)

-- ---- loads

-- sections below n are set, and literals are short
abbrev pub ArePlain : ℕ → List Load → Type 0
ArePlain n [] = Unit {0}
ArePlain n (SetSection section ∷ loads) = (section < n) × ArePlain n loads
ArePlain n (SetPc section value ∷ loads) = ⊥
ArePlain n (One (Literal bytes) ∷ loads) = (length bytes ≤ longest) × ArePlain n loads
ArePlain n (One (Field kind size value) ∷ loads) = ⊥
ArePlain n (Repeat count items ∷ loads) = ⊥

plain-append : (n : ℕ) (xs ys : List Load) → ArePlain n xs → ArePlain n ys → ArePlain n (xs ++ ys)
plain-append n [] ys p q = q
plain-append n (SetSection section ∷ xs) ys p q = (p.0, plain-append n xs ys p.1 q)
plain-append n (SetPc section value ∷ xs) ys p q = p
plain-append n (One (Literal bytes) ∷ xs) ys p q = (p.0, plain-append n xs ys p.1 q)
plain-append n (One (Field kind size value) ∷ xs) ys p q = p
plain-append n (Repeat count items ∷ xs) ys p q = p

-- a part has at most the length that it may have
taken_most : (n : ℕ) (xs : List ℕ) → length (take n xs) ≤ n
taken_most n xs = let e = length-take n xs in omega (arith, e)

plain-literals : (n most : ℕ) (bytes : List ℕ) → ArePlain n (literals most bytes)
plain-literals n zero [] = tt
plain-literals n (suc most) [] = tt
plain-literals n zero (b ∷ bytes) = tt
plain-literals n (suc most) (b ∷ bytes) = (taken_most longest (b ∷ bytes), plain-literals n most (drop longest (b ∷ bytes)))

plain-loads : (n section : ℕ) (runs : List Run) → section + length runs ≤ n → ArePlain n (loads_from section runs)
plain-loads n section [] few = tt
plain-loads n section (run ∷ runs) few = (
  omega (arith, few),
  plain-append n (literals (length run.bytes) run.bytes) (loads_from (section + 1) runs)
      (plain-literals n (length run.bytes) run.bytes) (plain-loads n (section + 1) runs (omega (arith, few))),
)

placed : (m : Parts) (loads : List Load) → ArePlain (length m.sections) loads → list_any (has_bad_place (counts_of m)) loads ≡ false
placed m [] p = refl
placed m (SetSection section ∷ loads) p = two_false (nat_le (length m.sections) section || false) (list_any (has_bad_place (counts_of m)) loads)
    (two_false (nat_le (length m.sections) section) false (not_le (length m.sections) section p.0) refl) (placed m loads p.1)
placed m (SetPc section value ∷ loads) p = absurd p
placed m (One (Literal bytes) ∷ loads) p = placed m loads p.1
placed m (One (Field kind size value) ∷ loads) p = absurd p
placed m (Repeat count items ∷ loads) p = absurd p

counters : (n : ℕ) (current : Option ℕ) (loads : List Load) → ArePlain n loads → list_any misplaces_counter (placed_from current loads) ≡ false
counters n current [] p = refl
counters n current (SetSection section ∷ loads) p = counters n (Some section) loads p.1
counters n current (SetPc section value ∷ loads) p = absurd p
counters n current (One (Literal bytes) ∷ loads) p = counters n current loads p.1
counters n current (One (Field kind size value) ∷ loads) p = absurd p
counters n current (Repeat count items ∷ loads) p = absurd p

somewhere : (n section : ℕ) (loads : List Load) → ArePlain n loads → list_any loads_nowhere (placed_from (Some section) loads) ≡ false
somewhere n current [] p = refl
somewhere n current (SetSection section ∷ loads) p = somewhere n section loads p.1
somewhere n current (SetPc section value ∷ loads) p = absurd p
somewhere n current (One (Literal bytes) ∷ loads) p = somewhere n current loads p.1
somewhere n current (One (Field kind size value) ∷ loads) p = absurd p
somewhere n current (Repeat count items ∷ loads) p = absurd p

begun : (n section : ℕ) (runs : List Run) → ArePlain n (loads_from section runs) → list_any loads_nowhere (placed_from None (loads_from section runs)) ≡ false
begun n section [] p = refl
begun n section (run ∷ runs) p = somewhere n section (literals (length run.bytes) run.bytes ++ loads_from (section + 1) runs) p.1

short : (n : ℕ) (loads : List Load) → ArePlain n loads → list_any (any_item is_long_literal) loads ≡ false
short n [] p = refl
short n (SetSection section ∷ loads) p = short n loads p.1
short n (SetPc section value ∷ loads) p = absurd p
short n (One (Literal bytes) ∷ loads) p = two_false (is_long bytes) (list_any (any_item is_long_literal) loads) (not_lt longest (length bytes) p.0)
    (short n loads p.1)
short n (One (Field kind size value) ∷ loads) p = absurd p
short n (Repeat count items ∷ loads) p = absurd p

sized : (n : ℕ) (loads : List Load) → ArePlain n loads → list_any (any_item has_bad_size) loads ≡ false
sized n [] p = refl
sized n (SetSection section ∷ loads) p = sized n loads p.1
sized n (SetPc section value ∷ loads) p = absurd p
sized n (One (Literal bytes) ∷ loads) p = sized n loads p.1
sized n (One (Field kind size value) ∷ loads) p = absurd p
sized n (Repeat count items ∷ loads) p = absurd p

-- ---- weight

size_most : (n : ℕ) → size_weight n ≤ 20
size_most n = by_case (n == 0) where
  by_case : (b : Bool) → cond b 0 20 ≤ 20
  by_case true = omega arith
  by_case false = omega arith

sections_weigh : (runs : List Run) → sum_by section_weight (map run_section runs) ≤ 58 * length runs
sections_weigh [] = omega arith
sections_weigh (run ∷ runs) =
    let e = sum_by-append section_weight (run_section run ∷ []) (map run_section runs) in
    let one : sum_by section_weight (run_section run ∷ []) ≤ 58 = section_most run in
    let more = sections_weigh runs in one_more_run _ _ _ (length runs) e one more where
      section_most : (run : Run) → sum_by section_weight (run_section run ∷ []) ≤ 58
      section_most run = let own = size_most (length run.bytes) in omega (arith, own)

      one_more_run : (all one more count : ℕ) → all ≡ one + more → one ≤ 58 → more ≤ 58 * count → all ≤ 58 * suc count
      one_more_run all one more count e few rest = omega (arith, e, few, rest)

-- bytes in a literal and after it
cut : (n : ℕ) (xs : List ℕ) → length (take n xs) + length (drop n xs) ≡ length xs
cut n xs = sym (length-append (take n xs) (drop n xs)) ∙ ap (length {A = ℕ}) (take-append-drop n xs)

some_taken : (n b : ℕ) (bytes : List ℕ) → 1 ≤ length (take (suc n) (b ∷ bytes))
some_taken n b bytes = omega arith

literals_weigh : (most : ℕ) (bytes : List ℕ) → sum_by load_weight (literals most bytes) ≤ 11 * length bytes
literals_weigh zero [] = omega arith
literals_weigh (suc most) [] = omega arith
literals_weigh zero (b ∷ bytes) = omega arith
literals_weigh (suc most) (b ∷ bytes) =
    let e = sum_by-append load_weight (One (Literal (take longest (b ∷ bytes))) ∷ []) (literals most (drop longest (b ∷ bytes))) in
    one_more_literal _ _ _ (length (take longest (b ∷ bytes))) (length (drop longest (b ∷ bytes))) (length (b ∷ bytes)) e
    (own (take longest (b ∷ bytes))) (literals_weigh most (drop longest (b ∷ bytes))) (cut longest (b ∷ bytes)) (some_taken 65534 b bytes) where
      own : (part : List ℕ) → sum_by load_weight (One (Literal part) ∷ []) ≡ 10 + length part
      own part = omega arith

      one_more_literal : (all one more part rest count : ℕ) → all ≡ one + more → one ≡ 10 + part → more ≤ 11 * rest → part + rest ≡ count → 1 ≤ part
          → all ≤ 11 * count
      one_more_literal all one more part rest count e same few both some = omega (arith, e, same, few, both, some)

loads_weigh : (section : ℕ) (runs : List Run)
    → sum_by load_weight (loads_from section runs) ≤ 10 * length runs + 11 * sum_by (λ (run : Run). length run.bytes) runs
loads_weigh section [] = omega arith
loads_weigh section (run ∷ runs) =
    let first = sum_by-append load_weight (SetSection section ∷ []) (literals (length run.bytes) run.bytes ++ loads_from (section + 1) runs) in
    let both = sum_by-append load_weight (literals (length run.bytes) run.bytes) (loads_from (section + 1) runs) in
    let bytes = sum_by-append (λ (r : Run). length r.bytes) (run ∷ []) runs in
    one_more_run _ _ _ _ _ (length runs) (length run.bytes) _ _ first (set section) both
    (literals_weigh (length run.bytes) run.bytes) (loads_weigh (section + 1) runs) bytes (count run) where
      set : (section : ℕ) → sum_by load_weight (SetSection section ∷ []) ≡ 10
      set section = refl

      count : (run : Run) → sum_by (λ (r : Run). length r.bytes) (run ∷ []) ≡ length run.bytes
      count run = omega arith

      one_more_run : (all one two own more runs bytes sums sum : ℕ) {sum_one : ℕ} → all ≡ one + two → one ≡ 10 → two ≡ own + more → own ≤ 11 * bytes
          → more ≤ 10 * runs + 11 * sum → sums ≡ sum_one + sum → sum_one ≡ bytes → all ≤ 10 * suc runs + 11 * sums
      one_more_run all one two own more runs bytes sums sum e a f b c g h = omega (arith, e, a, f, b, c, g, h)

-- ---- all of them

module _ (maus : ℕ) (runs : List Run) (low : 1 ≤ maus) (high : maus ≤ 8) (few : length runs ≤ 33554432)
    (bytes : sum_by (λ (run : Run). length run.bytes) runs ≤ 33554432) where
  plain : ArePlain (length (map run_section runs)) (loads_from 0 runs)
  plain = plain-loads (length (map run_section runs)) 0 runs (let same = count_sections runs in omega (arith, same))

  has_units : not (is_unit_count maus) ≡ false
  has_units = grind (arith, low, high)

  light : weight (text_parts maus runs) < 2 ^ 32
  light = bound (weight (text_parts maus runs)) _ _ (length runs) _ (whole _ _ (weight-sum (text_parts maus runs))) (sections_weigh runs)
      (loads_weigh 0 runs) few bytes where
        whole : (sections loads : ℕ) → weight (text_parts maus runs) ≡ 163 + sections + 0 + 0 + 0 + loads + 0 → weight (text_parts maus runs)
            ≡ 163 + sections + loads
        whole sections loads e = omega (arith, e)

        bound : (all sections loads count bytes : ℕ) → all ≡ 163 + sections + loads → sections ≤ 58 * count → loads ≤ 10 * count + 11 * bytes
            → count ≤ 33554432 → bytes ≤ 33554432 → all < 2 ^ 32
        bound all sections loads count bytes e a b c f = omega (arith, e, a, b, c, f)

  no_defect : (defect : Defect) → has_defect (text_parts maus runs) defect ≡ false
  no_defect d.Depth = refl
  no_defect d.LongId = two_false (list_any (λ (s : Section). is_long s.name) (map run_section runs)) _ (short_names runs) refl
  no_defect d.BadMaus = has_units
  no_defect d.BadAlign = aligned runs
  no_defect d.MissingBase = based runs
  no_defect d.Position = two_false (list_any (has_bad_place (counts_of (text_parts maus runs))) (loads_from 0 runs)) _
      (placed (text_parts maus runs) (loads_from 0 runs) plain) refl
  no_defect d.MisplacedP = counters (length (map run_section runs)) None (loads_from 0 runs) plain
  no_defect d.NoSection = begun (length (map run_section runs)) 0 runs plain
  no_defect d.LongRun = short (length (map run_section runs)) (loads_from 0 runs) plain
  no_defect d.FieldSize = sized (length (map run_section runs)) (loads_from 0 runs) plain
  no_defect d.Attribute = refl
  no_defect d.Nesting = refl
  no_defect d.Weight = not_le (2 ^ 32) (weight (text_parts maus runs)) light

finds_nothing : (test : Defect → Bool) (xs : List Defect) → ((x : Defect) → test x ≡ false) → find test xs ≡ None
finds_nothing test [] fails = refl
finds_nothing test (x ∷ xs) fails = ap (λ b. cond b (Some x) (find test xs)) (fails x) ∙ finds_nothing test xs fails

pub text_is_valid : (maus : ℕ) (runs : List Run) → 1 ≤ maus → maus ≤ 8 → length runs ≤ 33554432
    → sum_by (λ (run : Run). length run.bytes) runs ≤ 33554432 → IsValid (text_parts maus runs)
text_is_valid maus runs low high few bytes =
    finds_nothing (has_defect (text_parts maus runs)) defects (no_defect maus runs low high few bytes)
