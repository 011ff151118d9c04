-- Runs that go by address, and the part of them that lies between two addresses.
use Rattle.std.proofs.Common.{◌≡◌, ℕ, zero, suc, ◌+◌, ◌-◌, ◌≤◌, ◌<◌, List, [], ◌∷◌, ◌++◌, take, drop, length, true, false, refl, sym, ap, ◌∙◌, subst}
use Rattle.std.proofs.Common.{arith, rules, append-nil}
use Rattle.std.specs.Prelude.{nat_le, nat_lt, slice_index_or}
use Rattle.std.specs.List.{AllWithin}
use Rattle.std.specs.List.Sorted.{IsNonDecreasingBy}
use Rattle.std.proofs.lemmas.List.{drop_all, length-take, take-append-drop}
use Rattle.std.proofs.lemmas.List.Sorted.{IsNonDecreasingBy-from_all_adjacent}
use Rattle.std.proofs.lemmas.Grind.{flat_map-append}
use Rattle.mufom_meaning.specs.declared.located.Run.{Run}
use Rattle.mufom_meaning.specs.AddressMap.{AreApart}
use Rattle.mufom_meaning.specs.Runs.{run_end}
use Rattle.mufom_meaning.specs.Absolute.{run_within, loads_of_bytes, loads_between}
use Rattle.mufom_numbers.proofs.Choices.{of_not_lt}
use Rattle.mufom_located.specs.Located.{AreRuns}

-- each run ends before the next begins
adjacent : (from : ℕ) (runs : List Run) → AreApart from runs → (k : ℕ) (d : Run) → suc k < length runs
    → run_end (slice_index_or runs k d) < (slice_index_or runs (suc k) d).address
adjacent from [] h k d less = absurd (omega (arith, less))
adjacent from (x ∷ []) h k d less = absurd (omega (arith, less))
adjacent from (x ∷ y ∷ runs) h zero d less = let far = h.2.0 in omega (arith, far)
adjacent from (x ∷ y ∷ runs) h (suc k) d less = adjacent (run_end x + 1) (y ∷ runs) h.2 k d (omega (arith, less))

next_index : (k : ℕ) → suc k ≡ k + 1
next_index k = omega arith

apart_by : (runs : List Run) → AreRuns runs → (k : ℕ) (d : Run) → k + 1 < length runs
    → run_end (slice_index_or runs k d) < (slice_index_or runs (k + 1) d).address
apart_by runs h k d less = subst (λ j. run_end (slice_index_or runs k d) < (slice_index_or runs j d).address) (next_index k)
    (adjacent h.0 runs h.1 k d (omega (arith, less)))

-- so their ends rise, and their addresses
pub ends_rise : (runs : List Run) → AreRuns runs → IsNonDecreasingBy run_end runs
ends_rise runs h = IsNonDecreasingBy-from_all_adjacent run_end runs (λ k d less. let far = apart_by runs h k d less in omega (arith, far))

pub addresses_rise : (runs : List Run) → AreRuns runs → IsNonDecreasingBy (λ (run : Run). run.address) runs
addresses_rise runs h = IsNonDecreasingBy-from_all_adjacent (λ (run : Run). run.address) runs (λ k d less. let far = apart_by runs h k d less in
    omega (arith, far))

-- the runs from one on
pub runs-drop : (runs : List Run) (i : ℕ) → AreRuns runs → AreRuns (drop i runs)
runs-drop runs zero h = h
runs-drop [] (suc i) h = h
runs-drop (run ∷ runs) (suc i) h = runs-drop runs i (run_end run + 1, h.1.2)

-- ---- runs without a byte between the addresses

module _ (section from to : ℕ) where
  none_of : (run : Run) → (run_within from to run).bytes ≡ [] → loads_of_bytes section (run_within from to run) (run_within from to run).bytes ≡ []
  none_of run e = ap (loads_of_bytes section (run_within from to run)) e

  ends_before : (run : Run) → run_end run ≤ from → (run_within from to run).bytes ≡ []
  ends_before run past =
      let short = length-take (to - run.address) run.bytes in
      drop_all (from - run.address) (take (to - run.address) run.bytes) (omega (arith, past, short))

  begins_after : (run : Run) → to ≤ run.address → (run_within from to run).bytes ≡ []
  begins_after run past =
      let none : to - run.address ≡ 0 = omega (arith, past) in
      drop_all (from - run.address) (take (to - run.address) run.bytes) (rw none (omega arith))

  none_before : (runs : List Run) (i : ℕ) → AllWithin (λ (run : Run). nat_le (run_end run) from ≡ true) runs 0 i
      → loads_between section (take i runs) from to ≡ []
  none_before runs zero all = refl
  none_before [] (suc i) all = refl
  none_before (run ∷ runs) (suc i) all =
      let own : nat_le (run_end run) from ≡ true = all 0 run (omega arith) (omega arith) in
      let head = none_of run (ends_before run (search rules)) in
      let rest = none_before runs i (λ k d low less. all (suc k) d (omega arith) (omega (arith, less))) in
      (λ j. head j ++ rest j)

  none_after : (runs : List Run) (i : ℕ) → AllWithin (λ (run : Run). nat_lt run.address to ≡ false) runs i (length runs)
      → loads_between section (drop i runs) from to ≡ []
  none_after [] zero all = refl
  none_after [] (suc i) all = refl
  none_after (run ∷ runs) zero all =
      let own : nat_lt run.address to ≡ false = all 0 run (omega arith) (omega arith) in
      let head = none_of run (begins_after run (of_not_lt run.address to own)) in
      let rest = none_after runs zero (λ k d low less. all (suc k) d (omega arith) (omega (arith, less))) in
      (λ j. head j ++ rest j)
  none_after (run ∷ runs) (suc i) all = none_after runs i (λ k d low less. all (suc k) d (omega (arith, low)) (omega (arith, less)))

  split : (runs : List Run) (i : ℕ) → loads_between section runs from to ≡ loads_between section (take i runs) from to
      ++ loads_between section (drop i runs) from to
  split runs i = ap (λ all. loads_between section all from to) (sym (take-append-drop i runs)) ∙ flat_map-append _ (take i runs) (drop i runs)

  pub from_first : (runs : List Run) (i : ℕ) → AllWithin (λ (run : Run). nat_le (run_end run) from ≡ true) runs 0 i
      → loads_between section runs from to ≡ loads_between section (drop i runs) from to
  from_first runs i all = split runs i ∙ ap (λ none. none ++ loads_between section (drop i runs) from to) (none_before runs i all)

  pub up_to_last : (runs : List Run) (i : ℕ) → AllWithin (λ (run : Run). nat_lt run.address to ≡ false) runs i (length runs)
      → loads_between section runs from to ≡ loads_between section (take i runs) from to
  up_to_last runs i all = split runs i ∙ ap (λ none. loads_between section (take i runs) from to ++ none) (none_after runs i all) ∙ append-nil _
