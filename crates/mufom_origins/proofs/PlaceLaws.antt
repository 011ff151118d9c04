-- Where an entry is, by the ends of the lists.
use Rattle.std.proofs.Common.{◌≡◌, ℕ, zero, suc, ◌+◌, ◌-◌, ◌<◌, ◌≤◌, ◌≢◌, List, [], ◌∷◌, ◌++◌, length, map, get_or, Option, Some, None, Bool, true}
use Rattle.std.proofs.Common.{false, refl, sym, ap, subst, ◌∙◌, arith, nat_lt, if◌then◌else◌}
use Rattle.std.proofs.lemmas.Bool.Decides.{nat_tests}
use Rattle.std.proofs.lemmas.List.Sorted.{IsNonDecreasingBy-from_all_adjacent}
use Rattle.std.proofs.lemmas.List.{map-append}
use Rattle.std.specs.List.Sorted.{IsNonDecreasing}
use Rattle.mufom_origins.specs.declared.origins.Place.{Place}
use Rattle.mufom_origins.specs.Places.{HasEnded, capped, ends_from, entries_before, most_counted, place_from, place_in}

-- the code's ends
abbrev pub ends_after : ℕ → List ℕ → List ℕ
ends_after before counts = map capped (ends_from before counts)

-- ---- ends rise

adjacent : (before : ℕ) (counts : List ℕ) (k d : ℕ) → k + 1 < length (ends_after before counts)
    → get_or (ends_after before counts) k d ≤ get_or (ends_after before counts) (k + 1) d
adjacent before [] k d inside = absurd (omega arith)
adjacent before (count ∷ []) k d inside = absurd (omega arith)
adjacent before (count ∷ (next ∷ counts)) zero d inside = omega arith
adjacent before (count ∷ (next ∷ counts)) (suc k) d inside =
    let ends = ends_after before (count ∷ (next ∷ counts)) in
    let P : ℕ → Type 0 = λ j. get_or ends (suc k) d ≤ get_or ends j d in
    let same : suc (k + 1) ≡ suc k + 1 = omega arith in
    subst P same (adjacent (before + count) (next ∷ counts) k d (omega arith))

pub ends-rise : (before : ℕ) (counts : List ℕ) → IsNonDecreasing (ends_after before counts)
ends-rise before counts = IsNonDecreasingBy-from_all_adjacent (λ (e : ℕ). e) (ends_after before counts) (λ k d inside. adjacent before counts k d inside)

pub rises : (ends counts : List ℕ) → ends ≡ ends_after 0 counts → IsNonDecreasing ends
rises ends counts is = let P : List ℕ → Type 0 = λ all. IsNonDecreasing all in subst P (sym is) (ends-rise 0 counts)

pub length-ends : (before : ℕ) (counts : List ℕ) → length (ends_after before counts) ≡ length counts
length-ends before [] = refl
length-ends before (count ∷ counts) = ap suc (length-ends (before + count) counts)

-- ---- the place

pub before-index : (before : ℕ) (ends : List ℕ) (k : ℕ) → k < length ends → entries_before before ends (suc k) ≡ get_or ends k 0
before-index before [] k inside = absurd (omega arith)
before-index before (e ∷ ends) zero inside = refl
before-index before (e ∷ ends) (suc k) inside = before-index e ends k (omega arith)

tail : (e : ℕ) (ends : List ℕ) (number k : ℕ) → HasEnded (e ∷ ends) number (suc k) → HasEnded ends number k
tail e ends number k h = record {
  within = omega (arith, h.within);
  at_most = λ i less. h.at_most (suc i) (omega arith);
  greater = λ i more inside. h.greater (suc i) (omega arith) (omega arith);
}

-- in the first list
here : (position before count number : ℕ) (rest : Option Place) → before ≤ number → number < before + count
    → (if nat_lt (number - before) count then Some (record { «module» = position; entry = number - before }) else rest) ≡ Some
    (record { «module» = position + 0; entry = number - before })
here position before count number rest past less =
    let test : nat_lt (number - before) count ≡ true = grind (arith, nat_tests) in
    ap (λ (b : Bool). let at : Place = record { «module» = position; entry = number - before } in if b then Some at else rest) test
    ∙ ap (λ (p : ℕ). let at : Place = record { «module» = p; entry = number - before } in Some at) (omega arith)

-- after the first list
later : (position before count number : ℕ) (rest : ℕ → Option Place) → before + count ≤ number
    → (if nat_lt (number - before) count then Some (record { «module» = position; entry = number - before }) else rest
    (number - before - count)) ≡ rest (number - (before + count))
later position before count number rest past =
    let test : nat_lt (number - before) count ≡ false = grind (arith, nat_tests) in
    ap (λ (b : Bool). let at : Place = record { «module» = position; entry = number - before } in if b then Some at else rest (number - before - count)) test
    ∙ ap rest (omega arith)

pub place-some : (counts : List ℕ) (position before number k : ℕ) → number < most_counted → before ≤ number
    → HasEnded (ends_after before counts) number k → k < length counts
    → place_from position counts (number - before) ≡ Some (record {
      «module» = position + k;
      entry = number - entries_before before
          (ends_after before counts) k;
    })
place-some [] position before number k small past h inside = absurd (omega arith)
place-some (count ∷ counts) position before number zero small past h inside =
    let first : number < capped (before + count) = h.greater 0 (omega arith) (omega arith) in
    here position before count number (place_from (suc position) counts (number - before - count)) past (omega (arith, first, past))
place-some (count ∷ counts) position before number (suc k) small past h inside =
    let ended : capped (before + count) ≤ number = h.at_most 0 (omega arith) in
    let whole : before + count ≡ capped (before + count) = omega (arith, ended, small) in
    later position before count number (place_from (suc position) counts) (omega (arith, ended, small))
    ∙ place-some counts (suc position) (before + count) number k small (omega (arith, ended, small)) (tail (capped (before + count)) (ends_after
    (before + count) counts) number k h) (omega (arith, inside))
    ∙ ap (λ (p : ℕ). let at : Place = record {
      «module» = p;
      entry = number - entries_before (before + count) (ends_after
          (before + count) counts) k;
    } in Some at) (omega arith)
    ∙ ap (λ (b : ℕ). let at : Place = record {
      «module» = position + suc k;
      entry = number - entries_before b (ends_after
          (before + count) counts) k;
    } in Some at) whole

pub place-none : (counts : List ℕ) (position before number k : ℕ) → number < most_counted → before ≤ number
    → HasEnded (ends_after before counts) number k → k ≡ length counts
    → place_from position counts (number - before) ≡ None
place-none [] position before number k small past h all = refl
place-none (count ∷ counts) position before number zero small past h all = absurd (omega arith)
place-none (count ∷ counts) position before number (suc k) small past h all =
    let ended : capped (before + count) ≤ number = h.at_most 0 (omega arith) in
    later position before count number (place_from (suc position) counts) (omega (arith, ended, small))
    ∙ place-none counts (suc position) (before + count) number k small (omega (arith, ended, small)) (tail (capped (before + count)) (ends_after
    (before + count) counts) number k h)
    (omega (arith, all))

pub before-at_most : (ends : List ℕ) (before number k : ℕ) → before ≤ number → HasEnded ends number k → entries_before before ends k ≤ number
before-at_most ends before number zero past h = past
before-at_most [] before number (suc k) past h = past
before-at_most (e ∷ ends) before number (suc k) past h = before-at_most ends e number k (h.at_most 0 (omega arith)) (tail e ends number k h)

-- as the code reads it
pub before-at : (ends : List ℕ) (position : ℕ) → position ≢ 0 → position < length ends → get_or ends (position - 1) 0 ≡ entries_before 0 ends position
before-at ends zero some inside = absurd (some refl)
before-at ends (suc k) some inside = ap (λ (i : ℕ). get_or ends i 0) (omega arith) ∙ sym (before-index 0 ends k (omega arith))

pub place-found : (ends counts : List ℕ) (number position before : ℕ) → number < most_counted → ends ≡ ends_after 0 counts
    → HasEnded ends number position → position < length ends
    → before ≡ entries_before 0 ends position → Some (record { «module» = position; entry = number - before }) ≡ place_in counts number
place-found ends counts number position before small is h inside at =
    let P : List ℕ → Type 0 = λ some. HasEnded some number position in
    let size = ap length is ∙ length-ends 0 counts in
    sym (
    ap (λ (n : ℕ). place_from 0 counts n) (omega arith)
    ∙ place-some counts 0 0 number position small (omega arith) (subst P is h) (omega (arith, size, inside))
    ∙ ap (λ (p : ℕ). let found : Place = record { «module» = p; entry = number - entries_before 0 (ends_after 0 counts) position } in Some found)
    (omega arith)
    ∙ ap (λ (all : List ℕ). let found : Place = record { «module» = position; entry = number - entries_before 0 all position } in Some found) (sym is)
    ∙ ap (λ (b : ℕ). let found : Place = record { «module» = position; entry = number - b } in Some found) (sym at))

pub place-past : (ends counts : List ℕ) (number position : ℕ) → number < most_counted → ends ≡ ends_after 0 counts → HasEnded ends number position
    → length ends ≤ position
    → None ≡ place_in counts number
place-past ends counts number position small is h past =
    let P : List ℕ → Type 0 = λ some. HasEnded some number position in
    let size = ap length is ∙ length-ends 0 counts in
    sym (
    ap (λ (n : ℕ). place_from 0 counts n) (omega arith)
    ∙ place-none counts 0 0 number position small (omega arith) (subst P is h) (omega (arith, size, past, h.within)))

-- ---- one list more

-- how many entries the lists have together
abbrev pub total : List ℕ → ℕ
total [] = 0
total (count ∷ counts) = count + total counts

ends-push : (before : ℕ) (counts : List ℕ) (count : ℕ) → ends_from before (counts ++ count
    ∷ []) ≡ ends_from before counts ++ (before + total counts + count) ∷ []
ends-push before [] count = ap (λ (n : ℕ). n ∷ []) (omega arith)
ends-push before (first ∷ counts) count =
    ap (λ ends. (before + first) ∷ ends) (ends-push (before + first) counts count ∙ ap (λ (n : ℕ). ends_from (before + first) counts ++ n ∷ []) (omega arith))

total-push : (counts : List ℕ) (count : ℕ) → total (counts ++ count ∷ []) ≡ total counts + count
total-push [] count = omega arith
total-push (first ∷ counts) count = let rest = total-push counts count in omega (arith, rest)

-- the code's total and ends, after one more list
pub capped-total : (counts : List ℕ) (count before after : ℕ) → before ≡ capped (total counts) → after ≡ capped (before + count)
    → after ≡ capped (total (counts ++ count ∷ []))
capped-total counts count before after was is = let whole = total-push counts count in omega (arith, was, is, whole)

pub capped-ends : (counts : List ℕ) (count before after : ℕ) → before ≡ capped (total counts) → after ≡ capped (before + count)
    → ends_after 0 counts ++ after ∷ [] ≡ ends_after 0 (counts ++ count ∷ [])
capped-ends counts count before after was is =
    ap (λ (n : ℕ). ends_after 0 counts ++ n ∷ []) (let same : after ≡ capped (0 + total counts + count) = omega (arith, was, is) in same)
    ∙ sym (ap (map capped) (ends-push 0 counts count) ∙ map-append capped (ends_from 0 counts) ((0 + total counts + count) ∷ []))
