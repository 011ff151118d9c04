-- Keys of references against the references, and what is kept of them.
use Rattle.std.proofs.Common.{◌≡◌, ℕ, zero, suc, ◌+◌, ◌<◌, ◌≤◌, get_or, List, [], ◌∷◌, ◌++◌, length, map, filter, Option, Some, None, is_none, Bool}
use Rattle.std.proofs.Common.{true, false, not, cond, ◌||◌, ◌&&◌, if◌then◌else◌, refl, sym, ap, ◌∙◌, append_assoc, append-nil, zero-add}
use Rattle.std.proofs.Common.{length-append, arith}
use Rattle.std.specs.List.{AllByRecursion, list_any}
use Rattle.std.specs.Str.{bytes_eq}
use Rattle.std.proofs.lemmas.List.{map-append, length-map}
use Rattle.std.proofs.lemmas.Slice.Eq.{bytes_eq-Decides}
use Rattle.mufom_expr.specs.declared.token.Letter.{Letter}
use Rattle.mufom_expr.specs.declared.token.Letter.TheVariants as letters
use Rattle.mufom_names.specs.declared.name.Note.{Note}
use Rattle.mufom_names.specs.declared.name.Reference.{Reference}
use Rattle.mufom_names.specs.Index.{position_of, with_entry, numbered_from}
use Rattle.mufom_names.specs.Keys.{reference_key, AreSameNotes, IsSameReference, IsShortReference}
use Rattle.mufom_names.proofs.KeyLaws.{keys-tell}
use Rattle.mufom_names.proofs.PositionLaws.{numbered-push}
use Rattle.mufom_plan.specs.Names.{has_name}
use Rattle.mufom_meaning.specs.Flat.{distinct}
use Rattle.mufom_meaning.specs.Joined.{position_of as place_of, same_reference}
use Rattle.mufom_meaning.proofs.Distinct.{filter-weaker, differs}
use Rattle.mufom_meaning.proofs.References.{same_reference-decides}
use Rattle.mufom_link.specs.References.{is_kept, merged_with, kept_with, kept_after, target_in, targets_after, keyed}
use Rattle.mufom_link.proofs.PublicsLaws.{decides-same, place-turned, position-numbered}

-- ---- keys

notes-same : (ms ns : List Note) → AreSameNotes ms ns → ms ≡ ns
notes-same [] [] s = refl
notes-same [] (n ∷ ns) s = absurd s
notes-same (m ∷ ms) [] s = absurd s
notes-same (m ∷ ms) (n ∷ ns) s =
    let a = s.0.type_index in
    let b = s.0.attribute in
    let c = s.0.numbers in
    let rest = notes-same ms ns s.1 in
    λ i. record { type_index = a i; attribute = b i; numbers = record { items = c i } } ∷ rest i

references-same : (r q : Reference) → IsSameReference r q → r ≡ q
references-same r q s =
    let a = s.name in
    let b = s.weak in
    let c = notes-same r.notes q.notes s.notes in
    λ i. record { name = a i; weak = b i; notes = c i }

-- equal keys are equal references
key-same : (r q : Reference) → IsShortReference r → IsShortReference q → bytes_eq (reference_key r) (reference_key q) ≡ same_reference r q
key-same r q short-r short-q =
    decides-same (bytes_eq (reference_key r) (reference_key q)) (same_reference r q) (bytes_eq-Decides (reference_key r) (reference_key q))
    (same_reference-decides r q)
    (λ e. references-same r q ((keys-tell r q short-r short-q).0 e)) (λ e. ap reference_key e)

key-kept : (r : Reference) → IsShortReference r → (kept : List Reference) → AllByRecursion IsShortReference kept
    → has_name (map reference_key kept) (reference_key r) ≡ is_kept kept r
key-kept r short [] all = refl
key-kept r short (q ∷ kept) all = let a = key-same r q short all.0 in let b = key-kept r short kept all.1 in λ i. a i || b i

key-place : (r : Reference) → IsShortReference r → (kept : List Reference) → AllByRecursion IsShortReference kept
    → place_of (bytes_eq (reference_key r)) (map reference_key kept) ≡ place_of (same_reference r) kept
key-place r short [] all = refl
key-place r short (q ∷ kept) all = let a = key-same r q short all.0 in let b = key-place r short kept all.1 in λ i. if a i then 0 else suc (b i)

position-keyed : (r : Reference) (kept : List Reference) → IsShortReference r → AllByRecursion IsShortReference kept
    → position_of (keyed kept) (reference_key r) ≡ (if is_kept kept r then Some (place_of (same_reference r) kept) else None)
position-keyed r kept short all =
    position-numbered 0 (map reference_key kept) (reference_key r)
    ∙ ap (λ k. if has_name (map reference_key kept) (reference_key r) then Some k
    else None) (zero-add (place_of (bytes_eq (reference_key r)) (map reference_key kept)) ∙ key-place r short kept all)
    ∙ ap (λ b. if b then Some (place_of (same_reference r) kept) else None) (key-kept r short kept all)

keyed-push : (kept : List Reference) (r : Reference) → keyed (kept ++ r ∷ []) ≡ keyed kept ++ (reference_key r, length kept) ∷ []
keyed-push kept r =
    ap (numbered_from 0) (map-append reference_key kept (r ∷ []))
    ∙ numbered-push 0 (map reference_key kept) (reference_key r)
    ∙ ap (λ k. keyed kept ++ (reference_key r, k) ∷ []) (zero-add (length (map reference_key kept)) ∙ length-map kept reference_key)

-- ---- one reference more

absent-place : {A : Type 0} (test : A → Bool) (xs : List A) → list_any test xs ≡ false → place_of test xs ≡ length xs
absent-place test [] e = refl
absent-place test (x ∷ xs) e = by_case (test x) e (absent-place test xs) where
  by_case : (b : Bool) → (b || list_any test xs) ≡ false → (list_any test xs ≡ false → place_of test xs ≡ length xs)
      → cond b 0 (suc (place_of test xs)) ≡ length (x ∷ xs)
  by_case true h rest = absurd cc
  by_case false h rest = let r = rest h in omega (arith, r)

module _ (r : Reference) (kept : List Reference) (short : IsShortReference r) (all : AllByRecursion IsShortReference kept) where
  abbrev its : ℕ
  its = place_of (same_reference r) kept

  -- an equal reference is kept already
  pub merge-found : (p n : ℕ) → position_of (keyed kept) (reference_key r) ≡ Some p
      → (p ≡ its) × (merged_with kept r ≡ kept) × (with_entry (keyed kept) (reference_key r) n ≡ keyed kept)
  merge-found p n e = by_case (is_kept kept r) (sym (position-keyed r kept short all) ∙ e) where
    unchanged : with_entry (keyed kept) (reference_key r) n ≡ keyed kept
    unchanged = ap (λ (o : Option ℕ). if is_none o then keyed kept ++ (reference_key r, n) ∷ [] else keyed kept) e

    by_case : (b : Bool) → (if b then Some its else None) ≡ Some p → (p ≡ its) × ((if b then kept else kept ++ r ∷ []) ≡ kept)
        × (with_entry (keyed kept) (reference_key r) n ≡ keyed kept)
    by_case true h = let same : its ≡ p = cc in (sym same, refl, unchanged)
    by_case false h = absurd cc

  -- none is
  pub merge-new : position_of (keyed kept) (reference_key r) ≡ None
      → (length kept ≡ its) × (merged_with kept r ≡ kept ++ r ∷ []) × (with_entry (keyed kept) (reference_key r) (length kept) ≡ keyed (kept ++ r ∷ []))
  merge-new e = by_case (is_kept kept r) refl (sym (position-keyed r kept short all) ∙ e) where
    longer : with_entry (keyed kept) (reference_key r) (length kept) ≡ keyed (kept ++ r ∷ [])
    longer = ap (λ (o : Option ℕ). if is_none o then keyed kept ++ (reference_key r, length kept) ∷ [] else keyed kept) e ∙ sym (keyed-push kept r)

    by_case : (b : Bool) → is_kept kept r ≡ b → (if b then Some its else None) ≡ None
        → (length kept ≡ its) × ((if b then kept else kept ++ r ∷ []) ≡ kept ++ r ∷ [])
        × (with_entry (keyed kept) (reference_key r) (length kept) ≡ keyed (kept ++ r ∷ []))
    by_case true f h = absurd cc
    by_case false f h = (sym (absent-place (same_reference r) kept f), refl, longer)

-- ---- what is kept in the end

any-append : {A : Type 0} (test : A → Bool) (xs ys : List A) → list_any test (xs ++ ys) ≡ (list_any test xs || list_any test ys)
any-append test [] ys = refl
any-append test (x ∷ xs) ys = by_case (test x) (any-append test xs ys) where
  by_case : (b : Bool) → list_any test (xs ++ ys) ≡ (list_any test xs || list_any test ys) → (b || list_any test (xs ++ ys))
      ≡ ((b || list_any test xs) || list_any test ys)
  by_case true rest = refl
  by_case false rest = rest

filter-two : {A : Type 0} (p q both : A → Bool) → ((x : A) → both x ≡ (q x && p x)) → (xs : List A) → filter p (filter q xs) ≡ filter both xs
filter-two p q both same [] = refl
filter-two p q both same (x ∷ xs) = by_case (q x) (p x) refl (same x) (filter-two p q both same xs) where
  by_case : (a b : Bool) → p x ≡ b → both x ≡ (a && b) → filter p (filter q xs) ≡ filter both xs
      → filter p (cond a (x ∷ filter q xs) (filter q xs)) ≡ cond (both x) (x ∷ filter both xs) (filter both xs)
  by_case true b e f rest = ap (λ c. cond c (x ∷ filter p (filter q xs)) (filter p (filter q xs))) (e ∙ sym f) ∙ ap (λ more. cond (both x) (x ∷ more) more) rest
  by_case false b e f rest = rest ∙ sym (ap (λ c. cond c (x ∷ filter both xs) (filter both xs)) f)

filter-all : {A : Type 0} (xs : List A) → filter (λ x. true) xs ≡ xs
filter-all [] = refl
filter-all (x ∷ xs) = ap (λ more. x ∷ more) (filter-all xs)

module _ (names : List (List ℕ)) where
  abbrev unresolved : Reference → Bool
  unresolved r = not (has_name names r.name)

  abbrev new_for : List Reference → Reference → Bool
  new_for kept q = not (is_kept kept q)

  -- new for a list with one more is new for the list, and another one
  new-push : (kept : List Reference) (r q : Reference) → new_for (kept ++ r ∷ []) q ≡ (not (same_reference r q) && new_for kept q)
  new-push kept r q =
      ap not (any-append (same_reference q) kept (r ∷ []) ∙ ap (λ b. is_kept kept q || (b || false)) turned)
      ∙ by_cases (is_kept kept q) (same_reference r q) where
        turned : same_reference q r ≡ same_reference r q
        turned = decides-same (same_reference q r) (same_reference r q) (same_reference-decides q r) (same_reference-decides r q) (λ e. sym e) (λ e. sym e)

        by_cases : (a b : Bool) → not (a || (b || false)) ≡ (not b && not a)
        by_cases true true = refl
        by_cases true false = refl
        by_cases false true = refl
        by_cases false false = refl

  -- kept are, in order, the references that no public meets and no earlier one equals
  kept-is : (kept rs : List Reference) → kept_after names kept rs ≡ kept ++ filter (new_for kept) (distinct same_reference (filter unresolved rs))
  kept-is kept [] = sym (append-nil kept)
  kept-is kept (r ∷ rs) = by_case (has_name names r.name) (is_kept kept r) refl (kept-is kept rs) (kept-is (kept ++ r ∷ []) rs) where
    others : List Reference
    others = distinct same_reference (filter unresolved rs)

    by_case : (b c : Bool) → is_kept kept r ≡ c
        → kept_after names kept rs ≡ kept ++ filter (new_for kept) (distinct same_reference (filter unresolved rs))
        → kept_after names (kept ++ r ∷ []) rs ≡ (kept ++ r ∷ []) ++ filter (new_for (kept ++ r ∷ [])) (distinct same_reference (filter unresolved rs))
        → kept_after names (if b then kept else (if c then kept else kept ++ r ∷ [])) rs
        ≡ kept ++ filter (new_for kept) (distinct same_reference (cond (not b) (r ∷ filter unresolved rs) (filter unresolved rs)))
    by_case true c e old more = old
    by_case false true e old more =
        let rest = distinct same_reference (filter unresolved rs) in
        old
        ∙ ap (λ all. kept ++ all) (sym (filter-weaker (new_for kept) (λ q. not (same_reference r q))
        (differs same_reference same_reference-decides (new_for kept) r (ap not e)) rest))
        ∙ sym (ap (λ b. kept ++ cond (not b) (r ∷ filter (new_for kept) (filter (λ q. not (same_reference r q)) rest))
        (filter (new_for kept) (filter (λ q. not (same_reference r q)) rest))) e)
    by_case false false e old more =
        let rest = distinct same_reference (filter unresolved rs) in
        more
        ∙ append_assoc kept (r ∷ []) (filter (new_for (kept ++ r ∷ [])) rest)
        ∙ ap (λ all. kept ++ r ∷ all) (sym (filter-two (new_for kept) (λ q. not (same_reference r q)) (new_for (kept ++ r ∷ [])) (new-push kept r) rest))
        ∙ sym (ap (λ b. kept ++ cond (not b) (r ∷ filter (new_for kept) (filter (λ q. not (same_reference r q)) rest))
        (filter (new_for kept) (filter (λ q. not (same_reference r q)) rest))) e)

  pub kept-all : (rs : List Reference) → kept_after names [] rs ≡ distinct same_reference (filter unresolved rs)
  kept-all rs = kept-is [] rs ∙ filter-all (distinct same_reference (filter unresolved rs))

  -- ---- one reference, by what the index of publics answers

  -- a public has its name
  pub target-met : (kept : List Reference) (r : Reference) (p : ℕ) → position_of (numbered_from 0 names) r.name ≡ Some p
      → (◌≡◌ {A = Letter × ℕ} (letters.I, p) (target_in names kept r)) × (kept ≡ kept_with names kept r)
  target-met kept r p e = by_case (has_name names r.name) (sym (position-numbered 0 names r.name) ∙ e) where
    by_case : (b : Bool) → (if b then Some (0 + place_of (bytes_eq r.name) names) else None) ≡ Some p
        → (◌≡◌ {A = Letter × ℕ} (letters.I, p) (cond b (letters.I, place_of (λ name. bytes_eq name r.name) names) (
          letters.X,
          place_of (same_reference r) kept,
        ))) × (kept ≡ cond b kept (merged_with kept r))
    by_case true h =
        let same : 0 + place_of (bytes_eq r.name) names ≡ p = cc in
        (ap (λ (k : ℕ). (letters.I, k)) (sym same ∙ zero-add (place_of (bytes_eq r.name) names) ∙ place-turned r.name names), refl)
    by_case false h = absurd cc

  -- none has
  pub target-unresolved : (kept : List Reference) (r : Reference) → position_of (numbered_from 0 names) r.name ≡ None
      → (◌≡◌ {A = Letter × ℕ} (letters.X, place_of (same_reference r) kept) (target_in names kept r)) × (merged_with kept r ≡ kept_with names kept r)
  target-unresolved kept r e = by_case (has_name names r.name) (sym (position-numbered 0 names r.name) ∙ e) where
    by_case : (b : Bool) → (if b then Some (0 + place_of (bytes_eq r.name) names) else None) ≡ None
        → (◌≡◌ {A = Letter × ℕ} (letters.X, place_of (same_reference r) kept)
        (cond b (letters.I, place_of (λ name. bytes_eq name r.name) names) (letters.X, place_of (same_reference r) kept)))
        × (merged_with kept r ≡ cond b kept (merged_with kept r))
    by_case true h = absurd cc
    by_case false h = (refl, refl)

  -- ---- one part after another

  pub kept_after-append : (kept rs qs : List Reference) → kept_after names kept (rs ++ qs) ≡ kept_after names (kept_after names kept rs) qs
  kept_after-append kept [] qs = refl
  kept_after-append kept (r ∷ rs) qs = kept_after-append (kept_with names kept r) rs qs

  -- what is kept stays in its place
  pub record Extends (xs ys : List Reference) : Type 0 where
    pub more : List Reference
    pub is : ys ≡ xs ++ more

  one-extends : (kept : List Reference) (r : Reference) → Extends kept (kept_with names kept r)
  one-extends kept r = by_case (has_name names r.name) (is_kept kept r) where
    by_case : (b c : Bool) → Extends kept (if b then kept else (if c then kept else kept ++ r ∷ []))
    by_case true c = record { more = []; is = sym (append-nil kept) }
    by_case false true = record { more = []; is = sym (append-nil kept) }
    by_case false false = record { more = r ∷ []; is = refl }

  kept-extends : (kept rs : List Reference) → Extends kept (kept_after names kept rs)
  kept-extends kept [] = record { more = []; is = sym (append-nil kept) }
  kept-extends kept (r ∷ rs) =
      let one = one-extends kept r in
      let rest = kept-extends (kept_with names kept r) rs in
      record {
        more = one.more ++ rest.more;
        is = rest.is ∙ ap (λ xs. xs ++ rest.more) one.is ∙ append_assoc kept one.more rest.more;
      }

  -- a place that is found in a part is the same in the whole
  found-stays : {A : Type 0} (test : A → Bool) (xs ys : List A) → list_any test xs ≡ true → place_of test (xs ++ ys) ≡ place_of test xs
  found-stays test [] ys e = absurd cc
  found-stays test (x ∷ xs) ys e = by_case (test x) e (found-stays test xs ys) where
    by_case : (b : Bool) → (b || list_any test xs) ≡ true → (list_any test xs ≡ true → place_of test (xs ++ ys) ≡ place_of test xs)
        → cond b 0 (suc (place_of test (xs ++ ys))) ≡ cond b 0 (suc (place_of test xs))
    by_case true h rest = refl
    by_case false h rest = ap suc (rest h)

  -- a reference whose name no public has is found where it was put
  merged-place : (kept : List Reference) (r : Reference)
      → (is_kept (merged_with kept r) r ≡ true) × (place_of (same_reference r) (merged_with kept r) ≡ place_of (same_reference r) kept)
  merged-place kept r = by_case (is_kept kept r) refl where
    itself : same_reference r r ≡ true
    itself = (same_reference-decides r r).1 refl

    last : (xs : List Reference) → list_any (same_reference r) xs ≡ false
        → (list_any (same_reference r) (xs ++ r ∷ []) ≡ true) × (place_of (same_reference r) (xs ++ r ∷ []) ≡ length xs)
    last [] e = (ap (λ b. b || false) itself, ap (λ b. cond b 0 1) itself)
    last (x ∷ xs) e = step (same_reference r x) e (last xs) where
      step : (b : Bool) → (b || list_any (same_reference r) xs) ≡ false
          → (list_any (same_reference r) xs ≡ false → (list_any (same_reference r) (xs ++ r ∷ []) ≡ true)
          × (place_of (same_reference r) (xs ++ r ∷ []) ≡ length xs))
          → ((b || list_any (same_reference r) (xs ++ r ∷ [])) ≡ true) × (cond b 0 (suc (place_of (same_reference r) (xs ++ r ∷ []))) ≡ length (x ∷ xs))
      step true h rest = absurd cc
      step false h rest = let both = rest h in let e = both.1 in (both.0, omega (arith, e))

    by_case : (b : Bool) → is_kept kept r ≡ b
        → (is_kept (if b then kept else kept ++ r ∷ []) r ≡ true)
        × (place_of (same_reference r) (if b then kept else kept ++ r ∷ []) ≡ place_of (same_reference r) kept)
    by_case true e = (e, refl)
    by_case false e = let both = last kept e in (both.0, both.1 ∙ sym (absent-place (same_reference r) kept e))

  -- the variable that replaces a reference; the test is whether a public has its name
  abbrev target_by : Bool → Reference → List Reference → Letter × ℕ
  target_by b r all = cond b (letters.I, place_of (λ name. bytes_eq name r.name) names) (letters.X, place_of (same_reference r) all)

  target-stays : (kept : List Reference) (r : Reference) (rs : List Reference) → target_in names kept r
      ≡ target_in names (kept_after names (kept_with names kept r) rs) r
  target-stays kept r rs = by_case (has_name names r.name) (kept-extends (kept_with names kept r) rs) refl where
    by_case : (b : Bool) → Extends (kept_with names kept r) (kept_after names (kept_with names kept r) rs) → has_name names r.name ≡ b
        → target_by b r kept ≡ target_by b r (kept_after names (kept_with names kept r) rs)
    by_case true longer e = refl
    by_case false longer e =
        let merged = merged-place kept r in
        let more = longer.more in
        let with_it : kept_with names kept r ≡ merged_with kept r = ap (λ c. if c then kept else merged_with kept r) e in
        let all : kept_after names (kept_with names kept r) rs ≡ merged_with kept r ++ more = longer.is ∙ ap (λ xs. xs ++ more) with_it in
        ap (λ (k : ℕ). (letters.X, k)) (sym merged.1 ∙ sym (found-stays (same_reference r) (merged_with kept r) more merged.0))
        ∙ ap (target_by false r) (sym all)

  -- each reference becomes what it becomes by all that is kept in the end
  pub targets-stay : (kept rs more : List Reference) → targets_after names kept rs ≡ map (target_in names (kept_after names kept (rs ++ more))) rs
  targets-stay kept [] more = refl
  targets-stay kept (r ∷ rs) more =
      let first = target-stays kept r (rs ++ more) in
      let rest = targets-stay (kept_with names kept r) rs more in
      λ i. first i ∷ rest i

  -- no more are kept than there were
  pub one-longer : (kept : List Reference) (r : Reference) → length (kept_with names kept r) ≤ length kept + 1
  one-longer kept r = by_case (has_name names r.name) (is_kept kept r) where
    by_case : (b c : Bool) → length (if b then kept else (if c then kept else kept ++ r ∷ [])) ≤ length kept + 1
    by_case true c = omega arith
    by_case false true = omega arith
    by_case false false = let e = length-append kept (r ∷ []) in omega (arith, e)

  pub kept-longer : (kept rs : List Reference) → length (kept_after names kept rs) ≤ length kept + length rs
  kept-longer kept [] = omega arith
  kept-longer kept (r ∷ rs) = let a = one-longer kept r in let b = kept-longer (kept_with names kept r) rs in omega (arith, a, b)

  -- what all references have, all kept ones have
  module _ (P : Reference → Type 0) where
    all-push : (xs : List Reference) (r : Reference) → AllByRecursion P xs → P r → AllByRecursion P (xs ++ r ∷ [])
    all-push [] r a p = (p, tt)
    all-push (x ∷ xs) r a p = (a.0, all-push xs r a.1 p)

    pub one-has : (kept : List Reference) (r : Reference) → AllByRecursion P kept → P r → AllByRecursion P (kept_with names kept r)
    one-has kept r a p = by_case (has_name names r.name) (is_kept kept r) where
      by_case : (b c : Bool) → AllByRecursion P (if b then kept else (if c then kept else kept ++ r ∷ []))
      by_case true c = a
      by_case false true = a
      by_case false false = all-push kept r a p

    pub kept-has : (kept rs : List Reference) → AllByRecursion P kept → AllByRecursion P rs → AllByRecursion P (kept_after names kept rs)
    kept-has kept [] a b = a
    kept-has kept (r ∷ rs) a b = kept-has (kept_with names kept r) rs (one-has kept r a b.0) b.1

-- what all elements have, that at a position has
pub all-get : {A : Type 0} (P : A → Type 0) (xs : List A) (i : ℕ) (d : A) → AllByRecursion P xs → i < length xs → P (get_or xs i d)
all-get P [] i d a inside = absurd (omega (arith, inside))
all-get P (x ∷ xs) zero d a inside = a.0
all-get P (x ∷ xs) (suc i) d a inside = all-get P xs i d a.1 (omega (arith, inside))
