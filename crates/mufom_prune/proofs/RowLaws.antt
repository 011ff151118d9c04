-- Tests by which the worked examples show that marks are the least closed set.
use Rattle.std.proofs.Common.{◌≡◌, ℕ, zero, suc, ◌+◌, List, [], ◌∷◌, length, get_or, slice_get, Option, Some, None, Bool, true, false, not, ◌&&◌}
use Rattle.std.proofs.Common.{◌||◌, ◌⊎◌, nat_eq, eqb-true, inl, inr, refl, sym, ap, subst, ◌∙◌, true≢false, arith}
use Rattle.std.specs.List.{list_all, list_any}
use Rattle.mufom_select.specs.Choice.{is_marked}
use Rattle.mufom_meaning.specs.Walk.{has_number}
use Rattle.mufom_meaning.proofs.Tests.{either}
use Rattle.mufom_prune.specs.Reached.{HasAll, IsClosed, IsReached}

both_true : (a b : Bool) → (a && b) ≡ true → (a ≡ true) × (b ≡ true)
both_true true b e = (refl, e)
both_true false b e = absurd (true≢false (sym e))

all_of : (has : ℕ → Bool) (ns : List ℕ) → list_all has ns ≡ true → HasAll has ns
all_of has [] e = tt
all_of has (n ∷ ns) e = let two = both_true (has n) (list_all has ns) e in (two.0, all_of has ns two.1)

one_of : (has : ℕ → Bool) (ns : List ℕ) (n : ℕ) → HasAll has ns → has_number ns n ≡ true → has n ≡ true
one_of has [] n all e = absurd (true≢false (sym e))
one_of has (k ∷ ns) n all e = by_case (either (nat_eq k n) (has_number ns n) e) (one_of has ns n all.1) where
  by_case : (nat_eq k n ≡ true) ⊎ (has_number ns n ≡ true) → (has_number ns n ≡ true → has n ≡ true) → has n ≡ true
  by_case (inl same) later = ap has (sym (eqb-true k n same)) ∙ all.0
  by_case (inr more) later = later more

-- what the marked entries need is marked, if the first of these has this number
abbrev pub is_shut : List Bool → ℕ → List (List ℕ) → Bool
is_shut marks n [] = true
is_shut marks n (ns ∷ needs) = (not (is_marked marks n) || list_all (is_marked marks) ns) && is_shut marks (suc n) needs

shut_at : (marks : List Bool) (k : ℕ) (needs : List (List ℕ)) (n : ℕ) (ns : List ℕ) → is_shut marks k needs ≡ true → is_marked marks (k + n) ≡ true
    → slice_get needs n ≡ Some ns → HasAll (is_marked marks) ns
shut_at marks k [] n ns e h at = absurd cc
shut_at marks k (x ∷ needs) zero ns e h at =
    let here : k + 0 ≡ k = omega arith in
    let same : x ≡ ns = cc in
    subst (HasAll (is_marked marks)) same (all_of (is_marked marks) x
    (by_case (is_marked marks k) (ap (is_marked marks) (sym here) ∙ h) (both_true (not (is_marked marks k) || list_all (is_marked marks) x) _ e).0)) where
      by_case : (b : Bool) → b ≡ true → (not b || list_all (is_marked marks) x) ≡ true → list_all (is_marked marks) x ≡ true
      by_case true t e = e
      by_case false t e = absurd (true≢false (sym t))
shut_at marks k (x ∷ needs) (suc n) ns e h at =
    let here : k + suc n ≡ suc k + n = omega arith in
    shut_at marks (suc k) needs n ns (both_true (not (is_marked marks k) || list_all (is_marked marks) x) _ e).1 (ap (is_marked marks) (sym here) ∙ h) at

-- each of these entries is a root, or one that was seen needs it
abbrev pub is_derived : List (List ℕ) → List ℕ → List ℕ → List ℕ → Bool
is_derived needs roots seen [] = true
is_derived needs roots seen (n ∷ ns) = (has_number roots n || list_any (λ k. has_number (get_or needs k []) n) seen) && is_derived needs roots (n ∷ seen) ns

need_of : (needs : List (List ℕ)) (roots : List ℕ) (has : ℕ → Bool) → IsClosed needs roots has → (k : ℕ) → has k ≡ true → HasAll has (get_or needs k [])
need_of needs roots has closed k h = by_case (slice_get needs k) refl where
  out : (xs : List (List ℕ)) (k : ℕ) → slice_get xs k ≡ None → get_or xs k [] ≡ []
  out [] k e = refl
  out (x ∷ xs) zero e = absurd cc
  out (x ∷ xs) (suc k) e = out xs k e

  at : (xs : List (List ℕ)) (k : ℕ) (ns : List ℕ) → slice_get xs k ≡ Some ns → get_or xs k [] ≡ ns
  at [] k ns e = absurd cc
  at (x ∷ xs) zero ns e = cc
  at (x ∷ xs) (suc k) ns e = at xs k ns e

  by_case : (o : Option (List ℕ)) → slice_get needs k ≡ o → HasAll has (get_or needs k [])
  by_case None e = subst (HasAll has) (sym (out needs k e)) tt
  by_case (Some ns) e = subst (HasAll has) (sym (at needs k ns e)) (closed.further k ns h e)

from_seen : (needs : List (List ℕ)) (roots : List ℕ) (has : ℕ → Bool) → IsClosed needs roots has → (n : ℕ) (ks : List ℕ) → HasAll has ks
    → list_any (λ k. has_number (get_or needs k []) n) ks ≡ true → has n ≡ true
from_seen needs roots has closed n [] all e = absurd (true≢false (sym e))
from_seen needs roots has closed n (k ∷ ks) all e = pick (either (has_number (get_or needs k []) n) _ e) (from_seen needs roots has closed n ks all.1) where
  pick : (has_number (get_or needs k []) n ≡ true) ⊎ (list_any (λ k. has_number (get_or needs k []) n) ks ≡ true)
      → (list_any (λ k. has_number (get_or needs k []) n) ks ≡ true → has n ≡ true) → has n ≡ true
  pick (inl its) later = one_of has (get_or needs k []) n (need_of needs roots has closed k all.0) its
  pick (inr more) later = later more

derived : (needs : List (List ℕ)) (roots : List ℕ) (has : ℕ → Bool) → IsClosed needs roots has → (seen ns : List ℕ) → HasAll has seen
    → is_derived needs roots seen ns ≡ true → HasAll has ns
derived needs roots has closed seen [] before e = tt
derived needs roots has closed seen (n ∷ ns) before e =
    let two = both_true (has_number roots n || list_any (λ k. has_number (get_or needs k []) n) seen) _ e in
    let own = by_case (either (has_number roots n) _ two.0) in
    (own, derived needs roots has closed (n ∷ seen) ns (own, before) two.1) where
      by_case : (has_number roots n ≡ true) ⊎ (list_any (λ k. has_number (get_or needs k []) n) seen ≡ true) → has n ≡ true
      by_case (inl root) = one_of has roots n closed.rooted root
      by_case (inr need) = from_seen needs roots has closed n seen before need

-- each marked entry is among these, if the first mark has this number
abbrev pub are_listed : ℕ → List Bool → List ℕ → Bool
are_listed n [] order = true
are_listed n (mark ∷ marks) order = (not mark || has_number order n) && are_listed (suc n) marks order

listed : (k : ℕ) (marks : List Bool) (order : List ℕ) (n : ℕ) → are_listed k marks order ≡ true → is_marked marks n ≡ true → has_number order (k + n) ≡ true
listed k [] order n e h = absurd (true≢false (sym h))
listed k (true ∷ marks) order zero e h = let here : k + 0 ≡ k = omega arith in ap (has_number order) here ∙ (both_true (has_number order k) _ e).0
listed k (false ∷ marks) order zero e h = absurd (true≢false (sym h))
listed k (mark ∷ marks) order (suc n) e h =
    let here : k + suc n ≡ suc k + n = omega arith in
    ap (has_number order) here ∙ listed (suc k) marks order n (both_true (not mark || has_number order k) _ e).1 h

-- all tests at once; the order is one in which the entries are found
pub shown : (needs : List (List ℕ)) (roots : List ℕ) (marks : List Bool) (order : List ℕ) → length marks ≡ length needs
    → list_all (is_marked marks) roots ≡ true
    → is_shut marks 0 needs ≡ true → is_derived needs roots [] order ≡ true → are_listed 0 marks order ≡ true → IsReached needs roots marks
shown needs roots marks order sized rooted shut found all = record {
  sized = sized;
  closed = record {
    rooted = all_of (is_marked marks) roots rooted;
    further = λ n ns h its. let here : n ≡ 0 + n = omega arith in shut_at marks 0 needs n ns shut (ap (is_marked marks) (sym here) ∙ h) its;
  };
  least = λ has closed n h.
      let here : 0 + n ≡ n = omega arith in
      one_of has order n (derived needs roots has closed [] order tt found) (ap (has_number order) (sym here) ∙ listed 0 marks order n all h);
}
