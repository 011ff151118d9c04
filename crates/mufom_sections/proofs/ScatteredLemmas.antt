-- The positions of the indexes after one more was added, by the ordered map and by their list.
use Rattle.std.proofs.Common.{◌≡◌, ◌+◌, ℕ, List, [], ◌∷◌, ◌++◌, length, Bool, true, false, not, cond, ◌||◌, nat_eq, position}
use Rattle.std.proofs.Common.{Option, Some, refl, sym, ap, ◌∙◌, arith}
use Rattle.std.specs.Ordering.{nat_cmp, is_eq}
use Rattle.std.specs.List.{list_any}
use Rattle.std.specs.Option.{unwrap_or}
use Rattle.std.proofs.lemmas.Bool.{eqb-true}
use Rattle.std.proofs.lemmas.Bool.Decides.{nat_tests}
use Rattle.mufom_sections.proofs.PlacesLemmas.{position-there, position-first, position-second, position-absent, neither}

-- numbers compare as equal exactly if they are equal
pub is_eq-nat_cmp : (k q : ℕ) → is_eq (nat_cmp k q) ≡ nat_eq q k
is_eq-nat_cmp k q = grind (arith, nat_tests)

-- the position of a number after another number was added at the end
pub position-pushed : (k q : ℕ) (ks : List ℕ) → list_any (nat_eq k) ks ≡ false
    → cond (is_eq (nat_cmp k q)) (Some (length ks)) (position (nat_eq q) ks) ≡ position (nat_eq q) (ks ++ k ∷ [])
position-pushed k q ks none =
    ap (λ b. cond b (Some (length ks)) (position (nat_eq q) ks)) (is_eq-nat_cmp k q)
    ∙ by_case (nat_eq q k) refl (list_any (nat_eq q) ks) refl where
      last : nat_eq q k ≡ true → list_any (nat_eq q) ks ≡ false
      last same = rw (eqb-true q k same) none

      end : nat_eq q k ≡ true → position (nat_eq q) (k ∷ []) ≡ Some 0
      end same =
          position-there (nat_eq q) (k ∷ []) (ap (λ b. b || false) same)
          ∙ ap (λ b. Some (cond (not b) 1 0)) same

      by_case : (b : Bool) → nat_eq q k ≡ b → (there : Bool) → list_any (nat_eq q) ks ≡ there
          → cond b (Some (length ks)) (position (nat_eq q) ks) ≡ position (nat_eq q) (ks ++ k ∷ [])
      by_case true same there has =
          let zero_more : length ks + 0 ≡ length ks = omega arith in
          sym (position-second (nat_eq q) ks (k ∷ []) 0 (last same) (end same) ∙ ap Some zero_more)
      by_case false other true has = sym (position-first (nat_eq q) ks (k ∷ []) has)
      by_case false other false has =
          position-absent (nat_eq q) ks has
          ∙ sym (position-absent (nat_eq q) (ks ++ k ∷ []) (neither (nat_eq q) ks (k ∷ []) has (ap (λ b. b || false) other)))

-- the index that was added last is at its place
pub last-pushed : (k q at place : ℕ) (ks : List ℕ) → list_any (nat_eq k) ks ≡ false → at ≡ length ks
    → ◌≡◌ {A = Option (ℕ × ℕ)} (Some (k, at)) (Some (q, place))
    → position (nat_eq q) (ks ++ k ∷ []) ≡ Some place
last-pushed k q at place ks none long is =
    let same : ◌≡◌ {A = ℕ × ℕ} (k, at) (q, place) = ap (λ found. unwrap_or found (k, at)) is in
    let q_is : q ≡ k = sym (ap (λ pair. pair.0) same) in
    let itself : nat_eq k k ≡ true = grind (arith, nat_tests) in
    let place_is : length ks ≡ place = sym long ∙ ap (λ pair. pair.1) same in
    ap (λ n. position (nat_eq n) (ks ++ k ∷ [])) q_is
    ∙ sym (position-pushed k k ks none)
    ∙ ap (λ b. cond b (Some (length ks)) (position (nat_eq k) ks)) (is_eq-nat_cmp k k ∙ itself)
    ∙ ap Some place_is
