-- A table of indexes as it is stored, a row followed by other indexes, and what its results mean.
use Rattle.std.proofs.Common.{◌≡◌, ◌+◌, ◌-◌, ◌^◌, ◌<◌, ◌==◌, ℕ, List, [], ◌∷◌, ◌++◌, length, Bool, true, false, ◌||◌, Option, nat_eq, position, Some}
use Rattle.std.proofs.Common.{is_some, Contains, refl, sym, ap, ◌∙◌, true≢false, append_assoc, arith}
use Rattle.std.specs.Cmp.{nat_eq_equiv}
use Rattle.std.specs.List.{list_any, IsDistinct}
use Rattle.std.proofs.lemmas.Bool.{eqb-true}
use Rattle.std.proofs.lemmas.List.{append-nil, length_push, nil_from_length}
use Rattle.std.proofs.lemmas.List.Folds.{list_any-append}
use Rattle.std.proofs.lemmas.Map.Keys.{IsDistinct-push}
use Rattle.std.proofs.lemmas.Map.Views.{list_any-from_Contains}
use Rattle.mufom_sections.proofs.PlacesLemmas.{Contains-from_test, position-found, position-absent, neither}

-- a number that no test finds is not in the list
pub lacks : (k : ℕ) (ks : List ℕ) → list_any (nat_eq k) ks ≡ false → Contains ks k → ⊥
lacks k ks none has = true≢false (sym (list_any-from_Contains nat_eq_equiv k ks has) ∙ none)

-- a table lacks an index that neither part has
pub lacks_both : (k : ℕ) (row others ks : List ℕ) → list_any (nat_eq k) row ≡ false → list_any (nat_eq k) others ≡ false → row ++ others ≡ ks
    → list_any (nat_eq k) ks ≡ false
lacks_both k row others ks none none_more is = ap (list_any (nat_eq k)) (sym is) ∙ neither (nat_eq k) row others none none_more

-- a longer row with nothing behind it
pub row_grows : (row longer others : List ℕ) (k : ℕ) → others ≡ [] → longer ≡ row ++ k ∷ [] → longer ++ others ≡ (row ++ others) ++ k ∷ []
row_grows row longer others k none is =
    ap (λ more. longer ++ more) none
    ∙ append-nil longer
    ∙ is
    ∙ ap (λ ks. ks ++ k ∷ []) (sym (append-nil row) ∙ ap (λ more. row ++ more) (sym none))

-- one more index behind the row
pub others_grow : (row longer others : List ℕ) (k : ℕ) → longer ≡ others ++ k ∷ [] → row ++ longer ≡ (row ++ others) ++ k ∷ []
others_grow row longer others k is = ap (λ more. row ++ more) is ∙ sym (append_assoc row others (k ∷ []))

-- a new index keeps a table in order
pub one_more : (k : ℕ) (ks more : List ℕ) → more ≡ ks ++ k ∷ [] → length ks < 2 ^ 32 - 1 → IsDistinct nat_eq ks → list_any (nat_eq k) ks ≡ false
    → (length more < 2 ^ 32) × IsDistinct nat_eq more
one_more k ks more is short distinct none =
    let long : length more ≡ length ks + 1 = ap length is ∙ length_push ks k in
    (omega (arith, long, short), rw is (IsDistinct-push nat_eq_equiv ks k distinct none))

-- the same test the other way round
pub position-flipped : (k : ℕ) (ks : List ℕ) → position (nat_eq k) ks ≡ position (λ other. other == k) ks
position-flipped k ks = λ i. position (λ other. nat_eq_equiv.symm k other i) ks

-- and for any index of a list
pub list_any-flipped : (k : ℕ) (ks : List ℕ) → list_any (nat_eq k) ks ≡ list_any (λ other. other == k) ks
list_any-flipped k ks = λ i. list_any (λ other. nat_eq_equiv.symm k other i) ks

-- what the place of an index says
pub is_declared : (k place : ℕ) (ks : List ℕ) → position (nat_eq k) ks ≡ Some place → Contains ks k
is_declared k place ks at = by_case (list_any (nat_eq k) ks) refl where
  by_case : (b : Bool) → list_any (nat_eq k) ks ≡ b → Contains ks k
  by_case true some = Contains-from_test k ks some
  by_case false none = absurd (true≢false (sym (ap is_some (sym (position-absent (nat_eq k) ks none) ∙ at))))

-- an index that has no position is not in the list
pub undeclared : (k : ℕ) (ks : List ℕ) (found : Option ℕ) → found ≡ position (λ other. other == k) ks → is_some found ≡ false
    → list_any (nat_eq k) ks ≡ false
undeclared k ks found at none = sym (position-found (nat_eq k) ks) ∙ ap is_some (position-flipped k ks ∙ sym at) ∙ none

-- and so not behind the row
pub others_lack : (k : ℕ) (row others ks : List ℕ) → list_any (nat_eq k) ks ≡ false → row ++ others ≡ ks → list_any (nat_eq k) others ≡ false
others_lack k row others ks none is =
    second (list_any (nat_eq k) row) (list_any (nat_eq k) others) (sym (list_any-append (nat_eq k) row others) ∙ ap (list_any (nat_eq k)) is ∙ none) where
      second : (a b : Bool) → (a || b) ≡ false → b ≡ false
      second true b h = absurd (true≢false h)
      second false b h = h

-- a list that a test shows to be empty
pub is_nothing : (ks : List ℕ) (empty : Bool) → empty ≡ (length ks == 0) → empty ≡ true → ks ≡ []
is_nothing ks empty is none = nil_from_length ks (eqb-true (length ks) 0 (sym is ∙ none))

-- a table without indexes is in order
pub empty_table : (ks : List ℕ) → ks ≡ [] → (length ks < 2 ^ 32) × IsDistinct nat_eq ks
unfolding IsDistinct
empty_table ks none = rw none (omega arith, tt)
