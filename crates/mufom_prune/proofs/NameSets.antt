-- An index of names has the same names as the list from which it is filled.
use Rattle.std.proofs.Common.{◌≡◌, ℕ, zero, suc, ◌≤◌, List, [], ◌∷◌, ◌++◌, length, drop, Bool, true, false, ◌||◌, not, refl, sym, ap, ◌∙◌}
use Rattle.std.proofs.Common.{if◌then◌else◌, arith}
use Rattle.std.specs.Str.{bytes_eq}
use Rattle.std.proofs.lemmas.Slice.Eq.{bytes_eq-Decides}
use Rattle.mufom_plan.specs.Names.{has_name}

pub or-false : (b : Bool) → (b || false) ≡ b
or-false true = refl
or-false false = refl

or-assoc : (a b c : Bool) → ((a || b) || c) ≡ (a || (b || c))
or-assoc true b c = refl
or-assoc false b c = refl

has-last : (names : List (List ℕ)) (last name : List ℕ) → has_name (names ++ last ∷ []) name ≡ (has_name names name || bytes_eq name last)
has-last [] last name = or-false (bytes_eq name last)
has-last (n ∷ names) last name = ap (λ b. bytes_eq name n || b) (has-last names last name)
    ∙ sym (or-assoc (bytes_eq name n) (has_name names name) (bytes_eq name last))

-- nothing is left of a list past its end
pub drop-past : (names : List (List ℕ)) (i : ℕ) → length names ≤ i → drop i names ≡ []
drop-past [] zero past = refl
drop-past [] (suc i) past = refl
drop-past (n ∷ names) zero past = absurd (omega (arith, past))
drop-past (n ∷ names) (suc i) past = drop-past names i (omega (arith, past))

-- a name that the index has already
had : (index : List (List ℕ)) (known name : List ℕ) (rest : Bool) → has_name index known ≡ true
    → (has_name index name || rest) ≡ (has_name index name || (bytes_eq name known || rest))
had index known name rest has = by_case (bytes_eq name known) refl where
  by_case : (b : Bool) → bytes_eq name known ≡ b → (has_name index name || rest) ≡ (has_name index name || (b || rest))
  by_case false e = refl
  by_case true e =
      let there : has_name index name ≡ true = ap (has_name index) ((bytes_eq-Decides name known).0 e) ∙ has in
      ap (λ b. b || rest) there ∙ sym (ap (λ b. b || true) there)

-- the index after a name is added
abbrev pub with_name : Bool → List (List ℕ) → List ℕ → List (List ℕ)
with_name added index name = if added then index ++ name ∷ [] else index

pub name-added : (index : List (List ℕ)) (known name : List ℕ) (rest : Bool)
    → (has_name (with_name (not (has_name index known)) index known) name || rest) ≡ (has_name index name || (bytes_eq name known || rest))
name-added index known name rest = by_case (has_name index known) refl where
  by_case : (b : Bool) → has_name index known ≡ b
      → (has_name (with_name (not b) index known) name || rest) ≡ (has_name index name || (bytes_eq name known || rest))
  by_case true e = had index known name rest e
  by_case false e = ap (λ b. b || rest) (has-last index known name) ∙ or-assoc (has_name index name) (bytes_eq name known) rest
