-- An index of names that grows with the names, and names that are added one after another.
use Rattle.std.proofs.Common.{◌≡◌, ℕ, ◌+◌, List, [], ◌∷◌, ◌++◌, length, Option, Some, None}
use Rattle.std.proofs.Common.{is_none, is_some, Bool, true, false, not, if◌then◌else◌, refl, sym, ap, ◌∙◌, arith}
use Rattle.mufom_names.specs.Index.{position_of, with_entry, numbered_from}
use Rattle.mufom_names.proofs.PositionLaws.{numbered-push}
use Rattle.mufom_plan.specs.Names.{has_name}
use Rattle.mufom_image_values.specs.Names.{with_name}
use Rattle.mufom_image_values.proofs.NameLaws.{has-place, place-none}

-- a name that is not there gets the next position
pub indexed-new : (names : List (List ℕ)) (name : List ℕ) (n : ℕ) → n ≡ length names → position_of (numbered_from 0 names) name ≡ None
    → with_entry (numbered_from 0 names) name n ≡ numbered_from 0 (names ++ name ∷ [])
indexed-new names name n count none =
    let place : n ≡ 0 + length names = omega (arith, count) in
    ap (λ o. if is_none o then numbered_from 0 names ++ (name, n) ∷ [] else numbered_from 0 names) none
    ∙ ap (λ k. numbered_from 0 names ++ (name, k) ∷ []) place
    ∙ sym (numbered-push 0 names name)

-- one that is there changes nothing
pub indexed-old : (names : List (List ℕ)) (name : List ℕ) (n k : ℕ) → position_of (numbered_from 0 names) name ≡ Some k
    → with_entry (numbered_from 0 names) name n ≡ numbered_from 0 names
indexed-old names name n k there = ap (λ o. if is_none o then numbered_from 0 names ++ (name, n) ∷ [] else numbered_from 0 names) there

pub named-new : (names : List (List ℕ)) (name : List ℕ) → position_of (numbered_from 0 names) name ≡ None → with_name names name ≡ names ++ name ∷ []
named-new names name none = ap (λ b. if b then names else names ++ name ∷ []) (place-none 0 names name none)

pub named-old : (names : List (List ℕ)) (name : List ℕ) (k : ℕ) → position_of (numbered_from 0 names) name ≡ Some k → with_name names name ≡ names
named-old names name k there = by_case (has_name names name) (sym (has-place 0 names name) ∙ ap is_none there) where
  by_case : (b : Bool) → not b ≡ false → (if b then names else names ++ name ∷ []) ≡ names
  by_case true e = refl
  by_case false e = absurd cc

-- the index has a name exactly if it is one of the names
pub found-is : (names : List (List ℕ)) (name : List ℕ) → is_some (position_of (numbered_from 0 names) name) ≡ has_name names name
found-is names name = by_case (position_of (numbered_from 0 names) name) (has_name names name) (has-place 0 names name) where
  by_case : (o : Option ℕ) (b : Bool) → is_none o ≡ not b → is_some o ≡ b
  by_case None false e = refl
  by_case None true e = absurd cc
  by_case (Some k) true e = refl
  by_case (Some k) false e = absurd cc
