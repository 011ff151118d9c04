-- Selected members are members: their positions are those of members, and there are no more of them.
use Rattle.std.proofs.Common.{◌≡◌, ℕ, zero, suc, ◌+◌, ◌-◌, ◌≤◌, ◌<◌, List, [], ◌∷◌, ◌++◌, length, filter, Option, Some, None, IfSome, All, Contains}
use Rattle.std.proofs.Common.{Bool, true, false, cond, ◌&&◌, ◌||◌, nat_eq, nat_lt, true≢false}
use Rattle.std.proofs.Common.{refl, sym, ap, subst, ◌∙◌, arith, ltb-true, ltb-false, lt-ltb, eqb-true}
use Rattle.std.specs.Prelude.{slice_get}
use Rattle.std.specs.List.{list_all, slice_index_or}
use Rattle.std.proofs.lemmas.List.Elements.{All-contains, All-contains_itself}
use Rattle.std.proofs.lemmas.List.Sums.{AllPass-from_list_all}
use Rattle.mufom_module.specs.declared.module.Parts.{Parts}
use Rattle.mufom_meaning.specs.Selection.{IsSelected, is_among, is_closed, is_provided, member_at, members_at, provider, strong_names}
use Rattle.mufom_meaning.specs.Walk.{has_number}
use Rattle.mufom_meaning.proofs.Distinct.{list_all-filter}
use Rattle.mufom_select.proofs.IndexLaws.{provider-within}
use Rattle.mufom_groups.proofs.Selecting.{Rise, rise-all}

get-past : (n : ℕ) (ms : List Parts) → length ms ≤ n → slice_get ms n ≡ None
get-past zero [] past = refl
get-past (suc n) [] past = refl
get-past zero (m ∷ ms) past = absurd (omega (arith, past))
get-past (suc n) (m ∷ ms) past = get-past n ms (omega (arith, past))

and-left : (a b : Bool) → (a && b) ≡ true → a ≡ true
and-left true b is = refl
and-left false b is = is

and-right : (a b : Bool) → (a && b) ≡ true → b ≡ true
and-right true b is = is
and-right false b is = absurd (true≢false (sym is))

and-both : (a b : Bool) → a ≡ true → b ≡ true → (a && b) ≡ true
and-both a b first second = ap (λ x. x && b) first ∙ second

or-later : (a b c : Bool) → (b ≡ true → c ≡ true) → (a || b) ≡ true → (a || c) ≡ true
or-later true b c later is = refl
or-later false b c later is = later is

module _ (ms members : List Parts) where
  abbrev is_member : ℕ → Bool
  is_member n = nat_lt n (length members)

  -- the choice without the positions that no member has
  abbrev of_members : List ℕ → List ℕ
  of_members chosen = filter is_member chosen

  same-members : (chosen : List ℕ) → members_at members (of_members chosen) ≡ members_at members chosen
  same-members [] = refl
  same-members (n ∷ chosen) = by (is_member n) refl (same-members chosen) where
    by : (b : Bool) → is_member n ≡ b → members_at members (of_members chosen) ≡ members_at members chosen
        → members_at members (cond b (n ∷ of_members chosen) (of_members chosen)) ≡ member_at (slice_get members n) ++ members_at members chosen
    by true is rest = ap (λ (l : List Parts). member_at (slice_get members n) ++ l) rest
    by false is rest =
        rest ∙ ap (λ (o : Option Parts). member_at o ++ members_at members chosen) (sym (get-past n members (ltb-false n (length members) is)))

  still-there : (chosen : List ℕ) (k : ℕ) → is_member k ≡ true → has_number chosen k ≡ true → has_number (of_members chosen) k ≡ true
  still-there [] k member there = there
  still-there (n ∷ chosen) k member there = by (is_member n) refl there (still-there chosen k member) where
    own : (n ≡ k) → is_member n ≡ false → ⊥
    own same is = true≢false (sym member ∙ ap is_member (sym same) ∙ is)

    none : (c : Bool) → nat_eq n k ≡ c → is_member n ≡ false → (c || has_number chosen k) ≡ true → has_number chosen k ≡ true
    none true same is there = absurd (own (eqb-true n k same) is)
    none false same is there = there

    by : (b : Bool) → is_member n ≡ b → (nat_eq n k || has_number chosen k) ≡ true → (has_number chosen k ≡ true → has_number (of_members chosen) k ≡ true)
        → has_number (cond b (n ∷ of_members chosen) (of_members chosen)) k ≡ true
    by true is there later = or-later (nat_eq n k) (has_number chosen k) (has_number (of_members chosen) k) later there
    by false is there later = later (none (nat_eq n k) refl is there)

  still-among : (chosen : List ℕ) (o : Option ℕ) → IfSome o (λ k. k < length members) → is_among o chosen ≡ true → is_among o (of_members chosen) ≡ true
  still-among chosen None inside among = refl
  still-among chosen (Some k) inside among = still-there chosen k (lt-ltb k (length members) inside) among

  still-provided : (chosen : List ℕ) (names : List (List ℕ)) → list_all (is_provided ms members chosen) names ≡ true
      → list_all (is_provided ms members (of_members chosen)) names ≡ true
  still-provided chosen [] all = refl
  still-provided chosen (name ∷ names) all =
      let first = is_provided ms members chosen name in
      let rest = list_all (is_provided ms members chosen) names in
      and-both (is_provided ms members (of_members chosen) name) (list_all (is_provided ms members (of_members chosen)) names)
      (or-later _ (is_among (provider members name) chosen) (is_among (provider members name) (of_members chosen))
      (still-among chosen (provider members name) (provider-within members name)) (and-left first rest all))
      (still-provided chosen names (and-right first rest all))

  still-closed : (chosen : List ℕ) → is_closed ms members chosen ≡ true → is_closed ms members (of_members chosen) ≡ true
  still-closed chosen closed =
      let of_roots = list_all (is_provided ms members chosen) (strong_names ms) in
      let of_chosen = list_all (is_provided ms members chosen) (strong_names (members_at members chosen)) in
      and-both (list_all (is_provided ms members (of_members chosen)) (strong_names ms))
      (list_all (is_provided ms members (of_members chosen)) (strong_names (members_at members (of_members chosen))))
      (still-provided chosen (strong_names ms) (and-left of_roots of_chosen closed))
      (subst (λ (l : List Parts). list_all (is_provided ms members (of_members chosen)) (strong_names l) ≡ true) (sym (same-members chosen))
      (still-provided chosen (strong_names (members_at members chosen)) (and-right of_roots of_chosen closed)))

  module _ (chosen : List ℕ) (is : IsSelected ms members chosen) where
    -- each position is that of a member
    pub selected-within : All (λ n. n < length members) chosen
    selected-within k d inside =
        let n = slice_index_or chosen k d in
        let there : Contains (of_members chosen) n = is.least (of_members chosen) (still-closed chosen is.closed) n (All-contains_itself chosen k d inside) in
        ltb-true n (length members)
        (All-contains (λ m. is_member m ≡ true) (of_members chosen) n
        (AllPass-from_list_all is_member (of_members chosen) (list_all-filter is_member chosen)) there)

    -- after others
    pub selected-after : (roots most : ℕ) → roots + length members < most → All (λ position. roots + position < most) chosen
    selected-after roots most few k d inside = let less = selected-within k d inside in omega (arith, less, few)

few-rising : (xs : List ℕ) (n m : ℕ) → Rise n xs → All (λ x. x < m) xs → length xs ≤ m - n
few-rising [] n m rise all = omega arith
few-rising (x ∷ xs) n m rise all =
    let less : x < m = all 0 x (omega arith) in
    let least = rise.0 in
    let more = few-rising xs (x + 1) m rise.1 (λ k d inside. all (suc k) d (omega (arith, inside))) in
    omega (arith, less, least, more)

-- there are no more of them than members
pub selected-few : (ms members : List Parts) (chosen : List ℕ) → IsSelected ms members chosen → length chosen ≤ length members
selected-few ms members chosen is =
    let few = few-rising chosen 0 (length members) (rise-all chosen is.increasing) (selected-within ms members chosen is) in
    omega (arith, few)
