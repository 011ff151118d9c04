-- The marked members are the selected ones.
use Rattle.std.proofs.Common.{◌≡◌, ℕ, zero, suc, ◌+◌, ◌<◌, List, [], ◌∷◌, ◌++◌, length, map, filter, get_or, slice_get, Option, Some, None}
use Rattle.std.proofs.Common.{option_to_list, Bool, true, false, cond, ◌&&◌, ◌||◌, if◌then◌else◌, nat_eq, eq-eqb, eqb-true, refl, sym, ap, subst, ◌∙◌}
use Rattle.std.proofs.Common.{true≢false, zero-add, arith}
use Rattle.std.specs.Prelude.{Contains}
use Rattle.std.specs.List.{AllByRecursion, list_all, slice_index_or}
use Rattle.std.specs.List.Sorted.{IsStrictlyIncreasing}
use Rattle.std.proofs.lemmas.Grind.{flat_map-append}
use Rattle.std.proofs.lemmas.List.{map-append}
use Rattle.std.proofs.lemmas.List.Elements.{filter-append}
use Rattle.std.proofs.lemmas.List.Folds.{list_all-append}
use Rattle.std.proofs.lemmas.Option.{slice_get_within}
use Rattle.mufom_names.specs.declared.name.Reference.{Reference}
use Rattle.mufom_module.specs.declared.module.Parts.{Parts}
use Rattle.mufom_plan.specs.Names.{has_name}
use Rattle.mufom_meaning.specs.Flat.{public_names, flat_references, is_strong}
use Rattle.mufom_meaning.specs.Walk.{has_number}
use Rattle.mufom_meaning.specs.Selection.{strong_names, provider, member_at, members_at, is_among, is_provided, is_closed, IsSelected}
use Rattle.mufom_select.specs.Choice.{Choice, needed, needed_for, needed_by, positions_from}
use Rattle.mufom_select.specs.Underway.{Marked, Passes, IsUnderway}
use Rattle.mufom_select.proofs.ChoiceLaws.{All-at, All-more}

-- ---- lists

All-join : (P : ℕ → Type 0) (xs ys : List ℕ) → AllByRecursion P xs → AllByRecursion P ys → AllByRecursion P (xs ++ ys)
All-join P [] ys a b = b
All-join P (x ∷ xs) ys a b = (a.0, All-join P xs ys a.1 b)

All-left : (P : ℕ → Type 0) (xs ys : List ℕ) → AllByRecursion P (xs ++ ys) → AllByRecursion P xs
All-left P [] ys a = tt
All-left P (x ∷ xs) ys a = (a.0, All-left P xs ys a.1)

All-right : (P : ℕ → Type 0) (xs ys : List ℕ) → AllByRecursion P (xs ++ ys) → AllByRecursion P ys
All-right P [] ys a = a
All-right P (x ∷ xs) ys a = All-right P xs ys a.1

All-in : (P : ℕ → Type 0) (xs : List ℕ) (n k : ℕ) → AllByRecursion P xs → k < length xs → slice_index_or xs k n ≡ n → P n
All-in P [] n k a inside e = absurd (omega (arith, inside))
All-in P (x ∷ xs) n zero a inside e = subst P e a.0
All-in P (x ∷ xs) n (suc k) a inside e = All-in P xs n k a.1 (omega (arith, inside)) e

and-left : (a b : Bool) → (a && b) ≡ true → a ≡ true
and-left true b e = refl
and-left false b e = e

and-right : (a b : Bool) → (a && b) ≡ true → b ≡ true
and-right true b e = e
and-right false b e = absurd (true≢false (sym e))

and-both : (a b : Bool) → a ≡ true → b ≡ true → (a && b) ≡ true
and-both a b e f = ap (λ x. x && b) e ∙ f

or-right : (a b : Bool) → b ≡ true → (a || b) ≡ true
or-right true b e = refl
or-right false b e = e

-- a number that a list has is an element of it
in-numbers : (xs : List ℕ) (n : ℕ) → has_number xs n ≡ true → Contains xs n
in-numbers [] n e = absurd (true≢false (sym e))
in-numbers (x ∷ xs) n e = by_case (nat_eq x n) refl e (λ used. in-numbers xs n used) where
  by_case : (b : Bool) → nat_eq x n ≡ b → (b || has_number xs n) ≡ true → (has_number xs n ≡ true → Contains xs n) → Contains (x ∷ xs) n
  by_case true t h rest = let inside : 0 < length (x ∷ xs) = omega arith in (0, inside, eqb-true x n t)
  by_case false t h rest = let k = rest h in let inside : suc k.0 < length (x ∷ xs) = omega (arith, k.1) in (suc k.0, inside, k.2)

-- ---- the positions of the marks

-- the number is the position of a true mark, if the first mark has the position n
record MarkedAt (n : ℕ) (marks : List Bool) (k : ℕ) : Type 0 where
  pub offset : ℕ
  pub is : k ≡ n + offset
  pub marked : get_or marks offset false ≡ true

marked-later : (n : ℕ) (b : Bool) (marks : List Bool) (k : ℕ) → MarkedAt (suc n) marks k → MarkedAt n (b ∷ marks) k
marked-later n b marks k h = record { offset = suc h.offset; is = omega (arith, h.is); marked = h.marked }

all-marked : (n : ℕ) (marks : List Bool) → AllByRecursion (MarkedAt n marks) (positions_from n marks)
all-marked n [] = tt
all-marked n (true ∷ marks) = (
  record { offset = 0; is = omega arith; marked = refl },
  All-more (MarkedAt (suc n) marks) (MarkedAt n (true ∷ marks)) (marked-later n true marks) (positions_from (suc n) marks) (all-marked (suc n) marks),
)
all-marked n (false ∷ marks) =
    All-more (MarkedAt (suc n) marks) (MarkedAt n (false ∷ marks)) (marked-later n false marks) (positions_from (suc n) marks) (all-marked (suc n) marks)

-- each true mark has its position among them
has-marked : (n : ℕ) (marks : List Bool) (j : ℕ) → get_or marks j false ≡ true → has_number (positions_from n marks) (n + j) ≡ true
has-marked n [] j e = absurd (true≢false (sym e))
has-marked n (true ∷ marks) zero e =
    let same : n ≡ n + 0 = omega arith in
    ap (λ b. b || has_number (positions_from (suc n) marks) (n + 0)) (eq-eqb n (n + 0) same)
has-marked n (true ∷ marks) (suc j) e =
    let same : suc n + j ≡ n + suc j = omega arith in
    or-right (nat_eq n (n + suc j)) (has_number (positions_from (suc n) marks) (n + suc j))
    (ap (has_number (positions_from (suc n) marks)) (sym same) ∙ has-marked (suc n) marks j e)
has-marked n (false ∷ marks) zero e = absurd (true≢false (sym e))
has-marked n (false ∷ marks) (suc j) e =
    let same : suc n + j ≡ n + suc j = omega arith in
    ap (has_number (positions_from (suc n) marks)) (sym same) ∙ has-marked (suc n) marks j e

rises-on : (n : ℕ) (xs : List ℕ) → AllByRecursion (λ k. n < k) xs → IsStrictlyIncreasing xs → IsStrictlyIncreasing (n ∷ xs)
rises-on n [] above rest k inside = absurd (omega (arith, inside))
rises-on n (x ∷ xs) above rest zero inside = above.0
rises-on n (x ∷ xs) above rest (suc k) inside =
    let e : suc k + 1 ≡ suc (k + 1) = omega arith in
    let next = rest k (omega (arith, inside)) in
    rw e next

rises : (n : ℕ) (marks : List Bool) → IsStrictlyIncreasing (positions_from n marks)
rises n [] = λ k inside. absurd (omega (arith, inside))
rises n (true ∷ marks) =
    rises-on n (positions_from (suc n) marks)
    (All-more (MarkedAt (suc n) marks) (λ k. n < k) (λ k h. omega (arith, h.is)) (positions_from (suc n) marks) (all-marked (suc n) marks))
    (rises (suc n) marks)
rises n (false ∷ marks) = rises (suc n) marks

-- ---- closed choices

module _ (ms members : List Parts) (chosen : List ℕ) where
  abbrev Has : ℕ → Type 0
  Has n = has_number chosen n ≡ true

  -- the strong names of references
  abbrev names : List Reference → List (List ℕ)
  names references = map (λ (r : Reference). r.name) (filter is_strong references)

  -- the strong names of references are provided
  abbrev provided : List Reference → Bool
  provided references = list_all (is_provided ms members chosen) (names references)

  provided-append : (rs qs : List Reference) → provided (rs ++ qs) ≡ (provided rs && provided qs)
  provided-append rs qs =
      ap (λ all. list_all (is_provided ms members chosen) (map (λ (r : Reference). r.name) all)) (filter-append is_strong rs qs)
      ∙ ap (list_all (is_provided ms members chosen)) (map-append (λ (r : Reference). r.name) (filter is_strong rs) (filter is_strong qs))
      ∙ list_all-append (is_provided ms members chosen) (names rs) (names qs)

  abbrev one : Bool → Option ℕ → List ℕ
  one defined its = option_to_list (if defined then None else its)

  one-provided : (defined : Bool) (its : Option ℕ) → AllByRecursion Has (one defined its) → (defined || is_among its chosen) ≡ true
  one-provided true its h = refl
  one-provided false None h = refl
  one-provided false (Some n) h = h.0

  one-needed : (defined : Bool) (its : Option ℕ) → (defined || is_among its chosen) ≡ true → AllByRecursion Has (one defined its)
  one-needed true its h = tt
  one-needed false None h = tt
  one-needed false (Some n) h = (h, tt)

  -- if all that references need is chosen, their names are provided
  pub needed-provided : (rs : List Reference) → AllByRecursion Has (needed_by ms members rs) → provided rs ≡ true
  needed-provided [] h = refl
  needed-provided (r ∷ rs) h = by_case (is_strong r) h (λ used. needed-provided rs used) where
    by_case : (b : Bool) → AllByRecursion Has (option_to_list (if b then needed ms members r.name else None) ++ needed_by ms members rs)
        → (AllByRecursion Has (needed_by ms members rs) → provided rs ≡ true)
        → list_all (is_provided ms members chosen) (map (λ (q : Reference). q.name) (cond b (r ∷ filter is_strong rs) (filter is_strong rs))) ≡ true
    by_case true h rest =
        let its = option_to_list (needed ms members r.name) in
        and-both (is_provided ms members chosen r.name) (provided rs)
        (one-provided (has_name (public_names ms) r.name) (provider members r.name) (All-left Has its (needed_by ms members rs) h))
        (rest (All-right Has its (needed_by ms members rs) h))
    by_case false h rest = rest h

  -- and if their names are provided, all that they need is chosen
  pub provided-needed : (rs : List Reference) → provided rs ≡ true → AllByRecursion Has (needed_by ms members rs)
  provided-needed [] h = tt
  provided-needed (r ∷ rs) h = by_case (is_strong r) h (λ used. provided-needed rs used) where
    by_case : (b : Bool) → list_all (is_provided ms members chosen)
        (map (λ (q : Reference). q.name) (cond b (r ∷ filter is_strong rs) (filter is_strong rs))) ≡ true
        → (provided rs ≡ true → AllByRecursion Has (needed_by ms members rs))
        → AllByRecursion Has (option_to_list (if b then needed ms members r.name else None) ++ needed_by ms members rs)
    by_case true h rest =
        All-join Has (option_to_list (needed ms members r.name)) (needed_by ms members rs)
        (one-needed (has_name (public_names ms) r.name) (provider members r.name) (and-left (is_provided ms members chosen r.name) (provided rs) h))
        (rest (and-right (is_provided ms members chosen r.name) (provided rs) h))
    by_case false h rest = rest h

  -- what the members at some positions need together, each of them needs
  pub member-provided : (xs : List ℕ) (n : ℕ) (m : Parts) → has_number xs n ≡ true → slice_get members n ≡ Some m
      → provided (flat_references (members_at members xs)) ≡ true → provided m.names.references ≡ true
  member-provided [] n m among its all = absurd (true≢false (sym among))
  member-provided (x ∷ xs) n m among its all =
      by_case (nat_eq x n) refl among (λ used. member-provided xs n m used its (later (slice_get members x) all)) where
        later : (o : Option Parts) → provided (flat_references (member_at o ++ members_at members xs)) ≡ true
            → provided (flat_references (members_at members xs)) ≡ true
        later None h = h
        later (Some q) h =
            let more = flat_references (members_at members xs) in
            and-right (provided q.names.references) (provided more) (sym (provided-append q.names.references more) ∙ h)

        first : (o : Option Parts) → o ≡ Some m → provided (flat_references (member_at o ++ members_at members xs)) ≡ true → provided m.names.references ≡ true
        first None e h = absurd cc
        first (Some q) e h =
            let same : q ≡ m = cc in
            let more = flat_references (members_at members xs) in
            subst (λ (p : Parts). provided p.names.references ≡ true) same
            (and-left (provided q.names.references) (provided more) (sym (provided-append q.names.references more) ∙ h))

        by_case : (b : Bool) → nat_eq x n ≡ b → (b || has_number xs n) ≡ true → (has_number xs n ≡ true → provided m.names.references ≡ true)
            → provided m.names.references ≡ true
        by_case true t h rest = first (slice_get members x) (ap (slice_get members) (eqb-true x n t) ∙ its) all
        by_case false t h rest = rest h

-- ---- the end

module _ (ms members : List Parts) (c : Choice) (u : IsUnderway ms members (length c.order) c) where
  abbrev chosen : List ℕ
  chosen = positions_from 0 c.marks

  from-mark : (n : ℕ) → Marked c n → has_number chosen n ≡ true
  from-mark n h = subst (λ k. has_number chosen k ≡ true) (zero-add n) (has-marked 0 c.marks n h)

  to-mark : (n : ℕ) → MarkedAt 0 c.marks n → Marked c n
  to-mark n h = let same : h.offset ≡ n = omega (arith, h.is) in subst (Marked c) same h.marked

  marked : AllByRecursion (Marked c) chosen
  marked = All-more (MarkedAt 0 c.marks) (Marked c) to-mark chosen (all-marked 0 c.marks)

  -- what a marked member needs is marked
  its-needs : (n : ℕ) (m : Parts) → Marked c n → slice_get members n ≡ Some m → AllByRecursion (Marked c) (needed_by ms members m.names.references)
  its-needs n m h its =
      let at = u.one.ordered n h in
      u.done at.0 n m (slice_get_within c.order at.0 n at.1) at.1 its

  all-needs : (ns : List ℕ) → AllByRecursion (Marked c) ns → AllByRecursion (Marked c) (needed_by ms members (flat_references (members_at members ns)))
  all-needs [] h = tt
  all-needs (n ∷ ns) h = by_case (slice_get members n) refl (all-needs ns h.1) where
    by_case : (o : Option Parts) → slice_get members n ≡ o → AllByRecursion (Marked c) (needed_by ms members (flat_references (members_at members ns)))
        → AllByRecursion (Marked c) (needed_by ms members (flat_references (member_at o ++ members_at members ns)))
    by_case None e rest = rest
    by_case (Some m) e rest =
        let more = flat_references (members_at members ns) in
        subst (AllByRecursion (Marked c)) (sym (flat_map-append (λ (r : Reference). option_to_list (needed_for ms members r)) m.names.references more))
        (All-join (Marked c) (needed_by ms members m.names.references) (needed_by ms members more) (its-needs n m h.0 e) rest)

  closed : is_closed ms members chosen ≡ true
  closed =
      let rooted = All-more (Marked c) (λ n. has_number chosen n ≡ true) from-mark (needed_by ms members (flat_references ms)) u.rooted in
      let theirs = flat_references (members_at members chosen) in
      let more = All-more (Marked c) (λ n. has_number chosen n ≡ true) from-mark (needed_by ms members theirs) (all-needs chosen marked) in
      and-both (list_all (is_provided ms members chosen) (strong_names ms))
      (list_all (is_provided ms members chosen) (strong_names (members_at members chosen)))
      (needed-provided ms members chosen (flat_references ms) rooted)
      (needed-provided ms members chosen theirs more)

  -- a closed choice passes all that is needed
  passes : (other : List ℕ) → is_closed ms members other ≡ true → Passes ms members (has_number other)
  passes other h =
      let of-roots = list_all (is_provided ms members other) (strong_names ms) in
      let of-members = list_all (is_provided ms members other) (strong_names (members_at members other)) in
      record {
        first = provided-needed ms members other (flat_references ms) (and-left of-roots of-members h);
        more = λ n m among its.
            provided-needed ms members other m.names.references
            (member-provided ms members other other n m among its (and-right of-roots of-members h));
      }

  least : (other : List ℕ) → is_closed ms members other ≡ true → (n : ℕ) → Contains chosen n → Contains other n
  least other h n within =
      let its : Marked c n = All-in (Marked c) chosen n within.0 marked within.1 within.2 in
      let at = u.one.ordered n its in
      in-numbers other n (All-at (λ k. has_number other k ≡ true) c.order at.0 n (u.least (has_number other) (passes other h)) at.1)

  -- if all members of the order were looked at, the marked members are the least closed choice
  pub chosen-selected : IsSelected ms members (positions_from 0 c.marks)
  chosen-selected = record { increasing = rises 0 c.marks; closed = closed; least = least }

-- ---- no members

provided-alone : (ms : List Parts) (names : List (List ℕ)) → list_all (is_provided ms [] []) names ≡ true
provided-alone ms [] = refl
provided-alone ms (name ∷ names) = and-both (is_provided ms [] [] name) (list_all (is_provided ms [] []) names)
    (or-right (has_name (public_names ms) name) true refl) (provided-alone ms names)

-- if there is no member, none is selected
pub none-selected : (ms members : List Parts) (ns : List ℕ) → length members ≡ 0 → ns ≡ [] → IsSelected ms members ns
none-selected ms (m ∷ members) ns none is = absurd (omega (arith, none))
none-selected ms [] ns none is = subst (λ (l : List ℕ). IsSelected ms [] l) (sym is) (record {
  increasing = λ k inside. absurd (omega (arith, inside));
  closed = and-both (list_all (is_provided ms [] []) (strong_names ms)) true (provided-alone ms (strong_names ms)) refl;
  least = λ other closed n among. absurd (omega (arith, among.1));
})
