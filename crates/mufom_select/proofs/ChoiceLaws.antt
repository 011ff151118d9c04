-- Members that are chosen one after another: what stays, and that nothing is chosen without need.
use Rattle.std.proofs.Common.{◌≡◌, ℕ, zero, suc, ◌+◌, ◌<◌, ◌≤◌, List, [], ◌∷◌, ◌++◌, length, get_or, set, take, flat_map, if◌then◌else◌, slice_get}
use Rattle.std.proofs.Common.{Option, Some, None, Bool, true, false, cond, nat_eq, eq-eqb, eqb-true, refl, sym, ap, subst, ◌∙◌, true≢false}
use Rattle.std.proofs.Common.{append-nil, arith}
use Rattle.std.specs.List.{AllByRecursion}
use Rattle.std.proofs.lemmas.List.{get_or-set_other, length-set, take_more}
use Rattle.std.proofs.lemmas.Grind.{common_steps, get_or-set_at, flat_map-append}
use Rattle.mufom_select.specs.Underway.{count, Marked, AreOne}
use Rattle.mufom_select.specs.Choice.{Choice, is_marked, with_member, with_members, positions_from}

-- ---- marks

pub count-le : (marks : List Bool) → count marks ≤ length marks
count-le [] = omega arith
count-le (true ∷ marks) = let rest = count-le marks in omega (arith, rest)
count-le (false ∷ marks) = let rest = count-le marks in omega (arith, rest)

count-set : (marks : List Bool) (n : ℕ) → n < length marks → get_or marks n false ≡ false → count (set marks n true) ≡ 1 + count marks
count-set [] n l e = absurd (omega (arith, l))
count-set (true ∷ marks) zero l e = absurd (true≢false e)
count-set (false ∷ marks) zero l e = refl
count-set (true ∷ marks) (suc n) l e = ap (λ k. 1 + k) (count-set marks n (omega (arith, l)) e)
count-set (false ∷ marks) (suc n) l e = count-set marks n (omega (arith, l)) e

-- ---- lists

slice_get-prefix : (xs more : List ℕ) (j m : ℕ) → slice_get xs j ≡ Some m → slice_get (xs ++ more) j ≡ Some m
slice_get-prefix [] more j m e = absurd (some-is-not-none e) where
  some-is-not-none : None ≡ Some m → ⊥
  some-is-not-none h = true≢false (ap (λ (r : Option ℕ). elim r [ None ↦ true | Some x ↦ false ]) h)
slice_get-prefix (x ∷ xs) more zero m e = e
slice_get-prefix (x ∷ xs) more (suc j) m e = slice_get-prefix xs more j m e

slice_get-last : (xs : List ℕ) (n : ℕ) → slice_get (xs ++ n ∷ []) (length xs) ≡ Some n
slice_get-last [] n = refl
slice_get-last (x ∷ xs) n = let e : length (x ∷ xs) ≡ suc (length xs) = omega arith in ap (slice_get (x ∷ (xs ++ n ∷ []))) e ∙ slice_get-last xs n

-- below the length of a prefix, an element is that of the prefix
slice_get-within : (xs more : List ℕ) (j m : ℕ) → j < length xs → slice_get (xs ++ more) j ≡ Some m → slice_get xs j ≡ Some m
slice_get-within [] more j m l e = absurd (omega (arith, l))
slice_get-within (x ∷ xs) more zero m l e = e
slice_get-within (x ∷ xs) more (suc j) m l e = slice_get-within xs more j m (omega (arith, l)) e

All-push : (P : ℕ → Type 0) (xs : List ℕ) (n : ℕ) → AllByRecursion P xs → P n → AllByRecursion P (xs ++ n ∷ [])
All-push P [] n a p = (p, tt)
All-push P (x ∷ xs) n a p = (a.0, All-push P xs n a.1 p)

pub All-more : (P Q : ℕ → Type 0) → ((n : ℕ) → P n → Q n) → (xs : List ℕ) → AllByRecursion P xs → AllByRecursion Q xs
All-more P Q f [] a = tt
All-more P Q f (x ∷ xs) a = (f x a.0, All-more P Q f xs a.1)

pub All-at : (P : ℕ → Type 0) (xs : List ℕ) (j m : ℕ) → AllByRecursion P xs → slice_get xs j ≡ Some m → P m
All-at P [] j m a e = absurd (some-is-not-none e) where
  some-is-not-none : None ≡ Some m → ⊥
  some-is-not-none h = true≢false (ap (λ (r : Option ℕ). elim r [ None ↦ true | Some x ↦ false ]) h)
All-at P (x ∷ xs) zero m a e = let same : x ≡ m = cc in subst P same a.0
All-at P (x ∷ xs) (suc j) m a e = All-at P xs j m a.1 e

-- ---- one choice

-- the later choice has what the earlier one has, in the same order, and what it has beyond these the test passes
pub record Grows (test : ℕ → Bool) (c d : Choice) : Type 0 where
  pub kept : (n : ℕ) → Marked c n → Marked d n
  pub prefix : (j m : ℕ) → j < length c.order → slice_get d.order j ≡ Some m → slice_get c.order j ≡ Some m
  pub longer : length c.order ≤ length d.order
  pub least : AllByRecursion (λ n. test n ≡ true) c.order → AllByRecursion (λ n. test n ≡ true) d.order

module _ (size : ℕ) (c : Choice) (n : ℕ) (one : AreOne size c) (inside : n < size) where
  abbrev new : Choice
  new = record { marks = set c.marks n true; order = c.order ++ n ∷ [] }

  within : n < length c.marks
  within = subst (λ k. n < k) (sym one.sized) inside

  its : Marked new n
  its = get_or-set_at c.marks n n true false refl within

  kept : (m : ℕ) → Marked c m → Marked new m
  kept m h = by_case (nat_eq m n) refl where
    by_case : (b : Bool) → nat_eq m n ≡ b → Marked new m
    by_case true e = subst (Marked new) (sym (eqb-true m n e)) its
    by_case false e = get_or-set_other c.marks n m true false (λ same. true≢false (sym (eq-eqb m n same) ∙ e)) ∙ h

  ordered : (m : ℕ) → Marked new m → (j : ℕ) × (slice_get new.order j ≡ Some m)
  ordered m h = by_case (nat_eq m n) refl where
    by_case : (b : Bool) → nat_eq m n ≡ b → (j : ℕ) × (slice_get new.order j ≡ Some m)
    by_case true e = (length c.order, slice_get-last c.order n ∙ ap Some (sym (eqb-true m n e)))
    by_case false e =
        let old : Marked c m = sym (get_or-set_other c.marks n m true false (λ same. true≢false (sym (eq-eqb m n same) ∙ e))) ∙ h in
        let at = one.ordered m old in
        (at.0, slice_get-prefix c.order (n ∷ []) at.0 m at.1)

  length-push : (xs : List ℕ) → length (xs ++ n ∷ []) ≡ 1 + length xs
  length-push [] = refl
  length-push (x ∷ xs) = let rest = length-push xs in omega (arith, rest)

  pub one-new : is_marked c.marks n ≡ false → AreOne size new
  one-new free = record {
    sized = length-set c.marks n true ∙ one.sized;
    inside = All-push (λ m. m < size) c.order n one.inside inside;
    marked = All-push (Marked new) c.order n (All-more (Marked c) (Marked new) kept c.order one.marked) its;
    ordered = ordered;
    counted = length-push c.order ∙ ap (λ k. 1 + k) one.counted ∙ sym (count-set c.marks n within free);
  }

  pub grows-new : (test : ℕ → Bool) → test n ≡ true → Grows test c new
  grows-new test t = record {
    kept = kept;
    prefix = λ j m. slice_get-within c.order (n ∷ []) j m;
    longer = let l = length-push c.order in omega (arith, l);
    least = λ a. All-push (λ m. test m ≡ true) c.order n a t;
  }

pub grows-self : (test : ℕ → Bool) (c : Choice) → Grows test c c
grows-self test c = record { kept = λ n h. h; prefix = λ j m l e. e; longer = omega arith; least = λ a. a }

pub grows-on : (test : ℕ → Bool) (c d e : Choice) → Grows test c d → Grows test d e → Grows test c e
grows-on test c d e g h = record {
  kept = λ n m. h.kept n (g.kept n m);
  prefix = λ j m l at. let longer = g.longer in g.prefix j m l (h.prefix j m (omega (arith, l, longer)) at);
  longer = let a = g.longer in let b = h.longer in omega (arith, a, b);
  least = λ a. h.least (g.least a);
}

-- what one member more gives
pub record StepsTo (size : ℕ) (test : ℕ → Bool) (c : Choice) (ns : List ℕ) (d : Choice) : Type 0 where
  pub one : AreOne size d
  pub grows : Grows test c d
  pub chosen : AllByRecursion (Marked d) ns

step : (size : ℕ) (test : ℕ → Bool) (c : Choice) (n : ℕ) → AreOne size c → n < size → test n ≡ true → StepsTo size test c (n ∷ []) (with_member c n)
step size test c n one inside t = by_case (is_marked c.marks n) refl where
  by_case : (b : Bool) → is_marked c.marks n ≡ b
      → StepsTo size test c (n ∷ []) (cond b c (record { marks = set c.marks n true; order = c.order ++ n ∷ [] }))
  by_case true e = record { one = one; grows = grows-self test c; chosen = (e, tt) }
  by_case false e = record { one = one-new size c n one inside e; grows = grows-new size c n one inside test t; chosen = (its size c n one inside, tt) }

-- Members that a test passes, put in one after another: all of them are marked then, and what was not there before passes the test.
pub steps : (size : ℕ) (test : ℕ → Bool) (c : Choice) (ns : List ℕ) → AreOne size c → AllByRecursion (λ n. n < size) ns → AllByRecursion (λ n. test n ≡ true) ns
    → StepsTo size test c ns (with_members c ns)
steps size test c [] one inside t = record { one = one; grows = grows-self test c; chosen = tt }
steps size test c (n ∷ ns) one inside t =
    let d = with_member c n in
    let first = step size test c n one inside.0 t.0 in
    let rest = steps size test d ns first.one inside.1 t.1 in
    record {
      one = rest.one;
      grows = grows-on test c d (with_members d ns) first.grows rest.grows;
      chosen = (rest.grows.kept n first.chosen.0, rest.chosen);
    }

-- ---- choices one after another

pub with_members-append : (c : Choice) (ms ns : List ℕ) → with_members c (ms ++ ns) ≡ with_members (with_members c ms) ns
with_members-append c [] ns = refl
with_members-append c (m ∷ ms) ns = with_members-append (with_member c m) ms ns

with_member-length : (c : Choice) (n : ℕ) → length (with_member c n).marks ≡ length c.marks
with_member-length c n = by_case (is_marked c.marks n) where
  by_case : (b : Bool) → length (cond b c (record { marks = set c.marks n true; order = c.order ++ n ∷ [] })).marks ≡ length c.marks
  by_case true = refl
  by_case false = length-set c.marks n true

pub with_members-length : (c : Choice) (ns : List ℕ) → length (with_members c ns).marks ≡ length c.marks
with_members-length c [] = refl
with_members-length c (n ∷ ns) = with_members-length (with_member c n) ns ∙ with_member-length c n

-- one element more adds what it gives
pub all_more : {X : Type 0} (f : X → List ℕ) (c : Choice) (xs : List X) (i : ℕ) (d : X) → i < length xs
    → with_members c (flat_map f (take (i + 1) xs)) ≡ with_members (with_members c (flat_map f (take i xs))) (f (get_or xs i d))
all_more f c xs i d inside =
    ap (λ its. with_members c (flat_map f its)) (take_more xs i d inside)
    ∙ ap (with_members c) (flat_map-append f (take i xs) (get_or xs i d ∷ []))
    ∙ ap (λ its. with_members c (flat_map f (take i xs) ++ its)) (append-nil (f (get_or xs i d)))
    ∙ with_members-append c (flat_map f (take i xs)) (f (get_or xs i d))

pub positions_from-push : (n : ℕ) (marks : List Bool) (b : Bool) → positions_from n (marks ++ b ∷ [])
    ≡ (if b then positions_from n marks ++ (n + length marks) ∷ [] else positions_from n marks)
positions_from-push n [] true = let e : n ≡ n + 0 = omega arith in ap (λ k. k ∷ []) e
positions_from-push n [] false = refl
positions_from-push n (true ∷ marks) true = let e : suc n + length marks ≡ n + length (true ∷ marks) = omega arith in
    ap (λ rest. n ∷ rest) (positions_from-push (suc n) marks true ∙ ap (λ k. positions_from (suc n) marks ++ k ∷ []) e)
positions_from-push n (true ∷ marks) false = ap (λ rest. n ∷ rest) (positions_from-push (suc n) marks false)
positions_from-push n (false ∷ marks) true = let e : suc n + length marks ≡ n + length (false ∷ marks) = omega arith in
    positions_from-push (suc n) marks true ∙ ap (λ k. positions_from (suc n) marks ++ k ∷ []) e
positions_from-push n (false ∷ marks) false = positions_from-push (suc n) marks false

pub positions-more : (marks : List Bool) (i : ℕ) (d : Bool) → i < length marks
    → positions_from 0 (take (i + 1) marks) ≡ (if get_or marks i d then positions_from 0 (take i marks) ++ i ∷ [] else positions_from 0 (take i marks))
positions-more marks i d inside =
    let e : 0 + length (take i marks) ≡ i = grind (arith, common_steps, inside) in
    ap (positions_from 0) (take_more marks i d inside)
    ∙ positions_from-push 0 (take i marks) (get_or marks i d)
    ∙ ap (λ k. if get_or marks i d then positions_from 0 (take i marks) ++ k ∷ [] else positions_from 0 (take i marks)) e
