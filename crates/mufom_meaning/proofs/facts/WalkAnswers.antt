-- What the walk returns is a fact, and facts of the walk are returned.
use Rattle.std.proofs.Common.{◌≡◌, ℕ, zero, suc, ◌+◌, ◌<◌, ◌≤◌, ◌⊎◌, inl, inr, List, [], ◌∷◌, map, Option, Some, None, Bool, true, false, ◌||◌, refl}
use Rattle.std.proofs.Common.{sym, ◌∙◌, ap, subst, arith}
use Rattle.std.specs.Prelude.{slice_get, nat_lt, nat_le, ◌%◌, ◌==◌, if◌then◌else◌, IsTrue}
use Rattle.std.specs.List.{enumerate_from}
use Rattle.mufom_expr.specs.Tree.{Tree}
use Rattle.mufom_loads.specs.declared.load.Item.{Item}
use Rattle.mufom_loads.specs.declared.load.Item.TheVariants.{Literal, Field}
use Rattle.mufom_loads.specs.Lengths.{byte_count}
use Rattle.mufom_module.specs.declared.module.Parts.{Parts}
use Rattle.mufom_place.specs.Facts.{◌or_else◌, first_some}
use Rattle.mufom_meaning.specs.declared.located.Site.{Site}
use Rattle.mufom_meaning.specs.declared.located.Site.TheVariants as sites
use Rattle.mufom_meaning.specs.Flat.{Sited}
use Rattle.mufom_meaning.specs.Values.{Setting, value, has_zero_divisor}
use Rattle.mufom_meaning.specs.Steps.{Step, counter_step, item_step, steps, counter}
use Rattle.mufom_meaning.specs.Facts.{LocateFact, zero_divisor, load_outside, loaded_twice, overflow, placement, undefined, common_unplaced, cycle, image_limit}
use Rattle.mufom_meaning.specs.Stands.{StandsIn, put_back, IsStepAfter, IsLoadedAt, HasZeroDivisor, StandsInWalk}
use Rattle.mufom_meaning.specs.Walk.{zero_divisor_at, public_fact, counted_from, has_number, outside_at, first_twice, addresses_at, loaded_addresses}
use Rattle.mufom_meaning.specs.Walk.{overflow_at, field_fact, size_at, item_fact, step_fact, steps_fact, start_trees, debug_trees, start_fact}
use Rattle.mufom_meaning.specs.Walk.{debug_fact, walk_answer, base_number}
use Rattle.mufom_meaning.specs.Fields.{fits}
use Rattle.mufom_meaning.proofs.facts.Answers.{or_else_some, or_else_none, first_some_at, first_some_none, numbers}
use Rattle.mufom_numbers.proofs.Choices.{of_lt, is_lt}
use Rattle.mufom_meaning.proofs.Tests.{enumerate_get, get_enumerate, le_of, of_le, chosen_some, chosen_none, either, either_false}

counted_get : (n start q z : ℕ) → slice_get (counted_from n start) q ≡ Some z → (q < n) × (z ≡ start + q)
counted_get zero start q z e = absurd cc
counted_get (suc n) start zero z e = let same : start ≡ z = cc in (omega arith, omega (arith, same))
counted_get (suc n) start (suc q) z e = let rest = counted_get n (suc start) q z e in (omega (arith, rest.0), omega (arith, rest.1))

get_counted : (n start q : ℕ) → q < n → slice_get (counted_from n start) q ≡ Some (start + q)
get_counted zero start q h = absurd (omega arith)
get_counted (suc n) start zero h = let e : start ≡ start + 0 = omega arith in ap Some e
get_counted (suc n) start (suc q) h =
    let less : q < n = omega (arith, h) in let e : suc start + q ≡ start + suc q = omega arith in get_counted n (suc start) q less ∙ ap Some e

mapped_get : {A B : Type 0} (f : A → B) (xs : List A) (q : ℕ) (b : B) → slice_get (map f xs) q ≡ Some b → (x : A) × (slice_get xs q ≡ Some x) × (f x ≡ b)
mapped_get f [] q b e = absurd cc
mapped_get f (x ∷ xs) zero b e = (x, refl, cc)
mapped_get f (x ∷ xs) (suc q) b e = mapped_get f xs q b e

get_mapped : {A B : Type 0} (f : A → B) (xs : List A) (q : ℕ) (x : A) → slice_get xs q ≡ Some x → slice_get (map f xs) q ≡ Some (f x)
get_mapped f [] q x e = absurd cc
get_mapped f (y ∷ ys) zero x e = let same : y ≡ x = cc in ap (λ z. Some (f z)) same
get_mapped f (y ∷ ys) (suc q) x e = get_mapped f ys q x e

number_at : (ns : List ℕ) (n : ℕ) → has_number ns n ≡ true → StandsIn n ns
number_at [] n e = absurd cc
number_at (m ∷ ms) n e = by_case (m == n) refl e (number_at ms n) where
  by_case : (b : Bool) → (m == n) ≡ b → (b || has_number ms n) ≡ true → (has_number ms n ≡ true → StandsIn n ms) → StandsIn n (m ∷ ms)
  by_case true h e later = (0, ap Some ((numbers m n).0 h))
  by_case false h e later = let found = later e in (suc found.0, found.1)

at_number : (ns : List ℕ) (n i : ℕ) → slice_get ns i ≡ Some n → has_number ns n ≡ true
at_number [] n i e = absurd cc
at_number (m ∷ ms) n zero e = let same : m ≡ n = cc in ap (λ b. b || has_number ms n) ((numbers m n).1 same)
at_number (m ∷ ms) n (suc i) e = after (m == n) (at_number ms n i e) where
  after : (b : Bool) → has_number ms n ≡ true → (b || has_number ms n) ≡ true
  after true h = refl
  after false h = h

-- an address that is before these, or earlier among them
abbrev Earlier : List ℕ → List ℕ → ℕ → ℕ → Type 0
Earlier before xs a q = (has_number before a ≡ true) ⊎ ((p : ℕ) × (p < q) × (slice_get xs p ≡ Some a))

twice_at : (before xs : List ℕ) (fact : LocateFact) → first_twice before xs ≡ Some fact → (q : ℕ) × (a : ℕ) × (slice_get xs q ≡ Some a)
    × (loaded_twice a ≡ fact) × Earlier before xs a q
twice_at before [] fact e = absurd cc
twice_at before (x ∷ xs) fact e = by_case (has_number before x) refl e (twice_at (x ∷ before) xs fact) where
  by_case : (b : Bool) → has_number before x ≡ b → (if b then Some (loaded_twice x) else first_twice (x ∷ before) xs) ≡ Some fact
      → (first_twice (x ∷ before) xs ≡ Some fact → (q : ℕ) × (a : ℕ) × (slice_get xs q ≡ Some a) × (loaded_twice a ≡ fact) × Earlier (x ∷ before) xs a q)
      → (q : ℕ) × (a : ℕ) × (slice_get (x ∷ xs) q ≡ Some a) × (loaded_twice a ≡ fact) × Earlier before (x ∷ xs) a q
  by_case true h e later = (0, x, refl, cc, inl h)
  by_case false h e later = let found = later e in (suc found.0, found.1, found.2, found.3, earlier found.0 found.1 found.4) where
    among : (q a : ℕ) (b : Bool) → (x == a) ≡ b → (b || has_number before a) ≡ true → Earlier before (x ∷ xs) a (suc q)
    among q a true h e = let less : 0 < suc q = omega arith in inr (0, less, ap Some ((numbers x a).0 h))
    among q a false h e = inl e

    earlier : (q a : ℕ) → Earlier (x ∷ before) xs a q → Earlier before (x ∷ xs) a (suc q)
    earlier q a (inl h) = among q a (x == a) refl h
    earlier q a (inr h) = let less : suc h.0 < suc q = omega (arith, h.1) in inr (suc h.0, less, h.2)

-- if none occurs twice, none occurs before
none_before : (before xs : List ℕ) → first_twice before xs ≡ None → (q a : ℕ) → slice_get xs q ≡ Some a → has_number before a ≡ false
none_before before [] e q a h = absurd cc
none_before before (x ∷ xs) e q a h = by_case (has_number before x) refl e q h (none_before (x ∷ before) xs) where
  later_one : (b : Bool) → (b || has_number before a) ≡ false → has_number before a ≡ false
  later_one true e = absurd cc
  later_one false e = e

  by_case : (b : Bool) → has_number before x ≡ b → (if b then Some (loaded_twice x) else first_twice (x ∷ before) xs) ≡ None → (q : ℕ)
      → slice_get (x ∷ xs) q ≡ Some a
      → (first_twice (x ∷ before) xs ≡ None → (k c : ℕ) → slice_get xs k ≡ Some c → has_number (x ∷ before) c ≡ false) → has_number before a ≡ false
  by_case true f e q h later = absurd cc
  by_case false f e zero h later = let same : x ≡ a = cc in ap (has_number before) (sym same) ∙ f
  by_case false f e (suc q) h later = later_one (x == a) (later e q a h)

none_earlier : (before xs : List ℕ) → first_twice before xs ≡ None → (p q a : ℕ) → p < q → slice_get xs p ≡ Some a → slice_get xs q ≡ Some a → ⊥
none_earlier before [] e p q a less x y = cc
none_earlier before (z ∷ xs) e p zero a less x y = omega arith
none_earlier before (z ∷ xs) e zero (suc q) a less x y = by_case (has_number before z) e (none_before (z ∷ before) xs) where
  by_case : (b : Bool) → (if b then Some (loaded_twice z) else first_twice (z ∷ before) xs) ≡ None
      → (first_twice (z ∷ before) xs ≡ None → (k c : ℕ) → slice_get xs k ≡ Some c → has_number (z ∷ before) c ≡ false) → ⊥
  by_case true e later = cc
  by_case false e later = let same : z ≡ a = cc in let none = later e q a y in let there : has_number (z ∷ before) a ≡ true =
      ap (λ b. b || has_number before a) ((numbers z a).1 same) in cc
none_earlier before (z ∷ xs) e (suc p) (suc q) a less x y = by_case (has_number before z) e (none_earlier (z ∷ before) xs) where
  by_case : (b : Bool) → (if b then Some (loaded_twice z) else first_twice (z ∷ before) xs) ≡ None
      → (first_twice (z ∷ before) xs ≡ None → (k l c : ℕ) → k < l → slice_get xs k ≡ Some c → slice_get xs l ≡ Some c → ⊥) → ⊥
  by_case true e later = cc
  by_case false e later = let smaller : p < q = omega (arith, less) in later e p q a smaller x y

module _ (ms : List Parts) (s : Setting) where
  abbrev Walk : LocateFact → Type 0
  Walk = StandsInWalk ms s

  zero_divisor_of : (site : Sited) (pc : Option ℕ) (t : Tree) (place : Site) (fact : LocateFact) → zero_divisor_at s site pc t place ≡ Some fact
      → IsTrue (has_zero_divisor s site pc t) × (zero_divisor place ≡ fact)
  zero_divisor_of site pc t place fact e = chosen_some (has_zero_divisor s site pc t) (zero_divisor place) fact e

  field_sound : (earlier : List Step) (site : Sited) (section a : ℕ) (item : Item) → IsLoadedAt ms s earlier site section a item → (fact : LocateFact)
      → field_fact s site section a item ≡ Some fact → Walk fact
  field_sound earlier site section a (Literal bytes) there fact e = absurd cc
  field_sound earlier site section a (Field kind size t) there fact e = by_case (or_else_some _ _ fact e) where
    by_value : (v : Option ℕ) → value s site (Some a) t ≡ v → overflow_at s.modulus section a kind size v ≡ Some fact → Walk fact
    by_value None f e = absurd cc
    by_value (Some v) f e = fitting (fits s.modulus kind size v) refl e where
      fitting : (b : Bool) → fits s.modulus kind size v ≡ b → (if b then None else Some (overflow section a kind size v)) ≡ Some fact → Walk fact
      fitting true g e = absurd cc
      fitting false g e = let same : overflow section a kind size v ≡ fact = cc in
          subst Walk same (earlier, site, t, there, f, λ h. let fit : fits s.modulus kind size v ≡ true = h in cc)

    by_case : (zero_divisor_at s site (Some a) t (sites.Field section a) ≡ Some fact)
        ⊎ ((zero_divisor_at s site (Some a) t (sites.Field section a) ≡ None)
        × (overflow_at s.modulus section a kind size (value s site (Some a) t) ≡ Some fact)) → Walk fact
    by_case (inl h) = let zero_there = zero_divisor_of site (Some a) t (sites.Field section a) fact h in
        subst Walk zero_there.1 (earlier, site, kind, t, size, there, zero_there.0)
    by_case (inr h) = by_value (value s site (Some a) t) refl h.1

  item_sound : (earlier : List Step) (site : Sited) (section : ℕ) (item : Item) → IsStepAfter ms earlier (item_step site section item) → (fact : LocateFact)
      → (at : Option ℕ) → counter s earlier section ≡ at → item_fact s earlier site section at item ≡ Some fact → Walk fact
  item_sound earlier site section item after fact None c e = absurd cc
  item_sound earlier site section item after fact (Some a) c e = first (or_else_some _ _ fact e) where
    there : IsLoadedAt ms s earlier site section a item
    there = (after, c)

    outside : (first_some (outside_at s.modulus section (base_number s section) (size_at s section)) (counted_from (byte_count item) a) ≡ Some fact) → Walk fact
    outside h =
        let found = first_some_at (outside_at s.modulus section (base_number s section) (size_at s section)) (counted_from (byte_count item) a) fact h in
        let at = counted_get (byte_count item) a found.1.0 found.0 found.1.1 in
        let test = chosen_some (nat_lt found.0 (base_number s section)
        || nat_le (base_number s section + size_at s section) found.0) (load_outside section (found.0 % s.modulus)) fact found.2 in
        subst Walk test.1 (
          earlier,
          site,
          a,
          found.1.0,
          item,
          there,
          at.0,
          side found.0 found.1.0 at.1 (either (nat_lt found.0 (base_number s section)) (nat_le (base_number s section + size_at s section) found.0)
              test.0),
          ap (λ z. z % s.modulus) at.1,
        ) where
          side : (z q : ℕ) → z ≡ a + q → (nat_lt z (base_number s section) ≡ true) ⊎ (nat_le (base_number s section + size_at s section) z ≡ true)
              → (a + q < base_number s section) ⊎ (base_number s section + size_at s section ≤ a + q)
          side z q same (inl h) = inl (of_lt _ _ (ap (λ n. nat_lt n (base_number s section)) (sym same) ∙ h))
          side z q same (inr h) = inr (le_of _ _ (ap (nat_le (base_number s section + size_at s section)) (sym same) ∙ h))

    twice : first_twice (loaded_addresses s earlier) (addresses_at s.modulus (Some a) item) ≡ Some fact → Walk fact
    twice h =
        let found = twice_at (loaded_addresses s earlier) (addresses_at s.modulus (Some a) item) fact h in
        let from = mapped_get (λ z. z % s.modulus) (counted_from (byte_count item) a) found.0 found.1 found.2 in
        let at = counted_get (byte_count item) a found.0 from.0 from.1 in
        let address : found.1 ≡ (a + found.0) % s.modulus = sym from.2 ∙ ap (λ z. z % s.modulus) at.1 in
        subst Walk found.3 (earlier, site, section, a, found.0, item, there, at.0, address, before found.0 found.1 found.4) where
          before : (q b : ℕ) → Earlier (loaded_addresses s earlier) (addresses_at s.modulus (Some a) item) b q
              → StandsIn b (loaded_addresses s earlier) ⊎ ((p : ℕ) × (p < q) × (b ≡ (a + p) % s.modulus))
          before q b (inl h) = inl (number_at (loaded_addresses s earlier) b h)
          before q b (inr h) =
              let from = mapped_get (λ z. z % s.modulus) (counted_from (byte_count item) a) h.0 b h.2 in
              let at = counted_get (byte_count item) a h.0 from.0 from.1 in inr (h.0, h.1, sym from.2 ∙ ap (λ z. z % s.modulus) at.1)

    second : (first_twice (loaded_addresses s earlier) (addresses_at s.modulus (Some a) item) ≡ Some fact)
        ⊎ ((first_twice (loaded_addresses s earlier) (addresses_at s.modulus (Some a) item) ≡ None) × (field_fact s site section a item ≡ Some fact))
        → Walk fact
    second (inl h) = twice h
    second (inr h) = field_sound earlier site section a item there fact h.1

    first : (first_some (outside_at s.modulus section (base_number s section) (size_at s section)) (counted_from (byte_count item) a) ≡ Some fact)
        ⊎ ((first_some (outside_at s.modulus section (base_number s section) (size_at s section)) (counted_from (byte_count item) a) ≡ None)
        × ((first_twice (loaded_addresses s earlier) (addresses_at s.modulus (Some a) item) or_else field_fact s site section a item) ≡ Some fact)) → Walk fact
    first (inl h) = outside h
    first (inr h) = second (or_else_some _ _ fact h.1)

  step_sound : (earlier : List Step) (step : Step) → IsStepAfter ms earlier step → (fact : LocateFact) → step_fact s earlier step ≡ Some fact → Walk fact
  step_sound earlier (counter_step site section t) after fact e =
      let zero_there = zero_divisor_of site (counter s earlier section) t (sites.Counter section) fact e in
      subst Walk zero_there.1 (earlier, site, t, after, zero_there.0)
  step_sound earlier (item_step site section item) after fact e = item_sound earlier site section item after fact (counter s earlier section) refl e

  steps_sound : (earlier more : List Step) → steps ms ≡ put_back earlier more → (fact : LocateFact) → steps_fact s earlier more ≡ Some fact → Walk fact
  steps_sound earlier [] all fact e = absurd cc
  steps_sound earlier (step ∷ more) all fact e = by_case (or_else_some (step_fact s earlier step) (steps_fact s (step ∷ earlier) more) fact e)
      (λ h. steps_sound (step ∷ earlier) more all fact h) where
        by_case : (step_fact s earlier step ≡ Some fact) ⊎ ((step_fact s earlier step ≡ None) × (steps_fact s (step ∷ earlier) more ≡ Some fact))
            → (steps_fact s (step ∷ earlier) more ≡ Some fact → Walk fact) → Walk fact
        by_case (inl h) later = step_sound earlier step (more, all) fact h
        by_case (inr h) later = later h.1

  -- what the walk returns holds
  pub walk_sound : (fact : LocateFact) → walk_answer ms s ≡ Some fact → Walk fact
  walk_sound fact e = first (or_else_some _ _ fact e) where
    third : (first_some (start_fact s) (start_trees ms) ≡ Some fact)
        ⊎ ((first_some (start_fact s) (start_trees ms) ≡ None) × (first_some (debug_fact s) (enumerate_from 0 (debug_trees ms)) ≡ Some fact)) → Walk fact
    third (inl h) =
        let found = first_some_at (start_fact s) (start_trees ms) fact h in
        let zero_there = zero_divisor_of found.0.0 None found.0.1 sites.Start fact found.2 in subst Walk zero_there.1 (found.0, found.1, zero_there.0)
    third (inr h) =
        let found = first_some_at (debug_fact s) (enumerate_from 0 (debug_trees ms)) fact h.1 in
        let at = enumerate_get 0 (debug_trees ms) found.1.0 found.0 found.1.1 in
        let number : found.0.0 ≡ found.1.0 = at.0 ∙ (let z : 0 + found.1.0 ≡ found.1.0 = omega arith in z) in
        let zero_there = zero_divisor_of found.0.1.0 None found.0.1.1 (sites.Debug found.0.0) fact found.2 in
        subst Walk zero_there.1 (found.0.1, ap (slice_get (debug_trees ms)) number ∙ at.1, zero_there.0)

    second : (steps_fact s [] (steps ms) ≡ Some fact) ⊎ ((steps_fact s [] (steps ms) ≡ None)
        × ((first_some (start_fact s) (start_trees ms) or_else first_some (debug_fact s) (enumerate_from 0 (debug_trees ms))) ≡ Some fact)) → Walk fact
    second (inl h) = steps_sound [] (steps ms) refl fact h
    second (inr h) = third (or_else_some _ _ fact h.1)

    first : (first_some (public_fact s) s.publics ≡ Some fact) ⊎ ((first_some (public_fact s) s.publics ≡ None)
        × ((steps_fact s [] (steps ms) or_else (first_some (start_fact s) (start_trees ms)
        or_else first_some (debug_fact s) (enumerate_from 0 (debug_trees ms)))) ≡ Some fact)) → Walk fact
    first (inl h) =
        let found = first_some_at (public_fact s) s.publics fact h in
        let zero_there = zero_divisor_of found.0.site None found.0.entry.value (sites.Public found.0.entry.name) fact found.2 in
        subst Walk zero_there.1 (found.0, found.1, refl, zero_there.0)
    first (inr h) = second (or_else_some _ _ fact h.1)

  steps_back : (earlier more : List Step) → steps_fact s [] (put_back earlier more) ≡ None → steps_fact s earlier more ≡ None
  steps_back [] more e = e
  steps_back (step ∷ earlier) more e = (or_else_none (step_fact s earlier step) (steps_fact s (step ∷ earlier) more) (steps_back earlier (step ∷ more) e)).1

  step_none : steps_fact s [] (steps ms) ≡ None → (earlier : List Step) (step : Step) → IsStepAfter ms earlier step → step_fact s earlier step ≡ None
  step_none e earlier step after =
      (or_else_none (step_fact s earlier step) (steps_fact s (step ∷ earlier) after.0)
      (steps_back earlier (step ∷ after.0) (ap (steps_fact s []) (sym after.1) ∙ e))).0

  zero_divisor_none : (site : Sited) (pc : Option ℕ) (t : Tree) (place : Site) → zero_divisor_at s site pc t place ≡ None
      → IsTrue (has_zero_divisor s site pc t) → ⊥
  zero_divisor_none site pc t place e h = let not_so = chosen_none (has_zero_divisor s site pc t) (zero_divisor place) e in
      let so : has_zero_divisor s site pc t ≡ true = h in cc

  item_none : steps_fact s [] (steps ms) ≡ None → (earlier : List Step) (site : Sited) (section a : ℕ) (item : Item)
      → IsLoadedAt ms s earlier site section a item → item_fact s earlier site section (Some a) item ≡ None
  item_none e earlier site section a item there =
      ap (λ at. item_fact s earlier site section at item) (sym there.1) ∙ step_none e earlier (item_step site section item) there.0

  field_none : (earlier : List Step) (site : Sited) (section a : ℕ) (item : Item) → item_fact s earlier site section (Some a) item ≡ None
      → field_fact s site section a item ≡ None
  field_none earlier site section a item e =
      let rest = or_else_none (first_some (outside_at s.modulus section (base_number s section) (size_at s section)) (counted_from (byte_count item) a))
      (first_twice (loaded_addresses s earlier) (addresses_at s.modulus (Some a) item) or_else field_fact s site section a item) e in
      (or_else_none (first_twice (loaded_addresses s earlier) (addresses_at s.modulus (Some a) item)) (field_fact s site section a item) rest.1).1

  zero_complete : first_some (public_fact s) s.publics ≡ None → steps_fact s [] (steps ms) ≡ None → first_some (start_fact s) (start_trees ms) ≡ None
      → first_some (debug_fact s) (enumerate_from 0 (debug_trees ms)) ≡ None → (place : Site) → ¬ HasZeroDivisor ms s place
  zero_complete a b c d (sites.Public name) h =
      zero_divisor_none h.0.site None h.0.entry.value (sites.Public h.0.entry.name) (first_some_none (public_fact s) s.publics a h.0 h.1.0 h.1.1) h.3
  zero_complete a b c d (sites.Counter section) h =
      zero_divisor_none h.1 (counter s h.0 section) h.2 (sites.Counter section) (step_none b h.0 (counter_step h.1 section h.2) h.3) h.4
  zero_complete a b c d (sites.Field section at) h =
      let none = item_none b h.0 h.1 section at (Field h.2 h.4 h.3) h.5 in
      let field = or_else_none (zero_divisor_at s h.1 (Some at) h.3 (sites.Field section at))
      (overflow_at s.modulus section at h.2 h.4 (value s h.1 (Some at) h.3))
      (field_none h.0 h.1 section at (Field h.2 h.4 h.3) none) in
      zero_divisor_none h.1 (Some at) h.3 (sites.Field section at) field.0 h.6
  zero_complete a b c d sites.Start h = zero_divisor_none h.0.0 None h.0.1 sites.Start (first_some_none (start_fact s) (start_trees ms) c h.0 h.1.0 h.1.1) h.2
  zero_complete a b c d (sites.Debug n) h =
      let number : 0 + n ≡ n = omega arith in
      let at = get_enumerate 0 (debug_trees ms) n h.0 h.1 in
      zero_divisor_none h.0.0 None h.0.1 (sites.Debug (0 + n)) (first_some_none (debug_fact s) (enumerate_from 0 (debug_trees ms)) d (0 + n, h.0) n at) h.2

  walk_none : first_some (public_fact s) s.publics ≡ None → steps_fact s [] (steps ms) ≡ None → first_some (start_fact s) (start_trees ms) ≡ None
      → first_some (debug_fact s) (enumerate_from 0 (debug_trees ms)) ≡ None → (fact : LocateFact) → ¬ StandsInWalk ms s fact
  walk_none a b c d (zero_divisor place) h = zero_complete a b c d place h
  walk_none a b c d (load_outside section address) h =
      let none = item_none b h.0 h.1 section h.2 h.4 h.5 in
      let outside = (or_else_none _ _ none).0 in
      let at = get_counted (byte_count h.4) h.2 h.3 h.6 in
      let test = first_some_none (outside_at s.modulus section (base_number s section) (size_at s section)) (counted_from (byte_count h.4) h.2)
      outside (h.2 + h.3) h.3 at in
      let not_so = chosen_none (nat_lt (h.2 + h.3) (base_number s section)
      || nat_le (base_number s section + size_at s section) (h.2 + h.3)) (load_outside section ((h.2 + h.3) % s.modulus)) test in
      let two = either_false (nat_lt (h.2 + h.3) (base_number s section)) (nat_le (base_number s section + size_at s section) (h.2 + h.3)) not_so in
      by_side h.7 two.0 two.1 where
        by_side : (h.2 + h.3 < base_number s section) ⊎ (base_number s section + size_at s section ≤ h.2 + h.3)
            → nat_lt (h.2 + h.3) (base_number s section) ≡ false → nat_le (base_number s section + size_at s section) (h.2 + h.3) ≡ false → ⊥
        by_side (inl x) p q = let t = is_lt _ _ x in cc
        by_side (inr x) p q = let t = of_le _ _ x in cc
  walk_none a b c d (loaded_twice address) h =
      let none = item_none b h.0 h.1 h.2 h.3 h.5 h.6 in
      let twice = (or_else_none _ _ (or_else_none _ _ none).1).0 in
      let here = get_mapped (λ z. z % s.modulus) (counted_from (byte_count h.5) h.3) h.4 (h.3 + h.4) (get_counted (byte_count h.5) h.3 h.4 h.7) in
      let at : slice_get (addresses_at s.modulus (Some h.3) h.5) h.4 ≡ Some address = here ∙ ap Some (sym h.8) in
      by_side h.9 twice at where
        by_side : StandsIn address (loaded_addresses s h.0) ⊎ ((p : ℕ) × (p < h.4) × (address ≡ (h.3 + p) % s.modulus))
            → first_twice (loaded_addresses s h.0) (addresses_at s.modulus (Some h.3) h.5) ≡ None
            → slice_get (addresses_at s.modulus (Some h.3) h.5) h.4 ≡ Some address → ⊥
        by_side (inl x) twice at =
            let none = none_before (loaded_addresses s h.0) (addresses_at s.modulus (Some h.3) h.5) twice h.4 address at in let there =
            at_number (loaded_addresses s h.0) address x.0 x.1 in cc
        by_side (inr x) twice at =
            let less : x.0 < byte_count h.5 = omega (arith, x.1, h.7) in
            let there = get_mapped (λ z. z % s.modulus) (counted_from (byte_count h.5) h.3) x.0 (h.3 + x.0) (get_counted (byte_count h.5) h.3 x.0 less) in
            none_earlier (loaded_addresses s h.0) (addresses_at s.modulus (Some h.3) h.5) twice x.0 h.4 address x.1 (there ∙ ap Some (sym x.2)) at
  walk_none a b c d (overflow section at kind size v) h =
      let none = item_none b h.0 h.1 section at (Field kind size h.2) h.3 in
      let field = or_else_none (zero_divisor_at s h.1 (Some at) h.2 (sites.Field section at))
      (overflow_at s.modulus section at kind size (value s h.1 (Some at) h.2))
      (field_none h.0 h.1 section at (Field kind size h.2) none) in
      let fit = ap (overflow_at s.modulus section at kind size) (sym h.4) ∙ field.1 in
      h.5 (fitting (fits s.modulus kind size v) refl fit) where
        fitting : (t : Bool) → fits s.modulus kind size v ≡ t → (if t then None else Some (overflow section at kind size v)) ≡ None
            → IsTrue (fits s.modulus kind size v)
        fitting true g e = g
        fitting false g e = absurd cc
  walk_none a b c d (placement refusal) h = h
  walk_none a b c d (undefined name) h = h
  walk_none a b c d (common_unplaced name) h = h
  walk_none a b c d (cycle name) h = h
  walk_none a b c d (image_limit count) h = h

  -- if the walk returns nothing, no fact of the walk holds
  pub walk_complete : walk_answer ms s ≡ None → (fact : LocateFact) → ¬ StandsInWalk ms s fact
  walk_complete e fact h =
      let a = or_else_none (first_some (public_fact s) s.publics) _ e in
      let b = or_else_none (steps_fact s [] (steps ms)) _ a.1 in
      let c = or_else_none (first_some (start_fact s) (start_trees ms)) _ b.1 in
      walk_none a.0 b.0 c.0 c.1 fact h
