-- What remains of a module without a defect has none.
use Rattle.std.proofs.Common.{◌≡◌, ℕ, suc, ◌^◌, List, [], ◌∷◌, map, filter, slice_get, Option, Some, None, inl, inr, Bool, true, false, cond, refl}
use Rattle.std.proofs.Common.{sym, ap, ◌∙◌, arith}
use Rattle.std.specs.Prelude.{option_map, option_to_list}
use Rattle.std.specs.List.{list_any, find, AllByRecursion}
use Rattle.mufom_expr.specs.Tree.{Tree}
use Rattle.mufom_expr.specs.Value.{variables_of}
use Rattle.mufom_names.specs.declared.name.Public.{Public}
use Rattle.mufom_loads.specs.declared.load.Item.{Item}
use Rattle.mufom_loads.specs.declared.load.Item.TheVariants.{Literal, Field}
use Rattle.mufom_loads.specs.declared.load.Load.{Load}
use Rattle.mufom_loads.specs.declared.load.Load.TheVariants.{SetSection, SetPc, One, Repeat}
use Rattle.mufom_module.specs.declared.module.Parts.{Parts}
use Rattle.mufom_module.specs.declared.module.Defect.TheVariants as kinds
use Rattle.mufom_module.specs.Written.{weight}
use Rattle.mufom_module.specs.Contents.{any_of, any_expression, any_item, load_any, debug_marks, placed_loads, placed_from, current_after}
use Rattle.mufom_module.specs.Defects.{IsValid, has_defect, defects, is_long, has_long_name, is_long_literal, has_bad_size, counts_of, is_outside}
use Rattle.mufom_module.specs.Defects.{names_outside, names_no_section, has_bad_place, has_bad_mark, has_other_counter, misplaces_counter}
use Rattle.mufom_select.specs.Choice.{is_marked}
use Rattle.mufom_meaning.proofs.Tests.{either_false}
use Rattle.mufom_numbers.proofs.Choices.{two_false, of_not_le, not_le}
use Rattle.mufom_meaning.proofs.NoDefects.{no_defect}
use Rattle.mufom_meaning.proofs.WithoutDefect.{inside, load_inside}
use Rattle.mufom_meaning.proofs.Members.{In, In-at, fails-In, none-In, filter-In}
use Rattle.mufom_meaning.proofs.facts.Cycles.{list_any-agrees}
use Rattle.mufom_meaning.proofs.staging.JoinedEntries.{list_any-mapped}
use Rattle.mufom_prune.specs.Reached.{HasAll}
use Rattle.mufom_prune.specs.Kept.{mentions, load_trees, IsKeptFor}
use Rattle.mufom_prune.specs.Pruned.{remaining, positions_of, new_tree, new_public, new_item, new_load, stays, remains, remaining_loads, without_others}
use Rattle.mufom_prune.proofs.KeptLaws.{all_at, new_inside, new_section, variable_kept, public_mentions, load_mentions, start_mentions}
use Rattle.mufom_prune.proofs.PrunedPlaces.{load_was, load_fails, tree_fails, tree_counter, loads_keep}
use Rattle.mufom_prune.proofs.PrunedWeight.{pruned_weighs}

find-nothing : {A : Type 0} (p : A → Bool) (xs : List A) → AllByRecursion (λ x. p x ≡ false) xs → find p xs ≡ None
find-nothing p [] h = refl
find-nothing p (x ∷ xs) h = ap (λ b. cond b (Some x) (find p xs)) h.0 ∙ find-nothing p xs h.1

-- ---- what remains is of the module

pub remaining-at : {X : Type 0} (marks : List Bool) (xs : List X) (x : X) → In x (remaining marks xs) → (n : ℕ) × (slice_get xs n ≡ Some x)
    × (is_marked marks n ≡ true)
remaining-at [] xs x h = absurd h
remaining-at (mark ∷ marks) [] x h = absurd h
remaining-at (true ∷ marks) (y ∷ xs) x (inl same) = (0, ap Some same, refl)
remaining-at (true ∷ marks) (y ∷ xs) x (inr h) = let rest = remaining-at marks xs x h in (suc rest.0, rest.1, rest.2)
remaining-at (false ∷ marks) (y ∷ xs) x h = let rest = remaining-at marks xs x h in (suc rest.0, rest.1, rest.2)

none-remaining : {X : Type 0} (test : X → Bool) (marks : List Bool) (xs : List X) → list_any test xs ≡ false → list_any test (remaining marks xs) ≡ false
none-remaining test marks xs e = none-In test (remaining marks xs) (λ x h. let at = remaining-at marks xs x h in fails-In test xs e x (In-at x xs at.0 at.1))

pub filter-passes : {X : Type 0} (p : X → Bool) (x : X) (xs : List X) → In x (filter p xs) → p x ≡ true
filter-passes p x [] h = absurd h
filter-passes p x (y ∷ xs) h = by_case (p y) refl h (filter-passes p x xs) where
  by_case : (b : Bool) → p y ≡ b → In x (cond b (y ∷ filter p xs) (filter p xs)) → (In x (filter p xs) → p x ≡ true) → p x ≡ true
  by_case true e (inl same) later = ap p (sym same) ∙ e
  by_case true e (inr h) later = later h
  by_case false e h later = later h

pub placed-In : (current : Option ℕ) (loads : List Load) (p : Option ℕ × Load) → In p (placed_from current loads) → In p.1 loads
placed-In current [] p h = absurd h
placed-In current (load ∷ loads) p (inl same) = inl (ap (λ (q : Option ℕ × Load). q.1) same)
placed-In current (load ∷ loads) p (inr h) = inr (placed-In (current_after current load) loads p h)

module _ (m : Parts) (names staying : List (List ℕ)) (marks : List Bool) (kept : IsKeptFor m names staying marks) (valid : IsValid m) where
  -- a test that fails at each load that remains
  loads_fail : (test : Load → Bool) → ((p : Option ℕ × Load) → In p (placed_loads m) → stays (remains m marks).sections p ≡ true
      → test (new_load (positions_of (remains m marks)) p.1) ≡ false)
      → list_any test (remaining_loads (remains m marks).sections (positions_of (remains m marks)) (placed_loads m)) ≡ false
  loads_fail test each =
      let c = remains m marks in
      list_any-mapped test (λ (p : Option ℕ × Load). new_load (positions_of c) p.1) (filter (stays c.sections) (placed_loads m))
      ∙ none-In (λ (p : Option ℕ × Load). test (new_load (positions_of c) p.1)) (filter (stays c.sections) (placed_loads m))
      (λ p h. each p (filter-In (stays c.sections) p (placed_loads m) h) (filter-passes (stays c.sections) p (placed_loads m) h))

  publics_fail : (test : Public → Bool) → ((n : ℕ) (p : Public) → slice_get m.names.publics n ≡ Some p → is_marked (remains m marks).publics n ≡ true
      → test (new_public (positions_of (remains m marks)) p) ≡ false)
      → list_any test (map (new_public (positions_of (remains m marks))) (remaining (remains m marks).publics m.names.publics)) ≡ false
  publics_fail test each =
      let c = remains m marks in
      list_any-mapped test (new_public (positions_of c)) (remaining c.publics m.names.publics)
      ∙ none-In (λ p. test (new_public (positions_of c) p)) (remaining c.publics m.names.publics)
      (λ p h. let at = remaining-at c.publics m.names.publics p h in each at.0 p at.1 at.2)

  start_fails : (test : Tree → Bool) → ((t : Tree) → In t (option_to_list m.start) → test (new_tree (positions_of (remains m marks)) t) ≡ false)
      → any_of test (option_map (new_tree (positions_of (remains m marks))) m.start) ≡ false
  start_fails test each = by_case m.start each where
    by_case : (o : Option Tree) → ((t : Tree) → In t (option_to_list o) → test (new_tree (positions_of (remains m marks)) t) ≡ false)
        → any_of test (option_map (new_tree (positions_of (remains m marks))) o) ≡ false
    by_case None each = refl
    by_case (Some t) each = each t (inl refl)

  -- ---- strings

  long_id : has_defect (without_others m (remains m marks)) kinds.LongId ≡ false
  long_id =
      let c = remains m marks in
      let all = no_defect m valid kinds.LongId in
      let a = either_false (is_long m.processor) _ all in
      let b = either_false (is_long m.name) _ a.1 in
      let d = either_false (list_any (λ s. is_long s.name) m.sections) _ b.1 in
      let e = either_false (list_any (λ p. is_long p.name) m.names.publics) _ d.1 in
      let f = either_false (list_any (λ r. is_long r.name) m.names.references) (list_any has_long_name (debug_marks m)) e.1 in
      two_false (is_long m.processor) _ a.0 (
      two_false (is_long m.name) _ b.0 (
      two_false (list_any (λ s. is_long s.name) (remaining c.sections m.sections)) _ (none-remaining (λ s. is_long s.name) c.sections m.sections d.0) (
      two_false (list_any (λ p. is_long p.name) (map (new_public (positions_of c)) (remaining c.publics m.names.publics))) _
      (publics_fail (λ p. is_long p.name) (λ n p at h. fails-In (λ p. is_long p.name) m.names.publics e.0 p (In-at p m.names.publics n at))) (
      two_false (list_any (λ r. is_long r.name) (remaining c.references m.names.references)) _
      (none-remaining (λ r. is_long r.name) c.references m.names.references f.0) refl))))

  -- ---- positions

  tree_inside : (t : Tree) → names_outside (counts_of m) t ≡ false → HasAll (is_marked marks) (mentions m t)
      → names_outside (counts_of (without_others m (remains m marks))) (new_tree (positions_of (remains m marks)) t) ≡ false
  tree_inside t low all =
      tree_fails (positions_of (remains m marks)) (is_outside (counts_of (without_others m (remains m marks)))) t
      (λ v h. new_inside m names staying marks kept v (inside m t low v h)
      (variable_kept m names staying marks kept t all v h (fails-In (is_outside (counts_of m)) (variables_of t) low v h)))

  places_of : list_any (λ p. names_outside (counts_of m) p.value) m.names.publics ≡ false
  places_of = (either_false (list_any (λ p. names_outside (counts_of m) p.value) m.names.publics) _ (no_defect m valid kinds.Position)).0

  start_of : any_of (names_outside (counts_of m)) m.start ≡ false
  start_of =
      let all = no_defect m valid kinds.Position in
      let a = either_false (list_any (λ p. names_outside (counts_of m) p.value) m.names.publics) _ all in
      let b = either_false (list_any (has_bad_place (counts_of m)) m.loads) _ a.1 in
      let c = either_false (list_any (has_bad_mark (counts_of m)) (debug_marks m)) _ b.1 in
      (either_false (any_of (names_outside (counts_of m)) m.start) _ c.1).0

  start_test : (test : Tree → Bool) → any_of test m.start ≡ false → (t : Tree) → In t (option_to_list m.start) → test t ≡ false
  start_test test e = by_case m.start e where
    by_case : (o : Option Tree) → any_of test o ≡ false → (t : Tree) → In t (option_to_list o) → test t ≡ false
    by_case None e t h = absurd h
    by_case (Some u) e t (inl same) = ap test (sym same) ∙ e
    by_case (Some u) e t (inr h) = absurd h

  section_place : (p : Option ℕ × Load) → stays (remains m marks).sections p ≡ true
      → names_no_section (counts_of (without_others m (remains m marks))) (new_load (positions_of (remains m marks)) p.1) ≡ false
  section_place (current, SetSection s) h = new_section m names staying marks kept s h
  section_place (current, SetPc s t) h = new_section m names staying marks kept s h
  section_place (current, One item) h = refl
  section_place (current, Repeat count items) h = refl

  load_place : (p : Option ℕ × Load) → In p (placed_loads m) → stays (remains m marks).sections p ≡ true
      → has_bad_place (counts_of (without_others m (remains m marks))) (new_load (positions_of (remains m marks)) p.1) ≡ false
  load_place p h left =
      let good = load_inside m valid p.1 (placed-In None m.loads p h) in
      let low = (either_false (names_no_section (counts_of m) p.1) (load_any (names_outside (counts_of m)) p.1) good).1 in
      two_false (names_no_section (counts_of (without_others m (remains m marks))) (new_load (positions_of (remains m marks)) p.1)) _ (section_place p left)
      (load_fails (positions_of (remains m marks)) (names_outside (counts_of (without_others m (remains m marks)))) p.1
      (λ t k. tree_inside t (load_was (names_outside (counts_of m)) p.1 low t k)
      (all_at (is_marked marks) (mentions m) (load_trees p.1) t (load_mentions m names staying marks kept p h left) k)))

  position : has_defect (without_others m (remains m marks)) kinds.Position ≡ false
  position =
      let M = without_others m (remains m marks) in
      two_false (list_any (λ p. names_outside (counts_of M) p.value) M.names.publics) _
      (publics_fail (λ p. names_outside (counts_of M) p.value)
      (λ n p at h. tree_inside p.value (fails-In (λ p. names_outside (counts_of m) p.value) m.names.publics places_of p
      (In-at p m.names.publics n at)) (public_mentions m names staying marks kept n p at h))) (
      two_false (list_any (has_bad_place (counts_of M)) M.loads) _ (loads_fail (has_bad_place (counts_of M)) load_place) (
      two_false (any_of (names_outside (counts_of M)) M.start) _
      (start_fails (names_outside (counts_of M)) (λ t h. tree_inside t (start_test (names_outside (counts_of m)) start_of t h)
      (start_mentions m names staying marks kept t h))) refl))

  -- ---- program counters and sections of loads

  misplaced : (has_defect (without_others m (remains m marks)) kinds.MisplacedP ≡ false)
      × (has_defect (without_others m (remains m marks)) kinds.NoSection ≡ false)
  misplaced =
      let c = remains m marks in
      let new = positions_of c in
      let M = without_others m c in
      let all = no_defect m valid kinds.MisplacedP in
      let a = either_false (list_any (λ p. has_other_counter None p.value) m.names.publics) _ all in
      let b = either_false (any_of (has_other_counter None) m.start) _ a.1 in
      let d = either_false (list_any (any_expression (has_other_counter None)) (debug_marks m)) (list_any misplaces_counter (placed_loads m)) b.1 in
      let loads = loads_keep new c.sections m.loads None None (λ s e h. absurd cc) d.1 in (
        two_false (list_any (λ p. has_other_counter None p.value) M.names.publics) _
            (publics_fail (λ p. has_other_counter None p.value) (λ n p at h. tree_counter new None p.value
            (fails-In (λ p. has_other_counter None p.value) m.names.publics a.0 p (In-at p m.names.publics n at)))) (
            two_false (any_of (has_other_counter None) M.start) _ (start_fails (has_other_counter None)
            (λ t h. tree_counter new None t (start_test (has_other_counter None) b.0 t h))) loads.0),
        loads.1,
      )

  -- ---- items

  items_same : (test : Item → Bool) → ((item : Item) → test (new_item (positions_of (remains m marks)) item) ≡ test item) → (load : Load)
      → any_item test (new_load (positions_of (remains m marks)) load) ≡ any_item test load
  items_same test same (SetSection section) = refl
  items_same test same (SetPc section t) = refl
  items_same test same (One item) = same item
  items_same test same (Repeat count items) = list_any-mapped test (new_item (positions_of (remains m marks))) items
      ∙ list_any-agrees (λ item. test (new_item (positions_of (remains m marks)) item)) test same items

  items_fail : (test : Item → Bool) → ((item : Item) → test (new_item (positions_of (remains m marks)) item) ≡ test item)
      → list_any (any_item test) m.loads ≡ false
      → list_any (any_item test) (remaining_loads (remains m marks).sections (positions_of (remains m marks)) (placed_loads m)) ≡ false
  items_fail test same e = loads_fail (any_item test) (λ p h left. items_same test same p.1
      ∙ fails-In (any_item test) m.loads e p.1 (placed-In None m.loads p h))

  long_item : (item : Item) → is_long_literal (new_item (positions_of (remains m marks)) item) ≡ is_long_literal item
  long_item (Literal bytes) = refl
  long_item (Field kind size t) = refl

  size_item : (item : Item) → has_bad_size (new_item (positions_of (remains m marks)) item) ≡ has_bad_size item
  size_item (Literal bytes) = refl
  size_item (Field kind size t) = refl

  too_heavy : has_defect (without_others m (remains m marks)) kinds.Weight ≡ false
  too_heavy =
      let light = of_not_le (2 ^ 32) (weight m) (no_defect m valid kinds.Weight) in
      let less = pruned_weighs m (remains m marks) in
      not_le (2 ^ 32) (weight (without_others m (remains m marks))) (omega (arith, light, less))

  pub pruned_valid : IsValid (without_others m (remains m marks))
  pruned_valid =
      let c = remains m marks in
      find-nothing (has_defect (without_others m c)) defects (
        refl,
        (
          long_id,
          (
            no_defect m valid kinds.BadMaus,
            (
              none-remaining _ c.sections m.sections (no_defect m valid kinds.BadAlign),
              (
                none-remaining _ c.sections m.sections (no_defect m valid kinds.MissingBase),
                (
                  position,
                  (
                    misplaced.0,
                    (
                      misplaced.1,
                      (
                        items_fail is_long_literal long_item (no_defect m valid kinds.LongRun),
                        (items_fail has_bad_size size_item (no_defect m valid kinds.FieldSize), (refl, (refl, (too_heavy, tt)))),
                      ),
                    ),
                  ),
                ),
              ),
            ),
          ),
        ),
      )
