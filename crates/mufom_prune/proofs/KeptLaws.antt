-- What is kept, list by list: what a kept entry mentions is kept.
use Rattle.std.proofs.Common.{◌≡◌, ℕ, zero, suc, ◌+◌, ◌<◌, ◌≤◌, List, [], ◌∷◌, ◌++◌, length, map, flat_map, take, drop, get_or, slice_get}
use Rattle.std.proofs.Common.{option_to_list, Option, Some, None, inl, inr, Bool, true, false, ◌||◌, ◌&&◌, if◌then◌else◌, refl, sym, ap, subst, ◌∙◌}
use Rattle.std.proofs.Common.{true≢false, arith, rules, eq-eqb}
use Rattle.std.specs.Prelude.{nat_le, option_map}
use Rattle.std.proofs.lemmas.List.{get_or-take, get_or-drop, length-map}
use Rattle.std.proofs.lemmas.Option.{slice_get-map}
use Rattle.mufom_expr.specs.declared.token.Letter.{Letter}
use Rattle.mufom_expr.specs.declared.token.Letter.TheVariants as letters
use Rattle.mufom_expr.specs.Tree.{Tree}
use Rattle.mufom_expr.specs.Value.{variables_of}
use Rattle.mufom_sections.specs.declared.section.Section.{Section}
use Rattle.mufom_names.specs.declared.name.Public.{Public}
use Rattle.mufom_names.specs.declared.name.Reference.{Reference}
use Rattle.mufom_loads.specs.declared.load.Load.{Load}
use Rattle.mufom_module.specs.declared.module.Parts.{Parts}
use Rattle.mufom_module.specs.Contents.{placed_loads}
use Rattle.mufom_module.specs.Defects.{counts_of, count_for, is_outside, is_this}
use Rattle.mufom_select.specs.Choice.{is_marked}
use Rattle.mufom_meaning.specs.Flat.{is_common}
use Rattle.mufom_plan.specs.Names.{has_name}
use Rattle.mufom_meaning.proofs.Members.{In}
use Rattle.mufom_prune.specs.Reached.{HasAll}
use Rattle.mufom_prune.specs.Kept.{first_for, entry_of, mentions, all_mentions, load_trees, home, mentions_for, section_needs, staying_from, all_named, named, needs, IsKeptFor}
use Rattle.mufom_prune.specs.Pruned.{remaining, new_positions, positions_of, new_variable, new_public, is_left, stays, remains, without_others}
use Rattle.mufom_prune.specs.Pruned.{with_commons, remaining_names}
use Rattle.mufom_prune.specs.Steps.{entry_count}
use Rattle.mufom_prune.proofs.NeedLaws.{length-needs, length-section_needs}
use Rattle.mufom_prune.proofs.RemainLaws.{length-commons}

-- ---- lists

pub length_take : {X : Type 0} (n : ℕ) (xs : List X) → n ≤ length xs → length (take n xs) ≡ n
length_take zero xs low = refl
length_take (suc n) [] low = absurd (omega (arith, low))
length_take (suc n) (x ∷ xs) low = ap suc (length_take n xs (omega (arith, low)))

pub length_drop : {X : Type 0} (n k : ℕ) (xs : List X) → length xs ≡ n + k → length (drop n xs) ≡ k
length_drop zero k xs e = omega (arith, e)
length_drop (suc n) k [] e = absurd (omega (arith, e))
length_drop (suc n) k (x ∷ xs) e = length_drop n k xs (omega (arith, e))

pub marked_inside : (marks : List Bool) (n : ℕ) → is_marked marks n ≡ true → n < length marks
marked_inside [] n e = absurd (true≢false (sym e))
marked_inside (b ∷ marks) zero e = omega arith
marked_inside (b ∷ marks) (suc n) e = let rest = marked_inside marks n e in omega (arith, rest)

pub new_below : {X : Type 0} (k : ℕ) (marks : List Bool) (xs : List X) (n : ℕ) → length marks ≡ length xs → is_marked marks n ≡ true
    → get_or (new_positions k marks) n 0 < k + length (remaining marks xs)
new_below k [] xs n same e = absurd (true≢false (sym e))
new_below k (mark ∷ marks) [] n same e = absurd (omega (arith, same))
new_below k (true ∷ marks) (x ∷ xs) zero same e = omega arith
new_below k (true ∷ marks) (x ∷ xs) (suc n) same e = let rest = new_below (suc k) marks xs n (omega (arith, same)) e in omega (arith, rest)
new_below k (false ∷ marks) (x ∷ xs) zero same e = absurd (true≢false (sym e))
new_below k (false ∷ marks) (x ∷ xs) (suc n) same e = new_below k marks xs n (omega (arith, same)) e

pub commons_marked : (names : List (List ℕ)) (marks : List Bool) (references : List Reference) (n : ℕ) → length marks ≡ length references
    → is_marked marks n ≡ true
    → is_marked (with_commons names marks references) n ≡ true
commons_marked names [] references n same e = absurd (true≢false (sym e))
commons_marked names (mark ∷ marks) [] n same e = absurd (omega (arith, same))
commons_marked names (mark ∷ marks) (r ∷ references) zero same e = ap (λ b. b || (is_common r && has_name names r.name)) e
commons_marked names (mark ∷ marks) (r ∷ references) (suc n) same e = commons_marked names marks references n (omega (arith, same)) e

pub all_left : (has : ℕ → Bool) (xs ys : List ℕ) → HasAll has (xs ++ ys) → HasAll has xs
all_left has [] ys a = tt
all_left has (x ∷ xs) ys a = (a.0, all_left has xs ys a.1)

pub all_right : (has : ℕ → Bool) (xs ys : List ℕ) → HasAll has (xs ++ ys) → HasAll has ys
all_right has [] ys a = a
all_right has (x ∷ xs) ys a = all_right has xs ys a.1

-- what holds of all that a list gives holds of what one element gives
pub all_at : {X : Type 0} (has : ℕ → Bool) (f : X → List ℕ) (xs : List X) (x : X) → HasAll has (flat_map f xs) → In x xs → HasAll has (f x)
all_at has f [] x a h = absurd h
all_at has f (y ∷ ys) x a (inl same) = subst (λ z. HasAll has (f z)) same (all_left has (f y) (flat_map f ys) a)
all_at has f (y ∷ ys) x a (inr h) = all_at has f ys x (all_right has (f y) (flat_map f ys) a) h

get_left : {X : Type 0} (xs ys : List X) (n : ℕ) (x : X) → slice_get xs n ≡ Some x → slice_get (xs ++ ys) n ≡ Some x
get_left [] ys n x e = absurd cc
get_left (y ∷ xs) ys zero x e = e
get_left (y ∷ xs) ys (suc n) x e = get_left xs ys n x e

get_right : {X : Type 0} (xs ys : List X) (k n : ℕ) → k ≡ length xs → slice_get (xs ++ ys) (k + n) ≡ slice_get ys n
get_right [] ys k n e = let same : k + n ≡ n = omega (arith, e) in ap (slice_get ys) same
get_right (x ∷ xs) ys zero n e = absurd (omega (arith, e))
get_right (x ∷ xs) ys (suc k) n e = let same : suc k + n ≡ suc (k + n) = omega arith in ap (slice_get (x ∷ (xs ++ ys))) same
    ∙ get_right xs ys k n (omega (arith, e))

section_needs_at : (m : Parts) (placed : List (Option ℕ × Load)) (k : ℕ) (sections : List Section) (n : ℕ) → n < length sections
    → slice_get (section_needs m placed k sections) n ≡ Some (flat_map (mentions_for m (k + n)) placed)
section_needs_at m placed k [] n low = absurd (omega (arith, low))
section_needs_at m placed k (s ∷ sections) zero low = let same : k ≡ k + 0 = omega arith in ap (λ i. Some (flat_map (mentions_for m i) placed)) same
section_needs_at m placed k (s ∷ sections) (suc n) low =
    let same : suc k + n ≡ k + suc n = omega arith in
    section_needs_at m placed (suc k) sections n (omega (arith, low)) ∙ ap (λ i. Some (flat_map (mentions_for m i) placed)) same

not_outside : (n k : ℕ) → k < n → nat_le n k ≡ false
not_outside n k less = search rules

-- ---- what is kept

module _ (m : Parts) (names staying : List (List ℕ)) (marks : List Bool) (kept : IsKeptFor m names staying marks) where
  sized : length marks ≡ entry_count m
  sized = kept.sized ∙ length-needs m

  pub sections_sized : length (remains m marks).sections ≡ length m.sections
  sections_sized = length_take (length m.sections) marks (omega (arith, sized))

  later_sized : length (drop (length m.sections) marks) ≡ length m.names.publics + length m.names.references
  later_sized = length_drop (length m.sections) (length m.names.publics + length m.names.references) marks sized

  pub publics_sized : length (remains m marks).publics ≡ length m.names.publics
  publics_sized = length_take (length m.names.publics) (drop (length m.sections) marks) (omega (arith, later_sized))

  pub mentioned_sized : length (drop (length m.names.publics) (drop (length m.sections) marks)) ≡ length m.names.references
  mentioned_sized = length_drop (length m.names.publics) (length m.names.references) (drop (length m.sections) marks) later_sized

  pub references_sized : length (remains m marks).references ≡ length m.names.references
  references_sized =
      let marks' = drop (length m.names.publics) (drop (length m.sections) marks) in
      length-commons (remaining_names marks' m.names.references) marks' m.names.references mentioned_sized

  pub section_kept : (n : ℕ) → n < length m.sections → is_marked marks n ≡ true → is_marked (remains m marks).sections n ≡ true
  section_kept n low h = get_or-take (length m.sections) marks n false low ∙ h

  pub section_was : (n : ℕ) → is_marked (remains m marks).sections n ≡ true → (n < length m.sections) × (is_marked marks n ≡ true)
  section_was n h =
      let inside = marked_inside (remains m marks).sections n h in
      let low : n < length m.sections = omega (arith, inside, sections_sized) in
      (low, sym (get_or-take (length m.sections) marks n false low) ∙ h)

  pub public_kept : (n : ℕ) → n < length m.names.publics → is_marked marks (length m.sections + n) ≡ true → is_marked (remains m marks).publics n ≡ true
  public_kept n low h = get_or-take (length m.names.publics) (drop (length m.sections) marks) n false low ∙ get_or-drop (length m.sections) marks n false ∙ h

  pub public_was : (n : ℕ) → is_marked (remains m marks).publics n ≡ true → is_marked marks (length m.sections + n) ≡ true
  public_was n h =
      let inside = marked_inside (remains m marks).publics n h in
      let low : n < length m.names.publics = omega (arith, inside, publics_sized) in
      sym (get_or-drop (length m.sections) marks n false) ∙ sym (get_or-take (length m.names.publics) (drop (length m.sections) marks) n false low) ∙ h

  pub mention_kept : (n : ℕ) → is_marked marks (length m.sections + length m.names.publics + n) ≡ true
      → is_marked (drop (length m.names.publics) (drop (length m.sections) marks)) n ≡ true
  mention_kept n h =
      let at : length m.sections + (length m.names.publics + n) ≡ length m.sections + length m.names.publics + n = omega arith in
      get_or-drop (length m.names.publics) (drop (length m.sections) marks) n false
      ∙ get_or-drop (length m.sections) marks (length m.names.publics + n) false
      ∙ ap (is_marked marks) at ∙ h

  pub reference_kept : (n : ℕ) → is_marked marks (length m.sections + length m.names.publics + n) ≡ true → is_marked (remains m marks).references n ≡ true
  reference_kept n h =
      let marks' = drop (length m.names.publics) (drop (length m.sections) marks) in
      commons_marked (remaining_names marks' m.names.references) marks' m.names.references n mentioned_sized (mention_kept n h)

  section_inside : (n : ℕ) → n < length m.sections → is_marked marks n ≡ true
      → nat_le (length (remaining (remains m marks).sections m.sections)) (get_or (new_positions 0 (remains m marks).sections) n 0) ≡ false
  section_inside n low h =
      let c = remains m marks in
      let less = new_below 0 c.sections m.sections n sections_sized (section_kept n low h) in
      not_outside (length (remaining c.sections m.sections)) (get_or (new_positions 0 c.sections) n 0) (omega (arith, less))

  pub new_section : (n : ℕ) → is_marked (remains m marks).sections n ≡ true
      → nat_le (length (remaining (remains m marks).sections m.sections)) (get_or (new_positions 0 (remains m marks).sections) n 0) ≡ false
  new_section n h = let was = section_was n h in section_inside n was.0 was.1

  -- the new position of a kept entry is one of the new lists
  pub new_inside : (v : Letter × ℕ) → v.1 < count_for (counts_of m) v.0 → is_marked marks (first_for m v.0 + v.1) ≡ true
      → is_outside (counts_of (without_others m (remains m marks))) (new_variable (positions_of (remains m marks)) v.0 v.1) ≡ false
  new_inside (letters.I, n) low h =
      let c = remains m marks in
      let less = new_below 0 c.publics m.names.publics n publics_sized (public_kept n low h) in
      let all = length-map (remaining c.publics m.names.publics) (new_public (positions_of c)) in
      not_outside (length (map (new_public (positions_of c)) (remaining c.publics m.names.publics))) (get_or (new_positions 0 c.publics) n 0)
      (omega (arith, less, all))
  new_inside (letters.L, n) low h = let from : 0 + n ≡ n = omega arith in section_inside n low (ap (is_marked marks) (sym from) ∙ h)
  new_inside (letters.P, n) low h = let from : 0 + n ≡ n = omega arith in section_inside n low (ap (is_marked marks) (sym from) ∙ h)
  new_inside (letters.R, n) low h = let from : 0 + n ≡ n = omega arith in section_inside n low (ap (is_marked marks) (sym from) ∙ h)
  new_inside (letters.S, n) low h = let from : 0 + n ≡ n = omega arith in section_inside n low (ap (is_marked marks) (sym from) ∙ h)
  new_inside (letters.X, n) low h =
      let c = remains m marks in
      let less = new_below 0 c.references m.names.references n references_sized (reference_kept n h) in
      not_outside (length (remaining c.references m.names.references)) (get_or (new_positions 0 c.references) n 0) (omega (arith, less))

  -- ---- mentions

  -- a variable of an expression whose mentions are kept
  pub variable_kept : (t : Tree) → HasAll (is_marked marks) (mentions m t) → (v : Letter × ℕ) → In v (variables_of t) → is_outside (counts_of m) v ≡ false
      → is_marked marks (first_for m v.0 + v.1) ≡ true
  variable_kept t all v h low = by_case (is_outside (counts_of m) v) low
      (all_at (is_marked marks) (λ v. option_to_list (entry_of m v)) (variables_of t) v all h) where
        by_case : (b : Bool) → b ≡ false → HasAll (is_marked marks) (option_to_list (if b then None else Some (first_for m v.0 + v.1)))
            → is_marked marks (first_for m v.0 + v.1) ≡ true
        by_case true e h = absurd (true≢false e)
        by_case false e h = h.0

  needs_section : (n : ℕ) → n < length m.sections → slice_get (needs m) n ≡ Some (flat_map (mentions_for m n) (placed_loads m))
  needs_section n low =
      let from : 0 + n ≡ n = omega arith in
      get_left (section_needs m (placed_loads m) 0 m.sections) _ n _ (section_needs_at m (placed_loads m) 0 m.sections n low
      ∙ ap (λ i. Some (flat_map (mentions_for m i) (placed_loads m))) from)

  needs_public : (n : ℕ) (p : Public) → slice_get m.names.publics n ≡ Some p → slice_get (needs m) (length m.sections + n) ≡ Some (mentions m p.value)
  needs_public n p e =
      get_right (section_needs m (placed_loads m) 0 m.sections) _ (length m.sections) n (sym (length-section_needs m (placed_loads m) 0 m.sections))
      ∙ get_left (map (λ (p : Public). mentions m p.value) m.names.publics) _ n (mentions m p.value)
      (slice_get-map (λ (p : Public). mentions m p.value) m.names.publics n ∙ ap (option_map (λ (p : Public). mentions m p.value)) e)

  needs_reference : (n : ℕ) (r : Reference) → slice_get m.names.references n ≡ Some r
      → slice_get (needs m) (length m.sections + length m.names.publics + n) ≡ Some (option_to_list (named m r.name))
  needs_reference n r e =
      let second = map (λ (p : Public). mentions m p.value) m.names.publics in
      let third = map (λ (r : Reference). option_to_list (named m r.name)) m.names.references in
      let at : length m.sections + length m.names.publics + n ≡ length m.sections + (length m.names.publics + n) = omega arith in
      ap (slice_get (needs m)) at
      ∙ get_right (section_needs m (placed_loads m) 0 m.sections) (second
      ++ third) (length m.sections) (length m.names.publics + n) (sym (length-section_needs m (placed_loads m) 0 m.sections))
      ∙ get_right second third (length m.names.publics) n (sym (length-map m.names.publics (λ (p : Public). mentions m p.value)))
      ∙ slice_get-map (λ (r : Reference). option_to_list (named m r.name)) m.names.references n
      ∙ ap (option_map (λ (r : Reference). option_to_list (named m r.name))) e

  -- what the value of a kept public mentions is kept
  pub public_mentions : (n : ℕ) (p : Public) → slice_get m.names.publics n ≡ Some p → is_marked (remains m marks).publics n ≡ true
      → HasAll (is_marked marks) (mentions m p.value)
  public_mentions n p e h = kept.closed.further (length m.sections + n) (mentions m p.value) (public_was n h) (needs_public n p e)

  -- the public of a kept reference's name is kept
  pub reference_names : (n : ℕ) (r : Reference) → slice_get m.names.references n ≡ Some r
      → is_marked marks (length m.sections + length m.names.publics + n) ≡ true
      → HasAll (is_marked marks) (option_to_list (named m r.name))
  reference_names n r e h = kept.closed.further (length m.sections + length m.names.publics + n) (option_to_list (named m r.name)) h (needs_reference n r e)

  -- what a load that remains mentions is kept
  pub load_mentions : (p : Option ℕ × Load) → In p (placed_loads m) → stays (remains m marks).sections p ≡ true
      → HasAll (is_marked marks) (all_mentions m (load_trees p.1))
  load_mentions p h left = by_home (home p.0 p.1) refl left where
    here : (s : ℕ) (o : Option ℕ) → o ≡ Some s → HasAll (is_marked marks) (if is_this o s then all_mentions m (load_trees p.1) else [])
        → HasAll (is_marked marks) (all_mentions m (load_trees p.1))
    here s o e a =
        let its : is_this o s ≡ true = ap (λ o. is_this o s) e ∙ eq-eqb s s refl in
        subst (λ b. HasAll (is_marked marks) (if b then all_mentions m (load_trees p.1) else [])) its a

    by_home : (o : Option ℕ) → home p.0 p.1 ≡ o → is_left (remains m marks).sections o ≡ true → HasAll (is_marked marks) (all_mentions m (load_trees p.1))
    by_home None e left = absurd (true≢false (sym left))
    by_home (Some s) e left =
        let was = section_was s left in
        let all = kept.closed.further s (flat_map (mentions_for m s) (placed_loads m)) was.1 (needs_section s was.0) in
        here s (home p.0 p.1) e (all_at (is_marked marks) (mentions_for m s) (placed_loads m) p all h)

  -- what the start mentions is kept
  pub start_mentions : (t : Tree) → In t (option_to_list m.start) → HasAll (is_marked marks) (mentions m t)
  start_mentions t h =
      let all = all_right (is_marked marks) (all_named m names) _ (all_right (is_marked marks) (staying_from staying 0 m.sections) _ kept.closed.rooted) in
      all_at (is_marked marks) (mentions m) (option_to_list m.start) t all h
