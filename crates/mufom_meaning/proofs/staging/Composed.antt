-- The link of a list with a group linked is the link of the flat list.
use Rattle.std.proofs.Common.{◌||◌, ◌≡◌, ℕ, suc, ◌+◌, List, [], ◌∷◌, ◌++◌, map, length, Option, Some, None, Bool, true, false, not, refl, sym, ◌∙◌}
use Rattle.std.proofs.Common.{ap, subst, add_assoc, flat_map, zero-add, arith}
use Rattle.std.specs.Prelude.{option_to_list, option_map, slice_get, if◌then◌else◌, filter}
use Rattle.std.specs.Str.{bytes_eq}
use Rattle.std.proofs.lemmas.Grind.{flat_map-append}
use Rattle.std.proofs.lemmas.List.{length-map}
use Rattle.mufom_expr.specs.declared.token.Letter.{Letter}
use Rattle.mufom_expr.specs.declared.token.Letter.TheVariants as letters
use Rattle.mufom_expr.specs.Tree.{Tree, number, variable, one, two}
use Rattle.mufom_expr.specs.Value.{with_variables}
use Rattle.mufom_names.specs.declared.name.Public.{Public}
use Rattle.mufom_names.specs.declared.name.Reference.{Reference}
use Rattle.mufom_names.specs.Names.{AreDistinct}
use Rattle.mufom_loads.specs.declared.load.Item.{Item}
use Rattle.mufom_loads.specs.declared.load.Item.TheVariants.{Literal, Field}
use Rattle.mufom_loads.specs.declared.load.Load.{Load}
use Rattle.mufom_loads.specs.declared.load.Load.TheVariants.{SetSection, SetPc, One, Repeat}
use Rattle.mufom_debug.specs.declared.item.BlockHead.{BlockHead}
use Rattle.mufom_debug.specs.declared.item.BlockHead.TheVariants as heads
use Rattle.mufom_debug.specs.Marks.{DebugMark, block_begin, block_end, name_mark, note_mark, value_mark, marks_of}
use Rattle.mufom_module.specs.declared.module.Parts.{Parts}
use Rattle.mufom_plan.specs.Names.{has_name}
use Rattle.mufom_meaning.specs.Flat.{Sited, sited, flat_sections, flat_publics, flat_references, unresolved_references, public_names, distinct}
use Rattle.mufom_meaning.specs.Joined.{IsJoined, HasHeaderOf, HasFirstHeader, position_of, same_reference, kept_references, joined_reference}
use Rattle.mufom_meaning.specs.Joined.{joined_variable, joined_tree, joined_public, joined_item, joined_load, joined_head, joined_mark}
use Rattle.mufom_meaning.specs.StagingLaws.{JoinedComposes}
use Rattle.mufom_meaning.proofs.Paired.{Paired}
use Rattle.mufom_meaning.proofs.staging.Moved.{shifted, IsOfGroup}
use Rattle.mufom_meaning.proofs.References.{Among, Among-filter, Among-distinct, get-position_of, get-length, same_reference-decides}
use Rattle.mufom_meaning.proofs.Sites.{next_public, next_public-length}
use Rattle.mufom_meaning.proofs.Names.{has_name-turned, names_of-sited_publics, absent_before, has_name-append_left, has_name-append_right}
use Rattle.mufom_meaning.proofs.staging.Groups.{paired_joined, are_of_group, home_of, paired_sites}
use Rattle.mufom_meaning.proofs.staging.Settings.{same_sections}
use Rattle.mufom_meaning.proofs.staging.Needs.{unresolved_by, kept_unresolved, among_all, group_references, link_unresolved, same_names}
use Rattle.mufom_meaning.proofs.Distinct.{filter-append, distinct-distinct, distinct-between}
use Rattle.mufom_meaning.proofs.staging.Staging.{equal_lists, equal_maps}

with_variables-twice : (f g : Letter → ℕ → Letter × ℕ) (t : Tree) → with_variables f (with_variables g t) ≡ with_variables (λ l n. f (g l n).0 (g l n).1) t
with_variables-twice f g (number n) = refl
with_variables-twice f g (variable l n) = refl
with_variables-twice f g (one h a) = ap (one h) (with_variables-twice f g a)
with_variables-twice f g (two h a b) =
    ap (λ x. two h x (with_variables f (with_variables g b))) (with_variables-twice f g a)
    ∙ ap (two h (with_variables (λ l n. f (g l n).0 (g l n).1) a)) (with_variables-twice f g b)

with_variables-agrees : (f g : Letter → ℕ → Letter × ℕ) → ((l : Letter) (n : ℕ) → f l n ≡ g l n) → (t : Tree) → with_variables f t ≡ with_variables g t
with_variables-agrees f g same (number n) = refl
with_variables-agrees f g same (variable l n) = ap (λ v. variable v.0 v.1) (same l n)
with_variables-agrees f g same (one h a) = ap (one h) (with_variables-agrees f g same a)
with_variables-agrees f g same (two h a b) = ap (λ x. two h x (with_variables f b)) (with_variables-agrees f g same a)
    ∙ ap (two h (with_variables g a)) (with_variables-agrees f g same b)

-- the position of a name past names that are others, and in the prefix that has it
position_of-skip : (xs ys : List (List ℕ)) (s : List ℕ) → has_name xs s ≡ false → position_of (λ x. bytes_eq x s) (xs ++ ys)
    ≡ length xs + position_of (λ x. bytes_eq x s) ys
position_of-skip [] ys s h = sym (zero-add _)
position_of-skip (x ∷ xs) ys s h = by_case (bytes_eq x s) (sym (has_name-turned x xs s) ∙ h) (position_of-skip xs ys s) where
  by_case : (b : Bool) → (b || has_name xs s) ≡ false
      → (has_name xs s ≡ false → position_of (λ x. bytes_eq x s) (xs ++ ys) ≡ length xs + position_of (λ x. bytes_eq x s) ys)
      → (if b then 0 else suc (position_of (λ x. bytes_eq x s) (xs ++ ys))) ≡ suc (length xs) + position_of (λ x. bytes_eq x s) ys
  by_case true e later = absurd cc
  by_case false e later = let rest = later e in omega (arith, rest)

position_of-prefix : (xs ys : List (List ℕ)) (s : List ℕ) → has_name xs s ≡ true → position_of (λ x. bytes_eq x s) (xs ++ ys)
    ≡ position_of (λ x. bytes_eq x s) xs
position_of-prefix [] ys s h = absurd cc
position_of-prefix (x ∷ xs) ys s h = by_case (bytes_eq x s) (sym (has_name-turned x xs s) ∙ h) (position_of-prefix xs ys s) where
  by_case : (b : Bool) → (b || has_name xs s) ≡ true
      → (has_name xs s ≡ true → position_of (λ x. bytes_eq x s) (xs ++ ys) ≡ position_of (λ x. bytes_eq x s) xs)
      → (if b then 0 else suc (position_of (λ x. bytes_eq x s) (xs ++ ys))) ≡ (if b then 0 else suc (position_of (λ x. bytes_eq x s) xs))
  by_case true e later = refl
  by_case false e later = ap suc (later e)

module _ (M : Parts) (ms : List Parts) (name : List ℕ) (j : IsJoined M ms name) (before after : List Parts)
    (names : AreDistinct (public_names (before ++ (ms ++ after)))) where
  abbrev linked : List Parts
  linked = before ++ (M ∷ after)

  abbrev flat : List Parts
  flat = before ++ (ms ++ after)

  abbrev home : Sited
  home = home_of M before

  split_names : public_names flat ≡ public_names before ++ (public_names ms ++ public_names after)
  split_names = flat_map-append _ before (ms ++ after) ∙ ap (λ more. public_names before ++ more) (flat_map-append _ ms after)

  abbrev unresolved : Reference → Bool
  unresolved = unresolved_by (public_names flat)

  unresolved_around : (rs : List Reference) → filter unresolved (flat_references before ++ (rs ++ flat_references after))
      ≡ filter unresolved (flat_references before) ++ (filter unresolved rs ++ filter unresolved (flat_references after))
  unresolved_around rs =
      filter-append unresolved (flat_references before) (rs ++ flat_references after)
      ∙ ap (λ more. filter unresolved (flat_references before) ++ more) (filter-append unresolved rs (flat_references after))

  -- the same references are left
  same_kept : kept_references linked ≡ kept_references flat
  same_kept =
      let group : distinct same_reference (filter unresolved (kept_references ms)) ≡ distinct same_reference (filter unresolved (flat_references ms))
      = ap (distinct same_reference) (kept_unresolved ms (public_names flat) (among_all M ms name j before after) (flat_references before)
      (flat_references after))
      ∙ distinct-distinct same_reference same_reference-decides (filter unresolved (flat_references ms)) in
      ap (distinct same_reference) (link_unresolved M ms name j before after ∙ unresolved_around (kept_references ms))
      ∙ distinct-between same_reference same_reference-decides (filter unresolved (flat_references before)) (filter unresolved (kept_references ms))
      (filter unresolved (flat_references ms)) (filter unresolved (flat_references after)) group
      ∙ ap (distinct same_reference) (sym (unresolved_around (flat_references ms)) ∙ ap (filter unresolved) (sym (group_references M ms name j before after)))

  count_before : next_public 0 before ≡ length (public_names before)
  count_before =
      next_public-length 0 0 0 before ∙ zero-add _ ∙ sym (length-map (flat_publics before) (λ q. q.entry.name))
      ∙ ap length (names_of-sited_publics 0 0 0 before)

  -- the place of a name of the group among all names
  place_in_all : (s : List ℕ) → has_name (public_names ms) s ≡ true
      → next_public 0 before + position_of (λ x. bytes_eq x s) (public_names ms) ≡ position_of (λ x. bytes_eq x s) (public_names flat)
  place_in_all s met =
      let following : has_name (public_names ms ++ public_names after) s ≡ true = has_name-append_left (public_names ms) (public_names after) s met in
      let absent : has_name (public_names before) s ≡ false
      = absent_before (public_names before) (public_names ms ++ public_names after) s (subst AreDistinct split_names names) following in
      ap (λ n. n + position_of (λ x. bytes_eq x s) (public_names ms)) count_before
      ∙ ap (λ n. length (public_names before) + n) (sym (position_of-prefix (public_names ms) (public_names after) s met))
      ∙ sym (position_of-skip (public_names before) (public_names ms ++ public_names after) s absent)
      ∙ ap (position_of (λ x. bytes_eq x s)) (sym split_names)

  in_all : (s : List ℕ) → has_name (public_names ms) s ≡ true → has_name (public_names flat) s ≡ true
  in_all s met = ap (λ all. has_name all s) split_names
      ∙ has_name-append_right (public_names before) (public_names ms
      ++ public_names after) s (has_name-append_left (public_names ms) (public_names after) s met)

  -- outside the group a reference becomes the same
  same_reference_here : (r : Option Reference) → joined_reference linked r ≡ joined_reference flat r
  same_reference_here None = ap (λ rs. (letters.X, length rs)) same_kept
  same_reference_here (Some r) =
      ap (λ all. if has_name all r.name then (letters.I, position_of (λ x. bytes_eq x r.name) all)
      else (letters.X, position_of (same_reference r) (kept_references linked))) (same_names M ms name j before after)
      ∙ ap (λ rs. if has_name (public_names flat) r.name then (letters.I, position_of (λ x. bytes_eq x r.name) (public_names flat))
      else (letters.X, position_of (same_reference r) rs)) same_kept

  variable_here : (site : Sited) (l : Letter) (n : ℕ) → joined_variable linked site l n ≡ joined_variable flat site l n
  variable_here site letters.R n = refl
  variable_here site letters.L n = refl
  variable_here site letters.S n = refl
  variable_here site letters.P n = refl
  variable_here site letters.I n = refl
  variable_here site letters.X n = same_reference_here (slice_get site.parts.names.references n)

  -- in the group a reference becomes the same, in two steps or in one
  kept_reference : (site : Sited) → IsOfGroup ms site → (n : ℕ) (r : Reference) → slice_get site.parts.names.references n ≡ Some r
      → has_name (public_names ms) r.name ≡ false → (q : Reference)
      × (slice_get M.names.references (position_of (same_reference r) (kept_references ms)) ≡ Some q) × (r ≡ q)
  kept_reference site within n r e fails =
      let there : Among r (flat_references ms) = within n r e in
      let left : Among r (unresolved_references ms) =
      Among-filter (λ reference. not (has_name (public_names ms) reference.name)) r (ap not fails) (flat_references ms) there.0 there.1 in
      let kept : Among r (kept_references ms) = Among-distinct same_reference same_reference-decides r (unresolved_references ms) left.0 left.1 in
      let found = get-position_of (same_reference r) r ((same_reference-decides r r).1 refl) (kept_references ms) kept.0 kept.1 in (
        found.0,
        ap (λ rs. slice_get rs (position_of (same_reference r) (kept_references ms))) j.references
            ∙ found.1,
        (same_reference-decides r found.0).0 found.2,
      )

  abbrev again : Letter × ℕ → Letter × ℕ
  again v = joined_variable linked home v.0 v.1

  met_or_not : (site : Sited) → IsOfGroup ms site → (n : ℕ) (r : Reference) → slice_get site.parts.names.references n ≡ Some r → (b : Bool)
      → has_name (public_names ms) r.name ≡ b
      → again (if b then (letters.I, position_of (λ x. bytes_eq x r.name) (public_names ms))
      else (letters.X, position_of (same_reference r) (kept_references ms))) ≡ joined_reference flat (Some r)
  met_or_not site within n r e true met =
      ap (λ place. (letters.I, place)) (place_in_all r.name met)
      ∙ sym (ap (λ b. if b then (letters.I, position_of (λ x. bytes_eq x r.name) (public_names flat))
      else (letters.X, position_of (same_reference r) (kept_references flat))) (in_all r.name met))
  met_or_not site within n r e false fails =
      let found = kept_reference site within n r e fails in
      ap (joined_reference linked) (found.1 ∙ ap Some (sym found.2)) ∙ same_reference_here (Some r)

  reference_there : (site : Sited) → IsOfGroup ms site → (n : ℕ) (r : Option Reference) → slice_get site.parts.names.references n ≡ r
      → again (joined_reference ms r) ≡ joined_reference flat r
  reference_there site within n None e =
      ap (λ rs. joined_reference linked (slice_get rs (length (kept_references ms)))) j.references
      ∙ ap (joined_reference linked) (get-length (kept_references ms)) ∙ same_reference_here None
  reference_there site within n (Some r) e = met_or_not site within n r e (has_name (public_names ms) r.name) refl

  variable_there : (site : Sited) → IsOfGroup ms site → (l : Letter) (n : ℕ) → again (joined_variable ms site l n)
      ≡ joined_variable flat (shifted home site) l n
  variable_there site within letters.R n = ap (λ m. (letters.R, m)) (sym (add_assoc home.first_section site.first_section n))
  variable_there site within letters.L n = ap (λ m. (letters.L, m)) (sym (add_assoc home.first_section site.first_section n))
  variable_there site within letters.S n = ap (λ m. (letters.S, m)) (sym (add_assoc home.first_section site.first_section n))
  variable_there site within letters.P n = ap (λ m. (letters.P, m)) (sym (add_assoc home.first_section site.first_section n))
  variable_there site within letters.I n = ap (λ m. (letters.I, m)) (sym (add_assoc home.first_public site.first_public n))
  variable_there site within letters.X n = reference_there site within n (slice_get site.parts.names.references n) refl

  tree_here : (site : Sited) (t : Tree) → joined_tree linked site t ≡ joined_tree flat site t
  tree_here site t = with_variables-agrees _ _ (variable_here site) t

  tree_there : (site : Sited) → IsOfGroup ms site → (t : Tree) → joined_tree linked home (joined_tree ms site t) ≡ joined_tree flat (shifted home site) t
  tree_there site within t = with_variables-twice (joined_variable linked home) (joined_variable ms site) t
      ∙ with_variables-agrees _ _ (variable_there site within) t

  public_here : (site : Sited) (entry : Public) → joined_public linked site entry ≡ joined_public flat site entry
  public_here site entry = ap (λ t. record { name = entry.name; value = t; notes = entry.notes }) (tree_here site entry.value)

  public_there : (site : Sited) → IsOfGroup ms site → (entry : Public) → joined_public linked home (joined_public ms site entry)
      ≡ joined_public flat (shifted home site) entry
  public_there site within entry = ap (λ t. record { name = entry.name; value = t; notes = entry.notes }) (tree_there site within entry.value)

  item_here : (site : Sited) (item : Item) → joined_item linked site item ≡ joined_item flat site item
  item_here site (Literal bytes) = refl
  item_here site (Field kind size t) = ap (λ u. Field kind size u) (tree_here site t)

  item_there : (site : Sited) → IsOfGroup ms site → (item : Item) → joined_item linked home (joined_item ms site item)
      ≡ joined_item flat (shifted home site) item
  item_there site within (Literal bytes) = refl
  item_there site within (Field kind size t) = ap (λ u. Field kind size u) (tree_there site within t)

  items_here : (site : Sited) (items : List Item) → map (joined_item linked site) items ≡ map (joined_item flat site) items
  items_here site [] = refl
  items_here site (item ∷ items) = let a = item_here site item in let b = items_here site items in λ i. a i ∷ b i

  items_there : (site : Sited) → IsOfGroup ms site → (items : List Item) → map (joined_item linked home) (map (joined_item ms site) items)
      ≡ map (joined_item flat (shifted home site)) items
  items_there site within [] = refl
  items_there site within (item ∷ items) = let a = item_there site within item in let b = items_there site within items in λ i. a i ∷ b i

  moved_section : (site : Sited) (n : ℕ) → home.first_section + (site.first_section + n) ≡ (home.first_section + site.first_section) + n
  moved_section site n = sym (add_assoc home.first_section site.first_section n)

  load_here : (site : Sited) (load : Load) → joined_load linked site load ≡ joined_load flat site load
  load_here site (SetSection n) = refl
  load_here site (SetPc n t) = ap (SetPc (site.first_section + n)) (tree_here site t)
  load_here site (One item) = ap One (item_here site item)
  load_here site (Repeat count items) = ap (Repeat count) (items_here site items)

  load_there : (site : Sited) → IsOfGroup ms site → (load : Load) → joined_load linked home (joined_load ms site load)
      ≡ joined_load flat (shifted home site) load
  load_there site within (SetSection n) = ap SetSection (moved_section site n)
  load_there site within (SetPc n t) = let a = moved_section site n in let b = tree_there site within t in λ i. SetPc (a i) (b i)
  load_there site within (One item) = ap One (item_there site within item)
  load_there site within (Repeat count items) = ap (Repeat count) (items_there site within items)

  head_here : (site : Sited) (head : BlockHead) → joined_head linked site head ≡ joined_head flat site head
  head_here site heads.Module = refl
  head_here site (heads.Global stack type_index offset) = ap (heads.Global stack type_index) (tree_here site offset)
  head_here site (heads.Local stack type_index offset) = ap (heads.Local stack type_index) (tree_here site offset)
  head_here site (heads.Source numbers) = refl
  head_here site (heads.Section section_type section offset) = ap (heads.Section section_type (site.first_section + section)) (tree_here site offset)

  head_there : (site : Sited) → IsOfGroup ms site → (head : BlockHead) → joined_head linked home (joined_head ms site head)
      ≡ joined_head flat (shifted home site) head
  head_there site within heads.Module = refl
  head_there site within (heads.Global stack type_index offset) = ap (heads.Global stack type_index) (tree_there site within offset)
  head_there site within (heads.Local stack type_index offset) = ap (heads.Local stack type_index) (tree_there site within offset)
  head_there site within (heads.Source numbers) = refl
  head_there site within (heads.Section section_type section offset) =
      let a = moved_section site section in let b = tree_there site within offset in λ i. heads.Section section_type (a i) (b i)

  end_here : (site : Sited) (end : Option Tree) → option_map (joined_tree linked site) end ≡ option_map (joined_tree flat site) end
  end_here site None = refl
  end_here site (Some t) = ap Some (tree_here site t)

  end_there : (site : Sited) → IsOfGroup ms site → (end : Option Tree)
      → option_map (joined_tree linked home) (option_map (joined_tree ms site) end) ≡ option_map (joined_tree flat (shifted home site)) end
  end_there site within None = refl
  end_there site within (Some t) = ap Some (tree_there site within t)

  mark_here : (site : Sited) (mark : DebugMark) → joined_mark linked site mark ≡ joined_mark flat site mark
  mark_here site (block_begin head name) = ap (λ h. block_begin h name) (head_here site head)
  mark_here site (block_end end) = ap block_end (end_here site end)
  mark_here site (name_mark name) = refl
  mark_here site (note_mark n note) = refl
  mark_here site (value_mark n t) = ap (value_mark (site.first_name + n)) (tree_here site t)

  mark_there : (site : Sited) → IsOfGroup ms site → (mark : DebugMark) → joined_mark linked home (joined_mark ms site mark)
      ≡ joined_mark flat (shifted home site) mark
  mark_there site within (block_begin head name) = ap (λ h. block_begin h name) (head_there site within head)
  mark_there site within (block_end end) = ap block_end (end_there site within end)
  mark_there site within (name_mark name) = refl
  mark_there site within (note_mark n note) = ap (λ m. note_mark m note) (sym (add_assoc home.first_name site.first_name n))
  mark_there site within (value_mark n t) =
      let a = sym (add_assoc home.first_name site.first_name n) in let b = tree_there site within t in λ i. value_mark (a i) (b i)

  -- the lists of the two links, entry by entry
  module _ {X : Type 0} (entries : Parts → List X) (change : List Parts → Sited → X → X)
      (here : (site : Sited) (x : X) → change linked site x ≡ change flat site x)
      (there : (site : Sited) → IsOfGroup ms site → (x : X) → change linked home (change ms site x) ≡ change flat (shifted home site) x)
      (own : entries M ≡ flat_map (λ site. map (change ms site) (entries site.parts)) (sited ms)) where
    pub same_entries : flat_map (λ site. map (change linked site) (entries site.parts)) (sited linked)
        ≡ flat_map (λ site. map (change flat site) (entries site.parts)) (sited flat)
    same_entries =
        equal_lists _ _ (paired_sites M ms name j before after (λ x y. x
        ≡ y) (λ site. map (change linked site) (entries site.parts)) (λ site. map (change flat site) (entries site.parts))
        (λ site. equal_maps (change linked site) (change flat site) (here site) (entries site.parts))
        (subst (λ xs. Paired (λ x y. x ≡ y) (map (change linked home) xs)
        (flat_map (λ site. map (change flat (shifted home site)) (entries site.parts)) (sited ms))) (sym own)
        (paired_joined (λ x y. x ≡ y) (λ site. entries site.parts) (change ms) (change linked home) (λ site. change flat (shifted home site))
        (IsOfGroup ms) there (sited ms) (are_of_group 0 0 0 ms))))

header_of : (N M m : Parts) → HasHeaderOf M m → HasHeaderOf N M → HasHeaderOf N m
header_of N M m h k = record {
  processor = k.processor ∙ h.processor;
  maus = k.maus ∙ h.maus;
  order = k.order ∙ h.order;
  ext = k.ext ∙ h.ext;
  env = k.env ∙ h.env;
}

header_back : (N M m : Parts) → HasHeaderOf M m → HasHeaderOf N m → HasHeaderOf N M
header_back N M m h k = record {
  processor = k.processor ∙ sym h.processor;
  maus = k.maus ∙ sym h.maus;
  order = k.order ∙ sym h.order;
  ext = k.ext ∙ sym h.ext;
  env = k.env ∙ sym h.env;
}

header_flat : (N M : Parts) (ms : List Parts) → HasFirstHeader M ms → (before after : List Parts) → HasFirstHeader N (before ++ (M ∷ after))
    → HasFirstHeader N (before ++ (ms ++ after))
header_flat N M [] h [] after k = absurd h
header_flat N M (m ∷ ms) h [] after k = header_of N M m h k
header_flat N M ms h (b ∷ before) after k = k

header_linked : (N M : Parts) (ms : List Parts) → HasFirstHeader M ms → (before after : List Parts) → HasFirstHeader N (before ++ (ms ++ after))
    → HasFirstHeader N (before ++ (M ∷ after))
header_linked N M [] h [] after k = absurd h
header_linked N M (m ∷ ms) h [] after k = header_back N M m h k
header_linked N M ms h (b ∷ before) after k = k

-- links of links are links of the flat list
pub joined_composes : JoinedComposes
joined_composes M N ms before after inner outer j valid descriptors names = (
  λ k. record {
    named = k.named;
    header = header_flat N M ms j.header before after k.header;
    sections = k.sections ∙ sections;
    publics = k.publics ∙ publics;
    references = k.references ∙ references;
    loads = k.loads ∙ loads;
    start = k.start ∙ start;
    debug = k.debug ∙ debug;
  },
  λ k. record {
    named = k.named;
    header = header_linked N M ms j.header before after k.header;
    sections = k.sections ∙ sym sections;
    publics = k.publics ∙ sym publics;
    references = k.references ∙ sym references;
    loads = k.loads ∙ sym loads;
    start = k.start ∙ sym start;
    debug = k.debug ∙ sym debug;
  },
) where
  sections : flat_sections (before ++ (M ∷ after)) ≡ flat_sections (before ++ (ms ++ after))
  sections = same_sections M ms inner j before after

  publics : flat_map (λ site. map (joined_public (before ++ (M ∷ after)) site) site.parts.names.publics) (sited (before ++ (M ∷ after)))
      ≡ flat_map (λ site. map (joined_public (before ++ (ms ++ after)) site) site.parts.names.publics) (sited (before ++ (ms ++ after)))
  publics = same_entries M ms inner j before after names (λ m. m.names.publics) joined_public (public_here M ms inner j before after names)
      (public_there M ms inner j before after names) j.publics

  references : kept_references (before ++ (M ∷ after)) ≡ kept_references (before ++ (ms ++ after))
  references = same_kept M ms inner j before after names

  loads : flat_map (λ site. map (joined_load (before ++ (M ∷ after)) site) site.parts.loads) (sited (before ++ (M ∷ after)))
      ≡ flat_map (λ site. map (joined_load (before ++ (ms ++ after)) site) site.parts.loads) (sited (before ++ (ms ++ after)))
  loads = same_entries M ms inner j before after names (λ m. m.loads) joined_load (load_here M ms inner j before after names)
      (load_there M ms inner j before after names) j.loads

  start : flat_map (λ site. map (joined_tree (before ++ (M ∷ after)) site) (option_to_list site.parts.start)) (sited (before ++ (M ∷ after)))
      ≡ flat_map (λ site. map (joined_tree (before ++ (ms ++ after)) site) (option_to_list site.parts.start)) (sited (before ++ (ms ++ after)))
  start = same_entries M ms inner j before after names (λ m. option_to_list m.start) joined_tree (tree_here M ms inner j before after names)
      (tree_there M ms inner j before after names) j.start

  debug : flat_map (λ site. map (joined_mark (before ++ (M ∷ after)) site) (marks_of site.parts.debug)) (sited (before ++ (M ∷ after)))
      ≡ flat_map (λ site. map (joined_mark (before ++ (ms ++ after)) site) (marks_of site.parts.debug)) (sited (before ++ (ms ++ after)))
  debug = same_entries M ms inner j before after names (λ m. marks_of m.debug) joined_mark (mark_here M ms inner j before after names)
      (mark_there M ms inner j before after names) j.debug
