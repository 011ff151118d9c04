-- The facts about a list with a link are those about the flat list.
use Rattle.std.proofs.Common.{sum_by, ◌≡◌, ℕ, ◌+◌, ◌*◌, List, [], ◌∷◌, ◌++◌, map, length, Option, Some, None, true, not, ◌&&◌, refl, sym, ◌∙◌, ap}
use Rattle.std.proofs.Common.{subst, cond, flat_map, length-append, arith, rules}
use Rattle.std.specs.Prelude.{slice_get, unwrap_or, option_map, option_to_list, find, ◌%◌, ◌==◌, if◌then◌else◌}
use Rattle.std.specs.List.{enumerate_from}
use Rattle.std.proofs.lemmas.Grind.{flat_map-append}
use Rattle.std.proofs.lemmas.List.{length-map, map-append}
use Rattle.mufom_expr.specs.declared.token.FieldKind.{FieldKind}
use Rattle.mufom_expr.specs.Tree.{Tree}
use Rattle.mufom_names.specs.Names.{AreDistinct}
use Rattle.mufom_loads.specs.declared.load.Item.{Item}
use Rattle.mufom_loads.specs.declared.load.Item.TheVariants.{Literal, Field}
use Rattle.mufom_loads.specs.declared.load.Load.{Load}
use Rattle.mufom_loads.specs.declared.load.Load.TheVariants.{SetSection, SetPc, One, Repeat}
use Rattle.mufom_loads.specs.Lengths.{byte_count, length_loaded, lengths_loaded}
use Rattle.mufom_debug.specs.declared.item.BlockHead.{BlockHead}
use Rattle.mufom_debug.specs.declared.item.BlockHead.TheVariants as heads
use Rattle.mufom_debug.specs.Marks.{offset_of, DebugMark, block_begin, block_end, name_mark, note_mark, value_mark, marks_of, mark_expressions, expressions_of}
use Rattle.mufom_module.specs.declared.module.Order.{Order}
use Rattle.mufom_module.specs.declared.module.Order.TheVariants.{Least, Most}
use Rattle.mufom_module.specs.declared.module.Parts.{Parts}
use Rattle.mufom_plan.specs.declared.plan.Plan.{Plan}
use Rattle.mufom_plan.specs.Names.{has_name}
use Rattle.mufom_plan.specs.Commons.{has_common}
use Rattle.std.proofs.lemmas.List.Sums.{sum_by-append, sum_by-cons}
use Rattle.mufom_place.specs.Facts.{place_refusal, ◌or_else◌, first_some}
use Rattle.mufom_meaning.specs.declared.located.Site.{Site}
use Rattle.mufom_meaning.specs.declared.located.Site.TheVariants as sites
use Rattle.mufom_meaning.specs.Bases.{Bases, no_bases}
use Rattle.mufom_meaning.specs.Flat.{Sited, SitedPublic, sited, sited_from, name_count, flat_starts, public_names}
use Rattle.mufom_meaning.specs.Values.{Setting, setting, has_zero_divisor}
use Rattle.mufom_meaning.specs.Placed.{planned_bases}
use Rattle.mufom_meaning.specs.Steps.{Step, steps, counter}
use Rattle.mufom_meaning.specs.Joined.{IsJoined, joined_tree, joined_item, joined_load, joined_head, joined_mark}
use Rattle.mufom_meaning.specs.Facts.{placement, zero_divisor, duplicate, cycle, undefined, common_unplaced}
use Rattle.mufom_meaning.specs.Staging.{AreValid, HaveDescriptor}
use Rattle.mufom_meaning.specs.LinkAnswer.{first_mismatch, first_duplicate, same_order, same_descriptor, two_starts, link_answer}
use Rattle.mufom_meaning.specs.LocateAnswer.{cycle_at, image_limit_at, locate_answer, after_placing}
use Rattle.mufom_meaning.specs.Counts.{loaded_total}
use Rattle.mufom_meaning.specs.Walk.{zero_divisor_at, public_fact, counted_from, outside_at, first_twice, addresses_at, step_addresses}
use Rattle.mufom_meaning.specs.Walk.{loaded_addresses, overflow_at, item_fact, step_fact, steps_fact, SitedTree, start_trees, debug_trees, start_fact}
use Rattle.mufom_meaning.specs.Walk.{debug_fact, walk_answer}
use Rattle.mufom_meaning.proofs.Paired.{Paired, Paired-same}
use Rattle.mufom_meaning.proofs.staging.Moved.{shifted, IsOfGroup, MovedTree, stays, joins, MovedPublic, AreSettings, same_value, same_has_zero_divisor}
use Rattle.mufom_meaning.proofs.staging.MovedSteps.{MovedStep, counters, literals, fields, same_counter}
use Rattle.mufom_meaning.proofs.staging.LinkedLoads.{paired_steps}
use Rattle.mufom_meaning.proofs.staging.Groups.{paired_joined, are_of_group, home_of, paired_sites}
use Rattle.mufom_meaning.proofs.staging.Settings.{same_width, are_settings, same_sections}
use Rattle.mufom_meaning.proofs.staging.Needs.{same_names, same_needs, same_commons}
use Rattle.mufom_meaning.proofs.facts.Cycles.{same_cycle}
use Rattle.mufom_meaning.proofs.Placed.{same_placed_commons, same_planned}

module _ {A B C : Type 0} (R : A → B → Type 0) (f : A → Option C) (g : B → Option C) (same : (x : A) (y : B) → R x y → f x ≡ g y) where
  first_some-agrees : (xs : List A) (ys : List B) → Paired R xs ys → first_some f xs ≡ first_some g ys
  first_some-agrees [] [] p = refl
  first_some-agrees (x ∷ xs) (y ∷ ys) p = let a = same x y p.0 in let b = first_some-agrees xs ys p.1 in λ i. a i or_else b i
  first_some-agrees [] (y ∷ ys) p = absurd p
  first_some-agrees (x ∷ xs) [] p = absurd p

module _ {A B C : Type 0} (R : A → B → Type 0) (f : ℕ × A → Option C) (g : ℕ × B → Option C) (same : (n : ℕ) (x : A) (y : B) → R x y → f (n, x)
    ≡ g (n, y)) where
  first_numbered-agrees : (n : ℕ) (xs : List A) (ys : List B) → Paired R xs ys → first_some f (enumerate_from n xs) ≡ first_some g (enumerate_from n ys)
  first_numbered-agrees n [] [] p = refl
  first_numbered-agrees n (x ∷ xs) (y ∷ ys) p = let a = same n x y p.0 in let b = first_numbered-agrees (n + 1) xs ys p.1 in λ i. a i or_else b i
  first_numbered-agrees n [] (y ∷ ys) p = absurd p
  first_numbered-agrees n (x ∷ xs) [] p = absurd p

module _ (ms : List Parts) (home : Sited) (s other : Setting) (h : AreSettings ms home s other) where
  zero_divisor_agrees : (pc pc' : Option ℕ) → pc ≡ pc' → (site : Sited) (t : Tree) (site' : Sited) (t' : Tree) → MovedTree ms home site t site' t'
      → (place place' : Site) → place ≡ place'
      → zero_divisor_at s site pc t place ≡ zero_divisor_at other site' pc' t' place'
  zero_divisor_agrees pc pc' e site t site' t' m place place' f =
      let zero_there : has_zero_divisor s site pc t ≡ has_zero_divisor other site' pc' t'
      = same_has_zero_divisor ms home s other h pc site t site' t' m ∙ ap (λ at. has_zero_divisor other site' at t') e in
      λ i. if zero_there i then Some (zero_divisor (f i)) else None

  public_agrees : (p q : SitedPublic) → MovedPublic ms home p q → public_fact s p ≡ public_fact other q
  public_agrees p q m = let a = m.name in zero_divisor_agrees None None refl p.site p.entry.value q.site q.entry.value m.tree
      (sites.Public p.entry.name) (sites.Public q.entry.name) (ap sites.Public a)

  abbrev R : Step → Step → Type 0
  R = MovedStep ms home

  addresses_agree : (step step' : Step) → R step step' → (earlier earlier' : List Step) → Paired R earlier earlier' → step_addresses s earlier step
      ≡ step_addresses other earlier' step'
  addresses_agree _ _ (counters site site' section section' t t' e m) earlier earlier' p = refl
  addresses_agree _ _ (literals site site' section section' bytes e) earlier earlier' p =
      let at : counter s earlier section ≡ counter other earlier' section' = same_counter ms home s other h earlier earlier' p section
      ∙ ap (counter other earlier') e in
      let m = h.modulus in λ i. addresses_at (m i) (at i) (Literal bytes)
  addresses_agree _ _ (fields site site' section section' kind size t t' e n) earlier earlier' p =
      let at : counter s earlier section ≡ counter other earlier' section' = same_counter ms home s other h earlier earlier' p section
      ∙ ap (counter other earlier') e in
      let m = h.modulus in (λ i. addresses_at (m i) (at i) (Field kind size t)) ∙ same_size (counter other earlier' section') where
        same_size : (at : Option ℕ) → addresses_at other.modulus at (Field kind size t) ≡ addresses_at other.modulus at (Field kind size t')
        same_size None = refl
        same_size (Some a) = refl

  pub loaded_agree : (earlier earlier' : List Step) → Paired R earlier earlier' → loaded_addresses s earlier ≡ loaded_addresses other earlier'
  loaded_agree [] [] p = refl
  loaded_agree (step ∷ earlier) (step' ∷ earlier') p =
      let a = addresses_agree step step' p.0 earlier earlier' p.1 in let b = loaded_agree earlier earlier' p.1 in λ i. a i ++ b i
  loaded_agree [] (step' ∷ earlier') p = absurd p
  loaded_agree (step ∷ earlier) [] p = absurd p

  literal_agrees : (site site' : Sited) (section : ℕ) (bytes : List ℕ) (earlier earlier' : List Step) → Paired R earlier earlier' → (at : Option ℕ)
      → item_fact s earlier site section at (Literal bytes) ≡ item_fact other earlier' site' section at (Literal bytes)
  literal_agrees site site' section bytes earlier earlier' p None = refl
  literal_agrees site site' section bytes earlier earlier' p (Some a) =
      let m = h.modulus in let b = h.bases in let sections = h.sections in let l = loaded_agree earlier earlier' p in
      λ i. first_some (outside_at (m i) section (unwrap_or (slice_get (b i) section) 0)
      (unwrap_or (option_map (λ found. found.size) (slice_get (sections i) section)) 0)) (counted_from (length bytes) a)
      or_else (first_twice (l i) (map (λ x. x % m i) (counted_from (length bytes) a)) or_else None)

  field_agrees : (site site' : Sited) (section : ℕ) (kind : FieldKind) (size : ℕ) (t t' : Tree) → MovedTree ms home site t site' t'
      → (earlier earlier' : List Step) → Paired R earlier earlier' → (at : Option ℕ)
      → item_fact s earlier site section at (Field kind size t) ≡ item_fact other earlier' site' section at (Field kind size t')
  field_agrees site site' section kind size t t' n earlier earlier' p None = refl
  field_agrees site site' section kind size t t' n earlier earlier' p (Some a) =
      let m = h.modulus in let b = h.bases in let sections = h.sections in let l = loaded_agree earlier earlier' p in
      let z = zero_divisor_agrees (Some a) (Some a) refl site t site' t' n (sites.Field section a) (sites.Field section a) refl in
      let v = same_value ms home s other h (Some a) site t site' t' n in
      λ i. first_some (outside_at (m i) section (unwrap_or (slice_get (b i) section) 0)
      (unwrap_or (option_map (λ found. found.size) (slice_get (sections i) section)) 0)) (counted_from size a)
      or_else (first_twice (l i) (map (λ x. x % m i) (counted_from size a)) or_else (z i or_else overflow_at (m i) section a kind size (v i)))

  step_agrees : (step step' : Step) → R step step' → (earlier earlier' : List Step) → Paired R earlier earlier' → step_fact s earlier step
      ≡ step_fact other earlier' step'
  step_agrees _ _ (counters site site' section section' t t' e m) earlier earlier' p =
      let at : counter s earlier section ≡ counter other earlier' section' = same_counter ms home s other h earlier earlier' p section
      ∙ ap (counter other earlier') e in
      zero_divisor_agrees _ _ at site t site' t' m (sites.Counter section) (sites.Counter section') (ap sites.Counter e)
  step_agrees _ _ (literals site site' section section' bytes e) earlier earlier' p =
      let at : counter s earlier section ≡ counter other earlier' section' = same_counter ms home s other h earlier earlier' p section
      ∙ ap (counter other earlier') e in
      literal_agrees site site' section bytes earlier earlier' p (counter s earlier section)
      ∙ (λ i. item_fact other earlier' site' (e i) (at i) (Literal bytes))
  step_agrees _ _ (fields site site' section section' kind size t t' e m) earlier earlier' p =
      let at : counter s earlier section ≡ counter other earlier' section' = same_counter ms home s other h earlier earlier' p section
      ∙ ap (counter other earlier') e in
      field_agrees site site' section kind size t t' m earlier earlier' p (counter s earlier section)
      ∙ (λ i. item_fact other earlier' site' (e i) (at i) (Field kind size t'))

  steps_agree : (earlier earlier' : List Step) → Paired R earlier earlier' → (all all' : List Step) → Paired R all all' → steps_fact s earlier all
      ≡ steps_fact other earlier' all'
  steps_agree earlier earlier' p [] [] q = refl
  steps_agree earlier earlier' p (step ∷ more) (step' ∷ more') q =
      let a = step_agrees step step' q.0 earlier earlier' p in let b = steps_agree (step ∷ earlier) (step' ∷ earlier') (q.0, p) more more' q.1 in
      λ i. a i or_else b i
  steps_agree earlier earlier' p [] (step' ∷ more') q = absurd q
  steps_agree earlier earlier' p (step ∷ more) [] q = absurd q

  abbrev pub MovedEntry : SitedTree → SitedTree → Type 0
  MovedEntry x y = MovedTree ms home x.0 x.1 y.0 y.1

  start_agrees : (x y : SitedTree) → MovedEntry x y → start_fact s x ≡ start_fact other y
  start_agrees x y m = zero_divisor_agrees None None refl x.0 x.1 y.0 y.1 m sites.Start sites.Start refl

  debug_agrees : (n : ℕ) (x y : SitedTree) → MovedEntry x y → debug_fact s (n, x) ≡ debug_fact other (n, y)
  debug_agrees n x y m = zero_divisor_agrees None None refl x.0 x.1 y.0 y.1 m (sites.Debug n) (sites.Debug n) refl

-- The expressions of a link's debug items are those of its group.
joined_head_expressions : (ms : List Parts) (site : Sited) (head : BlockHead)
    → option_to_list (offset_of (joined_head ms site head)) ≡ map (joined_tree ms site) (option_to_list (offset_of head))
joined_head_expressions ms site heads.Module = refl
joined_head_expressions ms site (heads.Global stack type_index offset) = refl
joined_head_expressions ms site (heads.Local stack type_index offset) = refl
joined_head_expressions ms site (heads.Source numbers) = refl
joined_head_expressions ms site (heads.Section section_type section offset) = refl

joined_end_expressions : (ms : List Parts) (site : Sited) (end : Option Tree) → option_to_list (option_map (joined_tree ms site) end)
    ≡ map (joined_tree ms site) (option_to_list end)
joined_end_expressions ms site None = refl
joined_end_expressions ms site (Some t) = refl

joined_mark_expressions : (ms : List Parts) (site : Sited) (mark : DebugMark) → mark_expressions (joined_mark ms site mark)
    ≡ map (joined_tree ms site) (mark_expressions mark)
joined_mark_expressions ms site (block_begin head name) = joined_head_expressions ms site head
joined_mark_expressions ms site (block_end end) = joined_end_expressions ms site end
joined_mark_expressions ms site (name_mark name) = refl
joined_mark_expressions ms site (note_mark name note) = refl
joined_mark_expressions ms site (value_mark name t) = refl

joined_expressions : (ms : List Parts) (site : Sited) (marks : List DebugMark) → expressions_of (map (joined_mark ms site) marks)
    ≡ map (joined_tree ms site) (expressions_of marks)
joined_expressions ms site [] = refl
joined_expressions ms site (mark ∷ marks) =
    let a = joined_mark_expressions ms site mark in let b = joined_expressions ms site marks in
    (λ i. a i ++ b i) ∙ sym (map-append (joined_tree ms site) (mark_expressions mark) (expressions_of marks))

pub group_expressions : (ms : List Parts) (sites : List Sited) → expressions_of (flat_map (λ site. map (joined_mark ms site) (marks_of site.parts.debug)) sites)
    ≡ flat_map (λ site. map (joined_tree ms site) (expressions_of (marks_of site.parts.debug))) sites
group_expressions ms [] = refl
group_expressions ms (site ∷ sites) =
    flat_map-append mark_expressions (map (joined_mark ms site) (marks_of site.parts.debug)) _
    ∙ (let a = joined_expressions ms site (marks_of site.parts.debug) in let b = group_expressions ms sites in λ i. a i ++ b i)

-- The bytes that a link loads are as many as its group's.
item-joined : (ms : List Parts) (site : Sited) (item : Item) → byte_count (joined_item ms site item) ≡ byte_count item
item-joined ms site (Literal bytes) = refl
item-joined ms site (Field kind size t) = refl

-- what is made of each entry counts as the entry does
sum_by-made : {A B : Type 0} (f : B → ℕ) (g : A → ℕ) (make : A → B) → ((x : A) → f (make x) ≡ g x) → (xs : List A) → sum_by f (map make xs) ≡ sum_by g xs
sum_by-made f g make same [] = refl
sum_by-made f g make same (x ∷ xs) =
    sum_by-cons f (make x) (map make xs) ∙ (let here = same x in let rest = sum_by-made f g make same xs in λ i. here i + rest i) ∙ sym (sum_by-cons g x xs)

load-joined : (ms : List Parts) (site : Sited) (load : Load) → length_loaded (joined_load ms site load) ≡ length_loaded load
load-joined ms site (SetSection n) = refl
load-joined ms site (SetPc n t) = refl
load-joined ms site (One item) = item-joined ms site item
load-joined ms site (Repeat count items) = ap (λ n. count * n) (sum_by-made byte_count byte_count (joined_item ms site) (item-joined ms site) items)

loaded_group : (ms : List Parts) (s p d : ℕ) (xs : List Parts)
    → lengths_loaded (flat_map (λ site. map (joined_load ms site) site.parts.loads) (sited_from s p d xs)) ≡ loaded_total xs
loaded_group ms s p d [] = refl
loaded_group ms s p d (x ∷ xs) =
    let site : Sited = record { parts = x; first_section = s; first_public = p; first_name = d } in
    sum_by-append length_loaded (map (joined_load ms site) x.loads) _
    ∙ (let a = sum_by-made length_loaded length_loaded (joined_load ms site) (load-joined ms site) x.loads in
    let b = loaded_group ms (s + length x.sections) (p + length x.names.publics) (d + name_count (marks_of x.debug)) xs in λ i. a i + b i)
    ∙ sym (sum_by-cons (λ m. lengths_loaded m.loads) x xs)

loaded_total-around : (before : List Parts) (M : Parts) (after : List Parts) → loaded_total (before ++ (M ∷ after))
    ≡ loaded_total before + (lengths_loaded M.loads + loaded_total after)
loaded_total-around before M after =
    sum_by-append (λ m. lengths_loaded m.loads) before (M ∷ after) ∙ ap (λ n. loaded_total before + n) (sum_by-cons (λ m. lengths_loaded m.loads) M after)

-- Starts are as many.
pub starts_group : (ms : List Parts) (s p d : ℕ) (xs : List Parts)
    → length (flat_map (λ site. map (joined_tree ms site) (option_to_list site.parts.start)) (sited_from s p d xs)) ≡ length (flat_starts xs)
starts_group ms s p d [] = refl
starts_group ms s p d (x ∷ xs) =
    let site : Sited = record { parts = x; first_section = s; first_public = p; first_name = d } in
    length-append (map (joined_tree ms site) (option_to_list x.start)) _
    ∙ (let a = length-map (option_to_list x.start) (joined_tree ms site) in
    let b = starts_group ms (s + length x.sections) (p + length x.names.publics) (d + name_count (marks_of x.debug)) xs in λ i. a i + b i)
    ∙ sym (length-append (option_to_list x.start) (flat_starts xs))

pub two_starts-length : (xs ys : List Tree) → length xs ≡ length ys → two_starts xs ≡ two_starts ys
two_starts-length [] [] e = refl
two_starts-length (x ∷ []) (y ∷ []) e = refl
two_starts-length (x ∷ u ∷ xs) (y ∷ v ∷ ys) e = refl
two_starts-length [] (y ∷ ys) e = absurd (omega arith)
two_starts-length (x ∷ xs) [] e = absurd (omega arith)
two_starts-length (x ∷ []) (y ∷ v ∷ ys) e = absurd (omega arith)
two_starts-length (x ∷ u ∷ xs) (y ∷ []) e = absurd (omega arith)

-- Modules of one descriptor do not differ.
same_order-itself : (o : Order) → same_order o o ≡ true
same_order-itself Least = refl
same_order-itself Most = refl

equal_tested : (m n : ℕ) → m ≡ n → (m == n) ≡ true
equal_tested m n e = search rules

pub same_descriptor-of : (d m n : Parts) → (m.maus ≡ d.maus) × (m.order ≡ d.order) → (n.maus ≡ d.maus) × (n.order ≡ d.order) → same_descriptor m n ≡ true
same_descriptor-of d m n a b =
    ap (λ t. t && same_order m.order n.order) (equal_tested m.maus n.maus (a.0 ∙ sym b.0)) ∙ ap (same_order m.order) (b.1 ∙ sym a.1) ∙ same_order-itself m.order

none_differs : (d m : Parts) → (m.maus ≡ d.maus) × (m.order ≡ d.order) → (ms : List Parts) → HaveDescriptor d ms
    → find (λ other. not (same_descriptor m other)) ms ≡ None
none_differs d m a [] h = refl
none_differs d m a (n ∷ ms) h =
    ap (λ b. cond (not b) (Some n) (find (λ other. not (same_descriptor m other)) ms)) (same_descriptor-of d m n a h.0) ∙ none_differs d m a ms h.1

no_mismatch : (d : Parts) (ms : List Parts) → HaveDescriptor d ms → first_mismatch ms ≡ None
no_mismatch d [] h = refl
no_mismatch d (m ∷ ms) h = ap (option_map _) (none_differs d m h.0 ms h.1)

descriptor_after : (d : Parts) (xs ys : List Parts) → HaveDescriptor d (xs ++ ys) → HaveDescriptor d ys
descriptor_after d [] ys h = h
descriptor_after d (x ∷ xs) ys h = descriptor_after d xs ys h.1

pub descriptor_linked : (M : Parts) (ms before after : List Parts) → HaveDescriptor M (before ++ (ms ++ after)) → HaveDescriptor M (before ++ (M ∷ after))
descriptor_linked M ms [] after h = ((refl, refl), descriptor_after M ms after h)
descriptor_linked M ms (b ∷ before) after h = (h.0, descriptor_linked M ms before after h.1)

pub valid_middle : (before ms after : List Parts) → AreValid (before ++ (ms ++ after)) → AreValid ms
valid_middle [] [] after v = tt
valid_middle [] (m ∷ ms) after v = (v.0, valid_middle [] ms after v.1)
valid_middle (b ∷ before) ms after v = valid_middle before ms after v.1

module _ (M : Parts) (ms before after : List Parts) (name : List ℕ) (j : IsJoined M ms name) (valid : AreValid (before ++ (ms ++ after)))
    (descriptors : HaveDescriptor M (before ++ (ms ++ after))) (names : AreDistinct (public_names (before ++ (ms ++ after)))) where
  abbrev linked : List Parts
  linked = before ++ (M ∷ after)

  abbrev flat : List Parts
  flat = before ++ (ms ++ after)

  own_loaded : lengths_loaded M.loads ≡ loaded_total ms
  own_loaded = ap lengths_loaded j.loads ∙ loaded_group ms 0 0 0 ms

  pub same_total : loaded_total linked ≡ loaded_total flat
  same_total =
      loaded_total-around before M after ∙ ap (λ n. loaded_total before + (n + loaded_total after)) own_loaded
      ∙ ap (λ n. loaded_total before + n) (sym (sum_by-append (λ m. lengths_loaded m.loads) ms after))
      ∙ sym (sum_by-append (λ m. lengths_loaded m.loads) before (ms ++ after))

  same_start_count : length (flat_starts linked) ≡ length (flat_starts flat)
  same_start_count =
      let own : length (option_to_list M.start) ≡ length (flat_starts ms) = ap length j.start ∙ starts_group ms 0 0 0 ms in
      ap length (flat_map-append _ before (M ∷ after)) ∙ length-append (flat_starts before) _
      ∙ ap (λ n. length (flat_starts before) + n) (length-append (option_to_list M.start) (flat_starts after))
      ∙ ap (λ n. length (flat_starts before) + (n + length (flat_starts after))) own
      ∙ ap (λ n. length (flat_starts before) + n) (sym (length-append (flat_starts ms) (flat_starts after)) ∙ ap length (sym (flat_map-append _ ms after)))
      ∙ sym (length-append (flat_starts before) _) ∙ ap length (sym (flat_map-append _ before (ms ++ after)))

  same_link_answer : link_answer linked ≡ link_answer flat
  same_link_answer =
      let a : first_mismatch linked ≡ first_mismatch flat
      = no_mismatch M linked (descriptor_linked M ms before after descriptors) ∙ sym (no_mismatch M flat descriptors) in
      let b = same_names M ms name j before after in
      let c = two_starts-length (flat_starts linked) (flat_starts flat) same_start_count in
      λ i. a i or_else (option_map duplicate (first_duplicate [] (b i)) or_else c i)

  module _ (placed : Bases) where
    abbrev s : Setting
    s = setting linked placed

    abbrev other : Setting
    other = setting flat placed

    abbrev home : Sited
    home = home_of M before

    settings : AreSettings ms (home_of M before) (setting (before ++ (M ∷ after)) placed) (setting (before ++ (ms ++ after)) placed)
    settings = are_settings M ms name j before after names placed

    paired_trees : (entries : Parts → List Tree) → entries M ≡ flat_map (λ site. map (joined_tree ms site) (entries site.parts)) (sited ms)
        → Paired (MovedEntry ms home s other settings) (flat_map (λ site. map (λ t. (site, t)) (entries site.parts)) (sited linked))
        (flat_map (λ site. map (λ t. (site, t)) (entries site.parts)) (sited flat))
    paired_trees entries own =
        let E = MovedEntry ms home s other settings in
        paired_sites M ms name j before after E (λ site. map (λ t. (site, t)) (entries site.parts)) (λ site. map (λ t. (site, t)) (entries site.parts))
        (λ site. Paired-same E (λ x. stays x.0 x.1) (map (λ t. (site, t)) (entries site.parts)))
        (subst (λ ts. Paired E (map (λ t. (home, t)) ts) (flat_map (λ site. map (λ t. (shifted home site, t)) (entries site.parts)) (sited ms))) (sym own)
        (paired_joined E (λ site. entries site.parts) (joined_tree ms) (λ t. (home, t)) (λ site t. (shifted home site, t)) (IsOfGroup ms)
        (λ site within t. joins site t within) (sited ms) (are_of_group 0 0 0 ms)))

    same_walk : walk_answer linked s ≡ walk_answer flat other
    same_walk =
        let a = first_some-agrees (MovedPublic ms home) (public_fact s) (public_fact other) (public_agrees ms home s other settings) s.publics
        other.publics settings.publics in
        let b = steps_agree ms home s other settings [] [] tt (steps linked) (steps flat)
        (paired_steps M ms name j (valid_middle before ms after valid) before after) in
        let c = first_some-agrees (MovedEntry ms home s other settings) (start_fact s) (start_fact other) (start_agrees ms home s other settings)
        (start_trees linked) (start_trees flat)
        (paired_trees (λ m. option_to_list m.start) j.start) in
        let d = first_numbered-agrees (MovedEntry ms home s other settings) (debug_fact s) (debug_fact other) (debug_agrees ms home s other settings)
        0 (debug_trees linked) (debug_trees flat)
        (paired_trees (λ m. expressions_of (marks_of m.debug)) (ap expressions_of j.debug ∙ group_expressions ms (sited ms))) in
        λ i. a i or_else (b i or_else (c i or_else d i))

  same_cycles : (all : List (List ℕ)) → first_some (cycle_at linked) all ≡ first_some (cycle_at flat) all
  same_cycles [] = refl
  same_cycles (s ∷ all) =
      let a = same_cycle ms (home_of M before) (setting linked no_bases) (setting flat no_bases) (are_settings M ms name j before after names no_bases) s in
      let b = same_cycles all in
      λ i. (if a i then Some (cycle s) else None) or_else b i

  same_after_placing : (plan : Plan) → after_placing linked plan ≡ after_placing flat plan
  same_after_placing plan =
      let sections = same_sections M ms name j before after in
      let n = same_needs M ms name j before after in let c = same_commons M ms name j before after in
      let placed = same_planned linked flat sections c plan in
      let all = same_names M ms name j before after in
      let cycles : first_some (cycle_at linked) (public_names linked) ≡ first_some (cycle_at flat) (public_names flat)
      = same_cycles (public_names linked) ∙ ap (first_some (cycle_at flat)) all in
      let total = same_total in
      let walk : walk_answer linked (setting linked (planned_bases linked plan)) ≡ walk_answer flat (setting flat (planned_bases flat plan))
      = ap (λ b. walk_answer linked (setting linked b)) placed ∙ same_walk (planned_bases flat plan) in
      λ i. option_map undefined (find (λ name. not (has_name (map (λ common. common.0) (c i)) name)) (n i))
      or_else (option_map common_unplaced (if has_common plan.regions then None else slice_get (map (λ common. common.0) (c i)) 0)
      or_else (cycles i
      or_else (image_limit_at (total i)
      or_else walk i)))

  same_locate_answer : (plan : Plan) → locate_answer linked plan ≡ locate_answer flat plan
  unfolding locate_answer
  same_locate_answer plan =
      let sections = same_sections M ms name j before after in
      let widths = same_width M ms j.header before after in
      let asked = same_placed_commons linked flat sections (same_commons M ms name j before after) plan in
      let later = same_after_placing plan in
      λ i. option_map placement (place_refusal (widths i) plan (sections i) (asked i)) or_else later i

-- what is returned in place of a link or a location is what is returned for the flat list
pub answers_agree : (M : Parts) (ms before after : List Parts) (name : List ℕ) (plan : Plan)
    → IsJoined M ms name → AreValid (before ++ (ms ++ after)) → HaveDescriptor M (before ++ (ms ++ after))
    → AreDistinct (public_names (before ++ (ms ++ after)))
    → (link_answer (before ++ (M ∷ after)) ≡ link_answer (before ++ (ms ++ after)))
    × (after_placing (before ++ (M ∷ after)) plan ≡ after_placing (before ++ (ms ++ after)) plan)
    × (locate_answer (before ++ (M ∷ after)) plan ≡ locate_answer (before ++ (ms ++ after)) plan)
answers_agree M ms before after name plan j valid descriptors names = (
  same_link_answer M ms before after name j valid descriptors names,
  same_after_placing M ms before after name j valid descriptors names plan,
  same_locate_answer M ms before after name j valid descriptors names plan,
)
