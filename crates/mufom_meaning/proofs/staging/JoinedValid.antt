-- A partial link of modules without a defect has none.
use Rattle.std.proofs.Common.{◌≡◌, ℕ, ◌+◌, ◌<◌, ◌^◌, List, [], ◌∷◌, ◌++◌, map, flat_map, length, Option, Some, None, Bool, true, false, not, ◌||◌}
use Rattle.std.proofs.Common.{◌&&◌, inl, inr, refl, sym, ◌∙◌, ap, cond, arith}
use Rattle.std.proofs.lemmas.List.{length-map}
use Rattle.std.specs.Prelude.{nat_lt, option_map, option_to_list, is_none, is_some}
use Rattle.std.specs.List.{list_any, find, AllByRecursion}
use Rattle.mufom_numbers.specs.declared.limits.TheConstants.{MOST_STRING_BYTES}
use Rattle.mufom_expr.specs.Tree.{Tree}
use Rattle.mufom_sections.specs.declared.section.Section.{Section}
use Rattle.mufom_names.specs.declared.name.Reference.{Reference}
use Rattle.mufom_debug.specs.declared.item.BlockHead.{BlockHead}
use Rattle.mufom_debug.specs.declared.item.BlockHead.TheVariants as heads
use Rattle.mufom_debug.specs.declared.item.DebugItem.{DebugItem}
use Rattle.mufom_debug.specs.Marks.{DebugMark, block_begin, block_end, name_mark, note_mark, value_mark, marks_of, depth_of, depth_from}
use Rattle.mufom_debug.proofs.Rebuilt.{same_items}
use Rattle.mufom_module.specs.declared.module.Parts.{Parts}
use Rattle.mufom_module.specs.declared.module.Defect.TheVariants as kinds
use Rattle.mufom_module.specs.Written.{weight}
use Rattle.mufom_module.specs.Contents.{any_of, any_expression, any_item, debug_marks, placed_loads, placed_from, HeadAndEnd, blocks_of}
use Rattle.mufom_module.specs.Defects.{IsValid, has_defect, defects, is_long, has_long_name, is_unit_count, has_bad_alignment, lacks_base}
use Rattle.mufom_module.specs.Defects.{is_long_literal, has_bad_size, counts_of, names_outside, has_bad_place, has_bad_mark, declared_after}
use Rattle.mufom_module.specs.Defects.{has_other_counter, misplaces_counter, loads_nowhere, has_unknown_attribute, ends_plainly, has_bad_end}
use Rattle.mufom_plan.specs.Names.{has_name}
use Rattle.mufom_meaning.specs.Flat.{Sited, sited_from, sited, flat_sections, flat_references, flat_publics, public_names, unresolved_references, name_count}
use Rattle.mufom_meaning.specs.Joined.{joined_tree, joined_public, joined_load, joined_head, joined_mark, kept_references, same_reference}
use Rattle.mufom_meaning.specs.Joined.{HasFirstHeader, IsJoined}
use Rattle.mufom_meaning.specs.Staging.{AreValid}
use Rattle.mufom_meaning.specs.StagingLaws.{total_weight, JoinedIsValid}
use Rattle.mufom_meaning.proofs.Tests.{either_false}
use Rattle.mufom_numbers.proofs.Choices.{two_false, not_lt, not_le}
use Rattle.mufom_meaning.proofs.NoDefects.{no_defect}
use Rattle.mufom_meaning.proofs.Members.{In, fails-In, none-In, filter-In, distinct-In}
use Rattle.mufom_meaning.proofs.values.Named.{site_module, valid_module, sections_end, publics_end}
use Rattle.mufom_meaning.proofs.Names.{names_of-sited_publics}
use Rattle.mufom_meaning.proofs.staging.Needs.{own_names}
use Rattle.mufom_meaning.proofs.locations.ChangedMarks.{changed, changed_items, marks_of-append, blocks_of-append}
use Rattle.mufom_meaning.proofs.staging.JoinedWeight.{joined_weighs}
use Rattle.mufom_meaning.proofs.staging.JoinedEntries.{none-joined, none-flat, long-mark, attribute-mark, long-item, size-item, items-load, depth-joined}
use Rattle.mufom_meaning.proofs.staging.JoinedPlaces.{Fits, KeepRules, tree-inside, tree-counter, load-inside, mark-inside, mark-fails, loads-keep}
use Rattle.mufom_meaning.proofs.staging.JoinedPlaces.{names-declared}

-- ---- what a module without a defect has

-- the parts of two tests
record Longs (m : Parts) : Type 0 where
  processor : is_long m.processor ≡ false
  name : is_long m.name ≡ false
  sections : list_any (λ s. is_long s.name) m.sections ≡ false
  publics : list_any (λ p. is_long p.name) m.names.publics ≡ false
  references : list_any (λ r. is_long r.name) m.names.references ≡ false
  marks : list_any has_long_name (debug_marks m) ≡ false

longs : (m : Parts) → IsValid m → Longs m
longs m valid =
    let all = no_defect m valid kinds.LongId in
    let a = either_false (is_long m.processor) (is_long m.name
    || (list_any (λ s. is_long s.name) m.sections || (list_any (λ p. is_long p.name) m.names.publics
    || (list_any (λ r. is_long r.name) m.names.references || list_any has_long_name (debug_marks m))))) all in
    let b = either_false (is_long m.name) (list_any (λ s. is_long s.name) m.sections
    || (list_any (λ p. is_long p.name) m.names.publics || (list_any (λ r. is_long r.name) m.names.references
    || list_any has_long_name (debug_marks m)))) a.1 in
    let c = either_false (list_any (λ s. is_long s.name) m.sections) (list_any (λ p. is_long p.name) m.names.publics
    || (list_any (λ r. is_long r.name) m.names.references || list_any has_long_name (debug_marks m))) b.1 in
    let e = either_false (list_any (λ p. is_long p.name) m.names.publics) (list_any (λ r. is_long r.name) m.names.references
    || list_any has_long_name (debug_marks m)) c.1 in
    let f = either_false (list_any (λ r. is_long r.name) m.names.references) (list_any has_long_name (debug_marks m)) e.1 in
    record { processor = a.0; name = b.0; sections = c.0; publics = e.0; references = f.0; marks = f.1 }

record Places (m : Parts) : Type 0 where
  publics : list_any (λ p. names_outside (counts_of m) p.value) m.names.publics ≡ false
  loads : list_any (has_bad_place (counts_of m)) m.loads ≡ false
  marks : list_any (has_bad_mark (counts_of m)) (debug_marks m) ≡ false
  start : any_of (names_outside (counts_of m)) m.start ≡ false
  names : is_none (declared_after 0 (debug_marks m)) ≡ false

places : (m : Parts) → IsValid m → Places m
places m valid =
    let all = no_defect m valid kinds.Position in
    let a = either_false (list_any (λ p. names_outside (counts_of m) p.value) m.names.publics) (list_any (has_bad_place (counts_of m)) m.loads
    || (list_any (has_bad_mark (counts_of m)) (debug_marks m)
    || (any_of (names_outside (counts_of m)) m.start || is_none (declared_after 0 (debug_marks m))))) all in
    let b = either_false (list_any (has_bad_place (counts_of m)) m.loads) (list_any (has_bad_mark (counts_of m)) (debug_marks m)
    || (any_of (names_outside (counts_of m)) m.start || is_none (declared_after 0 (debug_marks m)))) a.1 in
    let c = either_false (list_any (has_bad_mark (counts_of m)) (debug_marks m)) (any_of (names_outside (counts_of m)) m.start
    || is_none (declared_after 0 (debug_marks m))) b.1 in
    let e = either_false (any_of (names_outside (counts_of m)) m.start) (is_none (declared_after 0 (debug_marks m))) c.1 in
    record { publics = a.0; loads = b.0; marks = c.0; start = e.0; names = e.1 }

record Counters (m : Parts) : Type 0 where
  publics : list_any (λ p. has_other_counter None p.value) m.names.publics ≡ false
  start : any_of (has_other_counter None) m.start ≡ false
  marks : list_any (any_expression (has_other_counter None)) (debug_marks m) ≡ false
  loads : list_any misplaces_counter (placed_loads m) ≡ false

counters : (m : Parts) → IsValid m → Counters m
counters m valid =
    let all = no_defect m valid kinds.MisplacedP in
    let a = either_false (list_any (λ p. has_other_counter None p.value) m.names.publics) (any_of (has_other_counter None) m.start
    || (list_any (any_expression (has_other_counter None)) (debug_marks m) || list_any misplaces_counter (placed_loads m))) all in
    let b = either_false (any_of (has_other_counter None) m.start) (list_any (any_expression (has_other_counter None)) (debug_marks m)
    || list_any misplaces_counter (placed_loads m)) a.1 in
    let c = either_false (list_any (any_expression (has_other_counter None)) (debug_marks m)) (list_any misplaces_counter (placed_loads m)) b.1 in
    record { publics = a.0; start = b.0; marks = c.0; loads = c.1 }

-- ---- small laws

any_of-list : {A : Type 0} (p : A → Bool) (o : Option A) → any_of p o ≡ list_any p (option_to_list o)
any_of-list p None = refl
any_of-list p (Some x) = or_nothing (p x) where
  or_nothing : (b : Bool) → b ≡ (b || false)
  or_nothing true = refl
  or_nothing false = refl

find-nothing : {A : Type 0} (p : A → Bool) (xs : List A) → AllByRecursion (λ x. p x ≡ false) xs → find p xs ≡ None
find-nothing p [] h = refl
find-nothing p (x ∷ xs) h = ap (λ b. cond b (Some x) (find p xs)) h.0 ∙ find-nothing p xs h.1

-- ---- debug blocks

mark-changed : (ms : List Parts) (site : Sited) (mark : DebugMark)
    → changed (joined_head ms site) (option_map (joined_tree ms site)) (λ n. site.first_name + n) (joined_tree ms site) mark ≡ joined_mark ms site mark
mark-changed ms site (block_begin head name) = refl
mark-changed ms site (block_end end) = refl
mark-changed ms site (name_mark name) = refl
mark-changed ms site (note_mark name note) = refl
mark-changed ms site (value_mark name t) = refl

map-agrees : {A B : Type 0} (f g : A → B) → ((x : A) → f x ≡ g x) → (xs : List A) → map f xs ≡ map g xs
map-agrees f g same [] = refl
map-agrees f g same (x ∷ xs) = let a = same x in let b = map-agrees f g same xs in λ i. a i ∷ b i

-- a block of a module, as the link has it
abbrev block_joined : List Parts → Sited → HeadAndEnd → HeadAndEnd
block_joined ms site block = (joined_head ms site block.0, option_map (joined_tree ms site) block.1)

record HasDebug (ms : List Parts) (sites : List Sited) : Type 0 where
  items : List DebugItem
  marks : marks_of items ≡ flat_map (λ site. map (joined_mark ms site) (marks_of site.parts.debug)) sites
  blocks : blocks_of items ≡ flat_map (λ site. map (block_joined ms site) (blocks_of site.parts.debug)) sites

debug_of : (ms : List Parts) (sites : List Sited) → HasDebug ms sites
debug_of ms [] = record { items = []; marks = refl; blocks = refl }
debug_of ms (site ∷ sites) =
    let own = changed_items (joined_head ms site) (option_map (joined_tree ms site)) (λ n. site.first_name + n) (joined_tree ms site) site.parts.debug in
    let rest = debug_of ms sites in
    let own_marks : marks_of own.0 ≡ map (joined_mark ms site) (marks_of site.parts.debug) =
    own.1 ∙ map-agrees (changed (joined_head ms site) (option_map (joined_tree ms site)) (λ n. site.first_name + n) (joined_tree ms site))
    (joined_mark ms site) (mark-changed ms site) (marks_of site.parts.debug) in
    record {
      items = own.0 ++ rest.items;
      marks = marks_of-append own.0 rest.items ∙ (λ i. own_marks i ++ rest.marks i);
      blocks = blocks_of-append own.0 rest.items ∙ (λ i. own.2 i ++ rest.blocks i);
    }

end-joined : (ms : List Parts) (site : Sited) (block : HeadAndEnd) → has_bad_end (block_joined ms site block) ≡ has_bad_end block
end-joined ms site block = (λ i. plain block.0 i && there block.1 i) where
  plain : (head : BlockHead) → ends_plainly (joined_head ms site head) ≡ ends_plainly head
  plain heads.Module = refl
  plain (heads.Global stack type_index offset) = refl
  plain (heads.Source numbers) = refl
  plain (heads.Local stack type_index offset) = refl
  plain (heads.Section section_type section offset) = refl

  there : (o : Option Tree) → is_some (option_map (joined_tree ms site) o) ≡ is_some o
  there None = refl
  there (Some t) = refl

-- ---- the link

module _ (M : Parts) (ms : List Parts) (name : List ℕ) (j : IsJoined M ms name) (v : AreValid ms) where
  valid_site : (site : Sited) → In site (sited ms) → IsValid site.parts
  valid_site site h = valid_module ms v site.parts (site_module 0 0 0 ms site h)

  names_count : length M.names.publics ≡ length (public_names ms)
  names_count = sym (length-map M.names.publics (λ entry. entry.name)) ∙ ap length (own_names M ms name j)

  fits : (site : Sited) → In site (sited ms) → Fits M ms site
  fits site h =
      let sections = sections_end 0 0 0 ms site h in
      let all : length M.sections ≡ length (flat_sections ms) = ap length j.sections in
      let publics = publics_end 0 0 0 ms site h in
      let flat : length (flat_publics ms) ≡ length (public_names ms) = sym (length-map (flat_publics ms) (λ q. q.entry.name))
      ∙ ap length (names_of-sited_publics 0 0 0 ms) in
      record {
        there = h;
        sections = omega (arith, sections, all);
        publics = omega (arith, publics, flat, names_count);
        names = names_count;
        references = ap length j.references;
      }

  -- a test that fails at the entries that each module gives
  publics_fail : (test : _ → Bool) → ((site : Sited) → In site (sited ms) → (p : _) → In p site.parts.names.publics → test (joined_public ms site p)
      ≡ false) → list_any test M.names.publics ≡ false
  publics_fail test fails = ap (list_any test) j.publics ∙ none-joined test (λ m. m.names.publics) (joined_public ms) (sited ms) fails

  loads_fail : (test : _ → Bool) → ((site : Sited) → In site (sited ms) → (load : _) → In load site.parts.loads → test (joined_load ms site load)
      ≡ false) → list_any test M.loads ≡ false
  loads_fail test fails = ap (list_any test) j.loads ∙ none-joined test (λ m. m.loads) (joined_load ms) (sited ms) fails

  marks_fail : (test : DebugMark → Bool) → ((site : Sited) → In site (sited ms) → (mark : DebugMark) → In mark (marks_of site.parts.debug)
      → test (joined_mark ms site mark) ≡ false) → list_any test (debug_marks M) ≡ false
  marks_fail test fails = ap (list_any test) j.debug ∙ none-joined test (λ m. marks_of m.debug) (joined_mark ms) (sited ms) fails

  start_fails : (test : Tree → Bool) → ((site : Sited) → In site (sited ms) → (t : Tree) → In t (option_to_list site.parts.start)
      → test (joined_tree ms site t) ≡ false) → any_of test M.start ≡ false
  start_fails test fails = any_of-list test M.start ∙ ap (list_any test) j.start
      ∙ none-joined test (λ m. option_to_list m.start) (joined_tree ms) (sited ms) fails

  sections_fail : (test : Section → Bool) → ((m : Parts) → IsValid m → list_any test m.sections ≡ false) → list_any test M.sections ≡ false
  sections_fail test fails = ap (list_any test) j.sections ∙ none-flat test (λ m. m.sections) ms
      (λ m h x k. fails-In test m.sections (fails m (valid_module ms v m h)) x k)

  references_fail : (test : Reference → Bool) → ((m : Parts) → IsValid m → list_any test m.names.references ≡ false) → list_any test M.names.references ≡ false
  references_fail test fails =
      let all : list_any test (flat_references ms) ≡ false = none-flat test (λ m. m.names.references) ms
      (λ m h x k. fails-In test m.names.references (fails m (valid_module ms v m h)) x k) in
      ap (list_any test) j.references
      ∙ none-In test (kept_references ms) (λ r k. fails-In test (flat_references ms) all r
      (filter-In (λ reference. not (has_name (public_names ms) reference.name)) r (flat_references ms)
      (distinct-In same_reference r (unresolved_references ms) k)))

  -- the first module's header
  first_valid : (xs : List Parts) → HasFirstHeader M xs → AreValid xs → (is_unit_count M.maus ≡ true) × (is_long M.processor ≡ false)
  first_valid [] header valid = absurd header
  first_valid (m ∷ xs) header valid = (ap is_unit_count header.maus ∙ units m valid.0, ap is_long header.processor ∙ (longs m valid.0).processor) where
    units : (m : Parts) → IsValid m → is_unit_count m.maus ≡ true
    units m valid = flip (is_unit_count m.maus) (no_defect m valid kinds.BadMaus) where
      flip : (b : Bool) → not b ≡ false → b ≡ true
      flip true e = refl
      flip false e = absurd cc

  not_long : length name < 2 ^ 16 → is_long M.name ≡ false
  not_long short = ap is_long j.named ∙ not_lt MOST_STRING_BYTES (length name) (omega (arith, short))

  long_id : length name < 2 ^ 16 → has_defect M kinds.LongId ≡ false
  long_id short =
      two_false (is_long M.processor) _ (first_valid ms j.header v).1 (
      two_false (is_long M.name) _ (not_long short) (
      two_false (list_any (λ s. is_long s.name) M.sections) _ (sections_fail (λ s. is_long s.name) (λ m valid. (longs m valid).sections)) (
      two_false (list_any (λ p. is_long p.name) M.names.publics) _
      (publics_fail (λ p. is_long p.name) (λ site h p k. fails-In (λ p. is_long p.name) site.parts.names.publics
      (longs site.parts (valid_site site h)).publics p k)) (
      two_false (list_any (λ r. is_long r.name) M.names.references) _ (references_fail (λ r. is_long r.name) (λ m valid. (longs m valid).references))
      (marks_fail has_long_name (λ site h mark k. long-mark ms site mark
      ∙ fails-In has_long_name (marks_of site.parts.debug) (longs site.parts (valid_site site h)).marks mark k))))))

  -- the names of debug items
  declared : (xs : List Parts) → AreValid xs → (s p d : ℕ) → ((site : Sited) → In site (sited_from s p d xs) → Fits M ms site)
      → is_none (declared_after d (flat_map (λ site. map (joined_mark ms site) (marks_of site.parts.debug)) (sited_from s p d xs))) ≡ false
  declared [] valid s p d fit = refl
  declared (m ∷ xs) valid s p d fit =
      let site : Sited = record { parts = m; first_section = s; first_public = p; first_name = d } in
      let next = d + name_count (marks_of m.debug) in
      let rest = flat_map (λ (site : Sited). map (joined_mark ms site) (marks_of site.parts.debug))
      (sited_from (s + length m.sections) (p + length m.names.publics) next xs) in
      let later = declared xs valid.1 (s + length m.sections) (p + length m.names.publics) next (λ other h. fit other (inr h)) in
      let run = names-declared M ms site (fit site (inl refl)) (marks_of m.debug) rest 0 (places m valid.0).names in
      let from : d ≡ d + 0 = omega arith in
      let until : d + (0 + name_count (marks_of m.debug)) ≡ next = omega arith in
      ap is_none (ap (λ n. declared_after n (map (joined_mark ms site) (marks_of m.debug) ++ rest)) from ∙ run ∙ ap (λ n. declared_after n rest) until) ∙ later

  position : has_defect M kinds.Position ≡ false
  position =
      two_false (list_any (λ p. names_outside (counts_of M) p.value) M.names.publics) _
      (publics_fail (λ p. names_outside (counts_of M) p.value) (λ site h p k. tree-inside M ms site (fits site h) p.value
      (fails-In (λ p. names_outside (counts_of site.parts) p.value) site.parts.names.publics (places site.parts (valid_site site h)).publics p k))) (
      two_false (list_any (has_bad_place (counts_of M)) M.loads) _
      (loads_fail (has_bad_place (counts_of M)) (λ site h load k. load-inside M ms site (fits site h) load
      (fails-In (has_bad_place (counts_of site.parts)) site.parts.loads (places site.parts (valid_site site h)).loads load k))) (
      two_false (list_any (has_bad_mark (counts_of M)) (debug_marks M)) _
      (marks_fail (has_bad_mark (counts_of M)) (λ site h mark k. mark-inside M ms site (fits site h) mark
      (fails-In (has_bad_mark (counts_of site.parts)) (marks_of site.parts.debug) (places site.parts (valid_site site h)).marks mark k))) (
      two_false (any_of (names_outside (counts_of M)) M.start) _
      (start_fails (names_outside (counts_of M)) (λ site h t k. tree-inside M ms site (fits site h) t
      (fails-In (names_outside (counts_of site.parts)) (option_to_list site.parts.start)
      (sym (any_of-list (names_outside (counts_of site.parts)) site.parts.start) ∙ (places site.parts (valid_site site h)).start) t k)))
      (ap (λ marks. is_none (declared_after 0 marks)) j.debug ∙ declared ms v 0 0 0 fits))))

  -- the current sections of loads
  keep : (sites : List Sited) → ((site : Sited) → In site sites → In site (sited ms))
      → KeepRules (flat_map (λ site. map (joined_load ms site) site.parts.loads) sites)
  keep [] there now = (refl, refl)
  keep (site ∷ sites) there now =
      let own = valid_site site (there site (inl refl)) in
      loads-keep M ms site (fits site (there site (inl refl))) site.parts.loads (flat_map (λ site. map (joined_load ms site) site.parts.loads) sites)
      None now tt
      (counters site.parts own).loads (no_defect site.parts own kinds.NoSection) (keep sites (λ other h. there other (inr h)))

  misplaced : has_defect M kinds.MisplacedP ≡ false
  misplaced =
      two_false (list_any (λ p. has_other_counter None p.value) M.names.publics) _
      (publics_fail (λ p. has_other_counter None p.value) (λ site h p k. tree-counter M ms site (fits site h) None p.value
      (fails-In (λ p. has_other_counter None p.value) site.parts.names.publics (counters site.parts (valid_site site h)).publics p k))) (
      two_false (any_of (has_other_counter None) M.start) _
      (start_fails (has_other_counter None) (λ site h t k. tree-counter M ms site (fits site h) None t
      (fails-In (has_other_counter None) (option_to_list site.parts.start) (sym (any_of-list (has_other_counter None) site.parts.start)
      ∙ (counters site.parts (valid_site site h)).start) t k))) (
      two_false (list_any (any_expression (has_other_counter None)) (debug_marks M)) _
      (marks_fail (any_expression (has_other_counter None)) (λ site h mark k. mark-fails M ms site (fits site h) (has_other_counter None)
      (has_other_counter None) (tree-counter M ms site (fits site h) None) mark
      (fails-In (any_expression (has_other_counter None)) (marks_of site.parts.debug) (counters site.parts (valid_site site h)).marks mark k)))
      (ap (λ loads. list_any misplaces_counter (placed_from None loads)) j.loads ∙ (keep (sited ms) (λ site h. h) None).0)))

  no_section : has_defect M kinds.NoSection ≡ false
  no_section = ap (λ loads. list_any loads_nowhere (placed_from None loads)) j.loads ∙ (keep (sited ms) (λ site h. h) None).1

  depth : has_defect M kinds.Depth ≡ false
  depth = let low = depth-joined ms ms v 0 0 0 in ap (λ marks. nat_lt 32 (depth_of marks)) j.debug
      ∙ not_lt 32 (depth_from 0 (flat_map (λ site. map (joined_mark ms site) (marks_of site.parts.debug)) (sited ms))) low

  long_run : has_defect M kinds.LongRun ≡ false
  long_run = loads_fail (any_item is_long_literal) (λ site h load k. items-load ms site is_long_literal (long-item ms site) load
      ∙ fails-In (any_item is_long_literal) site.parts.loads (no_defect site.parts (valid_site site h) kinds.LongRun) load k)

  field_size : has_defect M kinds.FieldSize ≡ false
  field_size = loads_fail (any_item has_bad_size) (λ site h load k. items-load ms site has_bad_size (size-item ms site) load
      ∙ fails-In (any_item has_bad_size) site.parts.loads (no_defect site.parts (valid_site site h) kinds.FieldSize) load k)

  attribute : has_defect M kinds.Attribute ≡ false
  attribute = marks_fail has_unknown_attribute (λ site h mark k. attribute-mark ms site mark
      ∙ fails-In has_unknown_attribute (marks_of site.parts.debug) (no_defect site.parts (valid_site site h) kinds.Attribute) mark k)

  nesting : has_defect M kinds.Nesting ≡ false
  nesting =
      let debug = debug_of ms (sited ms) in
      let same : blocks_of M.debug ≡ blocks_of debug.items = ap blocks_of (same_items M.debug debug.items (j.debug ∙ sym debug.marks)) in
      ap (list_any has_bad_end) (same ∙ debug.blocks)
      ∙ none-joined has_bad_end (λ m. blocks_of m.debug) (block_joined ms) (sited ms)
      (λ site h block k. end-joined ms site block ∙ fails-In has_bad_end (blocks_of site.parts.debug)
      (no_defect site.parts (valid_site site h) kinds.Nesting) block k)

  too_heavy : total_weight ms + length name < 2 ^ 32 → has_defect M kinds.Weight ≡ false
  too_heavy light = let less = joined_weighs M ms name j in not_le (2 ^ 32) (weight M) (omega (arith, light, less))

  units : has_defect M kinds.BadMaus ≡ false
  units = ap not (first_valid ms j.header v).0

  no_defects : length name < 2 ^ 16 → total_weight ms + length name < 2 ^ 32 → IsValid M
  no_defects short light = find-nothing (has_defect M) defects (
    depth,
    (
      long_id short,
      (
        units,
        (
          sections_fail has_bad_alignment (λ m valid. no_defect m valid kinds.BadAlign),
          (
            sections_fail lacks_base (λ m valid. no_defect m valid kinds.MissingBase),
            (
              position,
              (misplaced, (no_section, (long_run, (field_size, (attribute, (nesting, (too_heavy light, tt))))))),
            ),
          ),
        ),
      ),
    ),
  )

pub joined_is_valid : JoinedIsValid
joined_is_valid M ms name j v = record { weighs = joined_weighs M ms name j; valid = no_defects M ms name j v }
