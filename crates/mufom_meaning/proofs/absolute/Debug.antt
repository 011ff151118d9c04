-- The debug items of a sound location have no defect.
use Rattle.std.proofs.Common.{◌≡◌, ℕ, ◌+◌, ◌-◌, ◌<◌, ◌≤◌, inl, inr, max, List, [], ◌∷◌, ◌++◌, map, length, Option, Some, None, Bool, true, false}
use Rattle.std.proofs.Common.{◌||◌, ◌&&◌, refl, sym, ◌∙◌, ap, arith}
use Rattle.std.specs.Prelude.{flat_map, nat_lt, option_map, option_to_list, unwrap_or, is_some, is_none, option_and_then, if◌then◌else◌}
use Rattle.std.specs.List.{list_any}
use Rattle.mufom_expr.specs.Tree.{Tree, number}
use Rattle.mufom_debug.specs.declared.item.BlockHead.{BlockHead}
use Rattle.mufom_debug.specs.declared.item.BlockHead.TheVariants as heads
use Rattle.mufom_debug.specs.Marks.{DebugMark, block_begin, block_end, name_mark, note_mark, value_mark, marks_of, mark_expressions, offset_of}
use Rattle.mufom_debug.specs.Marks.{depth_from, depth_of}
use Rattle.mufom_debug.proofs.Balance.{items_balanced}
use Rattle.mufom_debug.proofs.Rebuilt.{same_items}
use Rattle.mufom_module.specs.declared.module.Parts.{Parts}
use Rattle.mufom_module.specs.declared.module.Defect.TheVariants as d
use Rattle.mufom_module.specs.Contents.{HeadAndEnd, blocks_of, any_of, any_expression}
use Rattle.mufom_module.specs.Defects.{IsValid, counts_of, names_outside, has_bad_place, has_bad_mark, begins_badly, names_bad_section, has_long_name}
use Rattle.mufom_module.specs.Defects.{is_long, has_unknown_attribute, has_other_counter, declared_after, ends_plainly, has_bad_end}
use Rattle.mufom_plan.specs.declared.plan.Plan.{Plan}
use Rattle.mufom_meaning.specs.Placed.{planned_bases}
use Rattle.mufom_meaning.specs.Readings.{readings}
use Rattle.mufom_meaning.specs.declared.located.LocatedParts.{LocatedParts}
use Rattle.mufom_meaning.specs.Flat.{Sited, sited_from, sited, name_count}
use Rattle.mufom_meaning.specs.Values.{Setting, setting, value}
use Rattle.mufom_meaning.specs.Staging.{AreValid}
use Rattle.mufom_meaning.specs.Valued.{HaveValues}
use Rattle.mufom_meaning.specs.Absolute.{absolute_of}
use Rattle.mufom_meaning.proofs.Tests.{either_false}
use Rattle.mufom_numbers.proofs.Choices.{some_same, two_false, of_lt, is_lt, of_not_lt, not_lt, of_not_le, not_le}
use Rattle.mufom_meaning.proofs.Members.{In, flat_map-In, map-In, none-In, fails-In}
use Rattle.mufom_meaning.proofs.NoDefects.{no_defect}
use Rattle.mufom_meaning.proofs.values.Named.{site_module, valid_module, sections_end}
use Rattle.mufom_meaning.proofs.values.ValueLaws.{values_exist}
use Rattle.mufom_meaning.proofs.locations.Single.{map_same}
use Rattle.mufom_meaning.proofs.locations.Exists.{head_there, number_there, mark_there, block_there, debug_there, debug_located}
use Rattle.mufom_meaning.proofs.absolute.Sound.{IsSoundLocation}
use Rattle.mufom_meaning.proofs.absolute.Located.{numbered_mark}

-- a test that fails at each number fails at a mark with numbers as expressions
numbers_fail : (p : Tree → Bool) → ((n : ℕ) → p (number n) ≡ false) → (mark : DebugMark)
    → ((t : Tree) → In t (mark_expressions mark) → (n : ℕ) × (t ≡ number n)) → any_expression p mark ≡ false
numbers_fail p fails (block_begin head name) numbers = by_option (offset_of head) numbers where
  by_option : (o : Option Tree) → ((t : Tree) → In t (option_to_list o) → (n : ℕ) × (t ≡ number n)) → any_of p o ≡ false
  by_option None numbers = refl
  by_option (Some t) numbers = let n = numbers t (inl refl) in ap p n.1 ∙ fails n.0
numbers_fail p fails (block_end None) numbers = refl
numbers_fail p fails (block_end (Some t)) numbers = let n = numbers t (inl refl) in ap p n.1 ∙ fails n.0
numbers_fail p fails (name_mark name) numbers = refl
numbers_fail p fails (note_mark name note) numbers = refl
numbers_fail p fails (value_mark name t) numbers = let n = numbers t (inl refl) in ap p n.1 ∙ fails n.0

module _ (m : Parts) (more : List Parts) (plan : Plan) (r : LocatedParts) (v : AreValid (m ∷ more)) (h : IsSoundLocation (m ∷ more) plan r) where
  abbrev ms : List Parts
  ms = m ∷ more

  abbrev s : Setting
  s = setting ms (planned_bases ms plan)

  abbrev valued : HaveValues ms s
  valued = values_exist ms plan v h.links h.locates

  abbrev there : Sited → DebugMark → DebugMark
  there site = mark_there ms s valued site

  valid_site : (site : Sited) → In site (sited ms) → IsValid site.parts
  valid_site site k = valid_module ms v site.parts (site_module 0 0 0 ms site k)

  marks_there : marks_of r.debug ≡ flat_map (λ site. map (there site) (marks_of site.parts.debug)) (sited ms)
  unfolding readings
  marks_there = map_same (λ mark. Some mark) some_same (marks_of r.debug) (flat_map (λ site. map (there site) (marks_of site.parts.debug)) (sited ms))
      (h.debug ∙ sym (debug_located ms s valued (sited ms) (λ site k. k)))

  blocks_there : blocks_of r.debug ≡ flat_map (λ site. map (block_there ms s valued site) (blocks_of site.parts.debug)) (sited ms)
  blocks_there = let d = debug_there ms s valued (sited ms) in ap blocks_of (same_items r.debug d.items (marks_there ∙ sym d.marks)) ∙ d.blocks

  -- a test that fails at all marks
  marks_fail : (p : DebugMark → Bool) → ((site : Sited) → In site (sited ms) → (mark : DebugMark) → In mark (marks_of site.parts.debug)
      → p (there site mark) ≡ false) → list_any p (marks_of r.debug) ≡ false
  marks_fail p fails = ap (list_any p) marks_there ∙ none-In p (flat_map (λ site. map (there site) (marks_of site.parts.debug)) (sited ms)) (λ mark k.
      let at = flat_map-In (λ site. map (there site) (marks_of site.parts.debug)) mark (sited ms) k in
      let own = map-In (there at.0) mark (marks_of at.0.parts.debug) at.2 in ap p (sym own.2) ∙ fails at.0 at.1 own.0 own.1)

  -- ---- names and attributes

  same_long : (site : Sited) (mark : DebugMark) → has_long_name (there site mark) ≡ has_long_name mark
  same_long site (block_begin head name) = refl
  same_long site (block_end end) = refl
  same_long site (name_mark name) = refl
  same_long site (note_mark name note) = refl
  same_long site (value_mark name t) = refl

  -- what is left of a test of strings after those of the module itself
  names_of_marks : (parts : Parts) → IsValid parts → list_any has_long_name (marks_of parts.debug) ≡ false
  names_of_marks parts valid =
      let all = no_defect parts valid d.LongId in
      let a = (either_false (is_long parts.processor) _ all).1 in
      let b = (either_false (is_long parts.name) (list_any (λ s. is_long s.name) parts.sections
      || (list_any (λ p. is_long p.name) parts.names.publics || (list_any (λ r. is_long r.name) parts.names.references
      || list_any has_long_name (marks_of parts.debug)))) a).1 in
      let c = (either_false (list_any (λ s. is_long s.name) parts.sections) (list_any (λ p. is_long p.name) parts.names.publics
      || (list_any (λ r. is_long r.name) parts.names.references || list_any has_long_name (marks_of parts.debug))) b).1 in
      let e = (either_false (list_any (λ p. is_long p.name) parts.names.publics) (list_any (λ r. is_long r.name) parts.names.references
      || list_any has_long_name (marks_of parts.debug)) c).1 in
      (either_false (list_any (λ r. is_long r.name) parts.names.references) (list_any has_long_name (marks_of parts.debug)) e).1

  pub short_names : list_any has_long_name (marks_of r.debug) ≡ false
  short_names = marks_fail has_long_name (λ site k mark l.
      same_long site mark ∙ fails-In has_long_name (marks_of site.parts.debug) (names_of_marks site.parts (valid_site site k)) mark l)

  same_attribute : (site : Sited) (mark : DebugMark) → has_unknown_attribute (there site mark) ≡ has_unknown_attribute mark
  same_attribute site (block_begin head name) = refl
  same_attribute site (block_end end) = refl
  same_attribute site (name_mark name) = refl
  same_attribute site (note_mark name note) = refl
  same_attribute site (value_mark name t) = refl

  pub known : list_any has_unknown_attribute (marks_of r.debug) ≡ false
  known = marks_fail has_unknown_attribute (λ site k mark l.
      same_attribute site mark ∙ fails-In has_unknown_attribute (marks_of site.parts.debug) (no_defect site.parts (valid_site site k) d.Attribute) mark l)

  -- ---- sections and expressions

  head_inside : (site : Sited) → In site (sited ms) → (head : BlockHead) → names_bad_section (counts_of site.parts) head ≡ false
      → names_bad_section (counts_of (absolute_of r)) (head_there ms s valued site head) ≡ false
  head_inside site k heads.Module e = refl
  head_inside site k (heads.Source numbers) e = refl
  head_inside site k (heads.Global stack type_index offset) e = by_value (value s site None offset) where
    by_value : (o : Option ℕ) → names_bad_section (counts_of (absolute_of r))
        (unwrap_or (option_map (λ n. heads.Global stack type_index (number n)) o) (heads.Global stack type_index offset)) ≡ false
    by_value None = refl
    by_value (Some n) = refl
  head_inside site k (heads.Local stack type_index offset) e = by_value (value s site None offset) where
    by_value : (o : Option ℕ) → names_bad_section (counts_of (absolute_of r))
        (unwrap_or (option_map (λ n. heads.Local stack type_index (number n)) o) (heads.Local stack type_index offset)) ≡ false
    by_value None = refl
    by_value (Some n) = refl
  head_inside site k (heads.Section section_type section offset) e =
      let less = of_not_le (length site.parts.sections) section e in
      let end = sections_end 0 0 0 ms site k in
      let count = h.enough in
      by_value (value s site None offset) (omega (arith, less, end, count)) (omega (arith, less, end, count)) where
        by_value : (o : Option ℕ) → section < length r.sections → site.first_section + section < length r.sections
            → names_bad_section (counts_of (absolute_of r)) (unwrap_or
            (option_map (λ n. heads.Section section_type (site.first_section + section) (number n)) o) (heads.Section section_type section offset)) ≡ false
        by_value None a b = not_le (length r.sections) section a
        by_value (Some n) a b = not_le (length r.sections) (site.first_section + section) b

  begins_inside : (site : Sited) → In site (sited ms) → (mark : DebugMark) → begins_badly (counts_of site.parts) mark ≡ false
      → begins_badly (counts_of (absolute_of r)) (there site mark) ≡ false
  begins_inside site k (block_begin head name) e = head_inside site k head e
  begins_inside site k (block_end end) e = refl
  begins_inside site k (name_mark name) e = refl
  begins_inside site k (note_mark name note) e = refl
  begins_inside site k (value_mark name t) e = refl

  bad_marks_fail : (parts : Parts) → IsValid parts → list_any (has_bad_mark (counts_of parts)) (marks_of parts.debug) ≡ false
  bad_marks_fail parts valid =
      let all = no_defect parts valid d.Position in
      let a = (either_false (list_any (λ p. names_outside (counts_of parts) p.value) parts.names.publics) _ all).1 in
      let b = (either_false (list_any (has_bad_place (counts_of parts)) parts.loads) (list_any (has_bad_mark (counts_of parts)) (marks_of parts.debug)
      || (any_of (names_outside (counts_of parts)) parts.start || is_none (declared_after 0 (marks_of parts.debug)))) a).1 in
      (either_false (list_any (has_bad_mark (counts_of parts)) (marks_of parts.debug)) (any_of (names_outside (counts_of parts)) parts.start
      || is_none (declared_after 0 (marks_of parts.debug))) b).0

  sections_inside : list_any (begins_badly (counts_of (absolute_of r))) (marks_of r.debug) ≡ false
  sections_inside = marks_fail (begins_badly (counts_of (absolute_of r))) (λ site k mark l.
      begins_inside site k mark (either_false (begins_badly (counts_of site.parts) mark) _
      (fails-In (has_bad_mark (counts_of site.parts)) (marks_of site.parts.debug) (bad_marks_fail site.parts (valid_site site k)) mark l)).0)

  pub marks_inside : list_any (has_bad_mark (counts_of (absolute_of r))) (marks_of r.debug) ≡ false
  marks_inside = none-In (has_bad_mark (counts_of (absolute_of r))) (marks_of r.debug) (λ mark k.
      two_false (begins_badly (counts_of (absolute_of r)) mark) (any_expression (names_outside (counts_of (absolute_of r))) mark)
      (fails-In (begins_badly (counts_of (absolute_of r))) (marks_of r.debug) sections_inside mark k)
      (numbers_fail (names_outside (counts_of (absolute_of r))) (λ n. refl) mark (numbered_mark m more plan r v h mark k).numbers))

  pub no_counters : list_any (any_expression (has_other_counter None)) (marks_of r.debug) ≡ false
  no_counters = none-In (any_expression (has_other_counter None)) (marks_of r.debug) (λ mark k.
      numbers_fail (has_other_counter None) (λ n. refl) mark (numbered_mark m more plan r v h mark k).numbers)

  -- ---- depth

  depth_same : (site : Sited) (marks rest other : List DebugMark) → ((o : ℕ) → depth_from o other ≡ depth_from o rest) → (o : ℕ)
      → depth_from o (map (there site) marks ++ other) ≡ depth_from o (marks ++ rest)
  depth_same site [] rest other same o = same o
  depth_same site (block_begin head name ∷ marks) rest other same o = ap (max o) (depth_same site marks rest other same (o + 1))
  depth_same site (block_end end ∷ marks) rest other same o = ap (max o) (depth_same site marks rest other same (o - 1))
  depth_same site (name_mark name ∷ marks) rest other same o = ap (max o) (depth_same site marks rest other same o)
  depth_same site (note_mark name note ∷ marks) rest other same o = ap (max o) (depth_same site marks rest other same o)
  depth_same site (value_mark name t ∷ marks) rest other same o = ap (max o) (depth_same site marks rest other same o)

  depth_flat : (sites : List Sited) (o : ℕ) → depth_from o (flat_map (λ site. map (there site) (marks_of site.parts.debug)) sites)
      ≡ depth_from o (flat_map (λ site. marks_of site.parts.debug) sites)
  depth_flat [] o = refl
  depth_flat (site ∷ sites) o =
      depth_same site (marks_of site.parts.debug) (flat_map (λ site. marks_of site.parts.debug) sites)
      (flat_map (λ site. map (there site) (marks_of site.parts.debug)) sites) (depth_flat sites) o

  depth_bound : (sites : List Sited) → ((site : Sited) → In site sites → In site (sited ms))
      → depth_of (flat_map (λ site. marks_of site.parts.debug) sites) ≤ 32
  depth_bound [] among = omega arith
  depth_bound (site ∷ sites) among =
      let whole = (items_balanced site.parts.debug).deep 0 (flat_map (λ site. marks_of site.parts.debug) sites) in
      let own = of_not_lt 32 (depth_of (marks_of site.parts.debug)) (no_defect site.parts (valid_site site (among site (inl refl))) d.Depth) in
      let later = depth_bound sites (λ other k. among other (inr k)) in omega (arith, whole, own, later)

  pub shallow : nat_lt 32 (depth_of (marks_of r.debug)) ≡ false
  shallow =
      let same = ap depth_of marks_there ∙ depth_flat (sited ms) 0 in
      let bound = depth_bound (sited ms) (λ site k. k) in not_lt 32 (depth_of (marks_of r.debug)) (omega (arith, same, bound))

  -- ---- ends

  plain_same : (site : Sited) (head : BlockHead) → ends_plainly (head_there ms s valued site head) ≡ ends_plainly head
  plain_same site heads.Module = refl
  plain_same site (heads.Source numbers) = refl
  plain_same site (heads.Global stack type_index offset) = by_value (value s site None offset) where
    by_value : (o : Option ℕ) → ends_plainly (unwrap_or (option_map (λ n. heads.Global stack type_index (number n)) o)
        (heads.Global stack type_index offset)) ≡ false
    by_value None = refl
    by_value (Some n) = refl
  plain_same site (heads.Local stack type_index offset) = by_value (value s site None offset) where
    by_value : (o : Option ℕ) → ends_plainly (unwrap_or (option_map (λ n. heads.Local stack type_index (number n)) o)
        (heads.Local stack type_index offset)) ≡ false
    by_value None = refl
    by_value (Some n) = refl
  plain_same site (heads.Section section_type section offset) = by_value (value s site None offset) where
    by_value : (o : Option ℕ) → ends_plainly (unwrap_or (option_map (λ n. heads.Section section_type (site.first_section + section) (number n)) o)
        (heads.Section section_type section offset)) ≡ false
    by_value None = refl
    by_value (Some n) = refl

  end_same : (site : Sited) (block : HeadAndEnd) → has_bad_end (block_there ms s valued site block) ≡ has_bad_end block
  end_same site block = (λ i. plain_same site block.0 i && by_end block.1 i) where
    by_end : (o : Option Tree) → is_some (option_map (number_there ms s valued site) o) ≡ is_some o
    by_end None = refl
    by_end (Some t) = refl

  pub plain_ends : list_any has_bad_end (blocks_of r.debug) ≡ false
  plain_ends = ap (list_any has_bad_end) blocks_there ∙ none-In has_bad_end
      (flat_map (λ site. map (block_there ms s valued site) (blocks_of site.parts.debug)) (sited ms)) (λ block k.
      let at = flat_map-In (λ site. map (block_there ms s valued site) (blocks_of site.parts.debug)) block (sited ms) k in
      let own = map-In (block_there ms s valued at.0) block (blocks_of at.0.parts.debug) at.2 in
      ap has_bad_end (sym own.2) ∙ end_same at.0 own.0 ∙ fails-In has_bad_end (blocks_of at.0.parts.debug)
      (no_defect at.0.parts (valid_site at.0 at.1) d.Nesting) own.0 own.1)

  -- ---- debug names

  declared_parts : (parts : Parts) → IsValid parts → is_none (declared_after 0 (marks_of parts.debug)) ≡ false
  declared_parts parts valid =
      let all = no_defect parts valid d.Position in
      let a = (either_false (list_any (λ p. names_outside (counts_of parts) p.value) parts.names.publics) _ all).1 in
      let b = (either_false (list_any (has_bad_place (counts_of parts)) parts.loads) (list_any (has_bad_mark (counts_of parts)) (marks_of parts.debug)
      || (any_of (names_outside (counts_of parts)) parts.start || is_none (declared_after 0 (marks_of parts.debug)))) a).1 in
      let c = (either_false (list_any (has_bad_mark (counts_of parts)) (marks_of parts.debug)) (any_of (names_outside (counts_of parts)) parts.start
      || is_none (declared_after 0 (marks_of parts.debug))) b).1 in
      (either_false (any_of (names_outside (counts_of parts)) parts.start) (is_none (declared_after 0 (marks_of parts.debug))) c).1

  -- after the marks of a module the count of declared names has grown by those that it declares
  declared_on : (site : Sited) (marks rest : List DebugMark) (n : ℕ) → is_none (declared_after n marks) ≡ false
      → declared_after (site.first_name + n) (map (there site) marks ++ rest) ≡ declared_after (site.first_name + (n + name_count marks)) rest
  declared_on site [] rest n e = let same : site.first_name + n ≡ site.first_name + (n + 0) = omega arith in ap (λ k. declared_after k rest) same
  declared_on site (block_begin head name ∷ marks) rest n e = declared_on site marks rest n e
  declared_on site (block_end end ∷ marks) rest n e = declared_on site marks rest n e
  declared_on site (name_mark name ∷ marks) rest n e =
      let here : (site.first_name + n) + 1 ≡ site.first_name + (n + 1) = omega arith in
      let end : site.first_name + ((n + 1) + name_count marks) ≡ site.first_name + (n + (1 + name_count marks)) = omega arith in
      ap (λ k. declared_after k (map (there site) marks ++ rest)) here ∙ declared_on site marks rest (n + 1) e ∙ ap (λ k. declared_after k rest) end
  declared_on site (note_mark name note ∷ marks) rest n e = by_test (nat_lt name n) refl e (declared_on site marks rest n) where
    by_test : (b : Bool) → nat_lt name n ≡ b → is_none (option_and_then (λ k. declared_after k marks) (if b then Some n else None)) ≡ false
        → (is_none (declared_after n marks) ≡ false → declared_after (site.first_name + n) (map (there site) marks ++ rest)
        ≡ declared_after (site.first_name + (n + name_count marks)) rest)
        → option_and_then (λ k. declared_after k (map (there site) marks ++ rest)) (if nat_lt (site.first_name + name) (site.first_name + n)
        then Some (site.first_name + n) else None) ≡ declared_after (site.first_name + (n + name_count marks)) rest
    by_test false f e later = absurd cc
    by_test true f e later =
        let less = of_lt name n f in
        let test = is_lt (site.first_name + name) (site.first_name + n) (omega (arith, less)) in
        ap (λ (b : Bool). option_and_then (λ k. declared_after k (map (there site) marks ++ rest)) (if b then Some (site.first_name + n) else None))
        test ∙ later e
  declared_on site (value_mark name t ∷ marks) rest n e = by_test (nat_lt name n) refl e (declared_on site marks rest n) where
    by_test : (b : Bool) → nat_lt name n ≡ b → is_none (option_and_then (λ k. declared_after k marks) (if b then Some n else None)) ≡ false
        → (is_none (declared_after n marks) ≡ false → declared_after (site.first_name + n) (map (there site) marks ++ rest)
        ≡ declared_after (site.first_name + (n + name_count marks)) rest)
        → option_and_then (λ k. declared_after k (map (there site) marks ++ rest)) (if nat_lt (site.first_name + name) (site.first_name + n)
        then Some (site.first_name + n) else None) ≡ declared_after (site.first_name + (n + name_count marks)) rest
    by_test false f e later = absurd cc
    by_test true f e later =
        let less = of_lt name n f in
        let test = is_lt (site.first_name + name) (site.first_name + n) (omega (arith, less)) in
        ap (λ (b : Bool). option_and_then (λ k. declared_after k (map (there site) marks ++ rest)) (if b then Some (site.first_name + n) else None))
        test ∙ later e

  declared_flat : (a b c : ℕ) (list : List Parts) → AreValid list
      → is_none (declared_after c (flat_map (λ site. map (there site) (marks_of site.parts.debug)) (sited_from a b c list))) ≡ false
  declared_flat a b c [] valid = refl
  declared_flat a b c (x ∷ list) valid =
      let site : Sited = record { parts = x; first_section = a; first_public = b; first_name = c } in
      let rest = flat_map (λ site. map (there site) (marks_of site.parts.debug))
      (sited_from (a + length x.sections) (b + length x.names.publics) (c + name_count (marks_of x.debug)) list) in
      let here : c ≡ c + 0 = omega arith in
      let end : c + (0 + name_count (marks_of x.debug)) ≡ c + name_count (marks_of x.debug) = omega arith in
      ap is_none (ap (λ k. declared_after k (map (there site) (marks_of x.debug) ++ rest)) here
      ∙ declared_on site (marks_of x.debug) rest 0 (declared_parts x valid.0) ∙ ap (λ k. declared_after k rest) end)
      ∙ declared_flat (a + length x.sections) (b + length x.names.publics) (c + name_count (marks_of x.debug)) list valid.1

  pub declared : is_none (declared_after 0 (marks_of r.debug)) ≡ false
  declared = ap (λ marks. is_none (declared_after 0 marks)) marks_there ∙ declared_flat 0 0 0 ms v
