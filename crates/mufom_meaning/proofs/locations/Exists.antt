-- If no fact holds, there is a location.
use Rattle.std.proofs.Common.{◌≡◌, ℕ, suc, ◌+◌, ◌<◌, inl, inr, List, [], ◌∷◌, ◌++◌, map, length, Option, Some, None, refl, sym, ◌∙◌, ap, subst, arith}
use Rattle.std.proofs.Common.{length-append}
use Rattle.std.specs.Prelude.{option_map, option_to_list, unwrap_or, flat_map}
use Rattle.std.proofs.lemmas.List.{map-append}
use Rattle.mufom_expr.specs.Tree.{Tree, number}
use Rattle.mufom_debug.specs.declared.item.BlockHead.{BlockHead}
use Rattle.mufom_debug.specs.declared.item.DebugItem.{DebugItem}
use Rattle.mufom_debug.specs.Marks.{DebugMark, block_begin, block_end, name_mark, note_mark, value_mark, marks_of, mark_expressions}
use Rattle.mufom_module.specs.declared.module.Parts.{Parts}
use Rattle.mufom_module.specs.Contents.{HeadAndEnd, blocks_of}
use Rattle.mufom_plan.specs.declared.plan.Plan.{Plan}
use Rattle.mufom_meaning.specs.declared.located.PublicValue.{PublicValue}
use Rattle.mufom_meaning.specs.declared.located.LocatedParts.{LocatedParts}
use Rattle.mufom_meaning.specs.Flat.{Sited, SitedPublic, sited_from, sited, flat_publics, flat_starts, name_count}
use Rattle.mufom_meaning.specs.Values.{Setting, value}
use Rattle.mufom_meaning.specs.Steps.{readings_after, steps}
use Rattle.mufom_meaning.specs.AddressMap.{address_map}
use Rattle.mufom_meaning.specs.Readings.{public_reading, mark_reading, head_reading, readings}
use Rattle.mufom_meaning.specs.Location.{located_sections, located_public, located_head, located_mark, IsLocation}
use Rattle.mufom_meaning.specs.LocationLaws.{HasValue, LocationsExist}
use Rattle.mufom_meaning.specs.Facts.{duplicate_start, loaded_twice}
use Rattle.mufom_meaning.specs.LinkAnswer.{link_answer}
use Rattle.mufom_meaning.specs.LocateAnswer.{locate_answer}
use Rattle.mufom_meaning.specs.Stands.{StandsInWalk}
use Rattle.mufom_meaning.specs.Staging.{AreValid}
use Rattle.mufom_meaning.specs.Valued.{HaveValues}
use Rattle.mufom_meaning.proofs.facts.AllAnswers.{answers_are_facts}
use Rattle.mufom_meaning.proofs.Members.{In, map-In, flat_map-In}
use Rattle.mufom_meaning.proofs.locations.CellRuns.{rows_exist}
use Rattle.mufom_meaning.proofs.locations.ChangedMarks.{changed, changed_block, changed_items, marks_of-append, blocks_of-append}
use Rattle.mufom_meaning.proofs.locations.OwnAddresses.{own_addresses}
use Rattle.mufom_meaning.proofs.values.ValueLaws.{placed, no_link_fact, no_fact_before, values_exist, public_valued, start_valued, debug_valued, head_located}

-- values that are all there, as numbers
numbers_of : (os : List (Option ℕ)) → ((o : Option ℕ) → In o os → HasValue o) → (ns : List ℕ) × (map (λ n. Some n) ns ≡ os)
numbers_of [] h = ([], refl)
numbers_of (o ∷ os) h =
    let here = h o (inl refl) in let later = numbers_of os (λ u m. h u (inr m)) in (here.0 ∷ later.0, λ i. sym here.1 i ∷ later.1 i)

-- at most one number, as an option
abbrev first_number : List ℕ → Option ℕ
first_number [] = None
first_number (n ∷ ns) = Some n

only_number : (ns : List ℕ) → ¬ (1 < length ns) → option_to_list (first_number ns) ≡ ns
only_number [] h = refl
only_number (n ∷ []) h = refl
only_number (n ∷ m ∷ ns) h = absurd (h (omega arith))

module _ (ms : List Parts) (s : Setting) (h : HaveValues ms s) where
  -- the publics with their values
  publics_located : (qs : List SitedPublic) → ((q : SitedPublic) → In q qs → HasValue (value s q.site None q.entry.value)) → (ps : List PublicValue)
      × (map located_public ps ≡ map (public_reading s) qs)
  publics_located [] k = ([], refl)
  publics_located (q ∷ qs) k =
      let here = k q (inl refl) in let later = publics_located qs (λ p m. k p (inr m)) in (
        record { name = q.entry.name; value = here.0; notes = q.entry.notes } ∷ later.0,
        λ i. record { name = q.entry.name; notes = q.entry.notes; value = sym here.1 i } ∷ later.1 i,
      )

  -- a debug record of a module with numbers in place of its expressions
  abbrev pub number_there : Sited → Tree → Tree
  number_there site t = number (unwrap_or (value s site None t) 0)

  abbrev pub head_there : Sited → BlockHead → BlockHead
  head_there site head = unwrap_or (located_head (head_reading s site head)) head

  abbrev pub mark_there : Sited → DebugMark → DebugMark
  mark_there site = changed (head_there site) (option_map (number_there site)) (λ n. site.first_name + n) (number_there site)

  value_there : (site : Sited) (t : Tree) → HasValue (value s site None t) → option_map (λ n. number n) (value s site None t) ≡ Some (number_there site t)
  value_there site t v = ap (option_map (λ n. number n)) v.1 ∙ ap (λ o. Some (number (unwrap_or o 0))) (sym v.1)

  mapped_twice : {A B C : Type 0} (f : A → B) (g : B → C) (o : Option A) → option_map g (option_map f o) ≡ option_map (λ a. g (f a)) o
  mapped_twice f g None = refl
  mapped_twice f g (Some a) = refl

  mark_is : (site : Sited) (mark : DebugMark) → ((t : Tree) → In t (mark_expressions mark) → HasValue (value s site None t))
      → Some (mark_there site mark) ≡ located_mark (mark_reading s site mark)
  mark_is site (block_begin head name) k =
      let there = head_located ms s h site head k in
      let same : head_there site head ≡ there.0 = ap (λ o. unwrap_or o head) there.1 in
      ap (λ x. Some (block_begin x name)) same ∙ sym (ap (option_map (λ x. block_begin x name)) there.1)
  mark_is site (block_end None) k = refl
  mark_is site (block_end (Some t)) k =
      ap (option_map (λ n. block_end (Some n))) (sym (value_there site t (k t (inl refl))))
      ∙ mapped_twice (λ n. number n) (λ n. block_end (Some n)) (value s site None t)
  mark_is site (name_mark name) k = refl
  mark_is site (note_mark name note) k = refl
  mark_is site (value_mark name t) k =
      ap (option_map (λ n. value_mark (site.first_name + name) n)) (sym (value_there site t (k t (inl refl))))
      ∙ mapped_twice (λ n. number n) (λ n. value_mark (site.first_name + name) n) (value s site None t)

  marks_are : (site : Sited) → In site (sited ms) → (marks : List DebugMark) → ((mark : DebugMark) → In mark marks → In mark (marks_of site.parts.debug))
      → map (λ mark. Some mark) (map (mark_there site) marks) ≡ map located_mark (map (mark_reading s site) marks)
  marks_are site m [] among = refl
  marks_are site m (mark ∷ marks) among =
      let here = mark_is site mark (debug_valued ms s h site m mark (among mark (inl refl))) in
      let later = marks_are site m marks (λ other k. among other (inr k)) in λ i. here i ∷ later i

  abbrev pub block_there : Sited → HeadAndEnd → HeadAndEnd
  block_there site = changed_block (head_there site) (option_map (number_there site)) (λ n. site.first_name + n) (number_there site)

  -- debug items of all modules, with numbers in place of their expressions
  pub record HasDebugThere (sites : List Sited) : Type 0 where
    pub items : List DebugItem
    pub marks : marks_of items ≡ flat_map (λ site. map (mark_there site) (marks_of site.parts.debug)) sites
    pub blocks : blocks_of items ≡ flat_map (λ site. map (block_there site) (blocks_of site.parts.debug)) sites

  pub debug_there : (sites : List Sited) → HasDebugThere sites
  debug_there [] = record { items = []; marks = refl; blocks = refl }
  debug_there (site ∷ sites) =
      let later = debug_there sites in
      let here = changed_items (head_there site) (option_map (number_there site)) (λ n. site.first_name + n) (number_there site) site.parts.debug in
      record {
        items = here.0 ++ later.items;
        marks = marks_of-append here.0 later.items ∙ (λ i. here.1 i ++ later.marks i);
        blocks = blocks_of-append here.0 later.items ∙ (λ i. here.2 i ++ later.blocks i);
      }

  pub debug_located : (sites : List Sited) → ((site : Sited) → In site sites → In site (sited ms))
      → map (λ mark. Some mark) (flat_map (λ site. map (mark_there site) (marks_of site.parts.debug)) sites)
      ≡ map located_mark (flat_map (λ site. map (mark_reading s site) (marks_of site.parts.debug)) sites)
  debug_located [] among = refl
  debug_located (site ∷ sites) among =
      let later = debug_located sites (λ other k. among other (inr k)) in
      let own = marks_are site (among site (inl refl)) (marks_of site.parts.debug) (λ mark k. k) in
      map-append (λ mark. Some mark) (map (mark_there site) (marks_of site.parts.debug))
      (flat_map (λ site. map (mark_there site) (marks_of site.parts.debug)) sites)
      ∙ (λ i. own i ++ later i)
      ∙ sym (map-append located_mark (map (mark_reading s site) (marks_of site.parts.debug))
      (flat_map (λ site. map (mark_reading s site) (marks_of site.parts.debug)) sites))

-- the starts' values are as many as the starts
starts_count : (s : Setting) (a b d : ℕ) (ms : List Parts) → length
    (flat_map (λ site. map (value s site None) (option_to_list site.parts.start)) (sited_from a b d ms)) ≡ length (flat_starts ms)
starts_count s a b d [] = refl
starts_count s a b d (m ∷ ms) =
    let site : Sited = record { parts = m; first_section = a; first_public = b; first_name = d } in
    let later = starts_count s (a + length m.sections) (b + length m.names.publics) (d + name_count (marks_of m.debug)) ms in
    length-append (map (value s site None) (option_to_list m.start)) _ ∙ (λ i. own site m.start i + later i)
    ∙ sym (length-append (option_to_list m.start) (flat_starts ms)) where
      own : (site : Sited) (o : Option Tree) → length (map (value s site None) (option_to_list o)) ≡ length (option_to_list o)
      own site None = refl
      own site (Some t) = refl

abbrev all_some : List ℕ → List (Option ℕ)
all_some ns = map (λ n. Some n) ns

numbers_count : (ns : List ℕ) → length (all_some ns) ≡ length ns
numbers_count [] = refl
numbers_count (n ∷ ns) = ap suc (numbers_count ns)

module _ (m : Parts) (more : List Parts) (plan : Plan) (v : AreValid (m ∷ more)) (l : link_answer (m ∷ more)
    ≡ None) (e : locate_answer (m ∷ more) plan ≡ None) where
  abbrev ms : List Parts
  ms = m ∷ more

  abbrev s : Setting
  s = placed ms plan

  valued : HaveValues ms s
  valued = values_exist ms plan v l e

  once : (address : ℕ) → ¬ StandsInWalk ms s (loaded_twice address)
  once address h = (answers_are_facts ms plan).locate_complete e (loaded_twice address) (inr (no_link_fact ms l, no_fact_before ms plan e, h))

  abbrev start_values : List (Option ℕ)
  start_values = flat_map (λ site. map (value s site None) (option_to_list site.parts.start)) (sited ms)

  starts : (ns : List ℕ) × (all_some ns ≡ start_values)
  starts = numbers_of start_values (λ o k. let there = flat_map-In (λ site. map (value s site None) (option_to_list site.parts.start)) o (sited ms) k in
      let own = map-In (value s there.0 None) o (option_to_list there.0.parts.start) there.2 in
      subst HasValue own.2 (start_valued ms s valued there.0 there.1 own.0 own.1))

  one_start : option_to_list (first_number starts.0) ≡ starts.0
  one_start = only_number starts.0 (λ less.
      let count : length starts.0 ≡ length (flat_starts ms) = sym (numbers_count starts.0) ∙ ap length starts.1 ∙ starts_count s 0 0 0 ms in
      let two : 1 < length (flat_starts ms) = omega (arith, less, count) in no_link_fact ms l duplicate_start two)

  located : (r : LocatedParts) × IsLocation ms plan r
  unfolding readings
  located =
      let publics = publics_located ms s valued (flat_publics ms) (public_valued ms s valued) in
      let debug = debug_there ms s valued (sited ms) in
      let rows = rows_exist (address_map m.order s.modulus (readings_after s [] (steps ms))) (own_addresses m.order ms s once) in (
        record {
          processor = m.processor;
          name = m.name;
          maus = m.maus;
          order = m.order;
          sections = located_sections ms plan;
          publics = publics.0;
          runs = rows.0;
          start = first_number starts.0;
          debug = debug.items;
        },
        record {
          links = l;
          locates = e;
          first = refl;
          sections = refl;
          publics = publics.1;
          start = ap all_some one_start ∙ starts.1;
          debug = ap (map (λ mark. Some mark)) debug.marks ∙ debug_located ms s valued (sited ms) (λ site k. k);
          rows = rows.1;
        },
      )

pub locations_exist : LocationsExist
locations_exist [] plan some v l e = absurd (some refl)
locations_exist (m ∷ more) plan some v l e = located m more plan v l e
