-- What a whole prefix states, as the code keeps it.
use Rattle.std.proofs.Common.{◌≡◌, ℕ, ◌≤◌, nat_le, true, false, min, List, [], ◌∷◌, ◌++◌, map, filter_map, refl, sym, ap, subst, ◌∙◌, arith}
use Rattle.std.proofs.Common.{slice_get, Option, Some, None, option_map, option_to_list, ◌+◌, length}
use Rattle.std.specs.Prelude.{unwrap_or}
use Rattle.std.proofs.lemmas.Bool.{and_parts, leb-true}
use Rattle.std.specs.List.{cons_option}
use Rattle.mufom_expr.specs.Tree.{Tree}
use Rattle.mufom_records.specs.declared.record.Record.{Record}
use Rattle.mufom_module.specs.declared.module.Parts.{Parts}
use Rattle.mufom_module.specs.Defects.{is_unit_count}
use Rattle.mufom_module.specs.SpelledRecords.{SpelledRecord, bytes_of, text_in}
use Rattle.mufom_module.specs.Gathered.{sections_of, publics_of, references_of, loads_of, starts_of}
use Rattle.mufom_module.specs.RecordParts.{extension_part, environment_part, section_part, external_part, debug_part, trailer_part, end_part}
use Rattle.mufom_module.specs.Grammar.{SpellsModule, header_of, indexes_of, parts_of, offsets_in, StandAt}
use Rattle.mufom_read.specs.declared.prefix.Prefix.{Prefix}
use Rattle.mufom_read.specs.declared.header.Names.{Names}
use Rattle.mufom_read.specs.declared.header.Addressing.{Addressing}
use Rattle.mufom_read.specs.declared.header.Header.{Header}
use Rattle.mufom_judging.specs.Prefixes.{Step, records_of, offset_records_of, offsets_of}
use Rattle.mufom_judging.specs.Faults.{is_bad_descriptor}
use Rattle.mufom_read.specs.Kept.{indexes_by}
use Rattle.mufom_read.specs.HeaderSoFar.{names_by, layout_by, names_in, layout_in}
use Rattle.mufom_judging.specs.RecordFields.{order_of}
use Rattle.mufom_read.specs.LoadsSoFar.{closed, units_in, loads_so_far}
use Rattle.mufom_read.specs.ContentsSoFar.{start_so_far}
use Rattle.mufom_read.specs.PrefixOfCode.{IsPrefixOf}
use Rattle.mufom_judging.specs.Stated.{indexes_in}
use Rattle.mufom_read.specs.Built.{IsStatedByKept, IsWhole}
use Rattle.mufom_read.proofs.ended.DebugKept.{debug-kept}
use Rattle.mufom_judging.proofs.ended.Sliced.{Sliced}
use Rattle.mufom_judging.proofs.ended.Stated.{stated_by, states, units_of, stand_parts, sorted, same_ix, is_stated}
use Rattle.mufom_judging.proofs.ended.Rows.{IsBegin, IsDescriptor}
use Rattle.mufom_judging.proofs.ended.Gathered.{all_records, end_alone}
use Rattle.mufom_read.specs.NamesSoFar.{records_in, placed_public}
use Rattle.mufom_read.proofs.so_far.PublicSteps.{publics-placed}
use Rattle.mufom_read.proofs.stepping.PrefixLaws.{records-placed}
use Rattle.mufom_read.proofs.so_far.Contents.{start-whole}
use Rattle.mufom_read.proofs.ended.LoadsWhole.{others-other, silent-other, other-append, loads-whole}
use Rattle.mufom_read.proofs.stepping.PartBytes.{so-far}
use Rattle.mufom_judging.proofs.ended.Prefix.{ended_sliced}
use Rattle.mufom_judging.proofs.weighing.Files.{files_weigh}
use Rattle.mufom_records.specs.declared.options.ReadOptions.{ReadOptions}

few_units : (n : ℕ) → is_unit_count n ≡ true → n ≤ 8
few_units n h = leb-true n 8 (and_parts (nat_le 1 n) (nat_le n 8) h).1

-- ---- the header

least_units : (n : ℕ) → n ≤ 8 → min n 8 ≡ n
least_units n h = omega arith

-- the names that the first record gives
names-first : (begin : SpelledRecord) (ps : List SpelledRecord) (b : IsBegin begin.row) → names_in (begin ∷ ps)
    ≡ Some (record { processor = text_in begin b.0; name = text_in begin b.1 })
names-first begin ps b = (λ k. slice_get (cons_option (names_by begin (b.2 k)) (filter_map (λ p. names_by p p.row) ps)) 0)

-- the layout that the first two records give
layout-first : (begin descriptor : SpelledRecord) (ps : List SpelledRecord) (b : IsBegin begin.row) (d : IsDescriptor descriptor.row) → is_unit_count d.1 ≡ true
    → layout_in (begin ∷ descriptor ∷ ps) ≡ Some (record { maus = d.1; order = order_of d.2 })
layout-first begin descriptor ps b d counted =
    (λ k. slice_get (cons_option (layout_by (b.2 k)) (cons_option (layout_by (d.3 k)) (filter_map (λ p. layout_by p.row) ps))) 0)
    ∙ (λ k. Some (record { maus = least_units d.1 (few_units d.1 counted) k; order = order_of d.2 }))

-- if there is at most one start address, it is the first that the records state
first-start : (o : Option Tree) (starts : List Tree) → option_to_list o ≡ starts → slice_get starts 0 ≡ o
first-start None starts e = ap (λ l. slice_get l 0) (sym e)
first-start (Some tree) starts e = ap (λ l. slice_get l 0) (sym e)

-- an ended prefix has its header
stand_count : (offsets : List ℕ) (at : ℕ) (parts : List (List ℕ)) → StandAt offsets at parts → length offsets ≡ length parts + 1
stand_count offsets at [] h = ap length h
stand_count [] at (x ∷ parts) h = absurd h
stand_count (w ∷ offsets) at (x ∷ parts) h = let rest = stand_count offsets (at + length x) parts (stand_parts w offsets at x parts h).1 in omega (arith, rest)

has_header : (options : ReadOptions) (f : Prefix) (prefix : List Step) → IsPrefixOf f prefix → (s : Sliced options prefix) → 10 ≤ length prefix
has_header options f prefix is s =
    let eight : length (offsets_of prefix) ≡ 8 = ap length s.offsets
    ∙ stand_count (offsets_in s.f.offsets) (length (bytes_of (header_of s.f))) (parts_of s.f) s.stand in
    omega (arith, eight, is.count)

stated_of : (options : ReadOptions) (f : Prefix) (prefix : List Step) (bytes : List ℕ) → IsWhole options f prefix bytes
    → (s : Sliced options prefix) → IsStatedByKept f (stated_by options prefix s)
stated_of options f prefix bytes is s =
    let kept = is.kept.contents in
    let stated = is_stated options prefix s in
    let its = states options prefix s in
    let maus = s.describes.1 in
    let ordered = sorted options prefix s in
    let same = records-placed prefix in
    let records : records_in (offset_records_of prefix) ≡ all_records (header_of s.f) s.f.sections s.f.externals s.f.debug s.f.loads s.f.trailer
    s.end = sym same ∙ s.records in
    let quiet = silent-other (header_of s.f) s.silent in
    let sections = others-other section_part refl s.f.sections ordered.sections in
    let externals = others-other external_part refl s.f.externals ordered.externals in
    let debugged = others-other debug_part refl s.f.debug ordered.debug in
    let trailer = others-other trailer_part refl s.f.trailer ordered.trailer in
    let end = (others-other end_part refl (s.end ∷ []) (end_alone s.end s.ends)).0 in
    let all_ix : indexes_in (records_of prefix) ≡ indexes_by f.tables = ap indexes_by (sym is.kept.tables) in
    let many = has_header options f prefix is.kept s in
    let counted = units_of s.describes.0 s.describes.1 s.describes.2 (subst (λ (row : Record). is_bad_descriptor row ≡ false) s.describes.3 s.no_bad) in
    let before = ((header_of s.f ++ s.f.sections) ++ s.f.externals) ++ s.f.debug in
    let after = (((s.f.offsets ++ s.f.sections) ++ s.f.externals) ++ s.f.debug) in
    let given : units_in before ≡ Some maus = ap (option_map (λ (l : Addressing). l.maus))
    (layout-first s.f.begin s.f.descriptor after s.begins s.describes counted.1) in
    let loads : closed (loads_so_far (records_of prefix)) ≡ loads_of (indexes_of s.f) maus s.f.loads =
    ap (λ (ps : List SpelledRecord). closed (loads_so_far ps)) s.records
    ∙ loads-whole maus (indexes_of s.f) before s.f.loads s.f.trailer s.end (other-append ((header_of s.f ++ s.f.sections) ++ s.f.externals) s.f.debug
    (other-append (header_of s.f ++ s.f.sections) s.f.externals (other-append (header_of s.f) s.f.sections quiet sections) externals) debugged) trailer end
    (ap indexes_in (sym s.records) ∙ same_ix options prefix s) given s.keep_loads in
    let rest = ((after ++ s.f.loads) ++ s.f.trailer) ++ s.end ∷ [] in
    record {
      names = kept.names ∙ ap names_in records ∙ names-first s.f.begin (s.f.descriptor ∷ rest) s.begins;
      layout = kept.layout ∙ ap layout_in records ∙ layout-first s.f.begin s.f.descriptor rest s.begins s.describes counted.1;
      extension = stated.extension ∙ sym (is.kept.extension ∙ so-far extension_part prefix many);
      environment = stated.environment ∙ sym (is.kept.environment ∙ so-far environment_part prefix many);
      sections = stated.sections ∙ ap sections_of same ∙ sym kept.sections.list;
      publics = stated.publics ∙ (λ k. publics_of (all_ix k) (same k)) ∙ publics-placed (indexes_by f.tables) (records_in (offset_records_of prefix))
          ∙ ap (map (placed_public (indexes_by f.tables))) (sym kept.publics.list);
      references = stated.references ∙ ap references_of same ∙ sym kept.references;
      debug = debug-kept options f prefix is.kept s;
      loads = its.loads ∙ sym (ap closed (kept.loads ∙ ap loads_so_far (sym same)) ∙ loads);
      start = sym (first-start (stated_by options prefix s).start (starts_of (indexes_in (records_of prefix)) (records_of prefix)) stated.start)
          ∙ sym (kept.start ∙ ap start_so_far (sym same) ∙ start-whole (records_of prefix) is.kept.follow);
    }

sliced-stated : (options : ReadOptions) (f : Prefix) (prefix : List Step) (bytes : List ℕ) → IsWhole options f prefix bytes
    → (s : Sliced options prefix) → SpellsModule (stated_by options prefix s) bytes options
    → (m : Parts) × SpellsModule m bytes options × IsStatedByKept f m
sliced-stated options f prefix bytes is s spells = (stated_by options prefix s, spells, stated_of options f prefix bytes is s)

-- a whole prefix is the file of a module, which the records and the bytes state
pub whole-stated : (options : ReadOptions) (f : Prefix) (prefix : List Step) (bytes : List ℕ) → IsWhole options f prefix bytes → (m : Parts)
    × SpellsModule m bytes options × IsStatedByKept f m
whole-stated options f prefix bytes is =
    let both = ended_sliced files_weigh options prefix bytes is.fits is.limit is.sound is.ends is.all in
    sliced-stated options f prefix bytes is both.0 both.1

-- ---- all parts

-- parts that are as the code keeps them are those of the module
pub the-parts : (f : Prefix) (m p : Parts) (names : Names) (layout : Addressing) → IsStatedByKept f m → f.contents.header
    ≡ record { names = Some names; layout = Some layout }
    → p.processor ≡ names.processor → p.name ≡ names.name → p.maus ≡ layout.maus → p.order ≡ layout.order → p.ext ≡ f.extension.items → p.env
    ≡ f.environment.items
    → p.sections ≡ f.contents.sections.list.items → p.names.publics ≡ map (placed_public (indexes_by f.tables)) f.contents.publics.list.items
    → p.names.references ≡ f.contents.references.items
    → p.debug ≡ f.contents.debug.items → p.loads ≡ closed f.contents.loads → p.start ≡ f.contents.start → p ≡ m
the-parts f m p names layout stated header processor name maus order ext env sections publics references debug loads start =
    let its_names : Some names ≡ Some (record { processor = m.processor; name = m.name }) = sym (ap (λ (h : Header). h.names) header) ∙ stated.names in
    let its_layout : Some layout ≡ Some (record { maus = m.maus; order = m.order }) = sym (ap (λ (h : Header). h.layout) header) ∙ stated.layout in
    let same_names : names ≡ record { processor = m.processor; name = m.name } = ap (λ (o : Option Names). unwrap_or o names) its_names in
    let same_layout : layout ≡ record { maus = m.maus; order = m.order } = ap (λ (o : Option Addressing). unwrap_or o layout) its_layout in
    let same_processor = processor ∙ ap (λ (n : Names). n.processor) same_names in
    let same_name = name ∙ ap (λ (n : Names). n.name) same_names in
    let same_maus = maus ∙ ap (λ (l : Addressing). l.maus) same_layout in
    let same_order = order ∙ ap (λ (l : Addressing). l.order) same_layout in
    let same_ext = ext ∙ sym stated.extension in
    let same_env = env ∙ sym stated.environment in
    let same_sections = sections ∙ sym stated.sections in
    let same_publics = publics ∙ sym stated.publics in
    let same_references = references ∙ sym stated.references in
    let same_debug = debug ∙ sym stated.debug in
    let same_loads = loads ∙ sym stated.loads in
    let same_start = start ∙ sym stated.start in
    (λ i. record {
      processor = same_processor i;
      name = same_name i;
      maus = same_maus i;
      order = same_order i;
      ext = same_ext i;
      env = same_env i;
      sections = same_sections i;
      names = record { publics = same_publics i; references = same_references i };
      debug = same_debug i;
      loads = same_loads i;
      start = same_start i;
    })

-- the header of a whole prefix has its names and its layout
pub header-whole : (f : Prefix) (m : Parts) → IsStatedByKept f m → f.contents.header
    ≡ record { names = Some (record { processor = m.processor; name = m.name }); layout = Some (record { maus = m.maus; order = m.order }) }
header-whole f m stated = (λ k. record { names = stated.names k; layout = stated.layout k })
