-- The code adds what a record states to the contents of its part, and leaves those of the other parts as they are.
use Rattle.std.proofs.Common.{◌≡◌, ℕ, Bool, true, false, not, cond, true≢false, List, [], ◌∷◌, ◌++◌, filter_map, slice_get, Option, Some, None}
use Rattle.std.proofs.Common.{is_some, option_map, refl, sym, ap, ◌∙◌, append-nil, append_assoc}
use Rattle.std.specs.List.{list_any, cons_option}
use Rattle.std.specs.Option.{option_or}
use Rattle.mufom_expr.specs.Tree.{Tree}
use Rattle.mufom_expr.specs.Spelled.{Indexes}
use Rattle.mufom_records.specs.declared.record.Record.{Record}
use Rattle.mufom_records.specs.declared.record.Record.TheVariants as r
use Rattle.mufom_module.specs.SpelledRecords.{SpelledRecord, tree_in, tree_of_record, positioned, Once, start_address, is_same_statement, assigned_by}
use Rattle.mufom_module.specs.SpelledRecords.{is_assigned}
use Rattle.mufom_module.specs.RecordParts.{section_part, external_part, debug_part, data_part, trailer_part, part_of, stands_in}
use Rattle.mufom_module.specs.Gathered.{references_of, mark_by, start_by, starts_of}
use Rattle.mufom_module.specs.Grammar.{states_again, names_unknown, FollowFrom}
use Rattle.mufom_read.specs.declared.tables.Tables.{Tables}
use Rattle.mufom_read.specs.declared.header.Header.{Header}
use Rattle.mufom_read.specs.declared.header.Addressing.{Addressing}
use Rattle.mufom_read.specs.declared.loads.Loads.{Loads}
use Rattle.mufom_read.specs.declared.debug.Debugs.{Debugs}
use Rattle.mufom_read.specs.declared.contents.Contents.{Contents}
use Rattle.mufom_judging.specs.Prefixes.{OffsetRecord}
use Rattle.mufom_judging.specs.Faults.{OpenBlock, opened_after, open_blocks}
use Rattle.mufom_judging.specs.Stated.{indexes_in}
use Rattle.mufom_read.specs.Kept.{as_record, tables_of, indexes_by}
use Rattle.mufom_read.specs.HeaderSoFar.{names_by, layout_by, names_in, layout_in, header_after}
use Rattle.mufom_read.specs.SectionsSoFar.{AreSectionsOf, AreSectionsBefore}
use Rattle.mufom_read.specs.NamesSoFar.{records_in, ArePublicsOf, IsBefore, AreBefore}
use Rattle.mufom_read.specs.DebugSoFar.{opened, marks_kept, marks_so_far, AreDebugOf}
use Rattle.mufom_read.specs.LoadsSoFar.{with_load, units_in, units_or, loads_so_far}
use Rattle.mufom_read.specs.ContentsSoFar.{starts_from, start_so_far, AreContentsOf, AreContentsBefore, AreMarked}
use Rattle.mufom_judging.proofs.ended.Trees.{tree_known}
use Rattle.mufom_read.proofs.so_far.LoadLaws.{answer-more, loads-more}
use Rattle.mufom_read.proofs.ended.LoadsWhole.{quiet-at, tree_stays}
use Rattle.mufom_read.proofs.so_far.DebugSteps.{marks-more, open-more}
use Rattle.mufom_read.proofs.so_far.ReferenceSteps.{one_more_none, is_of_reference}
use Rattle.mufom_read.proofs.so_far.PublicSteps.{is_of_public}
use Rattle.mufom_read.proofs.so_far.PublicLaws.{records-more, publics-even, other-taken, other-reference-taken}
use Rattle.mufom_read.proofs.so_far.SectionLaws.{sections-even, others-taken}

-- what is kept beside the sections and the publics is there for each
pub contents-marked : (c : Contents) (all : List OffsetRecord) → AreContentsOf c all → AreMarked c
contents-marked c all are = record { sections = sections-even c.sections all are.sections; publics = publics-even c.publics all are.publics }

-- ---- records of other parts

no_names : (p : SpelledRecord) (row : Record) → is_some (part_of row) ≡ true → names_by p row ≡ None
no_names p (r.ModuleBegin a b) h = absurd (true≢false (sym h))
no_names p row h = refl

no_layout : (row : Record) → is_some (part_of row) ≡ true → layout_by row ≡ None
no_layout (r.Descriptor a b c) h = absurd (true≢false (sym h))
no_layout row h = refl

no_public : (row : Record) → stands_in external_part row ≡ false → is_of_public row ≡ false
no_public (r.PublicName i name) h = absurd (true≢false h)
no_public (r.PublicValue i value) h = absurd (true≢false h)
no_public (r.PublicNote i a b ns) h = absurd (true≢false h)
no_public row h = refl

no_reference : (row : Record) → stands_in external_part row ≡ false → is_of_reference row ≡ false
no_reference (r.ReferenceName i name) h = absurd (true≢false h)
no_reference (r.WeakReference i n default) h = absurd (true≢false h)
no_reference (r.ReferenceNote i a b ns) h = absurd (true≢false h)
no_reference row h = refl

no_mark : (ix : Indexes) (p : SpelledRecord) (row : Record) → stands_in debug_part row ≡ false → mark_by ix p row ≡ None
no_mark ix p (r.BlockBegin kind n name block) h = absurd (true≢false h)
no_mark ix p (r.BlockEnd value) h = absurd (true≢false h)
no_mark ix p (r.DebugName i name) h = absurd (true≢false h)
no_mark ix p (r.DebugValue i value) h = absurd (true≢false h)
no_mark ix p (r.DebugNote i a b ns) h = absurd (true≢false h)
no_mark ix p row h = refl

no_block : (blocks : List OpenBlock) (start : ℕ) (row : Record) → stands_in debug_part row ≡ false → opened_after blocks start row ≡ blocks
no_block blocks start (r.BlockBegin kind n name block) h = absurd (true≢false h)
no_block blocks start (r.BlockEnd value) h = absurd (true≢false h)
no_block [] start row h = refl
no_block (b ∷ blocks) start row h = refl

no_start : (ix : Indexes) (p : SpelledRecord) (row : Record) → stands_in trailer_part row ≡ false → start_by ix p row ≡ None
no_start ix p (r.Start value) h = absurd (true≢false h)
no_start ix p row h = refl

-- ---- start addresses

cons_append : (o : Option Tree) (xs ys : List Tree) → cons_option o (xs ++ ys) ≡ cons_option o xs ++ ys
cons_append None xs ys = refl
cons_append (Some x) xs ys = refl

starts_more : (before ps : List SpelledRecord) (p : SpelledRecord) → starts_from before (ps ++ p ∷ []) ≡ starts_from before ps
    ++ cons_option (start_by (indexes_by (tables_of (before ++ ps))) p p.row) []
starts_more before [] p = ap (λ (b : List SpelledRecord). cons_option (start_by (indexes_by (tables_of b)) p p.row) []) (sym (append-nil before))
starts_more before (q ∷ ps) p =
    ap (cons_option (start_by (indexes_by (tables_of before)) q q.row))
    (starts_more (before ++ q ∷ []) ps p
    ∙ ap (λ (b : List SpelledRecord). starts_from (before ++ q ∷ []) ps
    ++ cons_option (start_by (indexes_by (tables_of b)) p p.row) []) (append_assoc before (q ∷ []) ps))
    ∙ cons_append (start_by (indexes_by (tables_of before)) q q.row) (starts_from (before ++ q ∷ []) ps)
    (cons_option (start_by (indexes_by (tables_of (before ++ (q ∷ ps)))) p p.row) [])

unstarted_row : (ix : Indexes) (p : SpelledRecord) (row : Record) (later : List Once) (starts : List Tree)
    → list_any (is_same_statement start_address) (cons_option (assigned_by row) later) ≡ false
    → (list_any (is_same_statement start_address) later ≡ false → starts ≡ []) → cons_option (start_by ix p row) starts ≡ []
unstarted_row ix p (r.Start value) later starts h more = absurd (true≢false h)
unstarted_row ix p (r.PublicValue j value) later starts h more = more h
unstarted_row ix p (r.WeakReference j n other) later starts h more = more h
unstarted_row ix p (r.Alignment j n other) later starts h more = more h
unstarted_row ix p (r.SectionSize j n) later starts h more = more h
unstarted_row ix p (r.SectionBase j n) later starts h more = more h
unstarted_row ix p row later starts h more = more h

-- no start address was found if none was stated
start_unstated : (before ps : List SpelledRecord) → is_assigned ps start_address ≡ false → starts_from before ps ≡ []
start_unstated before [] h = refl
start_unstated before (p ∷ ps) h = unstarted_row (indexes_by (tables_of before)) p p.row (filter_map (λ q. assigned_by q.row) ps) _ h
    (start_unstated (before ++ p ∷ []) ps)

-- the first start address is that of a record that states one
start_given : (ps : List SpelledRecord) (p : SpelledRecord) (tree : Option Tree) (row : Record) → p.row ≡ row → stands_in trailer_part row ≡ true
    → states_again ps row ≡ false → tree ≡ option_map (positioned (indexes_by (tables_of ps))) (tree_of_record p)
    → tree ≡ start_so_far (ps ++ p ∷ [])
start_given ps p tree (r.Start value) is own once same =
    let ix = indexes_by (tables_of ps) in
    let given : option_map (positioned ix) (tree_of_record p) ≡ Some (positioned ix (tree_in p value)) =
    ap (λ row. option_map (positioned ix) (tree_of_record (record p { row = row }))) is in
    same ∙ given
    ∙ sym (ap (λ l. slice_get l 0) (starts_more [] ps p ∙ (λ k. start_unstated [] ps once k ++ cons_option (start_by ix p (is k)) [])))
start_given ps p tree row is own once same = absurd cc

stays_row : (before more : List SpelledRecord) (row : Record) (bytes : List ℕ) → names_unknown before (as_record row bytes) ≡ false
    → start_by (indexes_by (tables_of before)) (as_record row bytes) row ≡ start_by (indexes_in (before ++ more)) (as_record row bytes) row
stays_row before more (r.Start value) bytes known =
    let p = as_record (r.Start value) bytes in
    ap (λ (t : Tree). Some t) (tree_stays before more (tree_in p value) (tree_known before p value refl refl known))
stays_row before more row bytes known = refl

starts_all : (before records : List SpelledRecord) → FollowFrom before records → starts_from before records ≡ starts_of (indexes_in (before ++ records)) records
starts_all before [] follow = refl
starts_all before (p ∷ records) follow =
    let here = stays_row before (p ∷ records) p.row p.bytes follow.0.known in
    let rest = starts_all (before ++ p ∷ []) records follow.1 ∙ ap (λ (all : List SpelledRecord). starts_of (indexes_in all) records)
    (append_assoc before (p ∷ []) records) in
    (λ k. cons_option (here k) (rest k))

-- The start address so far is the first that the records state, by the indexes of all of them.
pub start-whole : (records : List SpelledRecord) → FollowFrom [] records → start_so_far records ≡ slice_get (starts_of (indexes_in records) records) 0
start-whole records follow = ap (λ l. slice_get l 0) (starts_all [] records follow)

-- ---- one more record

module _ (c : Contents) (t : Tables) (all : List OffsetRecord) (start : ℕ) (p : SpelledRecord) (before : AreContentsBefore c t all p) where
  abbrev ps : List SpelledRecord
  ps = records_in all

  abbrev more : List OffsetRecord
  more = all ++ (start, p) ∷ []

  with_one : records_in more ≡ ps ++ p ∷ []
  with_one = records-more all (start, p)

  -- what is known of each list before the record
  pub sections-before : AreSectionsBefore c.sections t.sections all p
  sections-before = record {
    sections = before.contents.sections;
    table = ap (λ (u : Tables). u.sections) before.tables;
    follow = before.follow;
    next = before.next;
  }

  pub publics-before : IsBefore c.publics t.publics all p
  publics-before = record {
    publics = before.contents.publics;
    table = ap (λ (u : Tables). u.publics) before.tables;
    follow = before.follow;
    next =
        before.next;
  }

  pub references-before : AreBefore c.references.items t.references ps p
  references-before = record {
    same = before.contents.references;
    table = ap (λ (u : Tables). u.references) before.tables;
    follow = before.follow;
    next = before.next;
  }

  -- ---- the lists that stay

  pub names-same : is_some (part_of p.row) ≡ true → c.header.names ≡ names_in (records_in more)
  names-same other = before.contents.names ∙ sym (ap names_in with_one
      ∙ ap (λ l. slice_get l 0) (one_more_none (λ q. names_by q q.row) ps p (no_names p p.row other)))

  pub layout-same : is_some (part_of p.row) ≡ true → c.header.layout ≡ layout_in (records_in more)
  layout-same other = before.contents.layout ∙ sym (ap layout_in with_one
      ∙ ap (λ l. slice_get l 0) (one_more_none (λ q. layout_by q.row) ps p (no_layout p.row other)))

  pub sections-same : stands_in section_part p.row ≡ false → AreSectionsOf c.sections more
  sections-same other = others-taken c.sections c.sections t.sections all start p sections-before other refl

  pub publics-same : stands_in external_part p.row ≡ false → ArePublicsOf c.publics more
  publics-same other = other-taken c.publics c.publics t.publics all start p publics-before (no_public p.row other) refl

  pub references-same : stands_in external_part p.row ≡ false → c.references.items ≡ references_of (records_in more)
  references-same other = other-reference-taken c.references.items c.references.items t.references ps p references-before (no_reference p.row other)
      refl ∙ ap references_of (sym with_one)

  pub debug-same : stands_in debug_part p.row ≡ false → AreDebugOf c.debug more
  debug-same other = record {
    marks = before.contents.debug.marks
        ∙ sym (ap marks_so_far with_one ∙ marks-more ps p ∙ ap (λ o. marks_so_far ps
        ++ cons_option o []) (no_mark (indexes_by (tables_of ps)) p p.row other) ∙ append-nil (marks_so_far ps));
    blocks = before.contents.debug.blocks ∙ sym (open-more all start p ∙ no_block (open_blocks all) start p.row other);
  }

  pub loads-same : stands_in data_part p.row ≡ false → c.loads ≡ loads_so_far (records_in more)
  loads-same other = before.contents.loads ∙ sym (ap loads_so_far with_one ∙ loads-more ps p ∙ quiet-at ps (loads_so_far ps) p (ap not other))

  pub start-same : stands_in trailer_part p.row ≡ false → c.start ≡ start_so_far (records_in more)
  start-same other = before.contents.start
      ∙ sym (ap start_so_far with_one ∙ ap (λ l. slice_get l 0) (starts_more [] ps p
      ∙ ap (λ o. starts_from [] ps ++ cons_option o []) (no_start (indexes_by (tables_of ps)) p p.row other) ∙ append-nil (starts_from [] ps)))

  -- ---- the lists that a record of their part changes

  pub names-taken : (new : Header) → new ≡ header_after c.header p → new.names ≡ names_in (records_in more)
  names-taken new same = ap (λ (h : Header). h.names) same ∙ ap (λ o. option_or o (names_by p p.row)) before.contents.names
      ∙ sym (ap names_in with_one ∙ answer-more (λ q. names_by q q.row) ps p)

  pub layout-taken : (new : Header) → new ≡ header_after c.header p → new.layout ≡ layout_in (records_in more)
  layout-taken new same = ap (λ (h : Header). h.layout) same ∙ ap (λ o. option_or o (layout_by p.row)) before.contents.layout
      ∙ sym (ap layout_in with_one ∙ answer-more (λ q. layout_by q.row) ps p)

  pub debug-taken : (new : Debugs) → marks_kept new ≡ marks_kept c.debug ++ cons_option (mark_by (indexes_by t) p p.row) [] → opened new
      ≡ opened_after (opened c.debug) start p.row → AreDebugOf new more
  debug-taken new marks blocks = record {
    marks = marks ∙ (λ j. before.contents.debug.marks j ++ cons_option (mark_by (indexes_by (before.tables j)) p p.row) [])
        ∙ sym (ap marks_so_far with_one ∙ marks-more ps p);
    blocks = blocks ∙ ap (λ bs. opened_after bs start p.row) before.contents.debug.blocks ∙ sym (open-more all start p);
  }

  pub loads-taken : (new : Loads) (maus : ℕ) → stands_in data_part p.row ≡ true
      → maus ≡ units_or (option_map (λ (l : Addressing). l.maus) c.header.layout) → new ≡ with_load (indexes_by t) maus c.loads p
      → new ≡ loads_so_far (records_in more)
  loads-taken new maus own units same =
      let its : maus ≡ units_or (units_in ps) =
      units ∙ ap (λ (o : Option Addressing). units_or (option_map (λ (l : Addressing). l.maus) o)) before.contents.layout in
      same ∙ (λ j. with_load (indexes_by (before.tables j)) (its j) (before.contents.loads j) p)
      ∙ sym (ap (λ (b : Bool). cond b (with_load (indexes_by (tables_of ps)) (units_or (units_in ps)) (loads_so_far ps) p) (loads_so_far ps)) own)
      ∙ sym (ap loads_so_far with_one ∙ loads-more ps p)

  pub start-taken : (new : Option Tree) → stands_in trailer_part p.row ≡ true → new ≡ option_map (positioned (indexes_by t)) (tree_of_record p) → new
      ≡ start_so_far (records_in more)
  start-taken new own same =
      start_given ps p new p.row refl own before.next.once (same
      ∙ ap (λ (u : Tables). option_map (positioned (indexes_by u)) (tree_of_record p)) before.tables) ∙ ap start_so_far (sym with_one)
