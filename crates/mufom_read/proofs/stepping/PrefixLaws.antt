-- A prefix with one more record, as the code keeps it.
use Rattle.std.proofs.Common.{◌≡◌, ℕ, ◌+◌, ◌<◌, ◌≤◌, ◌==◌, ◌&&◌, ◌||◌, Bool, true, false, not, List, [], ◌∷◌, ◌++◌, length, filter_map, Option, Some}
use Rattle.std.proofs.Common.{None, refl, sym, ap, subst, ◌∙◌, arith, append-nil, append_assoc, length-append}
use Rattle.std.specs.List.{list_any, last_or, cons_option}
use Rattle.std.proofs.lemmas.List.Elements.{filter_map-append}
use Rattle.std.proofs.lemmas.List.Folds.{list_any-append}
use Rattle.mufom_records.specs.declared.record.Record.{Record}
use Rattle.mufom_records.specs.declared.record.Record.TheVariants as r
use Rattle.mufom_module.specs.SpelledRecords.{SpelledRecord, section, public, reference, debug_name, of_kind, declared_by, Once, start_address}
use Rattle.mufom_module.specs.SpelledRecords.{is_same_statement, assigned_by}
use Rattle.mufom_module.specs.RecordParts.{begins_item}
use Rattle.mufom_module.specs.Grammar.{offset_in, Follows, FollowFrom}
use Rattle.mufom_read.specs.declared.prefix.Prefix.{Prefix}
use Rattle.mufom_read.specs.declared.tables.Tables.{Tables}
use Rattle.mufom_judging.specs.Prefixes.{Step, raw, read, step_bytes, prefix_bytes, size_of, record_of, records_of, offset_record, offset_records_of}
use Rattle.mufom_judging.specs.Prefixes.{offsets_of, first_present, awaits_items, ends_with}
use Rattle.mufom_judging.specs.Faults.{set_by}
use Rattle.mufom_read.specs.Kept.{tables_of, with_row, statements, alignment_stated, size_stated, base_stated, value_stated, weakness_stated}
use Rattle.mufom_read.specs.NamesSoFar.{records_in, AreRising}
use Rattle.mufom_read.specs.ContentsSoFar.{AreContentsOf, AreContentsBefore}
use Rattle.mufom_read.specs.PrefixOfCode.{AreOrdered, offset_count, IsPrefixOf, with_record, as_location, next_location, IsAddable}
use Rattle.mufom_read.proofs.stepping.LocationMoves.{offsets-stay, location-moves}
use Rattle.mufom_read.proofs.so_far.FollowLaws.{follow-more, rising-more}
use Rattle.mufom_read.proofs.stepping.PartBytes.{KeepsBytes}

-- ---- lists with one more

last-append : {A : Type 0} (o : Option A) (xs ys : List A) → last_or o (xs ++ ys) ≡ last_or (last_or o xs) ys
last-append o [] ys = refl
last-append o (x ∷ xs) ys = last-append (Some x) xs ys

bytes-append : (a b : List Step) → prefix_bytes (a ++ b) ≡ prefix_bytes a ++ prefix_bytes b
bytes-append [] b = refl
bytes-append (s ∷ a) b = ap (λ l. step_bytes s ++ l) (bytes-append a b) ∙ sym (append_assoc (step_bytes s) (prefix_bytes a) (prefix_bytes b))

pub size-append : (a b : List Step) → size_of (a ++ b) ≡ size_of a + size_of b
size-append a b = ap length (bytes-append a b) ∙ length-append (prefix_bytes a) (prefix_bytes b)

-- ---- tables with one more record

made : (a b c n d e f g h : List ℕ) → Option ℕ → Bool → Tables
made a b c n d e f g h i j = record {
  sections = a;
  publics = b;
  references = c;
  debug_names = n;
  alignments = d;
  sizes = e;
  bases = f;
  values = g;
  weaknesses = h;
  current = i;
  has_start = j;
}

-- the tables with the entries of one more record, each at the end of its list
grown : Tables → Record → Tables
grown t row = record {
  sections = t.sections ++ cons_option (of_kind section (declared_by row)) [];
  publics = t.publics ++ cons_option (of_kind public (declared_by row)) [];
  references = t.references ++ cons_option (of_kind reference (declared_by row)) [];
  debug_names = t.debug_names ++ cons_option (of_kind debug_name (declared_by row)) [];
  alignments = t.alignments ++ filter_map alignment_stated (cons_option (assigned_by row) []);
  sizes = t.sizes ++ filter_map size_stated (cons_option (assigned_by row) []);
  bases = t.bases ++ filter_map base_stated (cons_option (assigned_by row) []);
  values = t.values ++ filter_map value_stated (cons_option (assigned_by row) []);
  weaknesses = t.weaknesses ++ filter_map weakness_stated (cons_option (assigned_by row) []);
  current = last_or t.current (cons_option (set_by row) []);
  has_start = t.has_start || list_any (is_same_statement start_address) (cons_option (assigned_by row) []);
}

pub same_tables : (t u : Tables) → t.sections ≡ u.sections → t.publics ≡ u.publics → t.references ≡ u.references → t.debug_names ≡ u.debug_names
    → t.alignments ≡ u.alignments
    → t.sizes ≡ u.sizes → t.bases ≡ u.bases → t.values ≡ u.values → t.weaknesses ≡ u.weaknesses → t.current ≡ u.current → t.has_start ≡ u.has_start → t ≡ u
unfolding made
same_tables t u a b c n d e f g h i j =
    ap (λ x. made x t.publics t.references t.debug_names t.alignments t.sizes t.bases t.values t.weaknesses t.current t.has_start) a
    ∙ ap (λ x. made u.sections x t.references t.debug_names t.alignments t.sizes t.bases t.values t.weaknesses t.current t.has_start) b
    ∙ ap (λ x. made u.sections u.publics x t.debug_names t.alignments t.sizes t.bases t.values t.weaknesses t.current t.has_start) c
    ∙ ap (λ x. made u.sections u.publics u.references x t.alignments t.sizes t.bases t.values t.weaknesses t.current t.has_start) n
    ∙ ap (λ x. made u.sections u.publics u.references u.debug_names x t.sizes t.bases t.values t.weaknesses t.current t.has_start) d
    ∙ ap (λ x. made u.sections u.publics u.references u.debug_names u.alignments x t.bases t.values t.weaknesses t.current t.has_start) e
    ∙ ap (λ x. made u.sections u.publics u.references u.debug_names u.alignments u.sizes x t.values t.weaknesses t.current t.has_start) f
    ∙ ap (λ x. made u.sections u.publics u.references u.debug_names u.alignments u.sizes u.bases x t.weaknesses t.current t.has_start) g
    ∙ ap (λ x. made u.sections u.publics u.references u.debug_names u.alignments u.sizes u.bases u.values x t.current t.has_start) h
    ∙ ap (λ x. made u.sections u.publics u.references u.debug_names u.alignments u.sizes u.bases u.values u.weaknesses x t.has_start) i
    ∙ ap (λ x. made u.sections u.publics u.references u.debug_names u.alignments u.sizes u.bases u.values u.weaknesses u.current x) j

or_false : (b : Bool) → b ≡ (b || false)
or_false true = refl
or_false false = refl

or_true : (b : Bool) → true ≡ (b || true)
or_true true = refl
or_true false = refl

statements-append : (ps : List SpelledRecord) (p : SpelledRecord) → statements (ps ++ p ∷ []) ≡ statements ps ++ cons_option (assigned_by p.row) []
statements-append ps p = filter_map-append (λ q. assigned_by q.row) ps (p ∷ [])

stated : (f : Once → Option ℕ) (ps : List SpelledRecord) (p : SpelledRecord) → filter_map f (statements (ps ++ p ∷ [])) ≡ filter_map f (statements ps)
    ++ filter_map f (cons_option (assigned_by p.row) [])
stated f ps p = ap (filter_map f) (statements-append ps p) ∙ filter_map-append f (statements ps) (cons_option (assigned_by p.row) [])

tables-append : (ps : List SpelledRecord) (p : SpelledRecord) → tables_of (ps ++ p ∷ []) ≡ grown (tables_of ps) p.row
unfolding grown
tables-append ps p = same_tables (tables_of (ps ++ p ∷ [])) (grown (tables_of ps) p.row)
    (filter_map-append (λ q. of_kind section (declared_by q.row)) ps (p ∷ []))
    (filter_map-append (λ q. of_kind public (declared_by q.row)) ps (p ∷ []))
    (filter_map-append (λ q. of_kind reference (declared_by q.row)) ps (p ∷ []))
    (filter_map-append (λ q. of_kind debug_name (declared_by q.row)) ps (p ∷ []))
    (stated alignment_stated ps p)
    (stated size_stated ps p)
    (stated base_stated ps p)
    (stated value_stated ps p)
    (stated weakness_stated ps p)
    (ap (last_or None) (filter_map-append (λ q. set_by q.row) ps (p ∷ []))
    ∙ last-append None (filter_map (λ q. set_by q.row) ps) (cons_option (set_by p.row) []))
    (ap (list_any (is_same_statement start_address)) (statements-append ps p)
    ∙ list_any-append (is_same_statement start_address) (statements ps) (cons_option (assigned_by p.row) []))

with-grown : (t : Tables) (row : Record) → with_row t row ≡ grown t row
unfolding grown
with-grown t (r.ModuleBegin a b) = same_tables (with_row t (r.ModuleBegin a b)) (grown t (r.ModuleBegin a b)) (sym (append-nil t.sections))
    (sym (append-nil t.publics)) (sym (append-nil t.references)) (sym (append-nil t.debug_names)) (sym (append-nil t.alignments))
    (sym (append-nil t.sizes)) (sym (append-nil t.bases)) (sym (append-nil t.values)) (sym (append-nil t.weaknesses)) refl (or_false t.has_start)
with-grown t (r.Descriptor a b c) = same_tables (with_row t (r.Descriptor a b c)) (grown t (r.Descriptor a b c)) (sym (append-nil t.sections))
    (sym (append-nil t.publics)) (sym (append-nil t.references)) (sym (append-nil t.debug_names)) (sym (append-nil t.alignments))
    (sym (append-nil t.sizes)) (sym (append-nil t.bases)) (sym (append-nil t.values)) (sym (append-nil t.weaknesses)) refl (or_false t.has_start)
with-grown t (r.Offset a b) = same_tables (with_row t (r.Offset a b)) (grown t (r.Offset a b)) (sym (append-nil t.sections))
    (sym (append-nil t.publics)) (sym (append-nil t.references)) (sym (append-nil t.debug_names)) (sym (append-nil t.alignments))
    (sym (append-nil t.sizes)) (sym (append-nil t.bases)) (sym (append-nil t.values)) (sym (append-nil t.weaknesses)) refl (or_false t.has_start)
with-grown t r.ModuleEnd = same_tables (with_row t r.ModuleEnd) (grown t r.ModuleEnd) (sym (append-nil t.sections)) (sym (append-nil t.publics))
    (sym (append-nil t.references)) (sym (append-nil t.debug_names)) (sym (append-nil t.alignments)) (sym (append-nil t.sizes))
    (sym (append-nil t.bases)) (sym (append-nil t.values)) (sym (append-nil t.weaknesses)) refl (or_false t.has_start)
with-grown t (r.SectionType a b c d e f g) = same_tables (with_row t (r.SectionType a b c d e f g)) (grown t (r.SectionType a b c d e f g)) refl
    (sym (append-nil t.publics)) (sym (append-nil t.references)) (sym (append-nil t.debug_names)) (sym (append-nil t.alignments))
    (sym (append-nil t.sizes)) (sym (append-nil t.bases)) (sym (append-nil t.values)) (sym (append-nil t.weaknesses)) refl (or_false t.has_start)
with-grown t (r.Alignment a b c) = same_tables (with_row t (r.Alignment a b c)) (grown t (r.Alignment a b c)) (sym (append-nil t.sections))
    (sym (append-nil t.publics)) (sym (append-nil t.references)) (sym (append-nil t.debug_names)) refl (sym (append-nil t.sizes))
    (sym (append-nil t.bases)) (sym (append-nil t.values)) (sym (append-nil t.weaknesses)) refl (or_false t.has_start)
with-grown t (r.SectionSize a b) = same_tables (with_row t (r.SectionSize a b)) (grown t (r.SectionSize a b)) (sym (append-nil t.sections))
    (sym (append-nil t.publics)) (sym (append-nil t.references)) (sym (append-nil t.debug_names)) (sym (append-nil t.alignments)) refl
    (sym (append-nil t.bases)) (sym (append-nil t.values)) (sym (append-nil t.weaknesses)) refl (or_false t.has_start)
with-grown t (r.SectionBase a b) = same_tables (with_row t (r.SectionBase a b)) (grown t (r.SectionBase a b)) (sym (append-nil t.sections))
    (sym (append-nil t.publics)) (sym (append-nil t.references)) (sym (append-nil t.debug_names)) (sym (append-nil t.alignments))
    (sym (append-nil t.sizes)) refl (sym (append-nil t.values)) (sym (append-nil t.weaknesses)) refl (or_false t.has_start)
with-grown t (r.PublicName a b) = same_tables (with_row t (r.PublicName a b)) (grown t (r.PublicName a b)) (sym (append-nil t.sections)) refl
    (sym (append-nil t.references)) (sym (append-nil t.debug_names)) (sym (append-nil t.alignments)) (sym (append-nil t.sizes))
    (sym (append-nil t.bases)) (sym (append-nil t.values)) (sym (append-nil t.weaknesses)) refl (or_false t.has_start)
with-grown t (r.PublicValue a b) = same_tables (with_row t (r.PublicValue a b)) (grown t (r.PublicValue a b)) (sym (append-nil t.sections))
    (sym (append-nil t.publics)) (sym (append-nil t.references)) (sym (append-nil t.debug_names)) (sym (append-nil t.alignments))
    (sym (append-nil t.sizes)) (sym (append-nil t.bases)) refl (sym (append-nil t.weaknesses)) refl (or_false t.has_start)
with-grown t (r.PublicNote a b c d) = same_tables (with_row t (r.PublicNote a b c d)) (grown t (r.PublicNote a b c d)) (sym (append-nil t.sections))
    (sym (append-nil t.publics)) (sym (append-nil t.references)) (sym (append-nil t.debug_names)) (sym (append-nil t.alignments))
    (sym (append-nil t.sizes)) (sym (append-nil t.bases)) (sym (append-nil t.values)) (sym (append-nil t.weaknesses)) refl (or_false t.has_start)
with-grown t (r.ReferenceName a b) = same_tables (with_row t (r.ReferenceName a b)) (grown t (r.ReferenceName a b)) (sym (append-nil t.sections))
    (sym (append-nil t.publics)) refl (sym (append-nil t.debug_names)) (sym (append-nil t.alignments)) (sym (append-nil t.sizes))
    (sym (append-nil t.bases)) (sym (append-nil t.values)) (sym (append-nil t.weaknesses)) refl (or_false t.has_start)
with-grown t (r.WeakReference a b c) = same_tables (with_row t (r.WeakReference a b c)) (grown t (r.WeakReference a b c))
    (sym (append-nil t.sections)) (sym (append-nil t.publics)) (sym (append-nil t.references)) (sym (append-nil t.debug_names))
    (sym (append-nil t.alignments)) (sym (append-nil t.sizes)) (sym (append-nil t.bases)) (sym (append-nil t.values)) refl refl (or_false t.has_start)
with-grown t (r.ReferenceNote a b c d) = same_tables (with_row t (r.ReferenceNote a b c d)) (grown t (r.ReferenceNote a b c d))
    (sym (append-nil t.sections)) (sym (append-nil t.publics)) (sym (append-nil t.references)) (sym (append-nil t.debug_names))
    (sym (append-nil t.alignments)) (sym (append-nil t.sizes)) (sym (append-nil t.bases)) (sym (append-nil t.values)) (sym (append-nil t.weaknesses))
    refl (or_false t.has_start)
with-grown t (r.BlockBegin a b c d) = same_tables (with_row t (r.BlockBegin a b c d)) (grown t (r.BlockBegin a b c d)) (sym (append-nil t.sections))
    (sym (append-nil t.publics)) (sym (append-nil t.references)) (sym (append-nil t.debug_names)) (sym (append-nil t.alignments))
    (sym (append-nil t.sizes)) (sym (append-nil t.bases)) (sym (append-nil t.values)) (sym (append-nil t.weaknesses)) refl (or_false t.has_start)
with-grown t (r.BlockEnd a) = same_tables (with_row t (r.BlockEnd a)) (grown t (r.BlockEnd a)) (sym (append-nil t.sections))
    (sym (append-nil t.publics)) (sym (append-nil t.references)) (sym (append-nil t.debug_names)) (sym (append-nil t.alignments))
    (sym (append-nil t.sizes)) (sym (append-nil t.bases)) (sym (append-nil t.values)) (sym (append-nil t.weaknesses)) refl (or_false t.has_start)
with-grown t (r.DebugName a b) = same_tables (with_row t (r.DebugName a b)) (grown t (r.DebugName a b)) (sym (append-nil t.sections))
    (sym (append-nil t.publics)) (sym (append-nil t.references)) refl (sym (append-nil t.alignments)) (sym (append-nil t.sizes))
    (sym (append-nil t.bases)) (sym (append-nil t.values)) (sym (append-nil t.weaknesses)) refl (or_false t.has_start)
with-grown t (r.DebugValue a b) = same_tables (with_row t (r.DebugValue a b)) (grown t (r.DebugValue a b)) (sym (append-nil t.sections))
    (sym (append-nil t.publics)) (sym (append-nil t.references)) (sym (append-nil t.debug_names)) (sym (append-nil t.alignments))
    (sym (append-nil t.sizes)) (sym (append-nil t.bases)) (sym (append-nil t.values)) (sym (append-nil t.weaknesses)) refl (or_false t.has_start)
with-grown t (r.DebugNote a b c d) = same_tables (with_row t (r.DebugNote a b c d)) (grown t (r.DebugNote a b c d)) (sym (append-nil t.sections))
    (sym (append-nil t.publics)) (sym (append-nil t.references)) (sym (append-nil t.debug_names)) (sym (append-nil t.alignments))
    (sym (append-nil t.sizes)) (sym (append-nil t.bases)) (sym (append-nil t.values)) (sym (append-nil t.weaknesses)) refl (or_false t.has_start)
with-grown t (r.SetSection a) = same_tables (with_row t (r.SetSection a)) (grown t (r.SetSection a)) (sym (append-nil t.sections))
    (sym (append-nil t.publics)) (sym (append-nil t.references)) (sym (append-nil t.debug_names)) (sym (append-nil t.alignments))
    (sym (append-nil t.sizes)) (sym (append-nil t.bases)) (sym (append-nil t.values)) (sym (append-nil t.weaknesses)) refl (or_false t.has_start)
with-grown t (r.SetPc a b) = same_tables (with_row t (r.SetPc a b)) (grown t (r.SetPc a b)) (sym (append-nil t.sections)) (sym (append-nil t.publics))
    (sym (append-nil t.references)) (sym (append-nil t.debug_names)) (sym (append-nil t.alignments)) (sym (append-nil t.sizes))
    (sym (append-nil t.bases)) (sym (append-nil t.values)) (sym (append-nil t.weaknesses)) refl (or_false t.has_start)
with-grown t (r.Constant a) = same_tables (with_row t (r.Constant a)) (grown t (r.Constant a)) (sym (append-nil t.sections))
    (sym (append-nil t.publics)) (sym (append-nil t.references)) (sym (append-nil t.debug_names)) (sym (append-nil t.alignments))
    (sym (append-nil t.sizes)) (sym (append-nil t.bases)) (sym (append-nil t.values)) (sym (append-nil t.weaknesses)) refl (or_false t.has_start)
with-grown t r.Relocate = same_tables (with_row t r.Relocate) (grown t r.Relocate) (sym (append-nil t.sections)) (sym (append-nil t.publics))
    (sym (append-nil t.references)) (sym (append-nil t.debug_names)) (sym (append-nil t.alignments)) (sym (append-nil t.sizes))
    (sym (append-nil t.bases)) (sym (append-nil t.values)) (sym (append-nil t.weaknesses)) refl (or_false t.has_start)
with-grown t (r.ConstantItem a) = same_tables (with_row t (r.ConstantItem a)) (grown t (r.ConstantItem a)) (sym (append-nil t.sections))
    (sym (append-nil t.publics)) (sym (append-nil t.references)) (sym (append-nil t.debug_names)) (sym (append-nil t.alignments))
    (sym (append-nil t.sizes)) (sym (append-nil t.bases)) (sym (append-nil t.values)) (sym (append-nil t.weaknesses)) refl (or_false t.has_start)
with-grown t (r.FieldItem a b c) = same_tables (with_row t (r.FieldItem a b c)) (grown t (r.FieldItem a b c)) (sym (append-nil t.sections))
    (sym (append-nil t.publics)) (sym (append-nil t.references)) (sym (append-nil t.debug_names)) (sym (append-nil t.alignments))
    (sym (append-nil t.sizes)) (sym (append-nil t.bases)) (sym (append-nil t.values)) (sym (append-nil t.weaknesses)) refl (or_false t.has_start)
with-grown t (r.RepeatConstant a b) = same_tables (with_row t (r.RepeatConstant a b)) (grown t (r.RepeatConstant a b)) (sym (append-nil t.sections))
    (sym (append-nil t.publics)) (sym (append-nil t.references)) (sym (append-nil t.debug_names)) (sym (append-nil t.alignments))
    (sym (append-nil t.sizes)) (sym (append-nil t.bases)) (sym (append-nil t.values)) (sym (append-nil t.weaknesses)) refl (or_false t.has_start)
with-grown t (r.RepeatRelocate a) = same_tables (with_row t (r.RepeatRelocate a)) (grown t (r.RepeatRelocate a)) (sym (append-nil t.sections))
    (sym (append-nil t.publics)) (sym (append-nil t.references)) (sym (append-nil t.debug_names)) (sym (append-nil t.alignments))
    (sym (append-nil t.sizes)) (sym (append-nil t.bases)) (sym (append-nil t.values)) (sym (append-nil t.weaknesses)) refl (or_false t.has_start)
with-grown t (r.Start a) = same_tables (with_row t (r.Start a)) (grown t (r.Start a)) (sym (append-nil t.sections)) (sym (append-nil t.publics))
    (sym (append-nil t.references)) (sym (append-nil t.debug_names)) (sym (append-nil t.alignments)) (sym (append-nil t.sizes))
    (sym (append-nil t.bases)) (sym (append-nil t.values)) (sym (append-nil t.weaknesses)) refl (or_true t.has_start)

-- ---- the prefix

pub records-placed : (prefix : List Step) → records_of prefix ≡ records_in (offset_records_of prefix)
records-placed [] = refl
records-placed (raw b ∷ prefix) = records-placed prefix
records-placed (read start p ∷ prefix) = ap (λ ps. p ∷ ps) (records-placed prefix)

-- what is known of the contents before a record that keeps to the rules
pub next-of : (f : Prefix) (prefix : List Step) (p : SpelledRecord) → IsPrefixOf f prefix → Follows (records_of prefix) p
    → AreContentsBefore f.contents f.tables (offset_records_of prefix) p
next-of f prefix p is follows =
    let same = records-placed prefix in
    record {
      contents = is.contents;
      tables = is.tables ∙ ap tables_of same;
      follow = subst (FollowFrom []) same is.follow;
      next =
          subst (λ ps. Follows ps p) same follows;
    }

-- a record is added after a prefix
pub prefix-add : (f : Prefix) (prefix : List Step) (start : ℕ) (p : SpelledRecord) (new : Prefix) → IsPrefixOf f prefix → 0 < length p.bytes → start ≡ f.size
    → as_location new.location ≡ next_location (as_location f.location) (f.offsets ++ cons_option (offset_in p.row) []) (f.size + length p.bytes)
    → AreContentsOf new.contents (offset_records_of prefix ++ (start, p) ∷ [])
    → IsAddable prefix p.row → Follows (records_of prefix) p → KeepsBytes prefix p → IsPrefixOf (with_record f p new) (prefix ++ read (size_of prefix) p ∷ [])
prefix-add f prefix start p new is some begins moved contents fits follows keeps =
    let more : List Step = read (size_of prefix) p ∷ [] in
    let records : records_of (prefix ++ more) ≡ records_of prefix ++ p ∷ [] = filter_map-append record_of prefix more in
    let offsets_named : offset_records_of (prefix ++ more) ≡ offset_records_of prefix ++ (size_of prefix, p) ∷ [] =
    filter_map-append offset_record prefix more in
    let last : last_or None (records_of (prefix ++ more)) ≡ Some p = ap (last_or None) records ∙ last-append None (records_of prefix) (p ∷ []) in
    let size : size_of (prefix ++ more) ≡ size_of prefix + length p.bytes = size-append prefix more
    ∙ ap (λ n. size_of prefix + n) (ap length (append-nil p.bytes)) in
    let offsets : offsets_of (prefix ++ more) ≡ offsets_of prefix ++ cons_option (offset_in p.row) [] =
    ap (λ ps. filter_map (λ q. offset_in q.row) ps) records ∙ filter_map-append (λ q. offset_in q.row) (records_of prefix) (p ∷ []) in
    let new_offsets : f.offsets ++ cons_option (offset_in p.row) [] ≡ offsets_of (prefix ++ more) =
    ap (λ os. os ++ cons_option (offset_in p.row) []) is.offsets ∙ sym offsets in
    let new_size : f.size + length p.bytes ≡ size_of (prefix ++ more) = ap (λ n. n + length p.bytes) is.size ∙ sym size in
    let stay = λ (many : 10 ≤ length prefix). offsets ∙ offsets-stay (offsets_of prefix) (offset_in p.row) (omega (arith, many, keeps.count, is.count)) in
    let moves = location-moves prefix more (λ few. refl) stay is.ordered (omega (arith, size)) in
    record {
      contents = subst (AreContentsOf new.contents) ((λ j. offset_records_of prefix ++ ((begins ∙ is.size) j, p) ∷ []) ∙ sym offsets_named) contents;
      awaits = sym (ap awaits_items last);
      ended = sym (ap ends_with last);
      tables = ap (λ t. with_row t p.row) is.tables ∙ with-grown (tables_of (records_of prefix)) p.row ∙ sym (tables-append (records_of prefix) p)
          ∙ ap tables_of (sym records);
      offsets = new_offsets;
      extension = is.extension ∙ sym keeps.extension;
      environment = is.environment ∙ sym keeps.environment;
      size = new_size;
      location = moved ∙ (λ j. next_location (is.location j) (new_offsets j) (new_size j)) ∙ sym moves;
      few = omega (arith, is.few, some, size, length-append prefix more);
      ordered = subst AreOrdered (sym offsets) (fits.ordered is.ordered);
      count = ap length offsets ∙ keeps.count ∙ ap offset_count (sym (length-append prefix more));
      begun = λ many. subst (λ (os : List ℕ). first_present os ≤ size_of (prefix ++ more)) (sym offsets)
          (omega (arith, size, keeps.begun (omega (arith, many, length-append prefix more))));
      follow = subst (FollowFrom []) (sym records) (follow-more [] (records_of prefix) p is.follow follows);
      rising = subst (λ ps. AreRising 0 ps (size_of (prefix ++ more))) (sym offsets_named)
          (rising-more 0 (offset_records_of prefix) (size_of prefix) (size_of (prefix ++ more)) p is.rising (omega (arith, size, some)));
    }

-- ---- the last record

-- whether items may follow
pub items-prefix : (f : Prefix) (prefix : List Step) (from : ℕ) (rest : List ℕ) → IsPrefixOf f prefix
    → (not (f.size == from) && (f.awaits_items && begins_item rest))
    ≡ (not (size_of prefix == from) && (awaits_items (last_or None (records_of prefix)) && begins_item rest))
items-prefix f prefix from rest is =
    ap (λ n. not (n == from) && (f.awaits_items && begins_item rest)) is.size
    ∙ ap (λ b. not (size_of prefix == from) && (b && begins_item rest)) is.awaits
