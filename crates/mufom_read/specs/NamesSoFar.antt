-- The publics so far: what the records read so far state about them. More records may follow.
use Rattle.std.specs.Prelude.{◌≡◌, ℕ, ◌+◌, ◌≤◌, nat_lt, List, [], ◌∷◌, map, filter_map, slice_get, Option, Some, None, unwrap_or, if◌then◌else◌}
use Rattle.std.specs.List.{list_any}
use Rattle.mufom_numbers.specs.declared.reason.Reason.TheVariants as why
use Rattle.mufom_expr.specs.Value.{variables_of}
use Rattle.mufom_expr.specs.Tree.{Tree, number}
use Rattle.mufom_expr.specs.Spelled.{Indexes}
use Rattle.mufom_records.specs.declared.record.Record.{Record}
use Rattle.mufom_records.specs.declared.record.Record.TheVariants as r
use Rattle.mufom_names.specs.declared.name.Public.{Public}
use Rattle.mufom_names.specs.declared.name.Reference.{Reference}
use Rattle.mufom_module.specs.SpelledRecords.{SpelledRecord, text_in, positioned, public, reference, declared}
use Rattle.mufom_module.specs.Gathered.{answers, for_index, value_for, public_note_for, references_of}
use Rattle.mufom_module.specs.Grammar.{Follows, FollowFrom}
use Rattle.mufom_read.specs.declared.publics.PublicMark.{PublicMark}
use Rattle.mufom_read.specs.declared.publics.PublicMark.TheVariants.{Declared, Valued}
use Rattle.mufom_read.specs.declared.publics.Publics.{Publics}
use Rattle.mufom_read.specs.declared.tables.Tables.{Tables}
use Rattle.mufom_judging.specs.Prefixes.{OffsetRecord}
use Rattle.mufom_judging.specs.Faults.{Fault, fault_if}
use Rattle.mufom_read.specs.Kept.{is_unknown}

-- the value of the public with this index, over the indexes of the file; 0 until a value is stated
abbrev pub unplaced_value : ℕ → List SpelledRecord → Tree
unplaced_value i part = unwrap_or (slice_get (filter_map (λ p. value_for i p p.row) part) 0) (number 0)

-- the public that a record declares, with its value over the indexes of the file
abbrev pub unplaced_by : List SpelledRecord → SpelledRecord → Record → Option Public
unplaced_by part p (r.PublicName i name) = Some (record { name = text_in p name; value = unplaced_value i part; notes = answers (public_note_for i) part })
unplaced_by part p _ = None

abbrev pub unplaced_publics : List SpelledRecord → List Public
unplaced_publics part = filter_map (λ p. unplaced_by part p p.row) part

-- the public with positions in place of the indexes of the file
abbrev pub placed_public : Indexes → Public → Public
placed_public ix p = record p { value = positioned ix p.value }

-- the offset of the record that states the value of the public with this index
abbrev pub value_start_for : ℕ → OffsetRecord → Record → Option ℕ
value_start_for i p (r.PublicValue j value) = for_index i j p.0
value_start_for i p _ = None

-- the mark of a public that is declared at offset `start`: the offset of its value if one is stated, otherwise `start`
abbrev pub mark_of : ℕ → Option ℕ → PublicMark
mark_of start None = Declared start
mark_of start (Some valued) = Valued valued

-- the mark of the public that a record declares
abbrev pub public_mark_by : List OffsetRecord → OffsetRecord → Record → Option PublicMark
public_mark_by all p (r.PublicName i name) = Some (mark_of p.0 (slice_get (filter_map (λ q. value_start_for i q q.1.row) all) 0))
public_mark_by all p _ = None

abbrev pub public_marks : List OffsetRecord → List PublicMark
public_marks all = filter_map (λ p. public_mark_by all p p.1.row) all

-- ---- the error of each public

-- The error of a public with this value, if there is one: no value was stated, or a variable of the value has an index that is
-- not declared.
abbrev pub value_fault : Tables → Tree → PublicMark → Option Fault
value_fault t value (Declared start) = Some (start, why.MissingValue)
value_fault t value (Valued valued) = fault_if (list_any (is_unknown t) (variables_of value)) valued why.UnknownIndex

-- the error of each public, by its mark
abbrev pub public_faults : Tables → List PublicMark → List Public → List (Option Fault)
public_faults t (mark ∷ marks) (p ∷ publics) = value_fault t p.value mark ∷ public_faults t marks publics
public_faults t marks publics = []

-- the error with the smaller offset
abbrev pub earlier : Option Fault → Option Fault → Option Fault
earlier None b = b
earlier (Some a) None = Some a
earlier (Some a) (Some b) = if nat_lt b.0 a.0 then Some b else Some a

-- the error with the smallest offset
abbrev pub least_from : Option Fault → List (Option Fault) → Option Fault
least_from a [] = a
least_from a (b ∷ bs) = least_from (earlier a b) bs

-- the offsets of the records increase; they are at least `from` and below `to`
abbrev pub AreRising : ℕ → List OffsetRecord → ℕ → Type 0
AreRising from [] to = from ≤ to
AreRising from (p ∷ placed) to = (from ≤ p.0) × AreRising (p.0 + 1) placed to

-- ---- the publics so far

-- the records without their offsets
abbrev pub records_in : List OffsetRecord → List SpelledRecord
records_in all = map (λ (p : OffsetRecord). p.1) all

-- The code keeps the publics of these records, and the mark of each.
pub record ArePublicsOf (n : Publics) (all : List OffsetRecord) : Type 0 where
  pub list : n.list.items ≡ unplaced_publics (records_in all)
  pub marks : n.marks.items ≡ public_marks all

-- What is known about the publics before one more record is added: the indexes declared so far; and all records, the new one
-- included, obey the rules.
pub record IsBefore (n : Publics) (indexes : List ℕ) (all : List OffsetRecord) (p : SpelledRecord) : Type 0 where
  pub publics : ArePublicsOf n all
  pub table : indexes ≡ declared public (records_in all)
  pub follow : FollowFrom [] (records_in all)
  pub next : Follows (records_in all) p

-- ---- the references so far

-- what is known of the references before a record
pub record AreBefore (all : List Reference) (indexes : List ℕ) (before : List SpelledRecord) (p : SpelledRecord) : Type 0 where
  pub same : all ≡ references_of before
  pub table : indexes ≡ declared reference before
  pub follow : FollowFrom [] before
  pub next : Follows before p
