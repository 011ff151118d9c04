-- The sections so far: what the records read so far state about them. More records may follow.
use Rattle.std.specs.Prelude.{◌≡◌, ℕ, ◌&&◌, Bool, List, [], ◌∷◌, filter_map, Option, Some, None, is_none}
use Rattle.std.specs.Option.{option_or}
use Rattle.mufom_numbers.specs.declared.reason.Reason.TheVariants as why
use Rattle.mufom_records.specs.declared.record.Record.{Record}
use Rattle.mufom_records.specs.declared.record.Record.TheVariants as r
use Rattle.mufom_sections.specs.declared.section.Section.{Section}
use Rattle.mufom_module.specs.SpelledRecords.{SpelledRecord, section, declared}
use Rattle.mufom_module.specs.Gathered.{sections_of}
use Rattle.mufom_module.specs.Grammar.{Follows, FollowFrom}
use Rattle.mufom_read.specs.declared.sections.Sections.{Sections}
use Rattle.mufom_judging.specs.Prefixes.{OffsetRecord}
use Rattle.mufom_judging.specs.Faults.{Fault, fault_if}
use Rattle.mufom_read.specs.NamesSoFar.{records_in}

-- the offset of the record, if it declares a section
abbrev pub section_start_by : OffsetRecord → Record → Option ℕ
section_start_by p (r.SectionType _ _ _ _ _ _ _) = Some p.0
section_start_by p _ = None

-- the offset of the declaration of each section
abbrev pub section_starts : List OffsetRecord → List ℕ
section_starts all = filter_map (λ p. section_start_by p p.1.row) all

-- The code keeps the sections of these records, and the offset of the declaration of each.
pub record AreSectionsOf (s : Sections) (all : List OffsetRecord) : Type 0 where
  pub list : s.list.items ≡ sections_of (records_in all)
  pub starts : s.starts.items ≡ section_starts all

-- What is known about the sections before one more record is added: the indexes declared so far; and all records, the new one
-- included, obey the rules.
pub record AreSectionsBefore (s : Sections) (indexes : List ℕ) (all : List OffsetRecord) (p : SpelledRecord) : Type 0 where
  pub sections : AreSectionsOf s all
  pub table : indexes ≡ declared section (records_in all)
  pub follow : FollowFrom [] (records_in all)
  pub next : Follows (records_in all) p

-- ---- the error of the sections

-- an absolute section without a base
abbrev pub is_unbased : Section → Bool
is_unbased s = s.absolute && is_none s.base

-- the error of the first such section, at the offset of its declaration
abbrev pub first_unbased : List ℕ → List Section → Option Fault
first_unbased (start ∷ starts) (s ∷ sections) = option_or (fault_if (is_unbased s) start why.MissingBase) (first_unbased starts sections)
first_unbased starts sections = None
