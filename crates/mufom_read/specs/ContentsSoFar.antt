-- What the records read so far state of the module, part by part.
use Rattle.std.specs.Prelude.{◌≡◌, List, [], ◌∷◌, ◌++◌, length, slice_get, Option}
use Rattle.std.specs.List.{cons_option}
use Rattle.mufom_expr.specs.Tree.{Tree}
use Rattle.mufom_module.specs.SpelledRecords.{SpelledRecord}
use Rattle.mufom_module.specs.Gathered.{references_of, start_by}
use Rattle.mufom_module.specs.Grammar.{Follows, FollowFrom}
use Rattle.mufom_read.specs.declared.tables.Tables.{Tables}
use Rattle.mufom_read.specs.declared.contents.Contents.{Contents}
use Rattle.mufom_judging.specs.Prefixes.{OffsetRecord}
use Rattle.mufom_read.specs.Kept.{tables_of, indexes_by}
use Rattle.mufom_read.specs.HeaderSoFar.{names_in, layout_in}
use Rattle.mufom_read.specs.SectionsSoFar.{AreSectionsOf}
use Rattle.mufom_read.specs.NamesSoFar.{records_in, ArePublicsOf}
use Rattle.mufom_read.specs.DebugSoFar.{AreDebugOf}
use Rattle.mufom_read.specs.LoadsSoFar.{loads_so_far}

-- the start addresses of further records, each by the indexes of those before it
abbrev pub starts_from : List SpelledRecord → List SpelledRecord → List Tree
starts_from before [] = []
starts_from before (p ∷ records) = cons_option (start_by (indexes_by (tables_of before)) p p.row) (starts_from (before ++ p ∷ []) records)

-- the first start address that these records state
abbrev pub start_so_far : List SpelledRecord → Option Tree
start_so_far records = slice_get (starts_from [] records) 0

-- The code keeps what these records state of the module.
pub record AreContentsOf (c : Contents) (all : List OffsetRecord) : Type 0 where
  pub names : c.header.names ≡ names_in (records_in all)
  pub layout : c.header.layout ≡ layout_in (records_in all)
  pub sections : AreSectionsOf c.sections all
  pub publics : ArePublicsOf c.publics all
  pub references : c.references.items ≡ references_of (records_in all)
  pub debug : AreDebugOf c.debug all
  pub loads : c.loads ≡ loads_so_far (records_in all)
  pub start : c.start ≡ start_so_far (records_in all)

-- What is known before one more record is added: the contents and the tables of the records before it; and all records,
-- the new one included, obey the rules.
pub record AreContentsBefore (c : Contents) (t : Tables) (all : List OffsetRecord) (p : SpelledRecord) : Type 0 where
  pub contents : AreContentsOf c all
  pub tables : t ≡ tables_of (records_in all)
  pub follow : FollowFrom [] (records_in all)
  pub next : Follows (records_in all) p

-- each section has the offset of its declaration, and each public its mark
pub record AreMarked (c : Contents) : Type 0 where
  pub sections : length c.sections.list.items ≡ length c.sections.starts.items
  pub publics : length c.publics.list.items ≡ length c.publics.marks.items
