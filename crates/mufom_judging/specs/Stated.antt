-- What the records of a prefix state, as the parts of a module (IEEE Std 695, module structure).
use Rattle.std.specs.Prelude.{◌≡◌, ℕ, zero, suc, List, [], ◌∷◌, drop, slice_range, option_to_list}
use Rattle.mufom_expr.specs.Spelled.{Indexes}
use Rattle.mufom_debug.specs.Marks.{marks_of}
use Rattle.mufom_module.specs.declared.module.Parts.{Parts}
use Rattle.mufom_module.specs.SpelledRecords.{SpelledRecord, section, public, reference, debug_name, declared}
use Rattle.mufom_module.specs.RecordParts.{Part, extension_part, environment_part, number_of}
use Rattle.mufom_module.specs.Gathered.{sections_of, publics_of, references_of, marks, loads_of, starts_of}
use Rattle.mufom_module.specs.Grammar.{NamesModule, Describes}
use Rattle.mufom_judging.specs.Prefixes.{Step, prefix_bytes, records_of, offsets_of, first_present}

-- the index lists that records declare
abbrev pub indexes_in : List SpelledRecord → Indexes
indexes_in records = record {
  sections = declared section records;
  publics = declared public records;
  references = declared reference records;
  debug_names = declared debug_name records;
}

-- the bytes from the first offset up to the next one that is not 0; none if the first is 0
abbrev pub bytes_between : List ℕ → List ℕ → List ℕ
bytes_between [] bytes = []
bytes_between (zero ∷ offsets) bytes = []
bytes_between (suc w ∷ offsets) bytes = slice_range bytes (suc w) (first_present offsets)

-- the bytes of a part, by the offsets of the header
abbrev pub part_bytes : Part → List Step → List ℕ
part_bytes part prefix = bytes_between (drop (number_of part) (offsets_of prefix)) (prefix_bytes prefix)

-- The module contains exactly what the records, and the bytes that are not read as records, state.
pub record IsStatedBy (prefix : List Step) (m : Parts) : Type 0 where
  pub begin : SpelledRecord
  pub descriptor : SpelledRecord
  pub after : List SpelledRecord
  pub records : records_of prefix ≡ begin ∷ descriptor ∷ after
  pub begins : NamesModule m begin begin.row
  pub describes : Describes m descriptor.row
  pub extension : m.ext ≡ part_bytes extension_part prefix
  pub environment : m.env ≡ part_bytes environment_part prefix
  pub sections : m.sections ≡ sections_of (records_of prefix)
  pub publics : m.names.publics ≡ publics_of (indexes_in (records_of prefix)) (records_of prefix)
  pub references : m.names.references ≡ references_of (records_of prefix)
  pub debug : marks_of m.debug ≡ marks (indexes_in (records_of prefix)) (records_of prefix)
  pub loads : m.loads ≡ loads_of (indexes_in (records_of prefix)) m.maus (records_of prefix)
  pub start : option_to_list m.start ≡ starts_of (indexes_in (records_of prefix)) (records_of prefix)
