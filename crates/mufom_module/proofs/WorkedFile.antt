-- What the worked files share: records that most of them have, and that a file whose facts are computed spells its module.
use Rattle.std.proofs.Common.{◌≡◌, ℕ, suc, ◌+◌, true, false, List, [], ◌∷◌, ◌++◌, nat_le, nat_lt, length, Some, None}
use Rattle.std.specs.Prelude.{MatchBool, option_to_list}
use Rattle.std.specs.List.{list_all}
use Rattle.mufom_records.specs.declared.options.ReadOptions.{ReadOptions}
use Rattle.mufom_records.specs.declared.record.Record.TheVariants as r
use Rattle.mufom_records.specs.Fields.{span_at}
use Rattle.mufom_debug.specs.Marks.{marks_of}
use Rattle.mufom_module.specs.declared.module.Parts.{Parts}
use Rattle.mufom_module.specs.Defects.{IsValid}
use Rattle.mufom_module.specs.SpelledRecords.{SpelledRecord, bytes_of, public, declared, is_declared, named_in_expression, value_of_public, is_assigned}
use Rattle.mufom_module.specs.RecordParts.{Part, section_part, external_part, debug_part, data_part, trailer_part, stands_in}
use Rattle.mufom_module.specs.Gathered.{sections_of, publics_of, references_of, marks, loads_of, starts_of}
use Rattle.mufom_module.specs.Grammar.{FileParts, header_of, module_end, after_header, from_loads, from_trailer, parts_of}
use Rattle.mufom_module.specs.Grammar.{header_modes, offsets_in, StandAt, file_limit, IsPart, IsCutInto, indexes_of, records_of, HasNames, seen_from_debug}
use Rattle.mufom_module.specs.Grammar.{NamesModule, Describes, States, SpellsModule, seen_from_externals}
use Rattle.mufom_module.proofs.Cutting.{spelled, cut, cut_modes, is_part, is_header, is_within, follow_from, follow-by_test}

-- ---- records

-- 68000
abbrev pub processor : List ℕ
processor = 0x36 ∷ 0x38 ∷ 0x30 ∷ 0x30 ∷ 0x30 ∷ []

-- MB with this processor
abbrev pub begin_of : List ℕ → SpelledRecord
begin_of name = spelled (r.ModuleBegin (span_at 2 5) (span_at 8 (length name))) (0xE0 ∷ 0x05 ∷ (processor ++ length name ∷ name))

-- AD with four units in an address, and without a letter: the most significant byte first
abbrev pub lettered_descriptor : SpelledRecord
lettered_descriptor = spelled (r.Descriptor 8 4 (Some 0xCD)) (0xEC ∷ 0x08 ∷ 0x04 ∷ 0xCD ∷ [])

abbrev pub plain_descriptor : SpelledRecord
plain_descriptor = spelled (r.Descriptor 8 4 None) (0xEC ∷ 0x08 ∷ 0x04 ∷ [])

-- the ASW records from a number on, each offset below 256 and in five bytes
abbrev pub offsets_from : ℕ → List ℕ → List SpelledRecord
offsets_from k [] = []
offsets_from k (w ∷ offsets) = spelled (r.Offset k w) (0xE2 ∷ 0xD7 ∷ k ∷ 0x84 ∷ 0x00 ∷ 0x00 ∷ 0x00 ∷ w ∷ []) ∷ offsets_from (k + 1) offsets

-- an absolute section of four bytes at 1000
abbrev pub absolute_code : List SpelledRecord
absolute_code = spelled (r.SectionType 1 true (Some 0xD0) (span_at 6 4) None None None)
    (0xE6 ∷ 0x01 ∷ 0xC1 ∷ 0xD3 ∷ 0xD0 ∷ 0x04 ∷ 0x63 ∷ 0x6F ∷ 0x64 ∷ 0x65 ∷ [])
    ∷ spelled (r.Alignment 1 2 None) (0xE7 ∷ 0x01 ∷ 0x02 ∷ [])
    ∷ spelled (r.SectionSize 1 4) (0xE2 ∷ 0xD3 ∷ 0x01 ∷ 0x04 ∷ [])
    ∷ spelled (r.SectionBase 1 4096) (0xE2 ∷ 0xCC ∷ 0x01 ∷ 0x82 ∷ 0x10 ∷ 0x00 ∷ [])
    ∷ []

-- ---- a file whose facts are computed

-- the debug part is read, or skipped
abbrev pub with_debug : ReadOptions
with_debug = record { debug = true; gnu = false }

abbrev pub without_debug : ReadOptions
without_debug = record { debug = false; gnu = false }

-- the bytes from a part on are bytes, the records are cut off them, and they belong to the part
abbrev pub PartTests : ReadOptions → Part → List SpelledRecord → List ℕ → Type 0
PartTests options part records after = (list_all (λ b. nat_lt b 256) (bytes_of records ++ after) ≡ true)
    × (cut options (suc (length records)) false (bytes_of records) after ≡ Some records) × (list_all (λ p. stands_in part p.row) records ≡ true)

of_part : (options : ReadOptions) (part : Part) (records : List SpelledRecord) (after : List ℕ) → PartTests options part records after
    → IsPart options part records after
of_part options part records after tests = is_part options part records after tests.0 tests.1 tests.2

-- the bytes, the header, the parts of records, and the debug part that is read or passed over
abbrev pub FileTests : List ℕ → ReadOptions → FileParts → Type 0
FileTests bytes options f = (bytes ≡ bytes_of (header_of f) ++ after_header f) × (nat_le (length bytes) file_limit ≡ true)
    × (list_all (λ b. nat_lt b 256) (bytes_of (header_of f) ++ after_header f) ≡ true)
    × (cut_modes header_modes (bytes_of (header_of f)) (after_header f) ≡ Some (header_of f))
    × PartTests options section_part f.sections (seen_from_externals options f) × PartTests options external_part f.externals (seen_from_debug options f)
    × PartTests options debug_part f.debug (from_loads f) × PartTests options data_part f.loads (from_trailer f)
    × PartTests options trailer_part f.trailer module_end × MatchBool options.debug (f.skipped ≡ []) (f.debug ≡ [])

-- the records follow one another, and each public has a value, which names what is declared
abbrev pub NameTests : FileParts → Type 0
NameTests f = (follow_from [] (records_of f) ≡ true) × (list_all (λ p. list_all (is_declared (f.sections ++ f.externals)) (named_in_expression p))
    f.externals ≡ true)
    × (list_all (λ i. is_assigned f.externals (value_of_public i)) (declared public f.externals) ≡ true)

-- what the parts state is what the module has
abbrev pub StateTests : FileParts → Parts → Type 0
StateTests f m = NamesModule m f.begin f.begin.row × Describes m f.descriptor.row × (m.ext ≡ f.extension) × (m.env ≡ f.environment)
    × (m.sections ≡ sections_of f.sections) × (m.names.publics ≡ publics_of (indexes_of f) f.externals) × (m.names.references ≡ references_of f.externals)
    × (marks_of m.debug ≡ marks (indexes_of f) f.debug) × (m.loads ≡ loads_of (indexes_of f) m.maus f.loads)
    × (option_to_list m.start ≡ starts_of (indexes_of f) f.trailer)

module _ (m : Parts) (bytes : List ℕ) (options : ReadOptions) (f : FileParts) where
  is_cut : FileTests bytes options f → StandAt (offsets_in f.offsets) (length (bytes_of (header_of f))) (parts_of f) → IsCutInto bytes options f
  is_cut (all, limit, small, header, sections, externals, debug, loads, trailer, debug_read) offsets = record {
    all = all;
    limit = is_within bytes limit;
    header = is_header (header_of f) (after_header f) small header;
    offsets = offsets;
    sections = of_part options section_part f.sections (seen_from_externals options f) sections;
    externals = of_part options external_part f.externals (seen_from_debug options f) externals;
    debug = of_part options debug_part f.debug (from_loads f) debug;
    debug_read = debug_read;
    loads = of_part options data_part f.loads (from_trailer f) loads;
    trailer = of_part options trailer_part f.trailer module_end trailer;
  }

  has_names : NameTests f → HasNames f
  has_names (follow, values, valued) = record { follow = follow-by_test [] (records_of f) follow; values = values; valued = valued }

  states : StateTests f m → States f (indexes_of f) m
  states (begin, descriptor, extension, environment, sections, publics, references, debug, loads, start) = record {
    begin = begin;
    descriptor = descriptor;
    extension = extension;
    environment = environment;
    sections = sections;
    publics = publics;
    references = references;
    debug = debug;
    loads = loads;
    start = start;
  }

  -- the offsets are those of the parts, and all else is computed
  pub spells : IsValid m → StandAt (offsets_in f.offsets) (length (bytes_of (header_of f))) (parts_of f) → FileTests bytes options f → NameTests f
      → StateTests f m
      → SpellsModule m bytes options
  spells valid offsets file names stated = (f, is_cut file offsets, has_names names, states stated, valid)
