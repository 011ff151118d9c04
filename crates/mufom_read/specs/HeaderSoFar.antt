-- What the header states so far: the names of the module, the number of MAUs in an address, and the byte order.
use Rattle.std.specs.Prelude.{ℕ, min, List, filter_map, slice_get, Option, Some, None}
use Rattle.std.specs.Option.{option_or}
use Rattle.mufom_numbers.specs.declared.taken.Span.{Span}
use Rattle.mufom_records.specs.declared.record.Record.{Record}
use Rattle.mufom_records.specs.declared.record.Record.TheVariants as r
use Rattle.mufom_module.specs.SpelledRecords.{SpelledRecord, text_in}
use Rattle.mufom_module.specs.Gathered.{first_answer}
use Rattle.mufom_judging.specs.RecordFields.{order_of}
use Rattle.mufom_read.specs.declared.header.Names.{Names}
use Rattle.mufom_read.specs.declared.header.Addressing.{Addressing}
use Rattle.mufom_read.specs.declared.header.Header.{Header}

-- the processor and the name of the module, at these spans of the record
abbrev pub names_at : SpelledRecord → Span → Span → Names
names_at p processor name = record { processor = text_in p processor; name = text_in p name }

-- the names that an MB states
abbrev pub names_by : SpelledRecord → Record → Option Names
names_by p (r.ModuleBegin processor name) = Some (names_at p processor name)
names_by p _ = None

-- The number of MAUs in an address, capped at 8, and the byte order.
abbrev pub layout_from : ℕ → Option ℕ → Addressing
layout_from maus letter = record { maus = min maus 8; order = order_of letter }

-- the layout that an AD states
abbrev pub layout_by : Record → Option Addressing
layout_by (r.Descriptor bits maus letter) = Some (layout_from maus letter)
layout_by _ = None

-- the names that the first MB of the records states
abbrev pub names_in : List SpelledRecord → Option Names
names_in records = slice_get (filter_map (λ p. names_by p p.row) records) 0

-- the layout that the first AD of the records states
abbrev pub layout_in : List SpelledRecord → Option Addressing
layout_in records = first_answer layout_by records

abbrev pub header_with : Option Names → Option Addressing → Header
header_with names layout = record { names = names; layout = layout }

-- the header with what one more record states; the first statement counts
abbrev pub header_after : Header → SpelledRecord → Header
header_after h p = header_with (option_or h.names (names_by p p.row)) (option_or h.layout (layout_by p.row))
