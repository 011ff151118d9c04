-- The first words of lines, as the code tells them apart.
use Rattle.mufom_build.specs.declared.keyword.Keyword.{Keyword as FirstWord}
use Rattle.mufom_build.specs.declared.keyword.Keyword.TheVariants as first
use Rattle.mufom_build.specs.Rows.{Keyword, on_module, on_extension, on_environment, on_section, on_public, on_note, on_reference, on_block}
use Rattle.mufom_build.specs.Rows.{on_end, on_name, on_value, on_select, on_counter, on_bytes, on_field, on_repeat, on_start}

-- the first word for a value of the code
abbrev pub keyword_of : FirstWord → Keyword
keyword_of first.Module = on_module
keyword_of first.Extension = on_extension
keyword_of first.Environment = on_environment
keyword_of first.Section = on_section
keyword_of first.Public = on_public
keyword_of first.Note = on_note
keyword_of first.Reference = on_reference
keyword_of first.Block = on_block
keyword_of first.End = on_end
keyword_of first.Name = on_name
keyword_of first.Value = on_value
keyword_of first.Select = on_select
keyword_of first.Counter = on_counter
keyword_of first.Bytes = on_bytes
keyword_of first.Field = on_field
keyword_of first.Repeat = on_repeat
keyword_of first.Start = on_start
