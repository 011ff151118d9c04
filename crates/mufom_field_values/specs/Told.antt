-- The lines of a field's value, from the values that the code has for them.
use Rattle.std.specs.Prelude.{[], ◌++◌, codes}
use Rattle.mufom_text.specs.Words.{Text, line}
use Rattle.mufom_field_values.specs.declared.lines.FieldValue.{FieldValue}
use Rattle.mufom_field_values.specs.Lines.{variable_lines}

abbrev pub value_text : FieldValue → Text
value_text v = line (codes "value: " ++ v.infix) ++ variable_lines v.parts.now [] v.variables.items
