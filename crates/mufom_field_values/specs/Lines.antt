-- The lines about the value of a field: its expression, and the names of the variables in it.
use Rattle.std.specs.Prelude.{ℕ, ◌==◌, List, [], ◌∷◌, ◌++◌, Option, option_map, slice_get, unwrap_or, Bool, ◌&&◌, codes, if◌then◌else◌}
use Rattle.std.specs.Fmt.{decimal}
use Rattle.std.specs.List.{list_any}
use Rattle.std.specs.Str.{bytes_eq}
use Rattle.mufom_expr.specs.declared.token.Letter.{Letter}
use Rattle.mufom_expr.specs.declared.token.Letter.TheVariants as letters
use Rattle.mufom_expr.specs.InfixText.{infix_text, letter_text}
use Rattle.mufom_expr.specs.Tree.{Tree}
use Rattle.mufom_expr.specs.Value.{variables_of}
use Rattle.mufom_sections.specs.declared.section.Section.{Section}
use Rattle.mufom_names.specs.declared.name.Public.{Public}
use Rattle.mufom_names.specs.declared.name.Reference.{Reference}
use Rattle.mufom_module.specs.declared.module.Parts.{Parts}
use Rattle.mufom_text.specs.Words.{Text, line, quoted}

-- a letter and a position
abbrev pub Variable : Type 0
Variable = Letter × ℕ

-- the name of the section at a position
abbrev pub section_name : Parts → ℕ → Option (List ℕ)
section_name m n = option_map (λ (s : Section). s.name) (slice_get m.sections n)

-- the name of what a variable stands for in a module: a section, a public or a reference
abbrev pub name_of : Parts → Letter → ℕ → Option (List ℕ)
name_of m letters.I n = option_map (λ (p : Public). p.name) (slice_get m.names.publics n)
name_of m letters.X n = option_map (λ (r : Reference). r.name) (slice_get m.names.references n)
name_of m letters.L n = section_name m n
name_of m letters.P n = section_name m n
name_of m letters.R n = section_name m n
name_of m letters.S n = section_name m n

-- two variables have the same letter and position
abbrev pub same_variable : Variable → Variable → Bool
same_variable v w = bytes_eq (letter_text v.0) (letter_text w.0) && (v.1 == w.1)

abbrev pub variable_line : Parts → Variable → Text
variable_line m v = line (codes "  " ++ ((letter_text v.0 ++ decimal v.1) ++ (codes ": " ++ quoted (unwrap_or (name_of m v.0 v.1) []))))

-- the line of a variable, if none of these is the same
abbrev pub new_line : Parts → List Variable → Variable → Text
new_line m earlier v = if list_any (same_variable v) earlier then [] else variable_line m v

-- a line for each variable at its first place, after earlier ones
abbrev pub variable_lines : Parts → List Variable → List Variable → Text
variable_lines m earlier [] = []
variable_lines m earlier (v ∷ more) = new_line m earlier v ++ variable_lines m (earlier ++ v ∷ []) more

-- The expression in infix form, and a line for each of its variables, once, in the order in which they first appear.
abbrev pub value_lines : Parts → Tree → Text
value_lines m t = line (codes "value: " ++ infix_text t) ++ variable_lines m [] (variables_of t)
