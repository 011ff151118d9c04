-- The modules of a flat list that define a name or refer to it, and the lines that list them.
use Rattle.std.specs.Prelude.{ℕ, ◌+◌, List, [], ◌∷◌, ◌++◌, flat_map, map, Bool, ◌||◌, codes, if◌then◌else◌}
use Rattle.std.specs.List.{list_any}
use Rattle.std.specs.Str.{bytes_eq}
use Rattle.mufom_names.specs.declared.name.Public.{Public}
use Rattle.mufom_names.specs.declared.name.Reference.{Reference}
use Rattle.mufom_module.specs.declared.module.Parts.{Parts}
use Rattle.mufom_plan.specs.Names.{has_name}
use Rattle.mufom_text.specs.Words.{Text, each, line, quoted}
use Rattle.mufom_text.specs.Digits.{counted}
use Rattle.mufom_origins.specs.Origins.{FileModule}
use Rattle.mufom_explain.specs.declared.mention.Mention.{Mention}
use Rattle.mufom_explain.specs.declared.mention.MentionKind.{MentionKind}
use Rattle.mufom_explain.specs.declared.mention.MentionKind.TheVariants as kinds
use Rattle.mufom_explain.specs.Lines.{ModuleFiles, module_line}

-- a public of the list has the name
abbrev pub defines_among : List Public → List ℕ → Bool
defines_among publics name = list_any (λ (p : Public). bytes_eq p.name name) publics

-- a reference of the list has it
abbrev pub refers_among : List Reference → List ℕ → Bool
refers_among references name = list_any (λ (r : Reference). bytes_eq r.name name) references

-- a mention of a name by the module at this position, with an entry of this kind
abbrev pub mention : ℕ → MentionKind → Mention
mention j kind = record { position = j; kind = kind }

-- this mention, or none
abbrev pub mention_if : Bool → ℕ → MentionKind → List Mention
mention_if b j kind = if b then mention j kind ∷ [] else []

-- the mentions of a name by a module: one if a public has the name, and one if a reference has it
abbrev pub mentions_by : List ℕ → ℕ → Parts → List Mention
mentions_by name j m = mention_if (defines_among m.names.publics name) j kinds.Public
    ++ mention_if (refers_among m.names.references name) j kinds.Reference

-- the mentions by all modules, if the first has this position
abbrev pub mentions_from : ℕ → List Parts → List ℕ → List Mention
mentions_from j [] name = []
mentions_from j (m ∷ ms) name = mentions_by name j m ++ mentions_from (j + 1) ms name

-- the mentions of a name by the modules of a list, in their order
abbrev pub mentions_of : List Parts → List ℕ → List Mention
mentions_of ms name = mentions_from 0 ms name

abbrev pub kind_text : MentionKind → Text
kind_text kinds.Public = codes ": public in module "
kind_text kinds.Reference = codes ": reference in module "

abbrev pub mention_line : List ℕ → Mention → Text
mention_line name m = line (quoted name ++ counted (kind_text m.kind) m.position)

-- the lines of the mentions of a name
abbrev pub name_lines : List Parts → List ℕ → Text
name_lines ms name = flat_map (mention_line name) (mentions_of ms name)

-- a public or a reference of the module has one of the names
abbrev pub mentions_any : List (List ℕ) → Parts → Bool
mentions_any wanted m = list_any (λ (p : Public). has_name wanted p.name) m.names.publics
    || list_any (λ (r : Reference). has_name wanted r.name) m.names.references

abbrev pub named_line : ModuleFiles → List (List ℕ) → ℕ → FileModule → Text
named_line names wanted j f = if mentions_any wanted f.1 then module_line names j f else []

-- The lines of the mentions of these names, one name after another, followed by a line for each module that mentions one of them.
abbrev pub mention_text : ModuleFiles → List FileModule → List (List ℕ) → Text
mention_text names flat wanted = flat_map (name_lines (map (λ (f : FileModule). f.1) flat)) wanted ++ each (named_line names wanted) flat
