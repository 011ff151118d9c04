-- A list of modules as one: the entries of all its modules in order, with their flat numbers (IEEE Std 695, module structure).
use Rattle.std.specs.Prelude.{ℕ, ◌+◌, ◌*◌, ◌==◌, List, [], ◌∷◌, map, length, filter, find, flat_map, Option, Some, None, is_none, Bool, not, ◌&&◌}
use Rattle.std.specs.Prelude.{option_to_list}
use Rattle.std.specs.Str.{bytes_eq}
use Rattle.mufom_expr.specs.Tree.{Tree}
use Rattle.mufom_sections.specs.declared.section.Section.{Section}
use Rattle.mufom_names.specs.declared.name.Weak.{Weak}
use Rattle.mufom_names.specs.declared.name.Public.{Public}
use Rattle.mufom_names.specs.declared.name.Reference.{Reference}
use Rattle.mufom_debug.specs.Marks.{DebugMark, block_begin, block_end, name_mark, note_mark, value_mark, marks_of}
use Rattle.mufom_module.specs.declared.module.Parts.{Parts}
use Rattle.mufom_plan.specs.Names.{has_name}

-- A module of a list, with the flat numbers of its first section, public and debug name. Its section n has the flat
-- number first_section + n, and so on.
pub record Sited : Type 0 where
  pub parts : Parts
  pub first_section : ℕ
  pub first_public : ℕ
  pub first_name : ℕ

-- the number of debug names that the records declare
abbrev pub name_count : List DebugMark → ℕ
name_count [] = 0
name_count (block_begin head name ∷ marks) = name_count marks
name_count (block_end end ∷ marks) = name_count marks
name_count (name_mark name ∷ marks) = 1 + name_count marks
name_count (note_mark name note ∷ marks) = name_count marks
name_count (value_mark name value ∷ marks) = name_count marks

-- the modules, if those before them have this many sections, publics and debug names
abbrev pub sited_from : ℕ → ℕ → ℕ → List Parts → List Sited
sited_from s p d [] = []
sited_from s p d (m ∷ ms) =
    record { parts = m; first_section = s; first_public = p; first_name = d }
    ∷ sited_from (s + length m.sections) (p + length m.names.publics) (d + name_count (marks_of m.debug)) ms

-- the modules of a list, with their flat numbers
abbrev pub sited : List Parts → List Sited
sited ms = sited_from 0 0 0 ms

-- a public, with the module that it is in
pub record SitedPublic : Type 0 where
  pub site : Sited
  pub entry : Public

-- the publics of modules, in order
abbrev pub sited_publics : List Sited → List SitedPublic
sited_publics sites = flat_map (λ site. map (λ entry. record { site = site; entry = entry }) site.parts.names.publics) sites

-- the entries of all modules, in order
abbrev pub flat_sections : List Parts → List Section
flat_sections ms = flat_map (λ m. m.sections) ms

-- all publics
abbrev pub flat_publics : List Parts → List SitedPublic
flat_publics ms = sited_publics (sited ms)

-- all references
abbrev pub flat_references : List Parts → List Reference
flat_references ms = flat_map (λ m. m.names.references) ms

-- all starts
abbrev pub flat_starts : List Parts → List Tree
flat_starts ms = flat_map (λ m. option_to_list m.start) ms

-- the names of all publics, in order
abbrev pub public_names : List Parts → List (List ℕ)
public_names ms = flat_map (λ m. map (λ entry. entry.name) m.names.publics) ms

-- the first public of this name
abbrev pub first_named : List SitedPublic → List ℕ → Option SitedPublic
first_named publics name = find (λ q. bytes_eq q.entry.name name) publics

-- each element once, at the place of the first equal one
abbrev pub distinct : {A : Type 0} → (A → A → Bool) → List A → List A
distinct same [] = []
distinct same (x ∷ xs) = x ∷ filter (λ y. not (same x y)) (distinct same xs)

-- a reference is strong if it is not weak
abbrev pub is_strong : Reference → Bool
is_strong reference = is_none reference.weak

-- the size of a weak reference, or 0 for a strong one
abbrev pub common_size : Option Weak → ℕ
common_size None = 0
common_size (Some weak) = weak.size

-- the references whose names no public of the list has
abbrev pub unresolved_references : List Parts → List Reference
unresolved_references ms = filter (λ reference. not (has_name (public_names ms) reference.name)) (flat_references ms)

-- the names that strong references need and no public has, each once
abbrev pub needs : List Parts → List (List ℕ)
needs ms = distinct bytes_eq (map (λ reference. reference.name) (filter is_strong (unresolved_references ms)))

-- a weak reference whose size is not 0, which is a common if no public has its name
abbrev pub is_common : Reference → Bool
is_common reference = not (common_size reference.weak == 0)

-- the same name and the same size
abbrev pub same_common : List ℕ × ℕ → List ℕ × ℕ → Bool
same_common c d = bytes_eq c.0 d.0 && (c.1 == d.1)

-- the commons as pairs of name and size, each pair once: weak references whose size is not 0 and whose names no public has
abbrev pub commons : List Parts → List (List ℕ × ℕ)
commons ms = distinct same_common (map (λ reference. (reference.name, common_size reference.weak)) (filter is_common (unresolved_references ms)))

-- the names of the commons, one for each pair
abbrev pub common_names : List Parts → List (List ℕ)
common_names ms = map (λ common. common.0) (commons ms)

-- the width of an address in bits, which the first module of the list states
abbrev pub width : List Parts → ℕ
width [] = 0
width (m ∷ ms) = 8 * m.maus
