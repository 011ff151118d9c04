-- The lists of a link, joined module by module.
use Rattle.std.specs.Prelude.{◌≡◌, ℕ, List, [], ◌++◌, length, map, flat_map, Option, Some, None, option_to_list}
use Rattle.mufom_expr.specs.declared.token.Letter.{Letter}
use Rattle.mufom_expr.specs.Tree.{Tree}
use Rattle.mufom_debug.specs.Marks.{marks_of, names_after_all}
use Rattle.mufom_module.specs.declared.module.Parts.{Parts}
use Rattle.mufom_meaning.specs.Flat.{sited, flat_sections}
use Rattle.mufom_meaning.specs.Joined.{joined_tree, joined_public, joined_load, joined_mark}
use Rattle.mufom_link.specs.declared.joined.Joined.{Joined}
use Rattle.mufom_link.specs.declared.linking.Header.{Header}
use Rattle.mufom_link.specs.Renaming.{Renaming, renaming, renamed_tree, renamed_public, renamed_load, renamed_mark}

-- the header of a partial link under this name, whose first module is this
abbrev pub header_of : Parts → List ℕ → Header
header_of first name = record {
  processor = first.processor;
  name = name;
  maus = first.maus;
  order = first.order;
  ext = first.ext;
  env = first.env;
}

-- the start of the link once a module is joined: that of the module, if it has one
abbrev pub start_after : Renaming → Option Tree → Option Tree → Option Tree
start_after r None start = start
start_after r (Some t) start = Some (renamed_tree r t)

-- no module is joined yet
pub record IsEmpty (all : Joined) : Type 0 where
  pub sections : all.sections.items ≡ []
  pub publics : all.publics.items ≡ []
  pub loads : all.loads.items ≡ []
  pub start : all.start ≡ None
  pub debug : all.debug.items ≡ []
  pub debug_names : all.debug_names ≡ 0

-- the renumbering of the next module's entries, if these variables replace its references
abbrev pub next_renaming : List (Letter × ℕ) → Joined → Renaming
next_renaming targets all = renaming (length all.sections.items) (length all.publics.items) all.debug_names targets

-- the entries of the module are appended
pub record IsAppended (targets : List (Letter × ℕ)) (m : Parts) (old new : Joined) : Type 0 where
  pub sections : new.sections.items ≡ old.sections.items ++ m.sections
  pub publics : new.publics.items ≡ old.publics.items ++ map (renamed_public (next_renaming targets old)) m.names.publics
  pub loads : new.loads.items ≡ old.loads.items ++ map (renamed_load (next_renaming targets old)) m.loads
  pub start : new.start ≡ start_after (next_renaming targets old) m.start old.start
  pub debug : marks_of new.debug.items ≡ marks_of old.debug.items ++ map (renamed_mark (next_renaming targets old)) (marks_of m.debug)
  pub debug_names : new.debug_names ≡ names_after_all old.debug_names (marks_of m.debug)

-- these are the lists of the partial link of the modules
pub record HasLists (ms : List Parts) (all : Joined) : Type 0 where
  pub sections : all.sections.items ≡ flat_sections ms
  pub publics : all.publics.items ≡ flat_map (λ site. map (joined_public ms site) site.parts.names.publics) (sited ms)
  pub loads : all.loads.items ≡ flat_map (λ site. map (joined_load ms site) site.parts.loads) (sited ms)
  pub start : option_to_list all.start ≡ flat_map (λ site. map (joined_tree ms site) (option_to_list site.parts.start)) (sited ms)
  pub debug : marks_of all.debug.items ≡ flat_map (λ site. map (joined_mark ms site) (marks_of site.parts.debug)) (sited ms)
