-- How what is kept is found, step by step.
use Rattle.std.specs.Prelude.{ℕ, suc, ◌+◌, List, [], ◌∷◌, ◌++◌, length, flat_map, set, get_or, option_to_list, Option, Some, None, Bool, true, false}
use Rattle.mufom_expr.specs.declared.token.Token.{Token}
use Rattle.mufom_expr.specs.Mentions.{variables_in}
use Rattle.mufom_names.specs.declared.name.Public.{Public}
use Rattle.mufom_names.specs.declared.name.Reference.{Reference}
use Rattle.mufom_names.specs.Index.{Entry, position_of, with_entry}
use Rattle.mufom_loads.specs.declared.load.Load.{Load}
use Rattle.mufom_module.specs.declared.module.Parts.{Parts}
use Rattle.mufom_prune.specs.Kept.{entry_of, all_mentions, load_trees, home}

-- the number of entries of a module
abbrev pub entry_count : Parts → ℕ
entry_count m = length m.sections + (length m.names.publics + length m.names.references)

-- the entries that tokens name
abbrev pub token_mentions : Parts → List Token → List ℕ
token_mentions m tokens = flat_map (λ v. option_to_list (entry_of m v)) (variables_in tokens)

-- an index once the names of publics are added, the first with number n; a name that it already has keeps its number
abbrev pub with_names : List Entry → ℕ → List Public → List Entry
with_names entries n [] = entries
with_names entries n (public ∷ publics) = with_names (with_entry entries public.name n) (suc n) publics

-- the needs of sections with more for one section
abbrev pub with_more : List (List ℕ) → Option ℕ → List ℕ → List (List ℕ)
with_more needs None more = needs
with_more needs (Some section) more = set needs section (get_or needs section [] ++ more)

-- the needs of sections with what loads mention; each load is paired with the section that is current before it
abbrev pub with_loads : Parts → List (List ℕ) → List (Option ℕ × Load) → List (List ℕ)
with_loads m needs [] = needs
with_loads m needs (p ∷ placed) = with_loads m (with_more needs (home p.0 p.1) (all_mentions m (load_trees p.1))) placed

-- what a reference needs, given an index of the publics
abbrev pub reference_needs : List Entry → Reference → List ℕ
reference_needs publics r = option_to_list (position_of publics r.name)

-- an index once the names of the marked references are added
abbrev pub with_remaining : List Entry → List Bool → List Reference → List Entry
with_remaining entries [] references = entries
with_remaining entries (mark ∷ marks) [] = entries
with_remaining entries (true ∷ marks) (r ∷ references) = with_remaining (with_entry entries r.name 0) marks references
with_remaining entries (false ∷ marks) (r ∷ references) = with_remaining entries marks references
