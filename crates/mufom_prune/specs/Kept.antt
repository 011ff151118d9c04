-- The entries of a module that are kept for public symbols (IEEE Std 695, module structure). The entries are the sections, then the publics, then
-- the references; they are numbered in this order.
use Rattle.std.specs.Prelude.{ℕ, suc, ◌+◌, List, [], ◌∷◌, ◌++◌, length, map, flat_map, option_to_list, Option, Some, None, is_some, Bool, ◌||◌, if◌then◌else◌}
use Rattle.std.specs.Str.{bytes_eq}
use Rattle.mufom_expr.specs.declared.token.Letter.{Letter}
use Rattle.mufom_expr.specs.declared.token.Letter.TheVariants.{I, L, P, R, S, X}
use Rattle.mufom_expr.specs.Tree.{Tree}
use Rattle.mufom_expr.specs.Value.{variables_of}
use Rattle.mufom_sections.specs.declared.section.Section.{Section}
use Rattle.mufom_names.specs.declared.name.Public.{Public}
use Rattle.mufom_loads.specs.declared.load.Item.{Item}
use Rattle.mufom_loads.specs.declared.load.Item.TheVariants.{Literal, Field}
use Rattle.mufom_loads.specs.declared.load.Load.{Load}
use Rattle.mufom_loads.specs.declared.load.Load.TheVariants.{SetSection, SetPc, One, Repeat}
use Rattle.mufom_module.specs.declared.module.Parts.{Parts}
use Rattle.mufom_module.specs.Contents.{placed_loads}
use Rattle.mufom_module.specs.Defects.{counts_of, is_outside, is_this}
use Rattle.mufom_plan.specs.Names.{has_name}
use Rattle.mufom_prune.specs.Reached.{IsReached}

-- ---- the mentions of an expression

-- the number of the first entry of the kind that a letter names
abbrev pub first_for : Parts → Letter → ℕ
first_for m I = length m.sections
first_for m L = 0
first_for m P = 0
first_for m R = 0
first_for m S = 0
first_for m X = length m.sections + length m.names.publics

-- the entry that a variable names, if the module has it
abbrev pub entry_of : Parts → Letter × ℕ → Option ℕ
entry_of m v = if is_outside (counts_of m) v then None else Some (first_for m v.0 + v.1)

-- the entries that an expression mentions: the sections of its R, L, S and P, the publics of its I, the references of its X
abbrev pub mentions : Parts → Tree → List ℕ
mentions m t = flat_map (λ v. option_to_list (entry_of m v)) (variables_of t)

-- the entries that expressions mention
abbrev pub all_mentions : Parts → List Tree → List ℕ
all_mentions m ts = flat_map (mentions m) ts

-- ---- the needs of an entry

-- the expression of an item
abbrev pub item_trees : Item → List Tree
item_trees (Literal bytes) = []
item_trees (Field kind size value) = value ∷ []

-- the expressions of a load
abbrev pub load_trees : Load → List Tree
load_trees (SetSection section) = []
load_trees (SetPc section value) = value ∷ []
load_trees (One item) = item_trees item
load_trees (Repeat count items) = flat_map item_trees items

-- the section to which a load belongs: the section that it names, or the current one
abbrev pub home : Option ℕ → Load → Option ℕ
home current (SetSection section) = Some section
home current (SetPc section value) = Some section
home current (One item) = current
home current (Repeat count items) = current

-- what a load mentions for a section; the load is paired with the section that is current before it
abbrev pub mentions_for : Parts → ℕ → Option ℕ × Load → List ℕ
mentions_for m section p = if is_this (home p.0 p.1) section then all_mentions m (load_trees p.1) else []

-- what each section needs, the first having this position: what its loads mention
abbrev pub section_needs : Parts → List (Option ℕ × Load) → ℕ → List Section → List (List ℕ)
section_needs m placed place [] = []
section_needs m placed place (section ∷ sections) = flat_map (mentions_for m place) placed ∷ section_needs m placed (suc place) sections

-- the number of the first public with the name; the first of all publics has number n
abbrev pub named_from : ℕ → List Public → List ℕ → Option ℕ
named_from n [] name = None
named_from n (public ∷ publics) name = if bytes_eq name public.name then Some n else named_from (suc n) publics name

-- the first public with the name, as an entry
abbrev pub named : Parts → List ℕ → Option ℕ
named m name = named_from (length m.sections) m.names.publics name

-- What each entry needs: a section what its loads mention, a public what its value mentions, a reference the public of its name.
abbrev pub needs : Parts → List (List ℕ)
needs m =
    section_needs m (placed_loads m) 0 m.sections
    ++ (map (λ public. mentions m public.value) m.names.publics
    ++ map (λ reference. option_to_list (named m reference.name)) m.names.references)

-- ---- what is kept

-- the section always stays: it has a base, or one of these names
abbrev pub always_stays : List (List ℕ) → Section → Bool
always_stays stays section = is_some section.base || has_name stays section.name

-- the positions of the sections that always stay, given names of such sections; the first section has position n
abbrev pub staying_from : List (List ℕ) → ℕ → List Section → List ℕ
staying_from stays n [] = []
staying_from stays n (section ∷ sections) =
    if always_stays stays section then n ∷ staying_from stays (suc n) sections else staying_from stays (suc n) sections

-- the publics with these names, each the first of its name
abbrev pub all_named : Parts → List (List ℕ) → List ℕ
all_named m names = flat_map (λ name. option_to_list (named m name)) names

-- What is kept in any case, given names of publics and names of sections: each section with a base or with one of the names of sections, the publics
-- with the names, and what the start mentions.
abbrev pub roots : Parts → List (List ℕ) → List (List ℕ) → List ℕ
roots m names stays = staying_from stays 0 m.sections ++ (all_named m names ++ all_mentions m (option_to_list m.start))

-- The marked entries are those that are kept for these names of publics and of sections: the smallest set that contains the roots and, with each
-- entry, everything that it needs.
abbrev pub IsKeptFor : Parts → List (List ℕ) → List (List ℕ) → List Bool → Type 0
IsKeptFor m names stays marks = IsReached (needs m) (roots m names stays) marks

-- the same for the name of one public
abbrev pub IsKept : Parts → List ℕ → List Bool → Type 0
IsKept m keep marks = IsKeptFor m (keep ∷ []) [] marks
