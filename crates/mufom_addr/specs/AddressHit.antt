-- The function and the line at an address.
use Rattle.std.specs.Prelude.{ℕ, ◌==◌, ◌&&◌, Bool, List, [], ◌∷◌, ◌++◌, filter, option_map, Option, Some, None, nat_le, if◌then◌else◌}
use Rattle.std.specs.Option.{option_or}
use Rattle.mufom_expr.specs.Tree.{Tree}
use Rattle.mufom_expr.specs.Numbers.{number_of}
use Rattle.mufom_names.specs.declared.name.Note.{Note}
use Rattle.mufom_debug.specs.declared.item.BlockHead.{BlockHead}
use Rattle.mufom_debug.specs.declared.item.BlockHead.TheVariants as heads
use Rattle.mufom_debug.specs.declared.item.DebugItem.{DebugItem}
use Rattle.mufom_debug.specs.Marks.{kind_number}
use Rattle.mufom_addr.specs.declared.hit.FunctionHit.{FunctionHit}
use Rattle.mufom_addr.specs.declared.hit.LineHit.{LineHit}
use Rattle.mufom_addr.specs.declared.hit.Hit.{Hit}
use Rattle.mufom_addr.specs.Entries.{Entry, block, note, value, outermost, entries_of}
use Rattle.mufom_addr.specs.Greatest.{first_greatest}

-- ---- functions

-- a function, and the number of blocks around it
pub record Function : Type 0 where
  pub depth : ℕ
  pub hit : FunctionHit

-- the expression of the first address of a function; other blocks have none
abbrev pub function_begin : BlockHead → Option Tree
function_begin heads.Module = None
function_begin (heads.Global stack type_index offset) = Some offset
function_begin (heads.Source numbers) = None
function_begin (heads.Local stack type_index offset) = Some offset
function_begin (heads.Section section_type section offset) = None

-- a block is a function if it has a function's kind and an end
abbrev pub function_between : ℕ → BlockHead → List ℕ → Option Tree → Option Tree → List Function
function_between depth head name (Some begin) (Some end) =
    record { depth = depth; hit = record { kind = kind_number head; name = name; begin = number_of begin; «end» = number_of end } } ∷ []
function_between depth head name _ _ = []

-- the functions among entries
abbrev pub functions_of : List Entry → List Function
functions_of [] = []
functions_of (block depth head name end ∷ entries) = function_between depth head name (function_begin head) end ++ functions_of entries
functions_of (note name n ∷ entries) = functions_of entries
functions_of (value source name v ∷ entries) = functions_of entries

-- the function is around the address; its last address is part of it
abbrev pub is_around : ℕ → Function → Bool
is_around address f = nat_le f.hit.begin address && nat_le address f.hit.«end»

-- ---- lines

-- the attribute of a note that gives a line number
abbrev pub line_attribute : ℕ
line_attribute = 7

-- the line number that a note gives, which is the first of its numbers
abbrev pub line_in : List ℕ → Option ℕ
line_in [] = None
line_in (n ∷ numbers) = Some n

abbrev pub line_given : Note → Option ℕ
line_given n = if n.attribute == line_attribute then line_in n.numbers.items else None

-- the line number that a name was given last; the latest entry comes first
abbrev pub line_of : List Entry → ℕ → Option ℕ
line_of [] name = None
line_of (block depth head other end ∷ earlier) name = line_of earlier name
line_of (note other n ∷ earlier) name = if other == name then option_or (line_given n) (line_of earlier name) else line_of earlier name
line_of (value source other v ∷ earlier) name = line_of earlier name

-- the line of a value, if its name has a line number
abbrev pub line_at : Option (List ℕ) → Tree → Option ℕ → List LineHit
line_at source v None = []
line_at source v (Some n) = record { line = n; address = number_of v; source = source } ∷ []

-- the lines among entries, after the earlier ones, of which the latest comes first
abbrev pub lines_after : List Entry → List Entry → List LineHit
lines_after earlier [] = []
lines_after earlier (block depth head name end ∷ entries) = lines_after (block depth head name end ∷ earlier) entries
lines_after earlier (note name n ∷ entries) = lines_after (note name n ∷ earlier) entries
lines_after earlier (value source name v ∷ entries) = line_at source v (line_of earlier name) ++ lines_after (value source name v ∷ earlier) entries

-- ---- the result

-- the functions around the address, in order
abbrev pub functions_around : ℕ → List Entry → List Function
functions_around address entries = filter (is_around address) (functions_of entries)

-- the lines that are not above the address, in order
abbrev pub lines_up_to : ℕ → List Entry → List LineHit
lines_up_to address entries = filter (λ l. nat_le l.address address) (lines_after [] entries)

-- the innermost function around the address; the first one if there are several
abbrev pub innermost : ℕ → List Entry → Option Function
innermost address entries = first_greatest (λ f. f.depth) (functions_around address entries)

-- the line with the greatest address that is not above the address; the first one if there are several
abbrev pub nearest : ℕ → List Entry → Option LineHit
nearest address entries = first_greatest (λ l. l.address) (lines_up_to address entries)

abbrev pub hit_among : ℕ → List Entry → Hit
hit_among address entries = record { function = option_map (λ f. f.hit) (innermost address entries); line = nearest address entries }

-- what the items say about the address
abbrev pub hit_at : List DebugItem → ℕ → Hit
hit_at items address = hit_among address (entries_of items outermost)
