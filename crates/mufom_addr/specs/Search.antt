-- The state of a search for a function and a line, and the items that it has seen.
use Rattle.std.specs.Prelude.{◌≡◌, ℕ, List, ◌++◌, Option, Some, None, option_map, slice_index_or, reverse, nat_lt, nat_le, if◌then◌else◌}
use Rattle.mufom_addr.specs.declared.hit.LineHit.{LineHit}
use Rattle.mufom_addr.specs.declared.search.FoundFunction.{FoundFunction}
use Rattle.mufom_addr.specs.declared.search.FoundLine.{FoundLine}
use Rattle.mufom_addr.specs.declared.search.Search.{Search}
use Rattle.mufom_addr.specs.Entries.{Entry}
use Rattle.mufom_addr.specs.AddressHit.{Function, innermost, is_around, nearest, line_of}

abbrev pub function_held : FoundFunction → Function
function_held f = record { depth = f.depth; hit = record { kind = f.kind; name = f.name.now; begin = f.begin; «end» = f.«end» } }

abbrev pub line_held : FoundLine → LineHit
line_held l = record { line = l.line; address = l.address; source = option_map (λ s. s.now) l.source }

-- the line number of a name, in a table by the positions of names
abbrev pub number_for : List (Option ℕ) → ℕ → Option ℕ
number_for numbers name = slice_index_or numbers name None

-- the first of the greatest elements, once one more is added
abbrev pub or_greater : {X : Type 0} → (X → ℕ) → Option X → X → Option X
or_greater key None x = Some x
or_greater key (Some y) x = if nat_lt (key y) (key x) then Some x else Some y

-- the innermost function, once one more is added, if there is one
abbrev pub with_function : ℕ → Option Function → Option Function → Option Function
with_function address best None = best
with_function address best (Some f) = if is_around address f then or_greater (λ f. f.depth) best f else best

-- the nearest line, once one more is added, if there is one
abbrev pub with_line : ℕ → Option LineHit → Option LineHit → Option LineHit
with_line address best None = best
with_line address best (Some l) = if nat_le l.address address then or_greater (λ l. l.address) best l else best

-- for this address, the search has seen these entries, in this order
pub record HasSeen (address : ℕ) (entries : List Entry) (s : Search) : Type 0 where
  pub asked : s.address ≡ address
  pub innermost_is : option_map function_held s.function ≡ innermost address entries
  pub nearest_is : option_map line_held s.line ≡ nearest address entries
  pub numbers_are : (name : ℕ) → number_for s.line_numbers.items name ≡ line_of (reverse entries) name

-- the search has seen these entries in addition
pub record SeesMore (more : List Entry) (before after : Search) : Type 0 where
  pub seen : (address : ℕ) (entries : List Entry) → HasSeen address entries before → HasSeen address (entries ++ more) after
