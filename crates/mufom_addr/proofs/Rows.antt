-- Worked rows: a debug part, and what it says about addresses.
use Rattle.std.proofs.Common.{◌≡◌, ℕ, List, [], ◌∷◌, Option, Some, None, refl, ap}
use Rattle.std.specs.Prelude.{codes}
use Rattle.mufom_expr.specs.Tree.{number}
use Rattle.mufom_names.specs.declared.name.Note.{Note}
use Rattle.mufom_debug.specs.declared.item.BlockHead.TheVariants as heads
use Rattle.mufom_debug.specs.declared.item.DebugItem.{DebugItem, Block as block_case, Name as name_case, Note as note_case, Value as value_case}
use Rattle.mufom_addr.specs.declared.hit.FunctionHit.{FunctionHit}
use Rattle.mufom_addr.specs.declared.hit.LineHit.{LineHit}
use Rattle.mufom_addr.specs.Entries.{Entry, block, note, value, entries_of, outermost}
use Rattle.mufom_addr.proofs.EntriesLemmas.{entries-Block, entries-Name, entries-Note, entries-Value}
use Rattle.mufom_addr.specs.AddressHit.{hit_at, hit_among}

-- ---- a program with one function and one line, in no source file

abbrev line_note : List ℕ → Note
line_note numbers = record { type_index = 0; attribute = 7; numbers = record { items = numbers } }

abbrev main_block : DebugItem
main_block = block_case (record {
  head = heads.Global 0 0 (number 256);
  name = codes "main";
  items = name_case (codes "l") ∷ note_case 1 (line_note (12 ∷ 0 ∷ [])) ∷ value_case 1 (number 258) ∷ [];
  «end» = Some (number 271);
})

abbrev program : List DebugItem
program = block_case (record { head = heads.Module; name = codes "prog"; items = name_case (codes "x") ∷ main_block ∷ []; «end» = None }) ∷ []

abbrev program_entries : List Entry
program_entries = block 0 heads.Module (codes "prog") None ∷ block 1 (heads.Global 0 0 (number 256)) (codes "main") (Some (number 271))
    ∷ note 1 (line_note (12 ∷ 0 ∷ [])) ∷ value None 1 (number 258) ∷ []

has_entries : entries_of program outermost ≡ program_entries
has_entries = simp (entries-Block, entries-Name, entries-Note, entries-Value)

abbrev main_hit : Option FunctionHit
main_hit = Some (record { kind = 4; name = codes "main"; begin = 256; «end» = 271 })

abbrev line_hit : ℕ → ℕ → Option (List ℕ) → Option LineHit
line_hit n address source = Some (record { line = n; address = address; source = source })

at : (address : ℕ) → hit_at program address ≡ hit_among address program_entries
at address = ap (hit_among address) has_entries

after_the_line : hit_at program 261 ≡ record { function = main_hit; line = line_hit 12 258 None }
after_the_line = at 261

before_the_line : hit_at program 257 ≡ record { function = main_hit; line = None }
before_the_line = at 257

past_the_end : hit_at program 272 ≡ record { function = None; line = line_hit 12 258 None }
past_the_end = at 272

last_address : hit_at program 271 ≡ record { function = main_hit; line = line_hit 12 258 None }
last_address = at 271

first_address : hit_at program 256 ≡ record { function = main_hit; line = None }
first_address = at 256

below : hit_at program 255 ≡ record { function = None; line = None }
below = at 255

no_items : hit_at [] 5 ≡ record { function = None; line = None }
no_items = refl

-- ---- functions beside each other and nested

abbrev global : ℕ → List ℕ → ℕ → Option ℕ → Entry
global depth name begin None = block depth (heads.Global 0 0 (number begin)) name None
global depth name begin (Some end) = block depth (heads.Global 0 0 (number begin)) name (Some (number end))

abbrev local : ℕ → List ℕ → ℕ → ℕ → Entry
local depth name begin end = block depth (heads.Local 0 0 (number begin)) name (Some (number end))

abbrev found : ℕ → List ℕ → ℕ → ℕ → Option FunctionHit
found kind name begin end = Some (record { kind = kind; name = name; begin = begin; «end» = end })

abbrev functions : List Entry
functions = block 0 (heads.Source (record { items = [] })) (codes "a.c") None ∷ global 1 (codes "f") 10 (Some 19) ∷ local 2 (codes "inner") 12 15
    ∷ local 2 (codes "twin") 15 16
    ∷ global 1 (codes "g") 19 (Some 30) ∷ global 1 (codes "open") 0 None ∷ global 1 (codes "turned") 50 (Some 40)
    ∷ block 1 (heads.Section 0 0 (number 60)) (codes "part") (Some (number 70)) ∷ []

border_before : hit_among 11 functions ≡ record { function = found 4 (codes "f") 10 19; line = None }
border_before = refl

nested : hit_among 12 functions ≡ record { function = found 6 (codes "inner") 12 15; line = None }
nested = refl

first_of_two_inside : hit_among 15 functions ≡ record { function = found 6 (codes "inner") 12 15; line = None }
first_of_two_inside = refl

second_inside : hit_among 16 functions ≡ record { function = found 6 (codes "twin") 15 16; line = None }
second_inside = refl

first_of_two_beside : hit_among 19 functions ≡ record { function = found 4 (codes "f") 10 19; line = None }
first_of_two_beside = refl

second_beside : hit_among 20 functions ≡ record { function = found 4 (codes "g") 19 30; line = None }
second_beside = refl

no_end : hit_among 5 functions ≡ record { function = None; line = None }
no_end = refl

begin_above_end : hit_among 45 functions ≡ record { function = None; line = None }
begin_above_end = refl

part_of_a_section : hit_among 65 functions ≡ record { function = None; line = None }
part_of_a_section = refl

-- ---- lines

abbrev lines : List Entry
lines = value None 0 (number 5) ∷ note 0 (line_note (1 ∷ [])) ∷ value (Some (codes "a.c")) 0 (number 10) ∷ note 0 (line_note (2 ∷ 9 ∷ []))
    ∷ note 0 (line_note [])
    ∷ note 0 (record { type_index = 0; attribute = 8; numbers = record { items = 7 ∷ [] } }) ∷ value (Some (codes "b.c")) 0 (number 20)
    ∷ note 1 (line_note []) ∷ value None 1 (number 30) ∷ note 2 (line_note (3 ∷ [])) ∷ value None 2 (number 40) ∷ value None 2 (number 15)
    ∷ value None 0 (number 40) ∷ []

note_after_value : hit_among 5 lines ≡ record { function = None; line = None }
note_after_value = refl

in_a_source : hit_among 14 lines ≡ record { function = None; line = line_hit 1 10 (Some (codes "a.c")) }
in_a_source = refl

second_value_of_a_name : hit_among 15 lines ≡ record { function = None; line = line_hit 3 15 None }
second_value_of_a_name = refl

last_note_with_numbers : hit_among 29 lines ≡ record { function = None; line = line_hit 2 20 (Some (codes "b.c")) }
last_note_with_numbers = refl

note_without_numbers : hit_among 30 lines ≡ record { function = None; line = line_hit 2 20 (Some (codes "b.c")) }
note_without_numbers = refl

first_of_two_lines : hit_among 100 lines ≡ record { function = None; line = line_hit 3 40 None }
first_of_two_lines = refl
