-- Wrong links of concrete modules: none of them is the link of its list, and those whose readings differ cannot replace it.
use Rattle.std.proofs.Common.{◌+◌, ◌≡◌, ℕ, List, [], ◌∷◌, ◌++◌, length, map, Option, Some, None, refl, sym, ◌∙◌, ap, arith, rules}
use Rattle.std.specs.Prelude.{codes, slice_get, option_map, option_and_then, unwrap_or, ◌+◌}
use Rattle.mufom_expr.specs.declared.token.FieldKind.TheVariants.{Unsigned, Either}
use Rattle.mufom_expr.specs.declared.token.Letter.TheVariants.{P, R, X}
use Rattle.mufom_expr.specs.Value.{variables_of}
use Rattle.mufom_expr.specs.Tree.{number, variable, two, plus}
use Rattle.mufom_names.specs.declared.name.Public.{Public}
use Rattle.mufom_names.specs.Names.{AreDistinct}
use Rattle.mufom_loads.specs.declared.load.Item.TheVariants.{Field}
use Rattle.mufom_loads.specs.declared.load.Load.TheVariants.{SetSection, One}
use Rattle.mufom_debug.specs.declared.item.BlockHead.TheVariants as heads
use Rattle.mufom_debug.specs.declared.item.BlockHead.{BlockHead}
use Rattle.mufom_debug.specs.declared.item.DebugItem.{DebugItem, Block as block_case, the_lemmas}
use Rattle.mufom_debug.specs.Marks.{DebugMark, block_begin, block_end, name_mark, note_mark, value_mark, marks_of}
use Rattle.mufom_module.specs.declared.module.Parts.{Parts}
use Rattle.mufom_meaning.specs.Bases.{Bases, no_bases}
use Rattle.mufom_meaning.specs.Flat.{Sited, flat_sections, public_names, name_count}
use Rattle.mufom_meaning.specs.LinkAnswer.{first_duplicate}
use Rattle.mufom_meaning.specs.Steps.{counter, StepReading, counter_reading, literal_reading, field_reading}
use Rattle.mufom_meaning.specs.Readings.{readings, Readings, HeadReading, MarkReading, mark_reading, module_head, global_head, local_head}
use Rattle.mufom_meaning.specs.Readings.{source_head, section_head, begin_reading, end_reading, name_reading, note_reading, value_reading}
use Rattle.mufom_meaning.specs.Joined.{joined_mark, IsJoined, joined_mark}
use Rattle.mufom_meaning.specs.Staging.{IsContext, StandsFor}
use Rattle.mufom_meaning.specs.Values.{setting, value_within}
use Rattle.mufom_meaning.proofs.facts.Answers.{distinct_places}
use Rattle.mufom_meaning.proofs.rows.Built.{a_module, relocatable, public_of, strong, weak, sections_at}
use Rattle.mufom_meaning.proofs.rows.Names.{crossed_a, crossed_b, crossed_link, with_default}

-- if no name is found twice, the names are distinct
distinct_of : (names : List (List ℕ)) → first_duplicate [] names ≡ None → AreDistinct names
distinct_of names e place h = distinct_places [] names e h.1 h.0 place h.2 h.3 h.4

-- a list alone, with bases for its sections
alone : (m : Parts) (ms : List Parts) (bases : Bases) → first_duplicate [] (public_names ((m ∷ ms) ++ [])) ≡ None
    → length bases.sections ≡ length (flat_sections ((m ∷ ms) ++ [])) → IsContext [] (m ∷ ms) [] bases
alone m ms bases names placed =
    record { before_valid = tt; after_valid = tt; descriptor = tt; names = distinct_of (public_names ((m ∷ ms) ++ [])) names; placed = placed }

-- what the readings state of a public, and of a field, if they state a value
abbrev public_value : ℕ → Readings → ℕ
public_value n r = unwrap_or (option_and_then (λ p. p.value) (slice_get r.publics n)) 0

abbrev field_value : Option StepReading → ℕ
field_value None = 0
field_value (Some (counter_reading section value)) = 0
field_value (Some (literal_reading section at bytes)) = 0
field_value (Some (field_reading section at kind size value)) = unwrap_or value 0

-- the place that the first variable of a public has
abbrev first_place : ℕ → List Public → ℕ
first_place n publics = unwrap_or (option_map (λ v. v.1) (option_and_then (λ p. slice_get (variables_of p.value) 0) (slice_get publics n))) 0

-- the section of a debug block
abbrev head_section : Option BlockHead → ℕ
head_section None = 0
head_section (Some heads.Module) = 0
head_section (Some (heads.Global stack type_index offset)) = 0
head_section (Some (heads.Source numbers)) = 0
head_section (Some (heads.Local stack type_index offset)) = 0
head_section (Some (heads.Section section_type section offset)) = section

abbrev head_of : DebugMark → Option BlockHead
head_of (block_begin head name) = Some head
head_of (block_end end) = None
head_of (name_mark name) = None
head_of (note_mark name note) = None
head_of (value_mark name value) = None

abbrev mark_section : ℕ → List DebugMark → ℕ
mark_section n marks = head_section (option_and_then head_of (slice_get marks n))

-- The sections of publics are not moved: the second module's public stays at section 0.
abbrev unmoved : Parts
unmoved = a_module (relocatable (codes "t") 4 ∷ relocatable (codes "t") 4 ∷ [])
    (public_of (codes "f") (variable R 0) ∷ public_of (codes "g") (two plus (variable R 0) (number 1)) ∷ []) [] crossed_link.loads

unmoved_is_not_joined : ¬ IsJoined unmoved (crossed_a ∷ crossed_b ∷ []) (codes "a")
unmoved_is_not_joined j = let e : 0 ≡ 1 = ap (first_place 1) j.publics in omega (arith, e)

unmoved_does_not_stand : ¬ StandsFor unmoved (crossed_a ∷ crossed_b ∷ [])
unfolding readings counter value_within
unmoved_does_not_stand stands =
    let e : 257 ≡ 261 = ap (public_value 1) (stands [] [] (sections_at (256 ∷ 260 ∷ []))
    (alone crossed_a (crossed_b ∷ []) (sections_at (256 ∷ 260 ∷ [])) refl refl)) in omega (arith, e)

-- References to the list's own publics are left.
abbrev unresolved : Parts
unresolved = record crossed_link { names = record { publics = crossed_link.names.publics; references = strong (codes "g") ∷ strong (codes "f") ∷ [] } }

unresolved_is_not_joined : ¬ IsJoined unresolved (crossed_a ∷ crossed_b ∷ []) (codes "a")
unresolved_is_not_joined j = absurd (let e : strong (codes "g") ∷ strong (codes "f") ∷ [] ≡ [] = j.references in cc)

-- References are merged by name alone, and a default is lost.
abbrev defaults : List Parts
defaults = with_default 1 ∷ with_default 2 ∷ []

abbrev merged : Parts
merged = a_module (relocatable (codes "t") 1 ∷ relocatable (codes "t") 1 ∷ []) [] (weak (codes "x") 0 1 ∷ [])
    (SetSection 0 ∷ One (Field Unsigned 1 (variable X 0)) ∷ SetSection 1 ∷ One (Field Unsigned 1 (variable X 0)) ∷ [])

merged_is_not_joined : ¬ IsJoined merged defaults (codes "a")
merged_is_not_joined j = absurd (let e : length (weak (codes "x") 0 1 ∷ []) ≡ length (weak (codes "x") 0 1 ∷ weak (codes "x") 0 2 ∷ []) =
    ap length j.references in cc)

merged_does_not_stand : ¬ StandsFor merged defaults
unfolding readings counter value_within
merged_does_not_stand stands =
    let e : 1 ≡ 2
    = ap (λ r. field_value (slice_get r.steps 1)) (stands [] [] (sections_at (0 ∷ 1 ∷ []))
    (alone (with_default 1) (with_default 2 ∷ []) (sections_at (0 ∷ 1 ∷ [])) refl refl)) in omega (arith, e)

-- An address has another width.
abbrev wide : Parts
wide = a_module [] (public_of (codes "f") (number 70000) ∷ []) [] []

abbrev narrow : Parts
narrow = record wide { maus = 2 }

narrow_is_not_joined : ¬ IsJoined narrow (wide ∷ []) (codes "a")
narrow_is_not_joined j = absurd (let e = j.header.maus in cc)

narrow_does_not_stand : ¬ StandsFor narrow (wide ∷ [])
unfolding readings counter value_within
narrow_does_not_stand stands =
    let e : 4464 ≡ 70000 = ap (public_value 0) (stands [] [] no_bases (alone wide [] no_bases refl refl)) in omega (arith, e)

-- Program counters are not moved.
abbrev counting : Parts
counting = a_module (relocatable (codes "t") 4 ∷ []) [] [] (SetSection 0 ∷ One (Field Either 4 (variable P 0)) ∷ [])

abbrev unmoved_counter : Parts
unmoved_counter = a_module (relocatable (codes "t") 4 ∷ relocatable (codes "t") 4 ∷ []) [] []
    (SetSection 0 ∷ One (Field Either 4 (variable P 0)) ∷ SetSection 1 ∷ One (Field Either 4 (variable P 0)) ∷ [])

unmoved_counter_is_not_joined : ¬ IsJoined unmoved_counter (counting ∷ counting ∷ []) (codes "a")
unmoved_counter_is_not_joined j = absurd (let e = j.loads in cc)

-- The section of a debug block is not moved.
abbrev block_of : ℕ → DebugItem
block_of section = block_case (record { head = heads.Section 1 section (number 0); name = codes "t"; items = []; end = None })

abbrev with_block : Parts
with_block = record (a_module (relocatable (codes "t") 4 ∷ []) [] [] []) { debug = block_of 0 ∷ [] }

abbrev unmoved_block : Parts
unmoved_block = record (a_module (relocatable (codes "t") 4 ∷ relocatable (codes "t") 4 ∷ []) [] [] []) { debug = block_of 0 ∷ block_of 0 ∷ [] }

abbrev begin_at : ℕ → DebugMark
begin_at section = block_begin (heads.Section 1 section (number 0)) (codes "t")

one_block : marks_of (block_of 0 ∷ []) ≡ begin_at 0 ∷ block_end None ∷ []
one_block = search (rules, the_lemmas)

two_blocks : marks_of (block_of 0 ∷ block_of 0 ∷ []) ≡ begin_at 0 ∷ block_end None ∷ begin_at 0 ∷ block_end None ∷ []
two_blocks = search (rules, the_lemmas)

abbrev both_blocks : List Parts
both_blocks = with_block ∷ with_block ∷ []

-- a module with a block, at these numbers of a section and a debug name
abbrev block_site : ℕ → ℕ → Sited
block_site section name = record { parts = with_block; first_section = section; first_public = 0; first_name = name }

abbrev own_site : Sited
own_site = record { parts = unmoved_block; first_section = 0; first_public = 0; first_name = 0 }

unmoved_block_is_not_joined : ¬ IsJoined unmoved_block both_blocks (codes "a")
unmoved_block_is_not_joined j =
    let joined = λ (marks : List DebugMark). map (joined_mark both_blocks (block_site 0 0)) marks
    ++ (map (joined_mark both_blocks (block_site 1 (0 + name_count marks))) marks ++ []) in
    let e : 0 ≡ 1 = ap (mark_section 2) (sym two_blocks ∙ j.debug ∙ ap joined one_block) in omega (arith, e)

-- the section that a reading of a block's begin has
abbrev read_head : HeadReading → ℕ
read_head module_head = 0
read_head (global_head stack type_index offset) = 0
read_head (local_head stack type_index offset) = 0
read_head (source_head numbers) = 0
read_head (section_head section_type section offset) = section

abbrev read_section : Option MarkReading → ℕ
read_section None = 0
read_section (Some (begin_reading head name)) = read_head head
read_section (Some (end_reading end)) = 0
read_section (Some (name_reading name)) = 0
read_section (Some (note_reading name note)) = 0
read_section (Some (value_reading name value)) = 0

unmoved_block_does_not_stand : ¬ StandsFor unmoved_block both_blocks
unfolding readings
unmoved_block_does_not_stand stands =
    let own = λ (marks : List DebugMark). map (mark_reading (setting (unmoved_block ∷ []) (sections_at (0 ∷ 0 ∷ []))) own_site) marks ++ [] in
    let s = setting both_blocks (sections_at (0 ∷ 0 ∷ [])) in
    let read = λ (marks : List DebugMark). map (mark_reading s (block_site 0 0)) marks
    ++ (map (mark_reading s (block_site 1 (0 + name_count marks))) marks ++ []) in
    let e : 0 ≡ 1
    = ap (λ marks. read_section (slice_get marks 2))
    (sym (ap own two_blocks) ∙ ap (λ r. r.debug) (stands [] [] (sections_at (0 ∷ 0 ∷ []))
    (alone with_block (with_block ∷ []) (sections_at (0 ∷ 0 ∷ [])) refl refl)) ∙ ap read one_block) in
    omega (arith, e)
