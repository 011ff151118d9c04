-- What a listing prints of a module spells its lines.
use Rattle.std.proofs.Common.{◌≡◌, ℕ, suc, ◌+◌, ◌<◌, ◌≤◌, ◌^◌, List, [], ◌∷◌, ◌++◌, length, flat_map, map, ◌-◌, Bool, true, false, cond, ◌||◌, nat_lt}
use Rattle.std.proofs.Common.{Option, Some, None, codes, refl, arith, max}
use Rattle.std.specs.Fmt.{digits}
use Rattle.std.specs.Prelude.{IfSome}
use Rattle.std.specs.List.{All, list_any, find}
use Rattle.std.proofs.lemmas.List.Elements.{All-head, All-tail}
use Rattle.mufom_numbers.specs.declared.limits.TheConstants.{MOST_STRING_BYTES}
use Rattle.mufom_numbers.specs.Spelling.{AreBytes}
use Rattle.mufom_expr.specs.Tree.{Tree}
use Rattle.mufom_sections.specs.declared.section.Section.{Section}
use Rattle.mufom_names.specs.declared.name.Note.{Note}
use Rattle.mufom_names.specs.declared.name.Weak.{Weak}
use Rattle.mufom_names.specs.declared.name.Public.{Public}
use Rattle.mufom_names.specs.declared.name.Reference.{Reference}
use Rattle.mufom_loads.specs.declared.load.Item.{Item}
use Rattle.mufom_loads.specs.declared.load.Item.TheVariants.{Literal, Field}
use Rattle.mufom_loads.specs.declared.load.Load.{Load}
use Rattle.mufom_loads.specs.declared.load.Load.TheVariants.{SetSection, SetPc, One, Repeat}
use Rattle.mufom_debug.specs.declared.item.BlockHead.{BlockHead}
use Rattle.mufom_debug.specs.declared.item.BlockHead.TheVariants as heads
use Rattle.mufom_debug.specs.Marks.{DebugMark, block_begin, block_end, name_mark, note_mark, value_mark, marks_of}
use Rattle.mufom_debug.specs.Marks.{open_after, kind_number, names_after, depth_from}
use Rattle.mufom_module.specs.declared.module.Parts.{Parts}
use Rattle.mufom_module.specs.declared.module.Defect.TheVariants as d
use Rattle.mufom_module.proofs.Valid.{weighs_less}
use Rattle.mufom_module.proofs.EntryCounts.{sections-count, publics-count, references-count}
use Rattle.mufom_module.specs.Defects.{IsValid, is_long_literal, has_defect}
use Rattle.mufom_module.specs.Contents.{any_item}
use Rattle.mufom_module.specs.Made.{IsNumber, IsPosition, IsMade, IsMadeTree, IsMadeSection, IsMadeNote, IsMadeWeak, IsMadePublic, IsMadeReference, IsMadeItem}
use Rattle.mufom_module.specs.Made.{IsMadeLoad, IsMadeHead, IsMadeMark}
use Rattle.mufom_module.specs.Written.{each_from}
use Rattle.mufom_text.specs.declared.form.TextForm.TheVariants.{Listing}
use Rattle.mufom_text.specs.Words.{Text, line}
use Rattle.mufom_text.specs.Show as show
use Rattle.mufom_build.specs.Begun.{AllFit}
use Rattle.mufom_build.specs.Lines as lines
use Rattle.mufom_build.specs.Lines.{Line}
use Rattle.mufom_build.proofs.Printed.{lines_spelled, Printed, ◌▸◌, none, in_words, in_number, in_place, in_byte, in_position, in_count, in_name}
use Rattle.mufom_build.proofs.Printed.{in_digits, in_spaced, in_value, in_block, PrintedLines, all, no_lines, indented, ◌▹◌, on_indented_line}
use Rattle.mufom_build.proofs.Printed.{on_line}

in_module : (m : Parts) → IsMade m → PrintedLines (lines.module_pieces m ∷ []) (show.module_line m)
in_module m made = on_line (in_words (codes "module ") ▸ in_name m.name made.name ▸ in_words (codes " processor ") ▸
    in_name m.processor made.processor ▸ in_words (codes " maus ") ▸ in_byte m.maus made.maus ▸ in_words (codes " order ") ▸
    in_words (show.order_letter m.order))

in_raw : (word : Text) (bytes : List ℕ) → AreBytes bytes → PrintedLines (lines.raw_lines word bytes) (show.raw_line Listing word bytes)
in_raw word [] small = no_lines
in_raw word (b ∷ bytes) small = on_line (in_words word ▸ in_words (codes " ") ▸ in_digits (b ∷ bytes) small)

-- ---- sections

in_base : (base : Option ℕ) → IfSome base IsNumber → Printed (lines.base_pieces base) (show.base_text base)
in_base None small = none
in_base (Some base) small = in_words (codes " base ") ▸ in_number base small

in_section : (n : ℕ) (s : Section) → IsPosition n → IsMadeSection s → PrintedLines (lines.section_lines n s) (show.section_line n s)
in_section n s small made = on_line (in_words (codes "section ") ▸ in_position n small ▸ in_words (codes " ") ▸ in_name s.name made.name ▸
    in_words (codes " ") ▸ in_words (show.type_letters s.absolute) ▸ in_words (show.purpose_letter s.purpose) ▸ in_words (codes " size ") ▸
    in_number s.size made.size ▸ in_words (codes " align ") ▸ in_number s.align made.align ▸ in_base s.base made.base)

-- ---- names

in_note : (note : Note) → IsMadeNote note → Printed (lines.note_pieces note) (show.note_text note)
in_note note made = in_words (codes " type ") ▸ in_number note.type_index made.type_index ▸ in_words (codes " attribute ") ▸
    in_number note.attribute made.attribute ▸ in_spaced note.numbers.items made.numbers

in_notes : (notes : List Note) → All IsMadeNote notes → PrintedLines (map lines.note_line notes) (show.note_lines notes)
in_notes [] made = no_lines
in_notes (note ∷ notes) made = all (on_line (in_words (codes "note") ▸ in_note note (All-head IsMadeNote note notes made)))
    (in_notes notes (All-tail IsMadeNote note notes made))

in_public : (n : ℕ) (p : Public) → IsPosition n → IsMadePublic p → PrintedLines (lines.public_lines n p) (show.public_lines n p)
in_public n p small made = all (on_line (in_words (codes "public ") ▸ in_position n small ▸ in_words (codes " ") ▸ in_name p.name made.name ▸
    in_words (codes " = ") ▸ in_value p.value made.value)) (in_notes p.notes made.notes)

in_weak : (weak : Option Weak) → IfSome weak IsMadeWeak → Printed (lines.weak_pieces weak) (show.weak_text weak)
in_weak None made = none
in_weak (Some weak) made = in_words (codes " weak size ") ▸ in_number weak.size made.0 ▸ in_words (codes " default ") ▸ in_number weak.default made.1

in_reference : (n : ℕ) (q : Reference) → IsPosition n → IsMadeReference q → PrintedLines (lines.reference_lines n q) (show.reference_lines n q)
in_reference n q small made = all (on_line (in_words (codes "reference ") ▸ in_position n small ▸ in_words (codes " ") ▸ in_name q.name made.name ▸
    in_weak q.weak made.weak)) (in_notes q.notes made.notes)

-- entries one after another, each by its position
in_each : {X : Type 0} (Made : X → Type 0) (lines_of : ℕ → X → List Line) (text_of : ℕ → X → Text)
    → ((n : ℕ) (x : X) → IsPosition n → Made x → PrintedLines (lines_of n x) (text_of n x))
    → (n : ℕ) (xs : List X) → n + length xs < 2 ^ 32 → All Made xs → PrintedLines (lines.each_lines n lines_of xs) (each_from n text_of xs)
in_each Made lines_of text_of one n [] small made = no_lines
in_each Made lines_of text_of one n (x ∷ xs) small made =
    let sum : n + suc (length xs) < 2 ^ 32 = small in
    all (one n x (omega (arith, sum)) (All-head Made x xs made))
    (in_each Made lines_of text_of one (n + 1) xs (omega (arith, sum)) (All-tail Made x xs made))

-- ---- debug items

in_scope : (stack type_index : ℕ) (offset : Tree) → IsNumber stack → IsNumber type_index → IsMadeTree offset
    → Printed (lines.scope_pieces stack type_index offset) (show.scope_text stack type_index offset)
in_scope stack type_index offset a b c = in_words (codes " stack ") ▸ in_number stack a ▸ in_words (codes " type ") ▸ in_number type_index b ▸
    in_words (codes " offset ") ▸ in_value offset c

in_head : (head : BlockHead) → IsMadeHead head → Printed (lines.head_pieces head) (show.head_text head)
in_head heads.Module made = none
in_head (heads.Global stack type_index offset) (a, b, c) = in_scope stack type_index offset a b c
in_head (heads.Local stack type_index offset) (a, b, c) = in_scope stack type_index offset a b c
in_head (heads.Source numbers) (few, small) = in_spaced numbers.items small
in_head (heads.Section section_type section offset) (a, b, c) = in_words (codes " section-type ") ▸ in_number section_type a ▸
    in_words (codes " section ") ▸ in_place section b ▸ in_words (codes " offset ") ▸ in_value offset c

kind-small : (head : BlockHead) → IsNumber (kind_number head)
kind-small heads.Module = omega arith
kind-small (heads.Global stack type_index offset) = omega arith
kind-small (heads.Local stack type_index offset) = omega arith
kind-small (heads.Source numbers) = omega arith
kind-small (heads.Section section_type section offset) = omega arith

in_end : (end : Option Tree) → IfSome end IsMadeTree → Printed (lines.end_pieces end) (show.end_text end)
in_end None made = in_words (codes "end")
in_end (Some value) made = in_words (codes "end = ") ▸ in_value value made

in_mark : (depth n : ℕ) (mark : DebugMark) → open_after depth mark ≤ 32 → IsPosition n → IsMadeMark mark
    → PrintedLines (lines.mark_pieces depth n mark ∷ []) (show.mark_line depth n mark)
in_mark depth n (block_begin head name) few small (a, b) = on_indented_line (indented depth (in_block (depth + 1) few ▸ in_words (codes "block "))
    ▹ in_number (kind_number head) (kind-small head) ▹ in_words (codes " ") ▹ in_name name b ▹ in_head head a)
in_mark depth n (block_end end) few small made = on_indented_line (indented (depth - 1) (in_end end made))
in_mark depth n (name_mark name) few small made = on_indented_line (indented depth (in_words (codes "name ")) ▹ in_position n small ▹
    in_words (codes " ") ▹ in_name name made)
in_mark depth n (note_mark name note) few small (a, b) = on_indented_line (indented depth (in_words (codes "note ")) ▹ in_place name a ▹ in_note note b)
in_mark depth n (value_mark name value) few small (a, b) = on_indented_line (indented depth (in_words (codes "value ")) ▹ in_place name a ▹
    in_words (codes " = ") ▹ in_value value b)

one_more : (n : ℕ) (mark : DebugMark) → names_after n mark ≤ n + 1
one_more n (block_begin head name) = omega arith
one_more n (block_end end) = omega arith
one_more n (name_mark name) = omega arith
one_more n (note_mark name note) = omega arith
one_more n (value_mark name value) = omega arith

least_depth : (opened : ℕ) (marks : List DebugMark) → opened ≤ depth_from opened marks
least_depth opened [] = omega arith
least_depth opened (mark ∷ marks) = omega arith

in_marks : (depth n : ℕ) (marks : List DebugMark) → depth_from depth marks ≤ 32 → n + length marks < 2 ^ 32 → All IsMadeMark marks
    → PrintedLines (lines.mark_lines depth n marks) (show.mark_lines depth n marks)
in_marks depth n [] deep small made = no_lines
in_marks depth n (mark ∷ marks) deep small made =
    let sum : n + suc (length marks) < 2 ^ 32 = small in
    let next = one_more n mark in
    let all_deep : max depth (depth_from (open_after depth mark) marks) ≤ 32 = deep in
    let least = least_depth (open_after depth mark) marks in
    all (in_mark depth n mark (omega (arith, all_deep, least)) (omega (arith, sum)) (All-head IsMadeMark mark marks made))
    (in_marks (open_after depth mark) (names_after n mark) marks (omega (arith, all_deep)) (omega (arith, sum, next)) (All-tail IsMadeMark mark marks made))

-- ---- loads

in_bytes : (bytes : List ℕ) → AreBytes bytes → IsNumber (length bytes) → Printed (lines.bytes_pieces bytes) (show.bytes_text bytes)
unfolding digits
in_bytes [] made small = in_words (codes "bytes ") ▸ in_count 0 small
in_bytes (b ∷ bytes) made small = (in_words (codes "bytes ") ▸ in_count (length (b ∷ bytes)) small ▸ in_words (codes " ") ▸
    in_digits (b ∷ bytes) made)

neither : (a b : Bool) → (a || b) ≡ false → (a ≡ false) × (b ≡ false)
neither true b h = absurd (let no : true ≡ false = h in cc)
neither false b h = (refl, h)

in_item : (item : Item) → IsMadeItem item → is_long_literal item ≡ false → Printed (lines.item_pieces item) (show.item_text item)
in_item (Literal bytes) made fits = in_bytes bytes made (short (length bytes) fits) where
  short : (n : ℕ) → nat_lt MOST_STRING_BYTES n ≡ false → n < 2 ^ 64
  short n h = grind arith
in_item (Field kind size value) (a, b) fits = (in_words (codes "field ") ▸ in_words (show.kind_text kind) ▸ in_words (codes " ") ▸ in_byte size b ▸
    in_words (codes " = ") ▸ in_value value a)

in_items : (items : List Item) → All IsMadeItem items → list_any is_long_literal items ≡ false
    → PrintedLines (map lines.item_pieces items) (flat_map (λ item. line (codes "  " ++ show.item_text item)) items)
in_items [] made fits = no_lines
in_items (item ∷ items) made fits =
    let parts = neither (is_long_literal item) (list_any is_long_literal items) fits in
    all (on_indented_line (indented 1 (in_item item (All-head IsMadeItem item items made) parts.0)))
    (in_items items (All-tail IsMadeItem item items made) parts.1)

in_load : (load : Load) → IsMadeLoad load → any_item is_long_literal load ≡ false
    → PrintedLines (lines.load_lines load) (show.load_lines Listing load)
in_load (SetSection n) made fits = on_line (in_words (codes "select ") ▸ in_place n made)
in_load (SetPc n value) (a, b) fits = on_line (in_words (codes "counter ") ▸ in_place n a ▸ in_words (codes " = ") ▸ in_value value b)
in_load (One item) made fits = on_line (in_item item made fits)
in_load (Repeat times items) (a, b) fits = all (all (on_line (in_words (codes "repeat ") ▸ in_number times a)) (in_items items b fits))
    (on_line (in_words (codes "end")))

in_loads : (loads : List Load) → All IsMadeLoad loads → list_any (any_item is_long_literal) loads ≡ false
    → PrintedLines (flat_map lines.load_lines loads) (flat_map (show.load_lines Listing) loads)
in_loads [] made fits = no_lines
in_loads (load ∷ loads) made fits =
    let parts = neither (any_item is_long_literal load) (list_any (any_item is_long_literal) loads) fits in
    all (in_load load (All-head IsMadeLoad load loads made) parts.0) (in_loads loads (All-tail IsMadeLoad load loads made) parts.1)

in_start : (start : Option Tree) → IfSome start IsMadeTree → PrintedLines (lines.start_lines start) (show.start_line start)
in_start None made = no_lines
in_start (Some value) made = on_line (in_words (codes "start = ") ▸ in_value value made)

-- ---- the module

-- a test that the first element to pass comes after, or that none passes, is passed by none before
misses : {X : Type 0} (p : X → Bool) (xs : List X) (x : X) (ys : List X) → find p (xs ++ x ∷ ys) ≡ None → p x ≡ false
misses p [] x ys h = by_case (p x) h where
  by_case : (b : Bool) → cond b (Some x) (find p ys) ≡ None → b ≡ false
  by_case true e = absurd cc
  by_case false e = refl
misses p (y ∷ xs) x ys h = misses p xs x ys (passed (p y) y (find p (xs ++ x ∷ ys)) h) where
  passed : {X : Type 0} (b : Bool) (z : X) (o : Option X) → cond b (Some z) o ≡ None → o ≡ None
  passed true z o e = absurd cc
  passed false z o e = e

literals_fit : (m : Parts) → IsValid m → list_any (any_item is_long_literal) m.loads ≡ false
literals_fit m valid =
    misses (has_defect m) (d.Depth ∷ d.LongId ∷ d.BadMaus ∷ d.BadAlign ∷ d.MissingBase ∷ d.Position ∷ d.MisplacedP ∷ d.NoSection ∷ []) d.LongRun
    (d.FieldSize ∷ d.Attribute ∷ d.Nesting ∷ d.Weight ∷ []) valid

-- at most 32 blocks are open
depth_fits : (m : Parts) → IsValid m → depth_from 0 (marks_of m.debug) ≤ 32
depth_fits m valid = small (depth_from 0 (marks_of m.debug)) (misses (has_defect m) [] d.Depth (d.LongId ∷ d.BadMaus ∷ d.BadAlign ∷ d.MissingBase
    ∷ d.Position ∷ d.MisplacedP ∷ d.NoSection ∷ d.LongRun ∷ d.FieldSize ∷ d.Attribute ∷ d.Nesting ∷ d.Weight ∷ []) valid)
  where
    small : (n : ℕ) → nat_lt 32 n ≡ false → n ≤ 32
    small n h = grind arith

in_parts : (m : Parts) → IsMade m → IsValid m → length (marks_of m.debug) < 2 ^ 32 → PrintedLines (lines.listing_lines m) (show.listing_text m)
in_parts m made valid few =
    let light = weighs_less m valid in
    let sections = sections-count m in
    let publics = publics-count m in
    let references = references-count m in
    all (all (all (all (all (all (all (all (in_module m made) (in_raw (codes "extension") m.ext made.ext))
    (in_raw (codes "environment") m.env made.env))
    (in_each IsMadeSection lines.section_lines show.section_line in_section 0 m.sections (omega (arith, light, sections)) made.sections))
    (in_each IsMadePublic lines.public_lines show.public_lines in_public 0 m.names.publics (omega (arith, light, publics)) made.publics))
    (in_each IsMadeReference lines.reference_lines show.reference_lines in_reference 0 m.names.references (omega (arith, light, references))
    made.references))
    (in_marks 0 0 (marks_of m.debug) (depth_fits m valid) (omega (arith, few)) made.debug))
    (in_loads m.loads made.loads (literals_fit m valid)))
    (in_start m.start made.start)

-- The listing of a module is one from which the module can be built.
pub listing_builds : (m : Parts) → IsMade m → IsValid m → length (marks_of m.debug) < 2 ^ 32 → lines.Build (show.listing_text m) m
listing_builds m made valid few = record { listed = lines_spelled (in_parts m made valid few); made = made; valid = valid }

-- No line of the listing of a module states too much.
pub listing_fits : (m : Parts) → IsMade m → IsValid m → length (marks_of m.debug) < 2 ^ 32 → AllFit (lines.listing_lines m)
listing_fits m made valid few = (in_parts m made valid few).fit
