-- The lines of a module are those of its rows, which come in the order of a listing.
use Rattle.std.proofs.Common.{◌≡◌, ℕ, zero, suc, ◌+◌, ◌-◌, ◌≤◌, nat_le, nat_lt, ◌==◌, ◌&&◌, not, true, false, List, [], ◌∷◌, ◌++◌, map}
use Rattle.std.proofs.Common.{flat_map, codes, Option, Some, None, refl, sym, ap, subst, ◌∙◌, append_assoc, arith, if◌then◌else◌}
use Rattle.mufom_expr.specs.declared.token.FieldKind.TheVariants as field_kinds
use Rattle.mufom_expr.specs.Tree.{Tree}
use Rattle.mufom_sections.specs.declared.section.Section.{Section}
use Rattle.mufom_names.specs.declared.name.Note.{Note}
use Rattle.mufom_names.specs.declared.name.Public.{Public}
use Rattle.mufom_names.specs.declared.name.Reference.{Reference}
use Rattle.mufom_loads.specs.declared.load.Item.{Item}
use Rattle.mufom_loads.specs.declared.load.Item.TheVariants.{Literal, Field}
use Rattle.mufom_loads.specs.declared.load.Load.{Load}
use Rattle.mufom_loads.specs.declared.load.Load.TheVariants.{SetSection, SetPc, One, Repeat}
use Rattle.mufom_debug.specs.Marks.{DebugMark, block_begin, block_end, name_mark, note_mark, value_mark, marks_of, closes}
use Rattle.mufom_module.specs.declared.module.Parts.{Parts}
use Rattle.mufom_build_text.specs.Pieces.{words}
use Rattle.mufom_build_text.proofs.FirstBytes.{no, both_true}
use Rattle.mufom_build.specs.declared.order.Stage.{Stage}
use Rattle.mufom_build.specs.declared.order.Stage.TheVariants as stages
use Rattle.mufom_build.specs.declared.order.Kind.{Kind}
use Rattle.mufom_build.specs.declared.order.Kind.TheVariants as kinds
use Rattle.mufom_build.specs.Lines.{Line, module_pieces, raw_lines, section_lines, note_line, public_lines, reference_lines, mark_lines, item_pieces}
use Rattle.mufom_build.specs.Lines.{load_lines, start_lines, each_lines, listing_lines}
use Rattle.mufom_build.specs.Order.{State, start, kind_of, stage_number, is_within, may_come, may_come_inside, may_come_outside, may_end}
use Rattle.mufom_build.specs.Order.{next, state_after, row_pieces, lines_from}
use Rattle.mufom_build.specs.Rows.{on_module, on_extension, on_environment, on_note, on_block, on_end, on_name, on_value, on_select, on_counter}
use Rattle.mufom_build.specs.Rows.{on_bytes, on_field, on_repeat, on_start, Row, extension_rows, environment_rows, section_row, note_row, public_row}
use Rattle.mufom_build.specs.Rows.{reference_row, public_rows, reference_rows, mark_row, item_row, load_rows, start_rows, rows_of}
use Rattle.mufom_build.proofs.OneListing.{section_line_is, lines_nested}
use Rattle.mufom_build.proofs.Closing.{items_close}

-- ---- rows and their lines

-- each of the rows may come after those before it
abbrev pub Ordered : State → List Row → Type 0
Ordered s [] = Unit {0}
Ordered s (r ∷ rows) = (may_come s (kind_of r) ≡ true) × Ordered (next s r) rows

-- the rows have these lines, each of them may come, and they may end after the last
pub record Lists (s : State) (rows : List Row) (lines : List Line) : Type 0 where
  pub are : lines_from s rows ≡ lines
  pub ordered : Ordered s rows
  pub ends : may_end (state_after s rows) ≡ true

row_first : (s : State) (r : Row) (rows : List Row) (line : Line) (lines : List Line) → may_come s (kind_of r) ≡ true → row_pieces s r ≡ line
    → Lists (next s r) rows lines → Lists s (r ∷ rows) (line ∷ lines)
row_first s r rows line lines may is rest = record {
  are = ap (λ l. l ∷ lines_from (next s r) rows) is ∙ ap (λ l. line ∷ l) rest.are;
  ordered = (may, rest.ordered);
  ends = rest.ends;
}

same_lists : (s : State) (rows others : List Row) (lines more : List Line) → rows ≡ others → lines ≡ more → Lists s rows lines → Lists s others more
same_lists s rows others lines more e f lists =
    subst (λ (l : List Line). Lists s others l) f (subst (λ (l : List Row). Lists s l lines) e lists)

-- the state in no repeat with these counts
abbrev at : Stage → ℕ → ℕ → ℕ → ℕ → ℕ → State
at g a b c n d = record { stage = g; sections = a; publics = b; references = c; names = n; depth = d; repeats = false }

-- in a repeat
abbrev in_repeat : ℕ → ℕ → ℕ → ℕ → State
in_repeat a b c n = record { stage = stages.Loads; sections = a; publics = b; references = c; names = n; depth = 0; repeats = true }

-- ---- stages

later : (m n k : ℕ) → n ≤ m → nat_le k n ≡ true → nat_le k m ≡ true
later m n k small h = grind arith

within_more : (first last more : ℕ) (g : Stage) → last ≤ more → is_within first last g ≡ true → is_within first more g ≡ true
within_more first last more g small h =
    let (low, high) = both_true (nat_le first (stage_number g)) (nat_le (stage_number g) last) h in
    let up = later more last (stage_number g) small high in
    λ i. low i && up i

begun_ends : (g : Stage) → is_within 1 8 g ≡ true → (nat_lt 0 (stage_number g) && ((0 == 0) && not false)) ≡ true
begun_ends stages.Nothing h = absurd (no h)
begun_ends stages.Module h = refl
begun_ends stages.Extension h = refl
begun_ends stages.Environment h = refl
begun_ends stages.Sections h = refl
begun_ends stages.Publics h = refl
begun_ends stages.References h = refl
begun_ends stages.Debug h = refl
begun_ends stages.Loads h = refl
begun_ends stages.Start h = refl

-- ---- the start address and the loads

start_listed : (g : Stage) (a b c n : ℕ) (value : Option Tree) → is_within 1 8 g ≡ true → Lists (at g a b c n 0) (start_rows value) (start_lines value)
start_listed g a b c n None h = record { are = refl; ordered = tt; ends = begun_ends g h }
start_listed g a b c n (Some value) h =
    row_first (at g a b c n 0) (on_start, value) [] _ [] h refl (record { are = refl; ordered = tt; ends = refl })

item_first : (s : State) (item : Item) (rows : List Row) (lines : List Line) → may_come s kinds.Item ≡ true
    → Lists (record s { stage = stages.Loads }) rows lines → Lists s (item_row item ∷ rows) (item_pieces item ∷ lines)
item_first s (Literal []) rows lines may rest = row_first s (on_bytes, []) rows _ lines may refl rest
item_first s (Literal (b ∷ bytes)) rows lines may rest = row_first s (on_bytes, b ∷ bytes) rows _ lines may refl rest
item_first s (Field field_kinds.Signed size value) rows lines may rest = row_first s (on_field, (field_kinds.Signed, size, value)) rows _ lines may refl rest
item_first s (Field field_kinds.Unsigned size value) rows lines may rest =
    row_first s (on_field, (field_kinds.Unsigned, size, value)) rows _ lines may refl rest
item_first s (Field field_kinds.Either size value) rows lines may rest = row_first s (on_field, (field_kinds.Either, size, value)) rows _ lines may refl rest

-- the items of a repeat, and its end
items_listed : (a b c n : ℕ) (items : List Item) (rows : List Row) (lines : List Line) → Lists (at stages.Loads a b c n 0) rows lines
    → Lists (in_repeat a b c n) (map item_row items ++ ((on_end, None) ∷ rows)) (map item_pieces items ++ (words (codes "end") ∷ lines))
items_listed a b c n [] rows lines rest = row_first (in_repeat a b c n) (on_end, None) rows _ lines refl refl rest
items_listed a b c n (item ∷ items) rows lines rest =
    item_first (in_repeat a b c n) item _ _ refl (items_listed a b c n items rows lines rest)

tail_order : {X : Type 0} (items : List X) (end : X) (more rest : List X) → items ++ (end ∷ (more ++ rest)) ≡ ((items ++ end ∷ []) ++ more) ++ rest
tail_order items end more rest =
    sym (append_assoc items (end ∷ []) (more ++ rest)) ∙ sym (append_assoc (items ++ end ∷ []) more rest)

loads_listed : (g : Stage) (a b c n : ℕ) (loads : List Load) (rows : List Row) (lines : List Line) → is_within 1 8 g ≡ true
    → ((t : Stage) → is_within 1 8 t ≡ true → Lists (at t a b c n 0) rows lines)
    → Lists (at g a b c n 0) (flat_map load_rows loads ++ rows) (flat_map load_lines loads ++ lines)
loads_listed g a b c n [] rows lines h rest = rest g h
loads_listed g a b c n (SetSection place ∷ loads) rows lines h rest =
    row_first (at g a b c n 0) (on_select, place) _ _ _ h refl (loads_listed stages.Loads a b c n loads rows lines refl rest)
loads_listed g a b c n (SetPc place value ∷ loads) rows lines h rest =
    row_first (at g a b c n 0) (on_counter, (place, value)) _ _ _ h refl (loads_listed stages.Loads a b c n loads rows lines refl rest)
loads_listed g a b c n (One item ∷ loads) rows lines h rest =
    item_first (at g a b c n 0) item _ _ h (loads_listed stages.Loads a b c n loads rows lines refl rest)
loads_listed g a b c n (Repeat times items ∷ loads) rows lines h rest =
    row_first (at g a b c n 0) (on_repeat, times) _ _ _ h refl (same_lists (in_repeat a b c n) _ _ _ _
    (tail_order (map item_row items) (on_end, None) (flat_map load_rows loads) rows)
    (tail_order (map item_pieces items) (words (codes "end")) (flat_map load_lines loads) lines)
    (items_listed a b c n items _ _ (loads_listed stages.Loads a b c n loads rows lines refl rest)))

-- ---- debug items

some_open : (d : ℕ) → nat_lt 0 (suc d) ≡ true
some_open d = grind arith

inside_comes : (g : Stage) (a b c n d : ℕ) (kind : Kind) → may_come_inside kind ≡ true → may_come (at g a b c n (suc d)) kind ≡ true
inside_comes g a b c n d kind h = ap (λ b. if b then may_come_inside kind else may_come_outside g kind) (some_open d) ∙ h

debug_comes : (g : Stage) (a b c n d : ℕ) → is_within 1 7 g ≡ true → may_come (at g a b c n d) kinds.Debug ≡ true
debug_comes g a b c n zero h = h
debug_comes g a b c n (suc d) h = inside_comes g a b c n d kinds.Debug refl

marks_listed : (g : Stage) (a b c n d : ℕ) (marks : List DebugMark) (rows : List Row) (lines : List Line) → is_within 1 7 g ≡ true
    → closes d marks ≡ true → ((t : Stage) (m : ℕ) → is_within 1 7 t ≡ true → Lists (at t a b c m 0) rows lines)
    → Lists (at g a b c n d) (map mark_row marks ++ rows) (mark_lines d n marks ++ lines)
marks_listed g a b c n zero [] rows lines h closed rest = rest g n h
marks_listed g a b c n (suc d) [] rows lines h closed rest = absurd (no closed)
marks_listed g a b c n d (block_begin head title ∷ marks) rows lines h closed rest =
    let more : suc d ≡ d + 1 = omega arith in
    row_first (at g a b c n d) (on_block, (head, title)) _ _ _ (debug_comes g a b c n d h) refl
    (marks_listed stages.Debug a b c n (d + 1) marks rows lines refl (subst (λ (k : ℕ). closes k marks ≡ true) more closed) rest)
marks_listed g a b c n zero (block_end end ∷ marks) rows lines h closed rest = absurd (no closed)
marks_listed g a b c n (suc d) (block_end None ∷ marks) rows lines h closed rest =
    let less : d ≡ suc d - 1 = omega arith in
    row_first (at g a b c n (suc d)) (on_end, None) _ _ _ (inside_comes g a b c n d kinds.End refl) refl
    (marks_listed g a b c n (suc d - 1) marks rows lines h (subst (λ (k : ℕ). closes k marks ≡ true) less closed) rest)
marks_listed g a b c n (suc d) (block_end (Some value) ∷ marks) rows lines h closed rest =
    let less : d ≡ suc d - 1 = omega arith in
    row_first (at g a b c n (suc d)) (on_end, Some value) _ _ _ (inside_comes g a b c n d kinds.EndWithValue refl) refl
    (marks_listed g a b c n (suc d - 1) marks rows lines h (subst (λ (k : ℕ). closes k marks ≡ true) less closed) rest)
marks_listed g a b c n d (name_mark title ∷ marks) rows lines h closed rest =
    row_first (at g a b c n d) (on_name, title) _ _ _ (debug_comes g a b c n d h) refl
    (marks_listed stages.Debug a b c (n + 1) d marks rows lines refl closed rest)
marks_listed g a b c n d (note_mark place note ∷ marks) rows lines h closed rest =
    row_first (at g a b c n d) (on_note, (Some place, note)) _ _ _ (debug_comes g a b c n d h) refl
    (marks_listed stages.Debug a b c n d marks rows lines refl closed rest)
marks_listed g a b c n d (value_mark place value ∷ marks) rows lines h closed rest =
    row_first (at g a b c n d) (on_value, (place, value)) _ _ _ (debug_comes g a b c n d h) refl
    (marks_listed stages.Debug a b c n d marks rows lines refl closed rest)

-- ---- names

notes_listed : (s : State) (notes : List Note) (rows : List Row) (lines : List Line) → may_come s kinds.Note ≡ true → Lists s rows lines
    → Lists s (map note_row notes ++ rows) (map note_line notes ++ lines)
notes_listed s [] rows lines may rest = rest
notes_listed s (note ∷ notes) rows lines may rest = row_first s (on_note, (None, note)) _ _ _ may refl (notes_listed s notes rows lines may rest)

references_listed : (g : Stage) (a b c : ℕ) (xs : List Reference) (rows : List Row) (lines : List Line) → is_within 1 6 g ≡ true
    → ((t : Stage) (m : ℕ) → is_within 1 6 t ≡ true → Lists (at t a b m 0 0) rows lines)
    → Lists (at g a b c 0 0) (flat_map reference_rows xs ++ rows) (each_lines c reference_lines xs ++ lines)
references_listed g a b c [] rows lines h rest = rest g c h
references_listed g a b c (x ∷ xs) rows lines h rest =
    row_first (at g a b c 0 0) (reference_row x) _ _ _ h refl (same_lists (at stages.References a b (c + 1) 0 0) _ _ _ _
    (sym (append_assoc (map note_row x.notes) (flat_map reference_rows xs) rows))
    (sym (append_assoc (map note_line x.notes) (each_lines (c + 1) reference_lines xs) lines))
    (notes_listed (at stages.References a b (c + 1) 0 0) x.notes _ _ refl (references_listed stages.References a b (c + 1) xs rows lines refl rest)))

publics_listed : (g : Stage) (a b : ℕ) (xs : List Public) (rows : List Row) (lines : List Line) → is_within 1 5 g ≡ true
    → ((t : Stage) (m : ℕ) → is_within 1 5 t ≡ true → Lists (at t a m 0 0 0) rows lines)
    → Lists (at g a b 0 0 0) (flat_map public_rows xs ++ rows) (each_lines b public_lines xs ++ lines)
publics_listed g a b [] rows lines h rest = rest g b h
publics_listed g a b (x ∷ xs) rows lines h rest =
    row_first (at g a b 0 0 0) (public_row x) _ _ _ h refl (same_lists (at stages.Publics a (b + 1) 0 0 0) _ _ _ _
    (sym (append_assoc (map note_row x.notes) (flat_map public_rows xs) rows))
    (sym (append_assoc (map note_line x.notes) (each_lines (b + 1) public_lines xs) lines))
    (notes_listed (at stages.Publics a (b + 1) 0 0 0) x.notes _ _ refl (publics_listed stages.Publics a (b + 1) xs rows lines refl rest)))

-- ---- sections, and parts that are kept as bytes

sections_listed : (g : Stage) (a : ℕ) (xs : List Section) (rows : List Row) (lines : List Line) → is_within 1 4 g ≡ true
    → ((t : Stage) (m : ℕ) → is_within 1 4 t ≡ true → Lists (at t m 0 0 0 0) rows lines)
    → Lists (at g a 0 0 0 0) (map section_row xs ++ rows) (each_lines a section_lines xs ++ lines)
sections_listed g a [] rows lines h rest = rest g a h
sections_listed g a (x ∷ xs) rows lines h rest =
    row_first (at g a 0 0 0 0) (section_row x) _ _ _ h (sym (section_line_is a x)) (sections_listed stages.Sections (a + 1) xs rows lines refl rest)

environment_listed : (g : Stage) (bytes : List ℕ) (rows : List Row) (lines : List Line) → is_within 1 2 g ≡ true
    → ((t : Stage) → is_within 1 3 t ≡ true → Lists (at t 0 0 0 0 0) rows lines)
    → Lists (at g 0 0 0 0 0) (environment_rows bytes ++ rows) (raw_lines (codes "environment") bytes ++ lines)
environment_listed g [] rows lines h rest = rest g (within_more 1 2 3 g (omega arith) h)
environment_listed g (b ∷ bytes) rows lines h rest = row_first (at g 0 0 0 0 0) (on_environment, (b, bytes)) _ _ _ h refl (rest stages.Environment refl)

extension_listed : (bytes : List ℕ) (rows : List Row) (lines : List Line)
    → ((t : Stage) → is_within 1 2 t ≡ true → Lists (at t 0 0 0 0 0) rows lines)
    → Lists (at stages.Module 0 0 0 0 0) (extension_rows bytes ++ rows) (raw_lines (codes "extension") bytes ++ lines)
extension_listed [] rows lines rest = rest stages.Module refl
extension_listed (b ∷ bytes) rows lines rest =
    row_first (at stages.Module 0 0 0 0 0) (on_extension, (b, bytes)) _ _ _ refl refl (rest stages.Extension refl)

-- ---- the module

-- The lines of a module are those of its rows, each of which may come, and the listing may end after them.
pub module_listed : (m : Parts) → Lists start (rows_of m) (listing_lines m)
module_listed m =
    let ext = raw_lines (codes "extension") m.ext in
    let env = raw_lines (codes "environment") m.env in
    let sections = each_lines 0 section_lines m.sections in
    let publics = each_lines 0 public_lines m.names.publics in
    let references = each_lines 0 reference_lines m.names.references in
    let marks = mark_lines 0 0 (marks_of m.debug) in
    let loads = flat_map load_lines m.loads in
    same_lists start (rows_of m) (rows_of m) _ (listing_lines m) refl
    (sym (lines_nested (module_pieces m ∷ []) ext env sections publics references marks loads (start_lines m.start)))
    (row_first start (on_module, (m.name, m.processor, m.maus, m.order)) _ (module_pieces m) _ refl refl
    (extension_listed m.ext _ _ (λ g h. environment_listed g m.env _ _ h
    (λ g h. sections_listed g 0 m.sections _ _ (within_more 1 3 4 g (omega arith) h)
    (λ g a h. publics_listed g a 0 m.names.publics _ _ (within_more 1 4 5 g (omega arith) h)
    (λ g b h. references_listed g a b 0 m.names.references _ _ (within_more 1 5 6 g (omega arith) h)
    (λ g c h. marks_listed g a b c 0 0 (marks_of m.debug) _ _ (within_more 1 6 7 g (omega arith) h) (items_close m.debug)
    (λ g n h. loads_listed g a b c n m.loads _ _ (within_more 1 7 8 g (omega arith) h)
    (λ g h. start_listed g a b c n m.start h)))))))))
