-- A text is the listing of one module's parts at most.
use Rattle.std.proofs.Common.{◌≡◌, ℕ, ◌+◌, List, [], ◌∷◌, ◌++◌, length, map, flat_map, codes, Option, Some}
use Rattle.std.proofs.Common.{None}
use Rattle.std.proofs.Common.{refl, sym, ap, subst, ◌∙◌, inl, inr, ◌⊎◌, append_assoc}
use Rattle.mufom_expr.specs.declared.token.FieldKind.TheVariants as kinds
use Rattle.mufom_expr.specs.Tree.{Tree}
use Rattle.mufom_sections.specs.declared.section.Section.{Section}
use Rattle.mufom_names.specs.declared.name.Note.{Note}
use Rattle.mufom_names.specs.declared.name.Public.{Public}
use Rattle.mufom_names.specs.declared.name.Reference.{Reference}
use Rattle.mufom_loads.specs.declared.load.Item.{Item}
use Rattle.mufom_loads.specs.declared.load.Item.TheVariants.{Literal, Field}
use Rattle.mufom_loads.specs.declared.load.Load.{Load}
use Rattle.mufom_loads.specs.declared.load.Load.TheVariants.{SetSection, SetPc, One, Repeat}
use Rattle.mufom_debug.specs.Marks.{DebugMark, block_begin, block_end, name_mark, note_mark, value_mark, marks_of, open_after, names_after}
use Rattle.mufom_module.specs.declared.module.Parts.{Parts}
use Rattle.mufom_text.specs.Words.{Text}
use Rattle.mufom_text.specs.Show.{type_letters, purpose_letter}
use Rattle.mufom_build_text.specs.Pieces.{Piece, block, position, name, gap, figure, words, loose, Spells, MOST_NUMBER}
use Rattle.mufom_build_text.specs.Places.{SpellsLines}
use Rattle.mufom_build.specs.Lines.{Line, module_pieces, raw_lines, base_pieces, section_pieces, section_lines, note_line, public_lines}
use Rattle.mufom_build.specs.Lines.{reference_lines}
use Rattle.mufom_build.specs.Lines.{mark_pieces, mark_lines, item_pieces, load_lines, start_lines, each_lines, listing_lines}
use Rattle.mufom_build.proofs.OneText.{SpellsRow, SpellsRows}
use Rattle.mufom_build.specs.Rows.{on_end, Row}
use Rattle.mufom_build.specs.Rows.{line_of, extension_rows, environment_rows, section_row, note_row, public_rows, reference_rows}
use Rattle.mufom_build.specs.Rows.{mark_row, item_row, load_rows, start_rows, from_loads, from_marks, from_references, from_publics}
use Rattle.mufom_build.specs.Rows.{from_sections, from_environment, rows_of}

-- ---- each row has its line

abbrev pub IsLineOf : Row → Line → Type 0
IsLineOf r pieces = (n : ℕ) × ((pieces ≡ line_of n r) ⊎ ((d : ℕ) × (pieces ≡ block d ∷ line_of n r)))

abbrev pub Lined : List Row → List Line → Type 0
Lined [] [] = Unit {0}
Lined [] (pieces ∷ lines) = ⊥
Lined (r ∷ rows) [] = ⊥
Lined (r ∷ rows) (pieces ∷ lines) = IsLineOf r pieces × Lined rows lines

lined-append : (rs qs : List Row) (ls ms : List Line) → Lined rs ls → Lined qs ms → Lined (rs ++ qs) (ls ++ ms)
lined-append [] qs [] ms p q = q
lined-append [] qs (l ∷ ls) ms p q = absurd p
lined-append (r ∷ rs) qs [] ms p q = absurd p
lined-append (r ∷ rs) qs (l ∷ ls) ms (here, p) q = (here, lined-append rs qs ls ms p q)

lined_map : {X : Type 0} (row : X → Row) (line : X → Line) → ((x : X) → IsLineOf (row x) (line x)) → (xs : List X) → Lined (map row xs) (map line xs)
lined_map row line one [] = tt
lined_map row line one (x ∷ xs) = (one x, lined_map row line one xs)

lined_flat : {X : Type 0} (rows : X → List Row) (lines : X → List Line) → ((x : X) → Lined (rows x) (lines x)) → (xs : List X)
    → Lined (flat_map rows xs) (flat_map lines xs)
lined_flat rows lines one [] = tt
lined_flat rows lines one (x ∷ xs) = lined-append (rows x) (flat_map rows xs) (lines x) (flat_map lines xs) (one x) (lined_flat rows lines one xs)

lined_each : {X : Type 0} (rows : X → List Row) (lines : ℕ → X → List Line) → ((n : ℕ) (x : X) → Lined (rows x) (lines n x)) → (n : ℕ) (xs : List X)
    → Lined (flat_map rows xs) (each_lines n lines xs)
lined_each rows lines one n [] = tt
lined_each rows lines one n (x ∷ xs) =
    lined-append (rows x) (flat_map rows xs) (lines n x) (each_lines (n + 1) lines xs) (one n x) (lined_each rows lines one (n + 1) xs)

lined_raw : (bytes : List ℕ) → Lined (extension_rows bytes) (raw_lines (codes "extension") bytes)
lined_raw [] = tt
lined_raw (b ∷ bytes) = ((0, inl refl), tt)

lined_environment : (bytes : List ℕ) → Lined (environment_rows bytes) (raw_lines (codes "environment") bytes)
lined_environment [] = tt
lined_environment (b ∷ bytes) = ((0, inl refl), tt)

-- what a section's line has after its name, in the order of its pieces
section_end : (a b c d e f g : List Piece) → ((((((a ++ b) ++ c) ++ d) ++ e) ++ f) ++ g) ≡ a ++ (b ++ (c ++ (d ++ (e ++ (f ++ g)))))
section_end a b c d e f g = simp append_assoc

pub section_line_is : (n : ℕ) (s : Section) → section_pieces n s ≡ line_of n (section_row s)
section_line_is n s = ap (λ l. words (codes "section") ++ (gap ∷ position n ∷ gap ∷ name s.name ∷ gap ∷ l))
    (section_end (words (type_letters s.absolute)) (words (purpose_letter s.purpose)) (words (codes " size ")) (figure MOST_NUMBER s.size ∷ [])
    (words (codes " align ")) (figure MOST_NUMBER s.align ∷ []) (base_pieces s.base))

lined_sections : (n : ℕ) (xs : List Section) → Lined (map section_row xs) (each_lines n section_lines xs)
lined_sections n [] = tt
lined_sections n (x ∷ xs) = ((n, inl (section_line_is n x)), lined_sections (n + 1) xs)

lined_notes : (notes : List Note) → Lined (map note_row notes) (map note_line notes)
lined_notes = lined_map note_row note_line (λ note. (0, inl refl))

lined_public : (n : ℕ) (p : Public) → Lined (public_rows p) (public_lines n p)
lined_public n p = ((n, inl refl), lined_notes p.notes)

lined_reference : (n : ℕ) (r : Reference) → Lined (reference_rows r) (reference_lines n r)
lined_reference n r = ((n, inl refl), lined_notes r.notes)

mark_line_is : (d n : ℕ) (mark : DebugMark) → IsLineOf (mark_row mark) (mark_pieces d n mark)
mark_line_is d n (block_begin head title) = (n, inr (d + 1, refl))
mark_line_is d n (block_end None) = (n, inl refl)
mark_line_is d n (block_end (Some value)) = (n, inl refl)
mark_line_is d n (name_mark title) = (n, inl refl)
mark_line_is d n (note_mark place note) = (n, inl refl)
mark_line_is d n (value_mark place value) = (n, inl refl)

lined_marks : (d n : ℕ) (marks : List DebugMark) → Lined (map mark_row marks) (mark_lines d n marks)
lined_marks d n [] = tt
lined_marks d n (mark ∷ marks) = (mark_line_is d n mark, lined_marks (open_after d mark) (names_after n mark) marks)

item_line_is : (item : Item) → IsLineOf (item_row item) (item_pieces item)
item_line_is (Literal []) = (0, inl refl)
item_line_is (Literal (b ∷ bytes)) = (length (b ∷ bytes), inl refl)
item_line_is (Field kinds.Signed size value) = (0, inl refl)
item_line_is (Field kinds.Unsigned size value) = (0, inl refl)
item_line_is (Field kinds.Either size value) = (0, inl refl)

lined_load : (load : Load) → Lined (load_rows load) (load_lines load)
lined_load (SetSection n) = ((0, inl refl), tt)
lined_load (SetPc n value) = ((0, inl refl), tt)
lined_load (One item) = (item_line_is item, tt)
lined_load (Repeat times items) = (
  (0, inl refl),
  lined-append (map item_row items) ((on_end, None) ∷ []) (map item_pieces items) (words (codes "end") ∷ [])
      (lined_map item_row item_pieces item_line_is items) ((0, inl refl), tt),
)

lined_start : (start : Option Tree) → Lined (start_rows start) (start_lines start)
lined_start None = tt
lined_start (Some value) = ((0, inl refl), tt)

pub lines_nested : (a b c d e f g h i : List Line) → (((((((a ++ b) ++ c) ++ d) ++ e) ++ f) ++ g) ++ h) ++ i
    ≡ a ++ (b ++ (c ++ (d ++ (e ++ (f ++ (g ++ (h ++ i)))))))
lines_nested a b c d e f g h i = simp append_assoc

pub listing_lined : (m : Parts) → Lined (rows_of m) (listing_lines m)
listing_lined m =
    let ext = raw_lines (codes "extension") m.ext in
    let env = raw_lines (codes "environment") m.env in
    let sections = each_lines 0 section_lines m.sections in
    let publics = each_lines 0 public_lines m.names.publics in
    let references = each_lines 0 reference_lines m.names.references in
    let marks = mark_lines 0 0 (marks_of m.debug) in
    let loads = flat_map load_lines m.loads in
    let start = start_lines m.start in
    subst (λ (l : List Line). Lined (rows_of m) l) (sym (lines_nested (module_pieces m ∷ []) ext env sections publics references marks loads start)) (
      (0, inl refl),
      lined-append (extension_rows m.ext) (from_environment m) ext _ (lined_raw m.ext)
          (lined-append (environment_rows m.env) (from_sections m) env _ (lined_environment m.env)
          (lined-append (map section_row m.sections) (from_publics m) sections _ (lined_sections 0 m.sections)
          (lined-append (flat_map public_rows m.names.publics) (from_references m) publics _
          (lined_each public_rows public_lines lined_public 0 m.names.publics)
          (lined-append (flat_map reference_rows m.names.references) (from_marks m) references _
          (lined_each reference_rows reference_lines lined_reference 0 m.names.references)
          (lined-append (map mark_row (marks_of m.debug)) (from_loads m) marks _ (lined_marks 0 0 (marks_of m.debug))
          (lined-append (flat_map load_rows m.loads) (start_rows m.start) loads start (lined_flat load_rows load_lines lined_load m.loads)
          (lined_start m.start))))))),
    )

row_spelled : (r : Row) (pieces : Line) (s : Text) → IsLineOf r pieces → Spells loose pieces s → SpellsRow r s
row_spelled r pieces s (n, inl e) spelled = (n, subst (λ (l : Line). Spells loose l s) e spelled)
row_spelled r pieces s (n, inr (d, e)) spelled =
    let (first, rest, is, none, more) = subst (λ (l : Line). Spells loose l s) e spelled in
    (n, subst (λ (t : Text). Spells loose (line_of n r) t) (sym (is ∙ ap (λ l. l ++ rest) none)) more)

no_rows : (rows : List Row) (lines : List Line) → Lined rows lines → lines ≡ [] → rows ≡ []
no_rows [] lines p e = refl
no_rows (r ∷ rows) [] p e = absurd p
no_rows (r ∷ rows) (l ∷ lines) p e = cc

pub rows_spelled : (rows : List Row) (lines : List Line) (text : Text) → Lined rows lines → SpellsLines loose lines text → SpellsRows rows text
rows_spelled [] [] text p spelled = spelled
rows_spelled [] (l ∷ lines) text p spelled = absurd p
rows_spelled (r ∷ rows) [] text p spelled = absurd p
rows_spelled (r ∷ rows) (l ∷ lines) text (here, p) (before, body, after, rest, is, blank, spelled, spaces, inl (e, none)) =
    (before, body, after, rest, is, blank, row_spelled r l body here spelled, spaces, inl (e, no_rows rows lines p none))
rows_spelled (r ∷ rows) (l ∷ lines) text (here, p) (before, body, after, rest, is, blank, spelled, spaces, inr (more, e, others)) =
    (before, body, after, rest, is, blank, row_spelled r l body here spelled, spaces, inr (more, e, rows_spelled rows lines more p others))
