-- The text of runs is read back as these runs.
use Rattle.std.proofs.Common.{◌≡◌, ℕ, suc, ◌+◌, ◌^◌, ◌<◌, ◌≤◌, List, [], ◌∷◌, ◌++◌, length, map, flat_map, Option, Some, None, false, refl, sym, ◌∙◌}
use Rattle.std.proofs.Common.{ap, subst, arith, append_assoc}
use Rattle.std.specs.Prelude.{◌==◌, ◌↔◌, filter, option_map, Contains, if◌then◌else◌}
use Rattle.std.specs.List.{All, AllByRecursion}
use Rattle.std.proofs.lemmas.Grind.{flat_map-append}
use Rattle.std.proofs.lemmas.List.Elements.{All-nil, All-cons, All-from_recursion}
use Rattle.std.proofs.lemmas.List.Splits.{slice_split_none}
use Rattle.std.proofs.Math.Nat.{pow-le-pow_right}
use Rattle.mufom_numbers.specs.Spelling.{AreBytes}
use Rattle.mufom_meaning.specs.declared.located.Run.{Run}
use Rattle.mufom_meaning.specs.AddressMap.{Cell, cells_from, run_cells, AreApart}
use Rattle.mufom_meaning.specs.Facts.{loaded_twice}
use Rattle.mufom_meaning.specs.Walk.{has_number, first_twice}
use Rattle.mufom_meaning.proofs.locations.CellRuns.{AreRising, run_cells-rise, rows_are_single}
use Rattle.mufom_image_bytes.specs.Chunks.{cell_addresses}
use Rattle.mufom_image_bytes.proofs.ChunkLaws.{cells_from-append}
use Rattle.mufom_titxt.specs.Lines.{Line, blank_line, address_line, byte_line, end_line, lines_of, has_bytes, line_of, line_of_words}
use Rattle.mufom_titxt.specs.Texts.{cells_of_lines, AreInside, txt_cells, TxtMap, IsTxtOf}
use Rattle.mufom_titxt.specs.TextModules.{EndBelow, HaveText}
use Rattle.mufom_titxt.specs.Written.{address_digits, run_text, end_text, txt_text}
use Rattle.mufom_titxt.proofs.DigitLaws.{address_high, address_back}
use Rattle.mufom_titxt.proofs.LineTexts.{IsLineText, ended, lines_back, row_text, row_line, row_states, rows_at, rows_text, rows_good, rows_whole, IsRow}
use Rattle.mufom_titxt.proofs.MapLaws.{map_is_accepted, map_cells}

-- ---- the lines of a run

-- their texts
abbrev run_lines : Run → List (List ℕ)
run_lines run = (64 ∷ address_digits run.address) ∷ map row_text (rows_at 0 run.bytes)

-- what they state
abbrev stated_lines : Run → List Line
stated_lines run = address_line run.address ∷ map byte_line (rows_at 0 run.bytes)

run_text_lines : (run : Run) → run_text run.address run.bytes ≡ flat_map ended (run_lines run)
run_text_lines run =
    ap (λ (text : List ℕ). 64 ∷ (address_digits run.address ++ 10 ∷ text)) (rows_text run.bytes 0)
    ∙ sym (ap (λ (text : List ℕ). 64 ∷ text) (append_assoc (address_digits run.address) (10 ∷ []) (flat_map ended (map row_text (rows_at 0 run.bytes)))))

-- the address
address_text : (a : ℕ) → IsLineText (64 ∷ address_digits a)
address_text a = (omega arith, lower (address_digits a) (address_high a)) where
  lower : (digits : List ℕ) → AllByRecursion (λ c. 48 ≤ c) digits → IsLineText digits
  lower [] h = tt
  lower (c ∷ digits) h = (omega (arith, h.0), lower digits h.1)

address_unspaced : (digits : List ℕ) → AllByRecursion (λ c. 48 ≤ c) digits → AllByRecursion (λ c. (c == 32) ≡ false) digits
address_unspaced [] h = tt
address_unspaced (c ∷ digits) h = (grind (arith, h.0), address_unspaced digits h.1)

address_states : (a : ℕ) → a < 2 ^ 64 → line_of (64 ∷ address_digits a) ≡ Some (address_line a)
address_states a fits =
    let digits : List ℕ = 64 ∷ address_digits a in
    let unspaced = All-from_recursion (λ (c : ℕ). (c == 32) ≡ false) digits (refl, address_unspaced (address_digits a) (address_high a)) in
    ap (λ words. line_of_words (filter has_bytes words)) (slice_split_none (λ c. c == 32) digits unspaced)
    ∙ ap (option_map address_line) (address_back a fits)

-- ---- the lines of all runs

rows_are_lines : (rows : List (List ℕ)) → AllByRecursion IsRow rows → (more : List (List ℕ)) → AllByRecursion IsLineText more
    → AllByRecursion IsLineText (map row_text rows ++ more)
rows_are_lines [] h more later = later
rows_are_lines (row ∷ rows) h more later = (row_line row h.0.1, rows_are_lines rows h.1 more later)

rows_state : (rows : List (List ℕ)) → AllByRecursion IsRow rows → (more : List (List ℕ)) (lines : List Line) → map line_of more ≡ map (λ line. Some line) lines
    → map line_of (map row_text rows ++ more) ≡ map (λ line. Some line) (map byte_line rows ++ lines)
rows_state [] h more lines e = e
rows_state (row ∷ rows) h more lines e = λ i. row_states row h.0.0 h.0.1 i ∷ rows_state rows h.1 more lines e i

-- the texts of all lines
abbrev all_lines : List Run → List (List ℕ)
all_lines runs = flat_map run_lines runs ++ (113 ∷ []) ∷ []

txt_text_lines : (runs : List Run) → txt_text runs ≡ flat_map ended (all_lines runs)
txt_text_lines [] = refl
txt_text_lines (run ∷ runs) =
    append_assoc (run_text run.address run.bytes) (flat_map (λ run. run_text run.address run.bytes) runs) end_text
    ∙ ((λ i. run_text_lines run i ++ txt_text_lines runs i)
    ∙ (sym (flat_map-append ended (run_lines run) (all_lines runs))
    ∙ ap (flat_map ended) (sym (append_assoc (run_lines run) (flat_map run_lines runs) ((113 ∷ []) ∷ [])))))

all_are_lines : (runs : List Run) → AllByRecursion (λ run. AreBytes run.bytes) runs → AllByRecursion IsLineText (all_lines runs)
all_are_lines [] h = ((omega arith, tt), tt)
all_are_lines (run ∷ runs) h =
    subst (AllByRecursion IsLineText) (sym (append_assoc (run_lines run) (flat_map run_lines runs) ((113 ∷ []) ∷ [])))
    (address_text run.address, rows_are_lines (rows_at 0 run.bytes) (rows_good run.bytes 0 h.0) (all_lines runs) (all_are_lines runs h.1))

all_state : (width from : ℕ) (runs : List Run) → 2 ^ width ≤ 2 ^ 64 → EndBelow width runs → AreApart from runs → AllByRecursion (λ run. AreBytes run.bytes) runs
    → map line_of (all_lines runs ++ [] ∷ []) ≡ map (λ line. Some line) (flat_map stated_lines runs ++ end_line ∷ blank_line ∷ [])
all_state width from [] narrow below apart h = refl
all_state width from (run ∷ runs) narrow below apart h =
    let rows : List (List ℕ) = rows_at 0 run.bytes in
    let fits : run.address < 2 ^ 64 = omega (arith, narrow, below.0, apart.1) in
    let later = all_state width (run.address + length run.bytes + 1) runs narrow below.1 apart.2 h.1 in
    let texts : all_lines (run ∷ runs) ++ [] ∷ [] ≡ run_lines run ++ (all_lines runs ++ [] ∷ [])
    = ap (λ (l : List (List ℕ)). l ++ [] ∷ []) (append_assoc (run_lines run) (flat_map run_lines runs) ((113 ∷ []) ∷ []))
    ∙ append_assoc (run_lines run) (all_lines runs) ([] ∷ []) in
    let lines = append_assoc (stated_lines run) (flat_map stated_lines runs) (end_line ∷ blank_line ∷ []) in
    ap (map line_of) texts
    ∙ ((λ i. address_states run.address fits i ∷ rows_state rows (rows_good run.bytes 0 h.0) (all_lines runs ++ [] ∷ []) (flat_map stated_lines runs
    ++ end_line ∷ blank_line ∷ []) later i)
    ∙ ap (map (λ line. Some line)) (sym lines))

-- ---- what the lines give

rows_inside : (rows : List (List ℕ)) (lines : List Line) → ((next : Option ℕ) → AreInside next lines) → (at : ℕ)
    → AreInside (Some at) (map byte_line rows ++ lines)
rows_inside [] lines later at = later (Some at)
rows_inside (row ∷ rows) lines later at = (tt, rows_inside rows lines later (at + length row))

all_inside : (runs : List Run) (next : Option ℕ) → AreInside next (flat_map stated_lines runs)
all_inside [] next = tt
all_inside (run ∷ runs) next = (tt, rows_inside (rows_at 0 run.bytes) (flat_map stated_lines runs) (all_inside runs) run.address)

rows_cells : (rows : List (List ℕ)) (lines : List Line) (cells : List Cell) → ((next : Option ℕ) → cells_of_lines next lines ≡ cells) → (at : ℕ)
    → cells_of_lines (Some at) (map byte_line rows ++ lines) ≡ cells_from at (flat_map (λ row. row) rows) ++ cells
rows_cells [] lines cells later at = later (Some at)
rows_cells (row ∷ rows) lines cells later at =
    ap (λ (l : List Cell). cells_from at row ++ l) (rows_cells rows lines cells later (at + length row))
    ∙ (sym (append_assoc (cells_from at row) (cells_from (at + length row) (flat_map (λ row. row) rows)) cells)
    ∙ ap (λ (l : List Cell). l ++ cells) (sym (cells_from-append at row (flat_map (λ row. row) rows))))

all_cells : (runs : List Run) (next : Option ℕ) → cells_of_lines next (flat_map stated_lines runs) ≡ run_cells runs
all_cells [] next = refl
all_cells (run ∷ runs) next =
    rows_cells (rows_at 0 run.bytes) (flat_map stated_lines runs) (run_cells runs) (all_cells runs) run.address
    ∙ ap (λ bytes. cells_from run.address bytes ++ run_cells runs) (rows_whole run.bytes 0)

-- ---- the addresses

-- rising addresses are below the end of the address space
cells_low : (width a : ℕ) (bytes : List ℕ) (more : List Cell) → a + length bytes ≤ 2 ^ width → All (λ a. a < 2 ^ width) (cell_addresses more)
    → All (λ a. a < 2 ^ width) (cell_addresses (cells_from a bytes ++ more))
cells_low width a [] more end h = h
cells_low width a (b ∷ bytes) more end h =
    All-cons (λ (a : ℕ). a < 2 ^ width) a (cell_addresses (cells_from (suc a) bytes ++ more)) (omega (arith, end))
    (cells_low width (suc a) bytes more (omega (arith, end)) h)

pub runs_low : (width : ℕ) (runs : List Run) → EndBelow width runs → All (λ a. a < 2 ^ width) (cell_addresses (run_cells runs))
runs_low width [] below = All-nil (λ (a : ℕ). a < 2 ^ width)
runs_low width (run ∷ runs) below = cells_low width run.address run.bytes (run_cells runs) below.0 (runs_low width runs below.1)

-- rising addresses occur once
rising_once : (from : ℕ) (cells : List Cell) (earlier : List ℕ) → AreRising from cells → ((m : ℕ) → from ≤ m → has_number earlier m ≡ false)
    → first_twice earlier (cell_addresses cells) ≡ None
rising_once from [] earlier h none = refl
rising_once from (cell ∷ cells) earlier h none =
    ap (λ b. if b then Some (loaded_twice cell.0) else first_twice (cell.0 ∷ earlier) (cell_addresses cells)) (none cell.0 h.0)
    ∙ rising_once (suc cell.0) cells (cell.0 ∷ earlier) h.1 above where
      above : (m : ℕ) → suc cell.0 ≤ m → has_number (cell.0 ∷ earlier) m ≡ false
      above m less =
          let other : (cell.0 == m) ≡ false = grind (arith, less) in
          let absent : has_number earlier m ≡ false = none m (omega (arith, less, h.0)) in rw (other, absent) refl

-- ---- the text

pub written_map : (width : ℕ) (runs : List Run) → HaveText width runs → TxtMap (txt_text runs) width (run_cells runs)
written_map width runs h =
    let narrow : 2 ^ width ≤ 2 ^ 64 = pow-le-pow_right {n = 2} (omega arith) {i = width} {j = 64} h.narrow in record {
      lines = flat_map stated_lines runs;
      blanks = 1;
      stated = ap (map line_of) (ap lines_of (txt_text_lines runs) ∙ lines_back (all_lines runs) (all_are_lines runs h.bytes))
          ∙ all_state width 0 runs narrow h.below h.apart h.bytes;
      inside = all_inside runs None;
      given = sym (all_cells runs None);
      below = runs_low width runs h.below;
      once = rising_once 0 (run_cells runs) [] (run_cells-rise 0 runs h.apart) (λ m less. refl);
    }

-- the text has the runs
pub written_is_read : (width : ℕ) (runs : List Run) → HaveText width runs → IsTxtOf (txt_text runs) width runs
written_is_read width runs h =
    let m = written_map width runs h in record {
      accepted = map_is_accepted (txt_text runs) width (run_cells runs) m;
      rows = record { apart = h.apart; same = λ cell. same cell (map_cells (txt_text runs) width (run_cells runs) m) };
    } where
      same : (cell : Cell) → txt_cells (txt_text runs) ≡ run_cells runs → Contains (txt_cells (txt_text runs)) cell ↔ Contains (run_cells runs) cell
      same cell e = (subst (λ cells. Contains cells cell) e, subst (λ cells. Contains cells cell) (sym e))

-- and no others
pub text_is_single : (text : List ℕ) (width : ℕ) (runs other : List Run) → IsTxtOf text width runs → IsTxtOf text width other → other ≡ runs
text_is_single text width runs other h k = rows_are_single (txt_cells text) other runs k.rows h.rows
