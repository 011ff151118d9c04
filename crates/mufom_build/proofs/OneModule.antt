-- What lines state determines the parts of a module.
use Rattle.std.proofs.Common.{◌≡◌, ℕ, ◌≤◌, nat_le, Bool, true, false, List, [], ◌∷◌, ◌++◌, map, flat_map, Option, Some, None}
use Rattle.std.proofs.Common.{refl, sym, ap, ◌∙◌, append_assoc, arith}
use Rattle.mufom_expr.specs.Tree.{Tree}
use Rattle.mufom_sections.specs.declared.section.Section.{Section}
use Rattle.mufom_names.specs.declared.name.Note.{Note}
use Rattle.mufom_names.specs.declared.name.Weak.{Weak}
use Rattle.mufom_names.specs.declared.name.Public.{Public}
use Rattle.mufom_names.specs.declared.name.Reference.{Reference}
use Rattle.mufom_loads.specs.declared.load.Item.{Item}
use Rattle.mufom_loads.specs.declared.load.Item.TheVariants.{Literal, Field}
use Rattle.mufom_loads.specs.declared.load.Load.{Load}
use Rattle.mufom_loads.specs.declared.load.Load.TheVariants.{SetSection, SetPc, One, Repeat}
use Rattle.mufom_debug.specs.Marks.{DebugMark, block_begin, block_end, name_mark, note_mark, value_mark, marks_of}
use Rattle.mufom_debug.proofs.Rebuilt.{same_items}
use Rattle.mufom_module.specs.declared.module.Order.{Order}
use Rattle.mufom_module.specs.declared.module.Parts.{Parts}
use Rattle.mufom_text.specs.Words.{Text}
use Rattle.mufom_build_text.specs.Pieces.{loose}
use Rattle.mufom_build_text.specs.Places.{SpellsLines}
use Rattle.mufom_build.specs.Lines.{listing_lines}
use Rattle.mufom_build_text.proofs.FirstBytes.{no}
use Rattle.mufom_build.proofs.OneLine.{unlike}
use Rattle.mufom_build.proofs.OneText.{one_rows}
use Rattle.mufom_build.proofs.OneListing.{listing_lined, rows_spelled}
use Rattle.mufom_build.specs.Rows.{on_module, on_extension, on_environment, on_section, on_public, on_note, on_reference, on_block}
use Rattle.mufom_build.specs.Rows.{on_end, on_name, on_value, on_select, on_counter, on_bytes, on_field, on_repeat, on_start, Row}
use Rattle.mufom_build.specs.Rows.{extension_rows, environment_rows, section_row, note_row, public_row, reference_row, named_rows}
use Rattle.mufom_build.specs.Rows.{public_rows, reference_rows, mark_row, item_row, load_rows, start_rows, from_loads, from_marks}
use Rattle.mufom_build.specs.Rows.{from_references, from_publics, from_sections, from_environment, rows_of}

-- ---- in which order rows come

-- the part of a listing in which a line may be the first: notes of a name are in their name's
abbrev rank : Row → ℕ
rank (on_module, p) = 0
rank (on_extension, p) = 1
rank (on_environment, p) = 2
rank (on_section, p) = 3
rank (on_public, p) = 5
rank (on_note, (None, note)) = 4
rank (on_note, (Some n, note)) = 7
rank (on_reference, p) = 6
rank (on_block, p) = 7
rank (on_end, p) = 7
rank (on_name, p) = 7
rank (on_value, p) = 7
rank (on_select, p) = 8
rank (on_counter, p) = 8
rank (on_bytes, p) = 8
rank (on_field, p) = 8
rank (on_repeat, p) = 8
rank (on_start, p) = 9

-- the first row passes the test, where there is one
abbrev begins : (Row → Bool) → List Row → Bool
begins test [] = true
begins test (r ∷ rows) = test r

abbrev from_rank : ℕ → Row → Bool
from_rank n r = nat_le n (rank r)

later : (m n k : ℕ) → m ≤ n → nat_le n k ≡ true → nat_le m k ≡ true
later m n k small h = grind arith

begins_later : (m n : ℕ) (rows : List Row) → m ≤ n → begins (from_rank n) rows ≡ true → begins (from_rank m) rows ≡ true
begins_later m n [] small h = refl
begins_later m n (r ∷ rows) small h = later m n (rank r) small h

no_such : (test : Row → Bool) (r : Row) (more rest : List Row) → begins test more ≡ true → test r ≡ false → more ≡ r ∷ rest → ⊥
no_such test r more rest h f e = no (sym f ∙ sym (ap (begins test) e) ∙ h)

-- ---- rows of one kind

inside_some : {X : Type 0} (x y : X) → Some x ≡ Some y → x ≡ y
inside_some x y e = cc

-- rows that their entries determine, up to a row that passes the test
one_phase : {X : Type 0} (row : X → Row) (back : Row → Option X) → ((x : X) → back (row x) ≡ Some x) → (test : Row → Bool)
    → ((x : X) → test (row x) ≡ false) → (xs ys : List X) (more other : List Row) → begins test more ≡ true → begins test other ≡ true
    → map row xs ++ more ≡ map row ys ++ other → (xs ≡ ys) × (more ≡ other)
one_phase row back given test low [] [] more other g h e = (refl, e)
one_phase row back given test low [] (y ∷ ys) more other g h e = absurd (no_such test (row y) more _ g (low y) e)
one_phase row back given test low (x ∷ xs) [] more other g h e = absurd (no_such test (row x) other _ h (low x) (sym e))
one_phase row back given test low (x ∷ xs) (y ∷ ys) more other g h e =
    let first : row x ≡ row y = cc in
    let rest : map row xs ++ more ≡ map row ys ++ other = cc in
    let (same, left) = one_phase row back given test low xs ys more other g h rest in
    let here = inside_some x y (sym (given x) ∙ ap back first ∙ given y) in
    (ap (λ z. z ∷ xs) here ∙ ap (λ l. y ∷ l) same, left)

abbrev section_in : Row → Option Section
section_in (on_section, s) = Some s
section_in _ = None

abbrev note_in : Row → Option Note
note_in (on_note, (None, note)) = Some note
note_in _ = None

abbrev mark_in : Row → Option DebugMark
mark_in (on_block, (head, title)) = Some (block_begin head title)
mark_in (on_end, end) = Some (block_end end)
mark_in (on_name, title) = Some (name_mark title)
mark_in (on_note, (Some n, note)) = Some (note_mark n note)
mark_in (on_value, (n, value)) = Some (value_mark n value)
mark_in _ = None

abbrev item_in : Row → Option Item
item_in (on_bytes, bytes) = Some (Literal bytes)
item_in (on_field, (kind, size, value)) = Some (Field kind size value)
item_in _ = None

mark_given : (mark : DebugMark) → mark_in (mark_row mark) ≡ Some mark
mark_given (block_begin head title) = refl
mark_given (block_end end) = refl
mark_given (name_mark title) = refl
mark_given (note_mark n note) = refl
mark_given (value_mark n value) = refl

mark_low : (mark : DebugMark) → from_rank 8 (mark_row mark) ≡ false
mark_low (block_begin head title) = refl
mark_low (block_end end) = refl
mark_low (name_mark title) = refl
mark_low (note_mark n note) = refl
mark_low (value_mark n value) = refl

item_given : (item : Item) → item_in (item_row item) ≡ Some item
item_given (Literal bytes) = refl
item_given (Field kind size value) = refl

-- the row is the end of a repeat
abbrev is_end : Row → Bool
is_end (on_end, end) = true
is_end _ = false

item_goes_on : (item : Item) → is_end (item_row item) ≡ false
item_goes_on (Literal bytes) = refl
item_goes_on (Field kind size value) = refl

-- ---- names with notes

named_first : {X : Type 0} (row : X → Row) (notes : X → List Note) (n : ℕ) → 5 ≤ n → ((x : X) → from_rank 5 (row x) ≡ true)
    → (xs : List X) (more : List Row)
    → begins (from_rank n) more ≡ true → begins (from_rank 5) (flat_map (named_rows row notes) xs ++ more) ≡ true
named_first row notes n small high [] more h = begins_later 5 n more small h
named_first row notes n small high (x ∷ xs) more h = high x

one_named : {X : Type 0} (row : X → Row) (notes : X → List Note) → ((x y : X) → row x ≡ row y → notes x ≡ notes y → x ≡ y) → (n : ℕ) → 5 ≤ n
    → ((x : X) → from_rank 5 (row x) ≡ true) → ((x : X) → from_rank n (row x) ≡ false) → (xs ys : List X) (more other : List Row)
    → begins (from_rank n) more ≡ true → begins (from_rank n) other ≡ true
    → flat_map (named_rows row notes) xs ++ more ≡ flat_map (named_rows row notes) ys ++ other → (xs ≡ ys) × (more ≡ other)
one_named row notes same n small high low [] [] more other g h e = (refl, e)
one_named row notes same n small high low [] (y ∷ ys) more other g h e = absurd (no_such (from_rank n) (row y) more _ g (low y) e)
one_named row notes same n small high low (x ∷ xs) [] more other g h e = absurd (no_such (from_rank n) (row x) other _ h (low x) (sym e))
one_named row notes same n small high low (x ∷ xs) (y ∷ ys) more other g h e =
    let inner = map note_row (notes x) in
    let second = map note_row (notes y) in
    let left = flat_map (named_rows row notes) xs in
    let right = flat_map (named_rows row notes) ys in
    let first : row x ≡ row y = cc in
    let rest : (inner ++ left) ++ more ≡ (second ++ right) ++ other = cc in
    let nested = sym (append_assoc inner left more) ∙ rest ∙ append_assoc second right other in
    let (noted, remain) = one_phase note_row note_in (λ note. refl) (from_rank 5) (λ note. refl) (notes x) (notes y) (left ++ more) (right ++ other)
    (named_first row notes n small high xs more g) (named_first row notes n small high ys other h) nested in
    let (others, ends) = one_named row notes same n small high low xs ys more other g h remain in
    (ap (λ z. z ∷ xs) (same x y first noted) ∙ ap (λ l. y ∷ l) others, ends)

abbrev named_in : Row → Option (List ℕ × Tree)
named_in (on_public, p) = Some p
named_in _ = None

abbrev weak_in : Row → Option (List ℕ × Option Weak)
weak_in (on_reference, p) = Some p
weak_in _ = None

same_public : (x y : Public) → public_row x ≡ public_row y → x.notes ≡ y.notes → x ≡ y
same_public x y e f =
    let same = inside_some _ _ (ap named_in e) in λ i. record { name = (same i).0; value = (same i).1; notes = f i }

same_reference : (x y : Reference) → reference_row x ≡ reference_row y → x.notes ≡ y.notes → x ≡ y
same_reference x y e f =
    let same = inside_some _ _ (ap weak_in e) in λ i. record { name = (same i).0; weak = (same i).1; notes = f i }

-- ---- loads

abbrev kind_of_row : Row → ℕ
kind_of_row (on_select, p) = 0
kind_of_row (on_counter, p) = 1
kind_of_row (on_bytes, p) = 2
kind_of_row (on_field, p) = 2
kind_of_row (on_repeat, p) = 3
kind_of_row _ = 4

abbrev kind_of_load : Load → ℕ
kind_of_load (SetSection n) = 0
kind_of_load (SetPc n value) = 1
kind_of_load (One item) = 2
kind_of_load (Repeat times items) = 3

abbrev first_kind : List Row → ℕ
first_kind [] = 4
first_kind (r ∷ rows) = kind_of_row r

load_kind : (load : Load) (more : List Row) → first_kind (load_rows load ++ more) ≡ kind_of_load load
load_kind (SetSection n) more = refl
load_kind (SetPc n value) more = refl
load_kind (One (Literal bytes)) more = refl
load_kind (One (Field kind size value)) more = refl
load_kind (Repeat times items) more = refl

abbrev select_in : Row → Option ℕ
select_in (on_select, n) = Some n
select_in _ = None

abbrev counter_in : Row → Option (ℕ × Tree)
counter_in (on_counter, p) = Some p
counter_in _ = None

abbrev repeat_in : Row → Option ℕ
repeat_in (on_repeat, n) = Some n
repeat_in _ = None

abbrev SameLoad : Load → Load → List Row → List Row → Type 0
SameLoad a b more other = (a ≡ b) × (more ≡ other)

one_load : (a b : Load) (more other : List Row) → load_rows a ++ more ≡ load_rows b ++ other → SameLoad a b more other
one_load a b more other e = by_kind a b (sym (load_kind a more) ∙ ap first_kind e ∙ load_kind b other) e
  where
    by_kind : (a b : Load) → kind_of_load a ≡ kind_of_load b → load_rows a ++ more ≡ load_rows b ++ other → SameLoad a b more other
    by_kind (SetSection m) (SetSection n) k e =
        let first : ◌≡◌ {A = Row} (on_select, m) (on_select, n) = cc in
        (ap SetSection (inside_some m n (ap select_in first)), cc)
    by_kind (SetPc m v) (SetPc n w) k e =
        let first : ◌≡◌ {A = Row} (on_counter, (m, v)) (on_counter, (n, w)) = cc in
        let same = inside_some _ _ (ap counter_in first) in
        (λ i. SetPc (same i).0 (same i).1, cc)
    by_kind (One x) (One y) k e =
        let first : item_row x ≡ item_row y = cc in
        (ap One (inside_some x y (sym (item_given x) ∙ ap item_in first ∙ item_given y)), cc)
    by_kind (Repeat m xs) (Repeat n ys) k e =
        let end : Row = (on_end, None) in
        let first : ◌≡◌ {A = Row} (on_repeat, m) (on_repeat, n) = cc in
        let rest : (map item_row xs ++ end ∷ []) ++ more ≡ (map item_row ys ++ end ∷ []) ++ other = cc in
        let nested = sym (append_assoc (map item_row xs) (end ∷ []) more) ∙ rest ∙ append_assoc (map item_row ys) (end ∷ []) other in
        let (same, ends) = one_phase item_row item_in item_given is_end item_goes_on xs ys (end ∷ more) (end ∷ other) refl refl nested in
        let times = inside_some m n (ap repeat_in first) in
        (λ i. Repeat (times i) (same i), cc)
    by_kind (SetSection m) (SetPc n w) k e = absurd (unlike 0 1 refl k)
    by_kind (SetSection m) (One y) k e = absurd (unlike 0 2 refl k)
    by_kind (SetSection m) (Repeat n ys) k e = absurd (unlike 0 3 refl k)
    by_kind (SetPc m v) (SetSection n) k e = absurd (unlike 1 0 refl k)
    by_kind (SetPc m v) (One y) k e = absurd (unlike 1 2 refl k)
    by_kind (SetPc m v) (Repeat n ys) k e = absurd (unlike 1 3 refl k)
    by_kind (One x) (SetSection n) k e = absurd (unlike 2 0 refl k)
    by_kind (One x) (SetPc n w) k e = absurd (unlike 2 1 refl k)
    by_kind (One x) (Repeat n ys) k e = absurd (unlike 2 3 refl k)
    by_kind (Repeat m xs) (SetSection n) k e = absurd (unlike 3 0 refl k)
    by_kind (Repeat m xs) (SetPc n w) k e = absurd (unlike 3 1 refl k)
    by_kind (Repeat m xs) (One y) k e = absurd (unlike 3 2 refl k)

-- a load's first row is below 9
load_begins : (load : Load) (more rest : List Row) → begins (from_rank 9) more ≡ true → more ≡ load_rows load ++ rest → ⊥
load_begins (SetSection n) more rest h e = no_such (from_rank 9) _ more _ h refl e
load_begins (SetPc n value) more rest h e = no_such (from_rank 9) _ more _ h refl e
load_begins (One (Literal bytes)) more rest h e = no_such (from_rank 9) _ more _ h refl e
load_begins (One (Field kind size value)) more rest h e = no_such (from_rank 9) _ more _ h refl e
load_begins (Repeat times items) more rest h e = no_such (from_rank 9) _ more _ h refl e

one_loads : (xs ys : List Load) (more other : List Row) → begins (from_rank 9) more ≡ true → begins (from_rank 9) other ≡ true
    → flat_map load_rows xs ++ more ≡ flat_map load_rows ys ++ other → (xs ≡ ys) × (more ≡ other)
one_loads [] [] more other g h e = (refl, e)
one_loads [] (y ∷ ys) more other g h e = absurd (load_begins y more _ g (e ∙ append_assoc (load_rows y) (flat_map load_rows ys) other))
one_loads (x ∷ xs) [] more other g h e = absurd (load_begins x other _ h (sym e ∙ append_assoc (load_rows x) (flat_map load_rows xs) more))
one_loads (x ∷ xs) (y ∷ ys) more other g h e =
    let nested = sym (append_assoc (load_rows x) (flat_map load_rows xs) more) ∙ e ∙ append_assoc (load_rows y) (flat_map load_rows ys) other in
    let (first, rest) = one_load x y (flat_map load_rows xs ++ more) (flat_map load_rows ys ++ other) nested in
    let (others, ends) = one_loads xs ys more other g h rest in
    (ap (λ z. z ∷ xs) first ∙ ap (λ l. y ∷ l) others, ends)

abbrev start_in : Row → Option Tree
start_in (on_start, value) = Some value
start_in _ = None

one_start : (a b : Option Tree) → start_rows a ≡ start_rows b → a ≡ b
one_start None None e = refl
one_start None (Some w) e = cc
one_start (Some v) None e = cc
one_start (Some v) (Some w) e =
    let first : ◌≡◌ {A = Row} (on_start, v) (on_start, w) = cc in ap Some (inside_some v w (ap start_in first))

-- ---- parts that are kept as bytes

abbrev raw_in : Row → Option (ℕ × List ℕ)
raw_in (on_extension, p) = Some p
raw_in (on_environment, p) = Some p
raw_in _ = None

one_extension : (a b : List ℕ) (more other : List Row) → begins (from_rank 2) more ≡ true → begins (from_rank 2) other ≡ true
    → extension_rows a ++ more ≡ extension_rows b ++ other → (a ≡ b) × (more ≡ other)
one_extension [] [] more other g h e = (refl, e)
one_extension [] (y ∷ ys) more other g h e = absurd (no_such (from_rank 2) _ more _ g refl e)
one_extension (x ∷ xs) [] more other g h e = absurd (no_such (from_rank 2) _ other _ h refl (sym e))
one_extension (x ∷ xs) (y ∷ ys) more other g h e =
    let first : ◌≡◌ {A = Row} (on_extension, (x, xs)) (on_extension, (y, ys)) = cc in
    let same = inside_some _ _ (ap raw_in first) in
    (λ i. (same i).0 ∷ (same i).1, cc)

one_environment : (a b : List ℕ) (more other : List Row) → begins (from_rank 3) more ≡ true → begins (from_rank 3) other ≡ true
    → environment_rows a ++ more ≡ environment_rows b ++ other → (a ≡ b) × (more ≡ other)
one_environment [] [] more other g h e = (refl, e)
one_environment [] (y ∷ ys) more other g h e = absurd (no_such (from_rank 3) _ more _ g refl e)
one_environment (x ∷ xs) [] more other g h e = absurd (no_such (from_rank 3) _ other _ h refl (sym e))
one_environment (x ∷ xs) (y ∷ ys) more other g h e =
    let first : ◌≡◌ {A = Row} (on_environment, (x, xs)) (on_environment, (y, ys)) = cc in
    let same = inside_some _ _ (ap raw_in first) in
    (λ i. (same i).0 ∷ (same i).1, cc)

-- ---- what each part begins with

start_first : (start : Option Tree) → begins (from_rank 9) (start_rows start) ≡ true
start_first None = refl
start_first (Some value) = refl

load_first : (load : Load) (more : List Row) → begins (from_rank 8) (load_rows load ++ more) ≡ true
load_first (SetSection n) more = refl
load_first (SetPc n value) more = refl
load_first (One (Literal bytes)) more = refl
load_first (One (Field kind size value)) more = refl
load_first (Repeat times items) more = refl

loads_first : (loads : List Load) (more : List Row) → begins (from_rank 9) more ≡ true
    → begins (from_rank 8) (flat_map load_rows loads ++ more) ≡ true
loads_first [] more h = begins_later 8 9 more (omega arith) h
loads_first (load ∷ loads) more h =
    ap (begins (from_rank 8)) (append_assoc (load_rows load) (flat_map load_rows loads) more) ∙ load_first load _

marks_first : (marks : List DebugMark) (more : List Row) → begins (from_rank 8) more ≡ true → begins (from_rank 7) (map mark_row marks ++ more) ≡ true
marks_first [] more h = begins_later 7 8 more (omega arith) h
marks_first (block_begin head title ∷ marks) more h = refl
marks_first (block_end end ∷ marks) more h = refl
marks_first (name_mark title ∷ marks) more h = refl
marks_first (note_mark n note ∷ marks) more h = refl
marks_first (value_mark n value ∷ marks) more h = refl

references_first : (rs : List Reference) (more : List Row) → begins (from_rank 7) more ≡ true
    → begins (from_rank 6) (flat_map reference_rows rs ++ more) ≡ true
references_first [] more h = begins_later 6 7 more (omega arith) h
references_first (r ∷ rs) more h = refl

publics_first : (ps : List Public) (more : List Row) → begins (from_rank 6) more ≡ true
    → begins (from_rank 5) (flat_map public_rows ps ++ more) ≡ true
publics_first [] more h = begins_later 5 6 more (omega arith) h
publics_first (p ∷ ps) more h = refl

sections_first : (ss : List Section) (more : List Row) → begins (from_rank 5) more ≡ true → begins (from_rank 3) (map section_row ss ++ more) ≡ true
sections_first [] more h = begins_later 3 5 more (omega arith) h
sections_first (s ∷ ss) more h = refl

environment_first : (bytes : List ℕ) (more : List Row) → begins (from_rank 3) more ≡ true
    → begins (from_rank 2) (environment_rows bytes ++ more) ≡ true
environment_first [] more h = begins_later 2 3 more (omega arith) h
environment_first (b ∷ bytes) more h = refl

loads_begin : (m : Parts) → begins (from_rank 8) (from_loads m) ≡ true
loads_begin m = loads_first m.loads (start_rows m.start) (start_first m.start)

marks_begin : (m : Parts) → begins (from_rank 7) (from_marks m) ≡ true
marks_begin m = marks_first (marks_of m.debug) (from_loads m) (loads_begin m)

references_begin : (m : Parts) → begins (from_rank 6) (from_references m) ≡ true
references_begin m = references_first m.names.references (from_marks m) (marks_begin m)

publics_begin : (m : Parts) → begins (from_rank 5) (from_publics m) ≡ true
publics_begin m = publics_first m.names.publics (from_references m) (references_begin m)

sections_begin : (m : Parts) → begins (from_rank 3) (from_sections m) ≡ true
sections_begin m = sections_first m.sections (from_publics m) (publics_begin m)

environment_begins : (m : Parts) → begins (from_rank 2) (from_environment m) ≡ true
environment_begins m = environment_first m.env (from_sections m) (sections_begin m)

-- ---- the parts

abbrev title_in : Row → Option (List ℕ × List ℕ × ℕ × Order)
title_in (on_module, p) = Some p
title_in _ = None

abbrev title_row : Parts → Row
title_row m = (on_module, (m.name, m.processor, m.maus, m.order))

one_module : (m n : Parts) → rows_of m ≡ rows_of n → m ≡ n
one_module m n e =
    let first : title_row m ≡ title_row n = cc in
    let all : extension_rows m.ext ++ from_environment m ≡ extension_rows n.ext ++ from_environment n = cc in
    let title = inside_some _ _ (ap title_in first) in
    let (ext, a) = one_extension m.ext n.ext (from_environment m) (from_environment n) (environment_begins m) (environment_begins n) all in
    let (env, b) = one_environment m.env n.env (from_sections m) (from_sections n) (sections_begin m) (sections_begin n) a in
    let (sections, c) = one_phase section_row section_in (λ s. refl) (from_rank 5) (λ s. refl) m.sections n.sections (from_publics m) (from_publics n)
    (publics_begin m) (publics_begin n) b in
    let (publics, d) = one_named public_row (λ p. p.notes) same_public 6 (omega arith) (λ p. refl) (λ p. refl) m.names.publics n.names.publics
    (from_references m) (from_references n) (references_begin m) (references_begin n) c in
    let (references, f) = one_named reference_row (λ r. r.notes) same_reference 7 (omega arith) (λ r. refl) (λ r. refl) m.names.references
    n.names.references (from_marks m) (from_marks n) (marks_begin m) (marks_begin n) d in
    let (marks, g) = one_phase mark_row mark_in mark_given (from_rank 8) mark_low (marks_of m.debug) (marks_of n.debug) (from_loads m) (from_loads n)
    (loads_begin m) (loads_begin n) f in
    let (loads, h) = one_loads m.loads n.loads (start_rows m.start) (start_rows n.start) (start_first m.start) (start_first n.start) g in
    let debug = same_items m.debug n.debug marks in
    let start = one_start m.start n.start h in
    λ i. record {
      processor = (title i).1;
      name = (title i).0;
      maus = (title i).2;
      order = (title i).3;
      ext = ext i;
      env = env i;
      sections = sections i;
      names = record { publics = publics i; references = references i };
      debug = debug i;
      loads = loads i;
      start = start i;
    }

-- A text is the listing of one module's parts at most.
pub one_listing : (text : Text) (m n : Parts) → SpellsLines loose (listing_lines m) text → SpellsLines loose (listing_lines n) text → m ≡ n
one_listing text m n p q = one_module m n (one_rows (rows_of m) (rows_of n) text (rows_spelled (rows_of m) (listing_lines m) text (listing_lined m) p)
    (rows_spelled (rows_of n) (listing_lines n) text (listing_lined n) q))
