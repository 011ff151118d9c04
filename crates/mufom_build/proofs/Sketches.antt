-- What one more row that may come makes of a sketch.
use Rattle.std.proofs.Common.{◌≡◌, ℕ, zero, suc, ◌+◌, ◌-◌, ◌<◌, ◌≤◌, nat_le, nat_lt, ◌==◌, Bool, true, false, List, [], ◌∷◌, ◌++◌, length, drop, map}
use Rattle.std.proofs.Common.{flat_map, Option, Some, None, is_some, if◌then◌else◌, refl, sym, ap, subst, ◌∙◌, append_assoc, append-nil, length-append, arith}
use Rattle.std.proofs.lemmas.List.{map-append}
use Rattle.mufom_expr.specs.Tree.{Tree}
use Rattle.mufom_names.specs.declared.name.Note.{Note}
use Rattle.mufom_names.specs.declared.name.Public.{Public}
use Rattle.mufom_names.specs.declared.name.Reference.{Reference}
use Rattle.mufom_loads.specs.declared.load.Item.{Item}
use Rattle.mufom_loads.specs.declared.load.Item.TheVariants.{Literal, Field}
use Rattle.mufom_loads.specs.declared.load.Load.{Load}
use Rattle.mufom_loads.specs.declared.load.Load.TheVariants.{SetSection, SetPc, One, Repeat}
use Rattle.mufom_debug.specs.Marks.{DebugMark, block_begin, block_end, name_mark, note_mark, value_mark, closes, joined, open_after, names_after}
use Rattle.mufom_debug.specs.Marks.{names_after_all}
use Rattle.mufom_module.specs.declared.module.Parts.{Parts}
use Rattle.mufom_text.specs.Show.{depth_after_all}
use Rattle.mufom_build_text.proofs.FirstBytes.{no, both_true}
use Rattle.mufom_build_text.proofs.Lists.{flat_map_more}
use Rattle.mufom_build.specs.declared.draft.OpenRepeat.{OpenRepeat}
use Rattle.mufom_build.specs.declared.order.Kind.{Kind}
use Rattle.mufom_build.specs.declared.order.Kind.TheVariants as kinds
use Rattle.mufom_build.specs.declared.order.Stage.{Stage}
use Rattle.mufom_build.specs.declared.order.Stage.TheVariants as stages
use Rattle.mufom_build.specs.Order.{kind_of, stage_number, is_within, may_come, may_come_inside, may_come_outside, may_be_repeated, next}
use Rattle.mufom_build.specs.Rows.{on_module, on_extension, on_environment, on_section, on_public, on_note, on_reference, on_block, on_end}
use Rattle.mufom_build.specs.Rows.{on_name, on_value, on_select, on_counter, on_bytes, on_field, on_repeat, on_start, Row, note_row, named_rows}
use Rattle.mufom_build.specs.Rows.{extension_rows, environment_rows, section_row, public_row, public_rows, reference_row, reference_rows, mark_row}
use Rattle.mufom_build.specs.Rows.{item_row, load_rows, start_rows}
use Rattle.mufom_build.specs.Sketches.{Sketch, title_rows, repeat_rows, rows_by_part, sketch_rows, sketch_state, HasLast, IsOrderly, with_last}
use Rattle.mufom_build.specs.Sketches.{noted_public, noted_reference, put_mark, put_load, put_item, put}
use Rattle.mufom_build.proofs.Outlining.{depth_more, names_more}

-- The sketch with one more row states one row more, a listing of its rows is one row further, and the sketch is orderly.
pub record Puts (k : Sketch) (r : Row) : Type 0 where
  pub rows : sketch_rows (put k r) ≡ sketch_rows k ++ r ∷ []
  pub state : sketch_state (put k r) ≡ next (sketch_state k) r
  pub orderly : IsOrderly (put k r)

-- a sketch by its parts
abbrev pub sketch : Stage → Parts → List DebugMark → Option OpenRepeat → Sketch
sketch g m marks o = record { stage = g; parts = m; marks = marks; repeat = o }

-- ---- lists

head_nil : {X : Type 0} (xs ys : List X) → xs ++ ys ≡ [] → xs ≡ []
head_nil [] ys e = refl
head_nil (x ∷ xs) ys e = cc

tail_nil : {X : Type 0} (xs ys : List X) → xs ++ ys ≡ [] → ys ≡ []
tail_nil [] ys e = e
tail_nil (x ∷ xs) ys e = cc

joined_nil : (m : ℕ) (xs : List (List Row)) → joined xs ≡ [] → joined (drop m xs) ≡ []
joined_nil zero xs e = e
joined_nil (suc m) [] e = refl
joined_nil (suc m) (x ∷ xs) e = joined_nil m xs (tail_nil x (joined xs) e)

later_nil : (n m : ℕ) (xs : List (List Row)) → n ≤ m → joined (drop n xs) ≡ [] → joined (drop m xs) ≡ []
later_nil zero m xs small e = joined_nil m xs e
later_nil (suc n) zero xs small e = absurd (omega (arith, small))
later_nil (suc n) (suc m) [] small e = refl
later_nil (suc n) (suc m) (x ∷ xs) small e = later_nil n m xs (omega (arith, small)) e

-- a row is added before nothing
added_here : (mid new back : List Row) (r : Row) → back ≡ [] → new ≡ mid ++ r ∷ [] → new ++ back ≡ (mid ++ back) ++ r ∷ []
added_here mid new back r e is =
    ap (λ b. new ++ b) e ∙ append-nil new ∙ is ∙ ap (λ l. l ++ r ∷ []) (sym (append-nil mid) ∙ ap (λ b. mid ++ b) (sym e))

added : (fronts : List (List Row)) (mid new : List Row) (back : List (List Row)) (r : Row) → joined back ≡ [] → new ≡ mid ++ r ∷ []
    → joined (fronts ++ (new ∷ back)) ≡ joined (fronts ++ (mid ∷ back)) ++ r ∷ []
added [] mid new back r e is = added_here mid new (joined back) r e is
added (f ∷ fronts) mid new back r e is =
    ap (λ l. f ++ l) (added fronts mid new back r e is) ∙ sym (append_assoc f (joined (fronts ++ (mid ∷ back))) (r ∷ []))

-- ---- stages

less : (n m : ℕ) → nat_le n m ≡ true → n ≤ m
less n m h = grind arith

not_open : (d : ℕ) → nat_lt 0 d ≡ false → 0 < d → ⊥
not_open d h some = grind arith

is_open : (d : ℕ) → nat_lt 0 d ≡ true → 0 < d
is_open d h = grind arith

other : (g h : Stage) → (stage_number g == stage_number h) ≡ false → (stage_number g == stage_number g) ≡ true → g ≡ h → ⊥
other g h differs same e = no (sym differs ∙ ap (λ x. stage_number g == stage_number x) (sym e) ∙ same)

none_is_some : (b : Bool) → b ≡ false → b ≡ true → ⊥
none_is_some b e f = no (sym e ∙ f)

-- from the last stage on in which a row may come there is nothing
nothing_later : (k : Sketch) (first last : ℕ) → IsOrderly k → is_within first last k.stage ≡ true → joined (drop last (rows_by_part k)) ≡ []
nothing_later k first last is h = later_nil (stage_number k.stage) last (rows_by_part k)
    (less (stage_number k.stage) last (both_true (nat_le first (stage_number k.stage)) (nat_le (stage_number k.stage) last) h).1) is.later

abbrev title_of : Parts → List Row
title_of m = (on_module, (m.name, m.processor, m.maus, m.order)) ∷ []

titled : (g : Stage) (m : Parts) (last : ℕ) → is_within 1 last g ≡ true → title_of m ≡ title_rows g m
titled stages.Nothing m last h = absurd (no h)
titled stages.Module m last h = refl
titled stages.Extension m last h = refl
titled stages.Environment m last h = refl
titled stages.Sections m last h = refl
titled stages.Publics m last h = refl
titled stages.References m last h = refl
titled stages.Debug m last h = refl
titled stages.Loads m last h = refl
titled stages.Start m last h = refl

-- a row is added after the title of a sketch that has one
placed : (k : Sketch) (last : ℕ) (fronts : List (List Row)) (mid new : List Row) (back : List (List Row)) (r : Row) → is_within 1 last k.stage ≡ true
    → joined back ≡ [] → new ≡ mid ++ r ∷ []
    → joined (title_of k.parts ∷ (fronts ++ (new ∷ back))) ≡ joined (title_rows k.stage k.parts ∷ (fronts ++ (mid ∷ back))) ++ r ∷ []
placed k last fronts mid new back r h nil is =
    added (title_of k.parts ∷ fronts) mid new back r nil is
    ∙ ap (λ t. (t ++ joined (fronts ++ (mid ∷ back))) ++ r ∷ []) (titled k.stage k.parts last h)

-- ---- which rows may come

choose : (b c x y z : Bool) → x ≡ false → y ≡ false → (if b then x else if c then y else z) ≡ true → (b ≡ false) × (c ≡ false) × (z ≡ true)
choose true c x y z e f h = absurd (no (sym e ∙ h))
choose false true x y z e f h = absurd (no (sym f ∙ h))
choose false false x y z e f h = (refl, refl, h)

-- a row that is of no block and of no repeat
outside_only : (k : Sketch) (kind : Kind) → may_be_repeated kind ≡ false → may_come_inside kind ≡ false → may_come (sketch_state k) kind ≡ true
    → (is_some k.repeat ≡ false) × (nat_lt 0 (depth_after_all 0 k.marks) ≡ false) × (may_come_outside k.stage kind ≡ true)
outside_only k kind e f h = choose (is_some k.repeat) (nat_lt 0 (depth_after_all 0 k.marks)) _ _ _ e f h

-- what is orderly where no block and no repeat is open
outside_orderly : (p : Sketch) → joined (drop (stage_number p.stage) (rows_by_part p)) ≡ [] → (p.stage ≡ stages.Publics → HasLast p.parts.names.publics)
    → (p.stage ≡ stages.References → HasLast p.parts.names.references) → nat_lt 0 (depth_after_all 0 p.marks) ≡ false → is_some p.repeat ≡ false
    → ((rest : List DebugMark) → closes 0 (p.marks ++ rest) ≡ closes (depth_after_all 0 p.marks) rest) → IsOrderly p
outside_orderly p later public reference shut closed nested = record {
  later = later;
  public = public;
  reference = reference;
  in_debug = λ some. absurd (not_open (depth_after_all 0 p.marks) shut some);
  in_loads = λ some. absurd (none_is_some (is_some p.repeat) closed some);
  nested = nested;
}

-- ---- the first line, and parts that are kept as bytes

title_put : (k : Sketch) (name processor : List ℕ) (maus : ℕ) (order : _) → IsOrderly k → may_come (sketch_state k) kinds.Title ≡ true
    → Puts k (on_module, (name, processor, maus, order))
title_put k name processor maus order is may =
    let (closed, shut, h) = outside_only k kinds.Title refl refl may in
    let r : Row = (on_module, (name, processor, maus, order)) in
    let all = nothing_later k 0 0 is h in
    let back = later_nil 0 1 (rows_by_part k) (omega arith) all in
    record {
      rows = added [] (title_rows k.stage k.parts) (r ∷ []) (drop 1 (rows_by_part k)) r back
          (ap (λ l. l ++ r ∷ []) (sym (head_nil (title_rows k.stage k.parts) (joined (drop 1 (rows_by_part k))) all)));
      state = refl;
      orderly = outside_orderly (put k r) back (λ e. absurd (other stages.Module stages.Publics refl refl e))
          (λ e. absurd (other stages.Module stages.References refl refl e)) shut closed is.nested;
    }

extension_put : (k : Sketch) (b : ℕ) (bytes : List ℕ) → IsOrderly k → may_come (sketch_state k) kinds.Extension ≡ true → Puts k (on_extension, (b, bytes))
extension_put k b bytes is may =
    let (closed, shut, h) = outside_only k kinds.Extension refl refl may in
    let r : Row = (on_extension, (b, bytes)) in
    let all = nothing_later k 1 1 is h in
    let back = later_nil 1 2 (rows_by_part k) (omega arith) all in
    record {
      rows = placed k 1 [] (extension_rows k.parts.ext) (r ∷ []) (drop 2 (rows_by_part k)) r h back
          (ap (λ l. l ++ r ∷ []) (sym (head_nil (extension_rows k.parts.ext) (joined (drop 2 (rows_by_part k))) all)));
      state = refl;
      orderly = outside_orderly (put k r) back (λ e. absurd (other stages.Extension stages.Publics refl refl e))
          (λ e. absurd (other stages.Extension stages.References refl refl e)) shut closed is.nested;
    }

environment_put : (k : Sketch) (b : ℕ) (bytes : List ℕ) → IsOrderly k → may_come (sketch_state k) kinds.Environment ≡ true
    → Puts k (on_environment, (b, bytes))
environment_put k b bytes is may =
    let (closed, shut, h) = outside_only k kinds.Environment refl refl may in
    let r : Row = (on_environment, (b, bytes)) in
    let all = nothing_later k 1 2 is h in
    let back = later_nil 2 3 (rows_by_part k) (omega arith) all in
    record {
      rows = placed k 2 (extension_rows k.parts.ext ∷ []) (environment_rows k.parts.env) (r ∷ []) (drop 3 (rows_by_part k)) r h back
          (ap (λ l. l ++ r ∷ []) (sym (head_nil (environment_rows k.parts.env) (joined (drop 3 (rows_by_part k))) all)));
      state = refl;
      orderly = outside_orderly (put k r) back (λ e. absurd (other stages.Environment stages.Publics refl refl e))
          (λ e. absurd (other stages.Environment stages.References refl refl e)) shut closed is.nested;
    }

-- ---- sections and names

section_put : (k : Sketch) (s : _) → IsOrderly k → may_come (sketch_state k) kinds.Section ≡ true → Puts k (on_section, s)
section_put k s is may =
    let (closed, shut, h) = outside_only k kinds.Section refl refl may in
    let xs = k.parts.sections in
    let back = nothing_later k 1 4 is h in
    record {
      rows = placed k 4 (extension_rows k.parts.ext ∷ environment_rows k.parts.env ∷ []) (map section_row xs) (map section_row (xs ++ s ∷ []))
          (drop 4 (rows_by_part k)) (on_section, s) h back (map-append section_row xs (s ∷ []));
      state = ap (λ n. record (sketch_state k) { stage = stages.Sections; sections = n }) (length-append xs (s ∷ []));
      orderly = outside_orderly (put k (on_section, s)) back (λ e. absurd (other stages.Sections stages.Publics refl refl e))
          (λ e. absurd (other stages.Sections stages.References refl refl e)) shut closed is.nested;
    }

public_put : (k : Sketch) (name : List ℕ) (value : Tree) → IsOrderly k → may_come (sketch_state k) kinds.Public ≡ true → Puts k (on_public, (name, value))
public_put k name value is may =
    let (closed, shut, h) = outside_only k kinds.Public refl refl may in
    let xs = k.parts.names.publics in
    let p : Public = record { name = name; value = value; notes = [] } in
    let r : Row = (on_public, (name, value)) in
    let back = nothing_later k 1 5 is h in
    record {
      rows = placed k 5 (extension_rows k.parts.ext ∷ environment_rows k.parts.env ∷ map section_row k.parts.sections ∷ []) (flat_map public_rows xs)
          (flat_map public_rows (xs ++ p ∷ [])) (drop 5 (rows_by_part k)) r h back (flat_map_more public_rows xs p);
      state = ap (λ n. record (sketch_state k) { stage = stages.Publics; publics = n }) (length-append xs (p ∷ []));
      orderly = outside_orderly (put k r) back (λ e. (xs, p, refl))
          (λ e. absurd (other stages.Publics stages.References refl refl e)) shut closed is.nested;
    }

reference_put : (k : Sketch) (name : List ℕ) (weak : _) → IsOrderly k → may_come (sketch_state k) kinds.Reference ≡ true
    → Puts k (on_reference, (name, weak))
reference_put k name weak is may =
    let (closed, shut, h) = outside_only k kinds.Reference refl refl may in
    let xs = k.parts.names.references in
    let p : Reference = record { name = name; weak = weak; notes = [] } in
    let r : Row = (on_reference, (name, weak)) in
    let back = nothing_later k 1 6 is h in
    record {
      rows = placed k 6 (extension_rows k.parts.ext ∷ environment_rows k.parts.env ∷ map section_row k.parts.sections
          ∷ flat_map public_rows k.parts.names.publics ∷ []) (flat_map reference_rows xs) (flat_map reference_rows (xs ++ p ∷ []))
          (drop 6 (rows_by_part k)) r h back (flat_map_more reference_rows xs p);
      state = ap (λ n. record (sketch_state k) { stage = stages.References; references = n }) (length-append xs (p ∷ []));
      orderly = outside_orderly (put k r) back (λ e. absurd (other stages.References stages.Publics refl refl e)) (λ e. (xs, p, refl)) shut closed is.nested;
    }

-- ---- notes of the last name

pub last_changed : {X : Type 0} (change : X → X) (xs : List X) (x : X) → with_last change (xs ++ x ∷ []) ≡ xs ++ change x ∷ []
last_changed change [] x = refl
last_changed change (y ∷ []) x = refl
last_changed change (y ∷ (z ∷ xs)) x = ap (λ l. y ∷ l) (last_changed change (z ∷ xs) x)

as_long : {X : Type 0} (change : X → X) (xs : List X) → length (with_last change xs) ≡ length xs
as_long change [] = refl
as_long change (x ∷ []) = refl
as_long change (x ∷ (y ∷ xs)) = let rest = as_long change (y ∷ xs) in omega (arith, rest)

changed_has_last : {X : Type 0} (change : X → X) (xs : List X) → HasLast xs → HasLast (with_last change xs)
changed_has_last change xs (rest, x, e) = (rest, change x, ap (with_last change) e ∙ last_changed change rest x)

noted_rows : {X : Type 0} (row : X → Row) (notes : X → List Note) (change : X → X) (note : Note) → ((x : X) → row (change x) ≡ row x)
    → ((x : X) → notes (change x) ≡ notes x ++ note ∷ []) → (xs : List X) → HasLast xs
    → flat_map (named_rows row notes) (with_last change xs) ≡ flat_map (named_rows row notes) xs ++ note_row note ∷ []
noted_rows row notes change note same more xs (rest, x, e) =
    let rows = flat_map (named_rows row notes) in
    let one : named_rows row notes (change x) ≡ named_rows row notes x ++ note_row note ∷ [] =
    ap (λ q. q ∷ map note_row (notes (change x))) (same x)
    ∙ ap (λ l. row x ∷ l) (ap (map note_row) (more x) ∙ map-append note_row (notes x) (note ∷ [])) in
    ap (λ l. rows (with_last change l)) e ∙ ap rows (last_changed change rest x) ∙ flat_map_more (named_rows row notes) rest (change x)
    ∙ ap (λ l. rows rest ++ l) one ∙ sym (append_assoc (rows rest) (named_rows row notes x) (note_row note ∷ []))
    ∙ ap (λ l. l ++ note_row note ∷ []) (sym (flat_map_more (named_rows row notes) rest x) ∙ ap rows (sym e))

note_at : (g : Stage) (m : Parts) (marks : List DebugMark) (o : Option OpenRepeat) (note : Note) → IsOrderly (sketch g m marks o) → is_some o ≡ false
    → nat_lt 0 (depth_after_all 0 marks) ≡ false → is_within 5 6 g ≡ true → Puts (sketch g m marks o) (on_note, (None, note))
note_at stages.Publics m marks o note is closed shut h =
    let k = sketch stages.Publics m marks o in
    let xs = m.names.publics in
    let last = is.public refl in
    record {
      rows = added (title_of m ∷ extension_rows m.ext ∷ environment_rows m.env ∷ map section_row m.sections ∷ []) (flat_map public_rows xs)
          (flat_map public_rows (with_last (noted_public note) xs)) (drop 5 (rows_by_part k)) (on_note, (None, note)) is.later
          (noted_rows public_row (λ p. p.notes) (noted_public note) note (λ p. refl) (λ p. refl) xs last);
      state = ap (λ n. record (sketch_state k) { publics = n }) (as_long (noted_public note) xs);
      orderly = outside_orderly (put k (on_note, (None, note))) is.later (λ e. changed_has_last (noted_public note) xs last)
          (λ e. absurd (other stages.Publics stages.References refl refl e)) shut closed is.nested;
    }
note_at stages.References m marks o note is closed shut h =
    let k = sketch stages.References m marks o in
    let xs = m.names.references in
    let last = is.reference refl in
    record {
      rows = added (title_of m ∷ extension_rows m.ext ∷ environment_rows m.env ∷ map section_row m.sections ∷ flat_map public_rows m.names.publics ∷ [])
          (flat_map reference_rows xs) (flat_map reference_rows (with_last (noted_reference note) xs)) (drop 6 (rows_by_part k))
          (on_note, (None, note)) is.later
          (noted_rows reference_row (λ r. r.notes) (noted_reference note) note (λ r. refl) (λ r. refl) xs last);
      state = ap (λ n. record (sketch_state k) { references = n }) (as_long (noted_reference note) xs);
      orderly = outside_orderly (put k (on_note, (None, note))) is.later (λ e. absurd (other stages.References stages.Publics refl refl e))
          (λ e. changed_has_last (noted_reference note) xs last) shut closed is.nested;
    }
note_at stages.Nothing m marks o note is closed shut h = absurd (no h)
note_at stages.Module m marks o note is closed shut h = absurd (no h)
note_at stages.Extension m marks o note is closed shut h = absurd (no h)
note_at stages.Environment m marks o note is closed shut h = absurd (no h)
note_at stages.Sections m marks o note is closed shut h = absurd (no h)
note_at stages.Debug m marks o note is closed shut h = absurd (no h)
note_at stages.Loads m marks o note is closed shut h = absurd (no h)
note_at stages.Start m marks o note is closed shut h = absurd (no h)

note_put : (k : Sketch) (note : Note) → IsOrderly k → may_come (sketch_state k) kinds.Note ≡ true → Puts k (on_note, (None, note))
note_put k note is may =
    let (closed, shut, h) = outside_only k kinds.Note refl refl may in
    note_at k.stage k.parts k.marks k.repeat note is closed shut h

-- ---- debug items

-- a mark may come after marks with this depth
abbrev Goes : ℕ → DebugMark → Type 0
Goes d mark = (rest : List DebugMark) → closes d (mark ∷ rest) ≡ closes (open_after d mark) rest

mark_put : (k : Sketch) (mark : DebugMark) → IsOrderly k → is_some k.repeat ≡ false → is_within 1 7 k.stage ≡ true
    → Goes (depth_after_all 0 k.marks) mark
    → (sketch_rows (put_mark k mark) ≡ sketch_rows k ++ mark_row mark ∷ []) × IsOrderly (put_mark k mark)
mark_put k mark is closed h goes =
    let back = nothing_later k 1 7 is h in (
      placed k 7 (extension_rows k.parts.ext ∷ environment_rows k.parts.env ∷ map section_row k.parts.sections
          ∷ flat_map public_rows k.parts.names.publics ∷ flat_map reference_rows k.parts.names.references ∷ []) (map mark_row k.marks)
          (map mark_row (k.marks ++ mark ∷ [])) (drop 7 (rows_by_part k)) (mark_row mark) h back (map-append mark_row k.marks (mark ∷ [])),
      record {
        later = back;
        public = λ e. absurd (other stages.Debug stages.Publics refl refl e);
        reference = λ e. absurd (other stages.Debug stages.References refl refl e);
        in_debug = λ some. refl;
        in_loads = λ some. absurd (none_is_some (is_some k.repeat) closed some);
        nested = λ rest.
            ap (closes 0) (append_assoc k.marks (mark ∷ []) rest) ∙ is.nested (mark ∷ rest) ∙ goes rest
            ∙ ap (λ d. closes d rest) (sym (depth_more 0 k.marks mark));
      },
    )

-- how far the listing is after a mark
marked : (k : Sketch) (mark : DebugMark) → sketch_state (put_mark k mark) ≡ record (sketch_state k) {
  stage = stages.Debug;
  names = names_after (names_after_all 0 k.marks) mark;
  depth = open_after (depth_after_all 0 k.marks) mark;
}
marked k mark = λ i. record (sketch_state k) {
  stage = stages.Debug;
  names = names_more 0 k.marks mark i;
  depth = depth_more 0 k.marks mark i;
}

-- where a debug row may come, the listing is no further than the debug items
debug_within : (k : Sketch) → IsOrderly k → may_come (sketch_state k) kinds.Debug ≡ true → (is_some k.repeat ≡ false) × (is_within 1 7 k.stage ≡ true)
debug_within k is may = by_case (is_some k.repeat) (nat_lt 0 (depth_after_all 0 k.marks)) refl may
  where
    by_case : (b c : Bool) → nat_lt 0 (depth_after_all 0 k.marks) ≡ c → (if b then false else if c then true else is_within 1 7 k.stage) ≡ true
        → (b ≡ false) × (is_within 1 7 k.stage ≡ true)
    by_case true c e h = absurd (no h)
    by_case false true e h = (refl, ap (is_within 1 7) (is.in_debug (is_open (depth_after_all 0 k.marks) e)))
    by_case false false e h = (refl, h)

begin_goes : (d : ℕ) (head : _) (name : List ℕ) → Goes d (block_begin head name)
begin_goes d head name rest = let more : suc d ≡ d + 1 = omega arith in ap (λ n. closes n rest) more

end_goes : (d : ℕ) (end : Option Tree) → 0 < d → Goes d (block_end end)
end_goes zero end some rest = absurd (omega (arith, some))
end_goes (suc d) end some rest = let less : d ≡ suc d - 1 = omega arith in ap (λ n. closes n rest) less

debug_put : (k : Sketch) (mark : DebugMark) (r : Row) → mark_row mark ≡ r → put k r ≡ put_mark k mark → Goes (depth_after_all 0 k.marks) mark
    → record (sketch_state k) {
      stage = stages.Debug;
      names = names_after (names_after_all 0 k.marks) mark;
      depth = open_after (depth_after_all 0 k.marks) mark;
    } ≡ next (sketch_state k) r
    → IsOrderly k → may_come (sketch_state k) kinds.Debug ≡ true → Puts k r
debug_put k mark r row same goes state is may =
    let (closed, h) = debug_within k is may in
    let (rows, orderly) = mark_put k mark is closed h goes in
    record {
      rows = ap sketch_rows same ∙ rows ∙ ap (λ q. sketch_rows k ++ q ∷ []) row;
      state = ap sketch_state same ∙ marked k mark ∙ state;
      orderly = subst IsOrderly (sym same) orderly;
    }

-- ---- loads

no_repeat : (o : Option OpenRepeat) → is_some o ≡ false → repeat_rows o ≡ []
no_repeat None h = refl
no_repeat (Some r) h = absurd (no (sym h))

-- the rows between the title and the loads
abbrev before_loads : Parts → List DebugMark → List (List Row)
before_loads m marks = extension_rows m.ext ∷ environment_rows m.env ∷ map section_row m.sections
    ∷ flat_map public_rows m.names.publics ∷ flat_map reference_rows m.names.references ∷ map mark_row marks ∷ []

load_put : (k : Sketch) (load : Load) (r : Row) → load_rows load ≡ r ∷ [] → IsOrderly k → is_some k.repeat ≡ false
    → nat_lt 0 (depth_after_all 0 k.marks) ≡ false
    → is_within 1 8 k.stage ≡ true → (sketch_rows (put_load k load) ≡ sketch_rows k ++ r ∷ []) × IsOrderly (put_load k load)
load_put k load r one is closed shut h =
    let back = nothing_later k 1 8 is h in
    let loads = k.parts.loads in (
      placed k 8 (before_loads k.parts k.marks) (flat_map load_rows loads ++ repeat_rows k.repeat)
          (flat_map load_rows (loads ++ load ∷ []) ++ repeat_rows k.repeat) (drop 8 (rows_by_part k)) r h back
          (added_here (flat_map load_rows loads) (flat_map load_rows (loads ++ load ∷ [])) (repeat_rows k.repeat) r (no_repeat k.repeat closed)
          (flat_map_more load_rows loads load ∙ ap (λ l. flat_map load_rows loads ++ l) one)),
      outside_orderly (put_load k load) back (λ e. absurd (other stages.Loads stages.Publics refl refl e))
          (λ e. absurd (other stages.Loads stages.References refl refl e)) shut closed is.nested,
    )

select_put : (k : Sketch) (place : ℕ) → IsOrderly k → may_come (sketch_state k) kinds.Load ≡ true → Puts k (on_select, place)
select_put k place is may =
    let (closed, shut, h) = outside_only k kinds.Load refl refl may in
    let (rows, orderly) = load_put k (SetSection place) (on_select, place) refl is closed shut h in
    record { rows = rows; state = refl; orderly = orderly }

counter_put : (k : Sketch) (place : ℕ) (value : Tree) → IsOrderly k → may_come (sketch_state k) kinds.Load ≡ true → Puts k (on_counter, (place, value))
counter_put k place value is may =
    let (closed, shut, h) = outside_only k kinds.Load refl refl may in
    let (rows, orderly) = load_put k (SetPc place value) (on_counter, (place, value)) refl is closed shut h in
    record { rows = rows; state = refl; orderly = orderly }

repeat_put : (k : Sketch) (times : ℕ) → IsOrderly k → may_come (sketch_state k) kinds.Load ≡ true → Puts k (on_repeat, times)
repeat_put k times is may =
    let (closed, shut, h) = outside_only k kinds.Load refl refl may in
    let r : Row = (on_repeat, times) in
    let back = nothing_later k 1 8 is h in
    let loads = flat_map load_rows k.parts.loads in
    record {
      rows = placed k 8 (before_loads k.parts k.marks) (loads ++ repeat_rows k.repeat) (loads ++ r ∷ []) (drop 8 (rows_by_part k)) r h back
          (ap (λ l. l ++ r ∷ []) (sym (append-nil loads) ∙ ap (λ l. loads ++ l) (sym (no_repeat k.repeat closed))));
      state = refl;
      orderly = record {
        later = back;
        public = λ e. absurd (other stages.Loads stages.Publics refl refl e);
        reference = λ e. absurd (other stages.Loads stages.References refl refl e);
        in_debug = λ some. absurd (not_open (depth_after_all 0 k.marks) shut some);
        in_loads = λ some. refl;
        nested = is.nested;
      };
    }

-- an item in a repeat
repeated_put : (m : Parts) (marks : List DebugMark) (open_repeat : OpenRepeat) (item : Item) → let k = sketch stages.Loads m marks (Some open_repeat) in
    IsOrderly k → let p = put_item (Some open_repeat) k item in
    (sketch_rows p ≡ sketch_rows k ++ item_row item ∷ []) × IsOrderly p
repeated_put m marks open_repeat item is =
    let loads = flat_map load_rows m.loads in
    let items = open_repeat.items in (
      added (title_of m ∷ before_loads m marks) (loads ++ ((on_repeat, open_repeat.count) ∷ map item_row items))
          (loads ++ ((on_repeat, open_repeat.count) ∷ map item_row (items ++ item ∷ []))) (start_rows m.start ∷ []) (item_row item) is.later
          (ap (λ l. loads ++ ((on_repeat, open_repeat.count) ∷ l)) (map-append item_row items (item ∷ []))
          ∙ sym (append_assoc loads ((on_repeat, open_repeat.count) ∷ map item_row items) (item_row item ∷ []))),
      record {
        later = is.later;
        public = λ e. absurd (other stages.Loads stages.Publics refl refl e);
        reference = λ e. absurd (other stages.Loads stages.References refl refl e);
        in_debug = is.in_debug;
        in_loads = λ some. refl;
        nested = is.nested;
      },
    )

-- the end of a repeat
repeat_ended : (m : Parts) (marks : List DebugMark) (open_repeat : OpenRepeat) → let k = sketch stages.Loads m marks (Some open_repeat) in
    IsOrderly k → Puts k (on_end, None)
repeat_ended m marks open_repeat is =
    let k = sketch stages.Loads m marks (Some open_repeat) in
    let loads = flat_map load_rows m.loads in
    let whole = Repeat open_repeat.count open_repeat.items in
    let inner : List Row = (on_repeat, open_repeat.count) ∷ map item_row open_repeat.items in
    record {
      rows = added (title_of m ∷ before_loads m marks) (loads ++ inner) (flat_map load_rows (m.loads ++ whole ∷ []) ++ [])
          (start_rows m.start ∷ []) (on_end, None) is.later
          (append-nil (flat_map load_rows (m.loads ++ whole ∷ [])) ∙ flat_map_more load_rows m.loads whole
          ∙ sym (append_assoc loads inner ((on_end, None) ∷ [])));
      state = refl;
      orderly = record {
        later = is.later;
        public = λ e. absurd (other stages.Loads stages.Publics refl refl e);
        reference = λ e. absurd (other stages.Loads stages.References refl refl e);
        in_debug = is.in_debug;
        in_loads = λ some. refl;
        nested = is.nested;
      };
    }

-- ---- items, and ends

item_put : (g : Stage) (m : Parts) (marks : List DebugMark) (o : Option OpenRepeat) (item : Item) → let k = sketch g m marks o in
    IsOrderly k → may_come (sketch_state k) kinds.Item ≡ true → let p = put_item o k item in
    (sketch_rows p ≡ sketch_rows k ++ item_row item ∷ []) × (sketch_state p ≡ record (sketch_state k) { stage = stages.Loads }) × IsOrderly p
item_put g m marks None item is may =
    let (closed, shut, h) = choose false (nat_lt 0 (depth_after_all 0 marks)) false false (is_within 1 8 g) refl refl may in
    let (rows, orderly) = load_put (sketch g m marks None) (One item) (item_row item) refl is refl shut h in
    (rows, refl, orderly)
item_put g m marks (Some open_repeat) item is may =
    subst (λ (g : Stage). IsOrderly (sketch g m marks (Some open_repeat)) → let k = sketch g m marks (Some open_repeat) in
    let p = put_item (Some open_repeat) k item in
    (sketch_rows p ≡ sketch_rows k ++ item_row item ∷ []) × (sketch_state p ≡ record (sketch_state k) { stage = stages.Loads }) × IsOrderly p)
    (sym (is.in_loads refl)) (λ orderly. let (rows, kept) = repeated_put m marks open_repeat item orderly in (rows, refl, kept)) is

-- the end of a block
block_ended : (g : Stage) (m : Parts) (marks : List DebugMark) (end : Option Tree) → IsOrderly (sketch g m marks None)
    → nat_lt 0 (depth_after_all 0 marks) ≡ true → Puts (sketch g m marks None) (on_end, end)
block_ended g m marks end is opened =
    let d = depth_after_all 0 marks in
    let some = is_open d opened in
    subst (λ (g : Stage). IsOrderly (sketch g m marks None) → Puts (sketch g m marks None) (on_end, end)) (sym (is.in_debug some))
    (λ orderly. let k = sketch stages.Debug m marks None in
    let (rows, kept) = mark_put k (block_end end) orderly refl refl (end_goes d end some) in
    record { rows = rows; state = marked k (block_end end); orderly = kept }) is

end_put : (g : Stage) (m : Parts) (marks : List DebugMark) (o : Option OpenRepeat) (end : Option Tree) → let k = sketch g m marks o in
    IsOrderly k → may_come (sketch_state k) (kind_of (on_end, end)) ≡ true → Puts k (on_end, end)
end_put g m marks (Some open_repeat) None is may =
    subst (λ (g : Stage). IsOrderly (sketch g m marks (Some open_repeat)) → Puts (sketch g m marks (Some open_repeat)) (on_end, None))
    (sym (is.in_loads refl)) (repeat_ended m marks open_repeat) is
end_put g m marks (Some open_repeat) (Some value) is may = absurd (no may)
end_put g m marks None None is may = block_ended g m marks None is (opened (nat_lt 0 (depth_after_all 0 marks)) may)
  where
    opened : (b : Bool) → (if b then true else false) ≡ true → b ≡ true
    opened true h = refl
    opened false h = h
end_put g m marks None (Some value) is may = block_ended g m marks (Some value) is (opened (nat_lt 0 (depth_after_all 0 marks)) may)
  where
    opened : (b : Bool) → (if b then true else false) ≡ true → b ≡ true
    opened true h = refl
    opened false h = h

start_put : (k : Sketch) (value : Tree) → IsOrderly k → may_come (sketch_state k) kinds.Start ≡ true → Puts k (on_start, value)
start_put k value is may =
    let (closed, shut, h) = outside_only k kinds.Start refl refl may in
    let r : Row = (on_start, value) in
    let last = nothing_later k 1 8 is h in
    record {
      rows = placed k 8 (before_loads k.parts k.marks ++ (flat_map load_rows k.parts.loads ++ repeat_rows k.repeat) ∷ []) (start_rows k.parts.start)
          (r ∷ []) [] r h refl (ap (λ l. l ++ r ∷ []) (sym (head_nil (start_rows k.parts.start) [] last)));
      state = refl;
      orderly = outside_orderly (put k r) refl (λ e. absurd (other stages.Start stages.Publics refl refl e))
          (λ e. absurd (other stages.Start stages.References refl refl e)) shut closed is.nested;
    }

-- ---- any row

-- A row that may come is put to an orderly sketch: it states that row too, and is orderly.
pub put_row : (k : Sketch) (r : Row) → IsOrderly k → may_come (sketch_state k) (kind_of r) ≡ true → Puts k r
put_row k (on_module, (name, processor, maus, order)) is may = title_put k name processor maus order is may
put_row k (on_extension, (b, bytes)) is may = extension_put k b bytes is may
put_row k (on_environment, (b, bytes)) is may = environment_put k b bytes is may
put_row k (on_section, s) is may = section_put k s is may
put_row k (on_public, (name, value)) is may = public_put k name value is may
put_row k (on_note, (None, note)) is may = note_put k note is may
put_row k (on_note, (Some place, note)) is may =
    debug_put k (note_mark place note) (on_note, (Some place, note)) refl refl (λ rest. refl) refl is may
put_row k (on_reference, (name, weak)) is may = reference_put k name weak is may
put_row k (on_block, (head, name)) is may =
    debug_put k (block_begin head name) (on_block, (head, name)) refl refl (begin_goes (depth_after_all 0 k.marks) head name) refl is may
put_row k (on_end, end) is may = end_put k.stage k.parts k.marks k.repeat end is may
put_row k (on_name, name) is may = debug_put k (name_mark name) (on_name, name) refl refl (λ rest. refl) refl is may
put_row k (on_value, (place, value)) is may = debug_put k (value_mark place value) (on_value, (place, value)) refl refl (λ rest. refl) refl is may
put_row k (on_select, place) is may = select_put k place is may
put_row k (on_counter, (place, value)) is may = counter_put k place value is may
put_row k (on_bytes, bytes) is may =
    let (rows, state, orderly) = item_put k.stage k.parts k.marks k.repeat (Literal bytes) is may in
    record { rows = rows; state = state; orderly = orderly }
put_row k (on_field, (kind, size, value)) is may =
    let (rows, state, orderly) = item_put k.stage k.parts k.marks k.repeat (Field kind size value) is may in
    record { rows = rows; state = state; orderly = orderly }
put_row k (on_repeat, times) is may = repeat_put k times is may
put_row k (on_start, value) is may = start_put k value is may
