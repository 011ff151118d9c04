-- The laws of the order of rows: the rows of a module run from the start to where a listing may end, and rows that run from the start are
-- the first ones of some module.
use Rattle.std.proofs.Common.{◌≡◌, ℕ, zero, suc, ◌-◌, ◌<◌, nat_lt, ◌==◌, Bool, true, false, List, [], ◌∷◌, ◌++◌, map, flat_map}
use Rattle.std.proofs.Common.{Option, Some, None, if◌then◌else◌, refl, sym, ap, subst, ◌∙◌, append_assoc, append-nil, arith, eqb-true}
use Rattle.mufom_debug.specs.declared.item.DebugItem.{DebugItem}
use Rattle.mufom_debug.specs.Marks.{DebugMark, block_end, closes, marks_of}
use Rattle.mufom_debug.proofs.Closed.{closed-marks}
use Rattle.mufom_module.specs.declared.module.Order.TheVariants.{Least}
use Rattle.mufom_module.specs.declared.module.Parts.{Parts}
use Rattle.mufom_module.specs.Bare.{bare_parts}
use Rattle.mufom_text.specs.Show.{depth_after_all}
use Rattle.mufom_build_text.proofs.FirstBytes.{no, both_true}
use Rattle.mufom_build.specs.declared.draft.OpenRepeat.{OpenRepeat}
use Rattle.mufom_build.specs.declared.order.Stage.{Stage}
use Rattle.mufom_build.specs.declared.order.Stage.TheVariants as stages
use Rattle.mufom_build.specs.Lines.{AreFew, listing_lines}
use Rattle.mufom_build.specs.Order.{State, start, stage_number, may_end, state_after, lines_from, AreInOrder}
use Rattle.mufom_build.specs.Rows.{on_module, on_end, Row, extension_rows, environment_rows, section_row, public_rows, reference_rows, mark_row}
use Rattle.mufom_build.specs.Rows.{load_rows, start_rows, rows_of}
use Rattle.mufom_build.specs.Sketches.{Sketch, title_rows, sketch_rows, sketch_state, IsOrderly, put}
use Rattle.mufom_build.proofs.FewRows.{AreFewRows, few_append, rows_few, parts_few, run_few, few_run}
use Rattle.mufom_build.proofs.Ordering.{module_listed}
use Rattle.mufom_build.proofs.Outlining.{depth_more}
use Rattle.mufom_build.proofs.Sketches.{sketch, put_row}

-- ---- the rows of a module

-- The lines of a module are those of its rows.
pub listing_is : (m : Parts) → listing_lines m ≡ lines_from start (rows_of m)
listing_is m = sym (module_listed m).are

-- The rows of a module run from the start.
pub listing_runs : (m : Parts) → AreFew m → AreInOrder start (rows_of m)
listing_runs m few = few_run start (rows_of m) (module_listed m).ordered (rows_few m few)

-- After them the listing may end.
pub listing_ends : (m : Parts) → may_end (state_after start (rows_of m)) ≡ true
listing_ends m = (module_listed m).ends

-- ---- rows that run

-- a sketch of no rows
abbrev pub blank : Sketch
blank = record { stage = stages.Nothing; parts = bare_parts 1 Least; marks = []; repeat = None }

none_open : 0 < 0 → ⊥
none_open some = omega (arith, some)

blank_orderly : IsOrderly blank
blank_orderly = record {
  later = refl;
  public = λ e. absurd (differs e);
  reference = λ e. absurd (distinct e);
  in_debug = λ some. absurd (none_open some);
  in_loads = λ some. absurd (no some);
  nested = λ rest. refl;
}
  where
    differs : stages.Nothing ≡ stages.Publics → ⊥
    differs e = cc

    distinct : stages.Nothing ≡ stages.References → ⊥
    distinct e = cc

-- a sketch with these rows after those of another
pub record Reached (k : Sketch) (rows : List Row) : Type 0 where
  pub last : Sketch
  pub orderly : IsOrderly last
  pub all : sketch_rows last ≡ sketch_rows k ++ rows
  pub state : sketch_state last ≡ state_after (sketch_state k) rows

reached : (rows : List Row) (k : Sketch) → IsOrderly k → AreInOrder (sketch_state k) rows → Reached k rows
reached [] k is run = record { last = k; orderly = is; all = sym (append-nil (sketch_rows k)); state = refl }
reached (r ∷ rows) k is (may, few, run) =
    let one = put_row k r is may in
    let more = reached rows (put k r) one.orderly (subst (λ (s : State). AreInOrder s rows) (sym one.state) run) in
    record {
      last = more.last;
      orderly = more.orderly;
      all = more.all ∙ ap (λ l. l ++ rows) one.rows ∙ append_assoc (sketch_rows k) (r ∷ []) rows;
      state = more.state ∙ ap (λ s. state_after s rows) one.state;
    }

-- ---- what completes a sketch

-- parts that begin with the rows of the sketch, and the rows that are missing: none where a listing may end
pub record Completes (k : Sketch) : Type 0 where
  pub parts : Parts
  pub more : List Row
  pub all : rows_of parts ≡ sketch_rows k ++ more
  pub few : AreFewRows more
  pub ends : may_end (sketch_state k) ≡ true → more ≡ []

-- all rows, by those from the loads on
abbrev whole : Parts → List DebugMark → List Row → List Row
whole m marks tail = (on_module, (m.name, m.processor, m.maus, m.order)) ∷ (extension_rows m.ext ++ (environment_rows m.env
    ++ (map section_row m.sections ++ (flat_map public_rows m.names.publics ++ (flat_map reference_rows m.names.references
    ++ (map mark_row marks ++ tail))))))

titled : (g : Stage) (m : Parts) → nat_lt 0 (stage_number g) ≡ true → (on_module, (m.name, m.processor, m.maus, m.order)) ∷ [] ≡ title_rows g m
titled stages.Nothing m h = absurd (no h)
titled stages.Module m h = refl
titled stages.Extension m h = refl
titled stages.Environment m h = refl
titled stages.Sections m h = refl
titled stages.Publics m h = refl
titled stages.References m h = refl
titled stages.Debug m h = refl
titled stages.Loads m h = refl
titled stages.Start m h = refl

-- The rows of a sketch in which nothing is open are those of parts.
pub closed_rows : (g : Stage) (m : Parts) (marks : List DebugMark) (items : List DebugItem) → nat_lt 0 (stage_number g) ≡ true → marks_of items ≡ marks
    → rows_of (record m { debug = items }) ≡ sketch_rows (sketch g m marks None)
closed_rows g m marks items h same =
    let loads = flat_map load_rows m.loads in
    let end = start_rows m.start in
    ap (λ ms. whole m ms (loads ++ end)) same
    ∙ ap (λ t. whole m marks t) (ap (λ l. l ++ end) (sym (append-nil loads)) ∙ ap (λ l. (loads ++ []) ++ l) (sym (append-nil end)))
    ∙ ap (λ t. t ++ (extension_rows m.ext ++ (environment_rows m.env ++ (map section_row m.sections ++ (flat_map public_rows m.names.publics
    ++ (flat_map reference_rows m.names.references ++ (map mark_row marks ++ ((loads ++ []) ++ (end ++ []))))))))) (titled g m h)

closed_completes : (g : Stage) (m : Parts) (marks : List DebugMark) → let k = sketch g m marks None in
    IsOrderly k → nat_lt 0 (stage_number g) ≡ true → depth_after_all 0 marks ≡ 0 → Completes k
closed_completes g m marks is h closed =
    let (items, same) = closed-marks marks (ap (closes 0) (sym (append-nil marks)) ∙ is.nested [] ∙ ap (λ d. closes d []) closed) in
    record {
      parts = record m { debug = items };
      more = [];
      all = closed_rows g m marks items h same ∙ sym (append-nil _);
      few = tt;
      ends = λ end. refl;
    }

-- one more row, and what completes the sketch with it
one_more : (k : Sketch) (r : Row) → IsOrderly k → sketch_rows (put k r) ≡ sketch_rows k ++ r ∷ [] → AreFewRows (r ∷ [])
    → (may_end (sketch_state k) ≡ true → ⊥) → Completes (put k r) → Completes k
one_more k r is rows few unfinished rest = record {
  parts = rest.parts;
  more = r ∷ rest.more;
  all = rest.all ∙ ap (λ l. l ++ rest.more) rows ∙ append_assoc (sketch_rows k) (r ∷ []) rest.more;
  few = few_append (r ∷ []) rest.more few rest.few;
  ends = λ end. absurd (unfinished end);
}

some_depth : (d n : ℕ) → d ≡ suc n → nat_lt 0 d ≡ true
some_depth d n e = grind arith

none_equal : (d n : ℕ) → d ≡ suc n → (d == 0) ≡ true → ⊥
none_equal d n e h = let none = eqb-true d 0 h in omega (arith, e, none)

blocks_completed : (d : ℕ) (g : Stage) (m : Parts) (marks : List DebugMark) → let k = sketch g m marks None in
    IsOrderly k → nat_lt 0 (stage_number g) ≡ true → depth_after_all 0 marks ≡ d → Completes k
blocks_completed zero g m marks is h deep = closed_completes g m marks is h deep
blocks_completed (suc d) g m marks is h deep =
    let k = sketch g m marks None in
    let opened = some_depth (depth_after_all 0 marks) d deep in
    let one = put_row k (on_end, None) is (ap (λ b. if b then true else false) opened) in
    let less : depth_after_all 0 marks - 1 ≡ d = omega (arith, deep) in
    one_more k (on_end, None) is one.rows (tt, tt)
    (λ end. none_equal (depth_after_all 0 marks) d deep (both_true _ _ (both_true (nat_lt 0 (stage_number g)) _ end).1).0)
    (blocks_completed d g m (marks ++ block_end None ∷ []) one.orderly h (depth_more 0 marks (block_end None) ∙ less))

-- Each orderly sketch is completed by some rows.
pub completes : (k : Sketch) → IsOrderly k → Completes k
completes k is = by_repeat k.stage k.parts k.marks k.repeat is
  where
    after_start : (g : Stage) → g ≡ stages.Loads → nat_lt 0 (stage_number g) ≡ true
    after_start g e = ap (λ x. nat_lt 0 (stage_number x)) e

    by_stage : (g : Stage) (m : Parts) (marks : List DebugMark) → let k = sketch g m marks None in
        IsOrderly k → (b : Bool) → nat_lt 0 (stage_number g) ≡ b → Completes k
    by_stage g m marks is true h = blocks_completed (depth_after_all 0 marks) g m marks is h refl
    by_stage stages.Nothing m marks is false h = record {
      parts = bare_parts 1 Least;
      more = rows_of (bare_parts 1 Least);
      all = ap (λ l. l ++ rows_of (bare_parts 1 Least)) (sym is.later);
      few = (tt, tt);
      ends = λ end. absurd (no end);
    }
    by_stage stages.Module m marks is false h = absurd (no (sym h))
    by_stage stages.Extension m marks is false h = absurd (no (sym h))
    by_stage stages.Environment m marks is false h = absurd (no (sym h))
    by_stage stages.Sections m marks is false h = absurd (no (sym h))
    by_stage stages.Publics m marks is false h = absurd (no (sym h))
    by_stage stages.References m marks is false h = absurd (no (sym h))
    by_stage stages.Debug m marks is false h = absurd (no (sym h))
    by_stage stages.Loads m marks is false h = absurd (no (sym h))
    by_stage stages.Start m marks is false h = absurd (no (sym h))

    by_repeat : (g : Stage) (m : Parts) (marks : List DebugMark) (o : Option OpenRepeat)
        → let k = sketch g m marks o in IsOrderly k → Completes k
    by_repeat g m marks None is = by_stage g m marks is (nat_lt 0 (stage_number g)) refl
    by_repeat g m marks (Some open_repeat) is =
        let k = sketch g m marks (Some open_repeat) in
        let one = put_row k (on_end, None) is refl in
        one_more k (on_end, None) is one.rows (tt, tt)
        (λ end. no (both_true _ _ (both_true (nat_lt 0 (stage_number g)) _ end).1).1)
        (blocks_completed (depth_after_all 0 marks) g _ marks one.orderly (after_start g (is.in_loads refl)) refl)

-- Rows that run from the start are the first ones of some module, and all of them where a listing may end.
pub completed : (rows : List Row) → AreInOrder start rows
    → (m : Parts) × (more : List Row) × AreFew m × (rows_of m ≡ rows ++ more) × (may_end (state_after start rows) ≡ true → more ≡ [])
completed rows run =
    let at = reached rows blank blank_orderly run in
    let done = completes at.last at.orderly in
    let all : rows_of done.parts ≡ rows ++ done.more = done.all ∙ ap (λ l. l ++ done.more) at.all in (
      done.parts,
      done.more,
      parts_few done.parts (subst (λ (l : List Row). AreFewRows l) (sym all) (few_append rows done.more (run_few start rows run) done.few)),
      all,
      λ end. done.ends (ap may_end at.state ∙ end),
    )
