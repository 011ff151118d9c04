-- What one more row makes of a draft.
use Rattle.std.proofs.Common.{◌≡◌, true, List, [], ◌∷◌, ◌++◌, Some, None, refl, sym, ap, subst, ◌∙◌}
use Rattle.mufom_names.specs.declared.name.Note.{Note}
use Rattle.mufom_names.specs.declared.name.Public.{Public}
use Rattle.mufom_names.specs.declared.name.Reference.{Reference}
use Rattle.mufom_loads.specs.declared.load.Item.{Item}
use Rattle.mufom_loads.specs.declared.load.Item.TheVariants.{Literal, Field}
use Rattle.mufom_build.specs.declared.draft.Draft.{Draft}
use Rattle.mufom_build.specs.declared.order.Stage.TheVariants as stages
use Rattle.mufom_build.specs.declared.row.Row.{Row as ReadRow}
use Rattle.mufom_build.specs.declared.row.Row.TheVariants as read
use Rattle.mufom_build.specs.Drafts.{sketch_of, draft_rows, state_of, IsDraft, IsPut, IsPutNote, IsNext}
use Rattle.mufom_build.specs.Order.{State, start, kind_of, may_come, next, state_after}
use Rattle.mufom_build.specs.Rows.{Row, item_row}
use Rattle.mufom_build.specs.Shown.{Shows, shown, shown_kind}
use Rattle.mufom_build.specs.Sketches.{sketch_rows, sketch_state, IsOrderly, put, put_item, with_last}
use Rattle.mufom_build.specs.Sketches.{noted_public, noted_reference}
use Rattle.mufom_build.specs.Outlines.{IsKept}
use Rattle.mufom_build.proofs.Sketches.{put_row, last_changed}

one_of : {X : Type 0} (x y : X) → x ∷ [] ≡ y ∷ [] → x ≡ y
one_of x y e = cc

item_kind : (item : Item) → kind_of (item_row item) ≡ shown_kind (read.Item item)
item_kind (Literal bytes) = refl
item_kind (Field kind size value) = refl

-- a value that states a row is of the row's kind
pub kind_shown : (value : ReadRow) (r : Row) → Shows value r → shown_kind value ≡ kind_of r
kind_shown (read.Title title) r e = ap kind_of (one_of _ r e)
kind_shown (read.Extension []) r e = cc
kind_shown (read.Extension (b ∷ bytes)) r e = ap kind_of (one_of _ r e)
kind_shown (read.Environment []) r e = cc
kind_shown (read.Environment (b ∷ bytes)) r e = ap kind_of (one_of _ r e)
kind_shown (read.Section section) r e = ap kind_of (one_of _ r e)
kind_shown (read.Public name value) r e = ap kind_of (one_of _ r e)
kind_shown (read.Reference name weak) r e = ap kind_of (one_of _ r e)
kind_shown (read.Note note) r e = ap kind_of (one_of _ r e)
kind_shown (read.DebugNote name note) r e = ap kind_of (one_of _ r e)
kind_shown (read.Block head name) r e = ap kind_of (one_of _ r e)
kind_shown (read.End None) r e = ap kind_of (one_of _ r e)
kind_shown (read.End (Some value)) r e = ap kind_of (one_of _ r e)
kind_shown (read.Name name) r e = ap kind_of (one_of _ r e)
kind_shown (read.Value name value) r e = ap kind_of (one_of _ r e)
kind_shown (read.Select section) r e = ap kind_of (one_of _ r e)
kind_shown (read.Counter section value) r e = ap kind_of (one_of _ r e)
kind_shown (read.Item item) r e = sym (item_kind item) ∙ ap kind_of (one_of _ r e)
kind_shown (read.Repeat times) r e = ap kind_of (one_of _ r e)
kind_shown (read.Start value) r e = ap kind_of (one_of _ r e)

state_more : (s : State) (rows : List Row) (r : Row) → state_after s (rows ++ r ∷ []) ≡ next (state_after s rows) r
state_more s [] r = refl
state_more s (x ∷ rows) r = state_more (next s x) rows r

-- a row that is put to a draft, and may come, is the next row of it
next_row : (before after : Draft) (r : Row) → IsDraft before → may_come (state_of before) (kind_of r) ≡ true → IsPut before after r → IsNext before after r
next_row before after r is may done =
    let one = put_row (sketch_of before) r is.orderly may in
    let rows : draft_rows after ≡ draft_rows before ++ r ∷ [] = ap sketch_rows done.sketch ∙ one.rows in
    let state : state_of after ≡ next (state_of before) r = ap sketch_state done.sketch ∙ one.state in
    record {
      rows = rows;
      state = state;
      kept = record {
        outline = done.outline;
        orderly = subst IsOrderly (sym done.sketch) one.orderly;
        far = state ∙ ap (λ s. next s r) is.far ∙ sym (state_more start (draft_rows before) r) ∙ ap (state_after start) (sym rows);
      };
    }

-- the same of the row that a value states
pub taken : (before after : Draft) (value : ReadRow) (q : Row) → IsDraft before → may_come (state_of before) (shown_kind value) ≡ true
    → shown value ≡ q ∷ [] → IsPut before after q → (r : Row) → Shows value r → IsNext before after r
taken before after value q is may stated done r shows =
    let same = one_of q r (sym stated ∙ shows) in
    next_row before after r is (ap (may_come (state_of before)) (sym (kind_shown value r shows)) ∙ may) (subst (λ (x : Row). IsPut before after x) same done)

-- an item is put as the row of it
pub item_is_put : (before after : Draft) (item : Item) → sketch_of after ≡ put_item before.repeat (sketch_of before) item
    → sketch_of after ≡ put (sketch_of before) (item_row item)
item_is_put before after (Literal bytes) e = e
item_is_put before after (Field kind size value) e = e

-- the last element is changed
pub changed : {X : Type 0} (change : X → X) (before after rest : List X) (x : X) → before ≡ rest ++ x ∷ [] → after ≡ rest ++ change x ∷ []
    → after ≡ with_last change before
changed change before after rest x e f = f ∙ sym (last_changed change rest x) ∙ ap (with_last change) (sym e)

-- ---- a note of the last name

pub public_noted : (d : Draft) (publics rest : List Public) (p : Public) (notes : List Note) (note : Note) → IsKept d.outline
    → d.parts.names.publics ≡ rest ++ p ∷ [] → publics ≡ rest ++ record p { notes = notes } ∷ [] → notes ≡ p.notes ++ note ∷ []
    → IsPutNote stages.Publics d (record d { parts = record d.parts { names = record d.parts.names { publics = publics } } }) note
public_noted d publics rest p notes note kept before after more =
    let same = changed (noted_public note) d.parts.names.publics publics rest p before
    (after ∙ ap (λ ns. rest ++ record p { notes = ns } ∷ []) more) in
    record {
      sketch = ap (λ ps. sketch_of (record d { parts = record d.parts { names = record d.parts.names { publics = ps } } })) same;
      outline = kept;
    }

pub reference_noted : (d : Draft) (references rest : List Reference) (p : Reference) (notes : List Note) (note : Note) → IsKept d.outline
    → d.parts.names.references ≡ rest ++ p ∷ [] → references ≡ rest ++ record p { notes = notes } ∷ [] → notes ≡ p.notes ++ note ∷ []
    → IsPutNote stages.References d (record d { parts = record d.parts { names = record d.parts.names { references = references } } }) note
reference_noted d references rest p notes note kept before after more =
    let same = changed (noted_reference note) d.parts.names.references references rest p before
    (after ∙ ap (λ ns. rest ++ record p { notes = ns } ∷ []) more) in
    record {
      sketch = ap (λ ps. sketch_of (record d { parts = record d.parts { names = record d.parts.names { references = ps } } })) same;
      outline = kept;
    }
