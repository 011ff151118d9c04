-- The rows that a draft of a module states.
use Rattle.std.specs.Prelude.{◌≡◌, List, [], ◌∷◌, ◌++◌}
use Rattle.mufom_names.specs.declared.name.Note.{Note}
use Rattle.mufom_build.specs.declared.draft.Draft.{Draft}
use Rattle.mufom_build.specs.declared.order.Stage.{Stage}
use Rattle.mufom_build.specs.Order.{State, start, next, state_after}
use Rattle.mufom_build.specs.Outlines.{marks_so_far, IsKept}
use Rattle.mufom_build.specs.Rows.{Row}
use Rattle.mufom_build.specs.Sketches.{Sketch, sketch_rows, sketch_state, IsOrderly, put, put_note}

-- the draft, with its debug items as a list of records
abbrev pub sketch_of : Draft → Sketch
sketch_of d = record { stage = d.stage; parts = d.parts; marks = marks_so_far d.outline; repeat = d.repeat }

-- The rows that a draft states.
abbrev pub draft_rows : Draft → List Row
draft_rows d = sketch_rows (sketch_of d)

-- The state of a listing after these rows.
abbrev pub state_of : Draft → State
state_of d = sketch_state (sketch_of d)

-- The draft is consistent: its outline counts its blocks and names, its stage is that of its last row, and its state is the one after its rows.
pub record IsDraft (d : Draft) : Type 0 where
  pub outline : IsKept d.outline
  pub orderly : IsOrderly (sketch_of d)
  pub far : state_of d ≡ state_after start (draft_rows d)

-- a row is added to a draft
pub record IsPut (before after : Draft) (r : Row) : Type 0 where
  pub sketch : sketch_of after ≡ put (sketch_of before) r
  pub outline : IsKept after.outline

-- a note is added to the last name of the part of this stage
pub record IsPutNote (stage : Stage) (before after : Draft) (note : Note) : Type 0 where
  pub sketch : sketch_of after ≡ put_note stage (sketch_of before) note
  pub outline : IsKept after.outline

-- The second draft states one row more than the first, and is a draft.
pub record IsNext (before after : Draft) (r : Row) : Type 0 where
  pub rows : draft_rows after ≡ draft_rows before ++ r ∷ []
  pub state : state_of after ≡ next (state_of before) r
  pub kept : IsDraft after
