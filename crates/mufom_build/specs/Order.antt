-- The order of the rows of a listing, and the line of each row.
use Rattle.std.specs.Prelude.{◌≡◌, ℕ, ◌+◌, ◌-◌, ◌==◌, ◌&&◌, not, nat_le, nat_lt, Bool, true, false, List, [], ◌∷◌, ◌++◌, length, Some, None}
use Rattle.std.specs.Prelude.{if◌then◌else◌}
use Rattle.mufom_build_text.specs.Pieces.{Piece, block}
use Rattle.mufom_build.specs.declared.order.Counts.{Counts}
use Rattle.mufom_build.specs.declared.order.Kind.{Kind}
use Rattle.mufom_build.specs.declared.order.Kind.TheVariants as kinds
use Rattle.mufom_build.specs.declared.order.Stage.{Stage}
use Rattle.mufom_build.specs.declared.order.Stage.TheVariants as stages
use Rattle.mufom_build.specs.Lines.{Line, HasFewNumbers, HasFewHeadNumbers}
use Rattle.mufom_build.specs.Rows.{on_module, on_extension, on_environment, on_section, on_public, on_note, on_reference}
use Rattle.mufom_build.specs.Rows.{on_block, on_end, on_name, on_value, on_select, on_counter, on_bytes, on_field, on_repeat}
use Rattle.mufom_build.specs.Rows.{on_start, Row, line_of}

-- ---- the state of a listing

-- The state of a listing after some rows: the part to which the last row belongs, the numbers of sections, publics, references and debug names so
-- far, the number of open blocks, and whether a repeat is open.
pub record State : Type 0 where
  pub stage : Stage
  pub sections : ℕ
  pub publics : ℕ
  pub references : ℕ
  pub names : ℕ
  pub depth : ℕ
  pub repeats : Bool

-- before the first row
abbrev pub start : State
start = record { stage = stages.Nothing; sections = 0; publics = 0; references = 0; names = 0; depth = 0; repeats = false }

-- the counts that a state has
pub record HasCounts (s : State) (counts : Counts) : Type 0 where
  pub sections : s.sections ≡ counts.sections
  pub publics : s.publics ≡ counts.publics
  pub references : s.references ≡ counts.references
  pub names : s.names ≡ counts.names
  pub depth : s.depth ≡ counts.depth

abbrev pub kind_of : Row → Kind
kind_of (on_module, p) = kinds.Title
kind_of (on_extension, p) = kinds.Extension
kind_of (on_environment, p) = kinds.Environment
kind_of (on_section, p) = kinds.Section
kind_of (on_public, p) = kinds.Public
kind_of (on_note, (None, note)) = kinds.Note
kind_of (on_note, (Some place, note)) = kinds.Debug
kind_of (on_reference, p) = kinds.Reference
kind_of (on_block, p) = kinds.Debug
kind_of (on_end, None) = kinds.End
kind_of (on_end, Some value) = kinds.EndWithValue
kind_of (on_name, p) = kinds.Debug
kind_of (on_value, p) = kinds.Debug
kind_of (on_select, p) = kinds.Load
kind_of (on_counter, p) = kinds.Load
kind_of (on_bytes, p) = kinds.Item
kind_of (on_field, p) = kinds.Item
kind_of (on_repeat, p) = kinds.Load
kind_of (on_start, p) = kinds.Start

-- ---- the rows that may come next

-- the parts of a listing in their order
abbrev pub stage_number : Stage → ℕ
stage_number stages.Nothing = 0
stage_number stages.Module = 1
stage_number stages.Extension = 2
stage_number stages.Environment = 3
stage_number stages.Sections = 4
stage_number stages.Publics = 5
stage_number stages.References = 6
stage_number stages.Debug = 7
stage_number stages.Loads = 8
stage_number stages.Start = 9

-- the number of the stage is in this range
abbrev pub is_within : ℕ → ℕ → Stage → Bool
is_within first last stage = nat_le first (stage_number stage) && nat_le (stage_number stage) last

-- a row of this kind may come outside all blocks and repeats, after a row of this stage
abbrev pub may_come_outside : Stage → Kind → Bool
may_come_outside stage kinds.Title = is_within 0 0 stage
may_come_outside stage kinds.Extension = is_within 1 1 stage
may_come_outside stage kinds.Environment = is_within 1 2 stage
may_come_outside stage kinds.Section = is_within 1 4 stage
may_come_outside stage kinds.Public = is_within 1 5 stage
may_come_outside stage kinds.Reference = is_within 1 6 stage
may_come_outside stage kinds.Note = is_within 5 6 stage
may_come_outside stage kinds.Debug = is_within 1 7 stage
may_come_outside stage kinds.End = false
may_come_outside stage kinds.EndWithValue = false
may_come_outside stage kinds.Load = is_within 1 8 stage
may_come_outside stage kinds.Item = is_within 1 8 stage
may_come_outside stage kinds.Start = is_within 1 8 stage

-- a row of this kind may come inside a block
abbrev pub may_come_inside : Kind → Bool
may_come_inside kinds.Title = false
may_come_inside kinds.Extension = false
may_come_inside kinds.Environment = false
may_come_inside kinds.Section = false
may_come_inside kinds.Public = false
may_come_inside kinds.Reference = false
may_come_inside kinds.Note = false
may_come_inside kinds.Debug = true
may_come_inside kinds.End = true
may_come_inside kinds.EndWithValue = true
may_come_inside kinds.Load = false
may_come_inside kinds.Item = false
may_come_inside kinds.Start = false

-- a row of this kind may come inside a repeat
abbrev pub may_be_repeated : Kind → Bool
may_be_repeated kinds.Title = false
may_be_repeated kinds.Extension = false
may_be_repeated kinds.Environment = false
may_be_repeated kinds.Section = false
may_be_repeated kinds.Public = false
may_be_repeated kinds.Reference = false
may_be_repeated kinds.Note = false
may_be_repeated kinds.Debug = false
may_be_repeated kinds.End = true
may_be_repeated kinds.EndWithValue = false
may_be_repeated kinds.Load = false
may_be_repeated kinds.Item = true
may_be_repeated kinds.Start = false

-- A row of this kind may come next: in an open repeat an item or its end, in an open block a debug row or its end, and otherwise a row that the order
-- of the parts allows.
abbrev pub may_come : State → Kind → Bool
may_come s kind = if s.repeats then may_be_repeated kind else if nat_lt 0 s.depth then may_come_inside kind else may_come_outside s.stage kind

-- the listing may end here
abbrev pub may_end : State → Bool
may_end s = nat_lt 0 (stage_number s.stage) && ((s.depth == 0) && not s.repeats)

-- ---- the effect of a row

abbrev pub next : State → Row → State
next s (on_module, p) = record s { stage = stages.Module }
next s (on_extension, p) = record s { stage = stages.Extension }
next s (on_environment, p) = record s { stage = stages.Environment }
next s (on_section, p) = record s { stage = stages.Sections; sections = s.sections + 1 }
next s (on_public, p) = record s { stage = stages.Publics; publics = s.publics + 1 }
next s (on_note, (None, note)) = s
next s (on_note, (Some place, note)) = record s { stage = stages.Debug }
next s (on_reference, p) = record s { stage = stages.References; references = s.references + 1 }
next s (on_block, p) = record s { stage = stages.Debug; depth = s.depth + 1 }
next s (on_end, p) = if s.repeats then record s { repeats = false } else record s { depth = s.depth - 1 }
next s (on_name, p) = record s { stage = stages.Debug; names = s.names + 1 }
next s (on_value, p) = record s { stage = stages.Debug }
next s (on_select, p) = record s { stage = stages.Loads }
next s (on_counter, p) = record s { stage = stages.Loads }
next s (on_bytes, p) = record s { stage = stages.Loads }
next s (on_field, p) = record s { stage = stages.Loads }
next s (on_repeat, p) = record s { stage = stages.Loads; repeats = true }
next s (on_start, p) = record s { stage = stages.Start }

abbrev pub state_after : State → List Row → State
state_after s [] = s
state_after s (r ∷ rows) = state_after (next s r) rows

-- ---- the lines of rows

-- the position or the count that a row must state; 0 if it states none
abbrev pub stated_by : State → Row → ℕ
stated_by s (on_section, p) = s.sections
stated_by s (on_public, p) = s.publics
stated_by s (on_reference, p) = s.references
stated_by s (on_name, p) = s.names
stated_by s (on_bytes, bytes) = length bytes
stated_by s _ = 0

-- the pieces before the first word of a row's line
abbrev pub before_word : State → Row → List Piece
before_word s (on_block, p) = block (s.depth + 1) ∷ []
before_word s _ = []

-- the line of a row
abbrev pub row_pieces : State → Row → Line
row_pieces s r = before_word s r ++ line_of (stated_by s r) r

-- the lines of rows, one after another
abbrev pub lines_from : State → List Row → List Line
lines_from s [] = []
lines_from s (r ∷ rows) = row_pieces s r ∷ lines_from (next s r) rows

-- ---- rows that can begin a listing

-- a note and a source block have no more numbers than the format has fields for
abbrev pub IsFew : Row → Type 0
IsFew (on_note, (place, note)) = HasFewNumbers note
IsFew (on_block, (head, title)) = HasFewHeadNumbers head
IsFew _ = Unit {0}

-- Each row may come after those before it, and has no more numbers than the format has fields for.
abbrev pub AreInOrder : State → List Row → Type 0
AreInOrder s [] = Unit {0}
AreInOrder s (r ∷ rows) = (may_come s (kind_of r) ≡ true) × IsFew r × AreInOrder (next s r) rows
