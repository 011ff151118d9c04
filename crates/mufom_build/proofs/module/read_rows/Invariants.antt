use Rattle.std.proofs.Common.{[], length}
use Rattle.mufom_text.specs.Words.{Text}
use Rattle.mufom_build.specs.Begun.{Begun}
use Rattle.mufom_build.specs.Drafts.{IsDraft, draft_rows}
use Rattle.mufom_build.proofs.module.read_rows.Given as goal

abbrev pub invariant-loop-alloc : goal.invariant-loop-alloc
invariant-loop-alloc l = record {
  begun : (text : Text) → Begun text [] l.fn.cursor → Begun text (draft_rows l.draft) l.cursor;
  kept : IsDraft l.draft;
}

abbrev pub decreases-loop-alloc : goal.decreases-loop-alloc
decreases-loop-alloc l = length l.cursor.rest
