use Rattle.std.proofs.Common.{◌≡◌, Bool, true, [], ◌∷◌, ◌++◌, List, Err, sym, ap, subst, ◌∙◌, arith}
use Rattle.std.proofs.lemmas.Result.{err_from_is_err_and}
use Rattle.mufom_build.specs.Begun.{Begun, IsRowNamed}
use Rattle.mufom_build.specs.Drafts.{draft_rows, state_of}
use Rattle.mufom_build.specs.Order.{State, start, state_after, may_come}
use Rattle.mufom_build.specs.ReadRows.{ReadsRow}
use Rattle.mufom_build.specs.Rows.{Row}
use Rattle.mufom_build.specs.Shown.{shown_kind}
use Rattle.mufom_build_text.specs.declared.refusal.PieceStop.{PieceStop}
use Rattle.mufom_build_text.specs.declared.refusal.PieceStop.TheVariants as stops
use Rattle.mufom_build_text.proofs.FirstBytes.{no}
use Rattle.mufom_build.proofs.ReadOn.{read_on, refused_on, row_shorter, stop_is, memory_is_no_place}
use Rattle.mufom_build.proofs.module.read_rows.Goals as goal

pub loop-alloc-init : goal.loop-alloc-init
loop-alloc-init c = record {
  begun = λ text begun. subst (λ (l : List Row). Begun text l c.args.cursor.now) (sym c.new-draft.ensures.rows) begun;
  kept = c.new-draft.ensures.kept;
}

pub counts-requires : goal.counts-requires
counts-requires c = c.loop-alloc.invariant.kept

pub may_take-may_come-requires : goal.may_take-may_come-requires
may_take-may_come-requires c = c.loop-alloc.invariant.kept

pub returns-in_err-end_row-clause-refused : goal.returns-in_err-end_row-clause-refused
returns-in_err-end_row-clause-refused c =
    λ text line column reason begun e.
    let p = err_from_is_err_and c.from_residual-in_err-end_row.result c.from_residual-in_err-end_row.ensures.1 in
    let s = state_of c.loop-alloc.draft in
    let stopped : c.in_err-end_row.field-0.0 ≡ stops.At line column reason = stop_is p.0 c.in_err-end_row.field-0.0 line column reason p.2
    (sym p.1 ∙ e) in
    let may : c.may_take-may_come.result ≡ may_come s (shown_kind c.in_ok-row.row) =
    c.may_take-may_come.ensures ∙ ap (λ k. may_come s k) c.kind.ensures in
    let named = c.in_err-end_row.ensures.wrong line column reason (ap Err stopped) in
    refused_on text (draft_rows c.loop-alloc.draft) s c.loop-alloc.cursor c.read_row.new.cursor c.in_ok-row.row line column reason
    c.loop-alloc.invariant.kept.far (c.in_ok-row.ensures.reads s c.counts.ensures) (c.loop-alloc.invariant.begun text begun)
    (λ none. no (sym c.loop-alloc-test.true ∙ c.is_at_end.ensures.1 none))
    (subst (λ (b : Bool). IsRowNamed b c.read_row.new.cursor line column reason) may named)

pub take-requires-clause-kept : goal.take-requires-clause-kept
take-requires-clause-kept c = c.loop-alloc.invariant.kept

pub loop-alloc-smaller : goal.loop-alloc-smaller
loop-alloc-smaller c =
    let reads = c.in_ok-row.ensures.reads (state_of c.loop-alloc.draft) c.counts.ensures in
    let shorter = row_shorter _ _ _ _ reads c.in_ok-end_row.ensures.right in
    omega (arith, shorter, c.in_ok-end_row.ensures.within)

pub loop-alloc-preserved : goal.loop-alloc-preserved
loop-alloc-preserved c =
    let s = state_of c.loop-alloc.draft in
    let reads = c.in_ok-row.ensures.reads s c.counts.ensures in
    let right = c.in_ok-end_row.ensures.right in
    let may : may_come s (shown_kind c.in_ok-row.row) ≡ true =
    ap (λ k. may_come s k) (sym c.kind.ensures) ∙ sym c.may_take-may_come.ensures ∙ c.in_ok-end_row.ensures.may in
    let put = c.in_ok-take.ensures reads.row (reads.same right) in
    let rows = draft_rows c.loop-alloc.draft in
    record {
      begun = λ text begun. subst (λ (l : List Row). Begun text l c.end_row.new.cursor) (sym put.rows)
          (read_on text rows s c.loop-alloc.cursor c.read_row.new.cursor c.end_row.new.cursor c.in_ok-row.row c.loop-alloc.invariant.kept.far reads
          (c.loop-alloc.invariant.begun text begun)
          (λ none. no (sym c.loop-alloc-test.true ∙ c.is_at_end.ensures.1 none)) may right c.in_ok-end_row.ensures.leaves);
      kept = put.kept;
    }

pub returns-in_err-take-clause-refused : goal.returns-in_err-take-clause-refused
returns-in_err-take-clause-refused c =
    λ text line column reason begun e.
    let p = err_from_is_err_and c.from_residual-in_err-take.result c.from_residual-in_err-take.ensures.1 in
    absurd (memory_is_no_place p.0 line column reason p.2 (sym p.1 ∙ e))

pub returns-clause-begun : goal.returns-clause-begun
returns-clause-begun c = c.loop-alloc.invariant.begun

pub returns-clause-kept : goal.returns-clause-kept
returns-clause-kept c = c.loop-alloc.invariant.kept
