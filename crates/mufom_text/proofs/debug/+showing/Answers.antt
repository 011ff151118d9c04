use Rattle.std.proofs.Common.{ℕ, List, ◌+◌, ◌++◌, length, length-append, drop, take, sym, ap, subst, ◌∙◌, arith}
use Rattle.mufom_debug.specs.declared.item.Block.{Block}
use Rattle.mufom_debug.specs.declared.item.DebugItem.{DebugItem, Block as block_case}
use Rattle.mufom_debug.specs.Marks.{marks_of, marks_of_item, names_after_all}
use Rattle.mufom_text.specs.Show.{mark_lines}
use Rattle.mufom_debug.proofs.NameCounts.{names-Block, names-more, names-bound, marks-next}
use Rattle.mufom_text.proofs.MarkLines.{lines-Block, lines-Note, lines-Value, lines-more}
use Rattle.mufom_text.proofs.debug.+showing.Goals as goal

pub debug_item-returns-in-Block-clause-takes : goal.debug_item-returns-in-Block-clause-takes
debug_item-returns-in-Block-clause-takes g t c =
    let l = g.met.K.Output in
    let depth = c.args.depth in
    let n = c.args.names.now in
    let whole = ap (λ (x : DebugItem). mark_lines depth n (marks_of_item x)) (c.in-Block.is
    ∙ ap (λ (b : Block). block_case b) (sym c.get-block.ensures)) ∙ lines-Block depth n c.get-block.result.now in
    let text = l.joins _ _ _ _ _ (l.joins _ _ _ _ _ (rw c.as_slice.ensures at c.block_line.ensures n)
    (rw c.as_slice-in-Block.ensures at c.debug_items.ensures.takes)) c.end_line.ensures in
    subst (λ (bytes : List ℕ). g.K.Output.takes c.args.out.now c.end_line.new.out bytes) (sym whole) text

pub debug_item-returns-in-Block-clause-names : goal.debug_item-returns-in-Block-clause-names
debug_item-returns-in-Block-clause-names g t c =
    let n = c.args.names.now in
    c.debug_items.ensures.names ∙ ap (λ (items : List DebugItem). names_after_all n (marks_of items)) c.as_slice-in-Block.ensures
    ∙ sym (names-Block n c.get-block.result.now) ∙ ap (λ (x : DebugItem). names_after_all n (marks_of_item x))
    (sym (c.in-Block.is ∙ ap (λ (b : Block). block_case b) (sym c.get-block.ensures)))

pub debug_item-returns-in-Note-clause-takes : goal.debug_item-returns-in-Note-clause-takes
debug_item-returns-in-Note-clause-takes g t c =
    let depth = c.args.depth in
    let n = c.args.names.now in
    let whole = ap (λ (x : DebugItem). mark_lines depth n (marks_of_item x)) c.in-Note.is ∙ lines-Note depth n c.in-Note.name c.in-Note.note in
    subst (λ (bytes : List ℕ). g.K.Output.takes c.args.out.now c.note_line.new.out bytes) (sym whole) (c.note_line.ensures n)

pub debug_item-returns-in-Value-clause-takes : goal.debug_item-returns-in-Value-clause-takes
debug_item-returns-in-Value-clause-takes g t c =
    let depth = c.args.depth in
    let n = c.args.names.now in
    let whole = ap (λ (x : DebugItem). mark_lines depth n (marks_of_item x)) c.in-Value.is ∙ lines-Value depth n c.in-Value.name c.in-Value.value in
    subst (λ (bytes : List ℕ). g.K.Output.takes c.args.out.now c.value_line.new.out bytes) (sym whole) (c.value_line.ensures n)

pub debug_items-loop-place-preserved : goal.debug_items-loop-place-preserved
debug_items-loop-place-preserved g t c =
    let depth = c.args.depth in
    let n = c.args.names.now in
    let i = c.loop-place.place in
    let all = c.args.items.now in
    let x = c.index-items-place.result in
    let before = marks_of (take i all) in
    let names = c.loop-place.invariant.names in
    let lines = lines-more depth n all i x c.loop-place-test.true c.index-items-place.is
    ∙ ap (λ (k : ℕ). mark_lines depth n before ++ mark_lines depth k (marks_of_item x)) (sym names) in
    let bound = names-bound c.loop-place.names (marks_of_item x) in
    let count = ap length (marks-next all i x c.loop-place-test.true c.index-items-place.is) ∙ length-append (marks_of_item x) (marks_of (drop (i + 1) all)) in
    record {
      takes = subst (λ (bytes : List ℕ). g.K.Output.takes c.args.out.now c.debug_item.new.out bytes) (sym lines)
          (g.met.K.Output.joins _ _ _ _ _ c.loop-place.invariant.takes c.debug_item.ensures.takes);
      names = c.debug_item.ensures.names ∙ ap (λ (k : ℕ). names_after_all k (marks_of_item x)) names
          ∙ sym (names-more n all i x c.loop-place-test.true c.index-items-place.is);
      deep = omega (arith, count, c.loop-place.invariant.deep);
      few = omega (arith, count, c.debug_item.ensures.names, bound, c.loop-place.invariant.few);
    }
