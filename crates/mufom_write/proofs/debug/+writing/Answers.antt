use Rattle.std.proofs.Common.{◌≡◌, ℕ, List, ◌+◌, ◌++◌, drop, length, refl, sym, ap, subst, ◌∙◌, arith, length-append}
use Rattle.mufom_debug.specs.declared.item.Block.{Block}
use Rattle.mufom_debug.specs.declared.item.DebugItem.{DebugItem, Block as block_case}
use Rattle.mufom_debug.specs.Marks.{marks_of, marks_of_item, names_after_all}
use Rattle.mufom_module.specs.Written.{shortest, debug_records}
use Rattle.mufom_module.specs.Defects.{has_long_name}
use Rattle.mufom_module.proofs.Walks.{any_mark_next}
use Rattle.mufom_write.proofs.Loops.{leads-step, leads-stop}
use Rattle.mufom_debug.proofs.NameCounts.{names-append, names-bound, marks-next, names-Block}
use Rattle.mufom_write.proofs.Marking.{records-append, records-Block, records-Value, or_last, however_ok}
use Rattle.mufom_write.proofs.debug.+writing.Goals as goal

pub debug_item-returns-in_err-block_begin-in-Block-clause-takes : goal.debug_item-returns-in_err-block_begin-in-Block-clause-takes
debug_item-returns-in_err-block_begin-in-Block-clause-takes g t c =
    let l = g.met.K.Output in
    let n = c.args.names.now in
    let split = ap (λ (x : DebugItem). debug_records shortest n (marks_of_item x)) (c.in-Block.is
    ∙ ap (λ (b : Block). block_case b) (sym c.get-block.ensures)) ∙ records-Block n c.get-block.result.now in
    l.stops _ _ _ _ _ _ _ (c.in_err-block_begin-in-Block.ensures n) c.from_residual.ensures.0 split

pub debug_item-returns-in_err-debug_items-in-Block-clause-takes : goal.debug_item-returns-in_err-debug_items-in-Block-clause-takes
debug_item-returns-in_err-debug_items-in-Block-clause-takes g t c =
    let l = g.met.K.Output in
    let n = c.args.names.now in
    let split = ap (λ (x : DebugItem). debug_records shortest n (marks_of_item x)) (c.in-Block.is
    ∙ ap (λ (b : Block). block_case b) (sym c.get-block.ensures)) ∙ records-Block n c.get-block.result.now in
    l.joins _ _ _ _ _ _ _ (c.in_ok-block_begin-in-Block.ensures n)
    (l.stops _ _ _ _ _ _ _ (rw c.as_slice.ensures at c.in_err-debug_items-in-Block.ensures.takes)
    c.from_residual-in_err-debug_items-in-Block.ensures.0 refl) split

pub debug_item-returns-in_ok-debug_items-in-Block-clause-takes : goal.debug_item-returns-in_ok-debug_items-in-Block-clause-takes
debug_item-returns-in_ok-debug_items-in-Block-clause-takes g t c =
    let l = g.met.K.Output in
    let n = c.args.names.now in
    let split = ap (λ (x : DebugItem). debug_records shortest n (marks_of_item x)) (c.in-Block.is
    ∙ ap (λ (b : Block). block_case b) (sym c.get-block.ensures)) ∙ records-Block n c.get-block.result.now in
    l.joins _ _ _ _ _ _ _ (c.in_ok-block_begin-in-Block.ensures n)
    (l.joins _ _ _ _ _ _ _ (rw c.as_slice.ensures at c.in_ok-debug_items-in-Block.ensures.takes) (c.block_end.ensures n) refl) split

pub debug_item-returns-in_ok-debug_items-in-Block-clause-names : goal.debug_item-returns-in_ok-debug_items-in-Block-clause-names
debug_item-returns-in_ok-debug_items-in-Block-clause-names g t c =
    let n = c.args.names.now in
    let inside = c.in_ok-debug_items-in-Block.ensures.names ∙ ap (λ (items : List DebugItem). names_after_all n (marks_of items)) c.as_slice.ensures in
    let all = inside ∙ sym (names-Block n c.get-block.result.now)
    ∙ ap (λ (x : DebugItem). names_after_all n (marks_of_item x)) (sym (c.in-Block.is ∙ ap (λ (b : Block). block_case b) (sym c.get-block.ensures))) in
    however_ok c.block_end.result (c.debug_items.new.names ≡ names_after_all n (marks_of_item c.args.item.now)) all

pub debug_item-returns-in-Value-clause-takes : goal.debug_item-returns-in-Value-clause-takes
debug_item-returns-in-Value-clause-takes g t c =
    let n = c.args.names.now in
    let whole = ap (λ (x : DebugItem). debug_records shortest n (marks_of_item x)) c.in-Value.is ∙ records-Value n c.in-Value.name c.in-Value.value in
    subst (λ (bytes : List ℕ). g.K.Output.takes c.args.out.now c.value_record.new.out bytes c.value_record.result) (sym whole) (c.value_record.ensures n)

pub debug_items-returns-in_err-debug_item-clause-takes : goal.debug_items-returns-in_err-debug_item-clause-takes
debug_items-returns-in_err-debug_item-clause-takes g t c =
    let n = c.loop-place.names in
    let i = c.loop-place.place in
    let all = c.args.items.now in
    let x = c.index-items-place.result in
    let after = marks_of (drop (i + 1) all) in
    let split = ap (debug_records shortest n) (marks-next all i x c.loop-place-test.true c.index-items-place.is) ∙ records-append n (marks_of_item x) after in
    leads-stop g.K.Output.takes g.met.K.Output.stops _ _ _ (debug_records shortest n (marks_of_item x))
    (debug_records shortest (names_after_all n (marks_of_item x)) after) _ _ _ _ split c.loop-place.invariant.leads
    c.in_err-debug_item.ensures.takes c.from_residual.ensures.0

pub debug_items-loop-place-preserved : goal.debug_items-loop-place-preserved
debug_items-loop-place-preserved g t c =
    let n = c.loop-place.names in
    let i = c.loop-place.place in
    let all = c.args.items.now in
    let x = c.index-items-place.result in
    let after = marks_of (drop (i + 1) all) in
    let next = marks-next all i x c.loop-place-test.true c.index-items-place.is in
    let names = c.in_ok-debug_item.ensures.names in
    let split = ap (debug_records shortest n) next ∙ records-append n (marks_of_item x) after
    ∙ ap (λ (k : ℕ). debug_records shortest n (marks_of_item x) ++ debug_records shortest k after) (sym names) in
    let bound = names-bound n (marks_of_item x) in
    let count = ap length next ∙ length-append (marks_of_item x) after in
    record {
      leads = leads-step g.K.Output.takes g.met.K.Output.joins _ _ _ (debug_records shortest n (marks_of_item x))
          (debug_records shortest c.debug_item.new.names after) _ _ split c.loop-place.invariant.leads c.in_ok-debug_item.ensures.takes;
      after = ap (λ (k : ℕ). names_after_all k after) names ∙ sym (names-append n (marks_of_item x) after) ∙ ap (names_after_all n) (sym next)
          ∙ c.loop-place.invariant.after;
      short = or_last _ _ _ (any_mark_next has_long_name all i x c.loop-place-test.true) c.loop-place.invariant.short;
      few = omega (arith, names, bound, count, c.loop-place.invariant.few);
    }
