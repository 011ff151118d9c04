use Rattle.std.proofs.Common.{◌≡◌, ◌∙◌, ◌+◌, List, drop, flat_map, ap, sym}
use Rattle.mufom_place.specs.declared.placing.Waiting.{Waiting}
use Rattle.mufom_planned.specs.Numbers.{last_end}
use Rattle.mufom_locating.proofs.ListLaws.{rest-next}
use Rattle.mufom_locating.proofs.EntryLaws.{end-append}
use Rattle.mufom_locating.proofs.entries.last_end_of_all.Goals as goal

pub loop-waiting-preserved : goal.loop-waiting-preserved
loop-waiting-preserved c =
    let lists = c.args.lists.now in
    let k = c.loop-waiting.waiting-index in
    let bases = c.args.bases.now in
    let item = c.waiting-item.result in
    let rest = flat_map (λ (own : List Waiting). own) (drop (k + 1) lists) in
    record {
      end = ap (λ n. last_end bases n rest) (c.last_end-end.ensures.end ∙ ap (last_end bases c.loop-waiting.end) c.as_slice.ensures)
          ∙ sym (end-append bases c.loop-waiting.end item rest)
          ∙ ap (λ xs. last_end bases c.loop-waiting.end (flat_map (λ (own : List Waiting). own) xs))
          (sym (rest-next lists k item c.loop-waiting-test.true c.waiting-item.is))
          ∙ c.loop-waiting.invariant.end;
      bound = c.last_end-end.ensures.bound;
    }
