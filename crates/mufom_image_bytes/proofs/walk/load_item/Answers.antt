use Rattle.std.proofs.Common.{sym, ◌∙◌, ap}
use Rattle.std.specs.Prelude.{slice_index}
use Rattle.mufom_image_bytes.specs.Counted.{value_with}
use Rattle.mufom_image_bytes.specs.Walks.{progress_of}
use Rattle.mufom_image_bytes.proofs.OutcomeLaws.{item_empty, item_placed}
use Rattle.mufom_image_bytes.proofs.walk.load_item.Goals as goal

pub returns-then-count-eq0-clause-outcome : goal.returns-then-count-eq0-clause-outcome
returns-then-count-eq0-clause-outcome g c =
    sym (item_empty c.args.layout.now (value_with (g.E.Env.meaning c.args.values.now) c.args.layout.now.width) c.args.section c.args.item.now
    (progress_of c.args.walk.now) (sym c.item_length-count.ensures ∙ c.if-count-eq0.true))

pub returns-in-Some-clause-outcome : goal.returns-in-Some-clause-outcome
returns-in-Some-clause-outcome g c =
    sym (item_placed c.args.layout.now (value_with (g.E.Env.meaning c.args.values.now) c.args.layout.now.width) c.args.section c.args.item.now
    (progress_of c.args.walk.now)
    c.counter_of-at.result c.item_length-count.result _ (λ e. c.if-count-eq0.false (c.item_length-count.ensures ∙ e))
    (c.counter_of-at.ensures ∙ ap (λ counters. slice_index counters c.args.section) c.deref.ensures.value) c.item_length-count.ensures c.in-Some.ensures)

pub returns-in-None-clause-outcome : goal.returns-in-None-clause-outcome
returns-in-None-clause-outcome g c =
    rw (item_placed c.args.layout.now (value_with (g.E.Env.meaning c.args.values.now) c.args.layout.now.width) c.args.section c.args.item.now
    (progress_of c.args.walk.now)
    c.counter_of-at.result c.item_length-count.result _ (λ e. c.if-count-eq0.false (c.item_length-count.ensures ∙ e))
    (c.counter_of-at.ensures ∙ ap (λ counters. slice_index counters c.args.section) c.deref.ensures.value) c.item_length-count.ensures
    c.in-None.ensures) c.put_item.ensures.outcome
