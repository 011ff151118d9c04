use Rattle.std.proofs.Common.{map, length, sym, ◌∙◌}
use Rattle.mufom_numbers.proofs.Choices.{equal_numbers}
use Rattle.mufom_image_bytes.specs.Counted.{value_with}
use Rattle.mufom_image_bytes.specs.Walks.{progress_of}
use Rattle.mufom_image_bytes.proofs.OutcomeLaws.{copies_go, copies_end, repeated_empty}
use Rattle.mufom_image_bytes.proofs.loads.load_copies.Goals as goal

pub returns-then-is_some-clause-outcome : goal.returns-then-is_some-clause-outcome
returns-then-is_some-clause-outcome g c =
    copies_end c.args.layout.now (value_with (g.E.Env.meaning c.args.values.now) c.args.layout.now.width) c.args.section
    (map (λ item. item.now) c.args.items.now) c.args.count c.loop.counter
    (progress_of c.args.walk.now) (progress_of c.loop.walk) (progress_of c.load_items.new.walk) c.in_ok-stop.stop c.loop-test.true
    (sym c.is_some.ensures ∙ c.if-is_some.true)
    c.loop.invariant.outcome c.in_ok-stop.ensures.outcome

pub loop-preserved : goal.loop-preserved
loop-preserved g c = record {
  tiled = c.in_ok-stop.ensures.tiled;
  outcome = copies_go c.args.layout.now (value_with (g.E.Env.meaning c.args.values.now) c.args.layout.now.width) c.args.section
      (map (λ item. item.now) c.args.items.now) c.args.count c.loop.counter
      (progress_of c.args.walk.now) (progress_of c.loop.walk) (progress_of c.load_items.new.walk) c.in_ok-stop.stop c.loop-test.true
      (sym c.is_some.ensures ∙ c.if-is_some.false)
      c.loop.invariant.outcome c.in_ok-stop.ensures.outcome;
}

pub returns-then-is_empty-clause-outcome : goal.returns-then-is_empty-clause-outcome
returns-then-is_empty-clause-outcome g c =
    repeated_empty c.args.layout.now (value_with (g.E.Env.meaning c.args.values.now) c.args.layout.now.width) c.args.section (λ item. item.now)
    c.args.count c.args.items.now (progress_of c.args.walk.now)
    (equal_numbers (length c.args.items.now) 0 (sym c.is_empty.ensures ∙ c.if-is_empty.true))
