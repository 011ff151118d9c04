use Rattle.std.proofs.Common.{map, sym, ◌∙◌, ap}
use Rattle.mufom_image_bytes.specs.Counted.{value_with}
use Rattle.mufom_image_bytes.specs.Walks.{progress_of}
use Rattle.mufom_image_bytes.proofs.OutcomeLaws.{repeated_with_bytes}
use Rattle.mufom_image_bytes.proofs.loads.load_repeat.Goals as goal

pub returns-clause-outcome : goal.returns-clause-outcome
returns-clause-outcome g c =
    rw (sym (repeated_with_bytes c.args.layout.now (value_with (g.E.Env.meaning c.args.values.now) c.args.layout.now.width) c.args.section
    c.args.count c.args.items.now (progress_of c.args.walk.now)))
    (rw (sym c.in_ok-items.ensures.items ∙ ap (map (λ item. item.now)) (sym c.deref.ensures.value)) c.load_copies.ensures.outcome)
