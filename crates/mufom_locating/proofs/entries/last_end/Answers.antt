use Rattle.mufom_locating.proofs.EntryLaws.{end-of-last}
use Rattle.std.proofs.Common.{◌∙◌, ◌+◌, ap}
use Rattle.mufom_locating.proofs.entries.last_end.Goals as goal

pub returns-in-Some-clause-end : goal.returns-in-Some-clause-end
returns-in-Some-clause-end c =
    ap (λ base. base + c.in-Some.last.now.size) c.base_at.ensures
    ∙ end-of-last c.args.bases.now c.args.number c.args.waiting.now c.in-Some.last.now c.in-Some.ensures.value
