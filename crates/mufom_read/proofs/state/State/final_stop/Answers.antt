use Rattle.std.proofs.Common.{◌∙◌, refl, sym, subst, inr, Bool, false, Some}
use Rattle.mufom_read.specs.declared.refusal.ReadStop.{ReadStop}
use Rattle.mufom_judging.specs.Prefixes.{is_ended}
use Rattle.mufom_read.specs.Reader.{HasEndedChunk}
use Rattle.mufom_read.proofs.stepping.Take.{never}
use Rattle.mufom_read.proofs.state.State.final_stop.Goals as goal

pub returns-then-is_ended : goal.returns-then-is_ended
returns-then-is_ended c = λ prefix is.
    subst (λ (b : Bool). HasEndedChunk b c.args.self.now.prefix.size c.args.is_longer c.args.self.now.rest.items c.args.self.now c.stop_after_end.result)
    (sym c.if-is_ended.true ∙ c.is_ended.ensures.prefix prefix is) c.stop_after_end.ensures

pub returns-then-is_longer : goal.returns-then-is_longer
returns-then-is_longer c = λ prefix is.
    subst (λ (b : Bool). HasEndedChunk b c.args.self.now.prefix.size c.args.is_longer c.args.self.now.rest.items c.args.self.now (Some c.refused.result))
    (sym c.if-is_ended.false ∙ c.is_ended.ensures.prefix prefix is)
    (subst (λ (s : ReadStop). HasEndedChunk false c.args.self.now.prefix.size c.args.is_longer c.args.self.now.rest.items c.args.self.now (Some s))
    (sym c.refused.ensures) (inr (refl, refl, c.if-is_longer.true)))

pub returns-else-is_longer : goal.returns-else-is_longer
returns-else-is_longer c = λ prefix is.
    (refl, c.if-is_longer.false, never (is_ended prefix) (sym c.if-is_ended.false ∙ c.is_ended.ensures.prefix prefix is))
