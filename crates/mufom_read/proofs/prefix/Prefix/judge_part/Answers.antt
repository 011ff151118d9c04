use Rattle.std.proofs.Common.{◌∙◌, sym, ap, option_map}
use Rattle.mufom_read.specs.Kept.{as_fault}
use Rattle.mufom_read.proofs.stepping.Step.{stepped-end, stepped-whole, stepped-fault}
use Rattle.mufom_read.proofs.prefix.Prefix.judge_part.Goals as goal

pub returns-then-is_ended : goal.returns-then-is_ended
returns-then-is_ended c = λ options prefix rest gone. stepped-end options prefix rest c.args.self.now c.args.count gone
    (sym c.if-is_ended.true ∙ c.is_ended.ensures.kept)

pub returns-in-None : goal.returns-in-None
returns-in-None c = λ options prefix rest gone. stepped-whole options prefix rest c.args.self.now c.args.count gone
    (λ steps is. ap (option_map as_fault) (sym c.in-None.is) ∙ c.ended_fault.ensures steps is)

pub returns-in-Some : goal.returns-in-Some
returns-in-Some c = λ options prefix rest gone. stepped-fault options prefix rest c.args.self.now c.args.count c.in-Some.refusal gone
    (sym c.if-is_ended.false ∙ c.is_ended.ensures.kept)
    (λ steps is. ap (option_map as_fault) (sym c.in-Some.is) ∙ c.ended_fault.ensures steps is)
