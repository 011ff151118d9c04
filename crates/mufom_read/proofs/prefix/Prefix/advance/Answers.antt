use Rattle.std.proofs.Common.{◌++◌, subst}
use Rattle.mufom_read.specs.declared.prefix.Next.{Next}
use Rattle.mufom_read.specs.PrefixOfCode.{IsStepTaken}
use Rattle.mufom_read.specs.declared.prefix.Next.TheVariants as next
use Rattle.mufom_judging.specs.Prefixes.{offset_records_of}
use Rattle.mufom_read.proofs.so_far.Contents.{contents-marked}
use Rattle.mufom_read.proofs.stepping.Step.{stepped-refused}
use Rattle.mufom_read.proofs.prefix.Prefix.advance.Goals as goal

pub returns-in-Refused : goal.returns-in-Refused
returns-in-Refused c = λ prefix is unended whole.
    stepped-refused c.args.options prefix c.args.rest.now c.step.new.self c.in-Refused.refusal unended whole
    (subst (λ (next : Next). IsStepTaken c.args.options prefix c.args.rest.now c.step.new.self next) c.in-Refused.is
    (c.in_ok-count.ensures prefix is unended whole))

pub judge_part-requires : goal.judge_part-requires
judge_part-requires c =
    let prefix = c.requires.known.0 in
    let is = c.requires.known.1 in
    let taken : IsStepTaken c.args.options prefix c.args.rest.now c.step.new.self (next.Took c.in-Took.count) =
    subst (λ (next : Next). IsStepTaken c.args.options prefix c.args.rest.now c.step.new.self next) c.in-Took.is
    (c.in_ok-count.ensures prefix is c.requires.known.2 c.requires.known.3) in
    contents-marked c.step.new.self.contents (offset_records_of (prefix ++ taken.0)) taken.1.contents

pub returns-in-Took : goal.returns-in-Took
returns-in-Took c = λ prefix is unended whole.
    c.judge_part.ensures c.args.options prefix c.args.rest.now
    (subst (λ (next : Next). IsStepTaken c.args.options prefix c.args.rest.now c.step.new.self next) c.in-Took.is
    (c.in_ok-count.ensures prefix is unended whole))
