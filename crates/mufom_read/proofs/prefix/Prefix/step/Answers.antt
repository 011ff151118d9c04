use Rattle.std.proofs.Common.{◌<◌, sym, subst}
use Rattle.mufom_read.proofs.WholeLaws.{if_ok}
use Rattle.mufom_read.proofs.stepping.Step.{part-within, read-gone}
use Rattle.mufom_read.proofs.stepping.Raw.{skip-gone}
use Rattle.mufom_read.proofs.prefix.Prefix.step.Goals as goal

pub skip-requires-clause-within : goal.skip-requires-clause-within
skip-requires-clause-within c =
    let prefix = c.requires.known.0 in
    let is = c.requires.known.1 in
    subst (λ n. n < c.in-Some.extent.to) (sym is.size) (part-within prefix c.args.self.now.location c.in-Some.extent c.in-Some.ensures.0 is.location)

pub returns-in-Some : goal.returns-in-Some
returns-in-Some c = if_ok _ _ c.skip.result (λ done skipped. λ prefix is unended whole.
    skip-gone c.args.options c.args.self.now prefix c.in-Some.extent c.args.self.now.location c.args.rest.now _ done is unended whole
    c.in-Some.ensures.0 is.location c.in-Some.ensures.1 skipped) c.skip.ensures

pub read-requires-clause-known : goal.read-requires-clause-known
read-requires-clause-known c = (c.requires.known.0, c.requires.known.1, c.requires.known.1.location)

pub returns-in-None : goal.returns-in-None
returns-in-None c = if_ok _ _ c.read.result (λ done judged. λ prefix is unended whole.
    let same = is.location in
    read-gone c.args.options prefix c.args.self.now.location c.args.rest.now _ done unended whole same c.in-None.ensures (judged prefix is same))
    c.read.ensures
