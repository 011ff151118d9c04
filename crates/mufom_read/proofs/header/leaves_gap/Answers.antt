use Rattle.std.proofs.Common.{◌∙◌, ◌==◌, ◌&&◌, ap, sym, not, nat_eq, eq-eqb}
use Rattle.mufom_judging.specs.Prefixes.{first_present}
use Rattle.mufom_read.specs.Kept.{first_or}
use Rattle.mufom_read.proofs.WholeLaws.{gap-last}
use Rattle.mufom_read.proofs.header.leaves_gap.Goals as goal

pub returns-then-earlier-eq7 : goal.returns-then-earlier-eq7
returns-then-earlier-eq7 c =
    let first = c.first_or.ensures ∙ ap (λ f. first_or f c.args.offset) c.first_present.ensures in
    ap (λ f. not (nat_eq f c.args.end)) first
    ∙ sym (gap-last c.args.earlier.now c.args.offset c.args.end
    ∙ ap (λ b. b && not (first_or (first_present c.args.earlier.now) c.args.offset == c.args.end)) (eq-eqb _ 7 c.if-earlier-eq7.true))
