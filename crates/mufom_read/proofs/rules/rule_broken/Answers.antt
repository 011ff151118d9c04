use Rattle.std.proofs.Common.{◌∙◌, sym}
use Rattle.mufom_read.specs.Kept.{rule_broken_in}
use Rattle.mufom_read.proofs.RuleLaws.{rule_broken-tables}
use Rattle.mufom_read.proofs.rules.rule_broken.Goals as goal

pub returns : goal.returns
returns c = λ prefix p tables blocks row tree.
    c.first_broken.ensures
    ∙ (λ k. rule_broken_in (tables k) (blocks k) (sym row k) (sym tree k))
    ∙ rule_broken-tables prefix p
