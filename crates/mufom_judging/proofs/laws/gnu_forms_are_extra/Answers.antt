use Rattle.mufom_module.proofs.GnuLaws.{plain-gnu}
use Rattle.mufom_judging.proofs.laws.gnu_forms_are_extra.Goals as goal

pub returns : goal.returns
returns c = λ reads_debug bytes m is. plain-gnu reads_debug m bytes is
