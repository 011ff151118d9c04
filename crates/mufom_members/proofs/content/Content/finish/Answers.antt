use Rattle.std.proofs.Common.{sym, subst}
use Rattle.mufom_members.specs.declared.content.Content.{Content}
use Rattle.mufom_members.specs.Contents.{HasReadOf, IsVerdictAs, kind_of}
use Rattle.mufom_members.specs.Results.{HasModules}
use Rattle.mufom_members.proofs.content.Content.finish.Goals as goal

pub returns-in-Plain-clause-modules : goal.returns-in-Plain-clause-modules
returns-in-Plain-clause-modules c = λ limit stream has few.
    subst (λ (x : Content). HasModules (IsVerdictAs (kind_of x) limit stream) c.finish_plain.result) (sym c.in-Plain.is)
    (c.finish_plain.ensures.modules limit stream (subst (λ (x : Content). HasReadOf x stream) c.in-Plain.is has) few)
