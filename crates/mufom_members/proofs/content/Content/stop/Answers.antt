use Rattle.std.proofs.Common.{◌++◌, length, sym, subst}
use Rattle.mufom_members.specs.declared.content.Content.{Content}
use Rattle.mufom_members.specs.Contents.{HasReadOf, IsVerdictAs, kind_of}
use Rattle.mufom_members.specs.Files.{past_limit}
use Rattle.mufom_members.specs.Results.{StopsBy}
use Rattle.mufom_members.proofs.Feeding.{archive_past, plain_past}
use Rattle.mufom_members.proofs.content.Content.stop.Goals as goal

pub returns-in-Archive-clause-stops : goal.returns-in-Archive-clause-stops
returns-in-Archive-clause-stops c = λ stream more has some.
    subst (λ (x : Content). StopsBy (IsVerdictAs (kind_of x) (length stream) (stream ++ more)) c.stop.result) (sym c.in-Archive.is)
    (archive_past c.in-Archive.gatherer.gathered.options stream more c.stop.result some
    (c.stop.ensures.stops stream (subst (λ (x : Content). HasReadOf x stream) c.in-Archive.is has)))

pub returns-clause-stops : goal.returns-clause-stops
returns-clause-stops c = λ stream more has some.
    subst (λ (x : Content). IsVerdictAs (kind_of x) (length stream) (stream ++ more) past_limit) (sym c.in-Plain.is)
    (plain_past stream more c.in-Plain.field-0 (subst (λ (x : Content). HasReadOf x stream) c.in-Plain.is has) some)
