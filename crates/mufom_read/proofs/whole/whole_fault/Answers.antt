use Rattle.std.proofs.Common.{◌∙◌, ap, sym, None, []}
use Rattle.mufom_judging.specs.Faults.{open_fault, whole_fault}
use Rattle.mufom_read.specs.DebugSoFar.{stacked}
use Rattle.mufom_read.specs.PartsOfCode.{as_part}
use Rattle.mufom_read.specs.NamesSoFar.{public_faults, least_from}
use Rattle.mufom_read.specs.SectionsSoFar.{first_unbased}
use Rattle.mufom_read.proofs.FaultLaws.{section-fault, external-fault, debug-fault}
use Rattle.mufom_read.proofs.whole.whole_fault.Goals as goal

pub fault-requires : goal.fault-requires
fault-requires c = c.requires.sections

pub fault-requires-in-External : goal.fault-requires-in-External
fault-requires-in-External c = c.requires.publics

pub returns-in-Section : goal.returns-in-Section
returns-in-Section c = λ f prefix is tables contents.
    c.fault.ensures
    ∙ (λ k. first_unbased (contents k).sections.starts.items (contents k).sections.list.items)
    ∙ section-fault f prefix is
    ∙ sym (ap (λ p. whole_fault (as_part p) prefix) c.in-Section.is)

pub returns-in-External : goal.returns-in-External
returns-in-External c = λ f prefix is tables contents.
    c.fault-in-External.ensures
    ∙ (λ k. least_from None (public_faults (tables k) (contents k).publics.marks.items (contents k).publics.list.items))
    ∙ external-fault f prefix is
    ∙ sym (ap (λ p. whole_fault (as_part p) prefix) c.in-External.is)

pub returns-in-Debug : goal.returns-in-Debug
returns-in-Debug c = λ f prefix is tables contents.
    c.open_fault.ensures ∙ ap (λ bs. open_fault (stacked [] bs)) c.as_slice.ensures ∙ (λ k. open_fault (stacked [] (contents k).debug.blocks))
    ∙ debug-fault f prefix is ∙ sym (ap (λ p. whole_fault (as_part p) prefix) c.in-Debug.is)
