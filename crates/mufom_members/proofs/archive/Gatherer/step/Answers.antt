use Rattle.std.proofs.Common.{◌∙◌, sym, ap, refl, slice_get}
use Rattle.std.proofs.lemmas.Option.{slice_get_within}
use Rattle.mufom_archive.specs.Entries.{contents_of}
use Rattle.mufom_archive.specs.Reading.{entries_of}
use Rattle.mufom_members.proofs.Gathering.{goes_on, next_open, next_starts, stops_cut, stops_refused}
use Rattle.mufom_members.proofs.archive.Gatherer.step.Goals as goal

pub take-requires-clause-start : goal.take-requires-clause-start
take-requires-clause-start c =
    let next = ap (λ l. slice_get l c.args.self.now.done) (sym c.entries.ensures) ∙ sym c.in-Some.ensures in
    next_starts c.args.self.now c.requires.begun.0 c.args.chunk.now c.args.start c.in-Some.entry c.requires.begun.1 next

pub take-requires-clause-begun : goal.take-requires-clause-begun
take-requires-clause-begun c =
    let next = ap (λ l. slice_get l c.args.self.now.done) (sym c.entries.ensures) ∙ sym c.in-Some.ensures in (
      contents_of c.requires.begun.0 c.in-Some.entry,
      next_open c.args.self.now c.requires.begun.0 c.args.chunk.now c.args.start c.in-Some.entry c.requires.begun.1 next,
    )

pub returns-then-not-complete-clause-stepped : goal.returns-then-not-complete-clause-stepped
returns-then-not-complete-clause-stepped c = λ stream begun.
    let next = ap (λ l. slice_get l c.args.self.now.done) (sym c.entries.ensures) ∙ sym c.in-Some.ensures in
    stops_cut c.args.self.now c.take.new.self stream c.args.chunk.now c.part_of-part.result.now c.args.start c.in-Some.entry
    c.is_complete-complete.result begun next c.in_ok-take.ensures.options c.part_of-part.ensures c.len.result c.len.ensures
    c.is_complete-complete.ensures c.in_ok-take.ensures.taken c.if-not-complete.true

pub returns-then-has_refused-clause-stepped : goal.returns-then-has_refused-clause-stepped
returns-then-has_refused-clause-stepped c = λ stream begun.
    let next = ap (λ l. slice_get l c.args.self.now.done) (sym c.entries.ensures) ∙ sym c.in-Some.ensures in
    stops_refused c.args.self.now c.take.new.self stream c.args.chunk.now c.part_of-part.result.now c.args.start c.in-Some.entry
    c.is_complete-complete.result begun next c.in_ok-take.ensures.options c.part_of-part.ensures c.len.result c.len.ensures
    c.is_complete-complete.ensures c.in_ok-take.ensures.taken (sym c.has_refused.ensures ∙ c.if-has_refused.true)

pub returns-clause-stepped : goal.returns-clause-stepped
returns-clause-stepped c = λ stream begun.
    let next = ap (λ l. slice_get l c.args.self.now.done) (sym c.entries.ensures) ∙ sym c.in-Some.ensures in
    goes_on c.args.self.now c.take.new.self stream c.args.chunk.now c.part_of-part.result.now c.args.start c.in-Some.entry
    c.is_complete-complete.result begun next c.in_ok-take.ensures.options c.part_of-part.ensures c.len.result c.len.ensures
    c.is_complete-complete.ensures c.in_ok-take.ensures.taken c.if-not-complete.false (sym c.has_refused.ensures ∙ c.if-has_refused.false)

pub returns-clause-counts : goal.returns-clause-counts
returns-clause-counts c = λ is.
    let next = ap (λ l. slice_get l c.args.self.now.done) (sym c.entries.ensures) ∙ sym c.in-Some.ensures in
    (refl, slice_get_within (entries_of c.args.self.now.archive) c.args.self.now.done c.in-Some.entry next)
