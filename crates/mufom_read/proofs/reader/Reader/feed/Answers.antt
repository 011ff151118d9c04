use Rattle.std.proofs.Common.{◌++◌, ◌∙◌, refl, sym, ap, subst, Option}
use Rattle.mufom_numbers.proofs.SpellingLaws.{AreBytes-append}
use Rattle.mufom_read.specs.declared.refusal.ReadStop.{ReadStop}
use Rattle.mufom_read.specs.declared.state.State.{State}
use Rattle.mufom_read.specs.Reader.{IsReading, Knows, answer_of}
use Rattle.mufom_read.proofs.feeding.Chunks.{fits-bytes}
use Rattle.mufom_read.proofs.feeding.Feed.{feed-refused, stop-stays}
use Rattle.mufom_read.proofs.reader.Reader.feed.Goals as goal

pub invariant_of-self : goal.invariant_of-self
invariant_of-self c =
    let it = c.self.inside.state in
    let stream = c.self.invariant.0 in
    let has = c.self.invariant.1 in
    let bytes = AreBytes-append stream c.args.chunk.now has.0 (fits-bytes c.args.chunk.now c.type_inv.chunk) in
    (stream ++ c.args.chunk.now, (bytes, c.read_on.ensures.known stream bytes (subst (λ (o : Option ReadStop). Knows it stream o) c.in-None.is has.1)))

pub returns-in-None-clause-read : goal.returns-in-None-clause-read
returns-in-None-clause-read c = λ stream has.
    let bytes = AreBytes-append stream c.args.chunk.now has.0 (fits-bytes c.args.chunk.now c.type_inv.chunk) in
    let going = ap (λ (s : State). s.stop) (sym c.self.view_is) ∙ c.in-None.is in
    let reading = subst (λ (s : State). IsReading s stream) (sym c.self.view_is)
    (subst (λ (o : Option ReadStop). Knows c.args.self.now stream o) going has.1) in
    (bytes, c.read_on.ensures.known stream bytes reading)

pub returns-in-None-clause-refused : goal.returns-in-None-clause-refused
returns-in-None-clause-refused c = λ place reason stream has memory.
    let bytes = AreBytes-append stream c.args.chunk.now has.0 (fits-bytes c.args.chunk.now c.type_inv.chunk) in
    let going = ap (λ (s : State). s.stop) (sym c.self.view_is) ∙ c.in-None.is in
    let reading = subst (λ (s : State). IsReading s stream) (sym c.self.view_is)
    (subst (λ (o : Option ReadStop). Knows c.args.self.now stream o) going has.1) in
    feed-refused c.read_on.new.self (stream ++ c.args.chunk.now) c.read_on.result c.args.self.now.options place reason bytes
    (c.read_on.ensures.known stream bytes reading) memory c.read_on.ensures.answer
    (c.read_on.ensures.options ∙ ap (λ (s : State). s.options) c.self.view_is)

pub returns-in-Some-clause-read : goal.returns-in-Some-clause-read
returns-in-Some-clause-read c = λ stream has.
    let bytes = AreBytes-append stream c.args.chunk.now has.0 (fits-bytes c.args.chunk.now c.type_inv.chunk) in
    let stopped = ap (λ (s : State). s.stop) (sym c.self.view_is) ∙ c.in-Some.is in (
      bytes,
      subst (λ (o : Option ReadStop). Knows c.args.self.now (stream ++ c.args.chunk.now) o) (sym stopped)
          (stop-stays c.args.self.now stream c.args.chunk.now c.in-Some.stop bytes
          (subst (λ (o : Option ReadStop). Knows c.args.self.now stream o) stopped has.1)),
    )

pub returns-in-Some-clause-refused : goal.returns-in-Some-clause-refused
returns-in-Some-clause-refused c = λ place reason stream has memory.
    let bytes = AreBytes-append stream c.args.chunk.now has.0 (fits-bytes c.args.chunk.now c.type_inv.chunk) in
    let stopped = ap (λ (s : State). s.stop) (sym c.self.view_is) ∙ c.in-Some.is in
    let known = subst (λ (o : Option ReadStop). Knows c.args.self.now (stream ++ c.args.chunk.now) o) (sym stopped)
    (stop-stays c.args.self.now stream c.args.chunk.now c.in-Some.stop bytes (subst (λ (o : Option ReadStop). Knows c.args.self.now stream o) stopped has.1)) in
    feed-refused c.args.self.now (stream ++ c.args.chunk.now) _ c.args.self.now.options place reason bytes known memory (sym (ap answer_of stopped)) refl
