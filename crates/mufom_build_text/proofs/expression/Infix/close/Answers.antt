use Rattle.std.proofs.Common.{◌∷◌, ◌++◌, [], flat_map, refl, ap, ◌∙◌, arith}
use Rattle.mufom_expr.specs.Tree.{tokens_of}
use Rattle.mufom_build_text.specs.Infix.{opened_tokens}
use Rattle.mufom_build_text.proofs.InfixReading.{between, closed, closing_enough, whole_read}
use Rattle.mufom_build_text.proofs.Lists.{empty}
use Rattle.mufom_build_text.proofs.expression.Infix.close.Goals as goal

pub returns-in-First-clause-reads : goal.returns-in-First-clause-reads
returns-in-First-clause-reads c = λ start behind. between start c.loop-frame.cursor c.loop-frame.self _ c.pop.new.self.items c.in-First.middle
    (c.loop-frame.invariant.reads start behind)
    (c.in-Some.ensures.items ∙ ap (λ f. c.pop.new.self.items ++ f ∷ []) c.in-First.is) refl refl refl

pub loop-frame-preserved : goal.loop-frame-preserved
loop-frame-preserved c = record {
  reads = λ start behind.
      let b = c.loop-frame.invariant.reads start behind in
      let last = c.in-Some.ensures.items ∙ ap (λ f. c.pop.new.self.items ++ f ∷ []) c.in-Last.is in
      let all = flat_map opened_tokens b.opened ++ tokens_of b.tree in
      closed start c.loop-frame.cursor c.words.new.self c.loop-frame.self c.add.new.self c.pop.new.self.items c.in-Last.function b last
      c.words.ensures.reads c.in_ok-add.ensures.frames
      (c.in_ok-add.ensures.keeps all (record { tokens = b.keeps.tokens; long = b.keeps.long })
      (closing_enough start c.loop-frame.cursor c.loop-frame.self c.pop.new.self.items c.in-Last.function b last));
  sound = λ sound. c.loop-frame.invariant.sound (c.words.ensures.reads.moves.sound sound);
  within = omega (arith, c.words.ensures.within);
}

pub returns-clause-reads : goal.returns-clause-reads
returns-clause-reads c = λ start behind. whole_read start c.loop-frame.cursor c.loop-frame.self _
    (c.loop-frame.invariant.reads start behind)
    (empty c.loop-frame.self.frames.items (omega (arith, c.in_default.ensures.cases.0, c.loop-frame.self.frames.ok.0)))
    refl refl
