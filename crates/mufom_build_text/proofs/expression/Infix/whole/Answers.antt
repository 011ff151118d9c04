use Rattle.std.proofs.Common.{Option, sym, subst, ◌∙◌, arith}
use Rattle.mufom_build_text.specs.declared.expression.Middle.{Middle}
use Rattle.mufom_build_text.specs.Infix.{IsClosed}
use Rattle.mufom_build_text.proofs.FirstBytes.{no}
use Rattle.mufom_build_text.proofs.InfixReading.{ended_whole, stopped_whole}
use Rattle.mufom_build_text.proofs.expression.Infix.whole.Goals as goal

pub returns-then-is_bad-clause-reads : goal.returns-then-is_bad-clause-reads
returns-then-is_bad-clause-reads c = λ start before. stopped_whole start c.operand-in-Some.new.cursor c.operand-in-Some.new.self
    (c.in_ok-operand-2.ensures.reads start (c.in_ok-pass_middle.ensures.reads start
    (subst (λ (m : Option Middle). IsClosed m start c.close.new.cursor c.close.new.self) c.in-Some.is
    (c.in_ok-middle.ensures.reads start (c.loop-middle.invariant.reads start before)))))
    (λ sound. no (sym sound ∙ sym c.is_bad.ensures ∙ c.if-is_bad.true))

pub loop-middle-preserved : goal.loop-middle-preserved
loop-middle-preserved c =
    let shorter = c.in_ok-operand-2.ensures.shorter (sym c.is_bad.ensures ∙ c.if-is_bad.false) in
    record {
      reads = λ start before. c.in_ok-operand-2.ensures.reads start (c.in_ok-pass_middle.ensures.reads start
          (subst (λ (m : Option Middle). IsClosed m start c.close.new.cursor c.close.new.self) c.in-Some.is
          (c.in_ok-middle.ensures.reads start (c.loop-middle.invariant.reads start before))));
      within = omega (arith, c.in_ok-operand-2.ensures.within, c.in_ok-pass_middle.ensures.within, c.in_ok-middle.ensures.within);
      shorter = λ sound. omega (arith, shorter, c.in_ok-pass_middle.ensures.within, c.in_ok-middle.ensures.within);
    }

pub returns-clause-reads : goal.returns-clause-reads
returns-clause-reads c = λ start before. ended_whole start c.close.new.cursor c.close.new.self
    (subst (λ (m : Option Middle). IsClosed m start c.close.new.cursor c.close.new.self) c.in_default.is
    (c.in_ok-middle.ensures.reads start (c.loop-middle.invariant.reads start before)))

pub returns-clause-shorter : goal.returns-clause-shorter
returns-clause-shorter c = λ sound.
    let before = c.loop-middle.invariant.shorter (c.in_ok-middle.ensures.sound sound) in
    omega (arith, before, c.in_ok-middle.ensures.within)
