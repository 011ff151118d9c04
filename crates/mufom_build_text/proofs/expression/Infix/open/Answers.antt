use Rattle.std.proofs.Common.{ℕ, List, refl, subst, ◌∙◌, arith}
use Rattle.mufom_build_text.specs.Loosely.{ReadsWords}
use Rattle.mufom_build_text.proofs.InfixReading.{opened_more}
use Rattle.mufom_build_text.proofs.expression.Infix.open.Goals as goal

pub returns-then-is_bad-clause-reads : goal.returns-then-is_bad-clause-reads
returns-then-is_bad-clause-reads c = λ start before. opened_more c.in-Some.frame start c.loop-frame.cursor c.words.new.self c.loop-frame.self _
    c.in-Some.ensures.first
    (record {
      passed = subst (λ (l : List ℕ). ReadsWords l c.loop-frame.cursor c.words.new.self) (c.as_bytes.ensures.value ∙ c.opening.ensures)
          c.words.ensures.reads;
      tells = λ t more goes. c.opened.ensures.tells t more goes ∙ c.in-Some.is;
    })
    (c.loop-frame.invariant.reads start before) c.in_ok-push.ensures.items refl refl

pub loop-frame-preserved : goal.loop-frame-preserved
loop-frame-preserved c = record {
  reads = λ start before. opened_more c.in-Some.frame start c.loop-frame.cursor c.words.new.self c.loop-frame.self _
      c.in-Some.ensures.first
      (record {
        passed = subst (λ (l : List ℕ). ReadsWords l c.loop-frame.cursor c.words.new.self) (c.as_bytes.ensures.value ∙ c.opening.ensures)
            c.words.ensures.reads;
        tells = λ t more goes. c.opened.ensures.tells t more goes ∙ c.in-Some.is;
      })
      (c.loop-frame.invariant.reads start before) c.in_ok-push.ensures.items refl refl;
  within = omega (arith, c.words.ensures.within);
}
