use Rattle.std.proofs.Common.{ℕ, List, refl, subst, ◌∙◌}
use Rattle.mufom_build_text.specs.Loosely.{ReadsWords}
use Rattle.mufom_build_text.proofs.InfixReading.{middle_more}
use Rattle.mufom_build_text.proofs.expression.Infix.pass_middle.Goals as goal

pub returns-clause-reads : goal.returns-clause-reads
returns-clause-reads c = λ start at. middle_more start c.args.cursor.now c.words.new.self c.args.self.now _ c.args.middle
    c.function_of-function.result at c.function_of-function.ensures.fits c.function_of-function.ensures.tells
    (subst (λ (l : List ℕ). ReadsWords l c.args.cursor.now c.words.new.self) (c.as_bytes.ensures.value ∙ c.infix_middle.ensures)
    c.words.ensures.reads)
    c.in_ok-push.ensures.items refl refl
