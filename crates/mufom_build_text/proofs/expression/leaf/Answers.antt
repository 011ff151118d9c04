use Rattle.std.proofs.Common.{ℕ, List, subst, ◌∙◌}
use Rattle.mufom_build_text.specs.Loosely.{ReadsWords}
use Rattle.mufom_build_text.proofs.InfixReading.{number_leaf, variable_leaf}
use Rattle.mufom_build_text.proofs.expression.leaf.Goals as goal

pub returns-in_default-clause-reads : goal.returns-in_default-clause-reads
returns-in_default-clause-reads c = λ tells. number_leaf c.number.result tells
    (λ t more goes none. c.letter.ensures t more goes none ∙ c.in_default.is) c.number.ensures.reads

pub returns-clause-reads : goal.returns-clause-reads
returns-clause-reads c = λ tells. variable_leaf c.in-Some.letter c.place.result tells
    (λ t more goes none. c.letter.ensures t more goes none ∙ c.in-Some.is)
    (subst (λ (l : List ℕ). ReadsWords l c.args.cursor.now c.words.new.self) (c.as_bytes.ensures.value ∙ c.letter_name.ensures) c.words.ensures.reads)
    c.place.ensures.reads
