use Rattle.std.proofs.Common.{flat_map}
use Rattle.std.proofs.lemmas.Result.{on_ok_weaker}
use Rattle.mufom_build_text.specs.Infix.{opened_tokens}
use Rattle.mufom_build_text.proofs.InfixReading.{leaf_more, leaf_enough}
use Rattle.mufom_build_text.proofs.expression.Infix.operand.Goals as goal

pub returns-clause-reads : goal.returns-clause-reads
returns-clause-reads c = λ start before.
    let opened = c.in_ok-open.ensures.reads start before in
    let leaf = c.leaf.ensures.reads c.in_ok-open.ensures.ends in
    let all = flat_map opened_tokens opened.opened in
    on_ok_weaker c.add.result
    (λ keeps. leaf_more start c.open.new.cursor c.leaf.new.cursor c.open.new.self c.add.new.self c.leaf.result opened leaf c.add.ensures.frames keeps)
    (c.add.ensures.keeps all opened.keeps (leaf_enough all c.leaf.result leaf.alone))
