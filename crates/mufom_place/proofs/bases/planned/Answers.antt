use Rattle.std.proofs.Common.{◌≢◌, ◌<◌, None, get_or, length, take, vec_len, sym, ap, ◌∙◌, arith}
use Rattle.std.proofs.lemmas.List.{take_more}
use Rattle.mufom_place.specs.declared.placing.Placing.{Placing}
use Rattle.mufom_place.specs.Bases.{placing_of}
use Rattle.mufom_place.proofs.PlannedLemmas.{planned-next, planned-passed}
use Rattle.mufom_place.proofs.bases.planned.Goals as goal
use Rattle.mufom_place.proofs.bases.planned.Goals.{then-section-len, else-section-len}

pub loop-placing-preserved : goal.loop-placing-preserved
loop-placing-preserved c =
    let placings = c.args.placings.now in
    let i = c.loop-placing.placing-index in
    let none : Placing = record { section = 0; region = 0; base = 0 } in
    let p = get_or placings i none in
    let more = take_more placings i none c.loop-placing-test.true in
    let count = c.loop-placing.invariant.count in
    elim c.if-section-len.branch [
      | then-section-len w ↦ record {
        count = ap vec_len w.planned-is ∙ count;
        value = λ n h. let less = w.if-section-len.true in let is = c.len.ensures in let long = c.loop-placing.planned.ok.0 in
            let within : p.section < length c.loop-placing.planned.items = omega (arith, less, is, long) in
            ap (λ v. get_or v.items n None) w.planned-is ∙ planned-next c.loop-placing.planned.items (take i placings) p n within
            (c.loop-placing.invariant.value n h) ∙ ap (λ ps. placing_of ps n) (sym more);
      }
      | else-section-len w ↦ record {
        count = ap vec_len w.planned-is ∙ count;
        value = λ n h. let far = w.if-section-len.false in let is = c.len.ensures in
            let differ : p.section ≢ n = λ same. omega (arith, same, far, is, count, h) in
            ap (λ v. get_or v.items n None) w.planned-is ∙ c.loop-placing.invariant.value n h ∙ planned-passed (take i placings) p n differ
            ∙ ap (λ ps. placing_of ps n) (sym more);
      }
    ]
