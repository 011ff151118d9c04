use Rattle.std.proofs.Common.{◌+◌, ◌∙◌, List, map, take, ap, arith}
use Rattle.std.proofs.lemmas.List.{take_all}
use Rattle.mufom_names.specs.declared.name.Reference.{Reference}
use Rattle.mufom_explain.specs.declared.mention.MentionKind.TheVariants as kinds
use Rattle.mufom_explain.specs.Flat.{wanted_names}
use Rattle.mufom_explain.specs.Mentions.{refers_among, mention}
use Rattle.mufom_explain.specs.Noting.{noted_for, told_with}
use Rattle.mufom_explain.proofs.NotingLaws.{noted-next}
use Rattle.mufom_explain.proofs.ToldLaws.{refers-more}
use Rattle.mufom_explain.proofs.finding.note_references.Goals as goal

pub loop-reference-preserved : goal.loop-reference-preserved
loop-reference-preserved c = (
  c.in_ok-note_name.ensures.count ∙ c.loop-reference.invariant.0,
  λ told are fresh.
      let m = mention c.args.position kinds.Reference in
      let names = wanted_names c.args.wanted.now in
      let references = c.args.references.now in let i = c.loop-reference.reference-index in let p = c.reference-item.result in
      let before = told_with told (refers_among (take i references)) m in
      c.in_ok-note_name.ensures.told before (c.loop-reference.invariant.1 told are fresh)
      ∙ ap (λ key. map (noted_for before key m) names) c.as_slice.ensures
      ∙ noted-next told (refers_among (take i references)) (refers_among (take (i + 1) references)) p.name m fresh
      (refers-more references i p c.loop-reference-test.true c.reference-item.is) names,
)

pub returns : goal.returns
returns c = λ told are fresh.
    let m = mention c.args.position kinds.Reference in
    let past = c.loop-reference-test.false in
    c.loop-reference.invariant.1 told are fresh
    ∙ ap (λ (ps : List Reference). map (told_with told (refers_among ps) m) (wanted_names c.args.wanted.now))
    (take_all c.loop-reference.reference-index c.args.references.now (omega (arith, past)))
