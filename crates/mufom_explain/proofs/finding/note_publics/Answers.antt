use Rattle.std.proofs.Common.{◌+◌, ◌∙◌, List, map, take, ap, arith}
use Rattle.std.proofs.lemmas.List.{take_all}
use Rattle.mufom_names.specs.declared.name.Public.{Public}
use Rattle.mufom_explain.specs.declared.mention.MentionKind.TheVariants as kinds
use Rattle.mufom_explain.specs.Flat.{wanted_names}
use Rattle.mufom_explain.specs.Mentions.{defines_among, mention}
use Rattle.mufom_explain.specs.Noting.{noted_for, told_with}
use Rattle.mufom_explain.proofs.NotingLaws.{noted-next}
use Rattle.mufom_explain.proofs.ToldLaws.{defines-more}
use Rattle.mufom_explain.proofs.finding.note_publics.Goals as goal

pub loop-public-preserved : goal.loop-public-preserved
loop-public-preserved c = (
  c.in_ok-note_name.ensures.count ∙ c.loop-public.invariant.0,
  λ told are fresh.
      let m = mention c.args.position kinds.Public in
      let names = wanted_names c.args.wanted.now in
      let publics = c.args.publics.now in let i = c.loop-public.public-index in let p = c.public-item.result in
      let before = told_with told (defines_among (take i publics)) m in
      c.in_ok-note_name.ensures.told before (c.loop-public.invariant.1 told are fresh)
      ∙ ap (λ key. map (noted_for before key m) names) c.as_slice.ensures
      ∙ noted-next told (defines_among (take i publics)) (defines_among (take (i + 1) publics)) p.name m fresh
      (defines-more publics i p c.loop-public-test.true c.public-item.is) names,
)

pub returns : goal.returns
returns c = λ told are fresh.
    let m = mention c.args.position kinds.Public in
    let past = c.loop-public-test.false in
    c.loop-public.invariant.1 told are fresh
    ∙ ap (λ (ps : List Public). map (told_with told (defines_among ps) m) (wanted_names c.args.wanted.now))
    (take_all c.loop-public.public-index c.args.publics.now (omega (arith, past)))
