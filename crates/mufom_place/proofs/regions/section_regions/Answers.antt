use Rattle.std.proofs.Common.{◌≡◌, ◌<◌, ◌≤◌, ◌++◌, ◌∷◌, [], None, length, map, take, sym, ap, ◌∙◌, length-append, arith}
use Rattle.std.proofs.lemmas.List.{get_or_default, map-append, take_all}
use Rattle.std.proofs.lemmas.List.FromFn.{length-enumerate_from}
use Rattle.mufom_place.specs.Bases.{Numbered, numbered, placing_of, site_of, site_with}
use Rattle.mufom_place.proofs.Steps.{take-numbered}
use Rattle.mufom_place.proofs.regions.section_regions.Goals as goal

pub loop-place-preserved : goal.loop-place-preserved
loop-place-preserved c =
    let plan = c.args.plan.now in
    let sections = c.args.sections.now in
    let commons = c.args.commons.now in
    let all = sections ++ commons in
    let place = c.loop-place.place in
    let section = c.section_at-section.result.now in
    let planned = c.in_ok-planned.planned.items in
    let region_at = λ (s : Numbered). (site_of plan sections commons s).region in
    let count = c.in_ok-planned.ensures.count in let long = c.in_ok-planned.planned.ok.0 in let is = c.len-place-end.ensures in
    let test = c.loop-place-test.true in
    let within : place < length planned = omega (arith, count, long, is, test) in
    let both = length-append sections commons in
    let inside : place < length all = omega (arith, count, both, is, test) in
    let given = c.as_slice.ensures ∙ c.in_ok-placings.ensures.given in
    let at : c.site.result ≡ site_of plan sections commons (place, section) =
    c.site.ensures ∙ ap (site_with section.base) (c.index.ensures ∙ get_or_default planned place c.index.result.now None within
    ∙ c.in_ok-planned.ensures.value place (omega (arith, count, is, test)) ∙ ap (λ ps. placing_of ps place) given) in
    c.in_ok-push.ensures.items
    ∙ (λ i. c.loop-place.invariant i ++ (at i).region ∷ [])
    ∙ sym (map-append region_at (take place (numbered all)) ((place, section) ∷ []))
    ∙ ap (map region_at) (sym (take-numbered all place section inside c.section_at-section.ensures))

pub returns : goal.returns
returns c =
    let plan = c.args.plan.now in
    let sections = c.args.sections.now in
    let commons = c.args.commons.now in
    let all = sections ++ commons in
    let count = c.in_ok-planned.ensures.count in let is = c.len-place-end.ensures in let test = c.loop-place-test.false in
    let both = length-append sections commons in
    let long = length-enumerate_from 0 all in
    let past : length (numbered all) ≤ c.loop-place.place = omega (arith, count, is, test, both, long) in
    c.loop-place.invariant ∙ ap (map (λ (s : Numbered). (site_of plan sections commons s).region)) (take_all c.loop-place.place (numbered all) past)
