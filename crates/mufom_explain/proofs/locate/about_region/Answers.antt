use Rattle.std.proofs.Common.{ℕ, ◌≡◌, ◌<◌, ◌++◌, ◌∙◌, ◌-◌, Some, length, sym, ap, arith}
use Rattle.std.specs.Prelude.{option_map, slice_get}
use Rattle.std.proofs.lemmas.List.{get_or_default}
use Rattle.std.proofs.lemmas.Option.{slice_get_within}
use Rattle.mufom_explain.specs.Details.{layout_of, region_at}
use Rattle.mufom_explain.specs.Explained.{explained_of, taken_at}
use Rattle.mufom_explain.specs.Region.{region_line, taken_in}
use Rattle.mufom_explain.proofs.RegionLaws.{taken-in}
use Rattle.mufom_explain.proofs.locate.about_region.Goals as goal

pub index-requires : goal.index-requires
index-requires c =
    let at = sym c.get.ensures ∙ ap (option_map (λ r. r.now)) c.in-Some.is in
    let inside = slice_get_within _ c.args.number _ at in
    let count = c.in_ok-ends.ensures.count in
    omega (arith, inside, count)

pub returns : goal.returns
returns c =
    let e = explained_of c.args.context.now in
    let n = c.args.number in
    let region = c.in-Some.region.now in
    let ends = c.in_ok-ends.ends.items in
    let at : slice_get e.plan.regions n ≡ Some region = sym c.get.ensures ∙ ap (option_map (λ r. r.now)) c.in-Some.is in
    let inside = slice_get_within e.plan.regions n region at in
    let count = c.in_ok-ends.ensures.count in
    let there : n < length ends = omega (arith, inside, count) in
    let end = c.index.ensures ∙ get_or_default ends n c.index.result.now 0 there in
    let took : c.saturating_sub-taken.result ≡ taken_in (layout_of e) n region
    = c.saturating_sub-taken.ensures ∙ ap (λ m. m - region.base) end ∙ taken-in (layout_of e) ends n region c.in_ok-ends.ensures at in
    let taken = ap (taken_at e n c.saturating_sub-taken.result) at ∙ ap (region_line e.maus n region) took ∙ sym (ap (region_at e n) at) in
    λ i. c.requires.copies i ++ taken i
