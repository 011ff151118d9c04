use Rattle.std.proofs.Common.{◌≡◌, ◌∙◌, ap, sym, arith, ◌∷◌, [], ◌++◌, length, length-append, map, drop, ◌+◌}
use Rattle.std.proofs.lemmas.List.{drop_more}
use Rattle.std.specs.Prelude.{◌||◌}
use Rattle.toml.specs.View.{view, table_view}
use Rattle.mufom_plan.specs.Names.{region_names, listed_names}
use Rattle.mufom_plan.specs.Commons.{has_common}
use Rattle.mufom_plan.specs.PlanText.{in_prefix, region_of, regions_of}
use Rattle.mufom_plan.proofs.PlanLemmas.{regions_of-next, region_names-append, listed_names-append, has_common-append}
use Rattle.mufom_plan.proofs.read.regions.Goals as goal

pub loop-place-preserved : goal.loop-place-preserved
loop-place-preserved c =
    let taken = c.loop-place.regions in
    let region = c.in_ok-region.region in
    let value = c.index-values-place.result in
    let more = map view (drop (c.loop-place.place + 1) c.args.values.now) in
    let pushed = c.in_ok-push.ensures.ok in
    let next = drop_more c.args.values.now c.loop-place.place value c.loop-place-test.true
    ∙ ap (λ v. v ∷ drop (c.loop-place.place + 1) c.args.values.now) (sym c.index-values-place.is) in
    let after : region_of (length taken) (region_names taken) (listed_names taken) (has_common taken) (table_view c.in-Some.table.now)
    ≡ region_of c.loop-place.place c.loop-place.names c.loop-place.listed c.loop-place.common (table_view c.in-Some.table.now) =
    (λ i. region_of (c.loop-place.invariant.count i) (sym c.loop-place.invariant.named i) (sym c.loop-place.invariant.listed i)
    (sym c.loop-place.invariant.common i) (table_view c.in-Some.table.now)) in
    record {
      count = ap length pushed ∙ length-append taken (region ∷ []) ∙ omega arith;
      named = c.in_ok-region.ensures.named ∙ ap (λ names. names ++ region.name ∷ []) c.loop-place.invariant.named
          ∙ sym (region_names-append taken region) ∙ ap region_names (sym pushed);
      listed = c.in_ok-region.ensures.listed ∙ ap (λ names. names ++ region.sections) c.loop-place.invariant.listed
          ∙ sym (listed_names-append taken region) ∙ ap listed_names (sym pushed);
      common = ap (λ b. b || region.common) c.loop-place.invariant.common ∙ sym (has_common-append taken region) ∙ ap has_common (sym pushed);
      rest = c.loop-place.invariant.rest
          ∙ ap (λ values. in_prefix taken (regions_of taken (map view values))) next
          ∙ regions_of-next taken (view value) more (table_view c.in-Some.table.now) region (sym c.in-Some.ensures) (after ∙ c.in_ok-region.ensures.ok)
          ∙ ap (λ regions. in_prefix regions (regions_of regions more)) (sym pushed);
    }
