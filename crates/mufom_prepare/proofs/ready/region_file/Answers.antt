use Rattle.std.proofs.Common.{[], ◌≡◌, ◌∙◌, Option, Some, None, ap, subst, sym}
use Rattle.std.specs.Prelude.{IfErr, IfOk, option_map}
use Rattle.mufom_plan.specs.declared.plan.Region.{Region}
use Rattle.mufom_groups.specs.Work.{gives}
use Rattle.mufom_works.proofs.ProductLaws.{region-unknown}
use Rattle.mufom_prepare.specs.Ready.{ready_output}
use Rattle.mufom_works.specs.WorkEnds.{EndsAt}
use Rattle.mufom_works.specs.Works.{bytes_unless, region_fact, region_image, region_named}
use Rattle.mufom_prepare.proofs.ready.region_file.Goals as goal

pub returns-in-Some-clause-ok : goal.returns-in-Some-clause-ok
returns-in-Some-clause-ok c =
    let name = c.args.name.now in let r = c.args.location.located in let regions = c.args.location.plan.regions in
    let there : region_named regions name ≡ Some c.in-Some.region.now
    = sym ((λ i. region_named (c.as_slice.ensures i) (c.as_slice-2.ensures i))) ∙ sym c.region_named.ensures ∙ ap (option_map (λ r. r.now)) c.in-Some.is in
    subst (λ (o : Option Region). IfOk c.range_file.result (λ ready. bytes_unless (region_fact name o) c.args.out.now (region_image c.args.fill o r)
    (gives (ready_output ready)))) (sym there) c.range_file.ensures.ok

pub returns-in-Some-clause-stops : goal.returns-in-Some-clause-stops
returns-in-Some-clause-stops c =
    let name = c.args.name.now in let r = c.args.location.located in let regions = c.args.location.plan.regions in
    let there : region_named regions name ≡ Some c.in-Some.region.now
    = sym ((λ i. region_named (c.as_slice.ensures i) (c.as_slice-2.ensures i))) ∙ sym c.region_named.ensures ∙ ap (option_map (λ r. r.now)) c.in-Some.is in
    subst (λ (o : Option Region). IfErr c.range_file.result (EndsAt (bytes_unless (region_fact name o) c.args.out.now (region_image c.args.fill o r))))
    (sym there) c.range_file.ensures.stops

pub returns-clause-stops : goal.returns-clause-stops
returns-clause-stops c =
    let name = c.args.name.now in let r = c.args.location.located in let regions = c.args.location.plan.regions in
    let there : region_named regions name ≡ None
    = sym ((λ i. region_named (c.as_slice.ensures i) (c.as_slice-2.ensures i))) ∙ sym c.region_named.ensures ∙ ap (option_map (λ r. r.now)) c.in-None.is in
    subst (λ (o : Option Region). EndsAt (bytes_unless (region_fact name o) c.args.out.now (region_image c.args.fill o r)) c.unknown_region.result)
    (sym there) (region-unknown name c.args.out.now [] c.unknown_region.result c.unknown_region.ensures)
