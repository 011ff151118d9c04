use Rattle.std.proofs.Common.{ap}
use Rattle.std.specs.Prelude.{option_map}
use Rattle.std.proofs.lemmas.Result.{IfOk-weaker, IfErr-weaker}
use Rattle.mufom_image_bytes.specs.Counted.{value_with}
use Rattle.mufom_image_bytes.specs.Stops.{fact_of}
use Rattle.mufom_image_bytes.specs.Loaded.{loaded_cells}
use Rattle.mufom_image_bytes.specs.Outcomes.{Outcome}
use Rattle.mufom_image_bytes.proofs.ImageLaws.{image_there, refusal_there}
use Rattle.mufom_image_bytes.proofs.image.image_of.Goals as goal

pub returns-clause-image : goal.returns-clause-image
returns-clause-image g c =
    let valuation = value_with (g.E.Env.meaning c.args.values.now) c.args.layout.now.width in
    let e = c.in_ok-walk.ensures.outcome in
    IfOk-weaker c.runs_of_loaded.result _ _
    (λ runs image. image_there c.args.layout.now valuation c.args.loads.now c.requires.high (loaded_cells c.in_ok-walk.walk.loaded)
    (option_map fact_of c.in_ok-walk.stop) runs
    (ap (λ (o : Outcome). o.0.cells) e) (ap (λ (o : Outcome). o.1) e) image)
    c.runs_of_loaded.ensures.image

pub returns-clause-refusal : goal.returns-clause-refusal
returns-clause-refusal g c =
    let valuation = value_with (g.E.Env.meaning c.args.values.now) c.args.layout.now.width in
    let e = c.in_ok-walk.ensures.outcome in
    IfErr-weaker c.runs_of_loaded.result _ _
    (λ refusal there. refusal_there c.args.layout.now valuation c.args.loads.now c.requires.high (loaded_cells c.in_ok-walk.walk.loaded)
    (option_map fact_of c.in_ok-walk.stop) refusal
    (ap (λ (o : Outcome). o.0.cells) e) (ap (λ (o : Outcome). o.1) e) there)
    c.runs_of_loaded.ensures.refusal
