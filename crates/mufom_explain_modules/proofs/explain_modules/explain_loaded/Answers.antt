use Rattle.std.proofs.Common.{List, subst, sym}
use Rattle.mufom_prepare.specs.Prepared.{AreReadFrom}
use Rattle.mufom_module.specs.declared.module.Parts.{Parts}
use Rattle.mufom_origins.specs.Words.{all_files}
use Rattle.mufom_explain_modules.proofs.explain_modules.explain_loaded.Goals as goal

pub returns : goal.returns
returns g c = λ files read.
    let inputs = c.args.inputs.now in let plan = c.args.loaded.plan in
    c.explain_obstacle.ensures files plan c.args.product.now
    (subst (λ (l : List Parts). AreReadFrom files inputs (all_files c.args.loaded.files) plan l) (sym c.as_slice-modules.ensures) read)
    c.in-Err.ensures.planned
