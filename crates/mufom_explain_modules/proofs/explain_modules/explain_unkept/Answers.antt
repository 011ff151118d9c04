use Rattle.std.proofs.Common.{subst}
use Rattle.mufom_works.specs.WorkEnds.{EndsAt}
use Rattle.mufom_works.specs.Roots.{roots_by}
use Rattle.mufom_works.specs.Works.{kept_of}
use Rattle.mufom_explain.specs.Flat.{flat_of}
use Rattle.mufom_origins.specs.Origins.{modules_of}
use Rattle.mufom_outcome.specs.Outcomes.{outcome_of_prune}
use Rattle.mufom_refusals.specs.declared.prune.PruneRefusal.{PruneRefusal}
use Rattle.mufom_explain_modules.proofs.explain_modules.explain_unkept.Goals as goal

pub returns-in-Unknown : goal.returns-in-Unknown
returns-in-Unknown g c = λ files inputs plan ms keep made is.
    c.explain_unknown.ensures files inputs plan ms keep made (record {
      linked = is.linked;
      ends =
          subst (λ (r : PruneRefusal). EndsAt (kept_of (roots_by keep plan) (modules_of (flat_of c.args.flat.now))) (outcome_of_prune r)) c.in-Unknown.is
          is.ends;
    })
