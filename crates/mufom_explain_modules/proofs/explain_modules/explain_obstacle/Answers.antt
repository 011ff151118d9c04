use Rattle.std.proofs.Common.{None, ap, refl, subst, sym, ◌∙◌, ◌≡◌}
use Rattle.mufom_explain_modules.proofs.KeptFlat.{told-ends, told-flat, told-kept}
use Rattle.mufom_works.specs.FlatFiles.{files_with}
use Rattle.mufom_prepare.specs.Locations.{HasPlan, IsObstacle}
use Rattle.mufom_works.specs.Roots.{roots_by}
use Rattle.mufom_prepare.specs.Prepared.{AreReadFrom}
use Rattle.mufom_explain.specs.Flat.{flat_of}
use Rattle.mufom_outcome.specs.Outcomes.{outcome_of_prune}
use Rattle.mufom_plan.specs.declared.plan.Plan.{Plan}
use Rattle.mufom_words.specs.Tree.{tree_of}
use Rattle.mufom_task.specs.declared.task.Task.TheVariants as task
use Rattle.mufom_origins.specs.Words.{all_files}
use Rattle.mufom_explain_modules.proofs.explain_modules.explain_obstacle.Goals as goal

pub explain_unlocated-requires-clause-names : goal.explain_unlocated-requires-clause-names
explain_unlocated-requires-clause-names g c =
    (subst (IsObstacle (tree_of c.args.inputs.now.marks) c.args.keep.now c.args.modules.now) c.in-Unlocated.is c.requires.obstacle).names

pub explain_unlocated-requires-clause-met : goal.explain_unlocated-requires-clause-met
explain_unlocated-requires-clause-met g c =
    (subst (IsObstacle (tree_of c.args.inputs.now.marks) c.args.keep.now c.args.modules.now) c.in-Unlocated.is c.requires.obstacle).met

pub returns-in-Unlinked : goal.returns-in-Unlinked
returns-in-Unlinked g c = λ files plan made read planned.
    let inputs = c.args.inputs.now in let keep = c.args.keep.now in let names = all_files c.args.names.now in let ms = c.args.modules.now in
    let tree = tree_of inputs.marks in let linkable = c.requires.linkable in
    let is = subst (IsObstacle tree keep ms) c.in-Unlinked.is c.requires.obstacle in
    c.explain_unlinked.ensures files plan (task.Locate inputs keep made) None read (refl, refl) is

pub returns-in-Ok : goal.returns-in-Ok
returns-in-Ok g c = λ files plan made read planned.
    let inputs = c.args.inputs.now in let keep = c.args.keep.now in let names = all_files c.args.names.now in let ms = c.args.modules.now in
    let tree = tree_of inputs.marks in let linkable = c.requires.linkable in
    let is = subst (IsObstacle tree keep ms) c.in-Unkept.is c.requires.obstacle in
    let places = c.in-Unkept.places in let flat = flat_of c.deref.result.now in
    let are : flat ≡ files_with tree ms places.chosen = ap flat_of c.deref.ensures.value ∙ c.in-Ok.ensures.flat in
    let own = c.in-Unkept.plan in let same : own ≡ plan = subst (HasPlan plan) c.in-Unkept.is planned in let roots = roots_by keep own in
    c.explain_unkept.ensures files inputs own ms keep made (record {
      linked = told-flat tree linkable.sound.tree.numbered ms linkable.valid roots places is.whole is.link flat are files inputs refl names own
          (subst (λ (x : Plan). AreReadFrom files inputs names x ms) (sym same) read);
      ends = told-ends tree linkable.sound.tree.numbered ms linkable.valid roots places is.whole is.link flat are
          (outcome_of_prune c.in-Unkept.refusal) is.ends;
    })

pub returns-in-Ok-flat_list : goal.returns-in-Ok-flat_list
returns-in-Ok-flat_list g c = λ files plan made read planned.
    let inputs = c.args.inputs.now in let keep = c.args.keep.now in let names = all_files c.args.names.now in let ms = c.args.modules.now in
    let tree = tree_of inputs.marks in let linkable = c.requires.linkable in
    let is = subst (IsObstacle tree keep ms) c.in-Unlocated.is c.requires.obstacle in
    let places = c.in-Unlocated.places in let flat = flat_of c.deref-in-Unlocated.result.now in
    let are : flat ≡ files_with tree ms places.chosen = ap flat_of c.deref-in-Unlocated.ensures.value ∙ c.in-Ok-flat_list.ensures.flat in
    let own = c.in-Unlocated.plan in let part = c.in-Unlocated.part in
    let same : own ≡ plan = subst (HasPlan plan) c.in-Unlocated.is planned in
    let roots = roots_by keep own in
    let kept = told-kept tree linkable.sound.tree.numbered ms linkable.valid roots places is.whole is.link flat are own part is.kept in
    c.explain_unlocated.ensures files ms keep made (record {
      linked = told-flat tree linkable.sound.tree.numbered ms linkable.valid roots places is.whole is.link flat are files inputs refl names own
          (subst (λ (x : Plan). AreReadFrom files inputs names x ms) (sym same) read);
      kept = kept.0;
      keeps = kept.1;
    })
