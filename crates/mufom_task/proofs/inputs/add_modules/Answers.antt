use Rattle.std.proofs.Common.{◌++◌, ◌∷◌, [], List, ap, ◌∙◌, append_assoc}
use Rattle.mufom_module.specs.declared.module.Parts.{Parts}
use Rattle.mufom_task.proofs.InputLaws.{valid-both}
use Rattle.mufom_task.proofs.inputs.add_modules.Goals as goal

pub loop-entry-preserved : goal.loop-entry-preserved
loop-entry-preserved c =
    let own = c.in-Some.entry ∷ [] in (
      c.in_ok-push.ensures.ok ∙ ap (λ (l : List Parts). l ++ own) c.loop-entry.invariant.0
          ∙ append_assoc c.args.all.now c.loop-entry.yielded own,
      valid-both c.loop-entry.yielded own c.loop-entry.invariant.1 (c.a_module_is_valid.ensures.valid, tt),
    )
