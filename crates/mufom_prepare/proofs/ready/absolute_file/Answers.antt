use Rattle.std.proofs.Common.{ap, subst}
use Rattle.mufom_works.specs.Works.{IsHeld, made}
use Rattle.mufom_module.specs.Written.{written}
use Rattle.mufom_module.specs.declared.module.Parts.{Parts}
use Rattle.mufom_prepare.proofs.ready.absolute_file.Goals as goal

pub returns-in-Ok-clause-ok : goal.returns-in-Ok-clause-ok
returns-in-Ok-clause-ok c = (
  subst IsHeld c.in-Ok.ensures.absolute (record { valid = c.a_module_is_valid.ensures.valid; made = c.a_module_is_valid.ensures.made }),
  ap (λ (m : Parts). made c.args.out.now (written m)) c.in-Ok.ensures.absolute,
)
