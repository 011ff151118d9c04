use Rattle.std.proofs.Common.{◌+◌, subst, sym}
use Rattle.std.specs.Prelude.{◌==◌}
use Rattle.mufom_module.specs.Defects.{IsValid}
use Rattle.mufom_make.proofs.ModuleLaws.{module_at-valid}
use Rattle.mufom_make.proofs.generated.module_at.Goals as goal

pub sound-requires : goal.sound-requires
sound-requires c = subst IsValid (sym c.in_ok-parts.ensures) (module_at-valid (c.args.number + 1 == c.args.count) c.args.number c.requires)
