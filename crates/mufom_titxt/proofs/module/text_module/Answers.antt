use Rattle.std.proofs.Common.{sym, subst}
use Rattle.mufom_module.specs.declared.module.Parts.{Parts}
use Rattle.mufom_module.specs.Defects.{IsValid}
use Rattle.mufom_titxt.proofs.ModuleValid.{text_is_valid}
use Rattle.mufom_titxt.proofs.module.text_module.Goals as goal

pub sound-requires : goal.sound-requires
sound-requires c =
    subst (λ (m : Parts). IsValid m) (sym c.in_ok-state_module.ensures)
    (text_is_valid c.args.maus c.args.runs.now c.requires.low c.requires.high c.requires.runs.few c.requires.runs.short)
