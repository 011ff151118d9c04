use Rattle.std.proofs.Common.{sym, subst, ◌∙◌}
use Rattle.mufom_module.specs.declared.module.Parts.{Parts}
use Rattle.mufom_module.specs.Defects.{IsValid}
use Rattle.mufom_module.specs.Grammar.{SpellsModule}
use Rattle.mufom_read.proofs.ended.Built.{whole-stated}
use Rattle.mufom_read.proofs.build.module_of.Goals as goal

pub parts_of-requires : goal.parts_of-requires
parts_of-requires c = let stated = whole-stated c.requires.0 c.args.prefix c.requires.1 c.requires.2 c.requires.3 in (stated.0, stated.2)

pub sound-requires : goal.sound-requires
sound-requires c =
    let stated = whole-stated c.requires.0 c.args.prefix c.requires.1 c.requires.2 c.requires.3 in
    let spells = stated.1 in
    subst IsValid (sym (c.in_ok-parts.ensures stated.0 stated.2)) spells.4

pub returns : goal.returns
returns c = λ options steps bytes is.
    let stated = whole-stated options c.args.prefix steps bytes is in
    subst (λ (m : Parts). SpellsModule m bytes options) (sym (c.sound.ensures.same ∙ c.in_ok-parts.ensures stated.0 stated.2)) stated.1
