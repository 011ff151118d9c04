use Rattle.std.proofs.Common.{◌∙◌, Some, ap}
use Rattle.mufom_meaning.specs.declared.located.Site.{Site}
use Rattle.mufom_meaning.specs.Facts.{zero_divisor}
use Rattle.mufom_explain.proofs.WalkedLaws.{acyclic-divided, placed-divided}
use Rattle.mufom_explain.proofs.locate.about_site.Goals as goal

pub about_field-requires-clause-placed : goal.about_field-requires-clause-placed
about_field-requires-clause-placed c =
    placed-divided c.args.context.now.«module».now c.args.context.now.plan.now c.args.site.now c.requires.met

pub about_field-requires-clause-acyclic : goal.about_field-requires-clause-acyclic
about_field-requires-clause-acyclic c =
    acyclic-divided c.args.context.now.«module».now c.args.context.now.plan.now c.args.site.now c.requires.met
