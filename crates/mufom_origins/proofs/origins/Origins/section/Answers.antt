use Rattle.std.proofs.Common.{◌∙◌}
use Rattle.mufom_origins.specs.declared.origins.Kind.TheVariants.{Sections}
use Rattle.mufom_origins.specs.Origins.{counts_of}
use Rattle.mufom_origins.proofs.PlaceLaws.{rises}
use Rattle.mufom_origins.proofs.origins.Origins.section.Goals as goal

pub place_of-requires : goal.place_of-requires
place_of-requires c = rises c.deref.result.now (counts_of Sections c.self.inside.modules.items) (c.deref.ensures.value ∙ c.self.invariant.sections_end)
