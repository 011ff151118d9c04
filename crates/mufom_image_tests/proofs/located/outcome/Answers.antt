use Rattle.std.proofs.Common.{subst}
use Rattle.mufom_names.specs.Names.{names_of, AreDistinct}
use Rattle.mufom_module.specs.declared.module.Parts.{Parts}
use Rattle.mufom_image_tests.proofs.located.outcome.Goals as goal

pub locate-requires-clause-names : goal.locate-requires-clause-names
locate-requires-clause-names g c = subst (λ (parts : Parts). AreDistinct (names_of parts.names.publics)) c.parts.ensures.same c.in-None.ensures
