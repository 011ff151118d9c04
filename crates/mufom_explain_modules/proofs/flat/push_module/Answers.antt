use Rattle.std.proofs.Common.{[], ◌∷◌, ◌++◌, ◌∙◌, ap}
use Rattle.std.proofs.lemmas.List.{map-append}
use Rattle.mufom_module.specs.declared.module.Parts.{Parts}
use Rattle.mufom_origins.specs.Origins.{FileModule}
use Rattle.mufom_explain.specs.Flat.{file_module, flat_of}
use Rattle.mufom_explain_modules.proofs.flat.push_module.Goals as goal

pub returns-clause-pushed : goal.returns-clause-pushed
returns-clause-pushed c =
    ap flat_of c.in_ok-push.ensures.items ∙ map-append file_module c.args.flat.now.items _
    ∙ ap (λ (parts : Parts). let f : FileModule = (c.args.place, parts) in flat_of c.args.flat.now.items ++ f ∷ []) c.parts.ensures.same
