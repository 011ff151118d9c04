use Rattle.std.proofs.Common.{ℕ, List, sym, ap, ◌∙◌}
use Rattle.std.specs.Option.{option_and_then}
use Rattle.mufom_module.specs.declared.module.Parts.{Parts}
use Rattle.mufom_origins.specs.declared.origins.Origin.{Origin}
use Rattle.mufom_origins.specs.Origins.{entry_of}
use Rattle.mufom_origins.specs.Places.{place_in}
use Rattle.mufom_origins.proofs.FlatLaws.{counts-same, get-flat}
use Rattle.mufom_origins.proofs.laws.sections_come_from_modules.Goals as goal

pub returns : goal.returns
returns c files number =
    get-flat (λ (m : Parts). m.sections) files number
    ∙ ap (λ (counts : List ℕ). option_and_then (entry_of (λ (m : Parts). m.sections) files) (place_in counts number)) (sym (counts-same (λ
    (o : Origin). o.sections) files))
