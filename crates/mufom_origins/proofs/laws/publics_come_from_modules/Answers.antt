use Rattle.std.proofs.Common.{ℕ, List, sym, ap, ◌∙◌}
use Rattle.std.specs.Prelude.{slice_get}
use Rattle.std.specs.Option.{option_and_then}
use Rattle.std.proofs.lemmas.Option.{slice_get-map}
use Rattle.mufom_names.specs.declared.name.Public.{Public}
use Rattle.mufom_module.specs.declared.module.Parts.{Parts}
use Rattle.mufom_meaning.specs.Flat.{SitedPublic, flat_publics}
use Rattle.mufom_origins.specs.declared.origins.Origin.{Origin}
use Rattle.mufom_origins.specs.Origins.{entry_of, modules_of}
use Rattle.mufom_origins.specs.Places.{place_in}
use Rattle.mufom_origins.proofs.FlatLaws.{counts-same, get-flat, publics-flat}
use Rattle.mufom_origins.proofs.laws.publics_come_from_modules.Goals as goal

pub returns : goal.returns
returns c files number =
    sym (slice_get-map (λ (q : SitedPublic). q.entry) (flat_publics (modules_of files)) number)
    ∙ ap (λ (xs : List Public). slice_get xs number) (publics-flat 0 0 0 (modules_of files))
    ∙ get-flat (λ (m : Parts). m.names.publics) files number
    ∙ ap (λ (counts : List ℕ). option_and_then (entry_of (λ (m : Parts). m.names.publics) files) (place_in counts number)) (sym (counts-same (λ
    (o : Origin). o.publics) files))
