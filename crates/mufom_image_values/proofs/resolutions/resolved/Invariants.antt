use Rattle.std.proofs.Common.{◌≡◌, map, take}
use Rattle.mufom_names.specs.Index.{position_of}
use Rattle.mufom_image_values.specs.Resolutions.{resolution_by}
use Rattle.mufom_image_values.proofs.resolutions.resolved.Given as goal

-- what the references so far resolve to
abbrev pub invariant-loop-reference : goal.invariant-loop-reference
invariant-loop-reference l =
    l.all ≡ map (λ r. resolution_by (position_of l.publics r.name) (position_of l.commons r.name) r.weak) (take l.reference-index l.references)
