use Rattle.std.proofs.Common.{◌≡◌, ◌++◌, take, map}
use Rattle.mufom_place.specs.Bases.{numbered, site_of}
use Rattle.mufom_place.proofs.regions.section_regions.Given as goal

abbrev pub invariant-loop-place : goal.invariant-loop-place
invariant-loop-place l = l.regions.items ≡ map (λ s. (site_of l.plan l.sections l.commons s).region) (take l.place (numbered (l.sections ++ l.commons)))
