use Rattle.std.proofs.Common.{◌≡◌, ◌^◌, ◌++◌, map, drop}
use Rattle.mufom_place.specs.Bases.{numbered, site_by}
use Rattle.mufom_place.specs.Facts.{first_some, misfit_by}
use Rattle.mufom_place.proofs.fit.bases.Given as goal

abbrev pub invariant-loop-place : goal.invariant-loop-place
invariant-loop-place l = record {
  based : map (λ s. (site_by l.placings s).base) (numbered l.sections) ≡ l.bases ++ map (λ s. (site_by l.placings s).base) (drop l.place (numbered l.sections));
  fit : first_some (misfit_by (2 ^ l.width) l.regions l.placings) (numbered l.sections)
      ≡ first_some (misfit_by (2 ^ l.width) l.regions l.placings) (drop l.place (numbered l.sections));
}
