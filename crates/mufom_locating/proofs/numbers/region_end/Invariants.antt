use Rattle.std.proofs.Common.{◌≡◌, drop}
use Rattle.std.specs.Prelude.{find}
use Rattle.std.specs.List.{enumerate_from}
use Rattle.std.specs.Str.{bytes_eq}
use Rattle.mufom_locating.proofs.numbers.region_end.Given as goal

abbrev pub invariant-loop-place : goal.invariant-loop-place
invariant-loop-place l =
    find (λ r. bytes_eq r.1.name l.name) (enumerate_from 0 l.numbering.regions.now)
    ≡ find (λ r. bytes_eq r.1.name l.name) (enumerate_from l.place (drop l.place l.numbering.regions.now))
