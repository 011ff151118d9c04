use Rattle.std.proofs.Common.{◌≡◌, map, take}
use Rattle.std.specs.Prelude.{filter}
use Rattle.mufom_meaning.specs.declared.located.PublicValue.{PublicValue}
use Rattle.mufom_map.specs.Spot.{greatest, is_below}
use Rattle.mufom_map.proofs.spot.greatest_value.Given as goal

abbrev pub invariant-loop-public : goal.invariant-loop-public
invariant-loop-public l = l.greatest
    ≡ greatest (filter (is_below l.base l.size l.address) (map (λ (p : PublicValue). p.value) (take l.public-index l.publics)))
