use Rattle.mufom_addr.specs.declared.hit.LineHit.{LineHit}
use Rattle.mufom_addr.specs.AddressHit.{lines_up_to}
use Rattle.mufom_addr.proofs.GreatestLaws.{first_greatest-none, first_greatest-some}
use Rattle.mufom_addr.proofs.laws.lines_are_nearest.Goals as goal

pub returns : goal.returns
returns c = record {
  found = λ address entries l same. first_greatest-some (λ (k : LineHit). k.address) (lines_up_to address entries) l same;
  none = λ address entries same. first_greatest-none (λ (k : LineHit). k.address) (lines_up_to address entries) same;
}
