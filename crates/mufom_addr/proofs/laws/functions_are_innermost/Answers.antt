use Rattle.mufom_addr.specs.AddressHit.{Function, functions_around}
use Rattle.mufom_addr.proofs.GreatestLaws.{first_greatest-none, first_greatest-some}
use Rattle.mufom_addr.proofs.laws.functions_are_innermost.Goals as goal

pub returns : goal.returns
returns c = record {
  found = λ address entries f same. first_greatest-some (λ (g : Function). g.depth) (functions_around address entries) f same;
  none = λ address entries same. first_greatest-none (λ (g : Function). g.depth) (functions_around address entries) same;
}
