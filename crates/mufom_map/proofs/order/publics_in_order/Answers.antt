use Rattle.std.proofs.Common.{ℕ, sym, subst}
use Rattle.mufom_meaning.specs.declared.located.PublicValue.{PublicValue}
use Rattle.mufom_map.specs.Keys.{ArePositions}
use Rattle.mufom_map.proofs.KeyLaws.{numbered-positions}
use Rattle.mufom_map.proofs.order.publics_in_order.Goals as goal

pub in_order-requires : goal.in_order-requires
in_order-requires c = subst (ArePositions 0) (sym c.in_ok-public_keys.ensures) (numbered-positions (λ (p : ℕ × PublicValue). p.1.value) 0 c.args.publics.now)
