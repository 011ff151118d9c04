use Rattle.std.proofs.Common.{sym, subst}
use Rattle.mufom_map.specs.Keys.{ArePositions}
use Rattle.mufom_map.specs.Shown.{base_of}
use Rattle.mufom_map.proofs.KeyLaws.{numbered-positions}
use Rattle.mufom_map.proofs.order.sections_in_order.Goals as goal

pub in_order-requires : goal.in_order-requires
in_order-requires c = subst (ArePositions 0) (sym c.in_ok-section_keys.ensures) (numbered-positions (λ s. base_of s.1) 0 c.args.sections.now)
