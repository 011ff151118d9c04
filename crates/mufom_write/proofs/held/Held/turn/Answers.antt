use Rattle.std.proofs.Common.{[], refl}
use Rattle.mufom_write.specs.HoldingChains.{Holds-then, Holds-stopped}
use Rattle.mufom_write.proofs.held.Held.turn.Goals as goal

pub returns-in_err-flush-clause-holds : goal.returns-in_err-flush-clause-holds
returns-in_err-flush-clause-holds g c = Holds-stopped _ _ _ _ _ _ [] c.args.bytes.now _ _ _ c.in_err-flush.ensures.holds c.from_residual.ensures.0 refl

pub returns-clause-holds : goal.returns-clause-holds
returns-clause-holds g c = Holds-then _ _ _ _ _ _ _ _ _ [] c.args.bytes.now _ _ c.in_ok-flush.ensures.holds c.begin.ensures.holds refl
