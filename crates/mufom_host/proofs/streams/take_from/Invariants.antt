use Rattle.mufom_host.specs.World.{StaysKnown}
use Rattle.mufom_host.proofs.streams.take_from.Given as goal

abbrev pub invariant-loop-turn : goal.invariant-loop-turn
invariant-loop-turn g l = StaysKnown (g.R.Read.remaining l.fn.reader) (g.R.Read.remaining l.reader)
