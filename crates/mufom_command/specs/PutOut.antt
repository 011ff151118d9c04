-- The effect of putting an output out.
use Rattle.mufom_host.specs.World.{OnlyPrints}
use Rattle.mufom_outcome.specs.declared.outcome.Outcome.{Outcome}
use Rattle.mufom_task.specs.Calls.{Call}
use Rattle.mufom_works.specs.Making.{IsMadeAlone, IsPrinted}
use Rattle.mufom_works.specs.Works.{Output, made, printed}
use Rattle.mufom_outcome.specs.declared.outcome.Outcome.TheVariants as outcome

-- The effect of putting the output out, and nothing else.
abbrev pub IsPutOut : Output → Call → Outcome → Type 0
IsPutOut (printed text) call result = IsPrinted text call result × OnlyPrints call.old call.new call.before call.now
IsPutOut (made name bytes) call result = IsMadeAlone name bytes call result

-- these outcomes are possible even if no memory can be allocated
abbrev pub NeedsNoMemory : Outcome → Type 0
NeedsNoMemory outcome.Done = Unit {0}
NeedsNoMemory (outcome.Usage f) = Unit {0}
NeedsNoMemory outcome.WriteFault = Unit {0}
NeedsNoMemory _ = ⊥
