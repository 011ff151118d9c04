use Rattle.std.proofs.Common.{◌≡◌, ◌++◌, drop}
use Rattle.mufom_prune.specs.Kept.{mentions}
use Rattle.mufom_prune.specs.Steps.{token_mentions}
use Rattle.mufom_prune.proofs.entries.add_mentions.Given as goal

abbrev pub invariant-loop-token : goal.invariant-loop-token
invariant-loop-token l = l.all ++ token_mentions l.parts (drop l.token-index l.token-items) ≡ l.fn.all ++ mentions l.parts l.value
