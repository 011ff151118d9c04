use Rattle.std.proofs.Common.{[]}
use Rattle.mufom_text.specs.Chains.{Puts-joins}
use Rattle.mufom_text.proofs.page.Page.add.Goals as goal

pub returns-else-not-self-clause-puts : goal.returns-else-not-self-clause-puts
returns-else-not-self-clause-puts g c = Puts-joins _ _ _ _ _ _ _ _ _ [] c.args.text.now _ _ _ c.turn.ensures.puts c.begin.ensures.puts
