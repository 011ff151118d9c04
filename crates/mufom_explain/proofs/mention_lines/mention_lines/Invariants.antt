use Rattle.std.proofs.Common.{take, flat_map}
use Rattle.mufom_explain.specs.Mentions.{mention_line}
use Rattle.mufom_explain.proofs.mention_lines.mention_lines.Given as goal

abbrev pub invariant-loop-mention : goal.invariant-loop-mention
invariant-loop-mention g l = g.K.Output.takes l.fn.out l.out (flat_map (mention_line l.name) (take l.mention-index l.mentions))
