use Rattle.std.proofs.Common.{get_or, refl}
use Rattle.mufom_text.proofs.Loops.{flat-step}
use Rattle.mufom_explain.specs.declared.mention.MentionKind.TheVariants as kinds
use Rattle.mufom_explain.specs.Mentions.{mention, mention_line}
use Rattle.mufom_explain.proofs.mention_lines.mention_lines.Goals as goal

pub loop-mention-preserved : goal.loop-mention-preserved
loop-mention-preserved g c =
    let none = mention 0 kinds.Public in
    let index = c.loop-mention.mention-index in
    flat-step g.K.Output.takes g.met.K.Output.joins (mention_line c.args.name.now) c.args.mentions.now index none (get_or c.args.mentions.now index none)
    _ _ _ c.loop-mention-test.true refl c.loop-mention.invariant c.mention_line.ensures
