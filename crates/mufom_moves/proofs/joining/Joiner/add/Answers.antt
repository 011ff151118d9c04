use Rattle.std.proofs.Common.{refl}
use Rattle.mufom_moves.proofs.JoinLaws.{added}
use Rattle.mufom_moves.proofs.joining.Joiner.add.Goals as goal

pub returns-clause-joining : goal.returns-clause-joining
returns-clause-joining c =
    added c.open_at.new.self _ c.args.run c.in_ok-open_at.ensures.joining c.in_ok-open_at.ensures.end c.requires.some refl
    c.in_ok-push.ensures.items c.end-self.ensures
