use Rattle.std.proofs.Common.{refl}
use Rattle.mufom_moves.specs.declared.joining.Joiner.{Joiner}
use Rattle.mufom_moves.proofs.JoinLaws.{opened, opened_cells}
use Rattle.mufom_moves.proofs.joining.Joiner.open_at.Goals as goal

pub returns-clause-joining : goal.returns-clause-joining
returns-clause-joining c =
    opened c.args.self.now _ c.args.address c.requires.joining c.requires.after c.if-self-address.false c.in_ok-close.ensures.joined
    c.in_ok-close.ensures.group refl

pub returns-clause-cells : goal.returns-clause-cells
returns-clause-cells c =
    let new : Joiner = record { joined = c.close.new.self.joined; group = c.close.new.self.group; end = c.args.address } in
    opened_cells c.args.self.now new c.requires.joining c.in_ok-close.ensures.joined c.in_ok-close.ensures.group
