use Rattle.std.proofs.Common.{◌∙◌, ap, sym, nat_eq, position, arith}
use Rattle.std.specs.List.{range_with_len}
use Rattle.mufom_sections.proofs.PlacesLemmas.{position-absent}
use Rattle.mufom_sections.proofs.RowLemmas.{row-below, row-above, row-position}
use Rattle.mufom_sections.proofs.row.Row.position.Goals as goal

pub returns-then-index-self : goal.returns-then-index-self
returns-then-index-self c =
    let first = c.self.inside.first in
    let count = c.self.inside.count in
    sym (position-absent (nat_eq c.args.index) (range_with_len first count) (row-below c.args.index first count c.if-index-self.true))
    ∙ ap (position (nat_eq c.args.index)) c.self.view_is

pub returns-then-place-self : goal.returns-then-place-self
returns-then-place-self c =
    let first = c.self.inside.first in
    let count = c.self.inside.count in
    sym (position-absent (nat_eq c.args.index) (range_with_len first count) (row-above c.args.index first count (omega arith)))
    ∙ ap (position (nat_eq c.args.index)) c.self.view_is

pub returns : goal.returns
returns c =
    let first = c.self.inside.first in
    let count = c.self.inside.count in
    sym (row-position c.args.index first count c.if-index-self.false (omega arith))
    ∙ ap (position (nat_eq c.args.index)) c.self.view_is
