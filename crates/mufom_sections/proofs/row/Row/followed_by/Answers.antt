use Rattle.std.proofs.Common.{◌≡◌, ◌+◌, ◌∙◌, ◌++◌, ◌∷◌, [], ap, sym, nat_eq, length, arith}
use Rattle.std.specs.List.{list_any, range_with_len}
use Rattle.std.proofs.lemmas.List.FromFn.{length-range_with_len}
use Rattle.mufom_sections.proofs.RowLemmas.{row-push, row-above}
use Rattle.mufom_sections.proofs.row.Row.followed_by.Goals as goal

pub overflow_add-result : goal.overflow_add-result
overflow_add-result c =
    let long = length-range_with_len c.self.inside.first c.self.inside.count in
    let same = ap length c.self.view_is in
    omega (arith, long, same, c.requires)

pub returns-clause-longer : goal.returns-clause-longer
returns-clause-longer c =
    let its : c.self.inside.first + c.self.inside.count ≡ c.args.index = omega arith in
    row-push c.self.inside.first c.self.inside.count
    ∙ ap (λ k. range_with_len c.self.inside.first c.self.inside.count ++ k ∷ []) its
    ∙ ap (λ row. row ++ c.args.index ∷ []) c.self.view_is

pub returns-clause-added : goal.returns-clause-added
returns-clause-added c =
    ap (list_any (nat_eq c.args.index)) (sym c.self.view_is)
    ∙ row-above c.args.index c.self.inside.first c.self.inside.count (omega arith)
