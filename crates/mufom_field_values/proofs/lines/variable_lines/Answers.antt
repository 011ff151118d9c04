use Rattle.std.proofs.Common.{◌≡◌, ◌∙◌, ◌+◌, ◌++◌, [], List, ℕ, take, get_or, ap, sym, subst, arith}
use Rattle.std.proofs.lemmas.List.{take_more, take_all}
use Rattle.mufom_expr.specs.declared.token.Letter.TheVariants.{I}
use Rattle.mufom_field_values.specs.Lines.{Variable, new_line, variable_lines}
use Rattle.mufom_field_values.proofs.LineLaws.{lines-more}
use Rattle.mufom_field_values.proofs.lines.variable_lines.Goals as goal

pub loop-at-preserved : goal.loop-at-preserved
loop-at-preserved g c =
    let m = c.args.parts.now in let vs : List Variable = c.args.variables.now in let i = c.loop-at.at in
    let v : Variable = get_or vs i (I, 0) in
    let next : variable_lines m [] (take (i + 1) vs) ≡ variable_lines m [] (take i vs) ++ new_line m (take i vs) v
    = ap (variable_lines m []) (take_more vs i (I, 0) c.loop-at-test.true) ∙ lines-more m [] (take i vs) v in
    subst (λ (t : List ℕ). g.K.Output.takes c.args.out.now c.new_line.new.out t) (sym next)
    (g.met.K.Output.joins _ _ _ (variable_lines m [] (take i vs)) (new_line m (take i vs) v) c.loop-at.invariant c.new_line.ensures)

pub returns : goal.returns
returns g c =
    let end = c.loop-at-test.false in
    subst (λ (vs : List Variable). g.K.Output.takes c.args.out.now c.loop-at.out (variable_lines c.args.parts.now [] vs))
    (take_all c.loop-at.at c.args.variables.now (omega (arith, end))) c.loop-at.invariant
