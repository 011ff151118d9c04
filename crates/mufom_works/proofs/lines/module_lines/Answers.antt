use Rattle.std.proofs.Common.{◌≡◌, ℕ, ◌+◌, ◌++◌, List, drop, get_or, sym, ap, ◌∙◌}
use Rattle.mufom_module.specs.declared.module.Parts.{Parts}
use Rattle.mufom_works.specs.Text.{check_line, check_lines}
use Rattle.mufom_works.proofs.LineLaws.{check_lines-next}
use Rattle.mufom_works.proofs.lines.module_lines.Goals as goal

pub loop-number-preserved : goal.loop-number-preserved
loop-number-preserved c =
    let done = c.loop-number.text.items in
    let ms = c.args.modules.now in
    let i = c.loop-number.number in
    let own = c.index-modules-number.result in
    let pushed : c.push_line.new.text.items ≡ done ++ check_line i (get_or ms i own) = c.in_ok-push_line.ensures
    ∙ ap (λ (m : Parts). done ++ check_line i m) c.index-modules-number.is in
    c.loop-number.invariant ∙ check_lines-next done ms i own c.loop-number-test.true
    ∙ ap (λ (t : List ℕ). t ++ check_lines (i + 1) (drop (i + 1) ms)) (sym pushed)
