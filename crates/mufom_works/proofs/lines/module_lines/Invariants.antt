use Rattle.std.proofs.Common.{◌≡◌, ◌++◌, drop}
use Rattle.mufom_works.specs.Text.{check_lines, check_text}
use Rattle.mufom_works.proofs.lines.module_lines.Given as goal

abbrev pub invariant-loop-number : goal.invariant-loop-number
invariant-loop-number l = check_text l.modules ≡ l.text.items ++ check_lines l.number (drop l.number l.modules)
