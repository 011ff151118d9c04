use Rattle.std.proofs.Common.{◌≡◌, ◌∙◌, ◌-◌, ℕ, suc, Bool, false, length, sym, arith}
use Rattle.std.specs.Prelude.{◌==◌}
use Rattle.mufom_titxt.proofs.LineLaws.{not_zero, return_cut, return_absent}
use Rattle.mufom_titxt.proofs.lines.without_return.Goals as goal

some : (b : Bool) (n : ℕ) → b ≡ (n == 0) → b ≡ false → suc (n - 1) ≡ n
some b n same e = let h = not_zero n (sym same ∙ e) in omega (arith, h)

pub returns-then-line-ne13 : goal.returns-then-line-ne13
returns-then-line-ne13 c = return_absent c.args.line.now (length c.args.line.now - 1)
    (some c.is_empty.result (length c.args.line.now) c.is_empty.ensures c.if-is_empty.false) c.if-line-ne13.true

pub returns : goal.returns
returns c = return_cut c.args.line.now (length c.args.line.now - 1)
    (some c.is_empty.result (length c.args.line.now) c.is_empty.ensures c.if-is_empty.false) c.if-line-ne13.false
