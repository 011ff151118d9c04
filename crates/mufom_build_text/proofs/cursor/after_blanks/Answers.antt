use Rattle.std.proofs.Common.{◌≡◌, ◌⊎◌, inl, inr, arith}
use Rattle.mufom_build_text.proofs.Columns.{no_blanks, blank_passed}
use Rattle.mufom_build_text.proofs.cursor.after_blanks.Goals as goal
use Rattle.mufom_build_text.proofs.cursor.after_blanks.Goals.{else-first-ne32-via-then-first-ne32+else-first-ne10}
use Rattle.mufom_build_text.proofs.cursor.after_blanks.Goals.{else-first-ne32-via-else-first-ne32}

pub loop-first-preserved : goal.loop-first-preserved
loop-first-preserved c =
    let blank : (c.in-Some.first.now ≡ 32) ⊎ (c.in-Some.first.now ≡ 10) = elim c.else-first-ne32.branch [
      | else-first-ne32-via-then-first-ne32+else-first-ne10 w ↦ inr w.if-first-ne10.false
      | else-first-ne32-via-else-first-ne32 w ↦ inl w.if-first-ne32.false
    ] in
    record {
      blanks = blank_passed _ _ _ _ _ _ _ _ _ _ c.loop-first.invariant.blanks c.in-Some.ensures.cases.0 blank c.place_after.ensures.line
          c.place_after.ensures.column;
      line = omega (arith, c.in-Some.ensures.cases.1);
      column = omega (arith, c.in-Some.ensures.cases.1);
      positive = c.place_after.ensures.positive;
      within = omega (arith, c.in-Some.ensures.cases.1);
    }
