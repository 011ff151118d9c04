use Rattle.std.proofs.Common.{length, sym, eq-eqb, arith}
use Rattle.std.specs.Prelude.{◌==◌}
use Rattle.std.proofs.lemmas.List.Sums.{position_or_len_is}
use Rattle.mufom_titxt.proofs.lines.word_length.Goals as goal

pub returns-then-byte-eq32-clause-count : goal.returns-then-byte-eq32-clause-count
returns-then-byte-eq32-clause-count c =
    sym (position_or_len_is (λ b. b == 32) c.args.text.now c.loop-count.count 0 (omega arith) c.loop-count.invariant
    (λ less. eq-eqb _ _ c.if-byte-eq32.true))

pub returns-clause-count : goal.returns-clause-count
returns-clause-count c =
    sym (position_or_len_is (λ b. b == 32) c.args.text.now (length c.args.text.now) 0 (omega arith)
    (λ k h. c.loop-count.invariant k (omega arith)) (λ less. absurd (omega (arith, less))))
