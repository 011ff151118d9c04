use Rattle.std.proofs.Common.{length, sym, arith}
use Rattle.std.proofs.lemmas.List.Sums.{position_or_len_is}
use Rattle.mufom_archive.specs.Names.{ends_name}
use Rattle.mufom_archive.proofs.label.name_length.Goals as goal

pub returns-then-ends_name : goal.returns-then-ends_name
returns-then-ends_name c = sym (position_or_len_is ends_name c.args.bytes.now c.loop-length.length 0 (omega arith) c.loop-length.invariant
    (λ _. sym c.if-ends_name.ensures))

pub returns : goal.returns
returns c = sym (position_or_len_is ends_name c.args.bytes.now (length c.args.bytes.now) 0 (omega arith)
    (λ k h. c.loop-length.invariant k (omega arith)) (λ h. absurd (omega arith)))
