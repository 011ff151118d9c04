use Rattle.std.proofs.Common.{arith}
use Rattle.mufom_numbers.proofs.SpellingLaws.{are_bytes}
use Rattle.mufom_records.proofs.BeforeLaws.{in_place-whole}
use Rattle.mufom_records.proofs.before.read_record_before.Goals as goal

pub returns-clause-whole : goal.returns-clause-whole
returns-clause-whole c =
    let input = c.args.input.now in
    let fits = are_bytes input (λ i. omega (arith, c.type_inv.input i)) in
    in_place-whole c.args.end c.args.mode input c.within.new.row c.within.result fits c.within.ensures.exact
