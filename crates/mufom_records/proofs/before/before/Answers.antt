use Rattle.std.proofs.Common.{◌∙◌, ap, sym, arith, Err}
use Rattle.mufom_numbers.proofs.SpellingLaws.{are_bytes}
use Rattle.mufom_records.specs.declared.stop.Stop.{Stop}
use Rattle.mufom_records.specs.Reading.{as_taken, in_place, record_at}
use Rattle.mufom_records.proofs.BeforeLaws.{decided-ok, decided-bad, wanting-short}
use Rattle.mufom_records.proofs.OwnTokens.{first-tokens}
use Rattle.mufom_records.proofs.before.before.Goals as goal

pub closed-requires-clause-short : goal.closed-requires-clause-short
closed-requires-clause-short c =
    let input = c.args.input.now in
    let fits = are_bytes input (λ i. omega (arith, c.type_inv.input i)) in
    let same = ap (record_at c.args.mode) c.first.ensures in
    let read = sym same ∙ sym (ap (λ r. as_taken r) c.in-Err-More.ensures.exact)
    ∙ ap (λ (stop : Stop). as_taken (in_place c.own_record.new.row (Err stop))) c.in-Err-More.field-0-is in
    wanting-short c.args.end c.args.mode input fits c.requires.within read

pub returns-in-Ok : goal.returns-in-Ok
returns-in-Ok c =
    let input = c.args.input.now in
    let fits = are_bytes input (λ i. omega (arith, c.type_inv.input i)) in
    let same = ap (record_at c.args.mode) c.first.ensures in
    record {
      exact = decided-ok c.args.end c.args.mode input c.own_record.new.row c.in-Ok.used fits c.requires.within
          (sym same ∙ sym (ap (λ r. as_taken r) c.in-Ok.ensures.exact));
      tokens = first-tokens c.args.end c.in-Ok.used input c.first.result.now c.own_record.new.row _ c.first.ensures c.in-Ok.ensures.within
          c.in-Ok.ensures.tokens;
    }

pub returns-in-Err-Bad : goal.returns-in-Err-Bad
returns-in-Err-Bad c =
    let input = c.args.input.now in
    let fits = are_bytes input (λ i. omega (arith, c.type_inv.input i)) in
    let same = ap (record_at c.args.mode) c.first.ensures in
    let read = sym same ∙ sym (ap (λ r. as_taken r) c.in-Err-Bad.ensures.exact)
    ∙ ap (λ (stop : Stop). as_taken (in_place c.own_record.new.row (Err stop))) c.in-Err-Bad.field-0-is in
    record { exact = decided-bad c.args.end c.args.mode input c.in-Err-Bad.offset c.in-Err-Bad.reason fits c.requires.within read; tokens = tt }
