use Rattle.std.proofs.Common.{◌∙◌, ◌≤◌, length, take, drop, None, ap, sym, arith}
use Rattle.mufom_numbers.proofs.SpellingLaws.{are_bytes}
use Rattle.mufom_records.specs.declared.stop.Stop.TheVariants.{More, Bad}
use Rattle.mufom_records.specs.Fields.{first_of}
use Rattle.mufom_records.specs.Layouts.{IsWholeRecord}
use Rattle.mufom_records.specs.Reading.{in_place}
use Rattle.mufom_records.proofs.InPlace.{ok_in_place, stored_in_place, error_in_place}
use Rattle.mufom_records.proofs.RecordLaws.{read_at-whole, read_at-only, read_at-bad, bad-read_at, read_at-more, more-read_at}
use Rattle.mufom_records.proofs.next.read_record.Goals as goal

pub returns-clause-whole : goal.returns-clause-whole
returns-clause-whole c =
    let input = c.args.input.now in
    let mode = c.args.mode in
    let fits = are_bytes input (λ i. omega (arith, c.type_inv.input i)) in
    ok_in_place (λ r. (r.1 ≤ length input) × IsWholeRecord mode r.0 (take r.1 input) (first_of (drop r.1 input) None))
    c.record.new.row c.record.result (rw c.record.ensures.exact (read_at-whole mode input fits))

pub returns-clause-only : goal.returns-clause-only
returns-clause-only c = λ stored text rest is split.
    stored_in_place c.record.new.row stored c.record.result (length text)
    (c.record.ensures.exact ∙ read_at-only c.args.mode c.args.input.now stored text rest is split)

pub returns-clause-bad : goal.returns-clause-bad
returns-clause-bad c =
    let fits = are_bytes c.args.input.now (λ i. omega (arith, c.type_inv.input i)) in
    λ offset reason. (
      λ e. bad-read_at c.args.mode c.args.input.now fits offset reason (sym c.record.ensures.exact ∙ ap (in_place c.record.new.row) e),
      λ has. error_in_place c.record.new.row c.record.result (Bad offset reason) (c.record.ensures.exact
          ∙ read_at-bad c.args.mode c.args.input.now offset reason has),
    )

pub returns-clause-more : goal.returns-clause-more
returns-clause-more c =
    let fits = are_bytes c.args.input.now (λ i. omega (arith, c.type_inv.input i)) in (
      λ e. more-read_at c.args.mode c.args.input.now fits (sym c.record.ensures.exact ∙ ap (in_place c.record.new.row) e),
      λ ends. error_in_place c.record.new.row c.record.result More (c.record.ensures.exact
          ∙ read_at-more c.args.mode c.args.input.now ends),
    )
