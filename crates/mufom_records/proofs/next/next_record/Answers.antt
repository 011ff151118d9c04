use Rattle.std.proofs.Common.{◌∙◌, sym, arith}
use Rattle.mufom_numbers.proofs.SpellingLaws.{are_bytes}
use Rattle.mufom_records.proofs.RecordLaws.{record_at-got, record_at-only, record_at-bad, bad-record_at, record_at-more, more-record_at}
use Rattle.mufom_records.proofs.next.next_record.Goals as goal

pub returns-clause-got : goal.returns-clause-got
returns-clause-got c =
    let fits = are_bytes c.args.input.now (λ i. omega (arith, c.type_inv.input i)) in
    rw c.next.ensures.exact (record_at-got c.args.mode c.args.input.now fits)

pub returns-clause-only : goal.returns-clause-only
returns-clause-only c = λ row text rest is split. c.next.ensures.exact ∙ record_at-only c.args.mode c.args.input.now row text rest is split

pub returns-clause-bad : goal.returns-clause-bad
returns-clause-bad c =
    let fits = are_bytes c.args.input.now (λ i. omega (arith, c.type_inv.input i)) in
    λ place reason. (
      λ e. bad-record_at c.args.mode c.args.input.now fits place reason (sym c.next.ensures.exact ∙ e),
      λ has. c.next.ensures.exact
          ∙ record_at-bad c.args.mode c.args.input.now place reason has,
    )

pub returns-clause-more : goal.returns-clause-more
returns-clause-more c =
    let fits = are_bytes c.args.input.now (λ i. omega (arith, c.type_inv.input i)) in (
      λ e. more-record_at c.args.mode c.args.input.now fits (sym c.next.ensures.exact ∙ e),
      λ ends. c.next.ensures.exact
          ∙ record_at-more c.args.mode c.args.input.now ends,
    )
