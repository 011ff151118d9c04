use Rattle.std.proofs.Common.{◌≡◌, ℕ, List, ◌+◌, ◌∙◌, ap, sym, subst, arith, take, Some, Err, ◌<◌}
use Rattle.mufom_records.specs.declared.record.Mode.{Mode}
use Rattle.mufom_records.specs.declared.stop.Stop.{Stop}
use Rattle.mufom_records.specs.Layouts.{IsWholeRecord}
use Rattle.mufom_records.specs.Parts.{HasParts, HasTokens}
use Rattle.mufom_records.proofs.OwnParts.{own_parts}
use Rattle.mufom_records.specs.Reading.{as_taken, in_place, record_within, next_seen}
use Rattle.mufom_numbers.specs.declared.taken.Taken.TheVariants as results
use Rattle.mufom_expr.specs.declared.token.Token.{Token}
use Rattle.mufom_numbers.proofs.SpellingLaws.{are_bytes}
use Rattle.mufom_judging.specs.Prefixes.{size_of, as_step}
use Rattle.mufom_judging.specs.Faults.{step_fault}
use Rattle.mufom_read.specs.Kept.{as_record}
use Rattle.mufom_read.specs.PrefixOfCode.{as_location, mode_at, end_at}
use Rattle.mufom_read.proofs.WholeLaws.{if_ok}
use Rattle.mufom_read.proofs.RecordFacts.{got-placed}
use Rattle.mufom_judging.proofs.RecordSizes.{got-some}
use Rattle.mufom_read.proofs.NearFaults.{within-bad}
use Rattle.mufom_read.proofs.stepping.Judge.{taken-judged, taken_length}
use Rattle.mufom_read.proofs.prefix.Prefix.read.Goals as goal

pub take-requires-clause-own : goal.take-requires-clause-own
take-requires-clause-own c =
    subst (λ (b : List ℕ). HasParts b c.read_record_before.new.row) (sym c.prefix_of.ensures) (own_parts _ _ _ _ c.in-Ok.ensures.whole.1)

pub take-requires-clause-tokens : goal.take-requires-clause-tokens
take-requires-clause-tokens c =
    let row = c.read_record_before.new.row in
    subst (λ (b : List ℕ). HasTokens b row c.as_slice.result.now) (sym c.prefix_of.ensures)
    (subst (λ (l : List Token). HasTokens (take c.in-Ok.used c.args.rest.now) row l) (sym c.as_slice.ensures.tokens) c.in-Ok.ensures.tokens)

pub take-requires-clause-placed : goal.take-requires-clause-placed
take-requires-clause-placed c =
    let prefix = c.requires.known.0 in
    let rest = c.args.rest.now in
    got-placed c.args.options prefix c.args.place rest _ _ _
    (subst (λ (m : Mode). IsWholeRecord m c.read_record_before.new.row (take c.in-Ok.used rest) (next_seen c.end.result c.in-Ok.used rest))
    (c.mode-mode.ensures prefix c.requires.known.1) c.in-Ok.ensures.whole.1)

pub overflow_add-result : goal.overflow_add-result
overflow_add-result c =
    let rest = c.args.rest.now in
    let fits = are_bytes rest (λ i. omega (arith, c.type_inv.rest i)) in
    let read : record_within c.end.result c.mode-mode.result rest ≡ results.Bad c.in-Err-Bad.offset c.in-Err-Bad.reason =
    sym c.in-Err-Bad.ensures.exact ∙ ap (λ (stop : Stop). as_taken (in_place c.read_record_before.new.row (Err stop))) c.in-Err-Bad.field-0-is in
    let within = within-bad c.end.result c.mode-mode.result rest c.in-Err-Bad.offset c.in-Err-Bad.reason fits read in
    omega (arith, within, c.requires.fits)

pub returns-in-Ok : goal.returns-in-Ok
returns-in-Ok c = if_ok _ _ c.take.result (λ done taken. λ prefix is at.
    let rest = c.args.rest.now in
    let within = c.in-Ok.ensures.whole.0 in
    let row = c.read_record_before.new.row in
    taken-judged prefix rest (record_within (end_at c.args.options prefix (as_location c.args.place))
    (mode_at c.args.options prefix (as_location c.args.place) rest) rest) row c.in-Ok.used c.args.self.now.size _ _ done
    (sym (c.in-Ok.ensures.exact ∙ (λ i. record_within (c.end.ensures prefix is i) (c.mode-mode.ensures prefix is i) rest)))
    within
    (subst (λ k. 0 < k) (taken_length c.in-Ok.used rest within) (got-some _ _ _ _ c.in-Ok.ensures.whole.1))
    is.size
    (ap (λ b. as_record row b) c.prefix_of.ensures)
    (taken prefix is at)) c.take.ensures

pub returns-in-Err-More : goal.returns-in-Err-More
returns-in-Err-More c = λ prefix is at.
    let rest = c.args.rest.now in (
      is,
      ap (as_step (size_of prefix) rest)
          (sym (c.in-Err-More.ensures.exact ∙ (λ i. record_within (c.end.ensures prefix is i) (c.mode-mode.ensures prefix is i) rest)))
          ∙ ap (λ (stop : Stop). as_step (size_of prefix) rest (as_taken (Err stop))) c.in-Err-More.field-0-is,
    )

pub returns-in-Err-Bad : goal.returns-in-Err-Bad
returns-in-Err-Bad c = λ prefix is at.
    let rest = c.args.rest.now in
    ap (λ a. step_fault prefix (as_step (size_of prefix) rest a))
    (sym (c.in-Err-Bad.ensures.exact ∙ (λ i. record_within (c.end.ensures prefix is i) (c.mode-mode.ensures prefix is i) rest)))
    ∙ ap (λ (stop : Stop). step_fault prefix (as_step (size_of prefix) rest (as_taken (Err stop)))) c.in-Err-Bad.field-0-is
    ∙ (λ k. Some (sym is.size k + sym c.in-Err-Bad.offset-is k, sym c.in-Err-Bad.reason-is k))
