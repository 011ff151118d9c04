-- The result of taking a record is the result of reading the bytes after a prefix.
use Rattle.std.proofs.Common.{◌≡◌, ℕ, ◌<◌, ◌≤◌, List, length, take, sym, ap, subst, ◌∙◌, arith, length-take}
use Rattle.mufom_numbers.specs.declared.taken.Taken.{Taken}
use Rattle.mufom_numbers.specs.declared.taken.Taken.TheVariants.{Got}
use Rattle.mufom_records.specs.declared.record.Record.{Record}
use Rattle.mufom_module.specs.SpelledRecords.{SpelledRecord}
use Rattle.mufom_read.specs.declared.prefix.Prefix.{Prefix}
use Rattle.mufom_read.specs.declared.prefix.Next.{Next}
use Rattle.mufom_read.specs.declared.prefix.Next.TheVariants as next
use Rattle.mufom_judging.specs.Prefixes.{Step, read, size_of, as_step}
use Rattle.mufom_read.specs.Kept.{as_record}
use Rattle.mufom_read.specs.PrefixOfCode.{HasTaken, HasJudged}

the_record : Record → List ℕ → SpelledRecord
the_record row bytes = record { row = row; bytes = bytes }

pub taken_length : (n : ℕ) (rest : List ℕ) → n ≤ length rest → length (take n rest) ≡ n
taken_length n rest within = length-take n rest ∙ omega (arith, within)

judged : (prefix : List Step) (rest : List ℕ) (row : Record) (n start : ℕ) (new : Prefix) (done : Next) → n ≤ length rest → 0 < n → start ≡ size_of prefix
    → HasTaken prefix (as_record row (take n rest)) new done → HasJudged prefix (as_step (size_of prefix) rest (Got row n)) rest new done
judged prefix rest row n start new (next.Took m) within some at (count, clean, is) =
    let same : m ≡ n = count ∙ taken_length n rest within in
    let step : Step = read (size_of prefix) (record { row = row; bytes = take n rest }) in (
      step,
      ap (λ k. Got step k) (sym same),
      taken_length n rest within
          ∙ sym same,
      clean,
      subst (λ k. 0 < k) (sym same) some,
      subst (λ k. k ≤ length rest) (sym same) within,
      is,
    )
judged prefix rest row n start new next.More within some at taken = absurd taken
judged prefix rest row n start new (next.Refused f) within some at fault = fault

-- a record that was read
pub taken-judged : (prefix : List Step) (rest : List ℕ) (answer : Taken Record) (row : Record) (n start : ℕ) (p : SpelledRecord) (new : Prefix)
    (done : Next) → answer ≡ Got row n → n ≤ length rest → 0 < n
    → start ≡ size_of prefix → p ≡ as_record row (take n rest) → HasTaken prefix p new done
    → HasJudged prefix (as_step (size_of prefix) rest answer) rest new done
taken-judged prefix rest answer row n start p new done got within some at same taken =
    subst (λ a. HasJudged prefix (as_step (size_of prefix) rest a) rest new done) (sym got)
    (judged prefix rest row n start new done within some at (subst (λ q. HasTaken prefix q new done) same taken))
