use Rattle.std.proofs.Common.{rules, arith}
use Rattle.std.proofs.lemmas.List.Sorted.{IsNonDecreasingBy-from_sort, answers_always}
use Rattle.mufom_moves.specs.declared.shift.Shift.{Shift}
use Rattle.mufom_moves.proofs.ShiftLaws.{rising_shifts}
use Rattle.mufom_moves.proofs.shift.sort_by_start.Goals as goal

pub returns-clause-rising : goal.returns-clause-rising
returns-clause-rising c =
    rising_shifts 0 c.sort_unstable_by_key.new.self.items
    (IsNonDecreasingBy-from_sort (λ (shift : Shift). shift.from) _
    (c.sort_unstable_by_key.ensures.sorted (λ (shift : Shift). shift.from) (answers_always _ _ _ (λ f a r g h. search rules))))
    (λ d some. omega arith)
