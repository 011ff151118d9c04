use Rattle.std.proofs.Common.{rules, arith}
use Rattle.std.proofs.lemmas.List.Sorted.{IsNonDecreasingBy-from_sort, answers_always}
use Rattle.mufom_meaning.specs.declared.located.Run.{Run}
use Rattle.mufom_moves.proofs.OrderLaws.{runs_in_order}
use Rattle.mufom_moves.proofs.moving.sort_by_address.Goals as goal

pub returns-clause-rising : goal.returns-clause-rising
returns-clause-rising c =
    runs_in_order 0 c.sort_unstable_by_key.new.self.items
    (IsNonDecreasingBy-from_sort (λ (run : Run). run.address) _
    (c.sort_unstable_by_key.ensures.sorted (λ (run : Run). run.address) (answers_always _ _ _ (λ f a r g h. search rules))))
    (λ d some. omega arith)
