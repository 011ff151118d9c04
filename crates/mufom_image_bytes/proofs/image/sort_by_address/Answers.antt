use Rattle.std.proofs.Common.{rules, arith}
use Rattle.std.proofs.lemmas.List.Sorted.{IsNonDecreasingBy-from_sort, answers_always}
use Rattle.mufom_image_bytes.specs.declared.chunk.Chunk.{Chunk}
use Rattle.mufom_image_bytes.proofs.SpreadLaws.{rising_chunks}
use Rattle.mufom_image_bytes.proofs.image.sort_by_address.Goals as goal

pub returns-clause-rising : goal.returns-clause-rising
returns-clause-rising c =
    rising_chunks 0 c.sort_unstable_by_key.new.self.items
    (IsNonDecreasingBy-from_sort (λ (chunk : Chunk). chunk.address) _
    (c.sort_unstable_by_key.ensures.sorted (λ (chunk : Chunk). chunk.address) (answers_always _ _ _ (λ f a r g h. search rules))))
    (λ d some. omega arith)
