use Rattle.std.proofs.Common.{◌≡◌, ℕ, ◌-◌, ◌≤◌, List, [], ◌∷◌, length, ◌∙◌, arith}
use Rattle.std.specs.Int.{w64, from_be_bytes}
use borrow.Rule.Slice.PartMut.{put_mid}
use Rattle.mufom_numbers.specs.Spelling.{big_endian}
use Rattle.mufom_numbers.proofs.spelling.value_of.Goals as goal

-- up to eight bytes after zeros
abbrev padded : List ℕ → List ℕ
padded bytes = put_mid (8 - length bytes) (8 - (8 - length bytes)) (0 ∷ 0 ∷ 0 ∷ 0 ∷ 0 ∷ 0 ∷ 0 ∷ 0 ∷ []) bytes

padded-value : (bytes : List ℕ) → length bytes ≤ 8 → from_be_bytes w64 (padded bytes) ≡ big_endian bytes
padded-value [] few = omega arith
padded-value (a ∷ []) few = omega arith
padded-value (a ∷ b ∷ []) few = omega arith
padded-value (a ∷ b ∷ c ∷ []) few = omega arith
padded-value (a ∷ b ∷ c ∷ d ∷ []) few = omega arith
padded-value (a ∷ b ∷ c ∷ d ∷ e ∷ []) few = omega arith
padded-value (a ∷ b ∷ c ∷ d ∷ e ∷ f ∷ []) few = omega arith
padded-value (a ∷ b ∷ c ∷ d ∷ e ∷ f ∷ g ∷ []) few = omega arith
padded-value (a ∷ b ∷ c ∷ d ∷ e ∷ f ∷ g ∷ h ∷ []) few = omega arith
padded-value (a ∷ b ∷ c ∷ d ∷ e ∷ f ∷ g ∷ h ∷ i ∷ bytes) few = absurd (omega arith)

pub returns : goal.returns
returns c = c.from_be_bytes.ensures ∙ rw c.copy_from_slice.ensures.after (padded-value c.args.bytes.now c.requires)
