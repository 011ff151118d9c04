use Rattle.std.proofs.Common.{ℕ, List, [], ◌∷◌, refl}
use Rattle.hex.specs.Hex.{encode_upper}
use Rattle.mufom_text.proofs.Loops.{flat-step}
use Rattle.mufom_text.proofs.words.hex_bytes.Goals as goal

pub loop-byte-preserved : goal.loop-byte-preserved
loop-byte-preserved g c =
    let write : ℕ → List ℕ = λ b. encode_upper (b ∷ []) in
    flat-step g.K.Output.takes g.met.K.Output.joins write c.args.bytes.now c.loop-byte.byte-index 0 _ _ _ _ c.loop-byte-test.true refl
    c.loop-byte.invariant c.hex_byte.ensures
