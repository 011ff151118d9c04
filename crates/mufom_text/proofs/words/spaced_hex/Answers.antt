use Rattle.hex.specs.Hex.{encode_with}
use Rattle.mufom_text.proofs.words.spaced_hex.Goals as goal

pub returns : goal.returns
unfolding encode_with
returns g c = c.put.ensures
