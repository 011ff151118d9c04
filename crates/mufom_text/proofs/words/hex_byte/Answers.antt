use Rattle.hex.specs.Hex.{encode_with}
use Rattle.mufom_text.proofs.words.hex_byte.Goals as goal

pub returns : goal.returns
unfolding encode_with
returns g c = c.put.ensures
