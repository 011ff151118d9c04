use Rattle.mufom_words.proofs.Sound.{commands-sound}
use Rattle.mufom_words.proofs.laws.commands_are_sound.Goals as goal

pub returns : goal.returns
returns c = commands-sound
