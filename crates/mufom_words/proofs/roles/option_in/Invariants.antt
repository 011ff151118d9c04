use Rattle.std.proofs.Common.{◌≡◌, drop}
use Rattle.std.specs.List.{find}
use Rattle.mufom_words.specs.Faulty.{spells}
use Rattle.mufom_words.proofs.roles.option_in.Given as goal

abbrev pub invariant-loop-setting : goal.invariant-loop-setting
invariant-loop-setting l = find (spells l.word) (drop l.setting-index l.settings) ≡ find (spells l.word) l.settings
