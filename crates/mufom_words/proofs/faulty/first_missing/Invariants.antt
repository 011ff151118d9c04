use Rattle.std.proofs.Common.{◌≡◌, drop}
use Rattle.std.specs.List.{find}
use Rattle.mufom_words.specs.Faulty.{is_missing, missing_by}
use Rattle.mufom_words.specs.Options.{usage_of}
use Rattle.mufom_words.proofs.faulty.first_missing.Given as goal

abbrev pub invariant-loop-setting : goal.invariant-loop-setting
invariant-loop-setting l = missing_by (find (is_missing l.roles) (drop l.setting-index (usage_of l.fn.form).settings))
    ≡ missing_by (find (is_missing l.roles) (usage_of l.fn.form).settings)
