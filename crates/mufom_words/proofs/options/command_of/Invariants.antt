use Rattle.std.proofs.Common.{◌≡◌, fold, take}
use Rattle.clap.specs.Simple.{app_of, new_app}
use Rattle.mufom_words.specs.Options.{usage_of, with_setting, without_help}
use Rattle.mufom_words.proofs.options.command_of.Given as goal

abbrev pub invariant-loop-setting : goal.invariant-loop-setting
invariant-loop-setting l = app_of l.command ≡ fold with_setting (without_help (new_app (usage_of l.fn.form).name)) (take l.setting-index l.setting-items)
