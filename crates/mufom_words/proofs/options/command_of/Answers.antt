use Rattle.std.proofs.Common.{◌∙◌, ap₂, sym}
use Rattle.std.proofs.lemmas.List.Sums.{fold_more}
use Rattle.clap.specs.Simple.{new_app, with_rule}
use Rattle.mufom_words.specs.Options.{usage_of, with_setting, without_help}
use Rattle.mufom_words.proofs.options.command_of.Goals as goal

pub loop-setting-preserved : goal.loop-setting-preserved
loop-setting-preserved c =
    let added = c.in_ok-command.ensures.shape c.option_of.ensures.local ∙ ap₂ with_rule c.loop-setting.invariant c.option_of.ensures.rule in
    added ∙ sym (fold_more with_setting (without_help (new_app (usage_of c.args.form).name)) c.settings-setting-items.result.now
    c.loop-setting.setting-index _ c.loop-setting-test.true)
