use Rattle.std.proofs.Common.{◌≡◌, ◌∙◌, ap, Some, None}
use Rattle.clap.specs.Matches.{found_of}
use Rattle.clap.specs.Walk.{rows_of}
use Rattle.mufom_words.specs.Options.{is_true, usage_of, value_in}
use Rattle.mufom_words.proofs.found.is_given.Goals as goal

pub returns-in-Some : goal.returns-in-Some
returns-in-Some c =
    let text : Some c.in-Some.text.now ≡ value_in (usage_of c.args.form).settings (rows_of (found_of c.args.matches.now)) c.args.setting =
    rw c.in-Some.is at c.value_in.ensures in
    c.eq.ensures ∙ ap is_true text

pub returns-in-None : goal.returns-in-None
returns-in-None c =
    let none : None ≡ value_in (usage_of c.args.form).settings (rows_of (found_of c.args.matches.now)) c.args.setting = rw c.in-None.is at c.value_in.ensures in
    ap is_true none
