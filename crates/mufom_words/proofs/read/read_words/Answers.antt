use Rattle.std.proofs.Common.{map, ◌≡◌, ◌∙◌, sym, subst, Some, Result}
use Rattle.std.specs.Prelude.{IfOk}
use Rattle.mufom_words.specs.declared.command.Command.{Command}
use Rattle.mufom_words.specs.declared.stop.WordsStop.{WordsStop}
use Rattle.mufom_words.specs.Help.{own_verb}
use Rattle.mufom_words.specs.Sound.{IsSound}
use Rattle.mufom_words.proofs.HelpLaws.{own-memory, own-ok}
use Rattle.std.proofs.lemmas.Result.{IfOk-weaker}
use Rattle.std.specs.String.{string_bytes}
use Rattle.mufom_words.proofs.Sound.{commands-sound}
use Rattle.mufom_words.proofs.read.read_words.Goals as goal

pub returns-in-Some-from_name-clause-sound : goal.returns-in-Some-from_name-clause-sound
returns-in-Some-from_name-clause-sound c = IfOk-weaker c.command_for.result _ _
    (commands-sound c.in-Some-from_name.form (map (λ word. string_bytes word) c.args.words.now)) c.command_for.ensures.ok

pub returns-in-Some-clause-sound : goal.returns-in-Some-clause-sound
returns-in-Some-clause-sound c =
    let named : own_verb c.as_str.result.now ≡ Some c.in-Some.verb = sym c.own_verb.ensures ∙ c.in-Some.is in
    subst (λ (r : Result Command WordsStop). IfOk r IsSound) (sym c.own_answer.ensures) (own-ok c.as_str.result.now _ c.in-Some.verb named)

pub returns-in-Some-clause-memory : goal.returns-in-Some-clause-memory
returns-in-Some-clause-memory c = λ prints same. own-memory c.in-Some.verb _ (sym c.own_answer.ensures ∙ same)
