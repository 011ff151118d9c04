-- What the words of a command that prints a text of the program come to.
use Rattle.std.proofs.Common.{◌≡◌, ◌≢◌, ◌≤◌, List, [], ◌∷◌, length, Option, Some, None, Result, Ok, Err, refl, arith}
use Rattle.std.specs.Prelude.{IfOk}
use Rattle.mufom_words.specs.declared.command.Command.{Command}
use Rattle.mufom_words.specs.declared.command.Verb.{Verb}
use Rattle.mufom_words.specs.declared.stop.WordsStop.{WordsStop}
use Rattle.mufom_words.specs.declared.stop.WordsStop.TheVariants as stop
use Rattle.mufom_words.specs.Help.{help_text, own_answer, own_verb, printing}
use Rattle.mufom_words.specs.Options.{Text}
use Rattle.mufom_words.specs.Sound.{IsSound}
use Rattle.mufom_words.proofs.Sound.{own-sound}

pub no-text : (words : List Text) → 2 ≤ length words → help_text words ≡ None
no-text [] many = absurd (omega (arith, many))
no-text (word ∷ []) many = absurd (omega (arith, many))
no-text (word ∷ other ∷ words) many = refl

if-ok : (r : Result Command WordsStop) → ((c : Command) → r ≡ Ok c → IsSound c) → IfOk r IsSound
if-ok (Ok c) each = each c refl
if-ok (Err s) each = tt

pub own-ok : (word : Text) (words : List Text) (v : Verb) → own_verb word ≡ Some v → IfOk (own_answer v words) IsSound
own-ok word words v is = if-ok (own_answer v words) (λ c named. own-sound word words v c is named)

pub own-memory : (v : Verb) (text : Option Text) → printing v text ≢ Err stop.NoMemory
own-memory v None same = cc
own-memory v (Some text) same = cc
