-- The arguments of a command that prints a text of the program.
use Rattle.std.proofs.Common.{◌≡◌, ◌≢◌, Bool, true, false, ◌||◌, List, [], ◌∷◌, Option, None, Some, Result, Ok, codes, cond, IsSome, refl, sym, ap}
use Rattle.std.proofs.Common.{subst, ◌∙◌, inl, inr}
use Rattle.std.specs.Result.{result_unwrap_or}
use Rattle.std.specs.Str.{bytes_eq}
use Rattle.mufom_words.specs.declared.command.Command.{Command}
use Rattle.mufom_words.specs.declared.command.Verb.{Verb}
use Rattle.mufom_words.specs.declared.command.Verb.TheVariants as verb
use Rattle.mufom_words.specs.declared.stop.WordsStop.{WordsStop}
use Rattle.mufom_words.specs.Answer.{PrintsHelp, answer_by, answer_of}
use Rattle.mufom_words.specs.Help.{own_command, own_text, own_verb, printing}
use Rattle.mufom_words.specs.Options.{Text}
use Rattle.mufom_outcome.specs.declared.outcome.Outcome.{Outcome}
use Rattle.mufom_outcome.specs.declared.outcome.Outcome.TheVariants as outcome
use Rattle.mufom_task.specs.Tasks.{AsksForHelp, request_by, request_of}
use Rattle.mufom_command.specs.RunParts.{IsPrintedAs, MayLackMemory}
use Rattle.mufom_command.specs.PutOut.{NeedsNoMemory}

-- it prints a text of the program
abbrev IsOwn : Verb → Type 0
IsOwn verb.Help = Unit {0}
IsOwn verb.Version = Unit {0}
IsOwn _ = ⊥

-- ---- the arguments of a command that prints a text of the program

printing-helps : (v : Verb) (text : Option Text) (c : Command) → IsOwn v → printing v text ≡ Ok c → AsksForHelp (request_of c)
printing-helps v None c own is = absurd cc
printing-helps v (Some text) c own is =
    let same : own_command v text ≡ c = ap (λ (r : Result Command WordsStop). result_unwrap_or r (own_command v text)) is in
    subst (λ (d : Command). AsksForHelp (request_of d)) same (by v own) where
      by : (v : Verb) → IsOwn v → AsksForHelp (request_by v (own_command v text))
      by verb.Help own = tt
      by verb.Version own = tt
      by verb.Show never = absurd never
      by verb.Check never = absurd never
      by verb.Link never = absurd never
      by verb.Locate never = absurd never
      by verb.Dump never = absurd never
      by verb.Map never = absurd never
      by verb.Make never = absurd never
      by verb.Addr never = absurd never
      by verb.Bin never = absurd never
      by verb.Txt never = absurd never
      by verb.FromTxt never = absurd never
      by verb.Build never = absurd never
      by verb.Explain never = absurd never

own-helps : (word : Text) (v : Verb) → own_verb word ≡ Some v → IsOwn v
own-helps word v is = by (bytes_eq word (codes "help") || (bytes_eq word (codes "--help") || bytes_eq word (codes "-h")))
    (bytes_eq word (codes "version") || (bytes_eq word (codes "--version") || bytes_eq word (codes "-V"))) is where
      by : (a b : Bool) → cond a (Some verb.Help) (cond b (Some verb.Version) None) ≡ Some v → IsOwn v
      by true b is = let same : verb.Help ≡ v = cc in subst IsOwn same tt
      by false true is = let same : verb.Version ≡ v = cc in subst IsOwn same tt
      by false false is = absurd cc

-- their command asks for such a text
pub help-asked : (words : List Text) (c : Command) → PrintsHelp words → answer_of words ≡ Ok c → AsksForHelp (request_of c)
help-asked [] c prints is = absurd prints
help-asked (word ∷ words) c prints is = by (own_verb word) refl prints is where
  by : (v : Option Verb) → own_verb word ≡ v → IsSome v → answer_by v word words ≡ Ok c → AsksForHelp (request_of c)
  by None named some is = absurd cc
  by (Some v) named some is = printing-helps v (own_text v words) c (own-helps word v named) is

-- and their error line needs no memory
pub never-lacks : (o result : Outcome) → IsPrintedAs o result → NeedsNoMemory o → result ≢ outcome.NoMemory
never-lacks o result (inl same) needs = λ none. subst (λ (x : Outcome). NeedsNoMemory x) (sym same ∙ none) needs
never-lacks o result (inr (same, may)) needs = λ none. never o may needs where
  never : (o : Outcome) → MayLackMemory o → NeedsNoMemory o → ⊥
  never outcome.Done may needs = may
  never (outcome.Refused r) may needs = needs
  never (outcome.Usage f) may needs = may
  never (outcome.ReadFault at) may needs = needs
  never outcome.WriteFault may needs = may
  never outcome.NoMemory may needs = needs
