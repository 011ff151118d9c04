-- What is answered where `clap` refuses the words.
use Rattle.std.proofs.Common.{◌≡◌, ◌≢◌, ◌⊎◌, Bool, true, false, inl, inr, List, [], ◌∷◌, refl, ap, Err}
use Rattle.clap.specs.Kinds.{IsAmong, Kinds}
use Rattle.clap.specs.declared.error.kind.ErrorKind.{ErrorKind}
use Rattle.clap.specs.declared.error.kind.ErrorKind.TheVariants as kind
use Rattle.mufom_words.specs.declared.form.Form.{Form}
use Rattle.mufom_words.specs.declared.stop.WordsStop.TheVariants as stop
use Rattle.mufom_words.specs.Options.{Text, app_for, usage_of}
use Rattle.clap.specs.Faults.{fault_of}
use Rattle.mufom_words.specs.Answer.{answer_for, command_by, given, is_memory, stop_by, words_stop, unless_stopped}
use Rattle.mufom_words.specs.declared.stop.UsageFault.TheVariants as fault
use Rattle.std.proofs.Common.{Some, cond}

-- an error of a kind that the words give, or of out of memory
pub refusal_answers : (f : Form) (words : List Text) (k : ErrorKind) → (k ≡ kind.OutOfMemory) ⊎ IsAmong k (fault_of (app_for f) words)
    → stop_by k ≢ stop.NoMemory
    → answer_for (Some f) words ≡ Err (stop_by k)
refusal_answers f words k found other = elim found [
  | inl memory ↦ absurd (other (ap stop_by memory))
  | inr among ↦ by_kind (is_memory k) (fault_of (app_for f) words) among other
]
  where
    by_kind : (b : Bool) (kinds : Kinds) → IsAmong k kinds → cond b stop.NoMemory (stop.Usage fault.BadWords) ≢ stop.NoMemory
        → unless_stopped (words_stop (usage_of f) kinds (given f words)) (command_by (usage_of f) (given f words))
        ≡ Err (cond b stop.NoMemory (stop.Usage fault.BadWords))
    by_kind b [] among other = absurd among
    by_kind true (x ∷ kinds) among other = absurd (other refl)
    by_kind false (x ∷ kinds) among other = refl
