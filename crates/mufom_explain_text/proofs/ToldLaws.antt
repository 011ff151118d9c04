-- What is told of a task whose inputs were read, and what the whole call has done then.
use Rattle.std.proofs.Common.{◌≡◌, ◌≢◌, ◌⊎◌, ℕ, List, length, Option, refl, sym, subst, inl, inr, arith}
use Rattle.mufom_host.specs.World.{Faults, Meaning, NamedFile, GrowsBy, OnlyOpens, OnlyPrints}
use Rattle.mufom_outcome.specs.declared.outcome.Outcome.{Outcome}
use Rattle.mufom_outcome.specs.declared.outcome.Outcome.TheVariants as outcome
use Rattle.mufom_task.specs.declared.task.Request.TheVariants as request
use Rattle.mufom_task.specs.declared.task.Task.{Task}
use Rattle.mufom_task.specs.Calls.{IsOpenedCount, OpensInputs}
use Rattle.mufom_task.specs.Tasks.{input_names, inputs_of}
use Rattle.mufom_task.proofs.InputLaws.{call_between}
use Rattle.mufom_works.specs.Explain.{EndsFor}
use Rattle.mufom_works.specs.ExplainText.{explain_text}
use Rattle.mufom_works.specs.Making.{IsPrinted}
use Rattle.mufom_works.specs.Run.{PutsOutNothing}
use Rattle.mufom_explain_text.specs.Explains.{AskFor, EndsOver, Explains, Tells}
use Rattle.mufom_works.proofs.OpenedLaws.{opens-read}
use Rattle.mufom_works.proofs.EndLaws.{ended-count}
use Rattle.mufom_explain_text.proofs.ExplainLaws.{told-explains}
use Rattle.mufom_explain_text.proofs.ExplainReading.{task-ends, task-opens, untold-explains}

-- only for lack of memory nothing is told
pub is-lacking : (result : Outcome) → (result ≢ outcome.NoMemory → ⊥) → result ≡ outcome.NoMemory
is-lacking outcome.NoMemory other = refl
is-lacking outcome.Done other = absurd (other (λ same. cc))
is-lacking outcome.WriteFault other = absurd (other (λ same. cc))
is-lacking (outcome.Refused r) other = absurd (other (λ same. cc))
is-lacking (outcome.Usage f) other = absurd (other (λ same. cc))
is-lacking (outcome.ReadFault at) other = absurd (other (λ same. cc))

module _ (words : List (List ℕ)) (t : Task) where
  -- memory ran out before anything was printed
  pub told-nothing : (files : Option (List NamedFile)) (m : Meaning) (f : Faults) → Tells words t files (call_between m m f f) outcome.NoMemory
  told-nothing files m f = record { told = inl refl; nothing = λ same. refl; only = (refl, refl, omega arith) }

  module _ (files : Option (List NamedFile)) (old new : Meaning) (before now : Faults) (only : OnlyPrints old new before now) (answer : Outcome)
      (details : List ℕ)
      (result : Outcome) (prints : IsPrinted (explain_text words answer details) (call_between old new before now) result) where
    nothing-printed : result ≡ outcome.NoMemory → PutsOutNothing (call_between old new before now)
    nothing-printed same =
        subst (λ (o : Outcome). IsPrinted (explain_text words answer details) (call_between old new before now) o) same prints

    -- the text on this end was printed, or printing it failed
    pub told-printed : EndsOver files t answer details → Tells words t files (call_between old new before now) result
    told-printed ends = record { told = inr (answer, details, ends, prints); nothing = nothing-printed; only = only }

    -- there was no memory for this end
    told-lacking : answer ≡ outcome.NoMemory
        → (result ≢ outcome.NoMemory → answer ≢ outcome.NoMemory)
        → Tells words t files (call_between old new before now) result
    told-lacking lacks told = record { told = inl (is-lacking result (λ other. told other lacks)); nothing = nothing-printed; only = only }

    -- either of these
    pub told-either : (answer ≡ outcome.NoMemory) ⊎ EndsOver files t answer details
        → (result ≢ outcome.NoMemory → answer ≢ outcome.NoMemory)
        → Tells words t files (call_between old new before now) result
    told-either (inl lacks) told = told-lacking lacks told
    told-either (inr ends) told = told-printed ends

-- ---- how many inputs were opened

all-counted : (files : Option (List NamedFile)) (t : Task) (answer : Outcome) (details : List ℕ) → EndsOver files t answer details
    → IsOpenedCount (inputs_of t) answer (length (input_names (inputs_of t)))
all-counted files t outcome.Done details ends = refl
all-counted files t (outcome.Refused r) details (is, of_modules, lines) =
    subst (λ (o : Outcome). IsOpenedCount (inputs_of t) o (length (input_names (inputs_of t)))) (sym is.is) (ended-count (inputs_of t) is.stop of_modules)
all-counted files t (outcome.Usage f) details ends = absurd ends
all-counted files t (outcome.ReadFault at) details ends = absurd ends
all-counted files t outcome.WriteFault details ends = absurd ends
all-counted files t outcome.NoMemory details ends = absurd ends

-- ---- the whole call

-- the text tells of the call how the task ended
ends-for : (t : Task) (old new : Meaning) (before now : Faults) (answer : Outcome) (details : List ℕ) → EndsOver old.files t answer details
    → EndsFor t (call_between old new before now) answer details
ends-for t old new before now outcome.Done details ends = ends
ends-for t old new before now (outcome.Refused r) details (is, of_modules, lines) = (is, lines)
ends-for t old new before now (outcome.Usage f) details ends = absurd ends
ends-for t old new before now (outcome.ReadFault at) details ends = absurd ends
ends-for t old new before now outcome.WriteFault details ends = absurd ends
ends-for t old new before now outcome.NoMemory details ends = absurd ends

-- All inputs were opened, and this was told of them.
pub told-all : (words : List (List ℕ)) (t : Task) → AskFor words (request.Run t) → (old mid new : Meaning) (before between now : Faults)
    → OnlyOpens old mid before between → GrowsBy old.opened mid.opened (input_names (inputs_of t)) → (result : Outcome)
    → Tells words t old.files (call_between mid new between now) result → Explains words (call_between old new before now) result
told-all words t asks old mid new before between now only opened result tells = by tells.told where
  opens : (answer : Outcome) → IsOpenedCount (inputs_of t) answer (length (input_names (inputs_of t)))
      → OpensInputs (inputs_of t) (call_between old mid before between) answer
  opens answer exact = opens-read (inputs_of t) old mid mid before between opened answer refl exact

  by : (result ≡ outcome.NoMemory) ⊎ ((answer : Outcome) × (details : List ℕ) × EndsOver old.files t answer details
      × IsPrinted (explain_text words answer details) (call_between mid new between now) result)
      → Explains words (call_between old new before now) result
  by (inl lacks) =
      subst (λ (o : Outcome). Explains words (call_between old new before now) o) (sym lacks)
      (untold-explains words old mid before between only new now tells.only outcome.NoMemory
      (task-opens words t asks old mid before between only new now tells.only outcome.NoMemory (opens outcome.NoMemory tt)) (tells.nothing lacks))
  by (inr (answer, details, ends, is)) =
      told-explains words old mid before between only new now tells.only answer details
      (task-ends words t asks old mid before between only new now tells.only (call_between old new before now) answer details
      (ends-for t old new before now answer details ends))
      (task-opens words t asks old mid before between only new now tells.only answer (opens answer (all-counted old.files t answer details ends)))
      result is
