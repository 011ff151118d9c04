-- The outcome of a run that an error of a layer ends. Each layer has an error for out of memory, which is an outcome of its own.
use Rattle.std.specs.Prelude.{ℕ}
use Rattle.mufom_words.specs.declared.stop.WordsStop.{WordsStop}
use Rattle.mufom_words.specs.declared.stop.WordsStop.TheVariants as words_stop
use Rattle.mufom_refusals.specs.declared.link.LinkRefusal.{LinkRefusal}
use Rattle.mufom_refusals.specs.declared.link.LinkRefusal.TheVariants as link
use Rattle.mufom_refusals.specs.declared.locate.LocateRefusal.{LocateRefusal}
use Rattle.mufom_refusals.specs.declared.locate.LocateRefusal.TheVariants as locate
use Rattle.mufom_refusals.specs.declared.planned.PlannedRefusal.{PlannedRefusal}
use Rattle.mufom_refusals.specs.declared.planned.PlannedRefusal.TheVariants as planned
use Rattle.mufom_refusals.specs.declared.prune.PruneRefusal.{PruneRefusal}
use Rattle.mufom_refusals.specs.declared.prune.PruneRefusal.TheVariants as prune
use Rattle.mufom_outcome.specs.declared.cause.Cause.{Cause}
use Rattle.mufom_outcome.specs.declared.cause.Cause.TheVariants as cause
use Rattle.mufom_outcome.specs.declared.outcome.Outcome.{Outcome}
use Rattle.mufom_outcome.specs.declared.outcome.Outcome.TheVariants as outcome
use Rattle.mufom_outcome.specs.declared.outcome.Refusal.TheVariants as refusal

-- the outcome of arguments that are not a command
abbrev pub stop_answer : WordsStop → Outcome
stop_answer (words_stop.Usage f) = outcome.Usage f
stop_answer (words_stop.TooManyFiles count) = outcome.Refused (refusal.TooManyFiles count)
stop_answer (words_stop.TooDeep depth) = outcome.Refused (refusal.TooDeep depth)
stop_answer words_stop.NoMemory = outcome.NoMemory

-- the outcome if modules cannot be linked
abbrev pub outcome_of_link : LinkRefusal → Outcome
outcome_of_link link.NoMemory = outcome.NoMemory
outcome_of_link r = outcome.Refused (refusal.Link r)

-- the outcome if modules cannot be located; an address has the given number of units
abbrev pub outcome_of_locate : ℕ → LocateRefusal → Outcome
outcome_of_locate maus locate.NoMemory = outcome.NoMemory
outcome_of_locate maus r = outcome.Refused (refusal.Locate r maus)

-- the outcome if modules cannot be located by a plan
abbrev pub outcome_of_planned : ℕ → PlannedRefusal → Outcome
outcome_of_planned maus (planned.SharedName name) = outcome.Refused (refusal.SharedName name)
outcome_of_planned maus (planned.Locate r) = outcome_of_locate maus r

-- the outcome if nothing can be kept for a name
abbrev pub outcome_of_prune : PruneRefusal → Outcome
outcome_of_prune prune.NoMemory = outcome.NoMemory
outcome_of_prune (prune.Unknown name) = outcome.Refused (refusal.Keep name)

-- the outcome of a run with this cause
abbrev pub cause_outcome : Cause → Outcome
cause_outcome (cause.Outcome o) = o.now
cause_outcome (cause.Link r) = outcome.Refused (refusal.Link r.now)
cause_outcome (cause.Keep name) = outcome.Refused (refusal.Keep name.now)
cause_outcome (cause.SharedName name) = outcome.Refused (refusal.SharedName name.now)
cause_outcome (cause.Locate r maus) = outcome.Refused (refusal.Locate r.now maus)
