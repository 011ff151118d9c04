-- The effects of printing a text and of writing a file, with the outcome of the run.
use Rattle.std.specs.Prelude.{ℕ, ◌≤◌, List}
use Rattle.mufom_host.specs.World.{KeepsAllButFile, KeepsAllButWrites, Rose}
use Rattle.mufom_outcome.specs.declared.outcome.Outcome.{Outcome}
use Rattle.mufom_outcome.specs.declared.outcome.Outcome.TheVariants as outcome
use Rattle.mufom_task.specs.Calls.{Call}
use Rattle.mufom_works.specs.Run.{BeginsFile, BeginsText, MakesFile, PrintsText, PutsOutNothing}

-- The effect of writing a file with these bytes: the whole file, or a part of it if a write failed.
abbrev pub IsMade : (name bytes : List ℕ) → Call → Outcome → Type 0
IsMade name bytes call outcome.Done = MakesFile name bytes call
IsMade name bytes call outcome.WriteFault = Rose call.before.writes call.now.writes × BeginsFile name bytes call
IsMade name bytes call _ = ⊥

-- The effect of printing this text: the whole text, or a prefix of it if a print failed.
abbrev pub IsPrinted : List ℕ → Call → Outcome → Type 0
IsPrinted text call outcome.Done = PrintsText text call
IsPrinted text call outcome.WriteFault = Rose call.before.writes call.now.writes × BeginsText text call
IsPrinted text call outcome.NoMemory = PutsOutNothing call
IsPrinted text call _ = ⊥

-- The file is written, or a part of it if a write failed; nothing else changes.
pub record IsMadeAlone (name bytes : List ℕ) (call : Call) (result : Outcome) : Type 0 where
  pub made : IsMade name bytes call result
  pub only : KeepsAllButFile call.old call.new
  pub counts : KeepsAllButWrites call.before call.now
  pub later : call.before.writes ≤ call.now.writes
