-- The contract of the program.
use Rattle.std.specs.Prelude.{List, ℕ}
use Rattle.mufom_outcome.specs.declared.outcome.Outcome.{Outcome}
use Rattle.mufom_task.specs.Calls.{Call}
use Rattle.mufom_command.specs.Contract.{IsRun}
use Rattle.mufom_headline.specs.Headline.{RunLocates}
use Rattle.mufom_headline.specs.Linking.{RunLinks}

-- What is true of a run of the program with these arguments. Its outcome has its cause, and exactly its output is made. If no I/O call failed, the run
-- did not run out of memory, and its plan and files were accepted, then the commands that locate are `Done` if and only if nothing keeps the flat list
-- of the modules from being located, and the output is that location; and `link` makes the file of a module that stands for the list.
pub record IsProgramRun (words : List (List ℕ)) (call : Call) (result : Outcome) : Type 0 where
  pub run : IsRun words call result
  pub locates : RunLocates words call result
  pub links : RunLinks words call result
