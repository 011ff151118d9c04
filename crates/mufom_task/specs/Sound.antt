-- What holds for each task of arguments.
use Rattle.std.specs.Prelude.{◌≡◌, ◌≤◌, ℕ, List, length, None, Option, IfSome}
use Rattle.mufom_numbers.specs.declared.limits.TheConstants.{MOST_MODULES, MOST_STRING_BYTES}
use Rattle.mufom_words.specs.Answer.{most_files}
use Rattle.mufom_words.specs.Sound.{HasTree}
use Rattle.mufom_words.specs.Tree.{leaves, tree_of}
use Rattle.mufom_task.specs.declared.task.Inputs.{Inputs}
use Rattle.mufom_task.specs.declared.task.Request.{Request}
use Rattle.mufom_task.specs.declared.task.Request.TheVariants as request
use Rattle.mufom_task.specs.declared.task.Task.{Task}
use Rattle.mufom_task.specs.declared.task.Task.TheVariants as task

-- The marks are those of a tree over the first of the files. The tree has a file, and there are no more files than a run may have.
pub record IsSoundInputs (inputs : Inputs) : Type 0 where
  pub tree : HasTree inputs.marks (length inputs.files)
  pub some : 1 ≤ length (leaves (tree_of inputs.marks))
  pub few : length inputs.files ≤ most_files

-- no plan is read
pub record IsSoundFiles (inputs : Inputs) : Type 0 where
  pub sound : IsSoundInputs inputs
  pub no_plan : inputs.plan ≡ None

-- there is one file, and no plan is read
pub record IsSoundFile (inputs : Inputs) : Type 0 where
  pub sound : IsSoundFiles inputs
  pub one : length inputs.files ≡ 1

-- The inputs are sound, a name is not too long, the number of bytes in an address is from 1 to 8, and a count is within its bounds.
abbrev pub IsSoundTask : Task → Type 0
IsSoundTask (task.Show inputs listing) = IsSoundFile inputs
IsSoundTask (task.Check inputs) = IsSoundFiles inputs
IsSoundTask (task.Link inputs name out) = IsSoundInputs inputs × IfSome name (λ given. length given ≤ MOST_STRING_BYTES)
IsSoundTask (task.Locate inputs keep p) = IsSoundInputs inputs
IsSoundTask (task.FromTxt inputs maus out) = IsSoundFile inputs × (1 ≤ maus) × (maus ≤ 8)
IsSoundTask (task.Build inputs out) = IsSoundFile inputs
IsSoundTask (task.Make count) = (1 ≤ count) × (count ≤ MOST_MODULES)
IsSoundTask (task.Help text) = Unit {0}

abbrev pub IsSoundRequest : Request → Type 0
IsSoundRequest (request.Run t) = IsSoundTask t
IsSoundRequest request.Explain = Unit {0}
