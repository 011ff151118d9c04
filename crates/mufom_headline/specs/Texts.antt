-- The files that `fromtxt` makes of a TI-TXT text and `build` of a listing, and the text that `txt` makes of the former.
use Rattle.std.specs.Prelude.{◌≡◌, ◌≤◌, ℕ, ◌*◌, List, [], ◌∷◌, length, Some, None, Ok}
use Rattle.mufom_numbers.specs.declared.limits.TheConstants.{MOST_FILE_BYTES}
use Rattle.mufom_host.specs.World.{NamedFile, file_named}
use Rattle.mufom_words.specs.declared.command.Command.{Command}
use Rattle.mufom_words.specs.Answer.{answer_of}
use Rattle.mufom_words.specs.Tree.{empty, file, tree_of}
use Rattle.mufom_module.specs.declared.module.Parts.{Parts}
use Rattle.mufom_module.specs.Defects.{IsValid}
use Rattle.mufom_module.specs.Made.{IsMade}
use Rattle.mufom_module.specs.Written.{written}
use Rattle.mufom_text.specs.Show.{listing_text}
use Rattle.mufom_build.specs.Lines.{Build}
use Rattle.mufom_meaning.specs.declared.located.Run.{Run}
use Rattle.mufom_titxt.specs.TextModules.{text_parts}
use Rattle.mufom_titxt.specs.Texts.{IsTxtOf}
use Rattle.mufom_titxt.specs.Written.{txt_text}
use Rattle.mufom_groups.specs.Work.{gives}
use Rattle.mufom_outcome.specs.declared.outcome.Outcome.{Outcome}
use Rattle.mufom_outcome.specs.declared.outcome.Outcome.TheVariants as outcome
use Rattle.mufom_task.specs.declared.task.Inputs.{Inputs}
use Rattle.mufom_task.specs.declared.task.Product.TheVariants as product
use Rattle.mufom_task.specs.declared.task.Request.TheVariants as request
use Rattle.mufom_task.specs.declared.task.Task.{Task}
use Rattle.mufom_task.specs.declared.task.Task.TheVariants as task
use Rattle.mufom_task.specs.Calls.{Call}
use Rattle.mufom_task.specs.Tasks.{request_of}
use Rattle.mufom_works.specs.Works.{made, work_of}
use Rattle.mufom_works.specs.Result.{Answers}
use Rattle.mufom_works.specs.Run.{MakesFile}
use Rattle.mufom_run_laws.specs.RunLaws.{IsUndisturbed}
use Rattle.mufom_headline.specs.ReadBack.{IsReadBack}

-- the inputs are this file alone, without a plan
pub record IsFileAlone (inputs : Inputs) (name : List ℕ) : Type 0 where
  pub files : inputs.files ≡ name ∷ []
  pub marks : tree_of inputs.marks ≡ file 0 empty
  pub plan : inputs.plan ≡ None

-- The work of the task over these files has a file with this name and these bytes as its output. A run that asks for the task is `Done`, and makes this
-- file and nothing else, if no I/O call failed and it did not run out of memory.
pub record Makes (files : List NamedFile) (t : Task) (name bytes : List ℕ) : Type 0 where
  pub work : work_of t files (gives (made name bytes))
  pub run : (words : List (List ℕ)) (call : Call) (result : Outcome) (c : Command) → Answers words call result → IsUndisturbed files call result
      → answer_of words ≡ Ok c → request_of c ≡ request.Run t → (result ≡ outcome.Done) × MakesFile name bytes call

-- Given the text, `fromtxt` makes the file of the module of the runs. If the file is not too long, a later run reads that module from it, and given this
-- file `txt` without `--keep` makes the text of the runs, which is again a text of them.
pub record ComesBack (text : List ℕ) (maus : ℕ) (runs : List Run) : Type 0 where
  pub module_file : (files : List NamedFile) (inputs : Inputs) (name out : List ℕ) → inputs.files ≡ name ∷ [] → file_named name files ≡ Some text
      → Makes files (task.FromTxt inputs maus out) out (written (text_parts maus runs))
  pub read_back : length (written (text_parts maus runs)) ≤ MOST_FILE_BYTES → IsReadBack (text_parts maus runs)
  pub text_file : length (written (text_parts maus runs)) ≤ MOST_FILE_BYTES
      → (files : List NamedFile) (inputs : Inputs) (name out : List ℕ) → IsFileAlone inputs name
      → file_named name files ≡ Some (written (text_parts maus runs))
      → Makes files (task.Locate inputs [] (product.TiTxt out)) out (txt_text runs)
  pub same_runs : IsTxtOf (txt_text runs) (8 * maus) runs

-- A text without an error that is not too long comes back.
abbrev pub TextsComeBack : Type 0
TextsComeBack =
    (text : List ℕ) (maus : ℕ) (runs : List Run) → 1 ≤ maus → maus ≤ 8 → length text ≤ MOST_FILE_BYTES → IsTxtOf text (8 * maus) runs
    → ComesBack text maus runs

-- Given a text from which the module is built, `build` makes the file of the module. A later run reads the module from it, if the file is not too long.
pub record IsBuilt (text : List ℕ) (m : Parts) : Type 0 where
  pub module_file : (files : List NamedFile) (inputs : Inputs) (name out : List ℕ) → inputs.files ≡ name ∷ [] → file_named name files ≡ Some text
      → Makes files (task.Build inputs out) out (written m)
  pub read_back : length (written m) ≤ MOST_FILE_BYTES → IsReadBack m

-- This holds for each text that is a listing of a module, up to the spaces and the forms of numbers that may differ, and for the text that
-- `show --listing` prints for a module. The text must not be too long.
pub record ListingsAreBuilt : Type 0 where
  pub texts : (text : List ℕ) (m : Parts) → Build text m → length text ≤ MOST_FILE_BYTES → IsBuilt text m
  pub listings : (m : Parts) → IsValid m → IsMade m → length (listing_text m) ≤ MOST_FILE_BYTES → IsBuilt (listing_text m) m
