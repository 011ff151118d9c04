-- What the first step of a task results in: its output is ready, or there is none; and what was read of its inputs.
use Rattle.std.specs.Prelude.{◌≡◌, List, ℕ, Option, IfSome, Result, Ok, Err}
use Rattle.mufom_host.specs.World.{NamedFile, GrowsBy}
use Rattle.mufom_module.specs.declared.module.Parts.{Parts}
use Rattle.mufom_module.specs.Written.{written}
use Rattle.mufom_plan.specs.declared.plan.Plan.{Plan}
use Rattle.mufom_words.specs.Tree.{Forest}
use Rattle.mufom_groups.specs.Linked.{linked_module}
use Rattle.mufom_groups.specs.Work.{gives}
use Rattle.mufom_origins.specs.Words.{ModuleFiles}
use Rattle.mufom_outcome.specs.declared.outcome.Outcome.{Outcome}
use Rattle.mufom_task.specs.declared.task.Inputs.{Inputs}
use Rattle.mufom_task.specs.declared.task.Task.{Task}
use Rattle.mufom_task.specs.declared.task.Task.TheVariants as task
use Rattle.mufom_task.specs.Calls.{Call, OpensInputs}
use Rattle.mufom_task.specs.Inputs.{module_files}
use Rattle.mufom_task.specs.InputsRead.{NamesPlan, inputs_in}
use Rattle.mufom_task.specs.Tasks.{input_names, inputs_of}
use Rattle.mufom_prepare.specs.declared.ready.Ready.{Ready}
use Rattle.mufom_works.specs.Works.{IsHeld, made}
use Rattle.mufom_prepare.specs.Ready.{IsHelp, IsReady, ready_output}
use Rattle.mufom_works.specs.Run.{IsOutput}
use Rattle.mufom_works.specs.WorkEnds.{StopsFor}

-- ---- up to the output

-- The inputs of the task were read, and this is its output, ready to be put out.
pub record IsPrepared (t : Task) (call : Call) (ready : Ready) : Type 0 where
  pub output : IsOutput t call.old.files (ready_output ready)
  pub is : IsReady ready
  pub opened : GrowsBy call.old.opened call.new.opened (input_names (inputs_of t))

-- The task has no output, and this is its outcome.
pub record IsUnprepared (t : Task) (call : Call) (stop : Outcome) : Type 0 where
  pub why : StopsFor t call stop
  pub opens : OpensInputs (inputs_of t) call stop
  pub named : NamesPlan (inputs_of t).plan stop

-- Modules are linked into one under the given name or that of the first, and its file is ready to be written.
pub record MakesLink (tree : Forest) (name : Option (List ℕ)) (out : List ℕ) (ms : List Parts) (ready : Ready) : Type 0 where
  pub «module» : Parts
  pub links : linked_module tree name ms (gives «module»)
  pub held : IsHeld «module»
  pub output : ready_output ready ≡ made out (written «module»)
  pub is : IsReady ready

-- a task that prints a text of the program has its output ready, without memory
abbrev pub PrintsHelpText : Task → Result Ready Outcome → Type 0
PrintsHelpText (task.Help text) (Ok ready) = IsHelp ready
PrintsHelpText (task.Help text) (Err stop) = ⊥
PrintsHelpText _ result = Unit {0}

-- ---- explaining a task whose inputs were read

-- these are the inputs over these files, and the files of their modules
pub record AreReadOver (files : List NamedFile) (inputs : Inputs) (names : ModuleFiles) (plan : Plan) (ms : List Parts) : Type 0 where
  pub read : inputs_in files inputs (gives (plan, ms))
  pub named : names ≡ module_files files inputs

-- the same, if the files are known
abbrev pub AreReadFrom : Option (List NamedFile) → Inputs → ModuleFiles → Plan → List Parts → Type 0
AreReadFrom files inputs names plan ms = IfSome files (λ fs. AreReadOver fs inputs names plan ms)
