-- Laws that what a run reads, selects, links and keeps exists. With the laws that there is at most one of each, there is exactly one.
use Rattle.std.specs.Prelude.{◌≡◌, ◌≢◌, ◌↔◌, ℕ, Bool, List, [], length, IsSome, None, Ok}
use Rattle.std.specs.List.{AllByRecursion}
use Rattle.mufom_host.specs.World.{HoldBytes, NamedFile, file_named}
use Rattle.mufom_records.specs.declared.options.ReadOptions.{ReadOptions}
use Rattle.mufom_words.specs.declared.command.Command.{Command}
use Rattle.mufom_words.specs.Answer.{answer_of}
use Rattle.mufom_words.specs.Tree.{Forest}
use Rattle.mufom_module.specs.declared.module.Parts.{Parts}
use Rattle.mufom_plan.specs.declared.plan.Plan.{Plan}
use Rattle.mufom_meaning.specs.Joined.{IsJoined}
use Rattle.mufom_meaning.specs.LinkAnswer.{link_answer}
use Rattle.mufom_meaning.specs.Selection.{IsSelected}
use Rattle.mufom_planned.specs.Planned.{planned_answer}
use Rattle.mufom_prune.specs.Kept.{IsKeptFor}
use Rattle.mufom_prune.specs.Reached.{IsReached}
use Rattle.mufom_prune.specs.Underway.{AllBelow, AreBelow}
use Rattle.mufom_groups.specs.Linked.{IsFlatList}
use Rattle.mufom_groups.specs.Work.{Reached, gives}
use Rattle.mufom_outcome.specs.Stop.{Stop}
use Rattle.mufom_task.specs.declared.task.Inputs.{Inputs}
use Rattle.mufom_task.specs.declared.task.Product.{Product}
use Rattle.mufom_task.specs.declared.task.Request.TheVariants as request
use Rattle.mufom_task.specs.declared.task.Task.TheVariants as task
use Rattle.mufom_task.specs.Inputs.{ComeTo, Verdict}
use Rattle.mufom_task.specs.Reading.{modules_in, plan_in}
use Rattle.mufom_task.specs.Tasks.{request_of}
use Rattle.mufom_works.specs.Roots.{first_unknown, roots_by}
use Rattle.mufom_works.specs.Works.{Kept, kept_of}
use Rattle.mufom_run_laws.specs.RunLaws.{Accepts, HasNoFact}

-- ---- files

-- Files that exist, and hold bytes, have a result when they are read in order: the modules of all, or the first error.
abbrev pub FilesHaveAVerdict : Type 0
FilesHaveAVerdict =
    (options : ReadOptions) (roots : ℕ) (files : List NamedFile) (names : List (List ℕ))
    → HoldBytes files → AllByRecursion (λ name. IsSome (file_named name files)) names
    → (verdict : Verdict) × ComeTo options roots files names verdict

-- So reading the modules of a task has a result, if the files exist and hold bytes: the modules, unless they are too many, or the first error.
abbrev pub ReadingHasAResult : Type 0
ReadingHasAResult =
    (files : List NamedFile) (inputs : Inputs)
    → HoldBytes files → AllByRecursion (λ name. IsSome (file_named name files)) inputs.files
    → (reached : Reached Stop (List Parts)) × modules_in files inputs reached

-- ---- selected members

-- For all roots and members, there is a selection of members.
abbrev pub SelectionsExist : Type 0
SelectionsExist = (roots members : List Parts) → (chosen : List ℕ) × IsSelected roots members chosen

-- The modules of each tree of files have a flat list.
abbrev pub FlatListsExist : Type 0
FlatListsExist = (tree : Forest) (modules : List Parts) → (flat : List Parts) × IsFlatList tree modules flat

-- If the plan and the modules of the files can be read, the inputs are accepted, and give a flat list.
abbrev pub InputsAreAccepted : Type 0
InputsAreAccepted =
    (files : List NamedFile) (inputs : Inputs) (plan : Plan) (modules : List Parts)
    → plan_in files inputs.plan (gives plan) → modules_in files inputs (gives modules)
    → (flat : List Parts) × Accepts files inputs plan flat

-- ---- partial links

-- A list of at least one module that can be linked has a partial link under each name.
abbrev pub LinksExist : Type 0
LinksExist = (ms : List Parts) (name : List ℕ) → ms ≢ [] → link_answer ms ≡ None → (M : Parts) × IsJoined M ms name

-- ---- what is kept

-- If the roots are entries, and each entry needs only entries, there are marks of the entries that are reached.
abbrev pub MarksExist : Type 0
MarksExist =
    (needs : List (List ℕ)) (roots : List ℕ) → AllBelow (length needs) needs → AreBelow (length needs) roots
    → (marks : List Bool) × IsReached needs roots marks

-- For each module and all names of publics and of sections, there are marks of the entries that are kept.
abbrev pub KeptEntriesExist : Type 0
KeptEntriesExist = (m : Parts) (names stays : List (List ℕ)) → (marks : List Bool) × IsKeptFor m names stays marks

-- If the arguments ask for a location, and the inputs are accepted, then something is kept of their flat list if it can be linked and its publics have
-- all names to keep.
abbrev pub WhatIsKeptExists : Type 0
WhatIsKeptExists =
    (words : List (List ℕ)) (files : List NamedFile) (c : Command) (inputs : Inputs) (keep : List (List ℕ)) (p : Product) (plan : Plan) (flat : List Parts)
    → HoldBytes files → answer_of words ≡ Ok c → request_of c ≡ request.Run (task.Locate inputs keep p) → Accepts files inputs plan flat
    → link_answer flat ≡ None → first_unknown flat keep ≡ None
    → (kept : Kept) × kept_of (roots_by keep plan) flat (gives kept)

-- The list can be linked, its publics have all names to keep, and whatever is kept of it can be located.
pub record MayBeLocated (keep : List (List ℕ)) (flat : List Parts) (plan : Plan) : Type 0 where
  pub links : link_answer flat ≡ None
  pub known : first_unknown flat keep ≡ None
  pub locates : (kept : Kept) → kept_of (roots_by keep plan) flat (gives kept) → planned_answer kept.modules plan ≡ None

-- So no error applies to the flat list of accepted inputs if and only if it may be located.
abbrev pub NoFactIsDecided : Type 0
NoFactIsDecided =
    (words : List (List ℕ)) (files : List NamedFile) (c : Command) (inputs : Inputs) (keep : List (List ℕ)) (p : Product) (plan : Plan) (flat : List Parts)
    → HoldBytes files → answer_of words ≡ Ok c → request_of c ≡ request.Run (task.Locate inputs keep p) → Accepts files inputs plan flat
    → HasNoFact (roots_by keep plan) flat plan ↔ MayBeLocated keep flat plan
