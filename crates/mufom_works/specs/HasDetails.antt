-- The lines about what the outcome of a task names: files, the plan, sections, regions, and the modules that mention a name.
use Rattle.std.specs.Prelude.{◌++◌, ◌≡◌, ℕ, ◌<◌, List, [], ◌∷◌, length, Option, Some, None, IfSome, if◌then◌else◌}
use Rattle.mufom_host.specs.World.{NamedFile, file_named}
use Rattle.mufom_host.specs.declared.cause.Cause.{Cause}
use Rattle.mufom_module.specs.declared.module.Parts.{Parts}
use Rattle.mufom_meaning.specs.Facts.{LinkFact, LocateFact}
use Rattle.mufom_meaning.specs.Joined.{IsJoined}
use Rattle.mufom_words.specs.Tree.{tree_of}
use Rattle.mufom_plan.specs.declared.plan.Plan.{Plan}
use Rattle.mufom_plan.specs.declared.plan.PlanSymbol.{PlanSymbol}
use Rattle.mufom_planned.specs.Shown.{shown_list}
use Rattle.mufom_groups.specs.Linked.{first_name}
use Rattle.mufom_groups.specs.Refused.{IsRefusedList}
use Rattle.mufom_groups.specs.Refusals.{link_refusal}
use Rattle.mufom_groups.specs.Work.{Work, ◌>>=◌, gives, one_with, sure}
use Rattle.mufom_origins.specs.Origins.{FileModule, modules_of, numbered, origins_of}
use Rattle.mufom_origins.specs.Places.{at_positions}
use Rattle.mufom_explain.specs.Details.{Explained, link_details, locate_details, name_details, shared_details}
use Rattle.mufom_explain.specs.Lines.{file_line, plan_line}
use Rattle.mufom_text.specs.Words.{Text}
use Rattle.mufom_outcome.specs.declared.outcome.Input.{Input}
use Rattle.mufom_outcome.specs.declared.outcome.Input.TheVariants as input
use Rattle.mufom_outcome.specs.declared.outcome.Outcome.{Outcome}
use Rattle.mufom_outcome.specs.declared.outcome.Outcome.TheVariants as outcome
use Rattle.mufom_outcome.specs.declared.outcome.Refusal.TheVariants as refusal
use Rattle.mufom_outcome.specs.Stop.{Stop, words_refused, plan_refused, file_refused, past_limit, link_fact, keep_unknown, name_shared, locate_fact, bytes_refused}
use Rattle.mufom_outcome.specs.Stop.{text_refused, listing_refused, too_many_modules}
use Rattle.mufom_prune.specs.Pruned.{Remains}
use Rattle.mufom_works.specs.Roots.{roots_by}
use Rattle.mufom_works.specs.Works.{Kept, kept_of, kept_origins}
use Rattle.mufom_origins.specs.Words.{ModuleFiles}
use Rattle.mufom_task.specs.Inputs.{module_files}
use Rattle.mufom_task.specs.Reading.{modules_in, plan_in}
use Rattle.mufom_task.specs.declared.task.Inputs.{Inputs}
use Rattle.mufom_task.specs.declared.task.Task.{Task}
use Rattle.mufom_task.specs.Tasks.{inputs_of, reads_files}
use Rattle.mufom_works.specs.FlatFiles.{AreFlatFiles}
use Rattle.mufom_works.specs.PlanLines.{ArePlanLines}
use Rattle.mufom_plan.specs.declared.refusal.PlanRefusal.{PlanRefusal}
use Rattle.mufom_works.specs.InputLines.{unread_file, unread_plan}
use Rattle.mufom_outcome.specs.LocateRefusals.{locate_refusal}

-- ---- inputs

-- the line of one of the files
pub record HasFileLine (c : Inputs) (n : ℕ) (details : Text) : Type 0 where
  pub there : n < length c.files
  pub are : details ≡ file_line c.files n

-- the line of the plan, if one is named
pub record HasPlanLine (c : Inputs) (details : Text) : Type 0 where
  pub name : List ℕ
  pub named : c.plan ≡ Some name
  pub are : details ≡ plan_line name

-- the line of one of the files, which could not be read, with a cause
pub record HasUnreadFile (c : Inputs) (n : ℕ) (details : Text) : Type 0 where
  pub cause : Cause
  pub there : n < length c.files
  pub are : details ≡ unread_file c.files n cause

-- the line of the plan, if one is named and could not be read, with a cause
pub record HasUnreadPlan (c : Inputs) (details : Text) : Type 0 where
  pub cause : Cause
  pub name : List ℕ
  pub named : c.plan ≡ Some name
  pub are : details ≡ unread_plan name cause

-- The line of an input that could not be read. The cause may be any that a host tells of its last failed call: no clause of the trait binds it, but
-- the host in memory has one.
abbrev pub HasUnreadLine : Inputs → Input → Text → Type 0
HasUnreadLine c input.Plan details = HasUnreadPlan c details
HasUnreadLine c (input.File n) details = HasUnreadFile c n details

-- The lines of a plan that is refused: those of the plan that is named and of the text of its file. Of which file the text is, is claimed only if the
-- files are known.
pub record HasPlanLines (files : Option (List NamedFile)) (c : Inputs) (r : PlanRefusal) (details : Text) : Type 0 where
  pub name : List ℕ
  pub named : c.plan ≡ Some name
  pub text : List ℕ
  pub of_file : IfSome files (λ fs. file_named name fs ≡ Some text)
  pub are : ArePlanLines name text r details

-- ---- linking

-- the modules at these places, with their places
abbrev pub modules_at_places : List Parts → List ℕ → List FileModule
modules_at_places ms files = at_positions (numbered ms) files

-- The modules of the list that cannot be linked because of this error, with their places among all that were read. In the lines that follow,
-- modules are counted in that list: if a group cannot be linked, in the group, not in the whole tree.
abbrev pub IsRefusedFlat : Inputs → List Parts → LinkFact → List FileModule → Type 0
IsRefusedFlat c ms f flat = (files : List ℕ) × IsRefusedList (tree_of c.marks) ms files f × (flat ≡ modules_at_places ms files)

-- the lines about a link error
abbrev pub lines_of_link : List NamedFile → Inputs → LinkFact → Work Stop Text
lines_of_link files c f = do
  ms ← modules_in files c
  flat ← one_with (IsRefusedFlat c ms f)
  sure (link_details (module_files files c) flat (link_refusal f))

-- ---- what is kept

-- the lines about a name that should be kept and that no public of the flat list has
abbrev pub lines_of_name : List NamedFile → Inputs → List ℕ → Work Stop Text
lines_of_name files c name = do
  ms ← modules_in files c
  flat ← one_with (AreFlatFiles (tree_of c.marks) ms)
  sure (name_details (module_files files c) flat name)

-- ---- locating

-- The one module for what is kept of a list: the partial link of the list under the name of its first module, if all is kept, and
-- otherwise what remains of that link.
abbrev pub IsModuleBy : Option Remains → List Parts → Parts → Type 0
IsModuleBy None ms «module» = IsJoined «module» ms (first_name ms)
IsModuleBy (Some c) ms «module» = ms ≡ «module» ∷ []

-- the one module that is located for it: with symbols of a plan, the link of the list with them
abbrev pub IsModuleWith : List PlanSymbol → Plan → Kept → Parts → Type 0
IsModuleWith [] plan kept «module» = IsModuleBy kept.rest kept.modules «module»
IsModuleWith (symbol ∷ more) plan kept «module» = IsJoined «module» (shown_list kept.modules plan) (first_name kept.modules)

abbrev pub IsModuleOf : Plan → Kept → Parts → Type 0
IsModuleOf plan kept «module» = IsModuleWith plan.symbols plan kept «module»

-- The context in which an error of locating is explained. Sections, sizes of commons and undefined names are those of what is kept of the flat list,
-- with the plan's symbols; the modules that mention a name or request a common are looked up in the whole flat list. A field is found in `«module»`, the
-- one module that is located; its expression is that of `own`, the one module for what is kept, in which a reference to a symbol of the plan is still
-- a reference. `names` are the files of all modules, and `maus` is the length of an address in units.
abbrev pub explained_by : ModuleFiles → Plan → List FileModule → Kept → Parts → Parts → ℕ → Explained
explained_by names plan flat kept «module» own maus = record {
  names = names;
  flat = flat;
  origins = kept_origins kept.rest (origins_of flat);
  maus = maus;
  modules = shown_list kept.modules plan;
  «module» = «module»;
  own = own;
  plan = plan;
}

-- the lines about an error of locating what is kept of the flat list
abbrev pub lines_of_locate : List NamedFile → Inputs → List (List ℕ) → ℕ → LocateFact → Work Stop Text
lines_of_locate files c keep maus f = do
  plan ← plan_in files c.plan
  ms ← modules_in files c
  flat ← one_with (AreFlatFiles (tree_of c.marks) ms)
  kept ← kept_of (roots_by keep plan) (modules_of flat)
  own ← one_with (IsModuleBy kept.rest kept.modules)
  «module» ← one_with (IsModuleOf plan kept)
  sure (locate_details (explained_by (module_files files c) plan flat kept «module» own maus) (locate_refusal f))

-- the line of the plan, if one is named
abbrev pub plan_lines : Option (List ℕ) → Text
plan_lines None = []
plan_lines (Some name) = plan_line name

-- the lines about a name that a symbol of the plan shares with a public of what is kept: the symbol, the modules that mention the name, and the plan
abbrev pub lines_of_shared : List NamedFile → Inputs → List ℕ → Work Stop Text
lines_of_shared files c name = do
  plan ← plan_in files c.plan
  ms ← modules_in files c
  flat ← one_with (AreFlatFiles (tree_of c.marks) ms)
  sure (shared_details (module_files files c) flat plan name ++ plan_lines c.plan)

-- ---- any end

-- The lines about what an error names, for these inputs and the symbols to keep. If they depend on the files, this claims something
-- only if the files are known. Errors that name no file, section, region or symbol have no lines.
abbrev pub HasDetails : Option (List NamedFile) → Inputs → List (List ℕ) → Stop → Text → Type 0
HasDetails files c keep (plan_refused r) details = HasPlanLines files c r details
HasDetails files c keep (file_refused n r) details = HasFileLine c n details
HasDetails files c keep (past_limit n) details = HasFileLine c n details
HasDetails files c keep (too_many_modules n) details = details ≡ []
HasDetails files c keep (text_refused r) details = HasFileLine c 0 details
HasDetails files c keep (listing_refused r) details = HasFileLine c 0 details
HasDetails files c keep (link_fact f) details = IfSome files (λ fs. lines_of_link fs c f (gives details))
HasDetails files c keep (keep_unknown name) details = IfSome files (λ fs. lines_of_name fs c name (gives details))
HasDetails files c keep (name_shared name) details = IfSome files (λ fs. lines_of_shared fs c name (gives details))
HasDetails files c keep (locate_fact maus f) details = IfSome files (λ fs. lines_of_locate fs c keep maus f (gives details))
HasDetails files c keep (bytes_refused b) details = details ≡ []
HasDetails files c keep (words_refused s) details = details ≡ []

-- The lines about the input that an outcome names; none if the outcome names no input. If it could not be read, the host told this cause. For a plan,
-- this claims something only if one is named.
abbrev pub IsInputDetail : Inputs → Cause → Outcome → Text → Type 0
IsInputDetail c cause (outcome.ReadFault input.Plan) details = (name : List ℕ) → c.plan ≡ Some name → details ≡ unread_plan name cause
IsInputDetail c cause (outcome.ReadFault (input.File n)) details = details ≡ unread_file c.files n cause
IsInputDetail c cause (outcome.Refused (refusal.Plan r)) details = (name : List ℕ) → c.plan ≡ Some name → details ≡ plan_line name
IsInputDetail c cause (outcome.Refused (refusal.Read n r)) details = details ≡ file_line c.files n
IsInputDetail c cause (outcome.Refused (refusal.InputLimit n)) details = details ≡ file_line c.files n
IsInputDetail c cause (outcome.Refused (refusal.Text r)) details = details ≡ file_line c.files 0
IsInputDetail c cause (outcome.Refused (refusal.Build r)) details = details ≡ file_line c.files 0
IsInputDetail c cause _ details = details ≡ []

-- The same if these are the bytes of the plan: if they are refused, the lines say where they are wrong.
abbrev pub IsUnreadDetail : Inputs → Cause → List ℕ → Outcome → Text → Type 0
IsUnreadDetail c cause text (outcome.Refused (refusal.Plan r)) details = (name : List ℕ) → c.plan ≡ Some name → ArePlanLines name text r details
IsUnreadDetail c cause text answer details = IsInputDetail c cause answer details

-- the inputs of a task that reads files
abbrev pub inputs_read : Task → Option Inputs
inputs_read t = if reads_files t then Some (inputs_of t) else None

-- The line about the input of a task that an outcome names; none for a task that reads no files.
abbrev pub IsTaskDetail : Option Inputs → Cause → Outcome → Text → Type 0
IsTaskDetail None cause answer details = details ≡ []
IsTaskDetail (Some inputs) cause answer details = IsInputDetail inputs cause answer details
