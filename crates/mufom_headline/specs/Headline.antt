-- The result of a run of a command that locates: the main law of the program. It can be read alone, with the definitions that it names.
use Rattle.std.specs.Prelude.{◌≡◌, ◌↔◌, ℕ, List, [], ◌∷◌, Option, Some, None, Ok}
use Rattle.mufom_host.specs.World.{NamedFile}
use Rattle.mufom_words.specs.declared.command.Command.{Command}
use Rattle.mufom_words.specs.Answer.{answer_of}
use Rattle.mufom_words.specs.Tree.{tree_of}
use Rattle.mufom_module.specs.declared.module.Parts.{Parts}
use Rattle.mufom_plan.specs.declared.plan.Plan.{Plan}
use Rattle.mufom_text.specs.Image.{image_text}
use Rattle.mufom_meaning.specs.declared.located.LocatedParts.{LocatedParts}
use Rattle.mufom_meaning.specs.Absolute.{absolute_of, no_regions}
use Rattle.mufom_meaning.specs.Facts.{LinkFact, LocateFact}
use Rattle.mufom_planned.specs.Planned.{IsPlanned, of_list, planned_answer, shared_name}
use Rattle.mufom_meaning.specs.LinkAnswer.{link_answer}
use Rattle.mufom_meaning.specs.Location.{IsLocation}
use Rattle.mufom_write.specs.Raw.{raw_image}
use Rattle.mufom_stages.specs.Stages.{CameByLinks, named_as}
use Rattle.mufom_addr.specs.AddressHit.{hit_at}
use Rattle.mufom_titxt.specs.Written.{txt_text}
use Rattle.mufom_groups.specs.Work.{gives}
use Rattle.mufom_origins.specs.declared.origins.Origin.{Origin}
use Rattle.mufom_origins.specs.Origins.{FileModule, origins_of}
use Rattle.mufom_map.specs.MapText.{view_text}
use Rattle.mufom_origins.specs.Words.{ModuleFiles}
use Rattle.mufom_outcome.specs.declared.outcome.Outcome.{Outcome}
use Rattle.mufom_outcome.specs.declared.outcome.Outcome.TheVariants as outcome
use Rattle.mufom_outcome.specs.declared.outcome.BinRefusal.{BinRefusal}
use Rattle.mufom_outcome.specs.declared.outcome.Refusal.TheVariants as refusal
use Rattle.mufom_outcome.specs.LocateRefusals.{locate_refusal}
use Rattle.mufom_task.specs.declared.task.Inputs.{Inputs}
use Rattle.mufom_task.specs.declared.task.Product.{Product}
use Rattle.mufom_task.specs.declared.task.Product.TheVariants as product
use Rattle.mufom_task.specs.declared.task.Request.TheVariants as request
use Rattle.mufom_task.specs.declared.task.Task.TheVariants as task
use Rattle.mufom_task.specs.Inputs.{module_files}
use Rattle.mufom_task.specs.Calls.{Call}
use Rattle.mufom_task.specs.Tasks.{request_of}
use Rattle.mufom_works.specs.Roots.{Roots, first_unknown, roots_by}
use Rattle.mufom_works.specs.Works.{Kept, bytes_fact, kept_of, mapped_kept, maus_of, region_image, region_named}
use Rattle.mufom_works.specs.FlatFiles.{AreFlatFiles}
use Rattle.mufom_works.specs.Result.{Answers}
use Rattle.mufom_works.specs.Run.{MakesFile, PrintsText}
use Rattle.mufom_works.specs.Text.{hit_text}
use Rattle.mufom_run_laws.specs.RunLaws.{Accepts, HasNoFact, IsUndisturbed, MayPutOut}
use Rattle.mufom_headline.specs.Kept.{KeepsMeaning}
use Rattle.mufom_headline.specs.Linking.{IsRefusedLink}
use Rattle.mufom_headline.specs.ReadBack.{IsPutInFile}

-- The output of a run is this location of what is kept, and nothing else. `locate` writes the file of the location's absolute module, from which a
-- later run reads that module; `bin` writes the file of its raw image, or of the bytes of a region, and `txt` the file of its TI-TXT text. `dump`
-- prints the text of its image; `addr` prints the lines of the function and the source line at the address in its arguments; `map` prints the sections
-- and symbols with their addresses, the modules from which they come and the names of their files, or the lines of one address. `names` are the files
-- of all modules that were read; `origins` are the names of the modules of the list, their places among all, and the numbers of their entries.
abbrev pub PutsOutLocation : Product → ModuleFiles → List Origin → Plan → Kept → LocatedParts → Call → Type 0
PutsOutLocation (product.Absolute out) names origins plan kept r call = IsPutInFile out (absolute_of r) call
PutsOutLocation (product.Raw fill out) names origins plan kept r call = MakesFile out (raw_image fill r.runs) call
PutsOutLocation (product.Region name fill out) names origins plan kept r call =
    MakesFile out (region_image fill (region_named plan.regions name) r) call
PutsOutLocation (product.TiTxt out) names origins plan kept r call = MakesFile out (txt_text r.runs) call
PutsOutLocation product.Image names origins plan kept r call = PrintsText (image_text r) call
PutsOutLocation (product.Hit at) names origins plan kept r call = PrintsText (hit_text r.maus (hit_at r.debug at)) call
PutsOutLocation (product.Map at) names origins plan kept r call = PrintsText (view_text names at (mapped_kept origins plan kept r)) call

-- The output of a run over a list of modules is a location, by the plan, of what is kept of the list. Without `--keep`, that is the list
-- itself; with it, it is one module: the part of the list's link that the named public symbols need, and the sections that the plan keeps. Wherever
-- sections and commons are placed, this part means what the list means of it.
--
-- `IsPlanned` defines the location: each public, the start and each debug expression has the value of its expression at the planned bases
-- of sections and commons, where the plan's symbols are publics too; each loaded address holds the byte of the literal or field that is loaded there;
-- nothing else is loaded. The bytes of a region with a load region are loaded into its copy there, and have the values that they have at their own
-- addresses. For a plan without symbols and load regions this is the definition `IsLocation`.
--
-- Located alone, by a plan without regions, the absolute module of the location gives the same location.
pub record IsPutOut (keep : Option Roots) (p : Product) (names : ModuleFiles) (origins : List Origin) (plan : Plan) (list : List Parts) (call : Call)
    : Type 0 where
  pub kept : Kept
  pub keeps : kept_of keep list (gives kept)
  pub means : KeepsMeaning kept.rest kept.modules list
  pub location : LocatedParts
  pub is_location : IsPlanned kept.modules plan location
  pub itself : IsLocation (absolute_of location ∷ []) no_regions location
  pub puts_out : PutsOutLocation p names origins plan kept location call

-- What `bin` would write of the list may be written: the raw image, or the region, is not too long for a file, and the plan has a region of the name
-- in the arguments. This is always true for the other commands.
abbrev pub MayBeWritten : Option Roots → Product → Plan → List Parts → Type 0
MayBeWritten keep p plan list =
    (kept : Kept) (r : LocatedParts) → kept_of keep list (gives kept) → IsPlanned kept.modules plan r → MayPutOut p plan r

-- The result of the run is that of locating this list. It is `Done` if and only if the list can be linked, what is kept of it can be located, and the
-- bytes of `bin` may be written; the output is then the location. A list that cannot be linked is refused with a link error of the list. If it can be
-- linked, the first name of `--keep` that no public symbol of it has is refused; and if what is kept of it cannot be located, the run is refused with the
-- first error of locating it. A raw image, or a region, that is too long is refused with its length in bytes; and a name that no region of the plan has,
-- with the name.
pub record HasLocated (keep : Option Roots) (p : Product) (names : ModuleFiles) (origins : List Origin) (plan : Plan) (call : Call)
    (result : Outcome) (list : List Parts) : Type 0 where
  pub done : (result ≡ outcome.Done) ↔ (HasNoFact keep list plan × MayBeWritten keep p plan list)
  pub output : result ≡ outcome.Done → IsPutOut keep p names origins plan list call
  pub unlinked : (f : LinkFact) → link_answer list ≡ Some f → IsRefusedLink list result
  pub unknown : (roots : Roots) (name : List ℕ) → keep ≡ Some roots → link_answer list ≡ None → first_unknown list roots.names ≡ Some name
      → result ≡ outcome.Refused (refusal.Keep name)
  pub refused : (kept : Kept) (f : LocateFact) → link_answer list ≡ None → kept_of keep list (gives kept)
      → planned_answer kept.modules plan ≡ Some (of_list f) → result ≡ outcome.Refused (refusal.Locate (locate_refusal f) (maus_of kept.modules))
  pub shared : (kept : Kept) (name : List ℕ) → link_answer list ≡ None → kept_of keep list (gives kept)
      → planned_answer kept.modules plan ≡ Some (shared_name name) → result ≡ outcome.Refused (refusal.SharedName name)
  pub unwritten : (kept : Kept) (r : LocatedParts) (b : BinRefusal) → link_answer list ≡ None → kept_of keep list (gives kept)
      → IsPlanned kept.modules plan r → bytes_fact p plan.regions r ≡ Some b → result ≡ outcome.Refused (refusal.Bin b)

-- The result of the run is that of locating the flat list of its modules. If earlier runs made these modules from another list by partial
-- links, in any number of stages, it is also the result of locating that list, its first module under the name of the first module of the flat list:
-- a link may have any name. Whatever link errors the other list has, the flat list has the same ones.
--
-- `named` are the files that the run can read. `modules` are the modules that were read, in the order of the files. `files` are the modules of the
-- flat list, each with its place among these. A map names these modules and their files for the other list too, since a partial link does not keep
-- the names of the modules that it was made of.
pub record LocatesAll (named : List NamedFile) (inputs : Inputs) (keep : List (List ℕ)) (p : Product) (plan : Plan) (call : Call) (result : Outcome)
    (modules flat : List Parts) : Type 0 where
  pub files : List FileModule
  pub are_files : AreFlatFiles (tree_of inputs.marks) modules files
  pub located : HasLocated (roots_by keep plan) p (module_files named inputs) (origins_of files) plan call result flat
  pub staged : (leaves : List Parts) → CameByLinks flat leaves
      → HasLocated (roots_by keep plan) p (module_files named inputs) (origins_of files) plan call result (named_as flat leaves)

-- The headline, of a run with these arguments. For all files and plans: if no I/O call failed, the run did not run out of memory, and the plan and
-- the files were accepted, then `locate`, `bin`, `txt`, `dump`, `addr` and `map` locate the flat list of the modules, and each list from which that
-- was linked in stages.
abbrev pub RunLocates : List (List ℕ) → Call → Outcome → Type 0
RunLocates words call result =
    (files : List NamedFile) (c : Command) (inputs : Inputs) (keep : List (List ℕ)) (p : Product) (plan : Plan) (flat : List Parts)
    → IsUndisturbed files call result
    → answer_of words ≡ Ok c → request_of c ≡ request.Run (task.Locate inputs keep p) → (accepts : Accepts files inputs plan flat)
    → LocatesAll files inputs keep p plan call result accepts.modules flat

-- It holds of each run whose outcome has its cause, as the contract of `run` says of all runs.
abbrev pub TheHeadline : Type 0
TheHeadline = (words : List (List ℕ)) (call : Call) (result : Outcome) → Answers words call result → RunLocates words call result
