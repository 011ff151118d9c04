-- The table of tasks: the work of each, from its inputs to its output. The result of a run depends only on the arguments and the files.
use Rattle.std.specs.Prelude.{ℕ, ◌*◌, Bool, List, [], ◌∷◌, flat_map, length, nat_lt, Option, Some, None, Result, Ok}
use Rattle.std.specs.Prelude.{Err, if◌then◌else◌}
use Rattle.std.specs.List.{find}
use Rattle.std.specs.Str.{bytes_eq}
use Rattle.mufom_host.specs.World.{NamedFile}
use Rattle.mufom_words.specs.declared.command.Command.{Command}
use Rattle.mufom_words.specs.declared.stop.UsageFault.TheVariants as usage
use Rattle.mufom_words.specs.declared.stop.WordsStop.{WordsStop}
use Rattle.mufom_words.specs.declared.stop.WordsStop.TheVariants as words_stop
use Rattle.mufom_words.specs.Tree.{Forest, tree_of}
use Rattle.mufom_module.specs.declared.module.Parts.{Parts}
use Rattle.mufom_module.specs.Written.{written}
use Rattle.mufom_plan.specs.declared.plan.Plan.{Plan}
use Rattle.mufom_plan.specs.declared.plan.Region.{Region}
use Rattle.mufom_text.specs.Image.{image_text}
use Rattle.mufom_text.specs.declared.form.TextForm.{TextForm}
use Rattle.mufom_text.specs.declared.form.TextForm.TheVariants as form
use Rattle.mufom_text.specs.Show.{text_of}
use Rattle.mufom_meaning.specs.declared.located.LocatedParts.{LocatedParts}
use Rattle.mufom_meaning.specs.Absolute.{absolute_of}
use Rattle.mufom_planned.specs.Planned.{IsPlanned, PlanFact, of_list, planned_answer, shared_name}
use Rattle.mufom_make.specs.Generated.{made_modules, made_plan, summary}
use Rattle.mufom_groups.specs.Work.{gives, stops, Work, ◌>>=◌, sure, one_with, stop_at, with_stops}
use Rattle.mufom_groups.specs.Linked.{first_name, joined, linked}
use Rattle.mufom_meaning.specs.Joined.{IsJoined}
use Rattle.mufom_module.specs.Defects.{IsValid}
use Rattle.mufom_module.specs.Made.{IsMade}
use Rattle.mufom_prune.specs.Kept.{IsKeptFor}
use Rattle.mufom_prune.specs.Pruned.{Remains, remains, without_others}
use Rattle.mufom_outcome.specs.Stop.{Stop, words_refused, link_fact, keep_unknown, name_shared, locate_fact, bytes_refused}
use Rattle.mufom_outcome.specs.Stop.{text_refused, listing_refused}
use Rattle.mufom_outcome.specs.declared.outcome.BinRefusal.{BinRefusal}
use Rattle.mufom_outcome.specs.declared.outcome.BinRefusal.TheVariants as bins
use Rattle.mufom_task.specs.declared.task.Inputs.{Inputs}
use Rattle.mufom_task.specs.declared.task.Product.{Product}
use Rattle.mufom_task.specs.declared.task.Product.TheVariants as product
use Rattle.mufom_task.specs.declared.task.Request.{Request}
use Rattle.mufom_task.specs.declared.task.Request.TheVariants as request
use Rattle.mufom_task.specs.declared.task.Task.{Task}
use Rattle.mufom_task.specs.declared.task.Task.TheVariants as task
use Rattle.mufom_task.specs.Inputs.{module_files}
use Rattle.mufom_task.specs.Reading.{modules_in, plan_in, text_in}
use Rattle.mufom_task.specs.Tasks.{request_of}
use Rattle.mufom_works.specs.FlatFiles.{AreFlatFiles}
use Rattle.mufom_works.specs.Roots.{Roots, first_unknown, roots_by}
use Rattle.mufom_write.specs.Range.{range_image}
use Rattle.mufom_write.specs.Raw.{raw_image}
use Rattle.mufom_addr.specs.AddressHit.{hit_at}
use Rattle.mufom_origins.specs.declared.origins.Origin.{Origin}
use Rattle.mufom_origins.specs.Words.{ModuleFiles}
use Rattle.mufom_origins.specs.Origins.{origins_left, origins_of}
use Rattle.mufom_map.specs.Mapped.{Mapped, mapped_by, planned_layout}
use Rattle.mufom_map.specs.MapText.{view_text}
use Rattle.mufom_meaning.specs.declared.located.Run.{Run}
use Rattle.mufom_refusals.specs.declared.text.TxtRefusal.{TxtRefusal}
use Rattle.mufom_refusals.specs.declared.build.BuildRefusal.TheVariants as build
use Rattle.mufom_build.specs.Lines.{Build}
use Rattle.mufom_build.specs.Refusals.{IsRefusedAt, HasDefect}
use Rattle.mufom_titxt.specs.TextModules.{text_parts}
use Rattle.mufom_titxt.specs.Texts.{txt_cells, txt_refusal}
use Rattle.mufom_titxt.specs.Written.{txt_text}
use Rattle.mufom_meaning.specs.AddressMap.{AreRunsOf}
use Rattle.mufom_numbers.specs.declared.limits.TheConstants.{MOST_FILE_BYTES}
use Rattle.mufom_works.specs.Text.{Text, check_text, hit_text}

-- ---- outputs

-- the output of a run: a text that is printed, or a file with a name and bytes
pub data Output : Type 0 where
  printed : Text → Output
  made : (name bytes : List ℕ) → Output

abbrev pub prints : Text → Work Stop Output
prints text = sure (printed text)

-- the bytes are written to the file with this name
abbrev pub writes : (name bytes : List ℕ) → Work Stop Output
writes name bytes = sure (made name bytes)

-- The program can hold the module: it has no defect, and its numbers and strings fit the types of a module. This is true of each value of the type
-- `Module`.
pub record IsHeld (m : Parts) : Type 0 where
  pub valid : IsValid m
  pub made : IsMade m

-- The written form of a module that the program can hold is written to the file with this name. A later run reads the module from this file, if the
-- file is not too long.
--
-- If the program cannot hold the module, the work has no result, so nothing is claimed about a run that would have to write it. No run gets there:
-- the program writes only values of the type `Module`, and the limits of a run bound the weights of the link of its files and of the absolute module
-- of their location, so such values exist.
abbrev pub writes_module : List ℕ → Parts → Work Stop Output
writes_module name m reached = IsHeld m × writes name (written m) reached

-- ---- locating

-- the length of an address in units
abbrev pub maus_of : List Parts → ℕ
maus_of [] = 0
maus_of (m ∷ ms) = m.maus

-- the error of a fact that keeps modules with addresses of this length from being located by a plan
abbrev pub stop_of : ℕ → PlanFact → Stop
stop_of maus (shared_name name) = name_shared name
stop_of maus (of_list f) = locate_fact maus f

abbrev pub located_unless : Option PlanFact → Plan → List Parts → Work Stop LocatedParts
located_unless None plan ms = one_with (IsPlanned ms plan)
located_unless (Some f) plan ms = stop_at (stop_of (maus_of ms) f)

-- the location of a list of modules by a plan, with the plan's symbols and copies, or the first error of locating it
abbrev pub located : Plan → List Parts → Work Stop LocatedParts
located plan ms = located_unless (planned_answer ms plan) plan ms

-- ---- what is kept

-- What is kept of a list: the modules that are located instead of it, and which entries of the list's link remain in them (`None` if the whole list
-- is kept).
pub record Kept : Type 0 where
  pub modules : List Parts
  pub rest : Option Remains

-- the whole list is kept
abbrev pub all_of : List Parts → Kept
all_of ms = record { modules = ms; rest = None }

-- what remains of a module
abbrev pub rest_of : Parts → Remains → Kept
rest_of M c = record { modules = without_others M c ∷ []; rest = Some c }

-- what remains of a module for these roots
abbrev pub rest_of_module : Roots → Parts → Work Stop Kept
rest_of_module roots M = do
  marks ← one_with (IsKeptFor M roots.names roots.stays)
  sure (rest_of M (remains M marks))

-- what remains for these roots of the partial link of a list; the link is a module without a defect, under the name of the first module
abbrev pub rest_of_link : Roots → List Parts → Work Stop Kept
rest_of_link roots ms = do
  M ← one_with (λ M. IsValid M × IsJoined M ms (first_name ms))
  rest_of_module roots M

-- the same, unless this is a name that no public of the list has
abbrev pub kept_unless : Option (List ℕ) → Roots → List Parts → Work Stop Kept
kept_unless (Some name) roots ms = stop_at (keep_unknown name)
kept_unless None roots ms = rest_of_link roots ms

-- What is located of a list that can be linked: the list itself or, if roots are given, what remains of its link for them. The first of their names
-- that no public of the list has is an error.
abbrev pub kept_of : Option Roots → List Parts → Work Stop Kept
kept_of None ms = sure (all_of ms)
kept_of (Some roots) ms = kept_unless (first_unknown ms roots.names) roots ms

-- ---- the output for a list of modules that can be linked

-- the file of the list's partial link, under the given name or that of the first module
abbrev pub linked_file : Option (List ℕ) → List ℕ → List Parts → Work Stop Output
linked_file name out ms = do
  M ← with_stops link_fact (joined name ms)
  writes_module out M

-- the output for what is kept of a list, and for the location of that by a plan
abbrev pub locating_kept : (Kept → LocatedParts → Work Stop Output) → Option Roots → Plan → List Parts → Work Stop Output
locating_kept output keep plan ms = do
  kept ← kept_of keep ms
  r ← located plan kept.modules
  output kept r

-- ---- what is made of a location

-- there are more bytes than a file may have
abbrev pub length_fact : ℕ → Option BinRefusal
length_fact count = if nat_lt MOST_FILE_BYTES count then Some (bins.TooLong count) else None

-- the region with this name
abbrev pub region_named : List Region → List ℕ → Option Region
region_named regions name = find (λ (region : Region). bytes_eq region.name name) regions

-- no region has the name, or the region has more addresses than a file may have bytes
abbrev pub region_fact : List ℕ → Option Region → Option BinRefusal
region_fact name None = Some (bins.Region name)
region_fact name (Some region) = length_fact region.size

-- Why the bytes of a location are not written: there are too many, or no region of the plan has the name in the arguments. For outputs other than
-- those of `bin`, there is no such error.
abbrev pub bytes_fact : Product → List Region → LocatedParts → Option BinRefusal
bytes_fact (product.Raw fill out) regions r = length_fact (length (raw_image fill r.runs))
bytes_fact (product.Region name fill out) regions r = region_fact name (region_named regions name)
bytes_fact _ regions r = None

-- One byte for each address of the region, from its base on: the loaded byte, or `fill` at an address without one.
abbrev pub region_image : ℕ → Option Region → LocatedParts → List ℕ
region_image fill None r = []
region_image fill (Some region) r = range_image fill region.base region.size r.runs

-- the file of the bytes, unless there is such an error
abbrev pub bytes_unless : Option BinRefusal → (name bytes : List ℕ) → Work Stop Output
bytes_unless None name bytes = writes name bytes
bytes_unless (Some b) name bytes = stop_at (bytes_refused b)

-- What is made of a location, and of what a map of it shows, given the files of all modules that were read: the file of the absolute module, of the
-- raw image, of the bytes of a region or of the TI-TXT text; the text of the image or of the map; the lines of an address of the map; or the lines of
-- the function and the source line at an address.
abbrev pub product_of : Product → ModuleFiles → Mapped → LocatedParts → Work Stop Output
product_of (product.Absolute out) names shown r = writes_module out (absolute_of r)
product_of (product.Raw fill out) names shown r = bytes_unless (length_fact (length (raw_image fill r.runs))) out (raw_image fill r.runs)
product_of (product.Region name fill out) names shown r =
    let region = region_named shown.regions name in bytes_unless (region_fact name region) out (region_image fill region r)
product_of (product.TiTxt out) names shown r = writes out (txt_text r.runs)
product_of product.Image names shown r = prints (image_text r)
product_of (product.Map at) names shown r = prints (view_text names at shown)
product_of (product.Hit at) names shown r = prints (hit_text r.maus (hit_at r.debug at))

-- the origins of what is kept of a list, given those of the list: the same modules, with fewer entries
abbrev pub kept_origins : Option Remains → List Origin → List Origin
kept_origins None origins = origins
kept_origins (Some c) origins = origins_left c.sections c.publics origins

-- the contents of the map of what is kept of a list; `r` is its location, and the list's modules have these origins
abbrev pub mapped_kept : List Origin → Plan → Kept → LocatedParts → Mapped
mapped_kept origins plan kept r =
    mapped_by (kept_origins kept.rest origins) (planned_layout kept.modules plan) r

-- what is made of the location of what is kept of a list, whose modules have these origins, given the files of all modules
abbrev pub product_with : Product → ModuleFiles → List Origin → Plan → Kept → LocatedParts → Work Stop Output
product_with p names origins plan kept r = product_of p names (mapped_kept origins plan kept r) r

-- The same for the flat list of a tree of files. `ms` are all modules that were read, in the order of the files.
abbrev pub producing : Product → ModuleFiles → Forest → List Parts → Plan → Kept → LocatedParts → Work Stop Output
producing p names tree ms plan kept r = do
  flat ← one_with (AreFlatFiles tree ms)
  product_with p names (origins_of flat) plan kept r

-- ---- the table

-- a text of the modules
abbrev pub listing : (List Parts → Text) → List NamedFile → Inputs → Work Stop Output
listing text files inputs = do
  ms ← modules_in files inputs
  prints (text ms)

-- The plan, if one is named, and the files are read, and the flat list of their modules is linked. The output depends on the modules, the plan and the
-- flat list.
abbrev pub linking : (List Parts → Plan → List Parts → Work Stop Output) → List NamedFile → Inputs → Work Stop Output
linking output files inputs = do
  plan ← plan_in files inputs.plan
  ms ← modules_in files inputs
  flat ← with_stops link_fact (linked (tree_of inputs.marks) ms)
  output ms plan flat

-- The same, and what is kept of the flat list for these names, and for the plan, is located.
abbrev pub locating : List (List ℕ) → Product → List NamedFile → Inputs → Work Stop Output
locating keep p files inputs =
    linking (λ ms plan flat. locating_kept (producing p (module_files files inputs) (tree_of inputs.marks) ms plan) (roots_by keep plan) plan flat) files inputs

-- the runs of the bytes that a text gives to addresses, unless the text has an error
abbrev pub runs_unless : Option TxtRefusal → List ℕ → Work Stop (List Run)
runs_unless None text = one_with (AreRunsOf (txt_cells text))
runs_unless (Some r) text = stop_at (text_refused r)

-- the same, given the length of an address in units
abbrev pub runs_of_text : ℕ → List ℕ → Work Stop (List Run)
runs_of_text maus text = runs_unless (txt_refusal text (8 * maus)) text

-- the parts of the module of a text's runs
abbrev pub parts_of_txt : ℕ → List ℕ → Work Stop Parts
parts_of_txt maus text = do
  runs ← runs_of_text maus text
  sure (text_parts maus runs)

-- the parts of the module that is built from a listing, or the error of the listing
abbrev pub parts_of_listing : List ℕ → Work Stop Parts
parts_of_listing text (gives m) = Build text m
parts_of_listing text (stops (listing_refused (build.At row column reason))) = IsRefusedAt text row column reason
parts_of_listing text (stops (listing_refused (build.Module defect))) = HasDefect text defect
parts_of_listing text (stops _) = ⊥

-- A text is read, and the file of the module that it describes is written.
abbrev pub module_of_text : (List ℕ → Work Stop Parts) → List ℕ → List NamedFile → Inputs → Work Stop Output
module_of_text parts_of out files inputs = do
  text ← text_in files inputs.files
  parts ← parts_of text
  writes_module out parts

-- The generated modules are located, and the summary of their location is printed. No file is read.
abbrev pub making : ℕ → Work Stop Output
making count = do
  r ← located (made_plan count) (made_modules count)
  prints (summary count r)

-- The form in which a module is printed: the listing, or the summary.
abbrev pub form_of : Bool → TextForm
form_of full = if full then form.Listing else form.Summary

-- The work of each task.
abbrev pub work_of : Task → List NamedFile → Work Stop Output
work_of (task.Show inputs full) files = listing (λ ms. flat_map (text_of (form_of full)) ms) files inputs
work_of (task.Check inputs) files = listing check_text files inputs
work_of (task.Link inputs name out) files = linking (λ ms plan flat. linked_file name out flat) files inputs
work_of (task.Locate inputs keep p) files = locating keep p files inputs
work_of (task.FromTxt inputs maus out) files = module_of_text (parts_of_txt maus) out files inputs
work_of (task.Build inputs out) files = module_of_text parts_of_listing out files inputs
work_of (task.Make count) files = making count
work_of (task.Help text) files = prints text

-- the error of arguments that ask for the explanation of an explanation
abbrev pub not_explained : WordsStop
not_explained = words_stop.Usage usage.BadWords

-- the work of what arguments ask for, as it is explained
abbrev pub work_for : Request → List NamedFile → Work Stop Output
work_for (request.Run t) files = work_of t files
work_for request.Explain files = stop_at (words_refused not_explained)

-- the work of arguments that give this command or error, as it is explained
abbrev pub work_by : Result Command WordsStop → List NamedFile → Work Stop Output
work_by (Ok c) files = work_for (request_of c) files
work_by (Err s) files = stop_at (words_refused s)
