-- What the arguments of a run ask for: a task, or an explanation of other arguments.
use Rattle.std.specs.Prelude.{Bool, true, false, not, List, ℕ, [], ◌++◌, Option, None, Some, option_to_list, unwrap_or}
use Rattle.mufom_words.specs.declared.command.Command.{Command}
use Rattle.mufom_words.specs.declared.command.Verb.{Verb}
use Rattle.mufom_words.specs.declared.command.Verb.TheVariants as verb
use Rattle.mufom_task.specs.declared.task.Inputs.{Inputs}
use Rattle.mufom_task.specs.declared.task.Product.{Product}
use Rattle.mufom_task.specs.declared.task.Product.TheVariants as product
use Rattle.mufom_task.specs.declared.task.Request.{Request}
use Rattle.mufom_task.specs.declared.task.Request.TheVariants as request
use Rattle.mufom_task.specs.declared.task.Task.{Task}
use Rattle.mufom_task.specs.declared.task.Task.TheVariants as task

-- ---- the task of a command

-- the inputs that a command names
abbrev pub inputs_named : Command → Inputs
inputs_named c = record { plan = c.plan; files = c.files; marks = c.marks; options = record { debug = not c.no_debug; gnu = c.gnu } }

-- the name of the file that a command writes; the empty name if it has none, which no arguments give
abbrev pub out_named : Command → List ℕ
out_named c = unwrap_or c.out []

abbrev pub locating : Command → Product → Request
locating c p = request.Run (task.Locate (inputs_named c) c.keep p)

-- what `bin` writes: the raw image, or the bytes of the region that is named
abbrev pub bytes_product : Option (List ℕ) → ℕ → List ℕ → Product
bytes_product None fill out = product.Raw fill out
bytes_product (Some name) fill out = product.Region name fill out

abbrev pub request_by : Verb → Command → Request
request_by verb.Show c = request.Run (task.Show (inputs_named c) c.listing)
request_by verb.Check c = request.Run (task.Check (inputs_named c))
request_by verb.Link c = request.Run (task.Link (inputs_named c) c.name (out_named c))
request_by verb.Locate c = locating c (product.Absolute (out_named c))
request_by verb.Dump c = locating c product.Image
request_by verb.Map c = locating c (product.Map c.at)
request_by verb.Make c = request.Run (task.Make c.count)
request_by verb.Addr c = locating c (product.Hit (unwrap_or c.at 0))
request_by verb.Bin c = locating c (bytes_product c.region c.fill (out_named c))
request_by verb.Txt c = locating c (product.TiTxt (out_named c))
request_by verb.FromTxt c = request.Run (task.FromTxt (inputs_named c) c.maus (out_named c))
request_by verb.Build c = request.Run (task.Build (inputs_named c) (out_named c))
request_by verb.Help c = request.Run (task.Help (unwrap_or c.help []))
request_by verb.Version c = request.Run (task.Help (unwrap_or c.help []))
request_by verb.Explain c = request.Explain

-- What a command asks for.
abbrev pub request_of : Command → Request
request_of c = request_by c.verb c

-- ---- what a task has

-- a task that reads nothing
abbrev pub no_inputs : Inputs
no_inputs = record { plan = None; files = []; marks = []; options = record { debug = true; gnu = false } }

-- what the task reads
abbrev pub inputs_of : Task → Inputs
inputs_of (task.Show inputs listing) = inputs
inputs_of (task.Check inputs) = inputs
inputs_of (task.Link inputs name out) = inputs
inputs_of (task.Locate inputs keep p) = inputs
inputs_of (task.FromTxt inputs maus out) = inputs
inputs_of (task.Build inputs out) = inputs
inputs_of (task.Make count) = no_inputs
inputs_of (task.Help text) = no_inputs

-- the task reads files
abbrev pub reads_files : Task → Bool
reads_files (task.Make count) = false
reads_files (task.Help text) = false
reads_files _ = true

-- the task prints a text of the program
abbrev pub IsHelpTask : Task → Type 0
IsHelpTask (task.Help text) = Unit {0}
IsHelpTask _ = ⊥

-- a text of the program is asked for
abbrev pub AsksForHelp : Request → Type 0
AsksForHelp (request.Run t) = IsHelpTask t
AsksForHelp request.Explain = ⊥

-- the name of the file that is written for a location, if one is
abbrev pub file_of : Product → Option (List ℕ)
file_of (product.Absolute out) = Some out
file_of (product.Raw fill out) = Some out
file_of (product.Region name fill out) = Some out
file_of (product.TiTxt out) = Some out
file_of _ = None

-- the name of the file that the task writes, if it writes one
abbrev pub out_of : Task → Option (List ℕ)
out_of (task.Link inputs name out) = Some out
out_of (task.Locate inputs keep p) = file_of p
out_of (task.FromTxt inputs maus out) = Some out
out_of (task.Build inputs out) = Some out
out_of _ = None

-- the public symbols of which the task keeps what they need
abbrev pub keep_of : Task → List (List ℕ)
keep_of (task.Locate inputs keep p) = keep
keep_of _ = []

-- the names of the inputs, in the order in which they are read
abbrev pub input_names : Inputs → List (List ℕ)
input_names inputs = option_to_list inputs.plan ++ inputs.files
