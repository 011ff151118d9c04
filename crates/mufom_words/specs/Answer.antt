-- The command that the arguments give, or the first error in them, in a fixed order: the command's name; the options; the operands
-- from left to right, and then their end; the number of operands; the name of the module; the count; the values of options that are
-- numbers; and finally the limits of a run.
use Rattle.std.specs.Prelude.{ℕ, Bool, true, false, ◌&&◌, nat_lt, if◌then◌else◌, List, [], ◌∷◌, length, Option, Some, None, option_map, is_none}
use Rattle.std.specs.Prelude.{unwrap_or, IsSome, Result, Ok, Err}
use Rattle.std.specs.Option.{option_or}
use Rattle.clap.specs.Faults.{fault_of}
use Rattle.clap.specs.Kinds.{Kinds}
use Rattle.clap.specs.Simple.{matches_of}
use Rattle.clap.specs.declared.error.kind.ErrorKind.{ErrorKind}
use Rattle.clap.specs.declared.error.kind.ErrorKind.TheVariants as kind
use Rattle.mufom_numbers.specs.declared.limits.TheConstants.{MOST_STRING_BYTES}
use Rattle.mufom_words.specs.declared.command.Command.{Command}
use Rattle.mufom_words.specs.declared.form.Form.{Form}
use Rattle.mufom_words.specs.declared.form.Operands.{Operands}
use Rattle.mufom_words.specs.declared.options.Setting.{Setting}
use Rattle.mufom_words.specs.declared.options.Setting.TheVariants as setting
use Rattle.mufom_words.specs.declared.stop.UsageFault.{UsageFault}
use Rattle.mufom_words.specs.declared.stop.UsageFault.TheVariants as fault
use Rattle.mufom_words.specs.declared.stop.WordsStop.{WordsStop}
use Rattle.mufom_words.specs.declared.stop.WordsStop.TheVariants as stop
use Rattle.mufom_words.specs.Options.{Text, Usage, Given, usage_of, app_for, form_of, demands, given_by}
use Rattle.mufom_words.specs.declared.command.Verb.{Verb}
use Rattle.mufom_words.specs.Help.{own_answer, own_verb}
use Rattle.mufom_words.specs.Explain.{explain_answer, names_explain}
use Rattle.mufom_words.specs.Values.{byte_of, address_of, maus_of}
use Rattle.mufom_words.specs.Operands.{operands_fault, number_fault, count_fault, files_of, marks_of, depth_of, number_of}

-- the first of two values that is present
infixr 20 ◌or_else◌
abbrev pub ◌or_else◌ : {A : Type 0} → Option A → Option A → Option A
first or_else second = option_or first second

-- ---- limits

-- the greatest number of files of a run
abbrev pub most_files : ℕ
most_files = 1024

-- the greatest number of groups that are open at once
abbrev pub most_open : ℕ
most_open = 64

-- ---- errors

-- what the arguments of a command give; the first of them names the command
abbrev pub given : Form → List Text → Given
given f words = given_by f (matches_of (app_for f) words)

-- the error of `clap` is that it ran out of memory
abbrev pub is_memory : ErrorKind → Bool
is_memory kind.OutOfMemory = true
is_memory _ = false

abbrev pub stop_by : ErrorKind → WordsStop
stop_by k = if is_memory k then stop.NoMemory else stop.Usage fault.BadWords

-- the error in the options, by the kinds of error that `clap` reports; none if it accepts the arguments
abbrev pub options_fault : Kinds → Option UsageFault
options_fault [] = None
options_fault (_ ∷ _) = Some fault.BadWords

abbrev pub name_fault : Option Text → Option UsageFault
name_fault None = None
name_fault (Some name) = if nat_lt MOST_STRING_BYTES (length name) then Some fault.LongName else None

-- an option that the command requires is missing, which is an error for `clap` too
abbrev pub missing_fault : Usage → Setting → Option Text → Option UsageFault
missing_fault u s value = if demands u.settings s && is_none value then Some fault.BadWords else None

-- the first error, in this order, in arguments that `clap` accepts
abbrev pub usage_fault : Usage → Option Text → Option Text → List Text → Option UsageFault
usage_fault u out name words = missing_fault u setting.Out out
    or_else operands_fault u.operands words
    or_else number_fault u.operands words
    or_else name_fault name
    or_else count_fault u.operands words

-- this error, if the option has a value that can't be read
abbrev pub unless_read : (Text → Option ℕ) → UsageFault → Option Text → Option UsageFault
unless_read read f None = None
unless_read read f (Some text) = if is_none (read text) then Some f else None

-- the first error in the values of options that are numbers
abbrev pub value_fault : Option Text → Option Text → Option Text → Option UsageFault
value_fault maus fill at = unless_read maus_of fault.BadCount maus
    or_else unless_read byte_of fault.BadByte fill
    or_else unless_read address_of fault.BadAddress at

-- the error for too many files, or else for too many groups that are open at once
abbrev pub limit_stop_by : ℕ → ℕ → Option WordsStop
limit_stop_by files depth = (if nat_lt most_files files then Some (stop.TooManyFiles files) else None)
    or_else (if nat_lt most_open depth then Some (stop.TooDeep depth) else None)

abbrev pub limit_stop : Operands → List Text → Option WordsStop
limit_stop operands words = limit_stop_by (length (files_of operands words)) (depth_of operands words)

abbrev pub usage : Option UsageFault → Option WordsStop
usage found = option_map (λ f. stop.Usage f) found

-- the first error in what the arguments give, except for the limits of a run
abbrev pub given_fault : Usage → Given → Option UsageFault
given_fault u g = missing_fault u setting.At g.at
    or_else usage_fault u g.out g.name g.operands
    or_else value_fault g.maus g.fill g.at

-- the first error in what the arguments give, the limits of a run included
abbrev pub given_stop : Usage → Given → Option WordsStop
given_stop u g = usage (given_fault u g) or_else limit_stop u.operands g.operands

-- the first error in the arguments, by the errors that `clap` reports and the values that it finds
abbrev pub words_stop : Usage → Kinds → Given → Option WordsStop
words_stop u refused g = usage (options_fault refused) or_else given_stop u g

-- ---- the outcome

-- the number that an option states, or `otherwise` if the option is absent
abbrev pub number_by : (Text → Option ℕ) → ℕ → Option Text → ℕ
number_by read otherwise None = otherwise
number_by read otherwise (Some text) = unwrap_or (read text) otherwise

-- the number that an option states, if it is present
abbrev pub number_in : (Text → Option ℕ) → Option Text → Option ℕ
number_in read None = None
number_in read (Some text) = read text

abbrev pub command_by : Usage → Given → Command
command_by u g = record {
  verb = u.verb;
  no_debug = g.no_debug;
  gnu = g.gnu;
  name = g.name;
  out = g.out;
  plan = g.plan;
  marks = marks_of u.operands g.operands;
  files = files_of u.operands g.operands;
  count = number_of u.operands g.operands;
  listing = g.listing;
  fill = number_by byte_of 0 g.fill;
  at = number_in address_of g.at;
  maus = number_by maus_of 4 g.maus;
  keep = g.keep;
  region = g.region;
  help = None;
}

abbrev pub unless_stopped : Option WordsStop → Command → Result Command WordsStop
unless_stopped None command = Ok command
unless_stopped (Some s) command = Err s

abbrev pub answer_for : Option Form → List Text → Result Command WordsStop
answer_for None words = Err (stop.Usage fault.NoCommand)
answer_for (Some f) words = unless_stopped (words_stop (usage_of f) (fault_of (app_for f) words) (given f words)) (command_by (usage_of f) (given f words))

-- the outcome, given whether the first argument is `explain`
abbrev pub answer_unless : Bool → Text → List Text → Result Command WordsStop
answer_unless true word words = explain_answer words
answer_unless false word words = answer_for (form_of word) (word ∷ words)

-- the outcome, given whether the first argument names a command that prints a text of the program
abbrev pub answer_by : Option Verb → Text → List Text → Result Command WordsStop
answer_by None word words = answer_unless (names_explain word) word words
answer_by (Some v) word words = own_answer v words

-- The command that the arguments give, or the first error in them.
abbrev pub answer_of : List Text → Result Command WordsStop
answer_of [] = Err (stop.Usage fault.NoCommand)
answer_of (word ∷ words) = answer_by (own_verb word) word words

-- the arguments name a command that prints a text of the program
abbrev pub PrintsHelp : List Text → Type 0
PrintsHelp [] = ⊥
PrintsHelp (word ∷ words) = IsSome (own_verb word)
