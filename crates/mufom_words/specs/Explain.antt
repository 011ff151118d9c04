-- The command `explain`, which explains how a run with other arguments ends. These follow its name, and are not read here: they are
-- the arguments of a run of their own.
use Rattle.std.specs.Prelude.{Bool, false, not, List, [], ◌∷◌, None, Result, Ok, Err, codes, drop, if◌then◌else◌}
use Rattle.std.specs.Str.{bytes_eq}
use Rattle.mufom_words.specs.declared.command.Command.{Command}
use Rattle.mufom_words.specs.declared.command.Verb.TheVariants as verb
use Rattle.mufom_words.specs.declared.stop.UsageFault.TheVariants as fault
use Rattle.mufom_words.specs.declared.stop.WordsStop.{WordsStop}
use Rattle.mufom_words.specs.declared.stop.WordsStop.TheVariants as stop
use Rattle.mufom_words.specs.Options.{Text}

-- the first argument names the command
abbrev pub names_explain : Text → Bool
names_explain word = bytes_eq word (codes "explain")

-- There are arguments to explain, and the first of them is not `explain`.
abbrev pub may_be_explained : List Text → Bool
may_be_explained [] = false
may_be_explained (word ∷ words) = not (names_explain word)

-- the command: it has no files, and no options
abbrev pub explain_command : Command
explain_command = record {
  verb = verb.Explain;
  no_debug = false;
  gnu = false;
  name = None;
  out = None;
  plan = None;
  marks = [];
  files = [];
  count = 0;
  listing = false;
  fill = 0;
  at = None;
  maus = 4;
  keep = [];
  region = None;
  help = None;
}

-- The command, if these arguments follow its name, or the error that they can't be explained. An error in them is not one of this command.
abbrev pub explain_answer : List Text → Result Command WordsStop
explain_answer words = if may_be_explained words then Ok explain_command else Err (stop.Usage fault.BadWords)

-- The arguments that are explained: those after the command's name.
abbrev pub explained : List Text → List Text
explained words = drop 1 words
