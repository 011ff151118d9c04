-- The commands that print a text of the program itself. Their arguments are compared byte by byte, and not read by `clap`.
use Rattle.std.specs.Prelude.{◌||◌, List, [], ◌∷◌, Option, Some, None, Result, Ok, Err, codes, false, if◌then◌else◌}
use Rattle.std.specs.Str.{bytes_eq}
use Rattle.mufom_help.specs.Topics.{topic_in, topics}
use Rattle.mufom_help.specs.declared.commands.TheConstants.{LIST}
use Rattle.mufom_help.specs.declared.version.TheConstants.{VERSION}
use Rattle.mufom_words.specs.declared.command.Command.{Command}
use Rattle.mufom_words.specs.declared.command.Verb.{Verb}
use Rattle.mufom_words.specs.declared.command.Verb.TheVariants as verb
use Rattle.mufom_words.specs.declared.stop.UsageFault.TheVariants as fault
use Rattle.mufom_words.specs.declared.stop.WordsStop.{WordsStop}
use Rattle.mufom_words.specs.declared.stop.WordsStop.TheVariants as stop
use Rattle.mufom_words.specs.Options.{Text}

-- the command that a first argument names, if it is one of these
abbrev pub own_verb : Text → Option Verb
own_verb word =
    if bytes_eq word (codes "help") || (bytes_eq word (codes "--help") || bytes_eq word (codes "-h")) then Some verb.Help
    else if bytes_eq word (codes "version") || (bytes_eq word (codes "--version") || bytes_eq word (codes "-V")) then Some verb.Version
    else None

-- what `help` prints: the list of commands, or the text of the command or the error that its one argument names
abbrev pub help_text : List Text → Option Text
help_text [] = Some LIST.now
help_text (word ∷ []) = topic_in topics word
help_text (_ ∷ _ ∷ _) = None

-- what `version` prints
abbrev pub version_text : List Text → Option Text
version_text [] = Some VERSION.now
version_text (_ ∷ _) = None

-- what the command prints if these arguments follow its name
abbrev pub own_text : Verb → List Text → Option Text
own_text verb.Version words = version_text words
own_text _ words = help_text words

-- the command that prints a text
abbrev pub own_command : Verb → Text → Command
own_command v text = record {
  verb = v;
  no_debug = false;
  gnu = false;
  name = None;
  out = None;
  plan = None;
  marks = [];
  files = [];
  count = 0;
  listing = false;
  fill = 0;
  at = None;
  maus = 4;
  keep = [];
  region = None;
  help = Some text;
}

abbrev pub printing : Verb → Option Text → Result Command WordsStop
printing v None = Err (stop.Usage fault.BadWords)
printing v (Some text) = Ok (own_command v text)

-- The command, or an error if there is no text for these arguments.
abbrev pub own_answer : Verb → List Text → Result Command WordsStop
own_answer v words = printing v (own_text v words)
