-- The lines of `explain` about the arguments, an input that could not be read, and the file that a run would write.
use Rattle.std.specs.Prelude.{ℕ, List, [], ◌++◌, Option, Some, None, codes, slice_index_or}
use Rattle.mufom_host.specs.declared.cause.Cause.{Cause}
use Rattle.mufom_host.specs.declared.cause.Cause.TheVariants as cause
use Rattle.mufom_words.specs.declared.faulty.FaultyArgument.{FaultyArgument}
use Rattle.mufom_words.specs.declared.faulty.FaultyArgument.TheVariants as argument
use Rattle.mufom_words.specs.declared.options.Setting.{Setting}
use Rattle.mufom_words.specs.declared.stop.WordsStop.{WordsStop}
use Rattle.mufom_words.specs.declared.stop.WordsStop.TheVariants as words_stop
use Rattle.mufom_words.specs.Faulty.{faulty_argument, spelling_of}
use Rattle.mufom_explain.specs.Lines.{FileNames, file_name}
use Rattle.mufom_text.specs.Digits.{counted}
use Rattle.mufom_text.specs.Words.{Text, line, quoted}

-- ---- arguments

-- an argument by its number, from 0
abbrev pub word_line : List Text → ℕ → Text
word_line words n = line (counted (codes "word ") n ++ (codes ": " ++ quoted (slice_index_or words n [])))

-- a required option that is missing
abbrev pub missing_line : Setting → Text
missing_line s = line (codes "missing: " ++ spelling_of s)

-- what an error in the arguments is about
abbrev pub argument_lines : List Text → FaultyArgument → Text
argument_lines words (argument.Word n) = word_line words n
argument_lines words (argument.Missing s) = missing_line s
argument_lines words argument.Nothing = []

-- The lines about the error for which the arguments give no command: the argument at fault, or the option that is missing.
abbrev pub usage_lines : List Text → WordsStop → Text
usage_lines words (words_stop.Usage f) = argument_lines words (faulty_argument words f)
usage_lines words _ = []

-- ---- inputs that could not be read

-- what follows the name of an input that could not be read; nothing if the host cannot tell the cause
abbrev pub cause_text : Cause → Text
cause_text cause.Unknown = []
cause_text cause.NoFile = codes ": no such file"
cause_text cause.Folder = codes ": is a folder"
cause_text cause.NoPermission = codes ": no permission"

-- a file by its number and its name as it was given, and the cause
abbrev pub unread_file : FileNames → ℕ → Cause → Text
unread_file names n c = line (counted (codes "file ") n ++ (codes ": " ++ (quoted (file_name names n) ++ cause_text c)))

-- the plan by the name of its file, and the cause
abbrev pub unread_plan : List ℕ → Cause → Text
unread_plan name c = line (codes "plan: " ++ (quoted name ++ cause_text c))

-- ---- the file that a run would write

-- The line about the file that a run would write, if it writes one: an explanation stops before it.
abbrev pub untried_lines : Option Text → Text
untried_lines None = []
untried_lines (Some name) = line (codes "not tried: writing " ++ quoted name)
