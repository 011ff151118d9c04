-- The text that `explain` prints: the error line of the explained run, the lines about what it names, and the help text on it.
use Rattle.std.specs.Prelude.{List, [], ◌++◌, Option, Some, None, codes}
use Rattle.mufom_outcome.specs.declared.outcome.Outcome.{Outcome}
use Rattle.mufom_outcome.specs.declared.outcome.Outcome.TheVariants as outcome
use Rattle.mufom_outcome.specs.Complaint.{complaint}
use Rattle.mufom_outcome.specs.Topic.{topic_of}
use Rattle.mufom_text.specs.Words.{Text, line}

-- the error line, or `done` if there is none
abbrev pub first_line : Outcome → Text
first_line outcome.Done = line (codes "done")
first_line answer = complaint answer

-- an empty line and the text, if there is one
abbrev pub topic_part : Option Text → Text
topic_part None = []
topic_part (Some text) = line [] ++ text

-- The text for a run with these arguments, given its outcome and the lines about what the outcome names.
abbrev pub explain_text : List Text → Outcome → Text → Text
explain_text words answer details = first_line answer ++ (details ++ topic_part (topic_of words answer))
