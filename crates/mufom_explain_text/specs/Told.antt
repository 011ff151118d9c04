-- The text that `explain` prints, from the values that the code has for it.
use Rattle.std.specs.Prelude.{[], ◌++◌, Some, map, option_map}
use Rattle.std.specs.String.{string_bytes}
use Rattle.mufom_text.specs.Words.{Text}
use Rattle.mufom_explain.specs.Explained.{link_text, locate_text, name_text, shared_text}
use Rattle.mufom_works.specs.HasDetails.{plan_lines}
use Rattle.mufom_explain.specs.Lines.{file_line, plan_line}
use Rattle.mufom_explain_text.specs.declared.explanation.Details.{Details}
use Rattle.mufom_explain_text.specs.declared.explanation.Details.TheVariants as details
use Rattle.mufom_explain_text.specs.declared.explanation.Explanation.{Explanation}
use Rattle.mufom_works.specs.ExplainText.{topic_part}
use Rattle.mufom_works.specs.PlanLines.{key_part, plan_line_at}
use Rattle.mufom_works.specs.InputLines.{missing_line, unread_file, unread_plan, untried_lines, word_line}

-- the lines about what an outcome names
abbrev pub told_text : Details → Text
told_text details.Nothing = []
told_text (details.File names number) = file_line names.now number
told_text (details.Plan name) = plan_line name.now
told_text (details.PlanAt name row) = plan_line_at name.now row
told_text (details.PlanKey name key) = plan_line name.now ++ key_part key
told_text (details.UnreadFile names number cause) = unread_file names.now number cause
told_text (details.UnreadPlan name cause) = unread_plan name.now cause
told_text (details.Argument words number) = word_line (map (λ word. string_bytes word) words.now) number
told_text (details.Missing option) = missing_line option
told_text (details.NotTried name) = untried_lines (Some name.now)
told_text (details.Link d) = link_text d
told_text (details.Name d) = name_text d
told_text (details.Shared d plan) = shared_text d ++ plan_lines (option_map (λ name. name.now) plan)
told_text (details.Locate d) = locate_text d

-- the whole text
abbrev pub explanation_text : Explanation → Text
explanation_text e = e.line.now ++ (told_text e.details.now ++ topic_part (option_map (λ text. text.now) e.topic))
