-- The lines about a plan that is refused.
use Rattle.std.specs.Prelude.{◌≡◌, ℕ, List, [], ◌++◌, Option, Some, None, Bool, true, false, codes, if◌then◌else◌}
use Rattle.mufom_plan.specs.declared.refusal.PlanField.{PlanField}
use Rattle.mufom_plan.specs.declared.refusal.PlanField.TheVariants as field
use Rattle.mufom_plan.specs.declared.refusal.PlanRefusal.{PlanRefusal}
use Rattle.mufom_plan.specs.declared.refusal.PlanRefusal.TheVariants as refusal
use Rattle.mufom_plan_faults.specs.Keys.{extra_key}
use Rattle.mufom_plan_faults.specs.Lines.{IsSyntaxLine}
use Rattle.mufom_explain.specs.Lines.{plan_line}
use Rattle.mufom_text.specs.Digits.{counted}
use Rattle.mufom_text.specs.Words.{Text, line, quoted}

-- a plan that is not a document, with the number of the line at which its text stops being one
abbrev pub plan_line_at : List ℕ → ℕ → Text
plan_line_at name row = line (codes "plan: " ++ (quoted name ++ counted (codes " line ") row))

-- a key that a table may not have, if there is one
abbrev pub key_part : Option (List ℕ) → Text
key_part None = []
key_part (Some key) = line (codes "key: " ++ quoted key)

abbrev pub is_extra : PlanField → Bool
is_extra field.Extra = true
is_extra _ = false

-- the key that an error in a plan is about, if it is one that a table may not have
abbrev pub key_of : List ℕ → PlanRefusal → Option (List ℕ)
key_of text (refusal.Shape place name) = if is_extra name then extra_key text place else None
key_of text _ = None

abbrev pub is_syntax : PlanRefusal → Bool
is_syntax refusal.Syntax = true
is_syntax _ = false

-- the lines, if the text is no document, or if it is one
abbrev pub AreLinesBy : Bool → List ℕ → List ℕ → PlanRefusal → Text → Type 0
AreLinesBy true name text r details = (row : ℕ) × IsSyntaxLine text row × (details ≡ plan_line_at name row)
AreLinesBy false name text r details = details ≡ plan_line name ++ key_part (key_of text r)

-- The lines about a plan with this name and text that is refused because of this error: the plan, with the line at which its text stops being a
-- document, if it is none, and a key that a table may not have, if the error is about one.
abbrev pub ArePlanLines : List ℕ → List ℕ → PlanRefusal → Text → Type 0
ArePlanLines name text r details = AreLinesBy (is_syntax r) name text r details
