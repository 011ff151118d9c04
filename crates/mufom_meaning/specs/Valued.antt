-- When an expression has a value (IEEE Std 695, expressions): its place, what it mentions, and the zero divisors that it meets.
use Rattle.std.specs.Prelude.{◌≡◌, ◌≢◌, ℕ, ◌==◌, ◌⊎◌, ◌↔◌, List, [], ◌∷◌, Option, Some, None, Contains, if◌then◌else◌, IsTrue}
use Rattle.mufom_expr.specs.declared.token.FieldKind.{FieldKind}
use Rattle.mufom_expr.specs.declared.token.Letter.{Letter}
use Rattle.mufom_expr.specs.declared.token.Letter.TheVariants as letters
use Rattle.mufom_expr.specs.Tree.{Tree}
use Rattle.mufom_expr.specs.Value.{variables_of}
use Rattle.mufom_loads.specs.declared.load.Item.TheVariants.{Field}
use Rattle.mufom_module.specs.declared.module.Parts.{Parts}
use Rattle.mufom_plan.specs.declared.plan.Plan.{Plan}
use Rattle.mufom_meaning.specs.Facts.{LinkFact, LocateFact}
use Rattle.mufom_meaning.specs.LinkAnswer.{link_answer}
use Rattle.mufom_meaning.specs.LocateAnswer.{locate_answer}
use Rattle.mufom_meaning.specs.Staging.{AreValid}
use Rattle.mufom_meaning.specs.Flat.{Sited, SitedPublic, flat_publics}
use Rattle.mufom_meaning.specs.Placed.{planned_bases}
use Rattle.mufom_meaning.specs.Values.{Setting, setting, value, has_zero_divisor}
use Rattle.mufom_meaning.specs.Steps.{Step, counter_step, item_step, counter}
use Rattle.mufom_meaning.specs.Stands.{StandsIn, IsStepAfter, LinkFactStands, StandsBeforeWalk}
use Rattle.mufom_meaning.specs.Cycles.{mentioned}
use Rattle.mufom_meaning.specs.Walk.{start_trees, debug_trees}

-- Where an expression finds its program counter: at a section, after some steps, the latest first. The expressions of publics,
-- starts and debug records have no program counter.
abbrev pub CounterPlace : Type 0
CounterPlace = Option (List Step × ℕ)

-- the program counter at this place, or None if there is none
abbrev pub counter_there : Setting → CounterPlace → Option ℕ
counter_there s None = None
counter_there s (Some c) = counter s c.0 c.1

-- the expression is that of a public, a start or a debug record, or is in a step of this section after these steps
abbrev pub IsExpressionAt : List Parts → CounterPlace → Sited → Tree → Type 0
IsExpressionAt ms None site t =
    ((q : SitedPublic) × StandsIn q (flat_publics ms) × (q.site ≡ site) × (q.entry.value ≡ t))
    ⊎ (StandsIn (site, t) (start_trees ms) ⊎ StandsIn (site, t) (debug_trees ms))
IsExpressionAt ms (Some c) site t =
    IsStepAfter ms c.0 (counter_step site c.1 t) ⊎ ((kind : FieldKind) × (size : ℕ) × IsStepAfter ms c.0 (item_step site c.1 (Field kind size t)))

-- a variable of the expression mentions the public
abbrev pub IsMentionedIn : Setting → Sited → Tree → SitedPublic → Type 0
IsMentionedIn s site t q = (v : Letter × ℕ) × Contains (variables_of t) v × (mentioned s site v.0 v.1 ≡ Some q)

-- the last of the steps, the latest first, that sets the counter of a section: the steps before it, its module and its expression
abbrev pub last_set : List Step → ℕ → Option (List Step × Sited × Tree)
last_set [] section = None
last_set (counter_step site other t ∷ earlier) section = if other == section then Some (earlier, site, t) else last_set earlier section
last_set (item_step site other item ∷ earlier) section = last_set earlier section

-- The expression divides by 0, or a public or a counter that its value depends on does.
pub data MeetsZeroDivisor (s : Setting) : CounterPlace → Sited → Tree → Type 0 where
  itself : (c : CounterPlace) (site : Sited) (t : Tree) → IsTrue (has_zero_divisor s site (counter_there s c) t) → MeetsZeroDivisor s c site t
  through_name : (c : CounterPlace) (site : Sited) (t : Tree) (q : SitedPublic) → IsMentionedIn s site t q
      → MeetsZeroDivisor s None q.site q.entry.value → MeetsZeroDivisor s c site t
  through_counter : (earlier before : List Step) (section n : ℕ) (site setter : Sited) (t set : Tree) → Contains (variables_of t) (letters.P, n)
      → last_set earlier section ≡ Some (before, setter, set) → MeetsZeroDivisor s (Some (before, section)) setter set
      → MeetsZeroDivisor s (Some (earlier, section)) site t

-- the section that a step sets or loads, by its flat number
abbrev pub section_of : Step → ℕ
section_of (counter_step site section t) = section
section_of (item_step site section item) = section

-- each expression has a value at its place, and each section a counter at the steps that set or load it
pub record HaveValues (ms : List Parts) (s : Setting) : Type 0 where
  pub expressions : (c : CounterPlace) (site : Sited) (t : Tree) → IsExpressionAt ms c site t → value s site (counter_there s c) t ≢ None
  pub counters : (earlier : List Step) (step : Step) → IsStepAfter ms earlier step → counter s earlier (section_of step) ≢ None

-- If no link fact and no fact that needs no walk holds about modules without a defect, an expression has no
-- value if and only if it, or a public or a counter that its value depends on, divides by 0.
abbrev pub NoneByDivision : Type 0
NoneByDivision =
    (ms : List Parts) (plan : Plan) → AreValid ms
    → let s = setting ms (planned_bases ms plan) in
    ((fact : LinkFact) → ¬ LinkFactStands ms fact) → ((fact : LocateFact) → ¬ StandsBeforeWalk ms plan s fact)
    → (c : CounterPlace) (site : Sited) (t : Tree) → IsExpressionAt ms c site t
    → (value s site (counter_there s c) t ≡ None) ↔ MeetsZeroDivisor s c site t

-- If no fact holds about modules without a defect, each expression and each counter has a value.
abbrev pub ValuesExist : Type 0
ValuesExist =
    (ms : List Parts) (plan : Plan) → AreValid ms → link_answer ms ≡ None → locate_answer ms plan ≡ None
    → HaveValues ms (setting ms (planned_bases ms plan))
