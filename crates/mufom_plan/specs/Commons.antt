-- The region of a plan that takes the commons.
use Rattle.std.specs.Prelude.{◌≤◌, List, Bool}
use Rattle.std.specs.List.{count_by, list_any}
use Rattle.mufom_plan.specs.declared.plan.Region.{Region}

-- some region takes the commons
abbrev pub has_common : List Region → Bool
has_common regions = list_any (λ region. region.common) regions

-- at most one region takes the commons
abbrev pub HasAtMostOneCommon : List Region → Type 0
HasAtMostOneCommon regions = count_by (λ region. region.common) regions ≤ 1
