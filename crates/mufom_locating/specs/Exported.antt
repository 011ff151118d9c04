-- What a module must meet where its layout is returned as it is.
use Rattle.std.specs.Prelude.{◌≡◌, List, None}
use Rattle.mufom_sections.specs.declared.section.Section.{Section}
use Rattle.mufom_plan.specs.declared.plan.Plan.{Plan}
use Rattle.mufom_plan.specs.Names.{listed_names}
use Rattle.mufom_place.specs.Bases.{numbered}
use Rattle.mufom_place.specs.Facts.{first_some, unplaced_at}

-- each section without a base has a name that a list of the plan matches
abbrev pub AllListed : Plan → List Section → Type 0
AllListed plan sections = first_some (unplaced_at (listed_names plan.regions)) (numbered sections) ≡ None
