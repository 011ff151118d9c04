-- Laws of copies.
use Rattle.std.specs.Prelude.{◌≡◌, ℕ, List, ◌++◌, length, None}
use Rattle.mufom_sections.specs.declared.section.Section.{Section}
use Rattle.mufom_plan.specs.declared.plan.Plan.{Plan}
use Rattle.mufom_place.specs.declared.placing.RegionCopy.{RegionCopy}
use Rattle.mufom_place.specs.Bases.{bases}
use Rattle.mufom_place.specs.Facts.{place_refusal}
use Rattle.mufom_place.specs.Copies.{all_bases, all_refusal}

-- The first bases are those without copies, and one for each copy follows. So copies move no section and no common.
abbrev pub CopiesMoveNothing : Type 0
CopiesMoveNothing =
    (plan : Plan) (sections commons : List Section) (copied : List RegionCopy)
    → (more : List ℕ) × (all_bases plan sections commons copied ≡ bases plan sections commons ++ more) × (length more ≡ length copied)

-- If nothing keeps sections, commons and copies from being placed, nothing keeps sections and commons from being placed without copies.
abbrev pub FitsWithoutCopies : Type 0
FitsWithoutCopies =
    (width : ℕ) (plan : Plan) (sections commons : List Section) (copied : List RegionCopy)
    → all_refusal width plan sections commons copied ≡ None → place_refusal width plan sections commons ≡ None
