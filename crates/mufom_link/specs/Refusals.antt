-- The reasons why a list of modules cannot be linked, as a link returns them.
use Rattle.std.specs.Prelude.{◌≡◌, List, Some}
use Rattle.mufom_module.specs.declared.module.Parts.{Parts}
use Rattle.mufom_meaning.specs.Facts.{mismatch, duplicate, duplicate_start}
use Rattle.mufom_meaning.specs.LinkAnswer.{link_answer}
use Rattle.mufom_refusals.specs.declared.link.LinkRefusal.{LinkRefusal}
use Rattle.mufom_refusals.specs.declared.link.LinkRefusal.TheVariants.{Mismatch, Duplicate, DuplicateStart, NoMemory}

-- the error is the one that the definition gives for the list, or out of memory
abbrev pub IsRefusalOf : List Parts → LinkRefusal → Type 0
IsRefusalOf ms (Mismatch first other) = link_answer ms ≡ Some (mismatch (first.maus, first.order) (other.maus, other.order))
IsRefusalOf ms (Duplicate name) = link_answer ms ≡ Some (duplicate name)
IsRefusalOf ms DuplicateStart = link_answer ms ≡ Some duplicate_start
IsRefusalOf ms NoMemory = Unit {0}
