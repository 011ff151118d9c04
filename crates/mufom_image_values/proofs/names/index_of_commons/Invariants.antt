use Rattle.std.proofs.Common.{◌≡◌, ◌≤◌, [], take, length}
use Rattle.mufom_names.specs.Index.{numbered_from}
use Rattle.mufom_image_values.specs.Names.{asked_after}
use Rattle.mufom_image_values.proofs.names.index_of_commons.Given as goal

-- the index has the commons for which the references so far ask, no more than these are
abbrev pub invariant-loop-reference : goal.invariant-loop-reference
invariant-loop-reference l = (l.index ≡ numbered_from 0 (asked_after l.publics [] (take l.reference-index l.references)))
    × (l.count ≡ length (asked_after l.publics [] (take l.reference-index l.references)))
    × (l.count ≤ l.reference-index)
