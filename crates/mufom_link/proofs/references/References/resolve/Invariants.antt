use Rattle.std.proofs.Common.{◌≡◌, ◌+◌, ◌≤◌, ◌++◌, length, drop}
use Rattle.std.specs.List.{AllByRecursion}
use Rattle.mufom_names.specs.Index.{keys_of}
use Rattle.mufom_names.specs.Keys.{IsShortReference}
use Rattle.mufom_link.specs.References.{kept_after, targets_after, keyed}
use Rattle.mufom_link.proofs.references.References.resolve.Given as goal

abbrev pub invariant-loop-reference : goal.invariant-loop-reference
invariant-loop-reference l =
    (l.targets ++ targets_after (keys_of l.publics) l.self.kept (drop l.reference-index l.references) ≡ l.fn.targets
    ++ targets_after (keys_of l.publics) l.fn.self.kept l.references)
    × (kept_after (keys_of l.publics) l.self.kept (drop l.reference-index l.references) ≡ kept_after (keys_of l.publics) l.fn.self.kept l.references)
    × (l.self.keys ≡ keyed l.self.kept)
    × AllByRecursion IsShortReference l.self.kept
    × (length l.self.kept ≤ length l.fn.self.kept + l.reference-index)
