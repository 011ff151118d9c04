use Rattle.std.proofs.Common.{drop, length}
use Rattle.mufom_locating.proofs.LoadedLaws.{AreMarkedUpTo}
use Rattle.mufom_locating.proofs.loaded.loaded_sections.Given as goal

abbrev pub invariant-loop-load : goal.invariant-loop-load
invariant-loop-load l =
    AreMarkedUpTo l.«module».loads (drop l.load-index l.«module».loads) (length l.«module».sections) l.current l.marks.items
