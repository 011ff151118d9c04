use Rattle.std.proofs.Common.{◌≡◌, drop}
use Rattle.mufom_read.specs.SectionsSoFar.{first_unbased}
use Rattle.mufom_read.proofs.sections.Sections.fault.Given as goal

-- none of the sections before this one has an error
abbrev pub invariant-loop-position : goal.invariant-loop-position
invariant-loop-position l = first_unbased (drop l.position l.self.starts.items) (drop l.position l.self.list.items)
    ≡ first_unbased l.self.starts.items l.self.list.items
