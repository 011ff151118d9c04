use Rattle.std.proofs.Common.{◌≡◌, None, option_map, drop}
use Rattle.mufom_read.specs.Kept.{as_fault}
use Rattle.mufom_read.specs.NamesSoFar.{public_faults, least_from}
use Rattle.mufom_read.proofs.publics.Publics.fault.Given as goal

-- the earliest of the error so far and of those still to come is the earliest of all
abbrev pub invariant-loop-position : goal.invariant-loop-position
invariant-loop-position l = least_from (option_map as_fault l.fault)
    (public_faults l.tables (drop l.position l.self.marks.items) (drop l.position l.self.list.items))
    ≡ least_from None (public_faults l.tables l.self.marks.items l.self.list.items)
