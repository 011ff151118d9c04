use Rattle.std.proofs.Common.{◌≡◌, drop}
use Rattle.mufom_link.specs.References.{keyed}
use Rattle.mufom_link.proofs.ResolvingLaws.{IsResolving}
use Rattle.mufom_link.proofs.resolved.resolved_by.Given as goal

abbrev pub invariant-loop-module : goal.invariant-loop-module
invariant-loop-module l = IsResolving l.list (drop l.module-index l.list) l.targets l.references.kept × (l.references.keys ≡ keyed l.references.kept)
