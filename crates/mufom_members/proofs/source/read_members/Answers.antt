use Rattle.std.proofs.Common.{◌≡◌, ◌<◌, ℕ, List, length, IfSome, sym, subst}
use Rattle.mufom_host.specs.World.{ReadsOff}
use Rattle.mufom_members.proofs.Sourcing.{says_nothing}
use Rattle.mufom_members.proofs.source.read_members.Goals as goal

pub returns-in-Ok-read_head-clause-reads : goal.returns-in-Ok-read_head-clause-reads
returns-in-Ok-read_head-clause-reads g c =
    let before = (g.S.World.meaning c.args.source.now).left in
    let mid = (g.S.World.meaning c.read_head.new.source).left in
    let head = subst (λ (l : List ℕ). ReadsOff before mid l × (length l < 8 → IfSome before (λ left. left ≡ l))) (sym c.deref.ensures.value)
    (c.in-Ok-read_head.ensures.read, c.in-Ok-read_head.ensures.short) in
    c.read_after.ensures.reads before head.0 head.1

pub returns-clause-reads : goal.returns-clause-reads
returns-clause-reads g c =
    says_nothing c.args.options c.args.limit (g.S.World.meaning c.args.source.now).left (g.S.World.meaning c.read_head.new.source).left c.in-Err.stop
    c.in-Err.ensures.failed
