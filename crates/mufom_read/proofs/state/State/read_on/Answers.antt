use Rattle.std.proofs.Common.{refl}
use Rattle.mufom_read.proofs.feeding.Feed.{knows-moved}
use Rattle.mufom_read.proofs.state.State.read_on.Goals as goal

pub returns-clause-known : goal.returns-clause-known
returns-clause-known c = λ stream bytes is.
    let it = c.read-stop.new.self in
    knows-moved it (record { alloc = it.alloc; options = it.options; prefix = it.prefix; rest = it.rest; stop = c.read-stop.result }) _
    c.read-stop.result refl refl refl (c.read-stop.ensures.known stream bytes is)
