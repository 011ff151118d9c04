use Rattle.mufom_task.proofs.PlanLaws.{bytes_of_file, grows-then-read, opened_then_read}
use Rattle.mufom_task.proofs.whole_file.read_whole.Goals as goal

pub returns-in-Ok-read_bytes-clause-bytes : goal.returns-in-Ok-read_bytes-clause-bytes
returns-in-Ok-read_bytes-clause-bytes g c = bytes_of_file c.args.name.now _ c.args.limit _ _ c.in-Ok.ensures.opens.bytes c.in-Ok-read_bytes.ensures.bytes

pub returns-in-Ok-read_bytes-clause-opens : goal.returns-in-Ok-read_bytes-clause-opens
returns-in-Ok-read_bytes-clause-opens g c = grows-then-read (g.H.World.meaning c.args.host.now) (g.H.World.meaning c.open.new.self)
    (g.H.World.meaning c.read_bytes.new.source) c.args.name.now c.in-Ok.ensures.opens.names c.read_bytes.ensures.only.0

pub returns-in-Ok-read_bytes-clause-opened : goal.returns-in-Ok-read_bytes-clause-opened
returns-in-Ok-read_bytes-clause-opened g c = opened_then_read (g.H.World.meaning c.args.host.now) (g.H.World.meaning c.open.new.self)
    (g.H.World.meaning c.read_bytes.new.source) c.args.name.now c.in-Ok.ensures.opens.names c.read_bytes.ensures.only.0

pub returns-in-Err-Fault-clause-opened : goal.returns-in-Err-Fault-clause-opened
returns-in-Err-Fault-clause-opened g c = opened_then_read (g.H.World.meaning c.args.host.now) (g.H.World.meaning c.open.new.self)
    (g.H.World.meaning c.read_bytes.new.source) c.args.name.now c.in-Ok.ensures.opens.names c.read_bytes.ensures.only.0

pub returns-clause-opened : goal.returns-clause-opened
returns-clause-opened g c = opened_then_read (g.H.World.meaning c.args.host.now) (g.H.World.meaning c.open.new.self)
    (g.H.World.meaning c.read_bytes.new.source) c.args.name.now c.in-Ok.ensures.opens.names c.read_bytes.ensures.only.0
