use Rattle.mufom_task.specs.Calls.{call_of}
use Rattle.mufom_task.proofs.TextLaws.{reading-stops, text-all, text-names, text-opens, text-read}
use Rattle.mufom_task.proofs.text_file.read_text.Goals as goal

pub returns-in-Ok-clause-read : goal.returns-in-Ok-clause-read
returns-in-Ok-clause-read g c = text-read c.args.inputs.now c.only_file.result.now c.requires.no_plan c.only_file.ensures (g.H.World.meaning c.args.host.now)
    (g.H.World.meaning c.read_named.new.host) (g.H.World.faults c.args.host.now) (g.H.World.faults c.read_named.new.host) c.in-Ok.bytes.items c.in-Ok.ensures.text

pub returns-in-Ok-clause-all : goal.returns-in-Ok-clause-all
returns-in-Ok-clause-all g c = text-all c.args.inputs.now c.only_file.result.now c.requires.no_plan c.only_file.ensures (g.H.World.meaning c.args.host.now)
    (g.H.World.meaning c.read_named.new.host) (g.H.World.faults c.args.host.now) (g.H.World.faults c.read_named.new.host) c.in-Ok.ensures.opens

pub returns-in-Err-clause-stops : goal.returns-in-Err-clause-stops
returns-in-Err-clause-stops g c = reading-stops c.args.inputs.now c.only_file.result.now c.requires.no_plan c.only_file.ensures (g.H.World.meaning c.args.host.now)
    (g.H.World.meaning c.read_named.new.host) (g.H.World.faults c.args.host.now) (g.H.World.faults c.read_named.new.host) c.in-Err.stop c.in-Err.ensures.stops

pub returns-in-Err-clause-opened : goal.returns-in-Err-clause-opened
returns-in-Err-clause-opened g c = text-opens c.args.inputs.now c.only_file.result.now c.requires.no_plan c.only_file.ensures (g.H.World.meaning c.args.host.now)
    (g.H.World.meaning c.read_named.new.host) (g.H.World.faults c.args.host.now) (g.H.World.faults c.read_named.new.host) c.in-Err.stop c.in-Err.ensures.stops c.in-Err.ensures.opened

pub returns-in-Err-clause-named : goal.returns-in-Err-clause-named
returns-in-Err-clause-named g c = text-names c.args.inputs.now.plan c.only_file.result.now
    (call_of g.H.World.meaning g.H.World.faults c.args.host.now c.read_named.new.host) c.in-Err.stop c.in-Err.ensures.stops
