use Rattle.mufom_origins.specs.Words.{all_files}
use Rattle.mufom_task.proofs.InputLaws.{HaveRead}
use Rattle.mufom_task.proofs.inputs.read_files.Given as goal

abbrev pub invariant-loop-number : goal.invariant-loop-number
invariant-loop-number g l =
    HaveRead l.options l.roots l.names l.number l.modules (all_files l.files) l.room (g.H.World.meaning l.initial.host) (g.H.World.meaning l.host)
    (g.H.World.faults l.initial.host) (g.H.World.faults l.host)
