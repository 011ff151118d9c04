use Rattle.std.proofs.Common.{◌≡◌, ◌≤◌, ℕ, List, [], ◌++◌, length}
use Rattle.mufom_host.specs.Spans.{AfterWrites}
use Rattle.mufom_titxt.specs.Written.{byte_lines, run_text}
use Rattle.mufom_titxt.proofs.write.write_run.Given as goal

abbrev pub invariant-loop-rest : goal.invariant-loop-rest
invariant-loop-rest g l =
    (length l.page ≤ 18) × (l.rest ≡ [] → l.page ≡ [])
    × ((passed : List ℕ)
    × AfterWrites (g.K.World.meaning l.fn.sink) (g.K.World.meaning l.sink) (g.K.World.faults l.fn.sink) (g.K.World.faults l.sink) passed
    × (passed ++ (l.page ++ byte_lines 0 l.rest) ≡ run_text l.address l.bytes))

abbrev pub decreases-loop-rest : goal.decreases-loop-rest
decreases-loop-rest g l = length l.rest
