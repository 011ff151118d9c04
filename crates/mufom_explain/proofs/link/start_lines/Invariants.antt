use Rattle.std.proofs.Common.{◌≡◌, ◌-◌, length, take}
use Rattle.std.specs.Prelude.{filter}
use Rattle.mufom_explain.specs.Details.{has_start, listed}
use Rattle.mufom_explain.proofs.LinkLaws.{numbered}
use Rattle.mufom_origins.specs.Words.{all_files}
use Rattle.mufom_explain.proofs.link.start_lines.Given as goal

-- the lines of the modules with a start so far, of two at most
abbrev pub invariant-loop-position : goal.invariant-loop-position
invariant-loop-position g l = g.K.Output.takes l.fn.out l.out (listed (all_files l.names) (take 2 (filter has_start (take l.position (numbered l.flat)))))
    × (l.left ≡ 2 - length (filter has_start (take l.position (numbered l.flat))))
