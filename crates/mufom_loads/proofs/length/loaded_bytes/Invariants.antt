use Rattle.std.proofs.Common.{◌≡◌, ◌≤◌, ◌*◌, ◌-◌, ◌^◌, take}
use Rattle.mufom_loads.specs.Lengths.{lengths_loaded, lengths_once}
use Rattle.mufom_loads.proofs.length.loaded_bytes.Given as goal

abbrev pub invariant-loop-load : goal.invariant-loop-load
invariant-loop-load l = record {
  total : l.total ≡ lengths_loaded (take l.load-index l.loads);
  bound : l.total ≤ (2 ^ 64 - 1) * lengths_once (take l.load-index l.loads);
}
