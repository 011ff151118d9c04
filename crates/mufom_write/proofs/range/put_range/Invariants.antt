use Rattle.std.proofs.Common.{◌≤◌, drop}
use Rattle.mufom_write.specs.Range.{range_from, range_image}
use Rattle.mufom_write.specs.Writing.{LeadsTo}
use Rattle.mufom_write.proofs.range.put_range.Given as goal

abbrev pub invariant-loop-place : goal.invariant-loop-place
invariant-loop-place g l = record {
  low : l.from ≤ l.at;
  within : l.at ≤ l.end;
  leads : LeadsTo g.K.Output.takes l.fn.out l.out (range_from l.fill l.end l.at (drop l.place l.runs)) (range_image l.fill l.from l.count l.runs);
}
