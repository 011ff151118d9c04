use Rattle.std.proofs.Common.{◌≡◌, ◌+◌, ◌<◌, ◌^◌, false, drop, length}
use Rattle.std.specs.List.{list_any}
use Rattle.mufom_debug.specs.Marks.{marks_of, names_after_all}
use Rattle.mufom_module.specs.Written.{shortest, debug_records}
use Rattle.mufom_module.specs.Defects.{has_long_name}
use Rattle.mufom_write.specs.Writing.{LeadsTo}
use Rattle.mufom_write.proofs.debug.+writing.Given as goal

abbrev pub invariant-debug_items-loop-place : goal.invariant-debug_items-loop-place
invariant-debug_items-loop-place g l = record {
  leads : LeadsTo g.K.Output.takes l.fn.out l.out (debug_records shortest l.names (marks_of (drop l.place l.items)))
      (debug_records shortest l.fn.names (marks_of l.items));
  after : names_after_all l.names (marks_of (drop l.place l.items)) ≡ names_after_all l.fn.names (marks_of l.items);
  short : list_any has_long_name (marks_of (drop l.place l.items)) ≡ false;
  few : l.names + length (marks_of (drop l.place l.items)) < 2 ^ 63;
}
