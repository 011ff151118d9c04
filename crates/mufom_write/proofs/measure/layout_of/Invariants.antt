use Rattle.std.proofs.Common.{◌≡◌, ◌+◌, ◌++◌, length, take, drop}
use Rattle.mufom_debug.specs.Marks.{joined}
use Rattle.mufom_module.specs.Written.{shortest, parts, offsets, offsets_from, header_length}
use Rattle.mufom_write.proofs.measure.layout_of.Given as goal

abbrev pub invariant-loop-number : goal.invariant-loop-number
invariant-loop-number l = record {
  size : length l.offsets ≡ 8;
  offsets : take l.number l.offsets ++ offsets_from l.at (drop l.number (parts shortest l.parts)) ≡ offsets shortest l.parts;
  at : l.at + length (joined (drop l.number (parts shortest l.parts))) ≡ header_length shortest l.parts + length (joined (parts shortest l.parts));
}
