use Rattle.std.proofs.Common.{◌≡◌, ◌-◌, ◌≤◌, length}
use Rattle.mufom_records.specs.Reading.{numbers_at}
use Rattle.mufom_records.proofs.Numbers.{following}
use Rattle.mufom_records.proofs.fields.numbers.Given as goal

abbrev pub invariant-loop-all : goal.invariant-loop-all
invariant-loop-all g l = record {
  within : l.at ≤ length l.input;
  few : length l.all.items ≤ g.row.N;
  same : following l.all.items (numbers_at (g.row.N - length l.all.items) l.input l.at) ≡ numbers_at g.row.N l.input l.fn.start;
}

abbrev pub decreases-loop-all : goal.decreases-loop-all
decreases-loop-all g l = g.row.N - length l.all.items
