use Rattle.std.proofs.Common.{◌≤◌, length}
use Rattle.mufom_build_text.specs.Reads.{IsNameFront}
use Rattle.mufom_build_text.proofs.Names.{NameLeft}
use Rattle.mufom_build_text.proofs.spelled.split_name.Given as goal

abbrev pub invariant-loop-first : goal.invariant-loop-first
invariant-loop-first l = record {
  front : IsNameFront l.name.items l.text l.rest;
  left : NameLeft l.name.items l.text l.rest;
  within : length l.rest ≤ length l.text;
}

abbrev pub decreases-loop-first : goal.decreases-loop-first
decreases-loop-first l = length l.rest
