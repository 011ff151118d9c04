use Rattle.std.proofs.Common.{◌≤◌, length}
use Rattle.mufom_build_text.specs.Reads.{IsDigitsFront}
use Rattle.mufom_build_text.proofs.Names.{DigitsLeft}
use Rattle.mufom_build_text.proofs.spelled.split_hex.Given as goal

abbrev pub invariant-loop-byte : goal.invariant-loop-byte
invariant-loop-byte l = record {
  front : IsDigitsFront l.bytes.items l.text l.rest;
  left : DigitsLeft l.bytes.items l.text l.rest;
  within : length l.rest ≤ length l.text;
}

abbrev pub decreases-loop-byte : goal.decreases-loop-byte
decreases-loop-byte l = length l.rest
