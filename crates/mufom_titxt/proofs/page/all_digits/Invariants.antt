use Rattle.std.proofs.Common.{◌≡◌, ◌*◌, length, take, flat_map}
use Rattle.std.specs.Int.{w64, to_be_bytes}
use Rattle.mufom_titxt.specs.Written.{byte_digits}
use Rattle.mufom_titxt.proofs.page.all_digits.Given as goal

abbrev pub invariant-loop-byte : goal.invariant-loop-byte
invariant-loop-byte l = record {
  bytes : l.byte-items ≡ to_be_bytes w64 l.address;
  digits : l.digits ≡ flat_map byte_digits (take l.byte-index l.byte-items);
  length : length l.digits ≡ 2 * l.byte-index;
}
