use Rattle.std.proofs.Common.{◌≡◌, ℕ, ◌<◌, get_or, false}
use Rattle.mufom_archive.specs.Names.{ends_name}
use Rattle.mufom_archive.proofs.label.name_length.Given as goal

abbrev pub invariant-loop-length : goal.invariant-loop-length
invariant-loop-length l = (k : ℕ) → k < l.length → ends_name (get_or l.bytes k 0) ≡ false
