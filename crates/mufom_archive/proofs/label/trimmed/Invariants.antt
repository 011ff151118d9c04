use Rattle.std.proofs.Common.{◌≡◌, ◌+◌, ◌≤◌, length, take}
use Rattle.std.specs.List.{suffix_len}
use Rattle.mufom_archive.specs.Names.{is_blank}
use Rattle.mufom_archive.proofs.label.trimmed.Given as goal

-- the blanks of the whole label are those that were passed and those at the end of the rest
abbrev pub invariant-loop-len : goal.invariant-loop-len
invariant-loop-len l = record {
  within : l.len ≤ length l.label;
  blanks : l.len + suffix_len is_blank l.label ≡ length l.label + suffix_len is_blank (take l.len l.label);
}

abbrev pub decreases-loop-len : goal.decreases-loop-len
decreases-loop-len l = l.len
