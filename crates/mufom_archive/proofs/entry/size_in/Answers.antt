use Rattle.std.specs.Char.{is_ascii_digit}
use Rattle.std.proofs.lemmas.List.Sums.{prefix_len-le-length}
use Rattle.mufom_archive.proofs.NameLaws.{front_digits}
use Rattle.mufom_archive.proofs.entry.size_in.Goals as goal

pub slice_bounds-are_blanks-count : goal.slice_bounds-are_blanks-count
slice_bounds-are_blanks-count c = rw c.count_digits-digits.ensures (prefix_len-le-length is_ascii_digit c.args.field.now)

pub slice_bounds-are_blanks-start : goal.slice_bounds-are_blanks-start
slice_bounds-are_blanks-start c = rw c.count_digits-digits.ensures (prefix_len-le-length is_ascii_digit c.args.field.now)

pub decimal-requires-clause-digits : goal.decimal-requires-clause-digits
decimal-requires-clause-digits c = rw c.count_digits-digits.ensures (front_digits c.args.field.now)
