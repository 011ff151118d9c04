use Rattle.std.proofs.Common.{◌≡◌, ◌-◌, ◌++◌, length}
use Rattle.mufom_meaning.specs.Fields.{number_bytes}
use Rattle.mufom_image_bytes.proofs.field.least_first.Given as goal

abbrev pub invariant-loop : goal.invariant-loop
invariant-loop l = (length l.bytes.items ≡ l.counter) × (l.bytes.items ++ number_bytes (l.size - l.counter) l.rest ≡ number_bytes l.size l.number)
