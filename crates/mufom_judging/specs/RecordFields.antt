-- What fields of a record say: the kind of a debug block, and the byte order.
use Rattle.std.specs.Prelude.{◌≡◌, ◌⊎◌, ℕ, ◌==◌, Option, Some, None, if◌then◌else◌}
use Rattle.mufom_numbers.specs.declared.codes.TheConstants.{LETTER_L}
use Rattle.mufom_records.specs.declared.record.BlockTail.{BlockTail}
use Rattle.mufom_records.specs.declared.record.BlockTail.TheVariants as tail
use Rattle.mufom_records.specs.declared.record.Record.{Record}
use Rattle.mufom_records.specs.declared.record.Record.TheVariants as r
use Rattle.mufom_module.specs.declared.module.Order.{Order}
use Rattle.mufom_module.specs.declared.module.Order.TheVariants.{Least, Most}

-- the kind of the block has these fields
abbrev pub FitsKind : ℕ → BlockTail → Type 0
FitsKind kind tail.Module = kind ≡ 3
FitsKind kind (tail.Scope stack type_index offset) = (kind ≡ 4) ⊎ (kind ≡ 6)
FitsKind kind (tail.Source ns) = kind ≡ 5
FitsKind kind (tail.Section section_type section offset) = kind ≡ 11

-- the same for the block that the record begins, if it begins one
abbrev pub HasKind : Record → Type 0
HasKind (r.BlockBegin kind n name block) = FitsKind kind block
HasKind _ = Unit {0}

-- the byte order that a letter selects: the most significant byte first if there is no letter
abbrev pub order_of : Option ℕ → Order
order_of None = Most
order_of (Some letter) = if LETTER_L == letter then Least else Most
