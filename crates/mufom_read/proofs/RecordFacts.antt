-- What holds of a record that was read, and of an error.
use Rattle.std.proofs.Common.{◌≡◌, ℕ, zero, suc, Bool, true, false, cond, List, Option, is_some, nat_le}
use Rattle.std.proofs.Common.{le-leb, sym, ap, subst, ◌∙◌, arith}
use Rattle.mufom_records.specs.declared.record.Mode.TheVariants as mode
use Rattle.mufom_records.specs.Layouts
use Rattle.mufom_judging.proofs.ended.Rows.{begin_row, descriptor_row, offset_row, body_kind, items_kind}
use Rattle.mufom_records.specs.declared.record.Mode.{Mode}
use Rattle.mufom_records.specs.declared.record.Record.{Record}
use Rattle.mufom_records.specs.declared.options.ReadOptions.{ReadOptions}
use Rattle.mufom_module.specs.RecordParts.{items_mode}
use Rattle.mufom_module.specs.Grammar.{offset_in}
use Rattle.mufom_read.specs.declared.prefix.Location as code
use Rattle.mufom_read.specs.declared.prefix.Location.TheVariants as fault_offset
use Rattle.mufom_judging.specs.Prefixes.{Step, header_mode}
use Rattle.mufom_read.specs.PrefixOfCode.{IsHeaderRow, IsPlacedWell, as_location, mode_at}
use Rattle.mufom_judging.specs.RecordFields.{HasKind}

-- the records of the header are MB, AD and ASW
pub got-header : (k : ℕ) (row : Record) (bytes : List ℕ) (after : Option ℕ) → Layouts.IsWholeRecord (header_mode k) row bytes after → IsHeaderRow row
got-header zero row bytes after is = let b = begin_row row bytes after is in subst IsHeaderRow (sym b.2) tt
got-header (suc zero) row bytes after is = let d = descriptor_row row bytes after is in subst IsHeaderRow (sym d.3) tt
got-header (suc (suc k)) row bytes after is = let o = offset_row k row bytes after is in subst IsHeaderRow (sym o.1) tt

-- the records of the header after the first two have an offset
pub got-offset : (k : ℕ) (row : Record) (bytes : List ℕ) (after : Option ℕ) → Layouts.IsWholeRecord (header_mode k) row bytes after
    → is_some (offset_in row) ≡ nat_le 2 k
got-offset zero row bytes after is = let b = begin_row row bytes after is in ap (λ x. is_some (offset_in x)) b.2
got-offset (suc zero) row bytes after is = let d = descriptor_row row bytes after is in ap (λ x. is_some (offset_in x)) d.3
got-offset (suc (suc k)) row bytes after is = let o = offset_row k row bytes after is in ap (λ x. is_some (offset_in x)) o.1
    ∙ sym (le-leb 2 (suc (suc k)) (omega arith))

-- the kind of a block is one with what it adds
got-kind : (options : ReadOptions) (items : Bool) (row : Record) (bytes : List ℕ) (after : Option ℕ)
    → Layouts.IsWholeRecord (cond items (items_mode options) mode.Body) row bytes after → HasKind row
got-kind options true row bytes after is = items_kind options.gnu row bytes after is
got-kind options false row bytes after is = body_kind row bytes after is

pub got-placed : (options : ReadOptions) (prefix : List Step) (at : code.Location) (rest : List ℕ) (row : Record) (bytes : List ℕ) (after : Option ℕ)
    → Layouts.IsWholeRecord (mode_at options prefix (as_location at) rest) row bytes after → IsPlacedWell at row
got-placed options prefix (fault_offset.Header k) rest row bytes after is = (got-header k row bytes after is, got-offset k row bytes after is)
got-placed options prefix (fault_offset.Part e) rest row bytes after is = got-kind options _ row bytes after is
got-placed options prefix fault_offset.End rest row bytes after is = tt
