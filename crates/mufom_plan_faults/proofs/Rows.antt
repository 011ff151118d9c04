-- Worked texts: the line at which they stop being a document, and a key that a table may not have.
use Rattle.std.proofs.Common.{◌≡◌, [], ◌∷◌, Some, None, refl}
use Rattle.std.specs.Prelude.{codes, pos}
use Rattle.toml.specs.Data.{integer, string, array, table, Members, no_members, member, item, no_items}
use Rattle.mufom_plan.specs.declared.refusal.PlanTable.TheVariants as at
use Rattle.mufom_plan_faults.specs.Keys.{other_in}
use Rattle.mufom_plan_faults.specs.Lines.{begins_line, line_number}

-- a region without a size, with keys of its own: of these `length` comes first
abbrev lengthy : Members
lengthy = member (codes "base") (integer (pos 0)) (member (codes "length") (integer (pos 1)) (member (codes "name") (string (codes "a"))
    (member (codes "zz") (integer (pos 1)) no_members)))

abbrev plain : Members
plain = member (codes "name") (string (codes "a")) no_members

abbrev document : Members
document = member (codes "other") (integer (pos 1)) (member (codes "region") (array (item (table plain) (item (table lengthy) no_items)))
    (member (codes "symbol") (array (item (table (member (codes "base") (integer (pos 0)) plain)) no_items)) no_members))

key_of_region : other_in (Some (at.Region 1)) document ≡ Some (codes "length")
key_of_region = refl

none_of_first : other_in (Some (at.Region 0)) document ≡ None
none_of_first = refl

none_past_last : other_in (Some (at.Region 2)) document ≡ None
none_past_last = refl

-- a key of a region is none of a symbol
key_of_symbol : other_in (Some (at.Symbol 0)) document ≡ Some (codes "base")
key_of_symbol = refl

key_of_document : other_in None document ≡ Some (codes "other")
key_of_document = refl

-- lines begin at the beginning and after each line end, and count from 1
third_line : line_number (97 ∷ 10 ∷ 10 ∷ []) ≡ 3
third_line = refl

begins_third : begins_line (97 ∷ 10 ∷ 10 ∷ 98 ∷ []) 3 ≡ begins_line (97 ∷ 10 ∷ 10 ∷ 98 ∷ []) 0
begins_third = refl
