-- Plans of documents, computed: symbols, load regions and sections that always stay, and the errors in them.
use Rattle.std.proofs.Common.{◌≡◌, ℕ, List, [], ◌∷◌, Option, Some, None, Result, Ok, Err, refl}
use Rattle.std.specs.Prelude.{codes, pos, negsuc, false}
use Rattle.toml.specs.Data.{Data, string, integer, array, table, Items, no_items, item, Members, no_members, member}
use Rattle.mufom_plan.specs.declared.plan.Region.{Region}
use Rattle.mufom_plan.specs.declared.plan.SymbolValue.TheVariants as values
use Rattle.mufom_plan.specs.declared.plan.Plan.{Plan}
use Rattle.mufom_plan.specs.declared.refusal.PlanField.{PlanField}
use Rattle.mufom_plan.specs.declared.refusal.PlanField.TheVariants as field
use Rattle.mufom_plan.specs.declared.refusal.PlanTable.TheVariants as at
use Rattle.mufom_plan.specs.declared.refusal.PlanRefusal.{PlanRefusal}
use Rattle.mufom_plan.specs.declared.refusal.PlanRefusal.TheVariants.{Shape}
use Rattle.mufom_plan.specs.PlanText.{plan_of_document}

abbrev one : Data → Data
one value = array (item value no_items)

abbrev texts : List (List ℕ) → Items
texts [] = no_items
texts (text ∷ more) = item (string text) (texts more)

-- the members of a table, in the order of their keys
abbrev at_key : List ℕ → Data → Members → Members
at_key key value more = member key value more

-- a region of size 64 with one entry, and its load if it has one
abbrev region_at : List ℕ → ℕ → Option (List ℕ) → List ℕ → Data
region_at name base None entry =
    table (at_key (codes "base") (integer (pos base)) (at_key (codes "name") (string name) (at_key (codes "sections") (array (texts (entry ∷ [])))
    (at_key (codes "size") (integer (pos 64)) no_members))))
region_at name base (Some load) entry =
    table (at_key (codes "base") (integer (pos base)) (at_key (codes "load") (string load) (at_key (codes "name") (string name)
    (at_key (codes "sections") (array (texts (entry ∷ []))) (at_key (codes "size") (integer (pos 64)) no_members)))))

abbrev rom : Option (List ℕ) → Data
rom load = region_at (codes "rom") 0 load (codes "t")

abbrev ram : Option (List ℕ) → Data
ram load = region_at (codes "ram") 256 load (codes "d")

-- a document with these two regions, and with these symbols
abbrev with_regions : Data → Data → Items → Result Plan PlanRefusal
with_regions first second symbols =
    plan_of_document (at_key (codes "region") (array (item first (item second no_items))) (at_key (codes "symbol") (array symbols) no_members))

-- a symbol of this name with one more key, before the name or after it
abbrev from_entry : List ℕ → List ℕ → List ℕ → Data
from_entry name key entry = table (at_key (codes "name") (string name) (at_key key (string entry) no_members))

abbrev plain : List ℕ → ℕ → List ℕ → Region
plain name base entry = record { name = name; base = base; size = 64; sections = entry ∷ []; common = false; load = None }

-- a plan with a load region and a symbol for each key
reads_symbols : with_regions (rom None) (ram (Some (codes "rom"))) (item (from_entry (codes "a") (codes "start") (codes "d"))
    (item (from_entry (codes "b") (codes "region_end") (codes "ram")) (item
    (table (at_key (codes "name") (string (codes "c")) (at_key (codes "value") (integer (pos 7)) no_members))) no_items)))
    ≡ Ok (record {
      regions = plain (codes "rom") 0 (codes "t") ∷ record (plain (codes "ram") 256 (codes "d")) { load = Some (codes "rom") } ∷ [];
      symbols = record { name = codes "a"; value = values.Start (codes "d") } ∷ record { name = codes "b"; value = values.RegionEnd (codes "ram") }
          ∷ record { name = codes "c"; value = values.Value 7 } ∷ [];
      keep = [];
    })
reads_symbols = refl

-- a load that names its own region, no region, or one that has a load itself
loads_itself : with_regions (rom None) (ram (Some (codes "ram"))) no_items ≡ Err (Shape (Some (at.Region 1)) field.Load)
loads_itself = refl

loads_into_none : with_regions (rom None) (ram (Some (codes "x"))) no_items ≡ Err (Shape (Some (at.Region 1)) field.Load)
loads_into_none = refl

loads_into_loaded : with_regions (rom (Some (codes "ram"))) (ram (Some (codes "rom"))) no_items ≡ Err (Shape (Some (at.Region 0)) field.Load)
loads_into_loaded = refl

-- a document that has only symbols
abbrev symbols_alone : Items → Result Plan PlanRefusal
symbols_alone symbols = plan_of_document (at_key (codes "symbol") (array symbols) no_members)

abbrev named : List ℕ → Members → Data
named name more = table (at_key (codes "name") (string name) more)

no_tables : plan_of_document (at_key (codes "symbol") (integer (pos 1)) no_members) ≡ Err (Shape None field.Symbol)
no_tables = refl

regions_first : plan_of_document (at_key (codes "region") (integer (pos 1)) (at_key (codes "symbol") (integer (pos 1)) no_members))
    ≡ Err (Shape None field.Region)
regions_first = refl

abbrev of_first : PlanField → Result Plan PlanRefusal
of_first key = Err (Shape (Some (at.Symbol 0)) key)

has_no_name : symbols_alone (item (table no_members) no_items) ≡ of_first field.Name
has_no_name = refl

has_no_kind : symbols_alone (item (named (codes "a") no_members) no_items) ≡ of_first field.Kind
has_no_kind = refl

has_two_kinds : symbols_alone (item (named (codes "a") (at_key (codes "start") (string (codes "t")) (at_key (codes "value") (integer (pos 1)) no_members)))
    no_items) ≡ of_first field.Kind
has_two_kinds = refl

is_negative : symbols_alone (item (named (codes "a") (at_key (codes "value") (integer (negsuc 0)) no_members)) no_items) ≡ of_first field.Value
is_negative = refl

is_no_entry : symbols_alone (item (table (at_key (codes "end") (string (codes "x")) (at_key (codes "name") (string (codes "a")) no_members))) no_items)
    ≡ of_first field.End
is_no_entry = refl

is_no_region : symbols_alone (item (from_entry (codes "a") (codes "region_end") (codes "x")) no_items) ≡ of_first field.RegionEnd
is_no_region = refl

has_another_key : symbols_alone (item (named (codes "a") (at_key (codes "value") (integer (pos 1)) (at_key (codes "x") (integer (pos 1)) no_members)))
    no_items) ≡ of_first field.Extra
has_another_key = refl

named_twice : symbols_alone (item (named (codes "a") (at_key (codes "value") (integer (pos 1)) no_members))
    (item (named (codes "a") (at_key (codes "value") (integer (pos 2)) no_members)) no_items))
    ≡ Err (Shape (Some (at.Symbol 1)) field.Name)
named_twice = refl

-- an error in a region goes before one in a symbol, and one in `keep` before both
region_before_symbol : plan_of_document (at_key (codes "region") (one (table no_members)) (at_key (codes "symbol") (one (table no_members)) no_members))
    ≡ Err (Shape (Some (at.Region 0)) field.Name)
region_before_symbol = refl

keep_first : plan_of_document (at_key (codes "keep") (one (integer (pos 1))) (at_key (codes "region") (one (table no_members)) no_members))
    ≡ Err (Shape None field.Keep)
keep_first = refl

keeps_twice : plan_of_document (at_key (codes "keep") (array (texts (codes "v" ∷ codes "v" ∷ []))) no_members) ≡ Err (Shape None field.Keep)
keeps_twice = refl

keeps_names : plan_of_document (at_key (codes "keep") (array (texts (codes "v" ∷ codes "*" ∷ []))) no_members)
    ≡ Ok (record { regions = []; symbols = []; keep = codes "v" ∷ codes "*" ∷ [] })
keeps_names = refl
