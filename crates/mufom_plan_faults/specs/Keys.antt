-- The keys that a table of a plan may not have.
use Rattle.std.specs.Prelude.{ℕ, List, [], ◌∷◌, find, not, Option, Some, None, option_and_then, slice_get, codes}
use Rattle.toml.specs.Data.{Data, as_table, get_member, Members, no_members, member}
use Rattle.mufom_plan.specs.declared.refusal.PlanTable.{PlanTable}
use Rattle.mufom_plan.specs.declared.refusal.PlanTable.TheVariants as at
use Rattle.mufom_plan.specs.Document.{document_of, items_at}
use Rattle.mufom_plan.specs.Names.{has_name}
use Rattle.mufom_plan.specs.PlanText.{plan_keys, region_keys, symbol_keys}

-- the keys of a table, in its order, which is that of their bytes
abbrev pub keys_in : Members → List (List ℕ)
keys_in no_members = []
keys_in (member key value more) = key ∷ keys_in more

-- the first key of a table that is none of these
abbrev pub first_other : List (List ℕ) → Members → Option (List ℕ)
first_other allowed table = find (λ key. not (has_name allowed key)) (keys_in table)

-- the keys that a table of a plan may have: the document, a region or a symbol
abbrev pub keys_for : Option PlanTable → List (List ℕ)
keys_for None = plan_keys
keys_for (Some (at.Region n)) = region_keys
keys_for (Some (at.Symbol n)) = symbol_keys

-- the table at a position of an array
abbrev pub table_among : ℕ → Option Data → Option Members
table_among n value = option_and_then as_table (option_and_then (λ items. slice_get items n) (items_at value))

-- a table of a document: the document itself, a region or a symbol
abbrev pub table_at : Members → Option PlanTable → Option Members
table_at document None = Some document
table_at document (Some (at.Region n)) = table_among n (get_member (codes "region") document)
table_at document (Some (at.Symbol n)) = table_among n (get_member (codes "symbol") document)

-- the first key of a table of the document that the table may not have
abbrev pub other_in : Option PlanTable → Members → Option (List ℕ)
other_in place document = option_and_then (first_other (keys_for place)) (table_at document place)

-- the first key that a table of the document of these bytes may not have
abbrev pub extra_key : List ℕ → Option PlanTable → Option (List ℕ)
extra_key text place = option_and_then (other_in place) (document_of text)
