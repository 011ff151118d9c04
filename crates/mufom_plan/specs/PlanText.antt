-- The plan that bytes state, or the first error in them.
use Rattle.std.specs.Prelude.{ℕ, ◌+◌, ◌==◌, List, [], ◌∷◌, ◌++◌, length, Option, Some, None, option_map, option_and_then, Result, Ok, Err, Bool, true}
use Rattle.std.specs.Prelude.{false, ◌&&◌, ◌||◌, not, nat_lt, is_some, filter, if◌then◌else◌, codes}
use Rattle.std.specs.List.{list_all}
use Rattle.toml.specs.Data.{Data, as_str, as_table, Members, get_member}
use Rattle.mufom_plan.specs.declared.plan.Region.{Region}
use Rattle.mufom_plan.specs.declared.plan.SymbolValue.{SymbolValue}
use Rattle.mufom_plan.specs.declared.plan.SymbolValue.TheVariants as values
use Rattle.mufom_plan.specs.declared.plan.PlanSymbol.{PlanSymbol}
use Rattle.mufom_plan.specs.declared.plan.Plan.{Plan}
use Rattle.mufom_plan.specs.declared.refusal.PlanField.{PlanField}
use Rattle.mufom_plan.specs.declared.refusal.PlanField.TheVariants as field
use Rattle.mufom_plan.specs.declared.refusal.PlanTable.TheVariants as at
use Rattle.mufom_plan.specs.declared.refusal.PlanRefusal.{PlanRefusal}
use Rattle.mufom_plan.specs.declared.refusal.PlanRefusal.TheVariants.{Syntax, Shape, Beyond, TooLong}
use Rattle.mufom_plan.specs.Loads.{first_wrong_load}
use Rattle.mufom_plan.specs.Names.{has_name, region_names, listed_names, symbol_names}
use Rattle.mufom_plan.specs.Commons.{has_common}
use Rattle.mufom_plan.specs.Document.{document_of, has_only_keys, items_at, number_at, text_at, truth_at}

-- passes the value to the next step, or returns the error
infixl 10 ◌>>=◌
abbrev pub ◌>>=◌ : {A B : Type 0} → Result A PlanRefusal → (A → Result B PlanRefusal) → Result B PlanRefusal
(Ok value) >>= f = f value
(Err refusal) >>= f = Err refusal

-- the value, or this error if there is none
abbrev pub or_refuse : {A : Type 0} → PlanRefusal → Option A → Result A PlanRefusal
or_refuse refusal (Some value) = Ok value
or_refuse refusal None = Err refusal

-- this error if the test fails
abbrev pub unless : {A : Type 0} → Bool → PlanRefusal → Result A PlanRefusal → Result A PlanRefusal
unless true refusal answer = answer
unless false refusal answer = Err refusal

-- the keys of a plan, of a region and of a symbol
abbrev pub plan_keys : List (List ℕ)
plan_keys = codes "region" ∷ codes "symbol" ∷ codes "keep" ∷ []

abbrev pub region_keys : List (List ℕ)
region_keys = codes "name" ∷ codes "base" ∷ codes "size" ∷ codes "sections" ∷ codes "common" ∷ codes "load" ∷ []

abbrev pub symbol_keys : List (List ℕ)
symbol_keys = codes "name" ∷ codes "value" ∷ codes "start" ∷ codes "end" ∷ codes "load" ∷ codes "region_end" ∷ []

-- the name, if it is not empty and is none of the earlier names
abbrev pub new_name : List (List ℕ) → List ℕ → Option (List ℕ)
new_name earlier name = if (length name == 0) || has_name earlier name then None else Some name

-- the name followed by more names, if it is none of the earlier names
abbrev pub before_names : List (List ℕ) → List ℕ → Option (List (List ℕ)) → Option (List (List ℕ))
before_names earlier name more = if has_name earlier name then None else option_map (λ names. name ∷ names) more

-- the texts of an array, if each item is a text and none equals an earlier name or an item before it
abbrev pub new_names : List (List ℕ) → List Data → Option (List (List ℕ))
new_names earlier [] = Some []
new_names earlier (value ∷ more) = option_and_then (λ name. before_names earlier name (new_names (earlier ++ name ∷ []) more)) (as_str value)

-- whether a region takes the commons, or None if an earlier region takes them too
abbrev pub new_common : Bool → Bool → Option Bool
new_common earlier common = if earlier && common then None else Some common

-- a text at a key that may be absent: None if its value is not a text
abbrev pub optional_text : Option Data → Option (Option (List ℕ))
optional_text None = Some None
optional_text (Some value) = option_map (λ text. Some text) (as_str value)

-- The region at a position of the plan, from what is in its table: whether the table has only the keys of a region; and the name,
-- the base, the size, the section names, whether it takes the commons, and the region into which it is loaded, each None if it does
-- not have the required shape.
abbrev pub region_with : ℕ → Bool → Option (List ℕ) → Option ℕ → Option ℕ → Option (List (List ℕ)) → Option Bool → Option (Option (List ℕ))
    → Result Region PlanRefusal
region_with place false name base size sections common load = Err (Shape (Some (at.Region place)) field.Extra)
region_with place true None base size sections common load = Err (Shape (Some (at.Region place)) field.Name)
region_with place true (Some name) None size sections common load = Err (Shape (Some (at.Region place)) field.Base)
region_with place true (Some name) (Some base) None sections common load = Err (Shape (Some (at.Region place)) field.Size)
region_with place true (Some name) (Some base) (Some size) None common load = Err (Shape (Some (at.Region place)) field.Sections)
region_with place true (Some name) (Some base) (Some size) (Some sections) None load = Err (Shape (Some (at.Region place)) field.Common)
region_with place true (Some name) (Some base) (Some size) (Some sections) (Some common) None = Err (Shape (Some (at.Region place)) field.Load)
region_with place true (Some name) (Some base) (Some size) (Some sections) (Some common) (Some load) =
    if nat_lt 9223372036854775807 (base + size) then Err (Beyond place)
    else Ok (record { name = name; base = base; size = size; sections = sections; common = common; load = load })

-- the region of a table at a position of the plan, given the names and the section names of the earlier regions and whether one of
-- them takes the commons
abbrev pub region_of : ℕ → List (List ℕ) → List (List ℕ) → Bool → Members → Result Region PlanRefusal
region_of place names listed earlier table =
    region_with place
    (has_only_keys region_keys table)
    (option_and_then (new_name names) (text_at (get_member (codes "name") table)))
    (number_at (get_member (codes "base") table))
    (number_at (get_member (codes "size") table))
    (option_and_then (new_names listed) (items_at (get_member (codes "sections") table)))
    (option_and_then (new_common earlier) (truth_at (get_member (codes "common") table)))
    (optional_text (get_member (codes "load") table))

-- the first regions followed by more regions, or the error of the latter
abbrev pub in_prefix : List Region → Result (List Region) PlanRefusal → Result (List Region) PlanRefusal
in_prefix first more = more >>= λ regions. Ok (first ++ regions)

-- the regions of an array of tables, after these regions of the plan
abbrev pub regions_of : List Region → List Data → Result (List Region) PlanRefusal
regions_of before [] = Ok []
regions_of before (value ∷ more) =
    or_refuse (Shape None field.Region) (as_table value) >>= λ table.
    region_of (length before) (region_names before) (listed_names before) (has_common before) table >>= λ region.
    in_prefix (region ∷ []) (regions_of (before ++ region ∷ []) more)

-- each value is a table
abbrev pub are_tables : List Data → Bool
are_tables values = list_all (λ value. is_some (as_table value)) values

-- the tables at a key of the document, if its value is an array of tables or absent
abbrev pub tables_at : PlanField → Option Data → Result (List Data) PlanRefusal
tables_at key None = Ok []
tables_at key (Some value) = or_refuse (Shape None key) (items_at (Some value)) >>= λ items. unless (are_tables items) (Shape None key) (Ok items)

-- the names of the sections that always stay: texts that are all different, or none if the key is absent
abbrev pub kept_names : Option Data → Option (List (List ℕ))
kept_names None = Some []
kept_names (Some value) = option_and_then (new_names []) (items_at (Some value))

-- the regions, if each is loaded where it is or into another region that is; or else the first that is not
abbrev pub with_loads : Option ℕ → List Region → Result (List Region) PlanRefusal
with_loads None regions = Ok regions
with_loads (Some place) regions = Err (Shape (Some (at.Region place)) field.Load)

-- the text of a value, if it is one of these names
abbrev pub known_name : List (List ℕ) → List ℕ → Option (List ℕ)
known_name names name = if has_name names name then Some name else None

abbrev pub known_text : List (List ℕ) → Option Data → Option (List ℕ)
known_text names value = option_and_then (known_name names) (text_at value)

-- a value of this key of the symbol at a position, or its error if there is none
abbrev pub of_symbol : {A : Type 0} → ℕ → PlanField → Option A → Result A PlanRefusal
of_symbol place key value = or_refuse (Shape (Some (at.Symbol place)) key) value

-- what the value of a symbol is, from the values at its five keys, of which one is given, over the entries and the names of the
-- regions
abbrev pub value_with : ℕ → List (List ℕ) → List (List ℕ) → Option Data → Option Data → Option Data → Option Data → Option Data
    → Result SymbolValue PlanRefusal
value_with place entries regions (Some number) start end load region = of_symbol place field.Value (option_map values.Value (number_at (Some number)))
value_with place entries regions None (Some entry) end load region =
    of_symbol place field.Start (option_map values.Start (known_text entries (Some entry)))
value_with place entries regions None None (Some entry) load region = of_symbol place field.End (option_map values.End (known_text entries (Some entry)))
value_with place entries regions None None None (Some entry) region = of_symbol place field.Load (option_map values.Load (known_text entries (Some entry)))
value_with place entries regions None None None None region =
    of_symbol place field.RegionEnd (option_map values.RegionEnd (known_text regions region))

-- the keys of a symbol that say what its value is, and how many of them a table has
abbrev pub kind_keys : List (List ℕ)
kind_keys = codes "value" ∷ codes "start" ∷ codes "end" ∷ codes "load" ∷ codes "region_end" ∷ []

abbrev pub kinds_in : Members → ℕ
kinds_in table = length (filter (λ key. is_some (get_member key table)) kind_keys)

-- what the value of a symbol is, from its table
abbrev pub value_of : ℕ → List (List ℕ) → List (List ℕ) → Members → Result SymbolValue PlanRefusal
value_of place entries regions table =
    value_with place entries regions
    (get_member (codes "value") table)
    (get_member (codes "start") table)
    (get_member (codes "end") table)
    (get_member (codes "load") table)
    (get_member (codes "region_end") table)

-- the symbol of a table at a position of the plan, given the names of the earlier symbols, and the entries and names of the regions
abbrev pub symbol_of : ℕ → List (List ℕ) → List (List ℕ) → List (List ℕ) → Members → Result PlanSymbol PlanRefusal
symbol_of place names entries regions table =
    unless (has_only_keys symbol_keys table) (Shape (Some (at.Symbol place)) field.Extra) (
    of_symbol place field.Name (option_and_then (new_name names) (text_at (get_member (codes "name") table))) >>= λ name.
    unless (kinds_in table == 1) (Shape (Some (at.Symbol place)) field.Kind) (
    value_of place entries regions table >>= λ value. Ok (record { name = name; value = value })))

-- the first symbols followed by more symbols, or the error of the latter
abbrev pub after_symbols : List PlanSymbol → Result (List PlanSymbol) PlanRefusal → Result (List PlanSymbol) PlanRefusal
after_symbols first more = more >>= λ symbols. Ok (first ++ symbols)

-- the symbols of an array of tables, after these symbols of the plan, given the entries and names of the regions
abbrev pub symbols_of : List (List ℕ) → List (List ℕ) → List PlanSymbol → List Data → Result (List PlanSymbol) PlanRefusal
symbols_of entries regions before [] = Ok []
symbols_of entries regions before (value ∷ more) =
    or_refuse (Shape None field.Symbol) (as_table value) >>= λ table.
    symbol_of (length before) (symbol_names before) entries regions table >>= λ symbol.
    after_symbols (symbol ∷ []) (symbols_of entries regions (before ++ symbol ∷ []) more)

-- the plan of a document: first the kinds of its three keys, then the regions, their loads, and the symbols
abbrev pub plan_of_document : Members → Result Plan PlanRefusal
plan_of_document document =
    unless (has_only_keys plan_keys document) (Shape None field.Extra) (
    tables_at field.Region (get_member (codes "region") document) >>= λ region_items.
    tables_at field.Symbol (get_member (codes "symbol") document) >>= λ symbol_items.
    or_refuse (Shape None field.Keep) (kept_names (get_member (codes "keep") document)) >>= λ keep.
    regions_of [] region_items >>= λ read.
    with_loads (first_wrong_load read) read >>= λ regions.
    symbols_of (listed_names regions) (region_names regions) [] symbol_items >>= λ symbols.
    Ok (record { regions = regions; symbols = symbols; keep = keep }))

-- the plan of bytes, of which there are at most 65,536
abbrev pub plan_of_text : List ℕ → Result Plan PlanRefusal
plan_of_text bytes = unless (not (nat_lt 65536 (length bytes))) TooLong (or_refuse Syntax (document_of bytes) >>= plan_of_document)
