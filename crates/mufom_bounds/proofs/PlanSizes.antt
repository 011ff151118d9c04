-- The plan of a text has no more regions than the text has bytes, and the names of its regions and of its symbols are no longer.
use Rattle.std.proofs.Common.{◌≡◌, ℕ, ◌+◌, ◌^◌, ◌<◌, ◌≤◌, Bool, true, false, not, nat_lt, ◌||◌, List, [], ◌∷◌, ◌++◌, length, Option, Some, None}
use Rattle.std.proofs.Common.{Result, Ok, Err, IfSome, refl, ap, arith, ltb-false, Ordering, Less, Equal, Greater}
use Rattle.std.specs.Prelude.{◌==◌, if◌then◌else◌, option_and_then, codes}
use Rattle.std.specs.Ordering.{nat_cmp, match_ordering}
use Rattle.std.specs.Cmp.Lexicographic.{slice_cmp}
use Rattle.std.specs.Str.Lossy.{utf8_valid_len}
use Rattle.std.proofs.lemmas.List.Sums.{sum_by-cons}
use Rattle.toml.specs.Data.{Data, string, integer, float, boolean, datetime, array, table, Items, no_items, item, Members, no_members, member}
use Rattle.toml.specs.Data.{as_table, get_member}
use Rattle.toml.specs.Parse.{parse_document}
use Rattle.mufom_module.specs.Made.{IsNumber}
use Rattle.mufom_plan.specs.declared.plan.Plan.{Plan}
use Rattle.mufom_plan.specs.declared.plan.PlanSymbol.{PlanSymbol}
use Rattle.mufom_plan.specs.declared.plan.Region.{Region}
use Rattle.mufom_plan.specs.declared.refusal.PlanField.{PlanField}
use Rattle.mufom_plan.specs.declared.refusal.PlanField.TheVariants as field
use Rattle.mufom_plan.specs.declared.refusal.PlanTable.TheVariants as at
use Rattle.mufom_plan.specs.declared.refusal.PlanRefusal.{PlanRefusal}
use Rattle.mufom_plan.specs.declared.refusal.PlanRefusal.TheVariants.{Beyond, Shape, Syntax, TooLong}
use Rattle.mufom_plan.specs.Commons.{has_common}
use Rattle.mufom_plan.specs.Document.{document_of, has_only_keys, list_of, text_at}
use Rattle.mufom_plan.specs.Loads.{first_wrong_load}
use Rattle.mufom_plan.specs.Names.{has_name, listed_names, region_names, symbol_names}
use Rattle.mufom_plan.specs.PlanText.{◌>>=◌, after_symbols, are_tables, in_prefix, kept_names, kinds_in, new_name, of_symbol, or_refuse, plan_keys}
use Rattle.mufom_plan.specs.PlanText.{plan_of_document, plan_of_text, region_of, region_with, regions_of, symbol_keys, symbol_of, symbols_of}
use Rattle.mufom_plan.specs.PlanText.{tables_at, unless, value_of, with_loads}
use Rattle.mufom_plan.specs.Symbols.{names_size}
use Rattle.mufom_planned.specs.PlanLaws.{regions_size}
use Rattle.mufom_bounds.specs.PlanBounds.{IsWithin}
use Rattle.mufom_bounds.proofs.TomlSizes.{counted, document-size, items_size, members_size, size}

-- ---- steps

pub bound : {A B : Type 0} (r : Result A PlanRefusal) (f : A → Result B PlanRefusal) (y : B) → r >>= f ≡ Ok y → (x : A) × (r ≡ Ok x) × (f x ≡ Ok y)
bound (Ok x) f y is = (x, refl, is)
bound (Err refusal) f y is = absurd cc

pub passed : {A : Type 0} (test : Bool) (refusal : PlanRefusal) (r : Result A PlanRefusal) (y : A) → unless test refusal r ≡ Ok y → r ≡ Ok y
passed true refusal r y is = is
passed false refusal r y is = absurd cc

pub found : {A : Type 0} (refusal : PlanRefusal) (o : Option A) (x : A) → or_refuse refusal o ≡ Ok x → o ≡ Some x
found refusal (Some x) y is = cc
found refusal None y is = absurd cc

pub same-ok : {A : Type 0} (x y : A) → ◌≡◌ {A = Result A PlanRefusal} (Ok x) (Ok y) → x ≡ y
same-ok x y e = cc

-- ---- what tables hold

get-size : (k : List ℕ) (ms : Members) (d : Data) → get_member k ms ≡ Some d → size d ≤ members_size ms
get-size k no_members d there = absurd cc
get-size k (member l e ms) d there = by (slice_cmp nat_cmp k l) there (get-size k ms d) where
  by : (o : Ordering) → match_ordering o (get_member k ms) (Some e) (get_member k ms) ≡ Some d → (get_member k ms ≡ Some d → size d ≤ members_size ms)
      → size d ≤ size e + members_size ms
  by Less is later = let rest = later is in omega (arith, rest)
  by Equal is later = let same : e ≡ d = cc in let equal : size e ≡ size d = ap (λ (x : Data). size x) same in omega (arith, equal)
  by Greater is later = let rest = later is in omega (arith, rest)

-- a value at a key is no larger than the table
at-key : (k : List ℕ) (ms : Members) → IfSome (get_member k ms) (λ d. size d ≤ members_size ms)
at-key k ms = by (get_member k ms) refl where
  by : (o : Option Data) → get_member k ms ≡ o → IfSome o (λ d. size d ≤ members_size ms)
  by None is = tt
  by (Some d) is = get-size k ms d is

abbrev list_size : List Data → ℕ
list_size [] = 0
list_size (d ∷ ds) = (counted d + size d) + list_size ds

list-same : (ds : Items) → list_size (list_of ds) ≡ items_size ds
list-same no_items = refl
list-same (item d ds) = let later = list-same ds in omega (arith, later)

tables-size : (key : PlanField) (o : Option Data) (n : ℕ) (values : List Data) → IfSome o (λ d. size d ≤ n) → tables_at key o ≡ Ok values → list_size values ≤ n
tables-size key None n values few is =
    let same : [] ≡ values = same-ok [] values is in
    let equal : 0 ≡ list_size values = ap (λ (l : List Data). list_size l) same in
    omega (arith, equal)
tables-size key (Some (array ds)) n values few is = by (are_tables (list_of ds)) is where
  by : (test : Bool) → unless test (Shape None key) (Ok (list_of ds)) ≡ Ok values → list_size values ≤ n
  by test is =
      let same : list_of ds ≡ values = same-ok (list_of ds) values (passed test (Shape None key) (Ok (list_of ds)) values is) in
      let equal : list_size (list_of ds) ≡ list_size values = ap (λ (l : List Data). list_size l) same in
      let all = list-same ds in
      omega (arith, equal, all, few)
tables-size key (Some (string s)) n values few is = absurd cc
tables-size key (Some (integer z)) n values few is = absurd cc
tables-size key (Some (float x)) n values few is = absurd cc
tables-size key (Some (boolean b)) n values few is = absurd cc
tables-size key (Some (datetime dt)) n values few is = absurd cc
tables-size key (Some (table ms)) n values few is = absurd cc

-- a table counts as 1, with what it holds
table-size : (value : Data) (ms : Members) → as_table value ≡ Some ms → counted value + size value ≡ 1 + members_size ms
table-size (table own) ms is =
    let same : own ≡ ms = cc in
    let equal : members_size own ≡ members_size ms = ap (λ (m : Members). members_size m) same in
    omega (arith, equal)
table-size (string s) ms is = absurd cc
table-size (integer z) ms is = absurd cc
table-size (float x) ms is = absurd cc
table-size (boolean b) ms is = absurd cc
table-size (datetime dt) ms is = absurd cc
table-size (array ds) ms is = absurd cc

-- ---- names

-- a name that is new is the text
pub new-same : (names : List (List ℕ)) (text name : List ℕ) → new_name names text ≡ Some name → text ≡ name
new-same names text name is = by ((length text == 0) || has_name names text) is where
  by : (b : Bool) → (if b then None else Some text) ≡ Some name → text ≡ name
  by true is = absurd cc
  by false is = cc

-- the text at a key is no longer than the table
text-short : (names : List (List ℕ)) (o : Option Data) (n : ℕ) (name : List ℕ) → IfSome o (λ d. size d ≤ n)
    → option_and_then (new_name names) (text_at o) ≡ Some name → length name ≤ n
text-short names None n name few is = absurd cc
text-short names (Some (string s)) n name few is =
    let equal : length s ≡ length name = ap (λ (l : List ℕ). length l) (new-same names s name is) in omega (arith, few, equal)
text-short names (Some (integer z)) n name few is = absurd cc
text-short names (Some (float x)) n name few is = absurd cc
text-short names (Some (boolean b)) n name few is = absurd cc
text-short names (Some (datetime dt)) n name few is = absurd cc
text-short names (Some (array ds)) n name few is = absurd cc
text-short names (Some (table ms)) n name few is = absurd cc

-- ---- regions

-- of a region with parts: its name is the one that was found, and its end is a number
pub region-parts : (place : ℕ) (has_keys : Bool) (name : Option (List ℕ)) (base size : Option ℕ) (sections : Option (List (List ℕ)))
    (common : Option Bool) (load : Option (Option (List ℕ))) (region : Region)
    → region_with place has_keys name base size sections common load ≡ Ok region
    → (name ≡ Some region.name) × IsNumber (region.base + region.size)
region-parts place false name base size sections common load region is = absurd cc
region-parts place true None base size sections common load region is = absurd cc
region-parts place true (Some name) None size sections common load region is = absurd cc
region-parts place true (Some name) (Some base) None sections common load region is = absurd cc
region-parts place true (Some name) (Some base) (Some size) None common load region is = absurd cc
region-parts place true (Some name) (Some base) (Some size) (Some sections) None load region is = absurd cc
region-parts place true (Some name) (Some base) (Some size) (Some sections) (Some common) None region is = absurd cc
region-parts place true (Some name) (Some base) (Some size) (Some sections) (Some common) (Some load) region is =
    by (nat_lt 9223372036854775807 (base + size)) refl is where
      own : Region
      own = record { name = name; base = base; size = size; sections = sections; common = common; load = load }

      by : (past : Bool) → nat_lt 9223372036854775807 (base + size) ≡ past → (if past then Err (Beyond place) else Ok own) ≡ Ok region
          → (Some name ≡ Some region.name) × IsNumber (region.base + region.size)
      by true past is = absurd cc
      by false past is =
          let same : own ≡ region = same-ok own region is in
          let ends : base + size ≡ region.base + region.size = ap (λ (r : Region). r.base + r.size) same in
          let low = ltb-false 9223372036854775807 (base + size) past in
          (ap (λ (r : Region). Some r.name) same, (let below : region.base + region.size < 2 ^ 64 = omega (arith, ends, low) in below))

region-short : (place : ℕ) (names listed : List (List ℕ)) (earlier : Bool) (ms : Members) (region : Region)
    → region_of place names listed earlier ms ≡ Ok region → length region.name ≤ members_size ms
region-short place names listed earlier ms region is =
    let named = region-parts place _ _ _ _ _ _ _ region is in
    text-short names (get_member (codes "name") ms) (members_size ms) region.name (at-key (codes "name") ms) named.0

regions-short : (before : List Region) (values : List Data) (regions : List Region) → regions_of before values ≡ Ok regions
    → regions_size regions ≤ list_size values
regions-short before [] regions is =
    let same : [] ≡ regions = same-ok [] regions is in
    let equal : 0 ≡ regions_size regions = ap (λ (l : List Region). regions_size l) same in
    omega (arith, equal)
regions-short before (value ∷ more) regions is = by is (λ region. regions-short (before ++ region ∷ []) more) where
  by : or_refuse (Shape None field.Region) (as_table value) >>= (λ ms. region_of (length before) (region_names before) (listed_names before)
      (has_common before) ms >>= (λ region. in_prefix (region ∷ []) (regions_of (before ++ region ∷ []) more))) ≡ Ok regions
      → ((region : Region) (rest : List Region) → regions_of (before ++ region ∷ []) more ≡ Ok rest → regions_size rest ≤ list_size more)
      → regions_size regions ≤ (counted value + size value) + list_size more
  by is later =
      let (ms, e, is_region) = bound (or_refuse (Shape None field.Region) (as_table value)) (λ ms. region_of (length before) (region_names before)
      (listed_names before) (has_common before) ms >>= (λ region. in_prefix (region ∷ []) (regions_of (before ++ region ∷ []) more))) regions is in
      let (region, f, is_rest) = bound (region_of (length before) (region_names before) (listed_names before) (has_common before) ms)
      (λ region. in_prefix (region ∷ []) (regions_of (before ++ region ∷ []) more)) regions is_region in
      let (rest, g, is_all) = bound (regions_of (before ++ region ∷ []) more) (λ r. Ok ((region ∷ []) ++ r)) regions is_rest in
      let few = later region rest g in
      let own = table-size value ms (found (Shape None field.Region) (as_table value) ms e) in
      let short = region-short (length before) (region_names before) (listed_names before) (has_common before) ms region f in
      let same : region ∷ rest ≡ regions = same-ok (region ∷ rest) regions is_all in
      let equal : regions_size (region ∷ rest) ≡ regions_size regions = ap (λ (l : List Region). regions_size l) same in
      let sum = sum_by-cons (λ (r : Region). length r.name + 1) region rest in
      omega (arith, few, own, short, equal, sum)

-- each name counts at least 1
regions-few : (regions : List Region) → length regions ≤ regions_size regions
regions-few [] = omega arith
regions-few (region ∷ regions) =
    let rest = regions-few regions in let sum = sum_by-cons (λ (r : Region). length r.name + 1) region regions in omega (arith, rest, sum)

-- ---- symbols

symbol-short : (place : ℕ) (names entries regions : List (List ℕ)) (ms : Members) (symbol : PlanSymbol) → symbol_of place names entries regions ms ≡ Ok symbol
    → length symbol.name ≤ members_size ms
symbol-short place names entries regions ms symbol is =
    let is_named = passed (has_only_keys symbol_keys ms) (Shape (Some (at.Symbol place)) field.Extra)
    (of_symbol place field.Name (option_and_then (new_name names) (text_at (get_member (codes "name") ms))) >>= (λ name.
    unless (kinds_in ms == 1) (Shape (Some (at.Symbol place)) field.Kind)
    (value_of place entries regions ms >>= (λ value. Ok (record { name = name; value = value })))))
    symbol is in
    let (name, e, is_kind) = bound (of_symbol place field.Name (option_and_then (new_name names) (text_at (get_member (codes "name") ms)))) (λ name.
    unless (kinds_in ms == 1) (Shape (Some (at.Symbol place)) field.Kind)
    (value_of place entries regions ms >>= (λ value. Ok (record { name = name; value = value }))))
    symbol is_named in
    let is_value = passed (kinds_in ms == 1) (Shape (Some (at.Symbol place)) field.Kind)
    (value_of place entries regions ms >>= (λ value. Ok (record { name = name; value = value }))) symbol is_kind in
    let (value, f, is_whole) = bound (value_of place entries regions ms) (λ value. Ok (record { name = name; value = value })) symbol is_value in
    let same : name ≡ symbol.name = ap (λ (s : PlanSymbol). s.name) (same-ok (record { name = name; value = value }) symbol is_whole) in
    let equal : length name ≡ length symbol.name = ap (λ (l : List ℕ). length l) same in
    let short = text-short names (get_member (codes "name") ms) (members_size ms) name (at-key (codes "name") ms)
    (found (Shape (Some (at.Symbol place)) field.Name) (option_and_then (new_name names) (text_at (get_member (codes "name") ms))) name e) in
    omega (arith, equal, short)

symbols-short : (entries regions : List (List ℕ)) (before : List PlanSymbol) (values : List Data) (symbols : List PlanSymbol)
    → symbols_of entries regions before values ≡ Ok symbols → names_size symbols ≤ list_size values
symbols-short entries regions before [] symbols is =
    let same : [] ≡ symbols = same-ok [] symbols is in
    let equal : 0 ≡ names_size symbols = ap (λ (l : List PlanSymbol). names_size l) same in
    omega (arith, equal)
symbols-short entries regions before (value ∷ more) symbols is = by is (λ symbol. symbols-short entries regions (before ++ symbol ∷ []) more) where
  by : or_refuse (Shape None field.Symbol) (as_table value) >>= (λ ms. symbol_of (length before) (symbol_names before) entries regions ms
      >>= (λ symbol. after_symbols (symbol ∷ []) (symbols_of entries regions (before ++ symbol ∷ []) more))) ≡ Ok symbols
      → ((symbol : PlanSymbol) (rest : List PlanSymbol) → symbols_of entries regions (before ++ symbol ∷ []) more ≡ Ok rest → names_size rest ≤ list_size more)
      → names_size symbols ≤ (counted value + size value) + list_size more
  by is later =
      let (ms, e, is_symbol) = bound (or_refuse (Shape None field.Symbol) (as_table value)) (λ ms. symbol_of (length before) (symbol_names before)
      entries regions ms >>= (λ symbol. after_symbols (symbol ∷ []) (symbols_of entries regions (before ++ symbol ∷ []) more))) symbols is in
      let (symbol, f, is_rest) = bound (symbol_of (length before) (symbol_names before) entries regions ms)
      (λ symbol. after_symbols (symbol ∷ []) (symbols_of entries regions (before ++ symbol ∷ []) more)) symbols is_symbol in
      let (rest, g, is_all) = bound (symbols_of entries regions (before ++ symbol ∷ []) more) (λ s. Ok ((symbol ∷ []) ++ s)) symbols is_rest in
      let few = later symbol rest g in
      let own = table-size value ms (found (Shape None field.Symbol) (as_table value) ms e) in
      let short = symbol-short (length before) (symbol_names before) entries regions ms symbol f in
      let same : symbol ∷ rest ≡ symbols = same-ok (symbol ∷ rest) symbols is_all in
      let equal : names_size (symbol ∷ rest) ≡ names_size symbols = ap (λ (l : List PlanSymbol). names_size l) same in
      let sum = sum_by-cons (λ (s : PlanSymbol). length s.name + 1) symbol rest in
      omega (arith, few, own, short, equal, sum)

-- ---- plans

module _ (document : Members) where
  abbrev pub whole : List (List ℕ) → List Region → List PlanSymbol → Result Plan PlanRefusal
  whole keep regions symbols = Ok (record { regions = regions; symbols = symbols; keep = keep })

  abbrev pub of_regions : List Data → List (List ℕ) → List Region → Result Plan PlanRefusal
  of_regions values keep regions = symbols_of (listed_names regions) (region_names regions) [] values >>= (λ symbols. whole keep regions symbols)

  abbrev pub of_read : List Data → List (List ℕ) → List Region → Result Plan PlanRefusal
  of_read values keep read = with_loads (first_wrong_load read) read >>= (λ regions. of_regions values keep regions)

  abbrev pub of_keep : List Data → List Data → List (List ℕ) → Result Plan PlanRefusal
  of_keep values others keep = regions_of [] values >>= (λ read. of_read others keep read)

  abbrev pub of_symbols : List Data → List Data → Result Plan PlanRefusal
  of_symbols values others = or_refuse (Shape None field.Keep) (kept_names (get_member (codes "keep") document)) >>= (λ keep. of_keep values others keep)

  abbrev pub of_items : List Data → Result Plan PlanRefusal
  of_items values = tables_at field.Symbol (get_member (codes "symbol") document) >>= (λ others. of_symbols values others)

  pub loaded-same : (wrong : Option ℕ) (read regions : List Region) → with_loads wrong read ≡ Ok regions → read ≡ regions
  loaded-same None read regions is = same-ok read regions is
  loaded-same (Some place) read regions is = absurd cc

  plan-within : (plan : Plan) → plan_of_document document ≡ Ok plan → IsWithin (members_size document) plan
  plan-within plan is =
      let is_items = passed (has_only_keys plan_keys document) (Shape None field.Extra)
      (tables_at field.Region (get_member (codes "region") document) >>= (λ values. of_items values)) plan is in
      let (values, a, is_symbols) = bound (tables_at field.Region (get_member (codes "region") document)) (λ values. of_items values) plan is_items in
      let (others, b, is_keep) = bound (tables_at field.Symbol (get_member (codes "symbol") document)) (λ others. of_symbols values others) plan is_symbols in
      let (keep, c, is_read) = bound (or_refuse (Shape None field.Keep) (kept_names (get_member (codes "keep") document))) (λ keep. of_keep values others keep)
      plan is_keep in
      let (read, d, is_loaded) = bound (regions_of [] values) (λ read. of_read others keep read) plan is_read in
      let (regions, e, is_named) = bound (with_loads (first_wrong_load read) read) (λ regions. of_regions others keep regions) plan is_loaded in
      let (symbols, f, is_whole) = bound (symbols_of (listed_names regions) (region_names regions) [] others) (λ symbols. whole keep regions symbols)
      plan is_named in
      let same : record { regions = regions; symbols = symbols; keep = keep } ≡ plan
      = same-ok (record { regions = regions; symbols = symbols; keep = keep }) plan is_whole in
      let first : length regions ≡ length plan.regions = ap (λ (p : Plan). length p.regions) same in
      let second : names_size symbols ≡ names_size plan.symbols = ap (λ (p : Plan). names_size p.symbols) same in
      let names : regions_size regions ≡ regions_size plan.regions = ap (λ (p : Plan). regions_size p.regions) same in
      let loaded : regions_size read ≡ regions_size regions
      = ap (λ (l : List Region). regions_size l) (loaded-same (first_wrong_load read) read regions e) in
      let few = regions-few regions in
      let all_short = regions-short [] values read d in
      let short = symbols-short (listed_names regions) (region_names regions) [] others symbols f in
      let all = tables-size field.Region (get_member (codes "region") document) (members_size document) values (at-key (codes "region") document) a in
      let rest = tables-size field.Symbol (get_member (codes "symbol") document) (members_size document) others (at-key (codes "symbol") document) b in
      record {
        regions = omega (arith, first, loaded, few, all_short, all);
        region_names = omega (arith, names, loaded, all_short, all);
        names = omega (arith, second, short, rest);
      }

-- the plan of a text
pub text-within : (bytes : List ℕ) (plan : Plan) → plan_of_text bytes ≡ Ok plan → IsWithin 65536 plan
text-within bytes plan is = by_length (nat_lt 65536 (length bytes)) refl is where
  of_document : (o : Option Members) → length bytes ≤ 65536 → IfSome o (λ ms. members_size ms ≤ length bytes)
      → or_refuse Syntax o >>= plan_of_document ≡ Ok plan → IsWithin 65536 plan
  of_document None few fits is = absurd cc
  of_document (Some ms) few fits is =
      let within = plan-within ms plan is in
      let regions = within.regions in
      let region_names = within.region_names in
      let names = within.names in
      record {
        regions = omega (arith, regions, fits, few);
        region_names = omega (arith, region_names, fits, few);
        names = omega (arith, names, fits, few);
      }

  parsed : (o : Option Members) → parse_document bytes ≡ o → IfSome o (λ ms. members_size ms ≤ length bytes)
  parsed None e = tt
  parsed (Some ms) e = document-size bytes ms e

  spelled : (b : Bool) → IfSome (if b then parse_document bytes else None) (λ ms. members_size ms ≤ length bytes)
  spelled true = parsed (parse_document bytes) refl
  spelled false = tt

  by_length : (long : Bool) → nat_lt 65536 (length bytes) ≡ long
      → unless (not long) TooLong (or_refuse Syntax (document_of bytes) >>= plan_of_document) ≡ Ok plan → IsWithin 65536 plan
  by_length true long is = absurd cc
  by_length false short is =
      of_document (document_of bytes) (ltb-false 65536 (length bytes) short) (spelled (utf8_valid_len bytes == length bytes)) is
