-- The names of the symbols and of the regions of a plan consist of bytes, if the text of the plan does, and the ends of its regions are numbers.
use Rattle.std.proofs.Common.{◌≡◌, ℕ, Bool, true, false, not, nat_lt, List, [], ◌∷◌, ◌++◌, length, Option, Some, None, ap, subst, refl}
use Rattle.std.proofs.Common.{Ok, IfSome, Ordering, Less, Equal, Greater}
use Rattle.std.specs.Prelude.{◌==◌, if◌then◌else◌, option_and_then, codes}
use Rattle.std.specs.List.{AllByRecursion}
use Rattle.std.specs.Ordering.{nat_cmp, match_ordering}
use Rattle.std.specs.Cmp.Lexicographic.{slice_cmp}
use Rattle.std.specs.Str.Lossy.{utf8_valid_len}
use Rattle.mufom_numbers.specs.Spelling.{AreBytes}
use Rattle.toml.specs.Data.{Data, string, integer, float, boolean, datetime, array, table, Items, no_items, item, Members, no_members, member}
use Rattle.toml.specs.Data.{as_table, get_member}
use Rattle.toml.specs.Parse.{parse_document}
use Rattle.mufom_plan.specs.declared.plan.Plan.{Plan}
use Rattle.mufom_plan.specs.declared.plan.PlanSymbol.{PlanSymbol}
use Rattle.mufom_plan.specs.declared.plan.Region.{Region}
use Rattle.mufom_plan.specs.declared.refusal.PlanField.{PlanField}
use Rattle.mufom_plan.specs.declared.refusal.PlanField.TheVariants as field
use Rattle.mufom_plan.specs.declared.refusal.PlanTable.TheVariants as at
use Rattle.mufom_plan.specs.declared.refusal.PlanRefusal.TheVariants.{Shape, Syntax, TooLong}
use Rattle.mufom_plan.specs.Commons.{has_common}
use Rattle.mufom_plan.specs.Document.{document_of, has_only_keys, list_of, text_at}
use Rattle.mufom_plan.specs.Loads.{first_wrong_load}
use Rattle.mufom_plan.specs.Names.{listed_names, region_names, symbol_names}
use Rattle.mufom_plan.specs.PlanText.{◌>>=◌, after_symbols, are_tables, in_prefix, kept_names, kinds_in, new_name, of_symbol, or_refuse, plan_keys}
use Rattle.mufom_plan.specs.PlanText.{plan_of_document, plan_of_text, region_of, regions_of, symbol_keys, symbol_of, symbols_of, tables_at}
use Rattle.mufom_plan.specs.PlanText.{unless, value_of, with_loads}
use Rattle.mufom_bounds.specs.PlanBounds.{HasByteName, IsBoundedPlan, IsBoundedRegion}
use Rattle.mufom_bounds.proofs.PlanSizes.{bound, found, loaded-same, new-same, of_items, of_keep, of_read, of_regions, of_symbols, passed}
use Rattle.mufom_bounds.proofs.PlanSizes.{region-parts, same-ok, whole}
use Rattle.mufom_bounds.proofs.TomlBytes.{HasBytes, ItemsHaveBytes, MembersHaveBytes, document-bytes}

-- ---- what tables hold

get-bytes : (k : List ℕ) (ms : Members) (d : Data) → MembersHaveBytes ms → get_member k ms ≡ Some d → HasBytes d
get-bytes k no_members d have there = absurd cc
get-bytes k (member l e ms) d have there = by (slice_cmp nat_cmp k l) there (get-bytes k ms d have.1) where
  by : (o : Ordering) → match_ordering o (get_member k ms) (Some e) (get_member k ms) ≡ Some d → (get_member k ms ≡ Some d → HasBytes d) → HasBytes d
  by Less is later = later is
  by Equal is later = let same : e ≡ d = cc in subst HasBytes same have.0
  by Greater is later = later is

at-key : (k : List ℕ) (ms : Members) → MembersHaveBytes ms → IfSome (get_member k ms) HasBytes
at-key k ms have = by (get_member k ms) refl where
  by : (o : Option Data) → get_member k ms ≡ o → IfSome o HasBytes
  by None is = tt
  by (Some d) is = get-bytes k ms d have is

list-bytes : (ds : Items) → ItemsHaveBytes ds → AllByRecursion HasBytes (list_of ds)
list-bytes no_items have = tt
list-bytes (item d ds) have = (have.0, list-bytes ds have.1)

tables-bytes : (key : PlanField) (o : Option Data) (values : List Data) → IfSome o HasBytes → tables_at key o ≡ Ok values → AllByRecursion HasBytes values
tables-bytes key None values has is = subst (AllByRecursion HasBytes) (same-ok [] values is) tt
tables-bytes key (Some (array ds)) values has is =
    let same = same-ok (list_of ds) values (passed (are_tables (list_of ds)) (Shape None key) (Ok (list_of ds)) values is) in
    subst (AllByRecursion HasBytes) same (list-bytes ds has)
tables-bytes key (Some (string s)) values has is = absurd cc
tables-bytes key (Some (integer z)) values has is = absurd cc
tables-bytes key (Some (float x)) values has is = absurd cc
tables-bytes key (Some (boolean b)) values has is = absurd cc
tables-bytes key (Some (datetime dt)) values has is = absurd cc
tables-bytes key (Some (table ms)) values has is = absurd cc

table-bytes : (value : Data) (ms : Members) → HasBytes value → as_table value ≡ Some ms → MembersHaveBytes ms
table-bytes (table own) ms has is = let same : own ≡ ms = cc in subst MembersHaveBytes same has
table-bytes (string s) ms has is = absurd cc
table-bytes (integer z) ms has is = absurd cc
table-bytes (float x) ms has is = absurd cc
table-bytes (boolean b) ms has is = absurd cc
table-bytes (datetime dt) ms has is = absurd cc
table-bytes (array ds) ms has is = absurd cc

text-bytes : (names : List (List ℕ)) (o : Option Data) (name : List ℕ) → IfSome o HasBytes → option_and_then (new_name names) (text_at o) ≡ Some name
    → AreBytes name
text-bytes names None name has is = absurd cc
text-bytes names (Some (string s)) name has is = subst AreBytes (new-same names s name is) has
text-bytes names (Some (integer z)) name has is = absurd cc
text-bytes names (Some (float x)) name has is = absurd cc
text-bytes names (Some (boolean b)) name has is = absurd cc
text-bytes names (Some (datetime dt)) name has is = absurd cc
text-bytes names (Some (array ds)) name has is = absurd cc
text-bytes names (Some (table ms)) name has is = absurd cc

-- ---- regions

region-bounded : (place : ℕ) (names listed : List (List ℕ)) (earlier : Bool) (ms : Members) (region : Region) → MembersHaveBytes ms
    → region_of place names listed earlier ms ≡ Ok region → IsBoundedRegion region
region-bounded place names listed earlier ms region have is =
    let parts = region-parts place _ _ _ _ _ _ _ region is in
    record { name = text-bytes names (get_member (codes "name") ms) region.name (at-key (codes "name") ms have) parts.0; ends = parts.1 }

regions-bounded : (before : List Region) (values : List Data) (regions : List Region) → AllByRecursion HasBytes values
    → regions_of before values ≡ Ok regions → AllByRecursion IsBoundedRegion regions
regions-bounded before [] regions have is = subst (AllByRecursion IsBoundedRegion) (same-ok [] regions is) tt
regions-bounded before (value ∷ more) regions have is =
    by is (λ region rest. regions-bounded (before ++ region ∷ []) more rest have.1) where
      by : or_refuse (Shape None field.Region) (as_table value) >>= (λ ms. region_of (length before) (region_names before) (listed_names before)
          (has_common before) ms >>= (λ region. in_prefix (region ∷ []) (regions_of (before ++ region ∷ []) more))) ≡ Ok regions
          → ((region : Region) (rest : List Region) → regions_of (before ++ region ∷ []) more ≡ Ok rest → AllByRecursion IsBoundedRegion rest)
          → AllByRecursion IsBoundedRegion regions
      by is later =
          let (ms, e, is_region) = bound (or_refuse (Shape None field.Region) (as_table value)) (λ ms. region_of (length before) (region_names before)
          (listed_names before) (has_common before) ms >>= (λ region. in_prefix (region ∷ []) (regions_of (before ++ region ∷ []) more))) regions is in
          let (region, f, is_rest) = bound (region_of (length before) (region_names before) (listed_names before) (has_common before) ms)
          (λ region. in_prefix (region ∷ []) (regions_of (before ++ region ∷ []) more)) regions is_region in
          let (rest, g, is_all) = bound (regions_of (before ++ region ∷ []) more) (λ r. Ok ((region ∷ []) ++ r)) regions is_rest in
          let own = table-bytes value ms have.0 (found (Shape None field.Region) (as_table value) ms e) in
          subst (AllByRecursion IsBoundedRegion) (same-ok (region ∷ rest) regions is_all)
          (region-bounded (length before) (region_names before) (listed_names before) (has_common before) ms region own f, later region rest g)

-- ---- symbols

symbol-named : (place : ℕ) (names entries regions : List (List ℕ)) (ms : Members) (symbol : PlanSymbol) → MembersHaveBytes ms
    → symbol_of place names entries regions ms ≡ Ok symbol → HasByteName symbol
symbol-named place names entries regions ms symbol have is =
    let is_named = passed (has_only_keys symbol_keys ms) (Shape (Some (at.Symbol place)) field.Extra)
    (of_symbol place field.Name (option_and_then (new_name names) (text_at (get_member (codes "name") ms))) >>= (λ name.
    unless (kinds_in ms == 1) (Shape (Some (at.Symbol place)) field.Kind)
    (value_of place entries regions ms >>= (λ value. Ok (record { name = name; value = value })))))
    symbol is in
    let (name, e, is_kind) = bound (of_symbol place field.Name (option_and_then (new_name names) (text_at (get_member (codes "name") ms)))) (λ name.
    unless (kinds_in ms == 1) (Shape (Some (at.Symbol place)) field.Kind)
    (value_of place entries regions ms >>= (λ value. Ok (record { name = name; value = value }))))
    symbol is_named in
    let is_value = passed (kinds_in ms == 1) (Shape (Some (at.Symbol place)) field.Kind)
    (value_of place entries regions ms >>= (λ value. Ok (record { name = name; value = value }))) symbol is_kind in
    let (value, f, is_whole) = bound (value_of place entries regions ms) (λ value. Ok (record { name = name; value = value })) symbol is_value in
    let same : name ≡ symbol.name = ap (λ (s : PlanSymbol). s.name) (same-ok (record { name = name; value = value }) symbol is_whole) in
    subst AreBytes same (text-bytes names (get_member (codes "name") ms) name (at-key (codes "name") ms have)
    (found (Shape (Some (at.Symbol place)) field.Name) (option_and_then (new_name names) (text_at (get_member (codes "name") ms))) name e))

symbols-named : (entries regions : List (List ℕ)) (before : List PlanSymbol) (values : List Data) (symbols : List PlanSymbol)
    → AllByRecursion HasBytes values → symbols_of entries regions before values ≡ Ok symbols → AllByRecursion HasByteName symbols
symbols-named entries regions before [] symbols have is = subst (AllByRecursion HasByteName) (same-ok [] symbols is) tt
symbols-named entries regions before (value ∷ more) symbols have is =
    by is (λ symbol rest. symbols-named entries regions (before ++ symbol ∷ []) more rest have.1) where
      by : or_refuse (Shape None field.Symbol) (as_table value) >>= (λ ms. symbol_of (length before) (symbol_names before) entries regions ms
          >>= (λ symbol. after_symbols (symbol ∷ []) (symbols_of entries regions (before ++ symbol ∷ []) more))) ≡ Ok symbols
          → ((symbol : PlanSymbol) (rest : List PlanSymbol) → symbols_of entries regions (before ++ symbol ∷ []) more ≡ Ok rest
          → AllByRecursion HasByteName rest)
          → AllByRecursion HasByteName symbols
      by is later =
          let (ms, e, is_symbol) = bound (or_refuse (Shape None field.Symbol) (as_table value)) (λ ms. symbol_of (length before) (symbol_names before)
          entries regions ms >>= (λ symbol. after_symbols (symbol ∷ []) (symbols_of entries regions (before ++ symbol ∷ []) more))) symbols is in
          let (symbol, f, is_rest) = bound (symbol_of (length before) (symbol_names before) entries regions ms)
          (λ symbol. after_symbols (symbol ∷ []) (symbols_of entries regions (before ++ symbol ∷ []) more)) symbols is_symbol in
          let (rest, g, is_all) = bound (symbols_of entries regions (before ++ symbol ∷ []) more) (λ s. Ok ((symbol ∷ []) ++ s)) symbols is_rest in
          let own = table-bytes value ms have.0 (found (Shape None field.Symbol) (as_table value) ms e) in
          subst (AllByRecursion HasByteName) (same-ok (symbol ∷ rest) symbols is_all)
          (symbol-named (length before) (symbol_names before) entries regions ms symbol own f, later symbol rest g)

-- ---- plans

document-bounded : (document : Members) (plan : Plan) → MembersHaveBytes document → plan_of_document document ≡ Ok plan
    → IsBoundedPlan plan
document-bounded document plan have is =
    let is_items = passed (has_only_keys plan_keys document) (Shape None field.Extra)
    (tables_at field.Region (get_member (codes "region") document) >>= (λ values. of_items document values)) plan is in
    let (values, a, is_symbols) = bound (tables_at field.Region (get_member (codes "region") document)) (λ values. of_items document values) plan is_items in
    let (others, b, is_keep) = bound (tables_at field.Symbol (get_member (codes "symbol") document)) (λ others. of_symbols document values others)
    plan is_symbols in
    let (keep, c, is_read) = bound (or_refuse (Shape None field.Keep) (kept_names (get_member (codes "keep") document)))
    (λ keep. of_keep document values others keep) plan is_keep in
    let (read, d, is_loaded) = bound (regions_of [] values) (λ read. of_read document others keep read) plan is_read in
    let (regions, e, is_named) = bound (with_loads (first_wrong_load read) read) (λ regions. of_regions document others keep regions) plan is_loaded in
    let (symbols, f, is_whole) = bound (symbols_of (listed_names regions) (region_names regions) [] others) (λ symbols. whole document keep regions symbols)
    plan is_named in
    let same : record { regions = regions; symbols = symbols; keep = keep } ≡ plan
    = same-ok (record { regions = regions; symbols = symbols; keep = keep }) plan is_whole in
    let tables = tables-bytes field.Symbol (get_member (codes "symbol") document) others (at-key (codes "symbol") document have) b in
    let own = tables-bytes field.Region (get_member (codes "region") document) values (at-key (codes "region") document have) a in
    let loaded = loaded-same document (first_wrong_load read) read regions e in
    subst IsBoundedPlan same (record {
      symbols = symbols-named (listed_names regions) (region_names regions) [] others symbols tables f;
      regions = subst (AllByRecursion IsBoundedRegion) loaded (regions-bounded [] values read own d);
    })

pub text-bounded : (bytes : List ℕ) (plan : Plan) → AreBytes bytes → plan_of_text bytes ≡ Ok plan → IsBoundedPlan plan
text-bounded bytes plan are is =
    let is_document = passed (not (nat_lt 65536 (length bytes))) TooLong (or_refuse Syntax (document_of bytes) >>= plan_of_document) plan is in
    let (ms, e, is_plan) = bound (or_refuse Syntax (document_of bytes)) plan_of_document plan is_document in
    document-bounded ms plan (by (utf8_valid_len bytes == length bytes) ms (found Syntax (document_of bytes) ms e)) is_plan where
      by : (b : Bool) (ms : Members) → (if b then parse_document bytes else None) ≡ Some ms → MembersHaveBytes ms
      by true ms e = document-bytes bytes ms are e
      by false ms e = absurd cc
