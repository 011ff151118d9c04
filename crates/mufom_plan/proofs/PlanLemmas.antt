-- How the regions of a plan follow from its tables, that no section name occurs twice, and that at most one region takes the commons.
use Rattle.std.proofs.Common.{◌≡◌, ℕ, ◌+◌, List, [], ◌∷◌, ◌++◌, length, Option, Some, None, Result, Ok, Err, Bool, true, false, ◌||◌, cond, ◌⊎◌, inl}
use Rattle.std.proofs.Common.{inr, refl, ap, sym, ◌∙◌, subst, append_assoc, arith}
use Rattle.std.specs.Prelude.{filter, option_map, option_and_then, nat_lt, if◌then◌else◌, codes}
use Rattle.std.specs.List.{IsDistinct, count_by}
use Rattle.std.proofs.lemmas.List.{append-nil, map-append}
use Rattle.std.proofs.lemmas.List.Sums.{length-filter, sum_by-append}
use Rattle.std.proofs.lemmas.Grind.{flat_map-append}
use Rattle.std.proofs.lemmas.Cmp.{nat_list_eq_equiv}
use Rattle.std.proofs.lemmas.Map.Keys.{IsDistinct-push}
use Rattle.toml.specs.Data.{Data, Members, get_member, as_str, as_table}
use Rattle.mufom_plan.specs.declared.plan.Region.{Region}
use Rattle.mufom_plan.specs.declared.plan.Plan.{Plan}
use Rattle.mufom_plan.specs.declared.refusal.PlanField.TheVariants as field
use Rattle.mufom_plan.specs.declared.refusal.PlanTable.TheVariants as at
use Rattle.mufom_plan.specs.declared.refusal.PlanRefusal.{PlanRefusal}
use Rattle.mufom_plan.specs.declared.refusal.PlanRefusal.TheVariants.{Shape, Beyond}
use Rattle.mufom_plan.specs.Document.{has_only_keys, items_at, number_at, text_at, truth_at}
use Rattle.mufom_plan.specs.Names.{AreDistinctNames, has_name, region_names, listed_names, symbol_names}
use Rattle.mufom_plan.specs.Loads.{AreLoads, first_wrong_load}
use Rattle.mufom_plan.specs.declared.plan.PlanSymbol.{PlanSymbol}
use Rattle.mufom_plan.specs.Commons.{has_common, HasAtMostOneCommon}
use Rattle.mufom_plan.specs.PlanText.{◌>>=◌, or_refuse, unless, in_prefix, region_keys, region_of, region_with, regions_of, tables_at, kept_names}
use Rattle.mufom_plan.specs.PlanText.{plan_keys, plan_of_document, new_common, new_name, new_names, before_names, optional_text, with_loads, symbols_of}
use Rattle.mufom_plan.proofs.SymbolLemmas.{symbols_of-distinct}

in_prefix-append : (first : List Region) (region : Region) (more : Result (List Region) PlanRefusal) → in_prefix first (in_prefix (region ∷ []) more)
    ≡ in_prefix (first ++ region ∷ []) more
in_prefix-append first region (Ok regions) = ap Ok (sym (append_assoc first (region ∷ []) regions))
in_prefix-append first region (Err refusal) = refl

-- one more table gives one more region
pub regions_of-next : (taken : List Region) (value : Data) (more : List Data) (table : Members) (region : Region) → as_table value ≡ Some table
    → region_of (length taken) (region_names taken) (listed_names taken) (has_common taken) table ≡ Ok region
    → in_prefix taken (regions_of taken (value ∷ more)) ≡ in_prefix (taken ++ region ∷ []) (regions_of (taken ++ region ∷ []) more)
regions_of-next taken value more table region is_table is_region =
    rw (is_table, is_region) (in_prefix-append taken region (regions_of (taken ++ region ∷ []) more))

pub listed_names-append : (xs : List Region) (region : Region) → listed_names (xs ++ region ∷ []) ≡ listed_names xs ++ region.sections
listed_names-append xs region = flat_map-append (λ r. r.sections) xs (region ∷ []) ∙ ap (λ names. listed_names xs ++ names) (append-nil region.sections)

pub region_names-append : (xs : List Region) (region : Region) → region_names (xs ++ region ∷ []) ≡ region_names xs ++ region.name ∷ []
region_names-append xs region = map-append (λ r. r.name) xs (region ∷ [])

-- names that are new in turn keep names distinct
by_known : (earlier : List (List ℕ)) (name : List ℕ) (more : Option (List (List ℕ))) (names : List (List ℕ)) (known : Bool) → has_name earlier name ≡ known
    → (if known then None else option_map (λ rest. name ∷ rest) more) ≡ Some names
    → (has_name earlier name ≡ false) × (rest : List (List ℕ)) × (more ≡ Some rest) × (names ≡ name ∷ rest)
by_known earlier name more names true h e = absurd cc
by_known earlier name None names false h e = absurd cc
by_known earlier name (Some rest) names false h e = (h, rest, refl, cc)

pub new_names-distinct : (earlier : List (List ℕ)) (values : List Data) (names : List (List ℕ)) → new_names earlier values ≡ Some names
    → AreDistinctNames earlier → AreDistinctNames (earlier ++ names)
new_names-distinct earlier [] names e h = let empty : [] ≡ names = cc in
    subst (λ more. AreDistinctNames (earlier ++ more)) empty (subst AreDistinctNames (sym (append-nil earlier)) h)
new_names-distinct earlier (value ∷ values) names e h = by_text (as_str value) e (λ name. new_names-distinct (earlier ++ name ∷ []) values) where
  by_text : (text : Option (List ℕ)) → option_and_then (λ name. before_names earlier name (new_names (earlier ++ name ∷ []) values)) text ≡ Some names
      → ((name : List ℕ) (rest : List (List ℕ)) → new_names (earlier ++ name ∷ []) values ≡ Some rest → AreDistinctNames (earlier ++ name ∷ [])
      → AreDistinctNames ((earlier ++ name ∷ []) ++ rest))
      → AreDistinctNames (earlier ++ names)
  by_text None e later = absurd cc
  by_text (Some name) e later =
      let parts = by_known earlier name (new_names (earlier ++ name ∷ []) values) names (has_name earlier name) refl e in
      subst AreDistinctNames (append_assoc earlier (name ∷ []) parts.1 ∙ ap (λ more. earlier ++ more) (sym parts.3))
      (later name parts.1 parts.2 (IsDistinct-push nat_list_eq_equiv earlier name h parts.0))

-- what is after regions that were read
prefix_ok : (region : Region) (more : Result (List Region) PlanRefusal) (regions : List Region) → in_prefix (region ∷ []) more ≡ Ok regions
    → (rest : List Region) × (more ≡ Ok rest) × (regions ≡ region ∷ rest)
prefix_ok region (Ok rest) regions e = (rest, refl, cc)
prefix_ok region (Err refusal) regions e = absurd cc

-- a region that is read has the section names that its table gives, and takes the commons if its table states so
pub record IsRegionOf (sections : Option (List (List ℕ))) (common : Option Bool) (region : Region) : Type 0 where
  pub listed : sections ≡ Some region.sections
  pub taken : common ≡ Some region.common

is_region_of : (place : ℕ) (only : Bool) (name : Option (List ℕ)) (base size : Option ℕ) (sections : Option (List (List ℕ))) (common : Option Bool)
    (load : Option (Option (List ℕ))) (region : Region)
    → region_with place only name base size sections common load ≡ Ok region → IsRegionOf sections common region
is_region_of place false name base size sections common load region e = absurd cc
is_region_of place true None base size sections common load region e = absurd cc
is_region_of place true (Some name) None size sections common load region e = absurd cc
is_region_of place true (Some name) (Some base) None sections common load region e = absurd cc
is_region_of place true (Some name) (Some base) (Some size) None common load region e = absurd cc
is_region_of place true (Some name) (Some base) (Some size) (Some sections) None load region e = absurd cc
is_region_of place true (Some name) (Some base) (Some size) (Some sections) (Some common) None region e = absurd cc
is_region_of place true (Some name) (Some base) (Some size) (Some sections) (Some common) (Some load) region e =
    by_end (nat_lt 9223372036854775807 (base + size)) e where
      by_end : (beyond : Bool) → (if beyond then Err (Beyond place)
          else Ok (record { name = name; base = base; size = size; sections = sections; common = common; load = load })) ≡ Ok region
          → IsRegionOf (Some sections) (Some common) region
      by_end true e = absurd cc
      by_end false e =
          let same : record { name = name; base = base; size = size; sections = sections; common = common; load = load } ≡ region = cc in
          record { listed = ap (λ (r : Region). Some r.sections) same; taken = ap (λ (r : Region). Some r.common) same }

named_by : (listed : List (List ℕ)) (values : Option (List Data)) (names : List (List ℕ)) → option_and_then (new_names listed) values ≡ Some names
    → AreDistinctNames listed → AreDistinctNames (listed ++ names)
named_by listed None names e h = absurd cc
named_by listed (Some values) names e h = new_names-distinct listed values names e h

-- a region takes the commons only if none before does
new_after : (earlier : Bool) (truth : Option Bool) (common : Bool) → option_and_then (new_common earlier) truth ≡ Some common → (common ≡ false)
    ⊎ (earlier ≡ false)
new_after earlier None common e = absurd cc
new_after true (Some true) common e = absurd cc
new_after true (Some false) common e = inl cc
new_after false (Some truth) common e = inr refl

none_common : (regions : List Region) → has_common regions ≡ false → filter (λ r. r.common) regions ≡ []
none_common [] h = refl
none_common (region ∷ regions) h = by_case region.common (none_common regions) h where
  by_case : (b : Bool) → (has_common regions ≡ false → filter (λ r. r.common) regions ≡ []) → (b || has_common regions) ≡ false
      → cond b (region ∷ filter (λ r. r.common) regions) (filter (λ r. r.common) regions) ≡ []
  by_case true later e = absurd cc
  by_case false later e = later e

count-append : (before : List Region) (region : Region) → count_by (λ r. r.common) (before ++ region ∷ [])
    ≡ count_by (λ r. r.common) before + (0 + cond region.common 1 0)
count-append before region = sum_by-append (λ (r : Region). cond r.common 1 0) before (region ∷ [])

one_common : (before : List Region) (region : Region) (truth : Option Bool) → option_and_then (new_common (has_common before)) truth ≡ Some region.common
    → HasAtMostOneCommon before → HasAtMostOneCommon (before ++ region ∷ [])
one_common before region truth e h = by_case (new_after (has_common before) truth region.common e) where
  at_most : (b : Bool) (n : ℕ) → n ≡ 0 → count_by (λ r. r.common) (before ++ region ∷ []) ≡ n + (0 + cond b 1 0) → HasAtMostOneCommon (before ++ region ∷ [])
  at_most true n none total = omega (arith, none, total)
  at_most false n none total = omega (arith, none, total)

  by_case : (region.common ≡ false) ⊎ (has_common before ≡ false) → HasAtMostOneCommon (before ++ region ∷ [])
  by_case (inl plain) = let total = count-append before region ∙ ap (λ b. count_by (λ r. r.common) before + (0 + cond b 1 0)) plain in omega (arith, total, h)
  by_case (inr free) =
      at_most region.common (count_by (λ r. r.common) before) (sym (length-filter (λ r. r.common) before)
      ∙ ap length (none_common before free)) (count-append before region)

-- what the regions of a plan keep: no section name occurs twice, and at most one region takes the commons
pub record IsSound (regions : List Region) : Type 0 where
  pub distinct : AreDistinctNames (listed_names regions)
  pub common : HasAtMostOneCommon regions

region_of-sound : (before : List Region) (table : Members) (region : Region)
    → region_of (length before) (region_names before) (listed_names before) (has_common before) table ≡ Ok region
    → IsSound before → IsSound (before ++ region ∷ [])
region_of-sound before table region e h =
    let is = is_region_of (length before) (has_only_keys region_keys table)
    (option_and_then (new_name (region_names before)) (text_at (get_member (codes "name") table)))
    (number_at (get_member (codes "base") table))
    (number_at (get_member (codes "size") table))
    (option_and_then (new_names (listed_names before)) (items_at (get_member (codes "sections") table)))
    (option_and_then (new_common (has_common before)) (truth_at (get_member (codes "common") table)))
    (optional_text (get_member (codes "load") table))
    region e in
    record {
      distinct = subst AreDistinctNames (sym (listed_names-append before region))
          (named_by (listed_names before) (items_at (get_member (codes "sections") table)) region.sections is.listed h.distinct);
      common = one_common before region (truth_at (get_member (codes "common") table)) is.taken h.common;
    }

regions_of-sound : (before : List Region) (values : List Data) (regions : List Region) → regions_of before values ≡ Ok regions → IsSound before
    → IsSound (before ++ regions)
regions_of-sound before [] regions e h = let empty : [] ≡ regions = cc in
    subst (λ more. IsSound (before ++ more)) empty (subst IsSound (sym (append-nil before)) h)
regions_of-sound before (value ∷ more) regions e h = by_table (as_table value) e (λ region. regions_of-sound (before ++ region ∷ []) more) where
  by_region : (table : Members) (answer : Result Region PlanRefusal)
      → region_of (length before) (region_names before) (listed_names before) (has_common before) table ≡ answer
      → answer >>= (λ region. in_prefix (region ∷ []) (regions_of (before ++ region ∷ []) more)) ≡ Ok regions
      → ((region : Region) (rest : List Region) → regions_of (before ++ region ∷ []) more ≡ Ok rest → IsSound (before ++ region ∷ [])
      → IsSound ((before ++ region ∷ []) ++ rest))
      → IsSound (before ++ regions)
  by_region table (Err refusal) is e later = absurd cc
  by_region table (Ok region) is e later =
      let parts = prefix_ok region (regions_of (before ++ region ∷ []) more) regions e in
      subst IsSound (append_assoc before (region ∷ []) parts.0 ∙ ap (λ rest. before ++ rest) (sym parts.2))
      (later region parts.0 parts.1 (region_of-sound before table region is h))

  by_table : (table : Option Members)
      → or_refuse (Shape None field.Region) table >>= (λ found. region_of (length before) (region_names before) (listed_names before)
      (has_common before) found >>= λ region. in_prefix (region ∷ []) (regions_of (before ++ region ∷ []) more)) ≡ Ok regions
      → ((region : Region) (rest : List Region) → regions_of (before ++ region ∷ []) more ≡ Ok rest → IsSound (before ++ region ∷ [])
      → IsSound ((before ++ region ∷ []) ++ rest))
      → IsSound (before ++ regions)
  by_table None e later = absurd cc
  by_table (Some table) e later = by_region table (region_of (length before) (region_names before) (listed_names before) (has_common before) table) refl e later

none_sound : IsSound []
unfolding IsDistinct
none_sound = record { distinct = tt; common = omega arith }

-- what a plan keeps: its regions are sound and loaded as they may be, and no symbol's name occurs twice
pub record KeepsItsRules (plan : Plan) : Type 0 where
  pub regions : IsSound plan.regions
  pub loads : AreLoads plan.regions
  pub symbols : AreDistinctNames (symbol_names plan.symbols)

none_named : AreDistinctNames (symbol_names [])
unfolding IsDistinct
none_named = tt

-- the plan that a document states is sound
pub plan_of_document-sound : (document : Members) (plan : Plan) → plan_of_document document ≡ Ok plan → KeepsItsRules plan
plan_of_document-sound document plan e = by_keys (has_only_keys plan_keys document) e where
  keep : Option (List (List ℕ))
  keep = kept_names (get_member (codes "keep") document)

  region_items : Result (List Data) PlanRefusal
  region_items = tables_at field.Region (get_member (codes "region") document)

  symbol_items : Result (List Data) PlanRefusal
  symbol_items = tables_at field.Symbol (get_member (codes "symbol") document)

  by_symbols : (read : List Region) (items : List Data) (kept : List (List ℕ)) (answer : Result (List PlanSymbol) PlanRefusal) → IsSound read → AreLoads read
      → symbols_of (listed_names read) (region_names read) [] items ≡ answer
      → answer >>= (λ symbols. Ok (record { regions = read; symbols = symbols; keep = kept })) ≡ Ok plan → KeepsItsRules plan
  by_symbols read items kept (Err refusal) sound loads is h = absurd cc
  by_symbols read items kept (Ok symbols) sound loads is h =
      let whole : record { regions = read; symbols = symbols; keep = kept } ≡ plan = cc in
      subst KeepsItsRules whole (record {
        regions = sound;
        loads = loads;
        symbols = symbols_of-distinct (listed_names read) (region_names read) [] items symbols is none_named;
      })

  by_loads : (read : List Region) (items : List Data) (kept : List (List ℕ)) (wrong : Option ℕ) → IsSound read → first_wrong_load read ≡ wrong
      → with_loads wrong read >>= (λ regions. symbols_of (listed_names regions) (region_names regions) [] items >>= λ symbols.
      Ok (record { regions = regions; symbols = symbols; keep = kept })) ≡ Ok plan → KeepsItsRules plan
  by_loads read items kept (Some place) sound is h = absurd cc
  by_loads read items kept None sound is h =
      by_symbols read items kept (symbols_of (listed_names read) (region_names read) [] items) sound is refl h

  by_regions : (items more : List Data) (kept : List (List ℕ)) (answer : Result (List Region) PlanRefusal) → regions_of [] items ≡ answer
      → answer >>= (λ read. with_loads (first_wrong_load read) read >>= λ regions.
      symbols_of (listed_names regions) (region_names regions) [] more >>= λ symbols.
      Ok (record { regions = regions; symbols = symbols; keep = kept })) ≡ Ok plan → KeepsItsRules plan
  by_regions items more kept (Err refusal) is h = absurd cc
  by_regions items more kept (Ok read) is h = by_loads read more kept (first_wrong_load read) (regions_of-sound [] items read is none_sound) refl h

  by_keep : (items more : List Data) (kept : Option (List (List ℕ))) → or_refuse (Shape None field.Keep) kept >>= (λ k.
      regions_of [] items >>= λ read. with_loads (first_wrong_load read) read >>= λ regions.
      symbols_of (listed_names regions) (region_names regions) [] more >>= λ symbols.
      Ok (record { regions = regions; symbols = symbols; keep = k })) ≡ Ok plan → KeepsItsRules plan
  by_keep items more None h = absurd cc
  by_keep items more (Some kept) h = by_regions items more kept (regions_of [] items) refl h

  by_symbol_items : (items : List Data) (answer : Result (List Data) PlanRefusal) → answer >>= (λ more. or_refuse (Shape None field.Keep) keep >>= λ k.
      regions_of [] items >>= λ read. with_loads (first_wrong_load read) read >>= λ regions.
      symbols_of (listed_names regions) (region_names regions) [] more >>= λ symbols.
      Ok (record { regions = regions; symbols = symbols; keep = k })) ≡ Ok plan → KeepsItsRules plan
  by_symbol_items items (Err refusal) h = absurd cc
  by_symbol_items items (Ok more) h = by_keep items more keep h

  by_region_items : (answer : Result (List Data) PlanRefusal) → answer >>= (λ items. symbol_items >>= λ more. or_refuse (Shape None field.Keep) keep >>= λ k.
      regions_of [] items >>= λ read. with_loads (first_wrong_load read) read >>= λ regions.
      symbols_of (listed_names regions) (region_names regions) [] more >>= λ symbols.
      Ok (record { regions = regions; symbols = symbols; keep = k })) ≡ Ok plan → KeepsItsRules plan
  by_region_items (Err refusal) h = absurd cc
  by_region_items (Ok items) h = by_symbol_items items symbol_items h

  by_keys : (test : Bool) → unless test (Shape None field.Extra) (region_items >>= λ items. symbol_items >>= λ more.
      or_refuse (Shape None field.Keep) keep >>= λ k.
      regions_of [] items >>= λ read. with_loads (first_wrong_load read) read >>= λ regions.
      symbols_of (listed_names regions) (region_names regions) [] more >>= λ symbols.
      Ok (record { regions = regions; symbols = symbols; keep = k })) ≡ Ok plan → KeepsItsRules plan
  by_keys true h = by_region_items region_items h
  by_keys false h = absurd cc

-- one more region is common, or none is
pub has_common-append : (before : List Region) (region : Region) → has_common (before ++ region ∷ []) ≡ (has_common before || region.common)
has_common-append [] region = by_case region.common where
  by_case : (b : Bool) → (b || false) ≡ (false || b)
  by_case true = refl
  by_case false = refl
has_common-append (first ∷ before) region = by_case first.common (has_common-append before region) where
  by_case : (b : Bool) → has_common (before ++ region ∷ []) ≡ (has_common before || region.common) → (b || has_common (before ++ region ∷ []))
      ≡ ((b || has_common before) || region.common)
  by_case true later = refl
  by_case false later = later
