-- The module of a plan's symbols has no defect, and its names are apart from those of a list.
use Rattle.std.proofs.Common.{◌≡◌, ℕ, zero, suc, ◌+◌, ◌*◌, ◌<◌, ◌≤◌, List, [], ◌∷◌, ◌++◌, map, length, sum_by, Some, None, Bool, true, false, cond}
use Rattle.std.proofs.Common.{refl, ap, sym, ◌∙◌, arith, ◌⊎◌, inl, inr, true≢false, ◌||◌}
use Rattle.std.specs.Prelude.{find, slice_get, ◌^◌}
use Rattle.std.specs.List.{list_any, IsDistinct, AllByRecursion}
use Rattle.std.specs.Str.{bytes_eq}
use Rattle.std.proofs.lemmas.List.Sums.{sum_by-cons}
use Rattle.std.proofs.lemmas.Slice.Eq.{bytes_eq-Decides}
use Rattle.std.proofs.lemmas.Grind.{flat_map-append}
use Rattle.std.proofs.lemmas.List.{append-nil}
use Rattle.mufom_numbers.proofs.Choices.{two_false, not_le, not_lt}
use Rattle.mufom_names.specs.declared.name.Public.{Public}
use Rattle.mufom_names.specs.Names.{AreDistinct}
use Rattle.mufom_module.specs.declared.module.Defect.{Defect}
use Rattle.mufom_module.specs.declared.module.Defect.TheVariants as d
use Rattle.mufom_module.specs.declared.module.Parts.{Parts}
use Rattle.mufom_module.specs.Defects.{IsValid, defects, has_defect, is_long, names_outside, has_other_counter, counts_of}
use Rattle.mufom_module.specs.Weights.{public_weight}
use Rattle.mufom_module.specs.Written.{weight}
use Rattle.mufom_module.proofs.WeightLaws.{weight-sum}
use Rattle.mufom_plan.specs.declared.plan.PlanSymbol.{PlanSymbol}
use Rattle.mufom_plan.specs.Names.{has_name, symbol_names, AreDistinctNames}
use Rattle.mufom_plan.specs.Symbols.{names_size, HaveShortNames}
use Rattle.mufom_meaning.specs.Flat.{public_names}
use Rattle.mufom_meaning.proofs.NoDefects.{no_defect}
use Rattle.mufom_planned.specs.PlanSymbols.{symbol_public, symbols_module}

finds_nothing : {A : Type 0} (p : A → Bool) (xs : List A) → ((x : A) → p x ≡ false) → find p xs ≡ None
finds_nothing p [] h = refl
finds_nothing p (x ∷ xs) h = ap (λ b. cond b (Some x) (find p xs)) (h x) ∙ finds_nothing p xs h

module _ (modulus : ℕ) (numbers : PlanSymbol → ℕ) where
  none_public : (p : Public → Bool) → ((symbol : PlanSymbol) → p (symbol_public modulus numbers symbol) ≡ false) → (symbols : List PlanSymbol)
      → list_any p (map (symbol_public modulus numbers) symbols) ≡ false
  none_public p h [] = refl
  none_public p h (symbol ∷ symbols) = two_false (p (symbol_public modulus numbers symbol)) _ (h symbol) (none_public p h symbols)

  none_long : (symbols : List PlanSymbol) → names_size symbols ≤ 65536
      → list_any (λ (p : Public). is_long p.name) (map (symbol_public modulus numbers) symbols) ≡ false
  none_long [] few = refl
  none_long (symbol ∷ symbols) few =
      let all = sum_by-cons (λ (s : PlanSymbol). length s.name + 1) symbol symbols in
      let own : length symbol.name ≤ 65535 = omega (arith, all, few) in
      two_false (is_long symbol.name) _ (not_lt 65535 (length symbol.name) own) (none_long symbols (omega (arith, all, few)))

  pub light : (symbols : List PlanSymbol) → sum_by public_weight (map (symbol_public modulus numbers) symbols) ≤ 33 * names_size symbols
  light [] = omega arith
  light (symbol ∷ symbols) =
      let all = sum_by-cons (λ (s : PlanSymbol). length s.name + 1) symbol symbols in
      let weights = sum_by-cons public_weight (symbol_public modulus numbers symbol) (map (symbol_public modulus numbers) symbols) in
      let rest = light symbols in
      omega (arith, all, weights, rest)

module _ (first : Parts) (valid : IsValid first) (numbers : PlanSymbol → ℕ) (symbols : List PlanSymbol) (short : HaveShortNames symbols) where
  abbrev own : Parts
  own = symbols_module first numbers symbols

  abbrev modulus : ℕ
  modulus = 2 ^ (8 * first.maus)

  no_defect_there : (defect : Defect) → has_defect own defect ≡ false
  no_defect_there d.Depth = refl
  no_defect_there d.LongId = two_false (list_any (λ (p : Public). is_long p.name) own.names.publics) _ (none_long modulus numbers symbols short) refl
  no_defect_there d.BadMaus = no_defect first valid d.BadMaus
  no_defect_there d.BadAlign = refl
  no_defect_there d.MissingBase = refl
  no_defect_there d.Position = two_false (list_any (λ (p : Public). names_outside (counts_of own) p.value) own.names.publics) _
      (none_public modulus numbers (λ (p : Public). names_outside (counts_of own) p.value) (λ symbol. refl) symbols) refl
  no_defect_there d.MisplacedP = two_false (list_any (λ (p : Public). has_other_counter None p.value) own.names.publics) _
      (none_public modulus numbers (λ (p : Public). has_other_counter None p.value) (λ symbol. refl) symbols) refl
  no_defect_there d.NoSection = refl
  no_defect_there d.LongRun = refl
  no_defect_there d.FieldSize = refl
  no_defect_there d.Attribute = refl
  no_defect_there d.Nesting = refl
  no_defect_there d.Weight =
      let whole = weight-sum own in
      let names = light modulus numbers symbols in
      not_le (2 ^ 32) (weight own) (omega (arith, whole, names, short))

  pub symbols_valid : IsValid own
  symbols_valid = finds_nothing (has_defect own) defects no_defect_there

-- ---- names

named_publics : (space : ℕ) (numbers : PlanSymbol → ℕ) (symbols : List PlanSymbol)
    → map (λ (p : Public). p.name) (map (symbol_public space numbers) symbols) ≡ symbol_names symbols
named_publics space numbers [] = refl
named_publics space numbers (symbol ∷ symbols) = ap (λ names. symbol.name ∷ names) (named_publics space numbers symbols)

pub followed_names : (ms : List Parts) (first : Parts) (numbers : PlanSymbol → ℕ) (symbols : List PlanSymbol)
    → public_names (ms ++ symbols_module first numbers symbols ∷ []) ≡ public_names ms ++ symbol_names symbols
followed_names ms first numbers symbols =
    flat_map-append (λ (m : Parts). map (λ (p : Public). p.name) m.names.publics) ms (symbols_module first numbers symbols ∷ [])
    ∙ ap (λ names. public_names ms ++ names) (append-nil (map (λ (p : Public). p.name) (map (symbol_public (2 ^ (8 * first.maus)) numbers) symbols))
    ∙ named_publics (2 ^ (8 * first.maus)) numbers symbols)

-- a position in two lists is one in either
split_get : (xs ys : List (List ℕ)) (i : ℕ) (x : List ℕ) → slice_get (xs ++ ys) i ≡ Some x
    → ((slice_get xs i ≡ Some x) × (i < length xs)) ⊎ ((k : ℕ) × (i ≡ length xs + k) × (slice_get ys k ≡ Some x))
split_get [] ys i x h = inr (i, omega arith, h)
split_get (y ∷ xs) ys zero x h = inl (h, omega arith)
split_get (y ∷ xs) ys (suc i) x h = by_case (split_get xs ys i x h) where
  by_case : ((slice_get xs i ≡ Some x) × (i < length xs)) ⊎ ((k : ℕ) × (i ≡ length xs + k) × (slice_get ys k ≡ Some x))
      → ((slice_get (y ∷ xs) (suc i) ≡ Some x) × (suc i < length (y ∷ xs))) ⊎ ((k : ℕ) × (suc i ≡ length (y ∷ xs) + k) × (slice_get ys k ≡ Some x))
  by_case (inl at) = let low = at.1 in inl (at.0, omega (arith, low))
  by_case (inr at) = let here = at.1 in inr (at.0, omega (arith, here), at.2)

has_at : (xs : List (List ℕ)) (i : ℕ) (x : List ℕ) → slice_get xs i ≡ Some x → has_name xs x ≡ true
has_at [] i x h = absurd cc
has_at (y ∷ xs) zero x h = let same : y ≡ x = cc in ap (λ b. b || has_name xs x) ((bytes_eq-Decides x y).1 (sym same))
has_at (y ∷ xs) (suc i) x h = ap (λ b. bytes_eq x y || b) (has_at xs i x h) ∙ or_true (bytes_eq x y) where
  or_true : (b : Bool) → (b || true) ≡ true
  or_true true = refl
  or_true false = refl

-- no name of the tail is the first one
apart_at : (x : List ℕ) (xs : List (List ℕ)) → AllByRecursion (λ y. bytes_eq x y ≡ false) xs → (k : ℕ) → slice_get xs k ≡ Some x → ⊥
apart_at x [] all k h = cc
apart_at x (y ∷ xs) all zero h = let same : y ≡ x = cc in true≢false (sym ((bytes_eq-Decides x y).1 (sym same)) ∙ all.0)
apart_at x (y ∷ xs) all (suc k) h = apart_at x xs all.1 k h

places_apart : (xs : List (List ℕ)) → AreDistinctNames xs → (j k : ℕ) (x : List ℕ) → j < k → slice_get xs j ≡ Some x → slice_get xs k ≡ Some x → ⊥
unfolding IsDistinct
places_apart [] all j k x less h g = cc
places_apart (y ∷ xs) all j zero x less h g = absurd (omega (arith, less))
places_apart (y ∷ xs) all zero (suc k) x less h g =
    let same : y ≡ x = cc in apart_at y xs all.0 k (g ∙ ap (λ z. Some z) (sym same))
places_apart (y ∷ xs) all (suc j) (suc k) x less h g = places_apart xs all.1 j k x (omega (arith, less)) h g

pub distinct_together : (xs ys : List (List ℕ)) → AreDistinct xs → AreDistinctNames ys → ((name : List ℕ) → has_name ys name ≡ true → has_name xs name ≡ false)
    → AreDistinct (xs ++ ys)
distinct_together xs ys first second apart k h = by_case (split_get xs ys h.0 h.1 h.3) (split_get xs ys k h.1 h.4) where
  by_case : ((slice_get xs h.0 ≡ Some h.1) × (h.0 < length xs)) ⊎ ((e : ℕ) × (h.0 ≡ length xs + e) × (slice_get ys e ≡ Some h.1))
      → ((slice_get xs k ≡ Some h.1) × (k < length xs)) ⊎ ((e : ℕ) × (k ≡ length xs + e) × (slice_get ys e ≡ Some h.1)) → ⊥
  by_case (inl a) (inl b) = first k (h.0, h.1, h.2, a.0, b.0)
  by_case (inl a) (inr b) = true≢false (sym (has_at xs h.0 h.1 a.0) ∙ apart h.1 (has_at ys b.0 h.1 b.2))
  by_case (inr a) (inl b) = let there = a.1 in let low = b.1 in let less = h.2 in absurd (omega (arith, there, low, less))
  by_case (inr a) (inr b) = let there = a.1 in let here = b.1 in let less = h.2 in
      places_apart ys second a.0 b.0 h.1 (omega (arith, there, here, less)) a.2 b.2

-- if no symbol's name is shared, each is apart from the list
pub none_shared : (xs names : List (List ℕ)) → find (has_name xs) names ≡ None → (name : List ℕ) → has_name names name ≡ true → has_name xs name ≡ false
none_shared xs [] e name h = absurd cc
none_shared xs (x ∷ names) e name h = by_case (has_name xs x) refl e (bytes_eq name x) refl h (λ f g. none_shared xs names f name g) where
  by_case : (shared : Bool) → has_name xs x ≡ shared → cond shared (Some x) (find (has_name xs) names) ≡ None → (here : Bool) → bytes_eq name x ≡ here
      → (here || has_name names name) ≡ true → (find (has_name xs) names ≡ None → has_name names name ≡ true → has_name xs name ≡ false)
      → has_name xs name ≡ false
  by_case true is f here same g later = absurd cc
  by_case false is f true same g later = ap (has_name xs) ((bytes_eq-Decides name x).0 same) ∙ is
  by_case false is f false same g later = later f g
