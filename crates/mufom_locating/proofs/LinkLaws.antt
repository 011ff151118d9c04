-- A module is linked with the symbols of a plan unless a symbol has the name of a public.
use Rattle.std.proofs.Common.{◌≡◌, ℕ, ◌+◌, ◌*◌, ◌<◌, ◌≤◌, List, [], ◌∷◌, ◌++◌, map, length, Option, Some, None, Bool, true, false, cond, refl, sym, ap, ◌∙◌}
use Rattle.std.proofs.Common.{subst, append-nil, arith, ◌||◌, ◌&&◌, not, rules, zero, suc, take}
use Rattle.std.specs.Prelude.{find, option_map, option_to_list, replicate, slice_get, ◌==◌, ◌%◌, ◌^◌}
use Rattle.std.proofs.Math.Nat.{suc-add, zero-mod}
use Rattle.std.proofs.lemmas.List.Sums.{sum_by-cons}
use Rattle.mufom_module.specs.Written.{weight}
use Rattle.mufom_module.proofs.WeightLaws.{weight-sum}
use Rattle.mufom_link.specs.Conditions.{MayBeLinked}
use Rattle.mufom_locating.specs.Light.{weight_limit}
use Rattle.std.specs.List.{IsDistinct, AllByRecursion}
use Rattle.std.specs.Str.{bytes_eq}
use Rattle.std.proofs.lemmas.Slice.Eq.{bytes_eq-Decides}
use Rattle.mufom_expr.specs.Tree.{Tree}
use Rattle.mufom_names.specs.declared.name.Public.{Public}
use Rattle.mufom_names.specs.Names.{names_of, AreDistinct}
use Rattle.mufom_module.specs.Bare.{bare_parts}
use Rattle.mufom_module.specs.declared.module.Order.{Order}
use Rattle.mufom_module.specs.declared.module.Order.TheVariants.{Least, Most}
use Rattle.mufom_module.specs.declared.module.Parts.{Parts}
use Rattle.mufom_module.specs.declared.module.Defect.TheVariants as d
use Rattle.mufom_module.specs.Defects.{IsValid, is_long}
use Rattle.mufom_meaning.proofs.NoDefects.{no_defect}
use Rattle.mufom_meaning.proofs.Tests.{either_false}
use Rattle.mufom_plan.specs.declared.plan.PlanSymbol.{PlanSymbol}
use Rattle.mufom_plan.specs.Names.{AreDistinctNames, has_name, symbol_names}
use Rattle.mufom_plan.specs.Symbols.{HaveShortNames}
use Rattle.mufom_place.specs.Facts.{◌or_else◌}
use Rattle.mufom_numbers.proofs.Choices.{mapped_none, mapped_some}
use Rattle.mufom_refusals.specs.declared.link.LinkRefusal.{LinkRefusal}
use Rattle.mufom_refusals.specs.declared.link.LinkRefusal.TheVariants.{Mismatch, Duplicate, DuplicateStart, NoMemory}
use Rattle.mufom_link.specs.Refusals.{IsRefusalOf}
use Rattle.mufom_meaning.specs.Facts.{LinkFact, duplicate, mismatch, duplicate_start}
use Rattle.mufom_meaning.specs.FactLaws.{IsLinkable}
use Rattle.mufom_meaning.specs.Flat.{flat_starts, public_names}
use Rattle.mufom_meaning.specs.LinkAnswer.{link_answer, first_duplicate, first_mismatch, two_starts, same_order, same_descriptor}
use Rattle.mufom_meaning.proofs.facts.Linkable.{no_link_answer_is_linkable}
use Rattle.mufom_meaning.proofs.facts.Answers.{or_else_none}
use Rattle.mufom_planned.specs.PlanSymbols.{symbols_module, symbol_public}
use Rattle.mufom_planned.proofs.SymbolsModule.{followed_names, light as symbols-light}
use Rattle.mufom_locating.specs.Linked.{IsSharedName, named_public, named_publics, symbols_behind}
use Rattle.mufom_locating.specs.Numbered.{AreValues}

-- ---- the first name that occurs twice

-- names before others, the latest first
turned : List (List ℕ) → List (List ℕ) → List (List ℕ)
turned [] earlier = earlier
turned (x ∷ xs) earlier = turned xs (x ∷ earlier)

or_swap : (a b c : Bool) → (a || (b || c)) ≡ ((b || a) || c)
or_swap true true c = refl
or_swap true false c = refl
or_swap false true c = refl
or_swap false false c = refl

has-turned : (xs earlier : List (List ℕ)) (name : List ℕ) → has_name (turned xs earlier) name ≡ (has_name xs name || has_name earlier name)
unfolding turned
has-turned [] earlier name = refl
has-turned (x ∷ xs) earlier name =
    has-turned xs (x ∷ earlier) name ∙ or_swap (has_name xs name) (bytes_eq name x) (has_name earlier name)

first-in-two : (earlier xs ys : List (List ℕ)) → first_duplicate earlier (xs ++ ys) ≡ (first_duplicate earlier xs or_else first_duplicate (turned xs earlier) ys)
unfolding turned
first-in-two earlier [] ys = refl
first-in-two earlier (x ∷ xs) ys = by_case (has_name earlier x) (first-in-two (x ∷ earlier) xs ys) where
  by_case : (b : Bool) → first_duplicate (x ∷ earlier) (xs ++ ys)
      ≡ (first_duplicate (x ∷ earlier) xs or_else first_duplicate (turned xs (x ∷ earlier)) ys)
      → cond b (Some x) (first_duplicate (x ∷ earlier) (xs ++ ys))
      ≡ (cond b (Some x) (first_duplicate (x ∷ earlier) xs) or_else first_duplicate (turned xs (x ∷ earlier)) ys)
  by_case true later = refl
  by_case false later = later

-- the same names are found among some and among others
abbrev FindAlike : List (List ℕ) → List (List ℕ) → List (List ℕ) → Type 0
FindAlike earlier others names = AllByRecursion (λ name. has_name earlier name ≡ has_name others name) names

turned_name : (x y : List ℕ) → bytes_eq x y ≡ false → bytes_eq y x ≡ false
turned_name x y e = by_case (bytes_eq y x) refl where
  by_case : (b : Bool) → bytes_eq y x ≡ b → bytes_eq y x ≡ false
  by_case false f = f
  by_case true f = let same : y ≡ x = (bytes_eq-Decides y x).0 f in let other : bytes_eq x y ≡ true = (bytes_eq-Decides x y).1 (sym same) in absurd cc

alike-later : (x : List ℕ) (earlier others names : List (List ℕ)) → FindAlike earlier others names
    → AllByRecursion (λ name. bytes_eq x name ≡ false) names → FindAlike (x ∷ earlier) others names
alike-later x earlier others [] h d = tt
alike-later x earlier others (name ∷ names) h d =
    (ap (λ b. b || has_name earlier name) (turned_name x name d.0) ∙ h.0, alike-later x earlier others names h.1 d.1)

first-shared : (earlier others names : List (List ℕ)) → FindAlike earlier others names → AreDistinctNames names
    → first_duplicate earlier names ≡ find (has_name others) names
unfolding IsDistinct
first-shared earlier others [] h d = refl
first-shared earlier others (name ∷ names) h d =
    ap (λ b. cond b (Some name) (first_duplicate (name ∷ earlier) names)) h.0
    ∙ ap (λ o. cond (has_name others name) (Some name) o)
    (first-shared (name ∷ earlier) others names (alike-later name earlier others names h.1 d.0) d.1)

all-alike : (earlier others names : List (List ℕ)) → ((name : List ℕ) → has_name earlier name ≡ has_name others name) → FindAlike earlier others names
all-alike earlier others [] h = tt
all-alike earlier others (name ∷ names) h = (h name, all-alike earlier others names h)

-- ---- the link

same_itself : (m : Parts) → not (same_descriptor m m) ≡ false
same_itself m = by_case m.order where
  same_number : (n : ℕ) → (n == n) ≡ true
  same_number n = search rules

  by_case : (o : Order) → not ((m.maus == m.maus) && same_order o o) ≡ false
  by_case Least = ap (λ b. not (b && true)) (same_number m.maus)
  by_case Most = ap (λ b. not (b && true)) (same_number m.maus)

pub few_starts : (o : Option Tree) → length (option_to_list o ++ []) ≤ 1
few_starts None = omega arith
few_starts (Some t) = omega arith

one_start : (o : Option Tree) → two_starts (option_to_list o ++ []) ≡ None
one_start None = refl
one_start (Some t) = refl

module _ (m : Parts) (distinct : AreDistinct (names_of m.names.publics)) (numbers : PlanSymbol → ℕ) (symbols : List PlanSymbol)
    (apart : AreDistinctNames (symbol_names symbols)) where
  abbrev both : List Parts
  both = symbols_behind m numbers symbols

  abbrev shared : Option (List ℕ)
  shared = find (has_name (public_names (m ∷ []))) (symbol_names symbols)

  alone : first_duplicate [] (public_names (m ∷ [])) ≡ None
  alone =
      let names : AreDistinct (public_names (m ∷ [])) = subst AreDistinct (sym (append-nil (names_of m.names.publics))) distinct in
      let linkable : IsLinkable (m ∷ []) = record { descriptor = ((refl, refl), tt); names = names; starts = few_starts m.start } in
      let none = (no_link_answer_is_linkable (m ∷ [])).1 linkable in
      mapped_none duplicate (first_duplicate [] (public_names (m ∷ []))) (or_else_none _ _ (or_else_none (first_mismatch (m ∷ [])) _ none).1).0

  doubles : first_duplicate [] (public_names both) ≡ shared
  doubles =
      ap (first_duplicate []) (followed_names (m ∷ []) m numbers symbols)
      ∙ first-in-two [] (public_names (m ∷ [])) (symbol_names symbols)
      ∙ ap (λ o. o or_else first_duplicate (turned (public_names (m ∷ [])) []) (symbol_names symbols)) alone
      ∙ first-shared (turned (public_names (m ∷ [])) []) (public_names (m ∷ [])) (symbol_names symbols)
      (all-alike (turned (public_names (m ∷ [])) []) (public_names (m ∷ [])) (symbol_names symbols)
      (λ name. has-turned (public_names (m ∷ [])) [] name ∙ or_nothing (has_name (public_names (m ∷ [])) name))) apart where
        or_nothing : (b : Bool) → (b || false) ≡ b
        or_nothing true = refl
        or_nothing false = refl

  pub link-shared : link_answer both ≡ option_map duplicate shared
  link-shared =
      ap (λ b. option_map (λ other. mismatch (m.maus, m.order) (other.maus, other.order)) (cond b (Some (symbols_module m numbers symbols)) None)
      or_else (option_map duplicate (first_duplicate [] (public_names both)) or_else two_starts (flat_starts both))) (same_itself m)
      ∙ ap (λ o. option_map duplicate o or_else two_starts (flat_starts both)) doubles
      ∙ ap (λ o. option_map duplicate shared or_else o) (one_start m.start)
      ∙ nothing_after (option_map duplicate shared) where
        nothing_after : (o : Option LinkFact) → o or_else None ≡ o
        nothing_after None = refl
        nothing_after (Some x) = refl

  pub nothing-shared : link_answer both ≡ None → shared ≡ None
  nothing-shared none = mapped_none duplicate shared (sym link-shared ∙ none)

  pub refusal-shared : (refusal : LinkRefusal) → IsRefusalOf both refusal → IsSharedName shared refusal
  refusal-shared (Duplicate name) h = by_case shared (sym link-shared ∙ h) where
    by_case : (o : Option (List ℕ)) → option_map duplicate o ≡ Some (duplicate name) → o ≡ Some name
    by_case None e = absurd cc
    by_case (Some other) e = let same : other ≡ name = cc in ap (λ x. Some x) same
  refusal-shared (Mismatch first other) h = let found = mapped_some duplicate shared _ (sym link-shared ∙ h) in let e = found.2 in absurd cc
  refusal-shared DuplicateStart h = let found = mapped_some duplicate shared _ (sym link-shared ∙ h) in let e = found.2 in absurd cc
  refusal-shared NoMemory h = tt

-- ---- the symbols with their values

pub valued-publics : (maus : ℕ) (numbers : PlanSymbol → ℕ) (symbols : List PlanSymbol)
    → named_publics symbols (map (λ symbol. numbers symbol % 2 ^ (8 * maus)) symbols) ≡ map (symbol_public (2 ^ (8 * maus)) numbers) symbols
valued-publics maus numbers [] = refl
valued-publics maus numbers (symbol ∷ symbols) = ap (λ rest. symbol_public (2 ^ (8 * maus)) numbers symbol ∷ rest) (valued-publics maus numbers symbols)

pub as-many : (maus : ℕ) (numbers : PlanSymbol → ℕ) (symbols : List PlanSymbol) (values : List ℕ) → AreValues maus numbers symbols values
    → length values ≡ length symbols
as-many maus numbers symbols values are = ap length are ∙ all symbols where
  all : (symbols : List PlanSymbol) → length (map (λ symbol. numbers symbol % 2 ^ (8 * maus)) symbols) ≡ length symbols
  all [] = refl
  all (symbol ∷ symbols) = ap suc (all symbols)

-- zeros are the values of symbols whose numbers are 0
pub zero-values : (maus : ℕ) (symbols : List PlanSymbol) → AreValues maus (λ symbol. 0) symbols (replicate (length symbols) 0)
zero-values maus [] = refl
zero-values maus (symbol ∷ symbols) =
    let first = sym (zero-mod (2 ^ (8 * maus))) in let rest = zero-values maus symbols in λ i. first i ∷ rest i

-- ---- the weight of the list

short_name : (m : Parts) → IsValid m → length m.name < 2 ^ 16
short_name m valid =
    let strings = no_defect m valid d.LongId in
    let is_short : is_long m.name ≡ false = (either_false (is_long m.name) _ (either_false (is_long m.processor) _ strings).1).0 in
    search (rules, is_short)

frame : (m : Parts) → length m.name + 3 ≤ weight m
frame m = let all = weight-sum m in omega (arith, all)

pub may-be-linked : (m : Parts) (numbers : PlanSymbol → ℕ) (symbols : List PlanSymbol) → IsValid m → HaveShortNames symbols → weight m < weight_limit
    → MayBeLinked (symbols_behind m numbers symbols) m.name
may-be-linked m numbers symbols valid short light =
    let own = symbols_module m numbers symbols in
    let whole = weight-sum own in
    let publics = symbols-light (2 ^ (8 * m.maus)) numbers symbols in
    let both = sum_by-cons weight m (own ∷ []) in
    let one = sum_by-cons weight own [] in
    let name = frame m in
    record {
      some = omega arith;
      short = short_name m valid;
      light = omega (arith, light, whole, publics, both, one, name, short);
    }

-- symbols of which one more is a public
pub named-more : (symbols : List PlanSymbol) (values : List ℕ) (k : ℕ) (symbol : PlanSymbol) (value : ℕ) → slice_get symbols k ≡ Some symbol
    → slice_get values k ≡ Some value
    → named_publics (take (k + 1) symbols) (take (k + 1) values) ≡ named_publics (take k symbols) (take k values) ++ named_public symbol value ∷ []
named-more [] values k symbol value e f = absurd cc
named-more (s ∷ symbols) [] k symbol value e f = absurd cc
named-more (s ∷ symbols) (v ∷ values) zero symbol value e f =
    let same : s ≡ symbol = cc in let there : v ≡ value = cc in λ i. named_public (same i) (there i) ∷ []
named-more (s ∷ symbols) (v ∷ values) (suc k) symbol value e f =
    ap (λ n. named_publics (take n (s ∷ symbols)) (take n (v ∷ values))) (suc-add k 1)
    ∙ ap (λ rest. named_public s v ∷ rest) (named-more symbols values k symbol value e f)

-- bare parts with these publics are the module of the symbols
pub made-module : (first : Parts) (numbers : PlanSymbol → ℕ) (symbols : List PlanSymbol) (values : List ℕ) → AreValues first.maus numbers symbols values
    → (bare : Parts) → bare ≡ bare_parts first.maus first.order → (publics : List Public) → publics ≡ named_publics symbols values
    → ◌≡◌ {A = Parts} (record bare { names = record { publics = publics; references = bare.names.references } }) (symbols_module first numbers symbols)
made-module first numbers symbols values are bare is publics same =
    let all = same ∙ ap (named_publics symbols) are ∙ valued-publics first.maus numbers symbols in
    λ i. record (is i) { names = record { publics = all i; references = (is i).names.references } }
