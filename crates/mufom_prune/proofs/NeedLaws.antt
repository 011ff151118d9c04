-- What entries need, found step by step, and that it is made of entries.
use Rattle.std.proofs.Common.{◌≡◌, ℕ, zero, suc, ◌+◌, ◌<◌, ◌≤◌, ◌^◌, ◌||◌, List, [], ◌∷◌, ◌++◌, length, map, flat_map, set, get_or, replicate}
use Rattle.std.proofs.Common.{option_to_list, Option, Some, None, Bool, true, false, if◌then◌else◌, eq-eqb, eqb-true, refl, sym, ap, ◌∙◌, append-nil}
use Rattle.std.proofs.Common.{append_assoc, arith, rules}
use Rattle.std.specs.Prelude.{nat_le, is_none, is_some, not, ◌==◌}
use Rattle.std.specs.List.{find}
use Rattle.std.specs.Str.{bytes_eq}
use Rattle.std.proofs.lemmas.List.{length-map}
use Rattle.mufom_expr.specs.declared.token.Letter.{Letter}
use Rattle.mufom_expr.specs.declared.token.Letter.TheVariants as letters
use Rattle.mufom_expr.specs.Tree.{Tree}
use Rattle.mufom_expr.specs.Value.{variables_of}
use Rattle.mufom_sections.specs.declared.section.Section.{Section}
use Rattle.mufom_names.specs.declared.name.Public.{Public}
use Rattle.mufom_names.specs.declared.name.Reference.{Reference}
use Rattle.mufom_names.specs.Index.{Entry, position_of, with_entry}
use Rattle.mufom_names.proofs.PositionLaws.{first_of, first_of-assoc, first_of-None, given, position_of-with}
use Rattle.mufom_loads.specs.declared.load.Load.{Load}
use Rattle.mufom_module.specs.declared.module.Parts.{Parts}
use Rattle.mufom_module.specs.Contents.{placed_loads}
use Rattle.mufom_module.specs.Defects.{counts_of, count_for, is_outside, is_this}
use Rattle.mufom_module.specs.Defects.{IsValid}
use Rattle.mufom_module.specs.declared.module.Defect.TheVariants as kinds
use Rattle.mufom_module.specs.Written.{weight}
use Rattle.mufom_module.specs.Weights.{section_weight, public_weight, reference_weight}
use Rattle.mufom_module.proofs.WeightLaws.{weight-sum}
use Rattle.mufom_module.proofs.EntryCounts.{counted}
use Rattle.mufom_plan.specs.Names.{has_name}
use Rattle.mufom_numbers.proofs.Choices.{of_not_le}
use Rattle.mufom_meaning.specs.Flat.{public_names}
use Rattle.mufom_meaning.proofs.NoDefects.{no_defect}
use Rattle.mufom_prune.specs.Kept.{first_for, entry_of, mentions, all_mentions, load_trees, home, mentions_for, section_needs, named_from, named}
use Rattle.mufom_prune.specs.Kept.{needs, always_stays, staying_from, all_named, roots}
use Rattle.mufom_prune.specs.Refusals.{first_unknown}
use Rattle.mufom_prune.specs.Steps.{entry_count, with_names, with_more, with_loads, reference_needs}
use Rattle.mufom_prune.specs.Underway.{AreBelow, AllBelow}

-- ---- the index of the publics

first_of-choice : (b : Bool) (n : ℕ) (rest : Option ℕ) → first_of (given b n) rest ≡ (if b then Some n else rest)
first_of-choice true n rest = refl
first_of-choice false n rest = refl

position_of-names : (es : List Entry) (n : ℕ) (publics : List Public) (name : List ℕ) → position_of (with_names es n publics) name
    ≡ first_of (position_of es name) (named_from n publics name)
position_of-names es n [] name = sym (first_of-None (position_of es name))
position_of-names es n (p ∷ publics) name =
    let rest = named_from (suc n) publics name in
    position_of-names (with_entry es p.name n) (suc n) publics name
    ∙ ap (λ r. first_of r rest) (position_of-with es p.name n name)
    ∙ first_of-assoc (position_of es name) (given (bytes_eq name p.name) n) rest
    ∙ ap (first_of (position_of es name)) (first_of-choice (bytes_eq name p.name) n rest)

pub finds_named : (m : Parts) (name : List ℕ) → position_of (with_names [] (length m.sections) m.names.publics) name ≡ named m name
finds_named m name = position_of-names [] (length m.sections) m.names.publics name

pub all_reference_needs : (m : Parts) (references : List Reference)
    → map (reference_needs (with_names [] (length m.sections) m.names.publics)) references ≡ map (λ (r : Reference). option_to_list (named m r.name)) references
all_reference_needs m [] = refl
all_reference_needs m (r ∷ references) = λ i. option_to_list (finds_named m r.name i) ∷ all_reference_needs m references i

-- ---- the needs of sections

-- the needs with more for one section, if the first has this number
abbrev add_at : ℕ → Option ℕ → List ℕ → List (List ℕ) → List (List ℕ)
add_at k h more [] = []
add_at k h more (e ∷ es) = (if is_this h k then e ++ more else e) ∷ add_at (suc k) h more es

add_none : (k : ℕ) (more : List ℕ) (es : List (List ℕ)) → add_at k None more es ≡ es
add_none k more [] = refl
add_none k more (e ∷ es) = ap (λ rest. e ∷ rest) (add_none (suc k) more es)

add_before : (k s : ℕ) (more : List ℕ) (es : List (List ℕ)) → s < k → add_at k (Some s) more es ≡ es
add_before k s more [] low = refl
add_before k s more (e ∷ es) low = (λ i. head (s == k) refl i ∷ add_before (suc k) s more es (omega (arith, low)) i) where
  head : (b : Bool) → (s == k) ≡ b → (if b then e ++ more else e) ≡ e
  head true t = let same : s ≡ k = eqb-true s k t in absurd (omega (arith, same, low))
  head false t = refl

add_at-set : (k s : ℕ) (more : List ℕ) (es : List (List ℕ)) → set es s (get_or es s [] ++ more) ≡ add_at k (Some (k + s)) more es
add_at-set k s more [] = refl
add_at-set k zero more (e ∷ es) =
    let same : k + 0 ≡ k = omega arith in
    sym (λ i. (if eq-eqb (k + 0) k same i then e ++ more else e) ∷ add_before (suc k) (k + 0) more es (omega arith) i)
add_at-set k (suc s) more (e ∷ es) =
    let next : suc k + s ≡ k + suc s = omega arith in
    (λ i. sym (head (k + suc s == k) refl) i ∷ (add_at-set (suc k) s more es ∙ ap (λ n. add_at (suc k) (Some n) more es) next) i) where
      head : (b : Bool) → (k + suc s == k) ≡ b → (if b then e ++ more else e) ≡ e
      head true t = let same : k + suc s ≡ k = eqb-true (k + suc s) k t in absurd (omega (arith, same))
      head false t = refl

with_more-add : (es : List (List ℕ)) (h : Option ℕ) (more : List ℕ) → with_more es h more ≡ add_at 0 h more es
with_more-add es None more = sym (add_none 0 more es)
with_more-add es (Some s) more = let from : 0 + s ≡ s = omega arith in add_at-set 0 s more es ∙ ap (λ n. add_at 0 (Some n) more es) from

-- the needs with what loads mention, section by section, if the first has this number
abbrev plus_loads : Parts → List (Option ℕ × Load) → ℕ → List (List ℕ) → List (List ℕ)
plus_loads n placed k [] = []
plus_loads n placed k (e ∷ es) = (e ++ flat_map (mentions_for n k) placed) ∷ plus_loads n placed (suc k) es

plus_none : (n : Parts) (k : ℕ) (es : List (List ℕ)) → plus_loads n [] k es ≡ es
plus_none n k [] = refl
plus_none n k (e ∷ es) = λ i. append-nil e i ∷ plus_none n (suc k) es i

plus_one : (n : Parts) (p : Option ℕ × Load) (placed : List (Option ℕ × Load)) (k : ℕ) (es : List (List ℕ))
    → plus_loads n placed k (add_at k (home p.0 p.1) (all_mentions n (load_trees p.1)) es) ≡ plus_loads n (p ∷ placed) k es
plus_one n p placed k [] = refl
plus_one n p placed k (e ∷ es) = λ i. head (is_this (home p.0 p.1) k) i ∷ plus_one n p placed (suc k) es i where
  more : List ℕ
  more = all_mentions n (load_trees p.1)

  head : (b : Bool) → (if b then e ++ all_mentions n (load_trees p.1) else e) ++ flat_map (mentions_for n k) placed ≡ e
      ++ ((if b then all_mentions n (load_trees p.1) else []) ++ flat_map (mentions_for n k) placed)
  head true = append_assoc e (all_mentions n (load_trees p.1)) (flat_map (mentions_for n k) placed)
  head false = refl

with_loads-plus : (n : Parts) (es : List (List ℕ)) (placed : List (Option ℕ × Load)) → with_loads n es placed ≡ plus_loads n placed 0 es
with_loads-plus n es [] = sym (plus_none n 0 es)
with_loads-plus n es (p ∷ placed) =
    with_loads-plus n (with_more es (home p.0 p.1) (all_mentions n (load_trees p.1))) placed
    ∙ ap (plus_loads n placed 0) (with_more-add es (home p.0 p.1) (all_mentions n (load_trees p.1)))
    ∙ plus_one n p placed 0 es

plus_empty : (n : Parts) (placed : List (Option ℕ × Load)) (k : ℕ) (sections : List Section) → plus_loads n placed k (replicate (length sections) [])
    ≡ section_needs n placed k sections
plus_empty n placed k [] = refl
plus_empty n placed k (s ∷ sections) = ap (λ rest. flat_map (mentions_for n k) placed ∷ rest) (plus_empty n placed (suc k) sections)

pub loads_are_needs : (n : Parts) (placed : List (Option ℕ × Load)) (sections : List Section) → with_loads n (replicate (length sections) []) placed
    ≡ section_needs n placed 0 sections
loads_are_needs n placed sections = with_loads-plus n (replicate (length sections) []) placed ∙ plus_empty n placed 0 sections

-- ---- all that is needed is an entry

below_join : (k : ℕ) (xs ys : List ℕ) → AreBelow k xs → AreBelow k ys → AreBelow k (xs ++ ys)
below_join k [] ys a b = b
below_join k (x ∷ xs) ys a b = (a.0, below_join k xs ys a.1 b)

below_all : {X : Type 0} (k : ℕ) (f : X → List ℕ) → ((x : X) → AreBelow k (f x)) → (xs : List X) → AreBelow k (flat_map f xs)
below_all k f h [] = tt
below_all k f h (x ∷ xs) = below_join k (f x) (flat_map f xs) (h x) (below_all k f h xs)

first_within : (n : Parts) (l : Letter) (place : ℕ) → place < count_for (counts_of n) l → first_for n l + place < entry_count n
first_within n letters.I place low = omega (arith, low)
first_within n letters.L place low = omega (arith, low)
first_within n letters.P place low = omega (arith, low)
first_within n letters.R place low = omega (arith, low)
first_within n letters.S place low = omega (arith, low)
first_within n letters.X place low = omega (arith, low)

pub low_of : (count place : ℕ) → nat_le count place ≡ false → place < count
low_of count place e = search rules

entry-below : (n : Parts) (v : Letter × ℕ) → AreBelow (entry_count n) (option_to_list (entry_of n v))
entry-below n v = by_case (is_outside (counts_of n) v) refl where
  by_case : (b : Bool) → is_outside (counts_of n) v ≡ b → AreBelow (entry_count n) (option_to_list (if b then None else Some (first_for n v.0 + v.1)))
  by_case true e = tt
  by_case false e = (first_within n v.0 v.1 (low_of (count_for (counts_of n) v.0) v.1 e), tt)

mentions-below : (n : Parts) (t : Tree) → AreBelow (entry_count n) (mentions n t)
mentions-below n t = below_all (entry_count n) (λ v. option_to_list (entry_of n v)) (entry-below n) (variables_of t)

all_mentions-below : (n : Parts) (ts : List Tree) → AreBelow (entry_count n) (all_mentions n ts)
all_mentions-below n ts = below_all (entry_count n) (mentions n) (mentions-below n) ts

mentions_for-below : (n : Parts) (k : ℕ) (p : Option ℕ × Load) → AreBelow (entry_count n) (mentions_for n k p)
mentions_for-below n k p = by_case (is_this (home p.0 p.1) k) where
  by_case : (b : Bool) → AreBelow (entry_count n) (if b then all_mentions n (load_trees p.1) else [])
  by_case true = all_mentions-below n (load_trees p.1)
  by_case false = tt

sections-below : (n : Parts) (placed : List (Option ℕ × Load)) (k : ℕ) (sections : List Section) → AllBelow (entry_count n) (section_needs n placed k sections)
sections-below n placed k [] = tt
sections-below n placed k (s ∷ sections) = (
  below_all (entry_count n) (mentions_for n k) (mentions_for-below n k) placed,
  sections-below n placed (suc k) sections,
)

mapped-below : {X : Type 0} (k : ℕ) (f : X → List ℕ) → ((x : X) → AreBelow k (f x)) → (xs : List X) → AllBelow k (map f xs)
mapped-below k f h [] = tt
mapped-below k f h (x ∷ xs) = (h x, mapped-below k f h xs)

all_join : (k : ℕ) (xs ys : List (List ℕ)) → AllBelow k xs → AllBelow k ys → AllBelow k (xs ++ ys)
all_join k [] ys a b = b
all_join k (x ∷ xs) ys a b = (a.0, all_join k xs ys a.1 b)

named-below : (k : ℕ) (publics : List Public) (name : List ℕ) (size : ℕ) → k + length publics ≤ size
    → AreBelow size (option_to_list (named_from k publics name))
named-below k [] name size low = tt
named-below k (p ∷ publics) name size low = by_case (bytes_eq name p.name) (named-below (suc k) publics name size (omega (arith, low))) where
  by_case : (b : Bool) → AreBelow size (option_to_list (named_from (suc k) publics name))
      → AreBelow size (option_to_list (if b then Some k else named_from (suc k) publics name))
  by_case true rest = (omega (arith, low), tt)
  by_case false rest = rest

staying-below : (stays : List (List ℕ)) (k : ℕ) (sections : List Section) (size : ℕ) → k + length sections ≤ size
    → AreBelow size (staying_from stays k sections)
staying-below stays k [] size low = tt
staying-below stays k (s ∷ sections) size low = by_case (always_stays stays s) (staying-below stays (suc k) sections size (omega (arith, low))) where
  by_case : (b : Bool) → AreBelow size (staying_from stays (suc k) sections)
      → AreBelow size (if b then k ∷ staying_from stays (suc k) sections else staying_from stays (suc k) sections)
  by_case true rest = (omega (arith, low), rest)
  by_case false rest = rest

length-join : {X : Type 0} (xs ys : List X) → length (xs ++ ys) ≡ length xs + length ys
length-join [] ys = omega arith
length-join (x ∷ xs) ys = let rest = length-join xs ys in omega (arith, rest)

pub length-section_needs : (n : Parts) (placed : List (Option ℕ × Load)) (k : ℕ) (sections : List Section)
    → length (section_needs n placed k sections) ≡ length sections
length-section_needs n placed k [] = refl
length-section_needs n placed k (s ∷ sections) = ap suc (length-section_needs n placed (suc k) sections)

-- there is a need for each entry
pub length-needs : (m : Parts) → length (needs m) ≡ entry_count m
length-needs m =
    let first = section_needs m (placed_loads m) 0 m.sections in
    let second = map (λ (p : Public). mentions m p.value) m.names.publics in
    let third = map (λ (r : Reference). option_to_list (named m r.name)) m.names.references in
    let a = length-join first (second ++ third) in
    let b = length-join second third in
    let c = length-section_needs m (placed_loads m) 0 m.sections in
    let d = length-map m.names.publics (λ (p : Public). mentions m p.value) in
    let e = length-map m.names.references (λ (r : Reference). option_to_list (named m r.name)) in
    omega (arith, a, b, c, d, e)

pub needs-inside : (m : Parts) → AllBelow (entry_count m) (needs m)
needs-inside m =
    all_join (entry_count m) (section_needs m (placed_loads m) 0 m.sections) _ (sections-below m (placed_loads m) 0 m.sections)
    (all_join (entry_count m) (map (λ (p : Public). mentions m p.value) m.names.publics) _
    (mapped-below (entry_count m) (λ (p : Public). mentions m p.value) (λ p. mentions-below m p.value) m.names.publics)
    (mapped-below (entry_count m) (λ (r : Reference). option_to_list (named m r.name))
    (λ r. named-below (length m.sections) m.names.publics r.name (entry_count m) (omega arith)) m.names.references))

all-named-below : (m : Parts) (names : List (List ℕ)) → AreBelow (entry_count m) (all_named m names)
all-named-below m [] = tt
all-named-below m (name ∷ names) =
    below_join (entry_count m) (option_to_list (named m name)) _ (named-below (length m.sections) m.names.publics name (entry_count m) (omega arith))
    (all-named-below m names)

pub roots-inside : (m : Parts) (names stays : List (List ℕ)) → AreBelow (entry_count m) (roots m names stays)
roots-inside m names stays =
    below_join (entry_count m) (staying_from stays 0 m.sections) _ (staying-below stays 0 m.sections (entry_count m) (omega arith))
    (below_join (entry_count m) (all_named m names) _ (all-named-below m names) (all_mentions-below m (option_to_list m.start)))

-- ---- the roots, found by indexes

-- the sections that always stay are the same by two lists with the same names
staying-same : (others stays : List (List ℕ)) → ((name : List ℕ) → has_name others name ≡ has_name stays name) → (k : ℕ) (sections : List Section)
    → staying_from others k sections ≡ staying_from stays k sections
staying-same others stays same k [] = refl
staying-same others stays same k (s ∷ sections) =
    (λ i. if is_some s.base || same s.name i then k ∷ staying-same others stays same (suc k) sections i else staying-same others stays same (suc k) sections i)

-- the publics with the names, found by their index
all-named-found : (m : Parts) (names : List (List ℕ))
    → flat_map (λ name. option_to_list (position_of (with_names [] (length m.sections) m.names.publics) name)) names ≡ all_named m names
all-named-found m [] = refl
all-named-found m (name ∷ names) = λ i. option_to_list (finds_named m name i) ++ all-named-found m names i

-- what is kept in any case, put together
pub roots-found : (m : Parts) (others stays names : List (List ℕ)) → ((name : List ℕ) → has_name others name ≡ has_name stays name)
    → (staying_from others 0 m.sections ++ flat_map (λ name. option_to_list (position_of (with_names [] (length m.sections) m.names.publics) name)) names)
    ++ all_mentions m (option_to_list m.start)
    ≡ roots m names stays
roots-found m others stays names same =
    append_assoc (staying_from others 0 m.sections) (flat_map (λ name. option_to_list (position_of (with_names [] (length m.sections) m.names.publics) name)) names)
    (all_mentions m (option_to_list m.start))
    ∙ (λ i. staying-same others stays same 0 m.sections i ++ (all-named-found m names i ++ all_mentions m (option_to_list m.start)))

-- ---- the name is known or not

pub none_named : (n : ℕ) (publics : List Public) (name : List ℕ) → named_from n publics name ≡ None
    → has_name (map (λ (p : Public). p.name) publics ++ []) name ≡ false
none_named n [] name e = refl
none_named n (p ∷ publics) name e = by_case (bytes_eq name p.name) e (none_named (suc n) publics name) where
  by_case : (b : Bool) → (if b then Some n else named_from (suc n) publics name) ≡ None
      → (named_from (suc n) publics name ≡ None → has_name (map (λ (p : Public). p.name) publics ++ []) name ≡ false)
      → (b || has_name (map (λ (p : Public). p.name) publics ++ []) name) ≡ false
  by_case true e later = absurd cc
  by_case false e later = later e

pub some_named : (n : ℕ) (publics : List Public) (name : List ℕ) (k : ℕ) → named_from n publics name ≡ Some k
    → has_name (map (λ (p : Public). p.name) publics ++ []) name ≡ true
some_named n [] name k e = absurd cc
some_named n (p ∷ publics) name k e = by_case (bytes_eq name p.name) e (some_named (suc n) publics name k) where
  by_case : (b : Bool) → (if b then Some n else named_from (suc n) publics name) ≡ Some k
      → (named_from (suc n) publics name ≡ Some k → has_name (map (λ (p : Public). p.name) publics ++ []) name ≡ true)
      → (b || has_name (map (λ (p : Public). p.name) publics ++ []) name) ≡ true
  by_case true e later = refl
  by_case false e later = later e

-- a name is unknown if its index has no position for it
unknown-by : (m : Parts) (name : List ℕ) → is_none (named m name) ≡ not (has_name (public_names (m ∷ [])) name)
unknown-by m name = by_case (named m name) refl where
  by_case : (o : Option ℕ) → named m name ≡ o → is_none o ≡ not (has_name (public_names (m ∷ [])) name)
  by_case None e = ap not (sym (none_named (length m.sections) m.names.publics name e))
  by_case (Some k) e = ap not (sym (some_named (length m.sections) m.names.publics name k e))

pub unknown-found : (m : Parts) (names : List (List ℕ))
    → find (λ name. is_none (position_of (with_names [] (length m.sections) m.names.publics) name)) names ≡ first_unknown m names
unknown-found m [] = refl
unknown-found m (name ∷ names) =
    (λ i. if (ap is_none (finds_named m name) ∙ unknown-by m name) i then Some name else unknown-found m names i)

-- ---- there are few entries

pub few_entries : (m : Parts) → IsValid m → entry_count m < 2 ^ 32
few_entries m valid =
    let light = of_not_le (2 ^ 32) (weight m) (no_defect m valid kinds.Weight) in
    let whole = weight-sum m in
    let a = counted section_weight (λ s. omega arith) m.sections in
    let b = counted public_weight (λ p. omega arith) m.names.publics in
    let c = counted reference_weight (λ r. omega arith) m.names.references in
    omega (arith, light, whole, a, b, c)
