-- Where a plan puts the sections and commons of a list: a base for each section and each common, and the same bases for lists that
-- have the same sections and commons.
use Rattle.std.proofs.Common.{◌≡◌, ℕ, zero, suc, ◌+◌, ◌<◌, List, [], ◌∷◌, ◌++◌, map, length, take, drop, Some, None, Bool, true, false, not, refl}
use Rattle.std.proofs.Common.{sym, ◌∙◌, ap, subst, inl, inr, arith, length-append, zero-add}
use Rattle.std.specs.Prelude.{slice_get, filter, if◌then◌else◌}
use Rattle.std.specs.List.{enumerate_from, AllByRecursion, IsDistinct}
use Rattle.std.proofs.lemmas.Option.{slice_get_past}
use Rattle.std.proofs.lemmas.Map.Keys.{IsDistinct-head, IsDistinct-tail}
use Rattle.std.specs.Str.{bytes_eq}
use Rattle.std.proofs.lemmas.List.{length-map, length-take-le, length-drop}
use Rattle.std.proofs.lemmas.List.FromFn.{length-enumerate_from}
use Rattle.std.proofs.lemmas.Slice.Eq.{bytes_eq-Decides}
use Rattle.mufom_sections.specs.declared.section.Section.{Section}
use Rattle.mufom_names.specs.declared.name.Reference.{Reference}
use Rattle.mufom_module.specs.declared.module.Parts.{Parts}
use Rattle.mufom_plan.specs.declared.plan.Plan.{Plan}
use Rattle.mufom_plan.specs.Commons.{has_common}
use Rattle.mufom_plan.specs.Names.{has_name}
use Rattle.mufom_place.specs.Bases.{numbered, bases, site_of}
use Rattle.mufom_meaning.specs.Flat.{distinct, flat_sections, flat_references, unresolved_references, public_names, is_common, common_size, same_common}
use Rattle.mufom_meaning.specs.Flat.{commons, common_names}
use Rattle.mufom_meaning.specs.Placed.{common_section, common_sections, placed_commons, extended_sections, base_list, base_named, planned_bases}
use Rattle.mufom_meaning.specs.Location.{placed_section, located_sections}
use Rattle.mufom_meaning.specs.Stands.{StandsIn}
use Rattle.mufom_meaning.specs.CallLaws.{BasesByPosition}
use Rattle.mufom_numbers.proofs.Choices.{some_same}
use Rattle.mufom_meaning.proofs.Distinct.{IsDistinct-distinct}
use Rattle.mufom_meaning.proofs.Names.{name_at}
use Rattle.mufom_meaning.proofs.Members.{In, In-at, In-map, map-In, at-In, In-distinct, distinct-In, filter-In}

-- each section and each common has a base
pub bases_count : (plan : Plan) (sections asked : List Section) → length (bases plan sections asked) ≡ length (sections ++ asked)
bases_count plan sections asked = length-map (numbered (sections ++ asked)) (λ s. (site_of plan sections asked s).base)
    ∙ length-enumerate_from 0 (sections ++ asked)

-- the first n elements keep their positions
pub get-take : {A : Type 0} (n : ℕ) (xs : List A) (i : ℕ) → i < n → slice_get (take n xs) i ≡ slice_get xs i
get-take zero xs i less = absurd (omega (arith, less))
get-take (suc n) [] i less = refl
get-take (suc n) (x ∷ xs) zero less = refl
get-take (suc n) (x ∷ xs) (suc i) less = get-take n xs i (omega (arith, less))

get-drop : {A : Type 0} (n : ℕ) (xs : List A) (i : ℕ) → slice_get (drop n xs) i ≡ slice_get xs (n + i)
get-drop zero xs i = ap (slice_get xs) (sym (zero-add i))
get-drop (suc n) [] i = slice_get_past [] i (omega arith) ∙ sym (slice_get_past [] (suc n + i) (omega arith))
get-drop (suc n) (x ∷ xs) i = get-drop n xs i ∙ (let next : suc (n + i) ≡ suc n + i = omega arith in ap (slice_get (x ∷ xs)) next)

-- an element at a position has what all elements have
kept_at : {A : Type 0} (P : A → Type 0) (xs : List A) → AllByRecursion P xs → (n : ℕ) (x : A) → slice_get xs n ≡ Some x → P x
kept_at P [] all n x e = absurd cc
kept_at P (y ∷ ys) all zero x e = subst P (some_same y x e) all.0
kept_at P (y ∷ ys) all (suc n) x e = kept_at P ys all.1 n x e

module _ (ms : List Parts) (plan : Plan) where
  counted : length (base_list ms plan) ≡ length (flat_sections ms) + length (placed_commons ms plan)
  counted = bases_count plan (flat_sections ms) (placed_commons ms plan) ∙ length-append (flat_sections ms) (placed_commons ms plan)

  -- each section of the modules has a base
  pub planned_count : length (planned_bases ms plan).sections ≡ length (flat_sections ms)
  planned_count = let all = counted in length-take-le (length (flat_sections ms)) (base_list ms plan) (omega (arith, all))

  pub planned_get : (n : ℕ) → n < length (flat_sections ms) → slice_get (planned_bases ms plan).sections n ≡ slice_get (base_list ms plan) n
  planned_get n less = get-take (length (flat_sections ms)) (base_list ms plan) n less

  -- a location has a section for each section and each common that the plan places
  pub located_count : length (located_sections ms plan) ≡ length (flat_sections ms) + length (placed_commons ms plan)
  located_count =
      length-map (enumerate_from 0 (extended_sections ms plan)) (placed_section (base_list ms plan)) ∙ length-enumerate_from 0 (extended_sections ms plan)
      ∙ length-append (flat_sections ms) (placed_commons ms plan)

-- a section of this name has a base, if all have one
named_has_base : (sections : List Section) (placed : List ℕ) (name : List ℕ) → length placed ≡ length sections → (section : Section)
    → In section sections → section.name ≡ name
    → base_named sections placed name ≡ None → ⊥
named_has_base [] placed name count section h named e = h
named_has_base (x ∷ sections) [] name count section h named e = absurd cc
named_has_base (x ∷ sections) (base ∷ placed) name count section h named e =
    by_case (bytes_eq x.name name) refl e h (named_has_base sections placed name (omega (arith, count)) section) where
      by_case : (b : Bool) → bytes_eq x.name name ≡ b → (if b then Some base else base_named sections placed name) ≡ None → In section (x ∷ sections)
          → (In section sections → section.name ≡ name → base_named sections placed name ≡ None → ⊥) → ⊥
      by_case true f e h later = cc
      by_case false f e (inl same) later =
          let holds : bytes_eq x.name name ≡ true = (bytes_eq-Decides x.name name).1 (ap (λ (s : Section). s.name) same ∙ named) in cc
      by_case false f e (inr h) later = later h named e

-- a name of a common is that of one of the pairs
pub common_there : (ms : List Parts) (name : List ℕ) → has_name (common_names ms) name ≡ true → (size : ℕ) × StandsIn (name, size) (commons ms)
common_there ms name e =
    let found = name_at (common_names ms) name e in
    let own = map-In (λ common. common.0) name (commons ms) (In-at name (common_names ms) found.0 found.1) in
    let same : own.0.0 ≡ name = own.2 in
    let there = at-In own.0 (commons ms) own.1 in
    (own.0.1, (there.0, there.1 ∙ (λ i. Some (same i, own.0.1))))

-- if a region takes commons, each common has a base
pub common_has_base : (ms : List Parts) (plan : Plan) → has_common plan.regions ≡ true → (name : List ℕ) → has_name (common_names ms) name ≡ true
    → (planned_bases ms plan).commons name ≡ None → ⊥
common_has_base ms plan common name e none =
    let found = name_at (common_names ms) name e in
    let among = In-distinct bytes_eq (λ x y. (bytes_eq-Decides x y).0) name (common_names ms) (In-at name (common_names ms) found.0 found.1) in
    let there = In-map (common_section (commons ms)) name (distinct bytes_eq (common_names ms)) among in
    let all : placed_commons ms plan ≡ common_sections ms = ap (λ b. if b then common_sections ms else []) common in
    let whole = counted ms plan in
    let count : length (drop (length (flat_sections ms)) (base_list ms plan)) ≡ length (placed_commons ms plan)
    = length-drop (length (flat_sections ms)) (base_list ms plan) ∙ omega (arith, whole) in
    named_has_base (placed_commons ms plan) (drop (length (flat_sections ms)) (base_list ms plan)) name count (common_section (commons ms) name)
    (subst (In (common_section (commons ms) name)) (sym all) there) refl none

-- the base of a common is the one at its position
named_at_position : (pairs : List (List ℕ × ℕ)) (names : List (List ℕ)) (placed : List ℕ) (n : ℕ) (name : List ℕ) → IsDistinct bytes_eq names
    → slice_get names n ≡ Some name
    → base_named (map (common_section pairs) names) placed name ≡ slice_get placed n
named_at_position pairs [] placed n name d e = absurd cc
named_at_position pairs (x ∷ names) [] n name d e = sym (slice_get_past [] n (omega arith))
named_at_position pairs (x ∷ names) (base ∷ placed) zero name d e =
    ap (λ b. if b then Some base else base_named (map (common_section pairs) names) placed name) ((bytes_eq-Decides x name).1 (some_same x name e))
named_at_position pairs (x ∷ names) (base ∷ placed) (suc n) name d e =
    ap (λ b. if b then Some base else base_named (map (common_section pairs) names) placed name)
    (kept_at (λ y. bytes_eq x y ≡ false) names (IsDistinct-head bytes_eq x names d) n name e)
    ∙ named_at_position pairs names placed n name (IsDistinct-tail bytes_eq x names d) e

pub bases_by_position : BasesByPosition
bases_by_position ms plan = record {
  of_sections = planned_get ms plan;
  of_commons = λ common n name e.
      ap (λ b. base_named (if b then common_sections ms else []) (drop (length (flat_sections ms)) (base_list ms plan)) name) common
      ∙ named_at_position (commons ms) (distinct bytes_eq (common_names ms)) (drop (length (flat_sections ms)) (base_list ms plan)) n name
      (IsDistinct-distinct bytes_eq (common_names ms)) e
      ∙ get-drop (length (flat_sections ms)) (base_list ms plan) n;
  of_no_common = λ none name. ap (λ b. base_named (if b then common_sections ms else []) (drop (length (flat_sections ms)) (base_list ms plan)) name) none;
}

-- Lists with the same sections and the same commons are placed alike.
module _ (ms ns : List Parts) (sections : flat_sections ms ≡ flat_sections ns) (asked : commons ms ≡ commons ns) (plan : Plan) where
  pub same_placed_commons : placed_commons ms plan ≡ placed_commons ns plan
  same_placed_commons = ap (λ (pairs : List (List ℕ × ℕ)). if has_common plan.regions
      then map (common_section pairs) (distinct bytes_eq (map (λ common. common.0) pairs)) else []) asked

  pub same_extended : extended_sections ms plan ≡ extended_sections ns plan
  same_extended = let own = sections in let more = same_placed_commons in λ i. own i ++ more i

  pub same_base_list : base_list ms plan ≡ base_list ns plan
  same_base_list = let own = sections in let more = same_placed_commons in λ i. bases plan (own i) (more i)

  pub same_planned : planned_bases ms plan ≡ planned_bases ns plan
  same_planned = let own = sections in let more = same_placed_commons in let all = same_base_list in
      λ i. record { sections = take (length (own i)) (all i); commons = base_named (more i) (drop (length (own i)) (all i)) }

-- each placed common has the name of a reference
pub common_reference : (ms : List Parts) (plan : Plan) (section : Section) → In section (placed_commons ms plan)
    → (r : Reference) × In r (flat_references ms) × (section ≡ common_section (commons ms) r.name)
common_reference ms plan section h = by_region (has_common plan.regions) h where
  by_region : (b : Bool) → In section (if b then common_sections ms else []) → (r : Reference) × In r (flat_references ms)
      × (section ≡ common_section (commons ms) r.name)
  by_region false h = absurd h
  by_region true h =
      let name = map-In (common_section (commons ms)) section (distinct bytes_eq (common_names ms)) h in
      let pair = map-In (λ common. common.0) name.0 (commons ms) (distinct-In bytes_eq name.0 (common_names ms) name.1) in
      let own = map-In (λ reference. (reference.name, common_size reference.weak)) pair.0 (filter is_common (unresolved_references ms))
      (distinct-In same_common pair.0 (map (λ reference. (reference.name, common_size reference.weak)) (filter is_common (unresolved_references ms))) pair.1) in
      let unresolved = filter-In is_common own.0 (unresolved_references ms) own.1 in
      let named : name.0 ≡ own.0.name = sym pair.2 ∙ sym (ap (λ (p : List ℕ × ℕ). p.0) own.2) in (
        own.0,
        filter-In (λ reference. not (has_name (public_names ms) reference.name)) own.0 (flat_references ms) unresolved,
        sym name.2 ∙ ap (common_section (commons ms)) named,
      )
