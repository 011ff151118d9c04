-- The names of undefined references are the names that are needed and that no common has.
use Rattle.std.proofs.Common.{◌≡◌, ℕ, ◌+◌, ◌<◌, List, [], ◌∷◌, ◌++◌, length, map, take, get_or, Option, Some, None, is_none, Bool, true, false, not, cond, ◌&&◌}
use Rattle.std.proofs.Common.{refl, sym, ap, ◌∙◌, append-nil, if◌then◌else◌}
use Rattle.std.specs.Prelude.{filter}
use Rattle.std.specs.Str.{bytes_eq}
use Rattle.std.proofs.lemmas.List.{map-append}
use Rattle.std.proofs.lemmas.List.Elements.{filter_more}
use Rattle.std.proofs.lemmas.Slice.Eq.{bytes_eq-Decides}
use Rattle.mufom_names.specs.declared.name.Weak.{Weak}
use Rattle.mufom_names.specs.declared.name.Reference.{Reference}
use Rattle.mufom_names.specs.Names.{names_of}
use Rattle.mufom_module.specs.declared.module.Parts.{Parts}
use Rattle.mufom_plan.specs.Names.{has_name}
use Rattle.mufom_meaning.specs.Flat.{common_names, distinct, is_strong, public_names, unresolved_references}
use Rattle.mufom_meaning.proofs.Distinct.{filter-distinct}
use Rattle.mufom_image.proofs.PlaceLaws.{distinct-push}
use Rattle.mufom_image_values.specs.Names.{place_in, with_name}
use Rattle.mufom_image_values.specs.Resolutions.{common_list, is_nothing, resolution_by, resolution_without}
use Rattle.mufom_image_values.proofs.NameLaws.{filter-both, filter-same, has-place}
use Rattle.mufom_image_values.proofs.ResolutionLaws.{distinct-has, is_undefined}
use Rattle.mufom_explain.specs.Details.{undefined_names}

-- the names of those of some references that are undefined, each once
abbrev pub undefined_among : Parts → List Reference → List (List ℕ)
undefined_among m references = distinct bytes_eq (map (λ r. r.name) (filter (is_undefined m) references))

-- one reference more
pub undefined-more : (m : Parts) (references : List Reference) (i : ℕ) (r : Reference) → i < length references → r ≡ get_or references i r
    → undefined_among m (take (i + 1) references)
    ≡ (if is_undefined m r then with_name (undefined_among m (take i references)) r.name else undefined_among m (take i references))
undefined-more m references i r inside is =
    ap (λ rs. distinct bytes_eq (map (λ r. r.name) rs))
    (filter_more (is_undefined m) references i r inside
    ∙ ap (λ q. filter (is_undefined m) (take i references) ++ cond (is_undefined m q) (q ∷ []) []) (sym is))
    ∙ by_case (is_undefined m r)
  where
    kept : List Reference
    kept = filter (is_undefined m) (take i references)

    by_case : (b : Bool) → distinct bytes_eq (map (λ r. r.name) (kept ++ cond b (r ∷ []) []))
        ≡ (if b then with_name (distinct bytes_eq (map (λ r. r.name) kept)) r.name else distinct bytes_eq (map (λ r. r.name) kept))
    by_case true = ap (distinct bytes_eq) (map-append (λ r. r.name) kept (r ∷ [])) ∙ distinct-push (map (λ r. r.name) kept) r.name
    by_case false = ap (λ rs. distinct bytes_eq (map (λ r. r.name) rs)) (append-nil kept)

-- ---- all references

and-turned : (b c : Bool) → (b && c) ≡ (c && b)
and-turned true true = refl
and-turned true false = refl
and-turned false true = refl
and-turned false false = refl

strong-nothing : (weak : Option Weak) → (is_nothing (resolution_without weak) && is_none weak) ≡ is_none weak
strong-nothing None = refl
strong-nothing (Some weak) = and-turned (is_nothing (resolution_without (Some weak))) false

-- a reference is undefined if it is strong, and neither a public nor a common has its name
undefined-is : (m : Parts) (r : Reference)
    → ((not (has_name (public_names (m ∷ [])) r.name) && is_strong r) && not (has_name (common_names (m ∷ [])) r.name)) ≡ is_undefined m r
undefined-is m r =
    ap (λ names. (not (has_name names r.name) && is_strong r) && not (has_name (common_names (m ∷ [])) r.name)) (append-nil (names_of m.names.publics))
    ∙ ap (λ b. (b && is_strong r) && not (has_name (common_names (m ∷ [])) r.name)) (sym (has-place 0 (names_of m.names.publics) r.name))
    ∙ ap (λ b. (is_none (place_in (names_of m.names.publics) r.name) && is_strong r) && b)
    (ap not (sym (distinct-has (common_names (m ∷ [])) r.name)) ∙ sym (has-place 0 (common_list m) r.name))
    ∙ by_place (place_in (names_of m.names.publics) r.name) (place_in (common_list m) r.name)
  where
    by_place : (o u : Option ℕ) → ((is_none o && is_strong r) && is_none u) ≡ (is_nothing (resolution_by o u r.weak) && is_strong r)
    by_place (Some n) u = refl
    by_place None (Some n) = and-turned (is_strong r) false
    by_place None None = and-turned (is_strong r) true ∙ sym (strong-nothing r.weak)

filter-named : (p : List ℕ → Bool) (rs : List Reference) → filter p (map (λ r. r.name) rs) ≡ map (λ r. r.name) (filter (λ r. p r.name) rs)
filter-named p [] = refl
filter-named p (r ∷ rs) = by_case (p r.name) (filter-named p rs) where
  by_case : (b : Bool) → filter p (map (λ r. r.name) rs) ≡ map (λ r. r.name) (filter (λ r. p r.name) rs)
      → cond b (r.name ∷ filter p (map (λ r. r.name) rs)) (filter p (map (λ r. r.name) rs))
      ≡ map (λ r. r.name) (cond b (r ∷ filter (λ r. p r.name) rs) (filter (λ r. p r.name) rs))
  by_case true rest = ap (λ more. r.name ∷ more) rest
  by_case false rest = rest

pub all-undefined : (m : Parts) → undefined_among m m.names.references ≡ undefined_names (m ∷ [])
all-undefined m =
    let p : List ℕ → Bool = λ name. not (has_name (common_names (m ∷ [])) name) in
    let unresolved : Reference → Bool = λ r. not (has_name (public_names (m ∷ [])) r.name) in
    let names : List Reference → List (List ℕ) = λ rs. map (λ r. r.name) rs in
    let rest = unresolved_references (m ∷ []) in
    sym (filter-distinct bytes_eq bytes_eq-Decides p (names (filter is_strong rest))
    ∙ ap (distinct bytes_eq) (filter-named p (filter is_strong rest))
    ∙ ap (λ rs. distinct bytes_eq (names rs))
    (ap (λ (rs : List Reference). filter (λ r. p r.name) (filter is_strong (filter unresolved rs))) (append-nil m.names.references)
    ∙ ap (filter (λ r. p r.name)) (filter-both is_strong unresolved m.names.references)
    ∙ filter-both (λ r. p r.name) (λ r. unresolved r && is_strong r) m.names.references
    ∙ filter-same (λ r. (unresolved r && is_strong r) && p r.name) (is_undefined m) (undefined-is m) m.names.references))
