-- A link fact about a part of a list is one about the list, and modules of one descriptor have no two.
use Rattle.std.proofs.Common.{◌≡◌, ℕ, zero, suc, ◌+◌, ◌<◌, List, [], ◌∷◌, ◌++◌, map, length, Some, refl, sym, ◌∙◌, ap, subst, arith, flat_map, length-append}
use Rattle.std.specs.Prelude.{slice_get, option_to_list}
use Rattle.std.proofs.lemmas.Grind.{flat_map-append}
use Rattle.mufom_module.specs.declared.module.Parts.{Parts}
use Rattle.mufom_names.specs.Names.{RepeatsAt}
use Rattle.mufom_meaning.specs.Flat.{public_names, flat_starts}
use Rattle.mufom_meaning.specs.Facts.{Descriptor, descriptor, mismatch, duplicate, duplicate_start}
use Rattle.mufom_meaning.specs.Stands.{LinkFactStands}
use Rattle.mufom_meaning.specs.Staging.{HaveDescriptor}
use Rattle.mufom_meaning.specs.FactLaws.{LinkFactsGrow}

-- a place of a list, counted in the longer list that has others before it
abbrev pub position_after : {A : Type 0} → List A → ℕ → ℕ
position_after [] n = n
position_after (x ∷ xs) n = suc (position_after xs n)

less_after : {A : Type 0} (xs : List A) (m n : ℕ) → m < n → position_after xs m < position_after xs n
less_after [] m n h = h
less_after (x ∷ xs) m n h = let less = less_after xs m n h in omega (arith, less)

get_prefix : {A : Type 0} (xs ys : List A) (i : ℕ) (x : A) → slice_get xs i ≡ Some x → slice_get (xs ++ ys) i ≡ Some x
get_prefix [] ys i x e = absurd cc
get_prefix (y ∷ xs) ys zero x e = e
get_prefix (y ∷ xs) ys (suc i) x e = get_prefix xs ys i x e

pub get_after : {A : Type 0} (xs ys : List A) (i : ℕ) → slice_get (xs ++ ys) (position_after xs i) ≡ slice_get ys i
get_after [] ys i = refl
get_after (x ∷ xs) ys i = get_after xs ys i

get_within : {A : Type 0} (before xs after : List A) (i : ℕ) (x : A) → slice_get xs i ≡ Some x
    → slice_get (before ++ (xs ++ after)) (position_after before i) ≡ Some x
get_within before xs after i x e = get_after before (xs ++ after) i ∙ get_prefix xs after i x e

-- the name is at a place where it repeats
abbrev pub IsRepeated : List (List ℕ) → List ℕ → Type 0
IsRepeated names name = (place : ℕ) × (slice_get names place ≡ Some name) × RepeatsAt names place

repeated_within : (before names after : List (List ℕ)) (name : List ℕ) → IsRepeated names name → IsRepeated (before ++ (names ++ after)) name
repeated_within before names after name h = (
  position_after before h.0,
  get_within before names after h.0 name h.1,
  (
    position_after before h.2.0,
    h.2.1,
    less_after before h.2.0 h.0 h.2.2,
    get_within before names after h.2.0 h.2.1 h.2.3,
    get_within before names after h.0 h.2.1 h.2.4,
  ),
)

flat_within : {A B : Type 0} (f : A → List B) (before xs after : List A) → flat_map f (before ++ (xs ++ after)) ≡ flat_map f before
    ++ (flat_map f xs ++ flat_map f after)
flat_within f before xs after = flat_map-append f before (xs ++ after) ∙ ap (λ rest. flat_map f before ++ rest) (flat_map-append f xs after)

pub link_facts_grow : LinkFactsGrow
link_facts_grow before ms after (mismatch d e) h = (
  h.0,
  h.1,
  (position_after before h.2.0, get_within before ms after h.2.0 h.0 h.2.1),
  (position_after before h.3.0, get_within before ms after h.3.0 h.1 h.3.1),
  h.4,
  h.5,
  h.6,
)
link_facts_grow before ms after (duplicate name) h =
    let names = flat_within (λ (m : Parts). map (λ entry. entry.name) m.names.publics) before ms after in
    subst (λ all. IsRepeated all name) (sym names) (repeated_within (public_names before) (public_names ms) (public_names after) name h)
link_facts_grow before ms after duplicate_start h =
    let starts = ap length (flat_within (λ (m : Parts). option_to_list m.start) before ms after)
    ∙ length-append (flat_starts before) (flat_starts ms ++ flat_starts after)
    ∙ ap (λ n. length (flat_starts before) + n) (length-append (flat_starts ms) (flat_starts after)) in
    omega (arith, starts, h)

-- modules that have the descriptor of one
pub like_all : (m : Parts) (all : List Parts) → HaveDescriptor m all → (n : Parts) (i : ℕ) → slice_get all i ≡ Some n → descriptor n ≡ descriptor m
like_all m [] h n i e = absurd cc
like_all m (x ∷ more) h n zero e = let same : x ≡ n = cc in ap descriptor (sym same) ∙ (λ i. (h.0.0 i, h.0.1 i))
like_all m (x ∷ more) h n (suc i) e = like_all m more h.1 n i e

-- modules of one descriptor have no two
pub one_descriptor : (m : Parts) (all : List Parts) → HaveDescriptor m all → (d e : Descriptor) → ¬ LinkFactStands all (mismatch d e)
one_descriptor m all h d e f = f.6 (sym f.4 ∙ like_all m all h f.0 f.2.0 f.2.1 ∙ sym (like_all m all h f.1 f.3.0 f.3.1) ∙ f.5)
