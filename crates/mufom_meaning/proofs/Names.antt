-- The first public of a name, in a list that is put together.
use Rattle.std.proofs.Common.{◌≡◌, ℕ, zero, suc, ◌+◌, ◌<◌, ◌||◌, sym, List, [], ◌∷◌, ◌++◌, map, length, Some, Bool, true, false, refl, ◌∙◌, ap, cond}
use Rattle.std.proofs.Common.{zero-add, arith}
use Rattle.std.specs.Prelude.{slice_get, if◌then◌else◌}
use Rattle.std.specs.Str.{bytes_eq}
use Rattle.std.proofs.lemmas.Slice.Eq.{bytes_eq-Decides}
use Rattle.std.proofs.lemmas.Cmp.{nat_list_eq_equiv}
use Rattle.std.proofs.lemmas.List.{map-append}
use Rattle.std.proofs.lemmas.List.Folds.{list_any-append}
use Rattle.mufom_names.specs.declared.name.Public.{Public}
use Rattle.mufom_names.specs.Names.{AreDistinct}
use Rattle.mufom_debug.specs.Marks.{marks_of}
use Rattle.mufom_module.specs.declared.module.Parts.{Parts}
use Rattle.mufom_plan.specs.Names.{has_name}
use Rattle.mufom_meaning.specs.Flat.{name_count, Sited, SitedPublic, sited_from, sited_publics, public_names, first_named}
use Rattle.mufom_meaning.specs.Joined.{position_of}

-- the names of publics, in order
abbrev pub names_of : List SitedPublic → List (List ℕ)
names_of publics = map (λ q. q.entry.name) publics

named_of_site : (site : Sited) (publics : List Public) → names_of (map (λ entry. record { site = site; entry = entry }) publics)
    ≡ map (λ entry. entry.name) publics
named_of_site site [] = refl
named_of_site site (p ∷ ps) = ap (λ names. p.name ∷ names) (named_of_site site ps)

pub names_of-sited_publics : (s p d : ℕ) (xs : List Parts) → names_of (sited_publics (sited_from s p d xs)) ≡ public_names xs
names_of-sited_publics s p d [] = refl
names_of-sited_publics s p d (x ∷ xs) =
    let site : Sited = record { parts = x; first_section = s; first_public = p; first_name = d } in
    let rest : List SitedPublic = sited_publics (sited_from (s + length x.sections) (p + length x.names.publics) (d + name_count (marks_of x.debug)) xs) in
    map-append (λ q. q.entry.name) (map (λ entry. record { site = site; entry = entry }) x.names.publics) rest
    ∙ ap (λ prefix. prefix ++ names_of rest) (named_of_site site x.names.publics)
    ∙ ap (λ back. map (λ entry. entry.name) x.names.publics ++ back)
    (names_of-sited_publics (s + length x.sections) (p + length x.names.publics) (d + name_count (marks_of x.debug)) xs)

-- whether a name is among names, with the sides of the comparison turned
pub has_name-turned : (x : List ℕ) (xs : List (List ℕ)) (name : List ℕ) → has_name (x ∷ xs) name ≡ (bytes_eq x name || has_name xs name)
has_name-turned x xs name = ap (λ b. b || has_name xs name) (nat_list_eq_equiv.symm name x)

pub has_name-append_left : (xs ys : List (List ℕ)) (name : List ℕ) → has_name xs name ≡ true → has_name (xs ++ ys) name ≡ true
has_name-append_left xs ys name h = list_any-append (bytes_eq name) xs ys ∙ ap (λ b. b || has_name ys name) h

pub has_name-append_right : (xs ys : List (List ℕ)) (name : List ℕ) → has_name ys name ≡ true → has_name (xs ++ ys) name ≡ true
has_name-append_right xs ys name h = list_any-append (bytes_eq name) xs ys ∙ ap (λ b. has_name xs name || b) h ∙ either_way (has_name xs name) where
  either_way : (b : Bool) → (b || true) ≡ true
  either_way true = refl
  either_way false = refl

-- a name that is among names has a position there
pub name_at : (xs : List (List ℕ)) (name : List ℕ) → has_name xs name ≡ true → (i : ℕ) × (slice_get xs i ≡ Some name)
name_at [] name h = absurd cc
name_at (x ∷ xs) name h = by_case (bytes_eq name x) refl h (name_at xs name) where
  by_case : (b : Bool) → bytes_eq name x ≡ b → (b || has_name xs name) ≡ true → (has_name xs name ≡ true → (i : ℕ) × (slice_get xs i ≡ Some name))
      → (i : ℕ) × (slice_get (x ∷ xs) i ≡ Some name)
  by_case true e h later = (0, ap (λ s. Some s) (sym ((bytes_eq-Decides name x).0 e)))
  by_case false e h later = let at = later h in (suc at.0, at.1)

pub get-skip : {A : Type 0} (xs ys : List A) (i : ℕ) → slice_get (xs ++ ys) (length xs + i) ≡ slice_get ys i
get-skip [] ys i = ap (slice_get ys) (zero-add i)
get-skip (x ∷ xs) ys i =
    let next : suc (length xs) + i ≡ suc (length xs + i) = omega arith in
    ap (slice_get (x ∷ (xs ++ ys))) next ∙ get-skip xs ys i

-- what is in a prefix of a list is in the whole list at the same position, which is below the prefix's length
pub get-prefix : {A : Type 0} (xs ys : List A) (i : ℕ) (x : A) → slice_get xs i ≡ Some x → (slice_get (xs ++ ys) i ≡ Some x) × (i < length xs)
get-prefix [] ys i x h = absurd cc
get-prefix (y ∷ xs) ys zero x h = (h, omega arith)
get-prefix (y ∷ xs) ys (suc i) x h = let later = get-prefix xs ys i x h in let less = later.1 in (later.0, omega (arith, less))

-- a name in the rest of distinct names is not in their prefix
pub absent_before : (xs ys : List (List ℕ)) (name : List ℕ) → AreDistinct (xs ++ ys) → has_name ys name ≡ true → has_name xs name ≡ false
absent_before xs ys name distinct h = by_case (has_name xs name) refl where
  by_case : (b : Bool) → has_name xs name ≡ b → b ≡ false
  by_case false e = refl
  by_case true e =
      let prefix = name_at xs name e in let back = name_at ys name h in let there = get-prefix xs ys prefix.0 name prefix.1 in let less = there.1 in
      absurd (distinct (length xs + back.0) (prefix.0, name, omega (arith, less), there.0, get-skip xs ys back.0 ∙ back.1))

-- past publics that do not have the name, it is looked for in the others
pub first_named-skip : (xs ys : List SitedPublic) (name : List ℕ) → has_name (names_of xs) name ≡ false → first_named (xs ++ ys) name ≡ first_named ys name
first_named-skip [] ys name h = refl
first_named-skip (x ∷ xs) ys name h = by_case (bytes_eq x.entry.name name) (sym (has_name-turned x.entry.name (names_of xs) name)
    ∙ h) (first_named-skip xs ys name) where
      by_case : (b : Bool) → (b || has_name (names_of xs) name) ≡ false
          → (has_name (names_of xs) name ≡ false → first_named (xs ++ ys) name ≡ first_named ys name)
          → cond b (Some x) (first_named (xs ++ ys) name) ≡ first_named ys name
      by_case true e later = absurd cc
      by_case false e later = later e

-- the first of a name is at the place of the name
pub first_at_place : (xs ys : List SitedPublic) (name : List ℕ) → has_name (names_of xs) name ≡ true → (q : SitedPublic)
    × (slice_get (xs ++ ys) (position_of (λ other. bytes_eq other name) (names_of xs)) ≡ Some q) × (first_named (xs ++ ys) name ≡ Some q)
first_at_place [] ys name h = absurd cc
first_at_place (x ∷ xs) ys name h = by_case (bytes_eq x.entry.name name) (sym (has_name-turned x.entry.name (names_of xs) name)
    ∙ h) (first_at_place xs ys name) where
      by_case : (b : Bool) → (b || has_name (names_of xs) name) ≡ true
          → (has_name (names_of xs) name ≡ true → (q : SitedPublic)
          × (slice_get (xs ++ ys) (position_of (λ other. bytes_eq other name) (names_of xs)) ≡ Some q) × (first_named (xs ++ ys) name ≡ Some q))
          → (q : SitedPublic) × (slice_get (x ∷ (xs ++ ys)) (if b then 0 else suc (position_of (λ other. bytes_eq other name) (names_of xs))) ≡ Some q)
          × (cond b (Some x) (first_named (xs ++ ys) name) ≡ Some q)
      by_case true e later = (x, refl, refl)
      by_case false e later = later e
