-- The entries of a flat list, by their places.
use Rattle.std.proofs.Common.{◌≡◌, ℕ, zero, suc, ◌+◌, ◌-◌, ◌<◌, ◌≤◌, List, [], ◌∷◌, ◌++◌, length, map, take, drop, Option, Some, None, Bool, true}
use Rattle.std.proofs.Common.{false, cond, not, option_map, option_to_list, refl, sym, ap, ◌∙◌, arith, append_assoc, length-append, nat_lt}
use Rattle.std.proofs.Common.{if◌then◌else◌}
use Rattle.std.specs.Prelude.{flat_map, is_some, position, slice_get}
use Rattle.std.specs.Option.{option_and_then}
use Rattle.std.proofs.lemmas.Bool.Decides.{nat_tests}
use Rattle.std.proofs.lemmas.List.{drop-map, map-append, take-map}
use Rattle.std.proofs.lemmas.Option.{slice_get-map}
use Rattle.std.specs.List.{enumerate_from, position_or_len}
use Rattle.mufom_expr.specs.Tree.{Tree}
use Rattle.mufom_names.specs.declared.name.Public.{Public}
use Rattle.mufom_debug.specs.Marks.{marks_of}
use Rattle.mufom_module.specs.declared.module.Parts.{Parts}
use Rattle.mufom_meaning.specs.Flat.{Sited, SitedPublic, flat_starts, name_count, sited_from, sited_publics}
use Rattle.mufom_meaning.specs.Selection.{member_at, members_at}
use Rattle.mufom_origins.specs.declared.origins.Origin.{Origin}
use Rattle.mufom_origins.specs.declared.origins.Place.{Place}
use Rattle.mufom_origins.specs.Origins.{FileModule, entry_of, modules_of, origin_of, origins_of, start_of}
use Rattle.mufom_origins.specs.Places.{at_positions, place_from, place_in, with_chosen}

-- ---- elements of two lists

get-left : {X : Type 0} (xs ys : List X) (n : ℕ) → n < length xs → slice_get (xs ++ ys) n ≡ slice_get xs n
get-left [] ys n inside = absurd (omega arith)
get-left (x ∷ xs) ys zero inside = refl
get-left (x ∷ xs) ys (suc n) inside = get-left xs ys n (omega arith)

get-right : {X : Type 0} (xs ys : List X) (n : ℕ) → length xs ≤ n → slice_get (xs ++ ys) n ≡ slice_get ys (n - length xs)
get-right [] ys n past = ap (slice_get ys) (omega arith)
get-right (x ∷ xs) ys zero past = absurd (omega arith)
get-right (x ∷ xs) ys (suc n) past = get-right xs ys n (omega arith) ∙ ap (slice_get ys) (omega arith)

get-at : {X : Type 0} (xs : List X) (y : X) (ys : List X) → slice_get (xs ++ y ∷ ys) (length xs) ≡ Some y
get-at [] y ys = refl
get-at (x ∷ xs) y ys = get-at xs y ys

-- ---- the flat list

-- how many entries each module has
abbrev pub entry_counts : {X : Type 0} → (Parts → List X) → List FileModule → List ℕ
entry_counts entries files = map (λ f. length (entries f.1)) files

-- the entries from one module on, after others
get-from : {X : Type 0} (entries : Parts → List X) (before files : List FileModule) (n : ℕ)
    → slice_get (flat_map entries (modules_of files)) n
    ≡ option_and_then (entry_of entries (before ++ files)) (place_from (length before) (entry_counts entries files) n)
get-from entries before [] n = refl
get-from {X} entries before (f ∷ files) n = by_test (nat_lt n (length (entries f.1))) refl (get-from entries (before ++ f
    ∷ []) files (n - length (entries f.1))) where
      found : ℕ → ℕ → Option Place
      found at entry = Some (record { «module» = at; entry = entry })

      by_test : (b : Bool) → nat_lt n (length (entries f.1)) ≡ b
          → slice_get (flat_map entries (modules_of files)) (n - length (entries f.1))
          ≡ option_and_then (entry_of entries ((before ++ f ∷ []) ++ files)) (place_from (length (before ++ f
          ∷ [])) (entry_counts entries files) (n - length (entries f.1)))
          → slice_get (entries f.1 ++ flat_map entries (modules_of files)) n
          ≡ option_and_then (entry_of entries (before ++ f ∷ files)) (if b then Some (record { «module» = length before; entry = n })
          else place_from (suc (length before)) (entry_counts entries files) (n - length (entries f.1)))
      by_test true test rest =
          get-left (entries f.1) (flat_map entries (modules_of files)) n (grind (arith, nat_tests))
          ∙ sym (ap (λ (o : Option FileModule). option_and_then (λ (g : FileModule). slice_get (entries g.1) n) o) (get-at before f files))
      by_test false test rest =
          get-right (entries f.1) (flat_map entries (modules_of files)) n (grind (arith, nat_tests))
          ∙ rest
          ∙ ap (λ (all : List FileModule). option_and_then (entry_of entries all) (place_from (length (before ++ f
          ∷ [])) (entry_counts entries files) (n - length (entries f.1)))) (append_assoc before (f ∷ []) files)
          ∙ ap (λ (k : ℕ). option_and_then (entry_of entries (before ++ f ∷ files)) (place_from k (entry_counts entries files) (n - length (entries f.1))))
          (let size = length-append before (f ∷ []) in omega (arith, size))

pub get-flat : {X : Type 0} (entries : Parts → List X) (files : List FileModule) (n : ℕ)
    → slice_get (flat_map entries (modules_of files)) n ≡ option_and_then (entry_of entries files) (place_in (entry_counts entries files) n)
get-flat entries files n = get-from entries [] files n

-- ---- the same counts, by what is kept of a module

pub counts-same : (count : Origin → ℕ) (files : List FileModule) → map count (origins_of files) ≡ map (λ f. count (origin_of f)) files
counts-same count [] = refl
counts-same count (f ∷ files) = ap (λ ns. count (origin_of f) ∷ ns) (counts-same count files)

-- ---- publics

map-entries : (site : Sited) (xs : List Public)
    → map (λ (q : SitedPublic). q.entry) (map (λ (entry : Public). let q : SitedPublic = record { site = site; entry = entry } in q) xs) ≡ xs
map-entries site [] = refl
map-entries site (x ∷ xs) = ap (λ ys. x ∷ ys) (map-entries site xs)

pub publics-flat : (s p d : ℕ) (ms : List Parts)
    → map (λ (q : SitedPublic). q.entry) (sited_publics (sited_from s p d ms)) ≡ flat_map (λ (m : Parts). m.names.publics) ms
publics-flat s p d [] = refl
publics-flat s p d (m ∷ ms) =
    let site : Sited = record { parts = m; first_section = s; first_public = p; first_name = d } in
    let own = map (λ (entry : Public). let q : SitedPublic = record { site = site; entry = entry } in q) m.names.publics in
    let rest = sited_from (s + length m.sections) (p + length m.names.publics) (d + name_count (marks_of m.debug)) ms in
    map-append (λ (q : SitedPublic). q.entry) own (sited_publics rest)
    ∙ ap (λ (xs : List Public). xs ++ map (λ (q : SitedPublic). q.entry) (sited_publics rest)) (map-entries site m.names.publics)
    ∙ ap (λ (xs : List Public). m.names.publics ++ xs) (publics-flat (s + length m.sections) (p + length m.names.publics) (d + name_count
    (marks_of m.debug)) ms)

-- ---- starts

one_later : (b : Bool) (n : ℕ) → cond b (Some (1 + n)) None ≡ option_map (λ (k : ℕ). suc k) (cond b (Some n) None)
one_later true n = ap (λ (k : ℕ). Some k) (omega arith)
one_later false n = refl

-- the first element passes, or the place is one after that among the others
position-cons : {X : Type 0} (p : X → Bool) (x : X) (xs : List X) (b : Bool) → p x ≡ b → position p (x
    ∷ xs) ≡ cond b (Some 0) (option_map (λ (n : ℕ). suc n) (position p xs))
position-cons p x xs true is =
    let first : ℕ → Option ℕ = λ n. cond (nat_lt n (length (x ∷ xs))) (Some n) None in
    let inside : nat_lt 0 (length (x ∷ xs)) ≡ true = grind (arith, nat_tests) in
    ap (λ (b : Bool). first (cond (not b) (1 + position_or_len p xs) 0)) is ∙ ap (λ (b : Bool). cond b (Some 0) None) inside
position-cons p x xs false is =
    let first : ℕ → Option ℕ = λ n. cond (nat_lt n (length (x ∷ xs))) (Some n) None in
    let n = position_or_len p xs in
    let inside : nat_lt (1 + n) (length (x ∷ xs)) ≡ nat_lt n (length xs) = grind (arith, nat_tests) in
    ap (λ (b : Bool). first (cond (not b) (1 + n) 0)) is ∙ ap (λ (b : Bool). cond b (Some (1 + n)) None) inside ∙ one_later (nat_lt n (length xs)) n

later_start : (f : FileModule) (files : List FileModule) (o : Option ℕ) → option_and_then (start_of (f
    ∷ files)) (option_map (λ (n : ℕ). suc n) o) ≡ option_and_then (start_of files) o
later_start f files None = refl
later_start f files (Some n) = refl

pub first-start : (files : List FileModule)
    → slice_get (flat_starts (modules_of files)) 0 ≡ option_and_then (start_of files) (position (λ (o : Origin). o.has_start) (origins_of files))
first-start [] = refl
first-start (f ∷ files) = by_start f.1.start refl (first-start files) where
  by_start : (o : Option Tree) → f.1.start ≡ o
      → slice_get (flat_starts (modules_of files)) 0 ≡ option_and_then (start_of files) (position (λ (p : Origin). p.has_start) (origins_of files))
      → slice_get (flat_starts (modules_of (f ∷ files))) 0 ≡ option_and_then (start_of (f
      ∷ files)) (position (λ (p : Origin). p.has_start) (origins_of (f ∷ files)))
  by_start None is rest =
      ap (λ (o : Option Tree). slice_get (option_to_list o ++ flat_starts (modules_of files)) 0) is
      ∙ rest
      ∙ sym (later_start f files (position (λ (p : Origin). p.has_start) (origins_of files)))
      ∙ sym (ap (option_and_then (start_of (f ∷ files))) (position-cons (λ (p : Origin). p.has_start) (origin_of f) (origins_of files) false (ap is_some is)))
  by_start (Some t) is rest =
      ap (λ (o : Option Tree). slice_get (option_to_list o ++ flat_starts (modules_of files)) 0) is
      ∙ sym is
      ∙ sym (ap (option_and_then (start_of (f ∷ files))) (position-cons (λ (p : Origin). p.has_start) (origin_of f) (origins_of files) true (ap is_some is)))

-- ---- selected modules

positions-map : {X Y : Type 0} (f : X → Y) (xs : List X) (positions : List ℕ) → map f (at_positions xs positions) ≡ at_positions (map f xs) positions
positions-map f xs [] = refl
positions-map {X} {Y} f xs (n ∷ positions) =
    map-append f (option_to_list (slice_get xs n)) (at_positions xs positions)
    ∙ ap (λ (ys : List Y). ys ++ map f (at_positions xs positions)) (one (slice_get xs n) ∙ ap option_to_list (sym (slice_get-map f xs n)))
    ∙ ap (λ (ys : List Y). option_to_list (slice_get (map f xs) n) ++ ys) (positions-map f xs positions) where
      one : (o : Option X) → map f (option_to_list o) ≡ option_to_list (option_map f o)
      one None = refl
      one (Some x) = refl

pub chosen-map : {X Y : Type 0} (f : X → Y) (roots : ℕ) (chosen : List ℕ) (xs : List X)
    → map f (with_chosen roots chosen xs) ≡ with_chosen roots chosen (map f xs)
chosen-map {X} {Y} f roots chosen xs =
    map-append f (take roots xs) (at_positions (drop roots xs) chosen)
    ∙ ap (λ (ys : List Y). ys ++ map f (at_positions (drop roots xs) chosen)) (sym (take-map f roots xs))
    ∙ ap (λ (ys : List Y). take roots (map f xs) ++ ys) (positions-map f (drop roots xs) chosen
    ∙ ap (λ (ys : List Y). at_positions ys chosen) (sym (drop-map f roots xs)))

pub modules-numbered : (n : ℕ) (ms : List Parts) → modules_of (enumerate_from n ms) ≡ ms
modules-numbered n [] = refl
modules-numbered n (m ∷ ms) = ap (λ xs. m ∷ xs) (modules-numbered (n + 1) ms)

pub get-numbered : (n : ℕ) (ms : List Parts) (i : ℕ)
    → slice_get (enumerate_from n ms) i ≡ option_map (λ (m : Parts). let f : FileModule = (n + i, m) in f) (slice_get ms i)
get-numbered n [] i = refl
get-numbered n (m ∷ ms) zero = ap (λ (k : ℕ). let f : FileModule = (k, m) in Some f) (omega arith)
get-numbered n (m ∷ ms) (suc i) =
    get-numbered (n + 1) ms i ∙ ap (λ (k : ℕ). option_map (λ (x : Parts). let f : FileModule = (k, x) in f) (slice_get ms i)) (omega arith)

member-list : (o : Option Parts) → option_to_list o ≡ member_at o
member-list None = refl
member-list (Some m) = refl

pub members-chosen : (ms : List Parts) (chosen : List ℕ) → at_positions ms chosen ≡ members_at ms chosen
members-chosen ms [] = refl
members-chosen ms (n ∷ chosen) =
    ap (λ (xs : List Parts). xs ++ at_positions ms chosen) (member-list (slice_get ms n))
    ∙ ap (λ (xs : List Parts). member_at (slice_get ms n) ++ xs) (members-chosen ms chosen)
