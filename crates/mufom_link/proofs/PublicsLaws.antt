-- An index of names against the list of the names.
use Rattle.std.proofs.Common.{◌≡◌, ℕ, suc, ◌+◌, List, [], ◌∷◌, ◌++◌, length, Option, Some, None, is_some, is_none, Result, Ok, Err, Bool, true, false}
use Rattle.std.proofs.Common.{cond, ◌||◌, if◌then◌else◌, refl, sym, ap, ◌∙◌, append_assoc, append-nil, arith}
use Rattle.std.specs.Bool.{Decides}
use Rattle.std.specs.Str.{bytes_eq}
use Rattle.std.proofs.lemmas.Slice.Eq.{bytes_eq-Decides}
use Rattle.mufom_names.specs.Index.{Entry, position_of, with_entry, numbered_from}
use Rattle.mufom_plan.specs.Names.{has_name}
use Rattle.mufom_meaning.specs.LinkAnswer.{first_duplicate}
use Rattle.mufom_meaning.specs.Joined.{position_of as place_of}
use Rattle.mufom_refusals.specs.declared.link.LinkRefusal.{LinkRefusal}
use Rattle.mufom_refusals.specs.declared.link.LinkRefusal.TheVariants.{Mismatch, Duplicate, DuplicateStart, NoMemory}
use Rattle.mufom_link.specs.Publics.{indexed, IsRefusedName}

-- ---- duplicates

-- the index has the names of the list
abbrev Knows : List Entry → List (List ℕ) → Type 0
Knows entries earlier = (name : List ℕ) → is_some (position_of entries name) ≡ has_name earlier name

some-push : (entries : List Entry) (key : List ℕ) (n : ℕ) (name : List ℕ)
    → is_some (position_of (entries ++ (key, n) ∷ []) name) ≡ (bytes_eq name key || is_some (position_of entries name))
some-push [] key n name = by_case (bytes_eq name key) where
  by_case : (b : Bool) → is_some (cond b (Some n) None) ≡ (b || false)
  by_case true = refl
  by_case false = refl
some-push (e ∷ es) key n name = by_case (bytes_eq name e.0) (bytes_eq name key) (some-push es key n name) where
  by_case : (b c : Bool) → is_some (position_of (es ++ (key, n) ∷ []) name) ≡ (c || is_some (position_of es name))
      → is_some (cond b (Some e.1) (position_of (es ++ (key, n) ∷ []) name)) ≡ (c || is_some (cond b (Some e.1) (position_of es name)))
  by_case true true rest = refl
  by_case true false rest = refl
  by_case false c rest = rest

knows-push : (entries : List Entry) (earlier : List (List ℕ)) (key : List ℕ) (n : ℕ) → Knows entries earlier → Knows (entries ++ (key, n) ∷ []) (key ∷ earlier)
knows-push entries earlier key n known name = some-push entries key n name ∙ ap (λ b. bytes_eq name key || b) (known name)

-- the result of indexing names
abbrev outcome : Option (List ℕ) → List Entry → Result (List Entry) (List ℕ)
outcome None after = Ok after
outcome (Some name) after = Err name

-- the same of a name and those after it; the test is whether the name occurs earlier
abbrev outcome_at : Bool → List ℕ → List (List ℕ) → List (List ℕ) → List Entry → Result (List Entry) (List ℕ)
outcome_at b name earlier names after = outcome (if b then Some name else first_duplicate (name ∷ earlier) names) after

indexed-is : (entries : List Entry) (earlier : List (List ℕ)) (n : ℕ) (names : List (List ℕ)) → Knows entries earlier
    → indexed entries n names ≡ outcome (first_duplicate earlier names) (entries ++ numbered_from n names)
indexed-is entries earlier n [] known = ap (λ (es : List Entry). outcome None es) (sym (append-nil entries))
indexed-is entries earlier n (name ∷ names) known =
    by_case (position_of entries name) (sym (known name)) (indexed-is (entries
    ++ (name, n) ∷ []) (name ∷ earlier) (suc n) names (knows-push entries earlier name n known)) where
      by_case : (o : Option ℕ) → has_name earlier name ≡ is_some o
          → indexed (entries ++ (name, n) ∷ []) (suc n) names ≡ outcome (first_duplicate (name ∷ earlier) names) ((entries ++ (name, n) ∷ [])
          ++ numbered_from (suc n) names)
          → (if is_some o then Err name else indexed (if is_none o then entries ++ (name, n) ∷ [] else entries) (suc n) names)
          ≡ outcome_at (has_name earlier name) name earlier names (entries ++ (name, n) ∷ numbered_from (suc n) names)
      by_case (Some p) there rest = sym (ap (λ b. outcome_at b name earlier names (entries ++ (name, n) ∷ numbered_from (suc n) names)) there)
      by_case None there rest =
          rest ∙ ap (outcome (first_duplicate (name ∷ earlier) names)) (append_assoc entries ((name, n) ∷ []) (numbered_from (suc n) names))
          ∙ sym (ap (λ b. outcome_at b name earlier names (entries ++ (name, n) ∷ numbered_from (suc n) names)) there)

-- if all names are new, none occurs twice, and the index has each with its position
pub indexed-all : (names : List (List ℕ)) (after : List Entry) → indexed [] 0 names ≡ Ok after → (first_duplicate [] names ≡ None)
    × (after ≡ numbered_from 0 names)
indexed-all names after e = by_case (first_duplicate [] names) refl (sym (indexed-is [] [] 0 names (λ name. refl)) ∙ e) where
  by_case : (o : Option (List ℕ)) → first_duplicate [] names ≡ o → outcome o (numbered_from 0 names) ≡ Ok after → (first_duplicate [] names ≡ None)
      × (after ≡ numbered_from 0 names)
  by_case None f h = let same : numbered_from 0 names ≡ after = cc in (f, sym same)
  by_case (Some name) f h = absurd cc

-- if a name is not new, it is the first that occurs earlier too
pub indexed-fails : (names : List (List ℕ)) (name : List ℕ) → indexed [] 0 names ≡ Err name → first_duplicate [] names ≡ Some name
indexed-fails names name e = by_case (first_duplicate [] names) refl (sym (indexed-is [] [] 0 names (λ name. refl)) ∙ e) where
  by_case : (o : Option (List ℕ)) → first_duplicate [] names ≡ o → outcome o (numbered_from 0 names) ≡ Err name → first_duplicate [] names ≡ Some name
  by_case None f h = absurd cc
  by_case (Some other) f h = let same : other ≡ name = cc in f ∙ ap Some same

-- ---- names after names

pub indexed-append : (entries : List Entry) (n : ℕ) (xs ys : List (List ℕ)) (after : List Entry) → indexed entries n xs ≡ Ok after
    → indexed entries n (xs ++ ys) ≡ indexed after (n + length xs) ys
indexed-append entries n [] ys after e =
    let same : entries ≡ after = cc in
    let last : n ≡ n + 0 = omega arith in
    ap (λ es. indexed es n ys) same ∙ ap (λ k. indexed after k ys) last
indexed-append entries n (x ∷ xs) ys after e = by_case (position_of entries x) e (λ es f. indexed-append es (suc n) xs ys after f) where
  next : suc n + length xs ≡ n + length (x ∷ xs)
  next = omega arith

  by_case : (o : Option ℕ) → (if is_some o then Err x else indexed (if is_none o then entries ++ (x, n) ∷ [] else entries) (suc n) xs) ≡ Ok after
      → ((es : List Entry) → indexed es (suc n) xs ≡ Ok after → indexed es (suc n) (xs ++ ys) ≡ indexed after (suc n + length xs) ys)
      → (if is_some o then Err x else indexed (if is_none o then entries ++ (x, n) ∷ [] else entries) (suc n) (xs ++ ys))
      ≡ indexed after (n + length (x ∷ xs)) ys
  by_case (Some p) h rest = absurd cc
  by_case None h rest = rest (entries ++ (x, n) ∷ []) h ∙ ap (λ k. indexed after k ys) next

pub indexed-stops : (entries : List Entry) (n : ℕ) (xs ys : List (List ℕ)) (name : List ℕ) → indexed entries n xs ≡ Err name
    → indexed entries n (xs ++ ys) ≡ Err name
indexed-stops entries n [] ys name e = absurd cc
indexed-stops entries n (x ∷ xs) ys name e = by_case (position_of entries x) e (λ es f. indexed-stops es (suc n) xs ys name f) where
  by_case : (o : Option ℕ) → (if is_some o then Err x else indexed (if is_none o then entries ++ (x, n) ∷ [] else entries) (suc n) xs) ≡ Err name
      → ((es : List Entry) → indexed es (suc n) xs ≡ Err name → indexed es (suc n) (xs ++ ys) ≡ Err name)
      → (if is_some o then Err x else indexed (if is_none o then entries ++ (x, n) ∷ [] else entries) (suc n) (xs ++ ys)) ≡ Err name
  by_case (Some p) h rest = h
  by_case None h rest = rest (entries ++ (x, n) ∷ []) h

-- one name more, which the index has already or not
pub indexed-known : (entries : List Entry) (n : ℕ) (name : List ℕ) (names : List (List ℕ)) → is_some (position_of entries name) ≡ true
    → indexed entries n (name ∷ names) ≡ Err name
indexed-known entries n name names e = ap (λ b. if b then Err name else indexed (with_entry entries name n) (suc n) names) e

pub indexed-new : (entries : List Entry) (n : ℕ) (name : List ℕ) (names : List (List ℕ)) → is_some (position_of entries name) ≡ false
    → indexed entries n (name ∷ names) ≡ indexed (with_entry entries name n) (n + 1) names
indexed-new entries n name names e =
    let next : suc n ≡ n + 1 = omega arith in
    ap (λ b. if b then Err name else indexed (with_entry entries name n) (suc n) names) e ∙ ap (λ k. indexed (with_entry entries name n) k names) next

-- a refusal by some names is one by these and more
pub refused-later : (entries : List Entry) (n : ℕ) (xs ys : List (List ℕ)) (e : LinkRefusal) → IsRefusedName entries n xs e
    → IsRefusedName entries n (xs ++ ys) e
refused-later entries n xs ys NoMemory h = tt
refused-later entries n xs ys (Duplicate name) h = indexed-stops entries n xs ys name h
refused-later entries n xs ys (Mismatch first other) h = h
refused-later entries n xs ys DuplicateStart h = h

-- and one by names that give the same
pub refused-same : (entries es : List Entry) (n k : ℕ) (xs ys : List (List ℕ)) (e : LinkRefusal) → indexed entries n xs ≡ indexed es k ys
    → IsRefusedName entries n xs e → IsRefusedName es k ys e
refused-same entries es n k xs ys NoMemory same h = tt
refused-same entries es n k xs ys (Duplicate name) same h = sym same ∙ h
refused-same entries es n k xs ys (Mismatch first other) same h = h
refused-same entries es n k xs ys DuplicateStart same h = h

-- ---- what an index of numbered keys finds

pub position-numbered : (n : ℕ) (keys : List (List ℕ)) (key : List ℕ)
    → position_of (numbered_from n keys) key ≡ (if has_name keys key then Some (n + place_of (bytes_eq key) keys) else None)
position-numbered n [] key = refl
position-numbered n (x ∷ xs) key = by_case (bytes_eq key x) (position-numbered (suc n) xs key) where
  by_case : (b : Bool) → position_of (numbered_from (suc n) xs) key ≡ (if has_name xs key then Some (suc n + place_of (bytes_eq key) xs) else None)
      → cond b (Some n) (position_of (numbered_from (suc n) xs) key)
      ≡ (if b || has_name xs key then Some (n + cond b 0 (suc (place_of (bytes_eq key) xs))) else None)
  by_case true rest = let e : n ≡ n + 0 = omega arith in ap (λ k. Some k) e
  by_case false rest =
      let e : suc n + place_of (bytes_eq key) xs ≡ n + suc (place_of (bytes_eq key) xs) = omega arith in
      rest ∙ ap (λ k. if has_name xs key then Some k else None) e

-- two tests that decide the same are the same
pub decides-same : {P Q : Type 0} (a b : Bool) → Decides a P → Decides b Q → (P → Q) → (Q → P) → a ≡ b
decides-same true true p q there back = refl
decides-same false false p q there back = refl
decides-same true false p q there back = sym (q.1 (there (p.0 refl)))
decides-same false true p q there back = p.1 (back (q.0 refl))

pub place_of-agrees : {A : Type 0} (p q : A → Bool) → ((x : A) → p x ≡ q x) → (xs : List A) → place_of p xs ≡ place_of q xs
place_of-agrees p q same [] = refl
place_of-agrees p q same (x ∷ xs) = let a = same x in let b = place_of-agrees p q same xs in λ i. if a i then 0 else suc (b i)

-- the same search with the two names the other way round
pub place-turned : (name : List ℕ) (names : List (List ℕ)) → place_of (bytes_eq name) names ≡ place_of (λ other. bytes_eq other name) names
place-turned name names = place_of-agrees (bytes_eq name) (λ other. bytes_eq other name) turned names where
  turned : (other : List ℕ) → bytes_eq name other ≡ bytes_eq other name
  turned other = decides-same (bytes_eq name other) (bytes_eq other name) (bytes_eq-Decides name other) (bytes_eq-Decides other name) (λ e. sym e) (λ e. sym e)
