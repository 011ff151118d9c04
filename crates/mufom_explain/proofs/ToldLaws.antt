-- Lists of mentions, one for each name, of which the list of one name changes; and entries that are looked at one after another.
use Rattle.std.proofs.Common.{◌≡◌, ℕ, ◌+◌, ◌<◌, List, [], ◌∷◌, ◌++◌, length, map, take, get_or, replicate, Some, None, Bool, true, false, ◌||◌, if◌then◌else◌}
use Rattle.std.proofs.Common.{refl, sym, ap, subst, ◌∙◌, arith}
use Rattle.std.specs.Prelude.{slice_get, slice_set}
use Rattle.std.specs.List.{IsDistinct, list_any}
use Rattle.std.specs.Str.{bytes_eq}
use Rattle.std.proofs.lemmas.Grind.{common_steps}
use Rattle.std.proofs.lemmas.List.{get_or-map, length-map, map_more, take-map, take_more}
use Rattle.std.proofs.lemmas.List.Folds.{list_any-append}
use Rattle.std.proofs.lemmas.Option.{get_or_from_slice_get, slice_get_within}
use Rattle.std.proofs.lemmas.Slice.Eq.{bytes_eq-Decides}
use Rattle.mufom_names.specs.declared.name.Public.{Public}
use Rattle.mufom_names.specs.declared.name.Reference.{Reference}
use Rattle.mufom_names.specs.Index.{HaveDistinctKeys, numbered_from, position_of}
use Rattle.mufom_names.proofs.PositionLaws.{keys-numbered}
use Rattle.mufom_module.specs.declared.module.Parts.{Parts}
use Rattle.mufom_image_values.proofs.NameLaws.{place-none, place-some}
use Rattle.mufom_image.proofs.PlaceLaws.{changed, unchanged}
use Rattle.mufom_explain.specs.declared.mention.Mention.{Mention}
use Rattle.mufom_explain.specs.declared.modules.FlatModule.{FlatModule}
use Rattle.mufom_explain.specs.Flat.{parts_of}
use Rattle.mufom_explain.specs.Mentions.{defines_among, mentions_of, refers_among}
use Rattle.mufom_explain.specs.Noting.{Told, noted, noted_for}

-- ---- a mention of a name

-- the place of a name is one of the names
pub place-inside : (names : List (List ℕ)) (name : List ℕ) (place : ℕ) → position_of (numbered_from 0 names) name ≡ Some place → place < length names
place-inside names name place there =
    let found = place-some 0 names name place there in
    let same = found.1 in
    let inside = slice_get_within names found.0 name found.2 in
    omega (arith, same, inside)

module _ (told : Told) (name : List ℕ) (m : Mention) (names : List (List ℕ)) where
  others : (y : List ℕ) → bytes_eq name y ≡ false → noted_for told name m y ≡ told y
  others y differ = ap (λ b. if b then noted (told y) m else told y) differ

  -- no list changes for a name that is not looked for
  pub noted-nowhere : position_of (numbered_from 0 names) name ≡ None → map told names ≡ map (noted_for told name m) names
  noted-nowhere none = sym (unchanged told (noted_for told name m) name others names (place-none 0 names name none))

  -- the list at the place of the name changes
  pub noted-there : (place : ℕ) → position_of (numbered_from 0 names) name ≡ Some place → HaveDistinctKeys (numbered_from 0 names)
      → (lists : List (List Mention)) → lists ≡ map told names → (old : List Mention) → old ≡ get_or lists place old
      → (new : List Mention) → new ≡ noted old m → slice_set lists place new ≡ map (noted_for told name m) names
  noted-there place there once lists are old is new more =
      let found = place-some 0 names name place there in
      let same : found.0 ≡ place = let e = found.1 in omega (arith, e) in
      let at = ap (slice_get names) (sym same) ∙ found.2 in
      let distinct = subst (IsDistinct bytes_eq) (keys-numbered 0 names) once in
      let inside = slice_get_within names place name at in
      let own = is ∙ ap (λ (ls : List (List Mention)). get_or ls place old) are ∙ get_or-map told names place name old inside
      ∙ ap told (get_or_from_slice_get names place name name at) in
      let here : noted (told name) m ≡ noted_for told name m name
      = sym (ap (λ b. if b then noted (told name) m else told name) ((bytes_eq-Decides name name).1 refl)) in
      (λ i. slice_set (are i) place (more i))
      ∙ ap (λ (ms : List Mention). slice_set (map told names) place (noted ms m)) own
      ∙ ap (slice_set (map told names) place) here
      ∙ sym (changed told (noted_for told name m) name others names place distinct at)

-- ---- one entry more

or-false : (b : Bool) → (b || false) ≡ b
or-false true = refl
or-false false = refl

pub any-more : {X : Type 0} (test : X → Bool) (xs : List X) (i : ℕ) (x : X) → i < length xs → x ≡ get_or xs i x
    → list_any test (take (i + 1) xs) ≡ (list_any test (take i xs) || test x)
any-more test xs i x inside is =
    ap (list_any test) (take_more xs i x inside ∙ ap (λ y. take i xs ++ y ∷ []) (sym is))
    ∙ list_any-append test (take i xs) (x ∷ [])
    ∙ ap (λ b. list_any test (take i xs) || b) (or-false (test x))

pub defines-more : (publics : List Public) (i : ℕ) (p : Public) → i < length publics → p ≡ get_or publics i p → (w : List ℕ)
    → defines_among (take (i + 1) publics) w ≡ (defines_among (take i publics) w || bytes_eq p.name w)
defines-more publics i p inside is w = any-more (λ (q : Public). bytes_eq q.name w) publics i p inside is

pub refers-more : (references : List Reference) (i : ℕ) (r : Reference) → i < length references → r ≡ get_or references i r → (w : List ℕ)
    → refers_among (take (i + 1) references) w ≡ (refers_among (take i references) w || bytes_eq r.name w)
refers-more references i r inside is w = any-more (λ (q : Reference). bytes_eq q.name w) references i r inside is

-- ---- one module more

pub parts-more : (flat : List FlatModule) (i : ℕ) (f : FlatModule) → i < length flat → f ≡ get_or flat i f
    → take (i + 1) (parts_of flat) ≡ take i (parts_of flat) ++ f.parts.now ∷ []
parts-more flat i f inside is =
    let parts : FlatModule → Parts = λ g. g.parts.now in
    take-map parts (i + 1) flat ∙ map_more parts flat i f inside
    ∙ (λ j. sym (take-map parts i flat) j ++ parts (sym is j) ∷ [])

pub before-count : (flat : List FlatModule) (i : ℕ) → i < length flat → length (take i (parts_of flat)) ≡ i
before-count flat i inside =
    let parts : FlatModule → Parts = λ g. g.parts.now in
    let long = length-map flat parts in
    let less : i < length (parts_of flat) = omega (arith, long, inside) in
    grind (arith, common_steps, less)

pub none-told : (names : List (List ℕ)) → replicate (length names) [] ≡ map (mentions_of []) names
none-told [] = refl
none-told (name ∷ names) = ap (λ more. [] ∷ more) (none-told names)
