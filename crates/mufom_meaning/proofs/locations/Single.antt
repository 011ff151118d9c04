-- A list has one location by a plan at most.
use Rattle.std.proofs.Common.{◌≡◌, ℕ, List, [], ◌∷◌, map, Option, Some, None, refl, sym, ◌∙◌, ap, subst}
use Rattle.std.specs.Prelude.{◌^◌, option_to_list}
use Rattle.mufom_debug.specs.Marks.{marks_of}
use Rattle.mufom_debug.proofs.Rebuilt.{same_items}
use Rattle.mufom_meaning.specs.Placed.{planned_bases}
use Rattle.mufom_meaning.specs.declared.located.PublicValue.{PublicValue}
use Rattle.mufom_meaning.specs.declared.located.LocatedParts.{LocatedParts}
use Rattle.mufom_meaning.specs.Flat.{width}
use Rattle.mufom_meaning.specs.Readings.{readings, PublicReading}
use Rattle.mufom_meaning.specs.AddressMap.{AreRunsOf, address_map}
use Rattle.mufom_meaning.specs.Location.{Header, located_public}
use Rattle.mufom_meaning.specs.LocationLaws.{LocationIsSingle}
use Rattle.mufom_numbers.proofs.Choices.{some_same}
use Rattle.mufom_meaning.proofs.locations.CellRuns.{rows_are_single}

head_same : {A : Type 0} (x y : A) (xs ys : List A) → ◌≡◌ {A = List A} (x ∷ xs) (y ∷ ys) → x ≡ y
head_same x y xs ys e = cc

tail_same : {A : Type 0} (x y : A) (xs ys : List A) → ◌≡◌ {A = List A} (x ∷ xs) (y ∷ ys) → xs ≡ ys
tail_same x y xs ys e = cc

pub map_same : {A B : Type 0} (f : A → B) → ((x y : A) → f x ≡ f y → x ≡ y) → (xs ys : List A) → map f xs ≡ map f ys → xs ≡ ys
map_same f same [] [] e = refl
map_same f same [] (y ∷ ys) e = absurd cc
map_same f same (x ∷ xs) [] e = absurd cc
map_same f same (x ∷ xs) (y ∷ ys) e =
    let a : x ≡ y = same x y (head_same (f x) (f y) (map f xs) (map f ys) e) in
    let b : xs ≡ ys = map_same f same xs ys (tail_same (f x) (f y) (map f xs) (map f ys) e) in λ i. a i ∷ b i

public_same : (p q : PublicValue) → located_public p ≡ located_public q → p ≡ q
public_same p q e =
    let v : p.value ≡ q.value = some_same p.value q.value (ap (λ (x : PublicReading). x.value) e) in
    λ i. record { name = (e i).name; value = v i; notes = (e i).notes }

abbrev some : ℕ → Option ℕ
some v = Some v

start_same : (o u : Option ℕ) → map some (option_to_list o) ≡ map some (option_to_list u) → o ≡ u
start_same None None e = refl
start_same None (Some v) e = absurd cc
start_same (Some v) None e = absurd cc
start_same (Some v) (Some w) e = head_same (Some v) (Some w) [] [] e

-- located parts with the same header and readings are the same, if their sections and runs are
module _ (r q : LocatedParts) (same : ◌≡◌ {A = Header} (r.processor, r.name, r.maus, r.order) (q.processor, q.name, q.maus, q.order)) where
  pub same_order : r.order ≡ q.order
  same_order = λ i. (same i).3

  pub same_parts : r.sections ≡ q.sections → map located_public r.publics ≡ map located_public q.publics
      → map (λ v. Some v) (option_to_list r.start) ≡ map (λ v. Some v) (option_to_list q.start)
      → map (λ mark. Some mark) (marks_of r.debug) ≡ map (λ mark. Some mark) (marks_of q.debug) → r.runs ≡ q.runs → r ≡ q
  same_parts sections values starts records runs =
      let order = same_order in
      let publics : r.publics ≡ q.publics = map_same located_public public_same r.publics q.publics values in
      let start : r.start ≡ q.start = start_same r.start q.start starts in
      let marks : marks_of r.debug ≡ marks_of q.debug = map_same (λ mark. Some mark) some_same (marks_of r.debug) (marks_of q.debug) records in
      let debug : r.debug ≡ q.debug = same_items r.debug q.debug marks in
      λ i. record {
        processor = (same i).0;
        name = (same i).1;
        maus = (same i).2;
        order = order i;
        sections = sections i;
        publics = publics i;
        runs = runs i;
        start = start i;
        debug = debug i;
      }

pub location_is_single : LocationIsSingle
location_is_single ms plan r q h k =
    let first : ◌≡◌ {A = Header} (r.processor, r.name, r.maus, r.order) (q.processor, q.name, q.maus, q.order) = some_same _ _ (sym h.first ∙ k.first) in
    let order = same_order r q first in
    let rows : AreRunsOf (address_map q.order (2 ^ width ms) (readings ms (planned_bases ms plan)).steps) r.runs
    = subst (λ o. AreRunsOf (address_map o (2 ^ width ms) (readings ms (planned_bases ms plan)).steps) r.runs) order h.rows in
    let runs : r.runs ≡ q.runs = rows_are_single (address_map q.order (2 ^ width ms) (readings ms (planned_bases ms plan)).steps) r.runs q.runs rows k.rows in
    same_parts r q first (h.sections ∙ sym k.sections) (h.publics ∙ sym k.publics) (h.start ∙ sym k.start) (h.debug ∙ sym k.debug) runs
