-- The entries that are left of a link come from the modules that they came from before.
use Rattle.std.proofs.Common.{◌≡◌, ◌⊎◌, inl, inr, ℕ, zero, suc, ◌+◌, ◌-◌, ◌<◌, ◌≤◌, List, [], ◌∷◌, map, take, drop, Option, Some, None, Bool, true}
use Rattle.std.proofs.Common.{false, refl, sym, ap, subst, ◌∙◌, arith, cond, nat_lt, if◌then◌else◌, option_map}
use Rattle.std.specs.Prelude.{slice_get}
use Rattle.std.proofs.lemmas.Bool.Decides.{nat_tests}
use Rattle.std.proofs.lemmas.List.Sums.{sum_by-cons}
use Rattle.mufom_origins.specs.declared.origins.Origin.{Origin}
use Rattle.mufom_origins.specs.declared.origins.Place.{Place}
use Rattle.mufom_origins.specs.Origins.{origins_left}
use Rattle.mufom_origins.specs.Places.{place_from, place_in, set_from, set_marks}

-- a mark that is set is not before the first
set-after : (base : ℕ) (marks : List Bool) (number old : ℕ) → slice_get (set_from base marks) number ≡ Some old → base ≤ old
set-after base [] number old there = absurd cc
set-after base (true ∷ marks) zero old there = let same : base ≡ old = cc in omega (arith, same)
set-after base (true ∷ marks) (suc number) old there = let more = set-after (suc base) marks number old there in omega (arith, more)
set-after base (false ∷ marks) number old there = let more = set-after (suc base) marks number old there in omega (arith, more)

-- it is one of the first marks, or one of the others
pub record IsFirst (count base number old : ℕ) (marks : List Bool) : Type 0 where
  pub within : number < set_marks (take count marks)
  pub from : base ≤ old
  pub below : old < base + count

pub record IsLater (count base number old : ℕ) (marks : List Bool) : Type 0 where
  pub past : set_marks (take count marks) ≤ number
  pub after : base + count ≤ old
  pub there : slice_get (set_from (base + count) (drop count marks)) (number - set_marks (take count marks)) ≡ Some old

set-one : (count : ℕ) (marks : List Bool) → set_marks (take (suc count) (true ∷ marks)) ≡ 1 + set_marks (take count marks)
set-one count marks = sum_by-cons (λ (mark : Bool). cond mark 1 0) true (take count marks)

set-either : (count base : ℕ) (marks : List Bool) (number old : ℕ) → slice_get (set_from base marks) number ≡ Some old
    → IsFirst count base number old marks ⊎ IsLater count base number old marks
set-either zero base marks number old there = inr (record {
  past = omega arith;
  after = (let more = set-after base marks number old there in omega (arith, more));
  there = (let none : base + 0 ≡ base = omega arith in
      let all : number - 0 ≡ number = omega arith in
      subst (λ (b : ℕ). slice_get (set_from b marks) (number - 0) ≡ Some old) (sym none)
      (subst (λ (n : ℕ). slice_get (set_from base marks) n ≡ Some old) (sym all) there));
})
set-either (suc count) base [] number old there = absurd cc
set-either (suc count) base (true ∷ marks) zero old there = let same : base ≡ old = cc in inl (record {
  within = (let one = set-one count marks in omega (arith, one));
  from = omega (arith, same);
  below = omega (arith, same);
})
set-either (suc count) base (true ∷ marks) (suc number) old there = by (set-either count (suc base) marks number old there) where
  by : IsFirst count (suc base) number old marks ⊎ IsLater count (suc base) number old marks
      → IsFirst (suc count) base (suc number) old (true ∷ marks) ⊎ IsLater (suc count) base (suc number) old (true ∷ marks)
  by (inl is) = let one = set-one count marks in
      inl (record { within = omega (arith, one, is.within); from = omega (arith, is.from); below = omega (arith, is.below) })
  by (inr is) = let one = set-one count marks in inr (record {
    past = omega (arith, one, is.past);
    after = omega (arith, is.after);
    there = (let same : suc base + count ≡ base + suc count = omega arith in
        let less : number - set_marks (take count marks) ≡ suc number - set_marks (take (suc count) (true ∷ marks)) = omega (arith, one) in
        subst (λ (n : ℕ). slice_get (set_from (base + suc count) (drop count marks)) n ≡ Some old) less
        (subst (λ (b : ℕ). slice_get (set_from b (drop count marks)) (number - set_marks (take count marks)) ≡ Some old) same is.there));
  })
set-either (suc count) base (false ∷ marks) number old there = by (set-either count (suc base) marks number old there) where
  by : IsFirst count (suc base) number old marks ⊎ IsLater count (suc base) number old marks
      → IsFirst (suc count) base number old (false ∷ marks) ⊎ IsLater (suc count) base number old (false ∷ marks)
  by (inl is) = inl (record { within = is.within; from = omega (arith, is.from); below = omega (arith, is.below) })
  by (inr is) = inr (record {
    past = is.past;
    after = omega (arith, is.after);
    there = (let same : suc base + count ≡ base + suc count = omega arith in
        subst (λ (b : ℕ). slice_get (set_from b (drop count marks)) (number - set_marks (take count marks)) ≡ Some old) same is.there);
  })

-- ---- the module of an entry that is left

abbrev module_of : Option Place → Option ℕ
module_of place = option_map (λ (p : Place). p.«module») place

-- how many entries are left of each list
abbrev counts_left : List Bool → List ℕ → List ℕ
counts_left marks [] = []
counts_left marks (count ∷ counts) = set_marks (take count marks) ∷ counts_left (drop count marks) counts

first-list : (position count number : ℕ) (rest : Option Place) → number < count
    → module_of (if nat_lt number count then Some (record { «module» = position; entry = number }) else rest) ≡ Some position
first-list position count number rest less =
    let test : nat_lt number count ≡ true = grind (arith, nat_tests) in
    ap (λ (b : Bool). module_of (let at : Place = record { «module» = position; entry = number } in if b then Some at else rest)) test

later-list : (position count number : ℕ) (rest : Option Place) → count ≤ number
    → module_of (if nat_lt number count then Some (record { «module» = position; entry = number }) else rest) ≡ module_of rest
later-list position count number rest past =
    let test : nat_lt number count ≡ false = grind (arith, nat_tests) in
    ap (λ (b : Bool). module_of (let at : Place = record { «module» = position; entry = number } in if b then Some at else rest)) test

left-from : (position : ℕ) (counts : List ℕ) (base : ℕ) (marks : List Bool) (number old : ℕ) → slice_get (set_from base marks) number ≡ Some old
    → module_of (place_from position (counts_left marks counts) number) ≡ module_of (place_from position counts (old - base))
left-from position [] base marks number old there = refl
left-from position (count ∷ counts) base marks number old there =
    by (set-either count base marks number old there)
    (λ (n : ℕ) (h : slice_get (set_from (base + count) (drop count marks)) n ≡ Some old). left-from (suc position) counts (base + count) (drop count marks)
    n old h)
  where
    by : IsFirst count base number old marks ⊎ IsLater count base number old marks
        → ((n : ℕ) → slice_get (set_from (base + count) (drop count marks)) n ≡ Some old
        → module_of (place_from (suc position) (counts_left (drop count marks) counts) n) ≡ module_of (place_from (suc position) counts (old - (base + count))))
        → module_of (place_from position (counts_left marks (count ∷ counts)) number) ≡ module_of (place_from position (count ∷ counts) (old - base))
    by (inl is) later =
        first-list position (set_marks (take count marks)) number
        (place_from (suc position) (counts_left (drop count marks) counts) (number - set_marks (take count marks))) is.within
        ∙ sym (first-list position count (old - base) (place_from (suc position) counts (old - base - count)) (omega (arith, is.from, is.below)))
    by (inr is) later =
        let same : old - (base + count) ≡ old - base - count = omega arith in
        later-list position (set_marks (take count marks)) number
        (place_from (suc position) (counts_left (drop count marks) counts) (number - set_marks (take count marks))) is.past
        ∙ later (number - set_marks (take count marks)) is.there
        ∙ ap (λ (n : ℕ). module_of (place_from (suc position) counts n)) same
        ∙ sym (later-list position count (old - base) (place_from (suc position) counts (old - base - count)) (omega (arith, is.after)))

sections-counted : (origins : List Origin) (sections publics : List Bool)
    → map (λ (o : Origin). o.sections) (origins_left sections publics origins) ≡ counts_left sections (map (λ (o : Origin). o.sections) origins)
sections-counted [] sections publics = refl
sections-counted (o ∷ origins) sections publics = ap (λ (counts : List ℕ). set_marks (take o.sections sections) ∷ counts)
    (sections-counted origins (drop o.sections sections) (drop o.publics publics))

publics-counted : (origins : List Origin) (sections publics : List Bool)
    → map (λ (o : Origin). o.publics) (origins_left sections publics origins) ≡ counts_left publics (map (λ (o : Origin). o.publics) origins)
publics-counted [] sections publics = refl
publics-counted (o ∷ origins) sections publics = ap (λ (counts : List ℕ). set_marks (take o.publics publics) ∷ counts)
    (publics-counted origins (drop o.sections sections) (drop o.publics publics))

left-in : (counts : List ℕ) (marks : List Bool) (number old : ℕ) → slice_get (set_from 0 marks) number ≡ Some old
    → module_of (place_in (counts_left marks counts) number) ≡ module_of (place_in counts old)
left-in counts marks number old there =
    let all : old - 0 ≡ old = omega arith in
    left-from 0 counts 0 marks number old there ∙ ap (λ (n : ℕ). module_of (place_from 0 counts n)) all

pub sections-left : (origins : List Origin) (sections publics : List Bool) (number old : ℕ) → slice_get (set_from 0 sections) number ≡ Some old
    → option_map (λ (p : Place). p.«module») (place_in (map (λ (o : Origin). o.sections) (origins_left sections publics origins)) number)
    ≡ option_map (λ (p : Place). p.«module») (place_in (map (λ (o : Origin). o.sections) origins) old)
sections-left origins sections publics number old there =
    ap (λ (counts : List ℕ). module_of (place_in counts number)) (sections-counted origins sections publics)
    ∙ left-in (map (λ (o : Origin). o.sections) origins) sections number old there

pub publics-left : (origins : List Origin) (sections publics : List Bool) (number old : ℕ) → slice_get (set_from 0 publics) number ≡ Some old
    → option_map (λ (p : Place). p.«module») (place_in (map (λ (o : Origin). o.publics) (origins_left sections publics origins)) number)
    ≡ option_map (λ (p : Place). p.«module») (place_in (map (λ (o : Origin). o.publics) origins) old)
publics-left origins sections publics number old there =
    ap (λ (counts : List ℕ). module_of (place_in counts number)) (publics-counted origins sections publics)
    ∙ left-in (map (λ (o : Origin). o.publics) origins) publics number old there
