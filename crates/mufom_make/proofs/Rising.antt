-- A walk whose items are loaded one after another at rising addresses, each inside its section, meets no fact.
use Rattle.std.proofs.Common.{◌≡◌, ℕ, zero, suc, ◌+◌, ◌%◌, ◌<◌, ◌≤◌, ◌⊎◌, inl, inr, List, [], ◌∷◌, Option, Some, true, false, sym, ◌∙◌, subst, arith}
use Rattle.std.proofs.Math.Nat.{mod-eq_of_lt}
use Rattle.mufom_expr.specs.declared.token.FieldKind.{FieldKind}
use Rattle.mufom_loads.specs.declared.load.Item.{Item}
use Rattle.mufom_loads.specs.declared.load.Item.TheVariants.{Literal, Field}
use Rattle.mufom_loads.specs.Lengths.{byte_count}
use Rattle.mufom_module.specs.declared.module.Parts.{Parts}
use Rattle.mufom_meaning.specs.declared.located.Site.TheVariants as sites
use Rattle.mufom_meaning.specs.Facts.{load_outside, loaded_twice, overflow}
use Rattle.mufom_meaning.specs.Fields.{fits}
use Rattle.mufom_meaning.specs.Flat.{Sited}
use Rattle.mufom_meaning.specs.Stands.{StandsIn, put_back, IsStepAfter, IsLoadedAt, HasZeroDivisor, StandsInWalk}
use Rattle.mufom_meaning.specs.Steps.{Step, counter_step, item_step, steps, counter}
use Rattle.mufom_meaning.specs.Values.{Setting, value, has_zero_divisor}
use Rattle.mufom_meaning.specs.Walk.{base_number, size_at, counted_from, addresses_at, loaded_addresses}
use Rattle.mufom_numbers.proofs.Choices.{some_same}
use Rattle.mufom_meaning.proofs.Members.{In, In-at, In-append, map-In}

-- an expression in an item has no divisor of value 0, and its value fits the field
abbrev pub IsFitting : Setting → Sited → ℕ → Item → Type 0
IsFitting s site at (Literal bytes) = Unit {0}
IsFitting s site at (Field kind size t) =
    (has_zero_divisor s site (Some at) t ≡ false) × ((v : ℕ) → value s site (Some at) t ≡ Some v → fits s.modulus kind size v ≡ true)

-- an item is loaded at an address, inside its section and the address space
pub record IsInPlace (s : Setting) (earlier : List Step) (at : ℕ) (site : Sited) (section : ℕ) (item : Item) : Type 0 where
  pub counted : counter s earlier section ≡ Some at
  pub low : base_number s section ≤ at
  pub high : at + byte_count item ≤ base_number s section + size_at s section
  pub inside : at + byte_count item ≤ s.modulus
  pub fitting : IsFitting s site at item

-- each of the steps loads an item, the first at this address and each other where the one before it ends
abbrev pub IsRising : Setting → ℕ → List Step → List Step → Type 0
IsRising s at earlier [] = Unit {0}
IsRising s at earlier (counter_step site section t ∷ more) = ⊥
IsRising s at earlier (item_step site section item ∷ more) =
    IsInPlace s earlier at site section item × IsRising s (at + byte_count item) (item_step site section item ∷ earlier) more

counted_below : (n a x : ℕ) → In x (counted_from n a) → x < a + n
counted_below zero a x h = absurd h
counted_below (suc n) a x (inl e) = omega (arith, e)
counted_below (suc n) a x (inr h) = let later = counted_below n (suc a) x h in omega (arith, later)

module _ (s : Setting) where
  -- all that was loaded lies below the address
  abbrev IsBelow : ℕ → List Step → Type 0
  IsBelow at earlier = (a : ℕ) → In a (loaded_addresses s earlier) → a < at

  below_on : (at : ℕ) (earlier : List Step) (site : Sited) (section : ℕ) (item : Item) → IsBelow at earlier → IsInPlace s earlier at site section item
      → IsBelow (at + byte_count item) (item_step site section item ∷ earlier)
  below_on at earlier site section item below place a k =
      by_part (In-append a (addresses_at s.modulus (counter s earlier section) item) (loaded_addresses s earlier) k) where
        by_part : In a (addresses_at s.modulus (counter s earlier section) item) ⊎ In a (loaded_addresses s earlier) → a < at + byte_count item
        by_part (inr m) = let low = below a m in omega (arith, low)
        by_part (inl m) =
            let own = subst (λ (o : Option ℕ). In a (addresses_at s.modulus o item)) place.counted m in
            let there = map-In (λ x. x % s.modulus) a (counted_from (byte_count item) at) own in
            let low = counted_below (byte_count item) at there.0 there.1 in
            let inside = place.inside in
            let less : there.0 < s.modulus = omega (arith, low, inside) in
            let same : there.0 ≡ a = sym (mod-eq_of_lt less) ∙ there.2 in omega (arith, low, same)

  -- the rest of a rising walk, after some of its steps
  record IsThere (earlier rest : List Step) : Type 0 where
    at : ℕ
    below : IsBelow at earlier
    rising : IsRising s at earlier rest

  there_on : (earlier : List Step) (step : Step) (rest : List Step) → IsThere earlier (step ∷ rest) → IsThere (step ∷ earlier) rest
  there_on earlier (counter_step site section t) rest h = absurd h.rising
  there_on earlier (item_step site section item) rest h = record {
    at = h.at + byte_count item;
    below = below_on h.at earlier site section item h.below h.rising.0;
    rising = h.rising.1;
  }

  there_at : (from : ℕ) (earlier rest : List Step) → IsRising s from [] (put_back earlier rest) → IsThere earlier rest
  there_at from [] rest h = record { at = from; below = λ a k. absurd k; rising = h }
  there_at from (step ∷ earlier) rest h = there_on earlier step rest (there_at from earlier (step ∷ rest) h)

  module _ (ms : List Parts) (from : ℕ) (all : IsRising s from [] (steps ms)) where
    there : (earlier : List Step) (step : Step) (after : IsStepAfter ms earlier step) → IsThere earlier (step ∷ after.0)
    there earlier step after = there_at from earlier (step ∷ after.0) (subst (IsRising s from []) after.1 all)

    -- an item is in place at its counter, above all that was loaded before
    record IsFree (earlier : List Step) (site : Sited) (section at : ℕ) (item : Item) : Type 0 where
      place : IsInPlace s earlier at site section item
      below : IsBelow at earlier

    free : (earlier : List Step) (site : Sited) (section at : ℕ) (item : Item) → IsLoadedAt ms s earlier site section at item
        → IsFree earlier site section at item
    free earlier site section at item h =
        let h' = there earlier (item_step site section item) h.0 in
        let same : h'.at ≡ at = some_same h'.at at (sym h'.rising.0.counted ∙ h.1) in
        subst (λ (a : ℕ). IsFree earlier site section a item) same (record { place = h'.rising.0; below = h'.below })

    pub no_counter_divisor : (section : ℕ) → ¬ HasZeroDivisor ms s (sites.Counter section)
    no_counter_divisor section h = (there h.0 (counter_step h.1 section h.2) h.3).rising

    pub no_field_divisor : (section at : ℕ) → ¬ HasZeroDivisor ms s (sites.Field section at)
    no_field_divisor section at h =
        let none = (free h.0 h.1 section at (Field h.2 h.4 h.3) h.5).place.fitting.0 in
        let clash : false ≡ true = sym none ∙ h.6 in cc

    pub none_overflows : (section at : ℕ) (kind : FieldKind) (size v : ℕ) → ¬ StandsInWalk ms s (overflow section at kind size v)
    none_overflows section at kind size v h = h.5 ((free h.0 h.1 section at (Field kind size h.2) h.3).place.fitting.1 v h.4)

    pub none_outside : (section address : ℕ) → ¬ StandsInWalk ms s (load_outside section address)
    none_outside section address h = by_side (free h.0 h.1 section h.2 h.4 h.5).place h.7 where
      by_side : IsInPlace s h.0 h.2 h.1 section h.4
          → (h.2 + h.3 < base_number s section) ⊎ (base_number s section + size_at s section ≤ h.2 + h.3) → ⊥
      by_side place (inl out) = let low = place.low in omega (arith, low, out)
      by_side place (inr out) = let high = place.high in let less = h.6 in omega (arith, high, less, out)

    pub none_twice : (address : ℕ) → ¬ StandsInWalk ms s (loaded_twice address)
    none_twice address h = by_place (free h.0 h.1 h.2 h.3 h.5 h.6) h.9 where
      by_place : IsFree h.0 h.1 h.2 h.3 h.5
          → StandsIn address (loaded_addresses s h.0) ⊎ ((p : ℕ) × (p < h.4) × (address ≡ (h.3 + p) % s.modulus)) → ⊥
      by_place f twice =
          let inside = f.place.inside in
          let within = h.7 in
          let less : h.3 + h.4 < s.modulus = omega (arith, within, inside) in
          let own : address ≡ h.3 + h.4 = h.8 ∙ mod-eq_of_lt less in by_twice f own less twice where
            by_twice : IsFree h.0 h.1 h.2 h.3 h.5 → address ≡ h.3 + h.4 → h.3 + h.4 < s.modulus
                → StandsIn address (loaded_addresses s h.0) ⊎ ((p : ℕ) × (p < h.4) × (address ≡ (h.3 + p) % s.modulus)) → ⊥
            by_twice f own less (inl before) =
                let low = f.below address (In-at address (loaded_addresses s h.0) before.0 before.1) in omega (arith, low, own)
            by_twice f own less (inr same) =
                let earlier = same.1 in
                let fewer : h.3 + same.0 < s.modulus = omega (arith, earlier, less) in
                let there : address ≡ h.3 + same.0 = same.2 ∙ mod-eq_of_lt fewer in omega (arith, own, there, earlier)
