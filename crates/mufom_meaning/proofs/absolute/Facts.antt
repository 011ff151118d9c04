-- A walk that sets counters to numbers and loads literals inside their sections meets no fact, if no two of its cells have one
-- address.
use Rattle.std.proofs.Common.{◌≡◌, ℕ, zero, suc, ◌+◌, ◌<◌, ◌≤◌, ◌⊎◌, inl, inr, List, [], ◌∷◌, ◌++◌, length, Option, Some, None, true, false, refl}
use Rattle.std.proofs.Common.{sym, ◌∙◌, ap, subst, arith}
use Rattle.std.specs.Prelude.{slice_get, ◌%◌}
use Rattle.std.proofs.Math.Nat.{mod-eq_of_lt}
use Rattle.mufom_expr.specs.declared.token.FieldKind.{FieldKind}
use Rattle.mufom_expr.specs.Tree.{Tree}
use Rattle.mufom_loads.specs.declared.load.Item.{Item}
use Rattle.mufom_loads.specs.declared.load.Item.TheVariants.{Literal, Field}
use Rattle.mufom_loads.specs.Lengths.{byte_count}
use Rattle.mufom_module.specs.declared.module.Order.{Order}
use Rattle.mufom_module.specs.declared.module.Parts.{Parts}
use Rattle.mufom_meaning.specs.declared.located.Site.TheVariants as sites
use Rattle.mufom_meaning.specs.Flat.{Sited}
use Rattle.mufom_meaning.specs.Values.{Setting, has_zero_divisor}
use Rattle.mufom_meaning.specs.Steps.{Step, counter_step, item_step, steps, counter, readings_after}
use Rattle.mufom_meaning.specs.Walk.{base_number, size_at, counted_from, addresses_at, loaded_addresses}
use Rattle.mufom_meaning.specs.AddressMap.{Cell, cells_from, literal_cells, address_map}
use Rattle.mufom_meaning.specs.Facts.{load_outside, loaded_twice, overflow}
use Rattle.mufom_meaning.specs.Stands.{StandsIn, put_back, IsStepAfter, HasZeroDivisor, StandsInWalk}
use Rattle.mufom_numbers.proofs.Choices.{some_same}
use Rattle.mufom_meaning.proofs.Members.{In, In-at, map-In, In-append, In-left, get_some}
use Rattle.mufom_meaning.proofs.locations.CellRuns.{HaveOwnAddresses}
use Rattle.mufom_meaning.proofs.absolute.Cells.{at_cell, own_apart, own_after}
use Rattle.mufom_meaning.proofs.absolute.Walk.{IsPlainItem, IsPlainWalk}

literal_same : (bytes other : List ℕ) → ◌≡◌ {A = Item} (Literal bytes) (Literal other) → bytes ≡ other
literal_same bytes other e = cc

counted_there : (n a x : ℕ) → In x (counted_from n a) → (q : ℕ) × (q < n) × (x ≡ a + q)
counted_there zero a x h = absurd h
counted_there (suc n) a x (inl e) = let less : 0 < suc n = omega arith in let at : x ≡ a + 0 = omega (arith, e) in (0, less, at)
counted_there (suc n) a x (inr h) = let later = counted_there n (suc a) x h in let less : suc later.0 < suc n = omega (arith, later.1) in let at : x
    ≡ a + suc later.0 = omega (arith, later.2) in (suc later.0, less, at)

-- there is a cell at each place of bytes
cell_of : (a : ℕ) (bytes : List ℕ) (q : ℕ) → q < length bytes → (byte : ℕ) × In (a + q, byte) (cells_from a bytes)
cell_of a bytes q less = by_byte (slice_get bytes q) refl where
  by_byte : (o : Option ℕ) → slice_get bytes q ≡ o → (byte : ℕ) × In (a + q, byte) (cells_from a bytes)
  by_byte None e = absurd (get_some bytes q less e)
  by_byte (Some byte) e = (byte, at_cell a bytes q byte (a + q) e refl)

module _ (order : Order) (s : Setting) where
  abbrev cells_after : List Step → List Step → List Cell
  cells_after earlier more = address_map order s.modulus (readings_after s earlier more)

  -- the rest of a walk, after some steps
  pub record IsClear (earlier more : List Step) : Type 0 where
    pub plain : IsPlainWalk s earlier more
    pub own : HaveOwnAddresses (cells_after earlier more)
    pub inside : (cell : Cell) → In cell (cells_after earlier more) → cell.0 < s.modulus
    pub free : (cell : Cell) → In cell (cells_after earlier more) → In (cell.0 % s.modulus) (loaded_addresses s earlier) → ⊥

  -- the cells of a literal come before the others
  literal_prefix : (earlier : List Step) (site : Sited) (section : ℕ) (item : Item) (more : List Step) (p : IsPlainItem s earlier section item)
      → cells_after earlier (item_step site section item ∷ more) ≡ cells_from p.at p.bytes ++ cells_after (item_step site section item ∷ earlier) more
  literal_prefix earlier site section item more p = by_item item p.is p.counted where
    by_item : (item : Item) → item ≡ Literal p.bytes → counter s earlier section ≡ Some p.at
        → cells_after earlier (item_step site section item ∷ more) ≡ cells_from p.at p.bytes ++ cells_after (item_step site section item ∷ earlier) more
    by_item (Literal bytes) e c =
        let own : literal_cells (counter s earlier section) bytes ≡ cells_from p.at p.bytes = ap (λ o. literal_cells o bytes) c
        ∙ ap (cells_from p.at) (literal_same bytes p.bytes e) in
        ap (λ prefix. prefix ++ cells_after (item_step site section (Literal bytes) ∷ earlier) more) own
    by_item (Field kind size t) e c = absurd cc

  addresses_there : (earlier : List Step) (section : ℕ) (item : Item) (p : IsPlainItem s earlier section item) (x : ℕ)
      → In x (addresses_at s.modulus (counter s earlier section) item)
      → (q : ℕ) × (q < length p.bytes) × (x ≡ (p.at + q) % s.modulus)
  addresses_there earlier section item p x h =
      let here = subst (λ (o : Option ℕ × Item). In x (addresses_at s.modulus o.0 o.1)) (λ i. (p.counted i, p.is i)) h in
      let there = map-In (λ a. a % s.modulus) x (counted_from (length p.bytes) p.at) here in
      let place = counted_there (length p.bytes) p.at there.0 there.1 in (place.0, place.1, sym there.2 ∙ ap (λ a. a % s.modulus) place.2)

  -- it stays clear, step by step
  clear_on : (earlier : List Step) (step : Step) (more : List Step) → IsClear earlier (step ∷ more) → IsClear (step ∷ earlier) more
  clear_on earlier (counter_step site section t) more c = record { plain = c.plain.1; own = c.own; inside = c.inside; free = c.free }
  clear_on earlier (item_step site section item) more c =
      let p = c.plain.0 in
      let prefix = literal_prefix earlier site section item more p in
      let rest = cells_after (item_step site section item ∷ earlier) more in
      let own = subst HaveOwnAddresses prefix c.own in
      let within : (cell : Cell) → In cell rest → In cell (cells_after earlier (item_step site section item ∷ more)) =
      λ cell h. subst (In cell) (sym prefix) (after cell (cells_from p.at p.bytes) rest h) in
      let low : (cell : Cell) → In cell rest → cell.0 < s.modulus = λ cell h. c.inside cell (within cell h) in
      record {
        plain = c.plain.1;
        own = own_after (cells_from p.at p.bytes) rest own;
        inside = low;
        free = λ cell h k. by_case cell h (within cell h) p own (low cell h)
            (In-append (cell.0 % s.modulus) (addresses_at s.modulus (counter s earlier section) item) (loaded_addresses s earlier) k);
      }
    where
      after : (cell : Cell) (xs ys : List Cell) → In cell ys → In cell (xs ++ ys)
      after cell [] ys h = h
      after cell (x ∷ xs) ys h = inr (after cell xs ys h)

      by_case : (cell : Cell) → In cell (cells_after (item_step site section item ∷ earlier) more)
          → In cell (cells_after earlier (item_step site section item ∷ more)) → (p : IsPlainItem s earlier section item)
          → HaveOwnAddresses (cells_from p.at p.bytes ++ cells_after (item_step site section item ∷ earlier) more) → cell.0 < s.modulus
          → In (cell.0 % s.modulus) (addresses_at s.modulus (counter s earlier section) item) ⊎ In (cell.0 % s.modulus) (loaded_addresses s earlier) → ⊥
      by_case cell h k p own low (inr m) = c.free cell k m
      by_case cell h k p own low (inl m) =
          let there = addresses_there earlier section item p (cell.0 % s.modulus) m in
          let small : p.at + there.0 < s.modulus = omega (arith, there.1, p.inside) in
          let same : cell.0 ≡ p.at + there.0 = sym (mod-eq_of_lt low) ∙ there.2 ∙ mod-eq_of_lt small in
          let other = cell_of p.at p.bytes there.0 there.1 in
          own_apart (cells_from p.at p.bytes) (cells_after (item_step site section item ∷ earlier) more) own (p.at + there.0, other.0) cell other.1 h (sym same)

  clear_at : (earlier rest : List Step) → IsClear [] (put_back earlier rest) → IsClear earlier rest
  clear_at [] rest c = c
  clear_at (step ∷ earlier) rest c = clear_on earlier step rest (clear_at earlier (step ∷ rest) c)

  module _ (ms : List Parts) (all : IsClear [] (steps ms)) where
    clear_there : (earlier : List Step) (step : Step) (more : List Step) → steps ms ≡ put_back earlier (step ∷ more) → IsClear earlier (step ∷ more)
    clear_there earlier step more e = clear_at earlier (step ∷ more) (subst (IsClear []) e all)

    -- no field is in it
    no_field : (earlier : List Step) (site : Sited) (section : ℕ) (kind : FieldKind) (t : Tree) (size : ℕ)
        → ¬ IsStepAfter ms earlier (item_step site section (Field kind size t))
    no_field earlier site section kind t size at = let p = (clear_there earlier (item_step site section (Field kind size t)) at.0 at.1).plain.0 in
        let e = p.is in cc

    pub no_counter_divisor : (section : ℕ) → ¬ HasZeroDivisor ms s (sites.Counter section)
    no_counter_divisor section h =
        let p = (clear_there h.0 (counter_step h.1 section h.2) h.3.0 h.3.1).plain.0 in
        let none : false ≡ true = sym (ap (has_zero_divisor s h.1 (counter s h.0 section)) p.1) ∙ h.4 in cc

    pub no_field_divisor : (section at : ℕ) → ¬ HasZeroDivisor ms s (sites.Field section at)
    no_field_divisor section at h = no_field h.0 h.1 section h.2 h.3 h.4 h.5.0

    pub no_overflow : (section at : ℕ) (kind : FieldKind) (size v : ℕ) → ¬ StandsInWalk ms s (overflow section at kind size v)
    no_overflow section at kind size v h = no_field h.0 h.1 section kind h.2 size h.3.0

    pub none_outside : (section address : ℕ) → ¬ StandsInWalk ms s (load_outside section address)
    none_outside section address h = by_place (clear_there h.0 (item_step h.1 section h.4) h.5.0.0 h.5.0.1).plain.0 h.7 where
      by_place : (p : IsPlainItem s h.0 section h.4) → (h.2 + h.3 < base_number s section) ⊎ (base_number s section + size_at s section ≤ h.2 + h.3) → ⊥
      by_place p out =
          let at : h.2 ≡ p.at = some_same h.2 p.at (sym h.5.1 ∙ p.counted) in
          let long : byte_count h.4 ≡ length p.bytes = ap byte_count p.is in either at long p.low p.high h.6 out where
            either : h.2 ≡ p.at → byte_count h.4 ≡ length p.bytes → base_number s section ≤ p.at
                → p.at + length p.bytes ≤ base_number s section + size_at s section → h.3 < byte_count h.4
                → (h.2 + h.3 < base_number s section) ⊎ (base_number s section + size_at s section ≤ h.2 + h.3) → ⊥
            either at long low high less (inl out) = omega (arith, at, low, out)
            either at long low high less (inr out) = omega (arith, at, long, high, less, out)

    pub none_twice : (address : ℕ) → ¬ StandsInWalk ms s (loaded_twice address)
    none_twice address h = by_place (clear_there h.0 (item_step h.1 h.2 h.5) h.6.0.0 h.6.0.1) h.9 where
      by_place : IsClear h.0 (item_step h.1 h.2 h.5 ∷ h.6.0.0) → StandsIn address (loaded_addresses s h.0)
          ⊎ ((p : ℕ) × (p < h.4) × (address ≡ (h.3 + p) % s.modulus)) → ⊥
      by_place c (inl there) =
          let p = c.plain.0 in
          let at : h.3 ≡ p.at = some_same h.3 p.at (sym h.6.1 ∙ p.counted) in
          let long : byte_count h.5 ≡ length p.bytes = ap byte_count p.is in
          let less : h.4 < length p.bytes = omega (arith, h.7, long) in
          let cell = cell_of p.at p.bytes h.4 less in
          let within = subst (In (p.at + h.4, cell.0)) (sym (literal_prefix h.0 h.1 h.2 h.5 h.6.0.0 p))
          (In-left (p.at + h.4, cell.0) (cells_from p.at p.bytes) (cells_after (item_step h.1 h.2 h.5 ∷ h.0) h.6.0.0) cell.1) in
          let same : address ≡ (p.at + h.4) % s.modulus = h.8 ∙ ap (λ a. (a + h.4) % s.modulus) at in
          c.free (p.at + h.4, cell.0) within (subst (λ a. In a (loaded_addresses s h.0)) same (In-at address (loaded_addresses s h.0) there.0 there.1))
      by_place c (inr there) =
          let p = c.plain.0 in
          let at : h.3 ≡ p.at = some_same h.3 p.at (sym h.6.1 ∙ p.counted) in
          let long : byte_count h.5 ≡ length p.bytes = ap byte_count p.is in
          let inside = p.inside in
          let small : h.3 + h.4 < s.modulus = omega (arith, at, long, h.7, inside) in
          let smaller : h.3 + there.0 < s.modulus = omega (arith, small, there.1) in
          let same : h.3 + h.4 ≡ h.3 + there.0 = sym (mod-eq_of_lt small) ∙ sym h.8 ∙ there.2 ∙ mod-eq_of_lt smaller in omega (arith, same, there.1)
