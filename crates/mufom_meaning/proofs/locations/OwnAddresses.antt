-- If no address is loaded twice, no two cells of the address map have one address.
use Rattle.std.proofs.Common.{◌≡◌, ℕ, zero, suc, ◌+◌, ◌<◌, ◌⊎◌, inl, inr, List, [], ◌∷◌, ◌++◌, map, length, Option, Some, None, refl, ◌∙◌, ap, subst, arith}
use Rattle.std.specs.Prelude.{◌%◌, ◌/◌}
use Rattle.std.proofs.lemmas.List.{length-reverse}
use Rattle.mufom_loads.specs.declared.load.Item.{Item}
use Rattle.mufom_loads.specs.declared.load.Item.TheVariants.{Literal, Field}
use Rattle.mufom_loads.specs.Lengths.{byte_count}
use Rattle.mufom_module.specs.declared.module.Order.{Order}
use Rattle.mufom_module.specs.declared.module.Order.TheVariants.{Least, Most}
use Rattle.mufom_module.specs.declared.module.Parts.{Parts}
use Rattle.mufom_meaning.specs.Flat.{Sited}
use Rattle.mufom_meaning.specs.Values.{Setting, value}
use Rattle.mufom_meaning.specs.Steps.{Step, counter_step, item_step, steps, counter, item_reading, readings_after}
use Rattle.mufom_meaning.specs.Fields.{number_bytes, in_byte_order, field_number, field_bytes}
use Rattle.mufom_meaning.specs.AddressMap.{Cell, cells_from, field_cells, step_cells, address_map}
use Rattle.mufom_meaning.specs.Walk.{counted_from, addresses_at, loaded_addresses}
use Rattle.mufom_meaning.specs.Facts.{loaded_twice}
use Rattle.mufom_meaning.specs.Stands.{put_back, IsStepAfter, StandsInWalk}
use Rattle.mufom_meaning.proofs.Members.{In, In-append, In-left, In-right, In-map, at-In}
use Rattle.mufom_meaning.proofs.locations.CellRuns.{HaveOwnAddresses}

pub length-number_bytes : (size v : ℕ) → length (number_bytes size v) ≡ size
length-number_bytes zero v = refl
length-number_bytes (suc size) v = ap suc (length-number_bytes size (v / 256))

pub length-in_byte_order : (order : Order) (bytes : List ℕ) → length (in_byte_order order bytes) ≡ length bytes
length-in_byte_order Least bytes = refl
length-in_byte_order Most bytes = length-reverse bytes

-- a cell of bytes from an address on lies less than their count after it
cell_there : (a : ℕ) (bytes : List ℕ) (cell : Cell) → In cell (cells_from a bytes) → (q : ℕ) × (q < length bytes) × (cell.0 ≡ a + q)
cell_there a [] cell h = absurd h
cell_there a (byte ∷ bytes) cell (inl e) =
    let less : 0 < suc (length bytes) = omega arith in let same : a ≡ cell.0 = ap (λ (x : Cell). x.0) e in let at : cell.0 ≡ a + 0 =
    omega (arith, same) in (0, less, at)
cell_there a (byte ∷ bytes) cell (inr h) =
    let later = cell_there (suc a) bytes cell h in
    let less : suc later.0 < suc (length bytes) = omega (arith, later.1) in let at : cell.0 ≡ a + suc later.0 = omega (arith, later.2) in
    (suc later.0, less, at)

pub row_own : (a : ℕ) (bytes : List ℕ) → HaveOwnAddresses (cells_from a bytes)
row_own a [] = tt
row_own a (byte ∷ bytes) = (λ other h. apart other (cell_there (suc a) bytes other h), row_own (suc a) bytes) where
  apart : (other : Cell) → (q : ℕ) × (q < length bytes) × (other.0 ≡ suc a + q) → a ≡ other.0 → ⊥
  apart other later e = omega (arith, later.2, e)

pub own_append : (xs ys : List Cell) → HaveOwnAddresses xs → HaveOwnAddresses ys → ((x y : Cell) → In x xs → In y ys → x.0 ≡ y.0 → ⊥)
    → HaveOwnAddresses (xs ++ ys)
own_append [] ys h k apart = k
own_append (x ∷ xs) ys h k apart = (λ other m. by_case other (In-append other xs ys m), own_append xs ys h.1 k (λ a b m n. apart a b (inr m) n)) where
  by_case : (other : Cell) → In other xs ⊎ In other ys → x.0 ≡ other.0 → ⊥
  by_case other (inl m) = h.0 other m
  by_case other (inr m) = apart x other (inl refl) m

counted_In : (n a q : ℕ) → q < n → In (a + q) (counted_from n a)
counted_In zero a q less = absurd (omega (arith, less))
counted_In (suc n) a zero less = let same : a ≡ a + 0 = omega arith in inl same
counted_In (suc n) a (suc q) less = let same : suc a + q ≡ a + suc q = omega arith in
    inr (subst (λ k. In k (counted_from n (suc a))) same (counted_In n (suc a) q (omega (arith, less))))

module _ (order : Order) (ms : List Parts) (s : Setting) (clear : (address : ℕ) → ¬ StandsInWalk ms s (loaded_twice address)) where
  abbrev cells_after : List Step → List Step → List Cell
  cells_after earlier more = address_map order s.modulus (readings_after s earlier more)

  -- a cell of an item lies at the item's counter or after it
  abbrev IsOf : Option ℕ → Item → Cell → Type 0
  IsOf counter item cell = (at : ℕ) × (q : ℕ) × (counter ≡ Some at) × (q < byte_count item) × (cell.0 ≡ at + q)

  pub item_cell : (site : Sited) (section : ℕ) (o : Option ℕ) (item : Item) (cell : Cell)
      → In cell (step_cells order s.modulus (item_reading s site section o item)) → IsOf o item cell
  item_cell site section None (Literal bytes) cell h = absurd h
  item_cell site section (Some at) (Literal bytes) cell h = let there = cell_there at bytes cell h in (at, there.0, refl, there.1, there.2)
  item_cell site section None (Field kind size t) cell h = absurd h
  item_cell site section (Some at) (Field kind size t) cell h = by_value (value s site (Some at) t) h where
    by_value : (v : Option ℕ) → In cell (field_cells order s.modulus (Some at) kind size v) → IsOf (Some at) (Field kind size t) cell
    by_value None h = absurd h
    by_value (Some v) h =
        let there = cell_there at (field_bytes order s.modulus kind size v) cell h in
        let long : length (field_bytes order s.modulus kind size v) ≡ size
        = length-in_byte_order order (number_bytes size (field_number s.modulus kind size v)) ∙ length-number_bytes size (field_number s.modulus kind size v) in
        let less : there.0 < size = omega (arith, there.1, long) in (at, there.0, refl, less, there.2)

  item_own : (site : Sited) (section : ℕ) (o : Option ℕ) (item : Item) → HaveOwnAddresses (step_cells order s.modulus (item_reading s site section o item))
  item_own site section None (Literal bytes) = tt
  item_own site section (Some at) (Literal bytes) = row_own at bytes
  item_own site section None (Field kind size t) = tt
  item_own site section (Some at) (Field kind size t) = by_value (value s site (Some at) t) where
    by_value : (v : Option ℕ) → HaveOwnAddresses (field_cells order s.modulus (Some at) kind size v)
    by_value None = tt
    by_value (Some v) = row_own at (field_bytes order s.modulus kind size v)

  -- the cells of later steps are at none of these addresses
  abbrev AreFree : List Cell → List ℕ → Type 0
  AreFree cells addresses = (cell : Cell) → In cell cells → In (cell.0 % s.modulus) addresses → ⊥

  item_address : (o : Option ℕ) (item : Item) (cell : Cell) → IsOf o item cell → In (cell.0 % s.modulus) (addresses_at s.modulus o item)
  item_address None item cell h = absurd (let e = h.2 in cc)
  item_address (Some at) item cell h =
      let same : at ≡ h.0 = some_same at h.0 h.2 in
      let place : at + h.1 ≡ cell.0 = omega (arith, same, h.4) in
      subst (λ a. In (a % s.modulus) (map (λ a. a % s.modulus) (counted_from (byte_count item) at))) place
      (In-map (λ a. a % s.modulus) (at + h.1) (counted_from (byte_count item) at) (counted_In (byte_count item) at h.1 h.3)) where
        some_same : (x y : ℕ) → ◌≡◌ {A = Option ℕ} (Some x) (Some y) → x ≡ y
        some_same x y e = cc

  item_free : (earlier : List Step) (site : Sited) (section : ℕ) (item : Item) → IsStepAfter ms earlier (item_step site section item)
      → AreFree (step_cells order s.modulus (item_reading s site section (counter s earlier section) item)) (loaded_addresses s earlier)
  item_free earlier site section item at cell h k =
      let there = item_cell site section (counter s earlier section) item cell h in
      let place : cell.0 % s.modulus ≡ (there.0 + there.1) % s.modulus = ap (λ a. a % s.modulus) there.4 in
      clear (cell.0 % s.modulus) (
        earlier,
        site,
        section,
        there.0,
        there.1,
        item,
        (at, there.2),
        there.3,
        place,
        inl (at-In (cell.0 % s.modulus) (loaded_addresses s earlier) k),
      )

  abbrev Own : List Step → List Step → Type 0
  Own earlier more = HaveOwnAddresses (cells_after earlier more) × AreFree (cells_after earlier more) (loaded_addresses s earlier)

  own_after : (more earlier : List Step) → steps ms ≡ put_back earlier more → Own earlier more
  own_after [] earlier at = (tt, λ cell h k. h)
  own_after (counter_step site section t ∷ more) earlier at = own_after more (counter_step site section t ∷ earlier) at
  own_after (item_step site section item ∷ more) earlier at = joined (own_after more (item_step site section item ∷ earlier) at) where
    joined : Own (item_step site section item ∷ earlier) more → Own earlier (item_step site section item ∷ more)
    joined later = (
      own_append (step_cells order s.modulus (item_reading s site section (counter s earlier section) item))
          (cells_after (item_step site section item ∷ earlier) more)
          (item_own site section (counter s earlier section) item) later.0 apart,
      λ cell h k. by_case cell k (In-append cell (step_cells order s.modulus (item_reading s site section (counter s earlier section) item))
          (cells_after (item_step site section item ∷ earlier) more) h),
    )
      where
        apart : (x y : Cell) → In x (step_cells order s.modulus (item_reading s site section (counter s earlier section) item))
            → In y (cells_after (item_step site section item ∷ earlier) more) → x.0 ≡ y.0 → ⊥
        apart x y h k e =
            let there = item_address (counter s earlier section) item x (item_cell site section (counter s earlier section) item x h) in
            later.1 y k (In-left (y.0 % s.modulus) (addresses_at s.modulus (counter s earlier section) item) (loaded_addresses s earlier)
            (subst (λ a. In (a % s.modulus) (addresses_at s.modulus (counter s earlier section) item)) e there))

        by_case : (cell : Cell) → In (cell.0 % s.modulus) (loaded_addresses s earlier)
            → In cell (step_cells order s.modulus (item_reading s site section (counter s earlier section) item))
            ⊎ In cell (cells_after (item_step site section item ∷ earlier) more) → ⊥
        by_case cell k (inl h) = item_free earlier site section item (more, at) cell h k
        by_case cell k (inr h) = later.1 cell h (In-right (cell.0 % s.modulus) (addresses_at s.modulus (counter s earlier section) item)
            (loaded_addresses s earlier) k)

  -- no two cells of the address map have one address
  pub own_addresses : HaveOwnAddresses (address_map order s.modulus (readings_after s [] (steps ms)))
  own_addresses = (own_after (steps ms) [] refl).0
