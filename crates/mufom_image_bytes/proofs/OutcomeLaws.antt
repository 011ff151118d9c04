-- One step of what bodies do not unfold: the outcome of an item.
use Rattle.std.proofs.Common.{◌≡◌, ◌≢◌, ℕ, zero, suc, ◌+◌, ◌-◌, ◌<◌, cond, map, length, List, [], ◌∷◌, ◌++◌, Option, Some, None, Bool, true, false}
use Rattle.std.proofs.Common.{refl, sym, ◌∙◌, ap, arith}
use Rattle.std.specs.Prelude.{◌==◌, nat_lt, is_some, filter, option_map, slice_index, if◌then◌else◌}
use Rattle.mufom_loads.specs.declared.load.Item.{Item}
use Rattle.mufom_loads.specs.Lengths.{byte_count, repeated}
use Rattle.mufom_meaning.specs.Facts.{LocateFact}
use Rattle.mufom_image_bytes.specs.declared.layout.Layout.{Layout}
use Rattle.mufom_image_bytes.specs.declared.refusal.LoadRefusal.{LoadRefusal}
use Rattle.mufom_image_bytes.specs.Stops.{fact_of}
use Rattle.mufom_image_bytes.specs.Walks.{has_bytes}
use Rattle.mufom_image_bytes.specs.Outcomes.{ValuationAt, Progress, Outcome, continued, outside_in, placed_outcome, item_outcome, items_outcome}

module _ (layout : Layout) (valuation : ValuationAt) (section : ℕ) where
  -- an item without bytes changes nothing
  pub item_empty : (item : Item) (p : Progress) → byte_count item ≡ 0 → item_outcome layout valuation section item p ≡ (p, None)
  unfolding item_outcome
  item_empty item p e = chosen (byte_count item == 0) (zero_is e) where
    zero_is : {n : ℕ} → n ≡ 0 → (n == 0) ≡ true
    zero_is h = grind (arith, h)

    chosen : (b : Bool) → b ≡ true → ◌≡◌ {A = Outcome}
        (if b then (p, None) else placed_outcome layout valuation section (slice_index p.counters section) item
        (outside_in layout section (slice_index p.counters section) (byte_count item)) p) (p, None)
    chosen true e = refl
    chosen false e = absurd cc

  -- another one is put if none of its bytes lies outside
  pub item_placed : (item : Item) (p : Progress) (at count : ℕ) (outside : Option LocateFact) → byte_count item ≢ 0 → at
      ≡ slice_index p.counters section → count ≡ byte_count item
      → outside ≡ outside_in layout section at count → item_outcome layout valuation section item p ≡ placed_outcome layout valuation section at item outside p
  unfolding item_outcome
  item_placed item p at count outside some here long e =
      chosen (byte_count item == 0) (nonzero some)
      ∙ ap (λ a. placed_outcome layout valuation section a item (outside_in layout section a (byte_count item)) p) (sym here)
      ∙ ap (λ n. placed_outcome layout valuation section at item (outside_in layout section at n) p) (sym long)
      ∙ ap (λ o. placed_outcome layout valuation section at item o p) (sym e) where
        nonzero : {n : ℕ} → n ≢ 0 → (n == 0) ≡ false
        nonzero h = grind (arith, h)

        chosen : (b : Bool) → b ≡ false → ◌≡◌ {A = Outcome}
            (if b then (p, None) else placed_outcome layout valuation section (slice_index p.counters section) item
            (outside_in layout section (slice_index p.counters section) (byte_count item)) p)
            (placed_outcome layout valuation section (slice_index p.counters section) item
            (outside_in layout section (slice_index p.counters section) (byte_count item)) p)
        chosen true e = absurd cc
        chosen false e = refl

  -- ---- items, one after another

  pub items_outcome-append : (xs ys : List Item) (p : Progress)
      → items_outcome layout valuation section (xs ++ ys) p ≡ (let first = items_outcome layout valuation section xs p in
      continued first.0 first.1 (λ q. items_outcome layout valuation section ys q))
  items_outcome-append [] ys p = refl
  items_outcome-append (x ∷ xs) ys p = by_fact (item_outcome layout valuation section x p).0 (item_outcome layout valuation section x p).1
      (λ q. items_outcome-append xs ys q) where
        by_fact : (q : Progress) (f : Option LocateFact)
            → ((q : Progress) → items_outcome layout valuation section (xs ++ ys) q
            ≡ (let first = items_outcome layout valuation section xs q in continued first.0 first.1 (λ q. items_outcome layout valuation section ys q)))
            → continued q f (λ q. items_outcome layout valuation section (xs ++ ys) q)
            ≡ (let first = continued q f (λ q. items_outcome layout valuation section xs q) in
            continued first.0 first.1 (λ q. items_outcome layout valuation section ys q))
        by_fact q None later = later q
        by_fact q (Some fact) later = refl

  -- one more copy of items
  copy_more : (items : List Item) (count counter : ℕ) (p q : Progress) (f : Option LocateFact) → counter < count
      → ◌≡◌ {A = Outcome} (q, f) (items_outcome layout valuation section items p)
      → items_outcome layout valuation section (repeated (count - counter) items) p
      ≡ continued q f (λ r. items_outcome layout valuation section (repeated (count - (counter + 1)) items) r)
  copy_more items count counter p q f less e =
      let next : count - counter ≡ suc (count - (counter + 1)) = omega (arith, less) in
      ap (λ n. items_outcome layout valuation section (repeated n items) p) next
      ∙ items_outcome-append items (repeated (count - (counter + 1)) items) p
      ∙ ap (λ (first : Outcome). continued first.0 first.1 (λ q. items_outcome layout valuation section (repeated (count - (counter + 1)) items) q)) (sym e)

  pub copies_go : (items : List Item) (count counter : ℕ) (first p q : Progress) (stop : Option LoadRefusal) → counter < count → is_some stop ≡ false
      → items_outcome layout valuation section (repeated count items) first ≡ items_outcome layout valuation section (repeated (count - counter) items) p
      → ◌≡◌ {A = Outcome} (q, option_map fact_of stop) (items_outcome layout valuation section items p)
      → items_outcome layout valuation section (repeated count items) first ≡ items_outcome layout valuation section (repeated (count - (counter + 1)) items) q
  copies_go items count counter first p q None less none before e = before ∙ copy_more items count counter p q None less e
  copies_go items count counter first p q (Some stop) less none before e = absurd cc

  pub copies_end : (items : List Item) (count counter : ℕ) (first p q : Progress) (stop : Option LoadRefusal) → counter < count → is_some stop ≡ true
      → items_outcome layout valuation section (repeated count items) first ≡ items_outcome layout valuation section (repeated (count - counter) items) p
      → ◌≡◌ {A = Outcome} (q, option_map fact_of stop) (items_outcome layout valuation section items p)
      → ◌≡◌ {A = Outcome} (q, option_map fact_of stop) (items_outcome layout valuation section (repeated count items) first)
  copies_end items count counter first p q None less some before e = absurd cc
  copies_end items count counter first p q (Some stop) less some before e = sym (before ∙ copy_more items count counter p q (Some (fact_of stop)) less e)

  -- items without bytes change nothing
  pub with_bytes_alone : (items : List Item) (p : Progress) → items_outcome layout valuation section (filter has_bytes items) p
      ≡ items_outcome layout valuation section items p
  with_bytes_alone [] p = refl
  with_bytes_alone (item ∷ items) p = by_test (has_bytes item) refl (λ q. with_bytes_alone items q) where
    same_after : (q : Progress) (f : Option LocateFact) → ((q : Progress) → items_outcome layout valuation section (filter has_bytes items) q
        ≡ items_outcome layout valuation section items q)
        → continued q f (λ r. items_outcome layout valuation section (filter has_bytes items) r)
        ≡ continued q f (λ r. items_outcome layout valuation section items r)
    same_after q None later = later q
    same_after q (Some fact) later = refl

    no_bytes : (n : ℕ) → nat_lt 0 n ≡ false → n ≡ 0
    no_bytes n e = grind (arith, e)

    by_test : (b : Bool) → has_bytes item ≡ b → ((q : Progress) → items_outcome layout valuation section (filter has_bytes items) q
        ≡ items_outcome layout valuation section items q)
        → items_outcome layout valuation section (cond b (item ∷ filter has_bytes items) (filter has_bytes items)) p
        ≡ items_outcome layout valuation section (item ∷ items) p
    by_test true e later = same_after (item_outcome layout valuation section item p).0 (item_outcome layout valuation section item p).1 later
    by_test false e later =
        later p ∙ ap (λ (first : Outcome). continued first.0 first.1 (λ q. items_outcome layout valuation section items q))
        (sym (item_empty item p (no_bytes (byte_count item) e)))

  pub repeated_with_bytes : (count : ℕ) (items : List Item) (p : Progress)
      → items_outcome layout valuation section (repeated count (filter has_bytes items)) p ≡ items_outcome layout valuation section (repeated count items) p
  repeated_with_bytes zero items p = refl
  repeated_with_bytes (suc n) items p =
      items_outcome-append (filter has_bytes items) (repeated n (filter has_bytes items)) p
      ∙ ap (λ (first : Outcome). continued first.0 first.1 (λ q. items_outcome layout valuation section (repeated n (filter has_bytes items)) q))
      (with_bytes_alone items p)
      ∙ same_after (items_outcome layout valuation section items p).0 (items_outcome layout valuation section items p).1 (λ q. repeated_with_bytes n items q)
      ∙ sym (items_outcome-append items (repeated n items) p) where
        same_after : (q : Progress) (f : Option LocateFact)
            → ((q : Progress) → items_outcome layout valuation section (repeated n (filter has_bytes items)) q
            ≡ items_outcome layout valuation section (repeated n items) q)
            → continued q f (λ r. items_outcome layout valuation section (repeated n (filter has_bytes items)) r)
            ≡ continued q f (λ r. items_outcome layout valuation section (repeated n items) r)
        same_after q None later = later q
        same_after q (Some fact) later = refl

  nothing_repeated : (count : ℕ) → ◌≡◌ {A = List Item} (repeated count []) []
  nothing_repeated zero = refl
  nothing_repeated (suc n) = nothing_repeated n

  -- copies of no items change nothing
  pub repeated_empty : {R : Type 0} (now : R → Item) (count : ℕ) (items : List R) (p : Progress) → length items ≡ 0
      → ◌≡◌ {A = Outcome} (p, None) (items_outcome layout valuation section (repeated count (map now items)) p)
  repeated_empty now count [] p none = ap (λ all. items_outcome layout valuation section all p) (sym (nothing_repeated count))
  repeated_empty now count (item ∷ items) p none = absurd (omega (arith, none))
