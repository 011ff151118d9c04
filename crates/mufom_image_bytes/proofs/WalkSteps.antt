-- One step of the walk by places and values, against what is found at it.
use Rattle.std.proofs.Common.{◌≡◌, ◌≢◌, ℕ, zero, suc, ◌+◌, ◌<◌, ◌≤◌, List, [], ◌∷◌, ◌++◌, map, length, get_or, set, Option, Some, None, Bool, true}
use Rattle.std.proofs.Common.{false, ◌||◌, ◌⊎◌, inl, inr, refl, sym, ◌∙◌, ap, subst, arith, append-nil, add-zero, length-set, get_or-set_other}
use Rattle.std.proofs.Common.{get_or-set_same}
use Rattle.std.specs.Prelude.{◌%◌, ◌^◌, ◌==◌, option_map, slice_get, unwrap_or, nat_lt, nat_le, if◌then◌else◌}
use Rattle.std.proofs.Math.Nat.{mod-eq_of_lt}
use Rattle.std.proofs.lemmas.List.{map-append}
use Rattle.mufom_expr.specs.declared.token.FieldKind.{FieldKind}
use Rattle.mufom_expr.specs.Tree.{Tree}
use Rattle.mufom_loads.specs.declared.load.Item.{Item}
use Rattle.mufom_loads.specs.declared.load.Item.TheVariants.{Literal, Field}
use Rattle.mufom_loads.specs.Lengths.{byte_count}
use Rattle.mufom_place.specs.Facts.{first_some, ◌or_else◌}
use Rattle.mufom_meaning.specs.declared.located.Site.TheVariants as sites
use Rattle.mufom_meaning.specs.AddressMap.{Cell, cells_from, step_cells}
use Rattle.mufom_meaning.specs.Facts.{LocateFact, zero_divisor, load_outside, overflow}
use Rattle.mufom_meaning.specs.Fields.{fits, field_number, number_bytes, in_byte_order}
use Rattle.mufom_meaning.specs.Flat.{Sited}
use Rattle.mufom_meaning.specs.Steps.{Step, counter_step, item_step, counter, field_reading, item_reading, step_reading}
use Rattle.mufom_meaning.specs.Values.{Setting, value, has_zero_divisor}
use Rattle.mufom_meaning.specs.Walk.{zero_divisor_at, overflow_at, field_fact, step_fact, item_fact, base_number, size_at, counted_from, has_number}
use Rattle.mufom_meaning.specs.Walk.{outside_at, first_twice, addresses_at, loaded_addresses}
use Rattle.mufom_meaning.proofs.Members.{In, In-append}
use Rattle.mufom_numbers.proofs.Choices.{equal_numbers, of_not_lt, of_not_le}
use Rattle.mufom_meaning.proofs.Tests.{chosen_none, either_false}
use Rattle.mufom_meaning.proofs.Unfolding.{counter-set, counter-item}
use Rattle.mufom_meaning.proofs.facts.Answers.{or_else_none}
use Rattle.mufom_meaning.proofs.locations.OwnAddresses.{length-number_bytes, length-in_byte_order}
use Rattle.mufom_meaning.proofs.values.Causes.{zero_divisor-none}
use Rattle.mufom_image_bytes.specs.declared.layout.Layout.{Layout}
use Rattle.mufom_image_bytes.specs.Chunks.{cell_addresses as addresses}
use Rattle.mufom_image_bytes.specs.Outcomes.{ValuationAt, Progress, Outcome, base_in, size_in, outside_in, field_outcome, item_bytes, placed_outcome}
use Rattle.mufom_image_bytes.specs.Outcomes.{item_outcome, counter_outcome}
use Rattle.mufom_image_bytes.specs.Walked.{IsLaidOut, HasValuation, IsPlainItem}
use Rattle.mufom_image_bytes.proofs.TwiceLaws.{passed, twice-append, twice-same}

-- ---- addresses

-- addresses of the address space are their own residues
own_residues : (modulus n at : ℕ) → at + n ≤ modulus → map (λ a. a % modulus) (counted_from n at) ≡ counted_from n at
own_residues modulus zero at high = refl
own_residues modulus (suc n) at high =
    let less : at < modulus = omega (arith, high) in
    ap (λ a. a ∷ map (λ b. b % modulus) (counted_from n (suc at))) (mod-eq_of_lt less)
    ∙ ap (λ rest. at ∷ rest) (own_residues modulus n (suc at) (omega (arith, high)))

-- if none of them lies outside, they lie inside
all_inside : (modulus section base size n at : ℕ) → first_some (outside_at modulus section base size) (counted_from (suc n) at) ≡ None
    → (base ≤ at) × (at + suc n ≤ base + size)
all_inside modulus section base size zero at e =
    let none = or_else_none (outside_at modulus section base size at) None e in
    let tests = either_false (nat_lt at base) (nat_le (base + size) at)
    (chosen_none (nat_lt at base || nat_le (base + size) at) (load_outside section (at % modulus)) none.0) in
    let low = of_not_lt at base tests.0 in
    let high = of_not_le (base + size) at tests.1 in
    (low, omega (arith, high))
all_inside modulus section base size (suc n) at e =
    let none = or_else_none (outside_at modulus section base size at) (first_some (outside_at modulus section base size) (counted_from (suc n) (suc at))) e in
    let tests = either_false (nat_lt at base) (nat_le (base + size) at)
    (chosen_none (nat_lt at base || nat_le (base + size) at) (load_outside section (at % modulus)) none.0) in
    let low = of_not_lt at base tests.0 in
    let later = all_inside modulus section base size n (suc at) none.1 in
    (low, omega (arith, later.1))

-- the addresses of bytes from an address on
pub addresses-from : (bytes : List ℕ) (at : ℕ) → addresses (cells_from at bytes) ≡ counted_from (length bytes) at
addresses-from [] at = refl
addresses-from (byte ∷ bytes) at = ap (λ rest. at ∷ rest) (addresses-from bytes (suc at))

counted_low : (n at a : ℕ) → In a (counted_from n at) → a < at + n
counted_low zero at a h = absurd h
counted_low (suc n) at a (inl same) = omega (arith, same)
counted_low (suc n) at a (inr h) = let later = counted_low n (suc at) a h in omega (arith, later)

-- ---- numbers among numbers

has-append : (xs ys : List ℕ) (n : ℕ) → has_number (xs ++ ys) n ≡ (has_number xs n || has_number ys n)
has-append [] ys n = refl
has-append (x ∷ xs) ys n = ap (λ b. (x == n) || b) (has-append xs ys n) ∙ regroup (x == n) (has_number xs n) (has_number ys n) where
  regroup : (a b c : Bool) → (a || (b || c)) ≡ ((a || b) || c)
  regroup true b c = refl
  regroup false b c = refl

or_comm : (a b : Bool) → (a || b) ≡ (b || a)
or_comm true true = refl
or_comm true false = refl
or_comm false true = refl
or_comm false false = refl

has-passed : (xs earlier : List ℕ) (n : ℕ) → has_number (passed earlier xs) n ≡ (has_number xs n || has_number earlier n)
has-passed [] earlier n = refl
has-passed (x ∷ xs) earlier n = has-passed xs (x ∷ earlier) n ∙ regroup (x == n) (has_number xs n) (has_number earlier n) where
  regroup : (a b c : Bool) → (b || (a || c)) ≡ ((a || b) || c)
  regroup true true c = refl
  regroup true false c = refl
  regroup false b c = refl

-- ---- choices

pub or_else-assoc : {A : Type 0} (a b c : Option A) → ((a or_else b) or_else c) ≡ (a or_else (b or_else c))
or_else-assoc None b c = refl
or_else-assoc (Some x) b c = refl

-- addresses of a step go after those before it
pub twice_later : (before more loaded : List ℕ) (late rest : Option LocateFact) → ((n : ℕ) → has_number loaded n ≡ has_number before n)
    → (first_twice [] before or_else ((first_twice loaded more or_else late) or_else rest)) ≡ (first_twice [] (before ++ more) or_else (late or_else rest))
twice_later before more loaded late rest same =
    let members : (n : ℕ) → has_number loaded n ≡ has_number (passed [] before) n = λ n. same n ∙ or_comm false (has_number before n)
    ∙ sym (has-passed before [] n) in
    let twice = twice-same more loaded (passed [] before) members in
    ap (λ o. first_twice [] before or_else o) (or_else-assoc (first_twice loaded more) late rest)
    ∙ ap (λ o. first_twice [] before or_else (o or_else (late or_else rest))) twice
    ∙ sym (or_else-assoc (first_twice [] before) (first_twice (passed [] before) more) (late or_else rest))
    ∙ ap (λ o. o or_else (late or_else rest)) (sym (twice-append before [] more))

-- ---- the bytes of an item

-- what is found at a field by whether it holds its value
abbrev chosen : ℕ → ℕ → ℕ → FieldKind → ℕ → ℕ → Bool → ℕ × Option LocateFact
chosen modulus section at kind size v b = if b then (field_number modulus kind size v, None) else (0, Some (overflow section at kind size v))

module _ (s : Setting) (layout : Layout) (valuation : ValuationAt) (laid : IsLaidOut s layout) where
  field_facts : (site : Sited) (section at : ℕ) (kind : FieldKind) (t : Tree) (size : ℕ) → HasValuation s valuation site t
      → (v : Option ℕ) → value s site (Some at) t ≡ v
      → (field_outcome s.modulus section at kind size v).1 ≡ (zero_divisor_at s site (Some at) t (sites.Field section at)
      or_else overflow_at s.modulus section at kind size v)
  field_facts site section at kind t size h None e =
      ap (λ b. (if b then Some (zero_divisor (sites.Field section at)) else None) or_else None) (sym (h.divides at e))
  field_facts site section at kind t size h (Some v) e =
      fitting (fits s.modulus kind size v) ∙ ap (λ b. (if b then Some (zero_divisor (sites.Field section at)) else None)
      or_else overflow_at s.modulus section at kind size (Some v)) (sym whole) where
        not_zero : (b : Bool) → has_zero_divisor s site (Some at) t ≡ b → b ≡ false
        not_zero true d = absurd (let none = zero_divisor-none s site (Some at) t d in cc)
        not_zero false d = refl

        whole : has_zero_divisor s site (Some at) t ≡ false
        whole = not_zero (has_zero_divisor s site (Some at) t) refl

        fitting : (b : Bool) → (chosen s.modulus section at kind size v b).1 ≡ (if b then None else Some (overflow section at kind size v))
        fitting true = refl
        fitting false = refl

  -- what is found at the bytes of an item is what the definitions meet at its field
  item_facts : (site : Sited) (section at : ℕ) (item : Item) → IsPlainItem s valuation site item → (item_bytes layout valuation section at item).1
      ≡ field_fact s site section at item
  item_facts site section at (Literal bytes) h = refl
  item_facts site section at (Field kind size t) h =
      ap (λ m. (field_outcome m section at kind size (valuation at t)).1) (sym laid.modulus)
      ∙ ap (λ o. (field_outcome s.modulus section at kind size o).1) (h.1.is_value at)
      ∙ field_facts site section at kind t size h.1 (value s site (Some at) t) refl

  -- an item has as many bytes as it loads
  item_count : (section at : ℕ) (item : Item) → length (item_bytes layout valuation section at item).0 ≡ byte_count item
  item_count section at (Literal bytes) = refl
  item_count section at (Field kind size t) =
      let found = field_outcome (2 ^ layout.width) section at kind size (valuation at t) in
      length-in_byte_order layout.order (number_bytes size found.0) ∙ length-number_bytes size found.0

  -- if no fact is found, the bytes are those of the definitions
  item_cells : (site : Sited) (section at : ℕ) (item : Item) → IsPlainItem s valuation site item → (item_bytes layout valuation section at item).1 ≡ None
      → cells_from at (item_bytes layout valuation section at item).0 ≡ step_cells layout.order s.modulus (item_reading s site section (Some at) item)
  item_cells site section at (Literal bytes) h e = refl
  item_cells site section at (Field kind size t) h e =
      by_value (valuation at t) (value s site (Some at) t) (h.1.is_value at)
      (ap (λ m. (field_outcome m section at kind size (valuation at t)).1) laid.modulus ∙ e)
      ∙ ap (λ m. step_cells layout.order m (item_reading s site section (Some at) (Field kind size t))) (sym laid.modulus) where
        by_value : (w v : Option ℕ) → w ≡ v → (field_outcome s.modulus section at kind size w).1 ≡ None
            → cells_from at (in_byte_order layout.order (number_bytes size (field_outcome (2 ^ layout.width) section at kind size w).0))
            ≡ step_cells layout.order (2 ^ layout.width) (field_reading section (Some at) kind size v)
        by_value w None same none = absurd (let gone = ap (λ o. (field_outcome s.modulus section at kind size o).1) (sym same) ∙ none in cc)
        by_value w (Some v) same none =
            ap (λ o. cells_from at (in_byte_order layout.order (number_bytes size (field_outcome (2 ^ layout.width) section at kind size o).0))) same
            ∙ fitting (fits (2 ^ layout.width) kind size v) refl
            (ap (λ m. (field_outcome m section at kind size (Some v)).1) (sym laid.modulus)
            ∙ ap (λ o. (field_outcome s.modulus section at kind size o).1) (sym same) ∙ none) where
              fitting : (b : Bool) → fits (2 ^ layout.width) kind size v ≡ b → (field_outcome (2 ^ layout.width) section at kind size (Some v)).1 ≡ None
                  → cells_from at (in_byte_order layout.order (number_bytes size (field_outcome (2 ^ layout.width) section at kind size (Some v)).0))
                  ≡ cells_from at (in_byte_order layout.order (number_bytes size (field_number (2 ^ layout.width) kind size v)))
              fitting true f g = ap (λ b. cells_from at (in_byte_order layout.order
                  (number_bytes size (chosen (2 ^ layout.width) section at kind size v b).0))) f
              fitting false f g = absurd (let gone : ◌≡◌ {A = Option LocateFact} (Some (overflow section at kind size v)) None =
                  sym (ap (λ (b : Bool). (chosen (2 ^ layout.width) section at kind size v b).1) f) ∙ g in cc)

  -- ---- one step

  -- the counters and the cells are those after these steps, the latest first
  pub record Agrees (earlier : List Step) (p : Progress) : Type 0 where
    pub count : length p.counters ≡ length s.bases
    pub counters : (n : ℕ) → n < length s.bases → counter s earlier n ≡ Some (get_or p.counters n 0)
    pub below : (n : ℕ) → n < length s.bases → get_or p.counters n 0 < s.modulus
    pub members : (a : ℕ) → has_number (loaded_addresses s earlier) a ≡ has_number (addresses p.cells) a

  -- what a step does if nothing ends the walk at it, and what ends it
  pub record IsTaken (earlier : List Step) (step : Step) (p : Progress) (o : Outcome) : Type 0 where
    pub agrees : o.1 ≡ None → Agrees (step ∷ earlier) o.0
    pub cells : o.1 ≡ None → o.0.cells ≡ p.cells ++ step_cells layout.order s.modulus (step_reading s earlier step)
    pub facts : (rest : Option LocateFact)
        → (first_twice [] (addresses p.cells) or_else (step_fact s earlier step or_else rest))
        ≡ (first_twice [] (addresses o.0.cells) or_else (o.1 or_else rest))
    pub low : ((a : ℕ) → In a (addresses p.cells) → a < s.modulus) → (a : ℕ) → In a (addresses o.0.cells) → a < s.modulus

  -- a counter that is set
  other_counter : (counters : List ℕ) (section n v : ℕ) → section < length counters → (b : Bool) → (section == n) ≡ b
      → get_or (set counters section v) n 0 ≡ (if b then v else get_or counters n 0)
  other_counter counters section n v less true e = let same = equal_numbers section n e in ap (λ k. get_or (set counters section v) k 0) (sym same)
      ∙ get_or-set_same counters section v 0 less
  other_counter counters section n v less false e = get_or-set_other counters section n v 0 (differ section n e) where
    differ : (a b : ℕ) → (a == b) ≡ false → b ≢ a
    differ a b e = λ same. grind (arith, e, same)

  module _ (earlier : List Step) (p : Progress) (h : Agrees earlier p) (site : Sited) (section : ℕ) (there : section < length s.bases) where
    counter_is : counter s earlier section ≡ Some (get_or p.counters section 0)
    counter_is = h.counters section there

    in_counters : section < length p.counters
    in_counters = omega (arith, h.count)

    pub counter_taken : (t : Tree) → HasValuation s valuation site t
        → IsTaken earlier (counter_step site section t) p (counter_outcome section (valuation (get_or p.counters section 0) t) p)
    counter_taken t w = by_value (valuation (get_or p.counters section 0) t) (w.is_value (get_or p.counters section 0)) where
      at : ℕ
      at = get_or p.counters section 0

      known : (o : Option ℕ) → o ≡ value s site (Some at) t → (v : Option ℕ) → o ≡ v → value s site (counter s earlier section) t ≡ v
      known o e v f = ap (λ c. value s site c t) counter_is ∙ sym e ∙ f

      by_value : (o : Option ℕ) → o ≡ value s site (Some at) t → IsTaken earlier (counter_step site section t) p (counter_outcome section o p)
      by_value None e = record {
        agrees = λ none. absurd (let gone : ◌≡◌ {A = Option LocateFact} (Some (zero_divisor (sites.Counter section))) None = none in cc);
        cells = λ none. absurd (let gone : ◌≡◌ {A = Option LocateFact} (Some (zero_divisor (sites.Counter section))) None = none in cc);
        facts = λ rest. ap (λ c. first_twice [] (addresses p.cells) or_else (zero_divisor_at s site c t (sites.Counter section) or_else rest)) counter_is
            ∙ ap (λ b. first_twice [] (addresses p.cells) or_else ((if b then Some (zero_divisor (sites.Counter section)) else None) or_else rest))
            (w.divides at (sym e));
        low = λ h. h;
      }
      by_value (Some v) e = record {
        agrees = λ none. record {
          count = length-set p.counters section v ∙ h.count;
          counters = λ n less. counter-set s earlier site section n t ∙ moved n less (section == n) refl;
          below = λ n less. under n less (section == n) refl;
          members = h.members;
        };
        cells = λ none. sym (append-nil p.cells);
        facts = λ rest. ap (λ c. first_twice [] (addresses p.cells) or_else (zero_divisor_at s site c t (sites.Counter section) or_else rest)) counter_is
            ∙ ap (λ b. first_twice [] (addresses p.cells) or_else ((if b then Some (zero_divisor (sites.Counter section)) else None) or_else rest)) whole;
        low = λ h. h;
      } where
        not_zero : (b : Bool) → has_zero_divisor s site (Some at) t ≡ b → b ≡ false
        not_zero true d = absurd (let none = e ∙ zero_divisor-none s site (Some at) t d in cc)
        not_zero false d = refl

        whole : has_zero_divisor s site (Some at) t ≡ false
        whole = not_zero (has_zero_divisor s site (Some at) t) refl

        moved : (n : ℕ) → n < length s.bases → (b : Bool) → (section == n) ≡ b
            → (if section == n then value s site (counter s earlier n) t else counter s earlier n) ≡ Some (get_or (set p.counters section v) n 0)
        moved n less true f = ap (λ c. if c then value s site (counter s earlier n) t else counter s earlier n) f
            ∙ ap (λ k. value s site (counter s earlier k) t) (sym (equal_numbers section n f))
            ∙ known (Some v) e (Some v) refl ∙ ap Some (sym (other_counter p.counters section n v in_counters true f))
        moved n less false f = ap (λ c. if c then value s site (counter s earlier n) t else counter s earlier n) f ∙ h.counters n less
            ∙ ap Some (sym (other_counter p.counters section n v in_counters false f))

        under : (n : ℕ) → n < length s.bases → (b : Bool) → (section == n) ≡ b → get_or (set p.counters section v) n 0 < s.modulus
        under n less true f = let same = other_counter p.counters section n v in_counters true f in let low = w.residue at v (sym e) in omega (arith, same, low)
        under n less false f = let same = other_counter p.counters section n v in_counters false f in let low = h.below n less in omega (arith, same, low)

    -- the facts of an item at its counter
    item_step_facts : (item : Item) → step_fact s earlier (item_step site section item)
        ≡ item_fact s earlier site section (Some (get_or p.counters section 0)) item
    item_step_facts item = ap (λ c. item_fact s earlier site section c item) counter_is

    -- an item without bytes changes nothing
    empty_taken : (item : Item) → IsPlainItem s valuation site item → byte_count item ≡ 0 → IsTaken earlier (item_step site section item) p (p, None)
    empty_taken (Field kind size t) w none = absurd (let some = w.0 in omega (arith, some, none))
    empty_taken (Literal (byte ∷ bytes)) w none = absurd (omega (arith, none))
    empty_taken (Literal []) w none = record {
      agrees = λ e. record {
        count = h.count;
        counters = λ n less. counter-item s earlier site section n (Literal []) ∙ moved n less (section == n) refl;
        below = h.below;
        members = λ a. ap (λ c. has_number (addresses_at s.modulus c (Literal []) ++ loaded_addresses s earlier) a) counter_is ∙ h.members a;
      };
      cells = λ e. sym (append-nil p.cells) ∙ ap (λ c. p.cells ++ step_cells layout.order s.modulus (item_reading s site section c (Literal [])))
          (sym counter_is);
      facts = λ rest. ap (λ o. first_twice [] (addresses p.cells) or_else (o or_else rest)) (item_step_facts (Literal []));
      low = λ h. h;
    } where
      moved : (n : ℕ) → n < length s.bases → (b : Bool) → (section == n) ≡ b
          → (if section == n then option_map (λ pc. (pc + 0) % s.modulus) (counter s earlier n) else counter s earlier n) ≡ Some (get_or p.counters n 0)
      moved n less true f =
          let low = h.below n less in
          let again : (get_or p.counters n 0 + 0) % s.modulus ≡ get_or p.counters n 0 = ap (λ k. k % s.modulus) (add-zero (get_or p.counters n 0))
          ∙ mod-eq_of_lt low in
          ap (λ c. if c then option_map (λ pc. (pc + 0) % s.modulus) (counter s earlier n) else counter s earlier n) f
          ∙ ap (option_map (λ pc. (pc + 0) % s.modulus)) (h.counters n less) ∙ ap Some again
      moved n less false f = ap (λ c. if c then option_map (λ pc. (pc + 0) % s.modulus) (counter s earlier n) else counter s earlier n) f ∙ h.counters n less

    outside_same : (at count : ℕ) → outside_in layout section at count
        ≡ first_some (outside_at s.modulus section (base_number s section) (size_at s section)) (counted_from count at)
    outside_same at count =
        ap (λ m. first_some (outside_at m section (base_in layout section) (size_in layout section)) (counted_from count at)) (sym laid.modulus)
        ∙ ap (λ bases. first_some (outside_at s.modulus section (unwrap_or (slice_get bases section) 0) (size_in layout section))
        (counted_from count at)) (sym laid.bases)
        ∙ ap (λ sections. first_some (outside_at s.modulus section (base_number s section)
        (unwrap_or (option_map (λ found. found.size) (slice_get sections section)) 0)) (counted_from count at)) (sym laid.sections)

    -- an item of which a byte lies outside
    outside_taken : (item : Item) (fact : LocateFact) → outside_in layout section (get_or p.counters section 0) (byte_count item) ≡ Some fact
        → IsTaken earlier (item_step site section item) p (p, Some fact)
    outside_taken item fact e = record {
      agrees = λ none. absurd (let gone : ◌≡◌ {A = Option LocateFact} (Some fact) None = none in cc);
      cells = λ none. absurd (let gone : ◌≡◌ {A = Option LocateFact} (Some fact) None = none in cc);
      facts = λ rest. ap (λ o. first_twice [] (addresses p.cells) or_else (o or_else rest)) (item_step_facts item)
          ∙ ap (λ o. first_twice [] (addresses p.cells) or_else ((o
          or_else (first_twice (loaded_addresses s earlier) (addresses_at s.modulus (Some at) item) or_else field_fact s site section at item))
          or_else rest))
          (sym (outside_same at (byte_count item)) ∙ e);
      low = λ h. h;
    } where
      at : ℕ
      at = get_or p.counters section 0

    -- an item whose bytes lie inside
    inside_taken : (item : Item) → IsPlainItem s valuation site item → (k : ℕ) → byte_count item ≡ suc k
        → outside_in layout section (get_or p.counters section 0) (byte_count item) ≡ None
        → IsTaken earlier (item_step site section item) p (placed_outcome layout valuation section (get_or p.counters section 0) item None p)
    inside_taken item w k counted e = record {
      agrees = λ none. record {
        count = length-set p.counters section next ∙ h.count;
        counters = λ n less. counter-item s earlier site section n item ∙ moved n less (section == n) refl;
        below = λ n less. under n less (section == n) refl;
        members = members_after;
      };
      cells = λ none. ap (λ new. p.cells ++ new) (item_cells site section at item w none)
          ∙ ap (λ c. p.cells ++ step_cells layout.order s.modulus (item_reading s site section c item)) (sym counter_is);
      facts = λ rest. ap (λ o. first_twice [] (addresses p.cells) or_else (o or_else rest)) (item_step_facts item)
          ∙ ap (λ o. first_twice [] (addresses p.cells) or_else ((o
          or_else (first_twice (loaded_addresses s earlier) (addresses_at s.modulus (Some at) item) or_else field_fact s site section at item))
          or_else rest)) clear
          ∙ twice_later (addresses p.cells) (addresses_at s.modulus (Some at) item) (loaded_addresses s earlier) (field_fact s site section at item)
          rest h.members
          ∙ ap (λ new. first_twice [] (addresses p.cells ++ new) or_else (field_fact s site section at item or_else rest)) new_addresses
          ∙ ap (λ all. first_twice [] all or_else (field_fact s site section at item or_else rest))
          (sym (map-append (λ (cell : Cell). cell.0) p.cells (cells_from at found.0)))
          ∙ ap (λ o. first_twice [] (addresses (p.cells ++ cells_from at found.0)) or_else (o or_else rest)) (sym (item_facts site section at item w));
      low = λ h a there. by_side a h (In-append a (addresses p.cells) (addresses (cells_from at found.0))
          (subst (λ all. In a all) (map-append (λ (cell : Cell). cell.0) p.cells (cells_from at found.0)) there));
    } where
      at : ℕ
      at = get_or p.counters section 0

      next : ℕ
      next = (at + byte_count item) % 2 ^ layout.width

      found : List ℕ × Option LocateFact
      found = item_bytes layout valuation section at item

      clear : first_some (outside_at s.modulus section (base_number s section) (size_at s section)) (counted_from (byte_count item) at) ≡ None
      clear = sym (outside_same at (byte_count item)) ∙ e

      lies : (base_number s section ≤ at) × (at + suc k ≤ base_number s section + size_at s section)
      lies = all_inside s.modulus section (base_number s section) (size_at s section) k at
          (ap (λ n. first_some (outside_at s.modulus section (base_number s section) (size_at s section)) (counted_from n at)) (sym counted) ∙ clear)

      fits_space : at + byte_count item ≤ s.modulus
      fits_space = let high = lies.1 in let inside = laid.inside section in omega (arith, counted, high, inside)

      by_side : (a : ℕ) → ((a : ℕ) → In a (addresses p.cells) → a < s.modulus) → In a (addresses p.cells) ⊎ In a (addresses (cells_from at found.0))
          → a < s.modulus
      by_side a h (inl old) = h a old
      by_side a h (inr new) =
          let count = item_count section at item in
          let under = counted_low (length found.0) at a (subst (λ all. In a all) (addresses-from found.0 at) new) in
          let inside = fits_space in omega (arith, under, count, inside)

      new_addresses : addresses_at s.modulus (Some at) item ≡ addresses (cells_from at found.0)
      new_addresses =
          own_residues s.modulus (byte_count item) at fits_space
          ∙ ap (λ n. counted_from n at) (sym (item_count section at item))
          ∙ sym (addresses-from found.0 at)

      members_after : (a : ℕ) → has_number (addresses_at s.modulus (counter s earlier section) item ++ loaded_addresses s earlier) a
          ≡ has_number (addresses (p.cells ++ cells_from at found.0)) a
      members_after a =
          ap (λ c. has_number (addresses_at s.modulus c item ++ loaded_addresses s earlier) a) counter_is
          ∙ has-append (addresses_at s.modulus (Some at) item) (loaded_addresses s earlier) a
          ∙ ap (λ b. has_number (addresses_at s.modulus (Some at) item) a || b) (h.members a)
          ∙ or_comm (has_number (addresses_at s.modulus (Some at) item) a) (has_number (addresses p.cells) a)
          ∙ ap (λ new. has_number (addresses p.cells) a || has_number new a) new_addresses
          ∙ sym (has-append (addresses p.cells) (addresses (cells_from at found.0)) a)
          ∙ ap (λ all. has_number all a) (sym (map-append (λ (cell : Cell). cell.0) p.cells (cells_from at found.0)))

      step_on : ◌≡◌ {A = Option ℕ} (option_map (λ pc. (pc + byte_count item) % s.modulus) (counter s earlier section)) (Some next)
      step_on = ap (option_map (λ pc. (pc + byte_count item) % s.modulus)) counter_is ∙ ap (λ m. Some ((at + byte_count item) % m)) laid.modulus

      moved : (n : ℕ) → n < length s.bases → (b : Bool) → (section == n) ≡ b
          → (if section == n then option_map (λ pc. (pc + byte_count item) % s.modulus) (counter s earlier n) else counter s earlier n)
          ≡ Some (get_or (set p.counters section next) n 0)
      moved n less true f = ap (λ c. if c then option_map (λ pc. (pc + byte_count item) % s.modulus) (counter s earlier n) else counter s earlier n) f
          ∙ ap (λ k. option_map (λ pc. (pc + byte_count item) % s.modulus) (counter s earlier k)) (sym (equal_numbers section n f)) ∙ step_on
          ∙ ap Some (sym (other_counter p.counters section n next in_counters true f))
      moved n less false f = ap (λ c. if c then option_map (λ pc. (pc + byte_count item) % s.modulus) (counter s earlier n) else counter s earlier n) f
          ∙ h.counters n less ∙ ap Some (sym (other_counter p.counters section n next in_counters false f))

      next_low : next < s.modulus
      next_low = let some = h.below section there in let positive : 0 < s.modulus = omega (arith, some) in
          let low : (at + byte_count item) % s.modulus < s.modulus = omega (arith, positive) in
          let same : next ≡ (at + byte_count item) % s.modulus = ap (λ m. (at + byte_count item) % m) (sym laid.modulus) in omega (arith, low, same)

      under : (n : ℕ) → n < length s.bases → (b : Bool) → (section == n) ≡ b → get_or (set p.counters section next) n 0 < s.modulus
      under n less true f = let same = other_counter p.counters section n next in_counters true f in let low = next_low in omega (arith, same, low)
      under n less false f = let same = other_counter p.counters section n next in_counters false f in let low = h.below n less in omega (arith, same, low)

    placed_taken : (item : Item) → IsPlainItem s valuation site item → (k : ℕ) → byte_count item ≡ suc k
        → (o : Option LocateFact) → outside_in layout section (get_or p.counters section 0) (byte_count item) ≡ o
        → IsTaken earlier (item_step site section item) p (placed_outcome layout valuation section (get_or p.counters section 0) item o p)
    placed_taken item w k counted None e = inside_taken item w k counted e
    placed_taken item w k counted (Some fact) e = outside_taken item fact e

    counted_taken : (item : Item) → IsPlainItem s valuation site item → (count : ℕ) → byte_count item ≡ count
        → IsTaken earlier (item_step site section item) p
        (if count == 0 then (p, None) else placed_outcome layout valuation section (get_or p.counters section 0) item
        (outside_in layout section (get_or p.counters section 0) (byte_count item)) p)
    counted_taken item w zero e = empty_taken item w e
    counted_taken item w (suc k) e =
        subst (λ b. IsTaken earlier (item_step site section item) p
        (if b then (p, None) else placed_outcome layout valuation section (get_or p.counters section 0) item
        (outside_in layout section (get_or p.counters section 0) (byte_count item)) p)) (sym (some k))
        (placed_taken item w k e (outside_in layout section (get_or p.counters section 0) (byte_count item)) refl) where
          some : (k : ℕ) → (suc k == 0) ≡ false
          some k = grind arith

    pub item_taken : (item : Item) → IsPlainItem s valuation site item → IsTaken earlier (item_step site section item) p
        (item_outcome layout valuation section item p)
    unfolding item_outcome
    item_taken item w = counted_taken item w (byte_count item) refl
