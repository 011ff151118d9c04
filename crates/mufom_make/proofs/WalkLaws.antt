-- The walk over the loads of the generated modules: they load one byte after another, without a gap.
use Rattle.std.proofs.Common.{◌≡◌, ℕ, zero, suc, ◌+◌, ◌%◌, ◌^◌, ◌<◌, ◌≤◌, List, [], ◌∷◌, ◌++◌, map, Option, Some, None, Bool, true, false, refl, sym}
use Rattle.std.proofs.Common.{◌∙◌, ap, subst, arith, rules}
use Rattle.std.specs.Prelude.{◌==◌, nat_lt, option_map, unwrap_or, slice_get, flat_map, if◌then◌else◌}
use Rattle.std.specs.Int.{w32, to_be_bytes}
use Rattle.std.specs.List.{AllByRecursion}
use Rattle.std.proofs.Math.Nat.{mod-eq_of_lt}
use Rattle.std.proofs.lemmas.Bool.{or_right}
use Rattle.std.proofs.lemmas.List.Sums.{sum_by-cons}
use Rattle.mufom_expr.specs.declared.token.FieldKind.TheVariants.{Either}
use Rattle.mufom_expr.specs.declared.token.Letter.TheVariants as letters
use Rattle.mufom_expr.specs.Tree.{Tree, number, variable}
use Rattle.mufom_sections.specs.declared.section.Section.{Section}
use Rattle.mufom_loads.specs.declared.load.Item.{Item}
use Rattle.mufom_loads.specs.declared.load.Item.TheVariants.{Literal, Field}
use Rattle.mufom_loads.specs.Lengths.{byte_count, lengths_of}
use Rattle.mufom_meaning.specs.Fields.{fits, fits_signed}
use Rattle.mufom_meaning.specs.Flat.{Sited, sited_from}
use Rattle.mufom_meaning.specs.Steps.{Step, item_step, steps_of, counter}
use Rattle.mufom_meaning.specs.Values.{Setting, value, has_zero_divisor}
use Rattle.mufom_meaning.specs.Walk.{base_number, size_at}
use Rattle.mufom_numbers.proofs.Choices.{is_lt}
use Rattle.mufom_meaning.proofs.Unfolding.{counter-item, counter-none}
use Rattle.mufom_make.specs.Generated.{code_section, module_at, modules_from, next_value}
use Rattle.mufom_make.proofs.PlaceLaws.{base_at}
use Rattle.mufom_make.proofs.Rising.{IsFitting, IsInPlace, IsRising}

-- the items that a module loads, one after another
abbrev items_at : (last : Bool) → ℕ → List Item
items_at last n = Field Either 4 (next_value last)
    ∷ Literal (to_be_bytes w32 n)
    ∷ Field Either 4 (variable letters.P 0)
    ∷ Literal (n % 256 ∷ 0 ∷ [])
    ∷ Literal (n % 256 ∷ 0 ∷ [])
    ∷ []

equal_self : (n : ℕ) → (n == n) ≡ true
equal_self n = search rules

-- the setting of a list of modules of 4 units an address, whose sections are those of `count` generated modules
pub record IsMade (s : Setting) (count : ℕ) : Type 0 where
  pub wide : s.modulus ≡ 2 ^ 32
  pub few : count ≤ 65536
  pub small : (site : Sited) (pc : Option ℕ) (t : Tree) (v : ℕ) → value s site pc t ≡ Some v → v < 2 ^ 32
  pub based : (n : ℕ) → n < count → slice_get s.bases n ≡ Some (base_at n)
  pub sized : (n : ℕ) → n < count → slice_get s.sections n ≡ Some code_section

module _ (s : Setting) (count : ℕ) (made : IsMade s count) where
  -- an item moves the counter of its section
  counter-on : (earlier : List Step) (site : Sited) (section at : ℕ) (item : Item) → counter s earlier section ≡ Some at → at + byte_count item < s.modulus
      → counter s (item_step site section item ∷ earlier) section ≡ Some (at + byte_count item)
  counter-on earlier site section at item e less =
      counter-item s earlier site section section item
      ∙ ap (λ (b : Bool). if b then option_map (λ pc. (pc + byte_count item) % s.modulus) (counter s earlier section)
      else counter s earlier section) (equal_self section)
      ∙ ap (option_map (λ pc. (pc + byte_count item) % s.modulus)) e
      ∙ ap (λ (a : ℕ). Some a) (mod-eq_of_lt less)

  -- and no later one
  counter-later : (earlier : List Step) (site : Sited) (section other : ℕ) (item : Item) → section < other
      → counter s (item_step site section item ∷ earlier) other ≡ counter s earlier other
  counter-later earlier site section other item less =
      let differ : (section == other) ≡ false = grind (arith, less) in
      counter-item s earlier site section other item
      ∙ ap (λ (b : Bool). if b then option_map (λ pc. (pc + byte_count item) % s.modulus) (counter s earlier other) else counter s earlier other) differ

  -- the counters of the sections from this one on are at their bases
  abbrev AreAtBase : ℕ → List Step → Type 0
  AreAtBase n earlier = (m : ℕ) → n ≤ m → counter s earlier m ≡ counter s [] m

  -- items that fit wherever they are loaded
  abbrev AreFitting : Sited → List Item → Type 0
  AreFitting site items = AllByRecursion (λ item. (at : ℕ) → IsFitting s site at item) items

  -- where items are loaded: from an address up to another, in the section with this number
  record AreWithin (n section at to : ℕ) (items : List Item) : Type 0 where
    within : n < count
    own : section ≡ n
    low : base_at n ≤ at
    long : at + lengths_of items ≡ to
    high : to ≤ base_at n + 16

  base-there : (n section at to : ℕ) (items : List Item) → AreWithin n section at to items → base_number s section ≡ base_at n
  base-there n section at to items h = ap (base_number s) h.own ∙ ap (λ o. unwrap_or o 0) (made.based n h.within)

  size-there : (n section at to : ℕ) (items : List Item) → AreWithin n section at to items → size_at s section ≡ 16
  size-there n section at to items h =
      ap (size_at s) h.own ∙ ap (λ (o : Option Section). unwrap_or (option_map (λ found. found.size) o) 0) (made.sized n h.within)

  in-place : (n section at to : ℕ) (site : Sited) (item : Item) (items : List Item) (earlier : List Step) → AreWithin n section at to (item ∷ items)
      → counter s earlier section ≡ Some at → IsFitting s site at item → IsInPlace s earlier at site section item
  in-place n section at to site item items earlier h here fitting =
      let base = base-there n section at to (item ∷ items) h in
      let size = size-there n section at to (item ∷ items) h in
      let sum = sum_by-cons byte_count item items in
      let low = h.low in
      let long = h.long in
      let high = h.high in
      let within = h.within in
      let few = made.few in
      let wide = made.wide in
      record {
        counted = here;
        low = omega (arith, base, low);
        high = omega (arith, base, size, sum, low, long, high);
        inside = omega (arith, sum, long, high, within, few, wide);
        fitting = fitting;
      }

  items-rise : (n section at to : ℕ) (site : Sited) (items : List Item) (earlier more : List Step) → AreWithin n section at to items
      → counter s earlier section ≡ Some at → AreFitting site items → AreAtBase (n + 1) earlier
      → ((e : List Step) → AreAtBase (n + 1) e → IsRising s to e more)
      → IsRising s at earlier (map (item_step site section) items ++ more)
  items-rise n section at to site [] earlier more h here fitting later after =
      let long = h.long in
      let same : to ≡ at = omega (arith, long) in subst (λ (a : ℕ). IsRising s a earlier more) same (after earlier later)
  items-rise n section at to site (item ∷ items) earlier more h here fitting later after =
      let place = in-place n section at to site item items earlier h here (fitting.0 at) in
      let sum = sum_by-cons byte_count item items in
      let own = h.own in
      let low = h.low in
      let long = h.long in
      let high = h.high in
      let within = h.within in
      let few = made.few in
      let wide = made.wide in
      let less : at + byte_count item < s.modulus = omega (arith, sum, long, high, within, few, wide) in (
        place,
        items-rise n section (at + byte_count item) to site items (item_step site section item ∷ earlier) more
            (record { within = within; own = own; low = omega (arith, low); long = omega (arith, sum, long); high = high })
            (counter-on earlier site section at item here less) fitting.1
            (λ m above. counter-later earlier site section m item (omega (arith, own, above)) ∙ later m above) after,
      )

  -- ---- the items of a module

  -- a value of 4 bytes fits a field of 4 bytes
  fits-field : (v : ℕ) → v < 2 ^ 32 → fits s.modulus Either 4 v ≡ true
  fits-field v less = or_right (fits_signed s.modulus 4 v) (nat_lt v (256 ^ 4)) (is_lt v (256 ^ 4) less)

  fitting-field : (site : Sited) (t : Tree) (at : ℕ) → has_zero_divisor s site (Some at) t ≡ false → IsFitting s site at (Field Either 4 t)
  fitting-field site t at none = (none, λ v e. fits-field v (made.small site (Some at) t v e))

  fitting-next : (site : Sited) (last : Bool) (at : ℕ) → IsFitting s site at (Field Either 4 (next_value last))
  fitting-next site true at = fitting-field site (number 0) at refl
  fitting-next site false at = fitting-field site (variable letters.X 0) at refl

  fitting-items : (site : Sited) (last : Bool) (n : ℕ) → AreFitting site (items_at last n)
  fitting-items site last n =
      (fitting-next site last, ((λ at. tt), ((λ at. fitting-field site (variable letters.P 0) at refl), ((λ at. tt), ((λ at. tt), tt)))))

  start-there : (n : ℕ) (earlier : List Step) → n < count → AreAtBase n earlier → counter s earlier (n + 0) ≡ Some (base_at n)
  start-there n earlier within h =
      let same : n + 0 ≡ n = omega arith in
      let few = made.few in
      let wide = made.wide in
      let less : base_at n < s.modulus = omega (arith, within, few, wide) in
      h (n + 0) (omega arith)
      ∙ counter-none s (n + 0)
      ∙ ap (option_map (λ base. base % s.modulus)) (ap (slice_get s.bases) same ∙ made.based n within)
      ∙ ap (λ (a : ℕ). Some a) (mod-eq_of_lt less)

  -- the loads of the modules from this one on
  pub modules-rise : (more n : ℕ) (earlier : List Step) → n + more ≡ count → AreAtBase n earlier
      → IsRising s (base_at n) earlier (flat_map (λ site. steps_of site None site.parts.loads) (sited_from n n 0 (modules_from count more n)))
  modules-rise zero n earlier all h = tt
  modules-rise (suc more) n earlier all h =
      let last = n + 1 == count in
      let site : Sited = record { parts = module_at last n; first_section = n; first_public = n; first_name = 0 } in
      let within : n < count = omega (arith, all) in
      let next : base_at n + 16 ≡ base_at (n + 1) = omega arith in
      items-rise n (n + 0) (base_at n) (base_at n + 16) site (items_at last n) earlier
      (flat_map (λ site. steps_of site None site.parts.loads) (sited_from (n + 1) (n + 1) 0 (modules_from count more (n + 1))))
      (record { within = within; own = omega arith; low = omega arith; long = refl; high = omega arith })
      (start-there n earlier within h) (fitting-items site last n) (λ m above. h m (omega (arith, above)))
      (λ e later. subst (λ (a : ℕ). IsRising s a e
      (flat_map (λ site. steps_of site None site.parts.loads) (sited_from (n + 1) (n + 1) 0 (modules_from count more (n + 1))))) (sym next)
      (modules-rise more (n + 1) e (omega (arith, all)) later))
