-- A value of a location, as the one number of an expression, has that value again.
use Rattle.std.proofs.Common.{◌≡◌, ℕ, zero, suc, ◌+◌, ◌*◌, ◌^◌, ◌<◌, ◌≤◌, inl, inr, List, [], ◌∷◌, length, Option, Some, None, true, false, not, refl}
use Rattle.std.proofs.Common.{sym, ◌∙◌, ap, subst, arith, zero-add}
use Rattle.std.specs.Prelude.{option_map, IfSome}
use Rattle.std.proofs.Math.Nat.{mod-eq_of_lt}
use Rattle.mufom_expr.specs.Tree.{Tree, number}
use Rattle.mufom_expr.specs.Value.{value_at}
use Rattle.mufom_expr.proofs.ValueLaws.{value_small}
use Rattle.mufom_debug.specs.declared.item.BlockHead.{BlockHead}
use Rattle.mufom_debug.specs.declared.item.BlockHead.TheVariants as heads
use Rattle.mufom_debug.specs.Marks.{DebugMark, block_begin, block_end, name_mark, note_mark, value_mark, mark_expressions}
use Rattle.mufom_module.specs.declared.module.Parts.{Parts}
use Rattle.mufom_module.specs.declared.module.Defect.TheVariants as d
use Rattle.mufom_module.specs.Defects.{is_unit_count}
use Rattle.mufom_meaning.specs.Bases.{Bases}
use Rattle.mufom_meaning.specs.Flat.{Sited, width}
use Rattle.mufom_meaning.specs.Values.{Setting, setting, environment, value}
use Rattle.mufom_meaning.specs.Readings.{mark_reading, head_reading}
use Rattle.mufom_meaning.specs.Location.{located_head, located_mark}
use Rattle.mufom_meaning.specs.Staging.{AreValid}
use Rattle.mufom_numbers.proofs.Choices.{some_same}
use Rattle.mufom_meaning.proofs.Members.{In}
use Rattle.mufom_meaning.proofs.NoDefects.{no_defect}
use Rattle.mufom_meaning.proofs.values.Causes.{valuation_below, within_is}

-- an address of valid modules has at least one bit
pub width_positive : (m : Parts) (more : List Parts) → AreValid (m ∷ more) → 1 ≤ width (m ∷ more)
width_positive m more v = by_units m.maus refl (no_defect m v.0 d.BadMaus) where
  by_units : (n : ℕ) → m.maus ≡ n → not (is_unit_count m.maus) ≡ false → 1 ≤ 8 * m.maus
  by_units zero e h = let clash : true ≡ false = ap (λ n. not (is_unit_count n)) (sym e) ∙ h in absurd cc
  by_units (suc n) e h = omega (arith, e)

-- a value is below the address space
pub value_below : (ms : List Parts) (bs : Bases) → 1 ≤ width ms → (site : Sited) (pc : Option ℕ) (t : Tree) (v : ℕ) → value (setting ms bs) site pc t
    ≡ Some v → v < 2 ^ width ms
value_below ms bs low site pc t v e =
    let s = setting ms bs in
    let small = value_small (width ms) low (environment s (valuation_below s (length s.publics)) site pc) t in
    let there : value_at (2 ^ width ms) (environment s (valuation_below s (length s.publics)) site pc) t ≡ Some v =
    sym (within_is s (length s.publics) site pc t) ∙ e in
    subst (λ o. IfSome o (λ v. v < 2 ^ width ms)) there small

-- a number has itself as its value
pub number_value : (s : Setting) (site : Sited) (pc : Option ℕ) (n : ℕ) → n < s.modulus → value s site pc (number n) ≡ Some n
number_value s site pc n less = within_is s (length s.publics) site pc (number n) ∙ ap (λ n. Some n) (mod-eq_of_lt less)

-- what an option maps to, where that is there
carried : {A : Type 0} (f : ℕ → A) (o : Option ℕ) (x : A) → option_map f o ≡ Some x → (n : ℕ) × (o ≡ Some n) × (x ≡ f n)
carried f None x e = absurd cc
carried f (Some n) x e = (n, refl, sym (some_same (f n) x e))

module _ (s again : Setting) (home : Sited) (first : home.first_section ≡ 0) (name : home.first_name ≡ 0)
    (below : (site : Sited) (t : Tree) (v : ℕ) → value s site None t ≡ Some v → v < again.modulus) where
  -- the mark is read as itself, and has numbers as expressions
  pub record IsNumbered (mark : DebugMark) : Type 0 where
    pub read : located_mark (mark_reading again home mark) ≡ Some mark
    pub numbers : (t : Tree) → In t (mark_expressions mark) → (n : ℕ) × (t ≡ number n)

  value_again : (site : Sited) (t : Tree) (n : ℕ) → value s site None t ≡ Some n → value again home None (number n) ≡ Some n
  value_again site t n e = number_value again home None n (below site t n e)

  one_number : (n : ℕ) (t : Tree) → In t (number n ∷ []) → (k : ℕ) × (t ≡ number k)
  one_number n t (inl e) = (n, sym e)
  one_number n t (inr h) = absurd h

  moved : (k : ℕ) → home.first_section + k ≡ k
  moved k = ap (λ n. n + k) first ∙ zero-add k

  renamed : (k : ℕ) → home.first_name + k ≡ k
  renamed k = ap (λ n. n + k) name ∙ zero-add k

  -- a block's head that is located from another
  head_numbered : (site : Sited) (head : BlockHead) (title : List ℕ) (located : BlockHead) → located_head (head_reading s site head) ≡ Some located
      → IsNumbered (block_begin located title)
  head_numbered site heads.Module title located e =
      subst (λ h. IsNumbered (block_begin h title)) (some_same heads.Module located e) (record { read = refl; numbers = λ t h. absurd h })
  head_numbered site (heads.Global stack type_index offset) title located e =
      let there = carried (λ n. heads.Global stack type_index (number n)) (value s site None offset) located e in
      subst (λ h. IsNumbered (block_begin h title)) (sym there.2) (record {
        read = ap (λ o. option_map (λ h. block_begin h title) (option_map (λ n. heads.Global stack type_index (number n)) o))
            (value_again site offset there.0 there.1);
        numbers = one_number there.0;
      })
  head_numbered site (heads.Local stack type_index offset) title located e =
      let there = carried (λ n. heads.Local stack type_index (number n)) (value s site None offset) located e in
      subst (λ h. IsNumbered (block_begin h title)) (sym there.2) (record {
        read = ap (λ o. option_map (λ h. block_begin h title) (option_map (λ n. heads.Local stack type_index (number n)) o))
            (value_again site offset there.0 there.1);
        numbers = one_number there.0;
      })
  head_numbered site (heads.Source numbers) title located e =
      subst (λ h. IsNumbered (block_begin h title)) (some_same (heads.Source numbers) located e) (record { read = refl; numbers = λ t h. absurd h })
  head_numbered site (heads.Section section_type section offset) title located e =
      let there = carried (λ n. heads.Section section_type (site.first_section + section) (number n)) (value s site None offset) located e in
      let place = moved (site.first_section + section) in
      subst (λ h. IsNumbered (block_begin h title)) (sym there.2) (record {
        read = (λ i. option_map (λ h. block_begin h title) (option_map (λ n. heads.Section section_type (place i) (number n))
            (value_again site offset there.0 there.1 i)));
        numbers = one_number there.0;
      })

  through_head : (site : Sited) (head : BlockHead) (title : List ℕ) (o : Option BlockHead) → located_head (head_reading s site head) ≡ o
      → (mark : DebugMark) → option_map (λ h. block_begin h title) o ≡ Some mark → IsNumbered mark
  through_head site head title None e mark f = absurd cc
  through_head site head title (Some located) e mark f = subst IsNumbered (some_same (block_begin located title) mark f)
      (head_numbered site head title located e)

  -- a mark that is located from another is read as itself
  pub mark_numbered : (site : Sited) (from mark : DebugMark) → located_mark (mark_reading s site from) ≡ Some mark → IsNumbered mark
  mark_numbered site (block_begin head title) mark e = through_head site head title (located_head (head_reading s site head)) refl mark e
  mark_numbered site (block_end None) mark e = subst IsNumbered (some_same (block_end None) mark e) (record { read = refl; numbers = λ t h. absurd h })
  mark_numbered site (block_end (Some t)) mark e =
      let there = carried (λ n. block_end (Some (number n))) (value s site None t) mark e in
      subst IsNumbered (sym there.2) (record {
        read = ap (option_map (λ n. block_end (Some (number n)))) (value_again site t there.0 there.1);
        numbers = one_number there.0;
      })
  mark_numbered site (name_mark title) mark e = subst IsNumbered (some_same (name_mark title) mark e) (record { read = refl; numbers = λ t h. absurd h })
  mark_numbered site (note_mark place note) mark e =
      subst IsNumbered (some_same (note_mark (site.first_name + place) note) mark e)
      (record { read = ap (λ n. Some (note_mark n note)) (renamed (site.first_name + place)); numbers = λ t h. absurd h })
  mark_numbered site (value_mark place t) mark e =
      let there = carried (λ n. value_mark (site.first_name + place) (number n)) (value s site None t) mark e in
      let same = renamed (site.first_name + place) in
      subst IsNumbered (sym there.2) (record {
        read = λ i. option_map (λ n. value_mark (same i) (number n)) (value_again site t there.0 there.1 i);
        numbers = one_number there.0;
      })
