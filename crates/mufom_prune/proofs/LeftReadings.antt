-- The steps of what remains read as they did.
use Rattle.std.proofs.Common.{◌≡◌, ℕ, zero, suc, ◌+◌, List, [], ◌∷◌, map, filter, get_or, Option, Bool, true, false, cond, if◌then◌else◌, eq-eqb}
use Rattle.std.proofs.Common.{eqb-true, refl, sym, ap, ◌∙◌, true≢false, arith}
use Rattle.std.specs.Prelude.{option_map, slice_get, ◌==◌, ◌%◌}
use Rattle.mufom_expr.specs.Tree.{Tree}
use Rattle.mufom_loads.specs.declared.load.Item.{Item}
use Rattle.mufom_loads.specs.declared.load.Item.TheVariants.{Literal, Field}
use Rattle.mufom_loads.specs.Lengths.{byte_count}
use Rattle.mufom_select.specs.Choice.{is_marked}
use Rattle.mufom_meaning.specs.Flat.{Sited}
use Rattle.mufom_meaning.specs.Values.{Setting, value}
use Rattle.mufom_meaning.specs.Steps.{Step, counter_step, item_step, counter, StepReading, counter_reading, literal_reading, field_reading}
use Rattle.mufom_meaning.specs.Steps.{step_reading, readings_after}
use Rattle.mufom_prune.specs.Pruned.{Remains, remaining, new_positions, positions_of, new_tree, new_item}
use Rattle.mufom_prune.specs.Meaning.{section_read, moved_reading, left_readings}
use Rattle.mufom_prune.proofs.Commons.{same_truth}
use Rattle.mufom_prune.proofs.SameValues.{at_new}
use Rattle.mufom_prune.proofs.LeftSteps.{stays_step, moved_step, left, left-one, Holds, AllHold}

-- marked elements with one new position are one
new_injective : (k : ℕ) (marks : List Bool) (a b : ℕ) → is_marked marks a ≡ true → is_marked marks b ≡ true → get_or (new_positions k marks) a 0
    ≡ get_or (new_positions k marks) b 0 → a ≡ b
new_injective k [] a b h g e = absurd (true≢false (sym h))
new_injective k (true ∷ marks) zero zero h g e = refl
new_injective k (true ∷ marks) zero (suc b) h g e = let there = at_new {X = ℕ} (suc k) marks [] b g in absurd (omega (arith, e, there.is))
new_injective k (true ∷ marks) (suc a) zero h g e = let there = at_new {X = ℕ} (suc k) marks [] a h in absurd (omega (arith, e, there.is))
new_injective k (true ∷ marks) (suc a) (suc b) h g e = ap suc (new_injective (suc k) marks a b h g e)
new_injective k (false ∷ marks) zero b h g e = absurd (true≢false (sym h))
new_injective k (false ∷ marks) (suc a) zero h g e = absurd (true≢false (sym g))
new_injective k (false ∷ marks) (suc a) (suc b) h g e = ap suc (new_injective k marks a b h g e)

module _ (home home' : Sited) (first : home.first_section ≡ 0) (first' : home'.first_section ≡ 0) (c : Remains) (Whole : Tree
    → Type 0) (s s' : Setting) (modulus : s'.modulus ≡ s.modulus)
    (bases : s'.bases ≡ remaining c.sections s.bases)
    (same : (pc : Option ℕ) (t : Tree) → Whole t → value s' home' pc (new_tree (positions_of c) t) ≡ value s home pc t) where
  abbrev to : ℕ → ℕ
  to n = get_or (new_positions 0 c.sections) n 0

  abbrev Left : List Step → List Step
  Left steps = left home home' first first' c steps

  abbrev Moved : Step → Step
  Moved step = moved_step home home' first first' c step

  abbrev All : List Step → Type 0
  All steps = AllHold home home' first first' c Whole steps

  same_test : (a b : ℕ) → is_marked c.sections a ≡ true → is_marked c.sections b ≡ true → (to a == to b) ≡ (a == b)
  same_test a b h g = same_truth (to a == to b) (a == b) (λ e. eq-eqb a b (new_injective 0 c.sections a b h g (eqb-true (to a) (to b) e)))
      (λ e. eq-eqb (to a) (to b) (ap to (eqb-true a b e)))

  other_section : (a b : ℕ) → is_marked c.sections a ≡ false → is_marked c.sections b ≡ true → (a == b) ≡ false
  other_section a b h g = by_case (a == b) refl where
    by_case : (v : Bool) → (a == b) ≡ v → v ≡ false
    by_case true e = absurd (true≢false (sym g ∙ ap (is_marked c.sections) (sym (eqb-true a b e)) ∙ h))
    by_case false e = refl

  same_length : (item : Item) → byte_count (new_item (positions_of c) item) ≡ byte_count item
  same_length (Literal bytes) = refl
  same_length (Field kind size t) = refl

  base_at : (n : ℕ) → is_marked c.sections n ≡ true → slice_get s'.bases (to n) ≡ slice_get s.bases n
  base_at n h =
      let there = at_new 0 c.sections s.bases n h in
      let from : to n ≡ there.place = omega (arith, there.is) in
      ap (λ (xs : List ℕ). slice_get xs (to n)) bases ∙ ap (slice_get (remaining c.sections s.bases)) from ∙ there.same

  pub same_counter : (earlier : List Step) → All earlier → (n : ℕ) → is_marked c.sections n ≡ true → counter s' (Left earlier) (to n) ≡ counter s earlier n
  unfolding counter
  same_counter [] a n h = λ i. option_map (λ base. base % modulus i) (base_at n h i)
  same_counter (counter_step site other t ∷ earlier) a n h = by_case (is_marked c.sections other) refl (same_counter earlier a.1 n h) where
    by_case : (b : Bool) → is_marked c.sections other ≡ b → counter s' (Left earlier) (to n) ≡ counter s earlier n
        → counter s' (Left (counter_step site other t ∷ earlier)) (to n) ≡ (if other == n then value s site (counter s earlier n) t else counter s earlier n)
    by_case true e before =
        let holds = a.0 e in
        let set = ap (λ pc. value s' home' pc (new_tree (positions_of c) t)) before ∙ same (counter s earlier n) t holds.1
        ∙ ap (λ (h : Sited). value s h (counter s earlier n) t) (sym holds.0) in
        ap (λ xs. counter s' xs (to n)) (left-one home home' first first' c (counter_step site other t) earlier true e)
        ∙ (λ i. if same_test other n e h i then set i else before i)
    by_case false e before =
        ap (λ xs. counter s' xs (to n)) (left-one home home' first first' c (counter_step site other t) earlier false e)
        ∙ before ∙ sym (ap (λ b. if b then value s site (counter s earlier n) t else counter s earlier n) (other_section other n e h))
  same_counter (item_step site other item ∷ earlier) a n h = by_case (is_marked c.sections other) refl (same_counter earlier a.1 n h) where
    by_case : (b : Bool) → is_marked c.sections other ≡ b → counter s' (Left earlier) (to n) ≡ counter s earlier n
        → counter s' (Left (item_step site other item ∷ earlier)) (to n)
        ≡ (if other == n then option_map (λ pc. (pc + byte_count item) % s.modulus) (counter s earlier n) else counter s earlier n)
    by_case true e before =
        ap (λ xs. counter s' xs (to n)) (left-one home home' first first' c (item_step site other item) earlier true e)
        ∙ (λ i. if same_test other n e h i then option_map (λ pc. (pc + same_length item i) % modulus i) (before i) else before i)
    by_case false e before =
        ap (λ xs. counter s' xs (to n)) (left-one home home' first first' c (item_step site other item) earlier false e)
        ∙ before ∙ sym (ap (λ b. if b then option_map (λ pc. (pc + byte_count item) % s.modulus) (counter s earlier n)
        else counter s earlier n) (other_section other n e h))

  -- ---- readings

  abbrev stays_reading : StepReading → Bool
  stays_reading r = is_marked c.sections (section_read r)

  reading_stays : (earlier : List Step) (step : Step) → stays_reading (step_reading s earlier step) ≡ stays_step home home' first first' c step
  reading_stays earlier (counter_step site section t) = refl
  reading_stays earlier (item_step site section (Literal bytes)) = refl
  reading_stays earlier (item_step site section (Field kind size t)) = refl

  one_reading : (earlier : List Step) → All earlier → (step : Step) → stays_step home home' first first' c step ≡ true
      → Holds home home' first first' c Whole step
      → step_reading s' (Left earlier) (Moved step) ≡ moved_reading (new_positions 0 c.sections) (step_reading s earlier step)
  one_reading earlier a (counter_step site section t) e holds =
      let before = same_counter earlier a section e in
      let set = ap (λ pc. value s' home' pc (new_tree (positions_of c) t)) before ∙ same (counter s earlier section) t holds.1
      ∙ ap (λ (h : Sited). value s h (counter s earlier section) t) (sym holds.0) in
      ap (counter_reading (to section)) set
  one_reading earlier a (item_step site section (Literal bytes)) e holds = ap (λ pc. literal_reading (to section) pc bytes) (same_counter earlier a section e)
  one_reading earlier a (item_step site section (Field kind size t)) e holds =
      let before = same_counter earlier a section e in
      let set = ap (λ pc. value s' home' pc (new_tree (positions_of c) t)) before ∙ same (counter s earlier section) t holds.1
      ∙ ap (λ (h : Sited). value s h (counter s earlier section) t) (sym holds.0) in
      λ i. field_reading (to section) (before i) kind size (set i)

  reading-one : (r : StepReading) (more : List StepReading) (b : Bool) → stays_reading r ≡ b
      → left_readings c.sections (r ∷ more) ≡ cond b (moved_reading (new_positions 0 c.sections) r ∷ left_readings c.sections more)
      (left_readings c.sections more)
  reading-one r more b e = ap (λ b. map (moved_reading (new_positions 0 c.sections))
      (cond b (r ∷ filter stays_reading more) (filter stays_reading more))) e ∙ split b where
        split : (b : Bool) → map (moved_reading (new_positions 0 c.sections)) (cond b (r ∷ filter stays_reading more) (filter stays_reading more))
            ≡ cond b (moved_reading (new_positions 0 c.sections) r ∷ left_readings c.sections more) (left_readings c.sections more)
        split true = refl
        split false = refl

  pub same_readings : (earlier more : List Step) → All earlier → All more → readings_after s' (Left earlier) (Left more)
      ≡ left_readings c.sections (readings_after s earlier more)
  same_readings earlier [] a b = refl
  same_readings earlier (step ∷ more) a b = by_case (stays_step home home' first first' c step) refl (same_readings (step ∷ earlier) more (b.0, a) b.1) where
    by_case : (v : Bool) → stays_step home home' first first' c step ≡ v → readings_after s' (Left (step ∷ earlier)) (Left more)
        ≡ left_readings c.sections (readings_after s (step ∷ earlier) more)
        → readings_after s' (Left earlier) (Left (step ∷ more)) ≡ left_readings c.sections (readings_after s earlier (step ∷ more))
    by_case true e later =
        ap (readings_after s' (Left earlier)) (left-one home home' first first' c step more true e)
        ∙ (λ i. one_reading earlier a step e (b.0 e) i ∷ (ap (λ xs. readings_after s' xs (Left more))
        (sym (left-one home home' first first' c step earlier true e)) ∙ later) i)
        ∙ sym (reading-one (step_reading s earlier step) (readings_after s (step ∷ earlier) more) true (reading_stays earlier step ∙ e))
    by_case false e later =
        ap (readings_after s' (Left earlier)) (left-one home home' first first' c step more false e)
        ∙ ap (λ xs. readings_after s' xs (Left more)) (sym (left-one home home' first first' c step earlier false e)) ∙ later
        ∙ sym (reading-one (step_reading s earlier step) (readings_after s (step ∷ earlier) more) false (reading_stays earlier step ∙ e))
