-- What the walk of one counter finds, item by item and load by load.
use Rattle.std.proofs.Common.{◌≡◌, ℕ, zero, suc, ◌+◌, ◌-◌, ◌<◌, List, [], ◌∷◌, ◌++◌, Option, Some, None, Bool, true, false, append_assoc, refl, ap, ◌∙◌}
use Rattle.std.proofs.Common.{arith, drop, get_or, length, sym}
use Rattle.std.specs.Prelude.{◌==◌, ◌&&◌, is_some, option_map, if◌then◌else◌}
use Rattle.std.proofs.lemmas.List.{drop_more}
use Rattle.mufom_expr.specs.Tree.{Tree}
use Rattle.mufom_loads.specs.declared.load.Item.{Item}
use Rattle.mufom_loads.specs.declared.load.Load.{Load}
use Rattle.mufom_loads.specs.declared.load.Load.TheVariants.{SetSection, SetPc, One, Repeat}
use Rattle.mufom_loads.specs.Lengths.{repeated}
use Rattle.mufom_module.specs.declared.module.Parts.{Parts}
use Rattle.mufom_module.specs.Contents.{current_after}
use Rattle.mufom_place.specs.Facts.{◌or_else◌}
use Rattle.mufom_meaning.specs.Flat.{Sited}
use Rattle.mufom_meaning.specs.Steps.{Step, counter_step, item_step, counter, item_steps, steps_of}
use Rattle.mufom_meaning.specs.Values.{Setting, value}
use Rattle.mufom_meaning.proofs.Unfolding.{counter-item, counter-set}
use Rattle.mufom_image_values.specs.Evaluated.{alone}
use Rattle.mufom_field_values.specs.Fields.{field_step, field_tree, first_field, is_at, shown_load, shown_loads}
use Rattle.mufom_field_values.specs.Walk.{after_item, field_here, found, found_from, load_steps, moved}

-- ---- the definition by counters

nested : (b c : Bool) (o : Option Tree) → (if b && c then o else None) ≡ (if b then (if c then o else None) else None)
nested true c o = refl
nested false c o = refl

moved-counter : (s : Setting) (section : ℕ) (earlier : List Step) (step : Step)
    → counter s (step ∷ earlier) section ≡ moved s section step (counter s earlier section)
moved-counter s section earlier (counter_step site other t) = counter-set s earlier site other section t
moved-counter s section earlier (item_step site other item) = counter-item s earlier site other section item

found-step : (s : Setting) (section address : ℕ) (earlier : List Step) (step : Step)
    → field_step s section address earlier step ≡ found section address step (counter s earlier section)
found-step s section address earlier (counter_step site other t) = refl
found-step s section address earlier (item_step site other item) =
    nested (other == section) (is_at address (counter s earlier section)) (field_tree item)

-- the first field is what the walk of the counter finds
pub first-found : (s : Setting) (section address : ℕ) (earlier steps : List Step)
    → first_field s section address earlier steps ≡ found_from s section address (counter s earlier section) steps
first-found s section address earlier [] = refl
first-found s section address earlier (step ∷ more) =
    let here = found-step s section address earlier step in
    let later = first-found s section address (step ∷ earlier) more in
    let next = moved-counter s section earlier step in
    (λ i. here i or_else later i)
    ∙ ap (λ c. found section address step (counter s earlier section) or_else found_from s section address c more) next

-- ---- what is found

-- if something is found, nothing after it is looked at
pub or_else-some : {A B : Type 0} (f : A → B) (o : Option A) (a b : Option B) → is_some o ≡ true
    → (option_map f o or_else a) ≡ (option_map f o or_else b)
or_else-some f None a b is = absurd cc
or_else-some f (Some x) a b is = refl

pub or_else-none : {A B : Type 0} (f : A → B) (o : Option A) (a : Option B) → is_some o ≡ false → (option_map f o or_else a) ≡ a
or_else-none f None a is = refl
or_else-none f (Some x) a is = absurd cc

pub or_else-done : {A B : Type 0} (f : A → B) (o : Option A) (a : Option B) → is_some o ≡ true → (option_map f o or_else a) ≡ option_map f o
or_else-done f None a is = absurd cc
or_else-done f (Some x) a is = refl

-- ---- items

own-place : (n : ℕ) → ((0 + n) == n) ≡ true
own-place n = grind arith

module _ (s : Setting) (m : Parts) (n a : ℕ) where
  abbrev from : Option ℕ → List Step → Option Tree
  from c steps = found_from s n a c steps

  abbrev own : List Item → List Step
  own items = item_steps (alone m) (Some n) items

  pub take-one : (c : Option ℕ) (item : Item) (more : List Step) → from c (own (item ∷ []) ++ more)
      ≡ (field_here a item c or_else from (after_item s.modulus item c) more)
  take-one c item more =
      ap (λ b. (if b then field_here a item c else None) or_else from (if b then after_item s.modulus item c else c) more) (own-place n)

  -- copies that leave the counter where it is find nothing
  pub repeated-still : (c : Option ℕ) (steps : List Step) → ((more : List Step) → from c (steps ++ more) ≡ from c more) → (k : ℕ) (more : List Step)
      → from c (repeated k steps ++ more) ≡ from c more
  repeated-still c steps still zero more = refl
  repeated-still c steps still (suc k) more =
      ap (from c) (append_assoc steps (repeated k steps) more) ∙ still (repeated k steps ++ more) ∙ repeated-still c steps still k more

  -- one copy more
  pub copies-next : (c next : Option ℕ) (o : Option Tree) (steps : List Step) → ((more : List Step) → from c (steps ++ more) ≡ (o or_else from next more))
      → (count taken : ℕ) → taken < count → (more : List Step)
      → from c (repeated (count - taken) steps ++ more) ≡ (o or_else from next (repeated (count - (taken + 1)) steps ++ more))
  copies-next c next o steps one count taken less more =
      let left : count - taken ≡ suc (count - (taken + 1)) = omega (arith, less) in
      let k : ℕ = count - (taken + 1) in
      ap (λ n. from c (repeated n steps ++ more)) left
      ∙ ap (from c) (append_assoc steps (repeated k steps) more)
      ∙ one (repeated k steps ++ more)

  -- items of another section are passed over
  pub others-pass : (c : Option ℕ) (other : ℕ) → ((0 + other) == n) ≡ false → (items : List Item) (more : List Step)
      → from c (item_steps (alone m) (Some other) items ++ more) ≡ from c more
  others-pass c other apart [] more = refl
  others-pass c other apart (item ∷ items) more =
      ap (λ b. (if b then field_here a item c else None)
      or_else from (if b then after_item s.modulus item c else c) (item_steps (alone m) (Some other) items ++ more)) apart
      ∙ others-pass c other apart items more

  -- so are the items of a load, if another section or none is current
  nothing-repeated : (k : ℕ) → repeated k (item_steps (alone m) None []) ≡ []
  nothing-repeated zero = refl
  nothing-repeated (suc k) = nothing-repeated k

  module _ (c : Option ℕ) (current : Option ℕ) (apart : current ≡ Some n → ⊥) where
    items-pass : (items : List Item) (more : List Step) → from c (item_steps (alone m) current items ++ more) ≡ from c more
    items-pass items more = by current refl where
      differs : (other : ℕ) → current ≡ Some other → (b : Bool) → ((0 + other) == n) ≡ b → b ≡ false
      differs other is true same =
          absurd (apart (is ∙ ap Some (let equal : other ≡ n = grind (arith, same) in equal)))
      differs other is false same = refl

      by : (o : Option ℕ) → current ≡ o → from c (item_steps (alone m) o items ++ more) ≡ from c more
      by None is = refl
      by (Some other) is = others-pass c other (differs other is ((0 + other) == n) refl) items more

    pub one-passes : (item : Item) (more : List Step) → from c (load_steps (alone m) current (One item) ++ more) ≡ from c more
    one-passes item more = items-pass (item ∷ []) more

    pub repeat-passes : (count : ℕ) (items : List Item) (more : List Step) → from c (load_steps (alone m) current (Repeat count items) ++ more) ≡ from c more
    repeat-passes count items more = repeated-still c (item_steps (alone m) current items) (items-pass items) count more

  -- a counter that is set
  pub counter-taken : (c : Option ℕ) (current : Option ℕ) (section : ℕ) (t : Tree) (more : List Step)
      → from c (load_steps (alone m) current (SetPc section t) ++ more) ≡ from (if section == n then value s (alone m) c t else c) more
  counter-taken c current section t more = ap (λ k. from (if k == n then value s (alone m) c t else c) more) (zero-plus section) where
    zero-plus : (k : ℕ) → 0 + k ≡ k
    zero-plus k = omega arith

-- ---- loads

-- the steps of loads are those of the first and of the others
pub steps-next : (site : Sited) (current : Option ℕ) (load : Load) (loads : List Load)
    → steps_of site current (load ∷ loads) ≡ load_steps site current load ++ steps_of site (current_after current load) loads
steps-next site current (SetSection section) loads = refl
steps-next site current (SetPc section t) loads = refl
steps-next site current (One item) loads = refl
steps-next site current (Repeat count items) loads = refl

-- ---- loads that are shown

-- what is left of a list, if this is its element at the position
left-at : (loads : List Load) (i : ℕ) (load : Load) → i < length loads → load ≡ get_or loads i load → drop i loads ≡ load ∷ drop (i + 1) loads
left-at loads i load low is = drop_more loads i load low ∙ ap (λ (x : Load). x ∷ drop (i + 1) loads) (sym is)

-- the loads that are left are the next one and the others
pub shown-next : (loads own : List Load) (i : ℕ) (load other : Load) → i < length loads → load ≡ get_or loads i load → i < length own
    → other ≡ get_or own i other
    → shown_loads (drop i loads) (drop i own) ≡ shown_load load other ∷ shown_loads (drop (i + 1) loads) (drop (i + 1) own)
shown-next loads own i load other low is beside at =
    let first = left-at loads i load low is in let second = left-at own i other beside at in λ j. shown_loads (first j) (second j)

-- loads beside no others are not shown
pub shown-none : (loads : List Load) → shown_loads loads [] ≡ []
shown-none [] = refl
shown-none (load ∷ loads) = refl
