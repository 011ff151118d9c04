-- The steps of what remains are those of the sections that remain, and have the counters that they had.
use Rattle.std.proofs.Common.{◌≡◌, ℕ, zero, suc, ◌+◌, List, [], ◌∷◌, ◌++◌, map, filter, get_or, Option, Some, None, inl, inr, Bool, true, false, cond}
use Rattle.std.proofs.Common.{refl, sym, ap, subst, ◌∙◌, true≢false, zero-add}
use Rattle.std.specs.Prelude.{option_map}
use Rattle.std.proofs.lemmas.List.{map-append}
use Rattle.std.proofs.lemmas.List.Elements.{filter-append}
use Rattle.mufom_expr.specs.Tree.{Tree}
use Rattle.mufom_loads.specs.declared.load.Item.{Item}
use Rattle.mufom_loads.specs.declared.load.Item.TheVariants.{Literal, Field}
use Rattle.mufom_loads.specs.declared.load.Load.{Load}
use Rattle.mufom_loads.specs.declared.load.Load.TheVariants.{SetSection, SetPc, One, Repeat}
use Rattle.mufom_loads.specs.Lengths.{repeated}
use Rattle.mufom_module.specs.Contents.{placed_from}
use Rattle.mufom_select.specs.Choice.{is_marked}
use Rattle.mufom_meaning.specs.Flat.{Sited}
use Rattle.mufom_meaning.specs.Steps.{Step, counter_step, item_step, item_steps, steps_of}
use Rattle.mufom_meaning.proofs.Members.{In, In-flat_map}
use Rattle.mufom_prune.specs.Kept.{item_trees, load_trees}
use Rattle.mufom_prune.specs.Pruned.{Remains, new_positions, positions_of, new_tree, new_item, new_load, is_left, stays, remaining_loads}

module _ (home home' : Sited) (first : home.first_section ≡ 0) (first' : home'.first_section ≡ 0) (c : Remains) where
  abbrev pub at : ℕ → ℕ
  at n = get_or (new_positions 0 c.sections) n 0

  abbrev pub section_of : Step → ℕ
  section_of (counter_step site section t) = section
  section_of (item_step site section item) = section

  -- the step is one of a section that remains
  abbrev pub stays_step : Step → Bool
  stays_step step = is_marked c.sections (section_of step)

  -- the step of what remains
  abbrev pub moved_step : Step → Step
  moved_step (counter_step site section t) = counter_step home' (at section) (new_tree (positions_of c) t)
  moved_step (item_step site section item) = item_step home' (at section) (new_item (positions_of c) item)

  abbrev pub left : List Step → List Step
  left steps = map moved_step (filter stays_step steps)

  own : (s : ℕ) → home.first_section + s ≡ s
  own s = ap (λ k. k + s) first ∙ zero-add s

  own' : (s : ℕ) → home'.first_section + s ≡ s
  own' s = ap (λ k. k + s) first' ∙ zero-add s

  left-append : (xs ys : List Step) → left (xs ++ ys) ≡ left xs ++ left ys
  left-append xs ys = ap (map moved_step) (filter-append stays_step xs ys) ∙ map-append moved_step (filter stays_step xs) (filter stays_step ys)

  left-repeated : (n : ℕ) (xs : List Step) → left (repeated n xs) ≡ repeated n (left xs)
  left-repeated zero xs = refl
  left-repeated (suc n) xs = left-append xs (repeated n xs) ∙ ap (λ ys. left xs ++ ys) (left-repeated n xs)

  repeated-none : (n : ℕ) → repeated {X = Step} n [] ≡ []
  repeated-none zero = refl
  repeated-none (suc n) = repeated-none n

  -- one step more
  pub left-one : (step : Step) (rest : List Step) (b : Bool) → stays_step step ≡ b → left (step ∷ rest) ≡ cond b (moved_step step ∷ left rest) (left rest)
  left-one step rest b e = ap (λ b. map moved_step (cond b (step ∷ filter stays_step rest) (filter stays_step rest))) e ∙ split b where
    split : (b : Bool) → map moved_step (cond b (step ∷ filter stays_step rest) (filter stays_step rest)) ≡ cond b (moved_step step ∷ left rest) (left rest)
    split true = refl
    split false = refl

  items-left : (s : ℕ) (items : List Item) → is_marked c.sections s ≡ true → left (item_steps home (Some s) items)
      ≡ item_steps home' (Some (at s)) (map (new_item (positions_of c)) items)
  items-left s [] h = refl
  items-left s (item ∷ items) h =
      left-one (item_step home (home.first_section + s) item) (item_steps home (Some s) items) true (ap (is_marked c.sections) (own s) ∙ h)
      ∙ (λ i. item_step home' ((ap at (own s) ∙ sym (own' (at s))) i) (new_item (positions_of c) item) ∷ items-left s items h i)

  items-gone : (s : ℕ) (items : List Item) → is_marked c.sections s ≡ false → left (item_steps home (Some s) items) ≡ []
  items-gone s [] h = refl
  items-gone s (item ∷ items) h =
      left-one (item_step home (home.first_section + s) item) (item_steps home (Some s) items) false (ap (is_marked c.sections) (own s) ∙ h)
      ∙ items-gone s items h

  abbrev Runs : Option ℕ → Option ℕ → Type 0
  Runs current now = (s : ℕ) → current ≡ Some s → is_marked c.sections s ≡ true → now ≡ Some (at s)

  abbrev rest_of : Option ℕ → List Load → List Load
  rest_of current loads = remaining_loads c.sections (positions_of c) (placed_from current loads)

  abbrev more_of : Bool → Option ℕ → Load → Option ℕ → List Load → List Load
  more_of b current load next rest = map (λ (p : Option ℕ × Load). new_load (positions_of c) p.1)
      (cond b ((current, load) ∷ filter (stays c.sections) (placed_from next rest)) (filter (stays c.sections) (placed_from next rest)))

  abbrev Left : Option ℕ → Option ℕ → List Load → Type 0
  Left current now loads = steps_of home' now (rest_of current loads) ≡ left (steps_of home current loads)

  one_section : (current now : Option ℕ) (s : ℕ) (loads : List Load) (b : Bool) → is_marked c.sections s ≡ b
      → ((next : Option ℕ) → Runs (Some s) next → Left (Some s) next loads)
      → steps_of home' now (more_of b current (SetSection s) (Some s) loads) ≡ left (steps_of home (Some s) loads)
  one_section current now s loads true e later = later (Some (at s)) (λ k same h. sym (ap (λ (o : Option ℕ). option_map (λ i. at i) o) (sym same)))
  one_section current now s loads false e later = later now (λ k same h. let its : s ≡ k = cc in
      absurd (true≢false (sym h ∙ ap (is_marked c.sections) (sym its) ∙ e)))

  one_pc : (current now : Option ℕ) (s : ℕ) (t : Tree) (loads : List Load) (b : Bool) → is_marked c.sections s ≡ b → Left current now loads
      → steps_of home' now (more_of b current (SetPc s t) current loads) ≡ left (counter_step home (home.first_section + s) t ∷ steps_of home current loads)
  one_pc current now s t loads true e later =
      (λ i. counter_step home' ((own' (at s) ∙ ap at (sym (own s))) i) (new_tree (positions_of c) t) ∷ later i)
      ∙ sym (left-one (counter_step home (home.first_section + s) t) (steps_of home current loads) true (ap (is_marked c.sections) (own s) ∙ e))
  one_pc current now s t loads false e later = later ∙ sym (left-one (counter_step home (home.first_section + s) t) (steps_of home current loads)
      false (ap (is_marked c.sections) (own s) ∙ e))

  one_item : (current now : Option ℕ) (item : Item) (loads : List Load) → Runs current now → (b : Bool) → is_left c.sections current ≡ b
      → Left current now loads
      → steps_of home' now (more_of b current (One item) current loads) ≡ left (item_steps home current (item ∷ []) ++ steps_of home current loads)
  one_item None now item loads runs true e later = absurd (true≢false (sym e))
  one_item None now item loads runs false e later = later
  one_item (Some s) now item loads runs true e later =
      ap (λ (o : Option ℕ). item_steps home' o (new_item (positions_of c) item ∷ []) ++ steps_of home' now (rest_of (Some s) loads)) (runs s refl e)
      ∙ (λ i. sym (items-left s (item ∷ []) e) i ++ later i) ∙ sym (left-append (item_steps home (Some s) (item ∷ [])) (steps_of home (Some s) loads))
  one_item (Some s) now item loads runs false e later =
      later ∙ ap (λ xs. xs ++ left (steps_of home (Some s) loads)) (sym (items-gone s (item ∷ []) e))
      ∙ sym (left-append (item_steps home (Some s) (item ∷ [])) (steps_of home (Some s) loads))

  one_repeat : (current now : Option ℕ) (count : ℕ) (items : List Item) (loads : List Load) → Runs current now → (b : Bool)
      → is_left c.sections current ≡ b → Left current now loads
      → steps_of home' now (more_of b current (Repeat count items) current loads)
      ≡ left (repeated count (item_steps home current items) ++ steps_of home current loads)
  one_repeat None now count items loads runs true e later = absurd (true≢false (sym e))
  one_repeat None now count items loads runs false e later = later ∙ ap (λ xs. left (xs ++ steps_of home None loads)) (sym (repeated-none count))
  one_repeat (Some s) now count items loads runs true e later =
      ap (λ (o : Option ℕ). repeated count (item_steps home' o (map (new_item (positions_of c)) items))
      ++ steps_of home' now (rest_of (Some s) loads)) (runs s refl e)
      ∙ (λ i. (ap (repeated count) (sym (items-left s items e)) ∙ sym (left-repeated count (item_steps home (Some s) items))) i ++ later i)
      ∙ sym (left-append (repeated count (item_steps home (Some s) items)) (steps_of home (Some s) loads))
  one_repeat (Some s) now count items loads runs false e later =
      later
      ∙ ap (λ xs. xs ++ left (steps_of home (Some s) loads)) (sym (left-repeated count (item_steps home (Some s) items)
      ∙ ap (repeated count) (items-gone s items e) ∙ repeated-none count))
      ∙ sym (left-append (repeated count (item_steps home (Some s) items)) (steps_of home (Some s) loads))

  pub steps_left : (loads : List Load) (current now : Option ℕ) → Runs current now → Left current now loads
  steps_left [] current now runs = refl
  steps_left (SetSection s ∷ loads) current now runs = one_section current now s loads (is_marked c.sections s) refl
      (λ next r. steps_left loads (Some s) next r)
  steps_left (SetPc s t ∷ loads) current now runs = one_pc current now s t loads (is_marked c.sections s) refl (steps_left loads current now runs)
  steps_left (One item ∷ loads) current now runs = one_item current now item loads runs (is_left c.sections current) refl (steps_left loads current now runs)
  steps_left (Repeat count items ∷ loads) current now runs = one_repeat current now count items loads runs (is_left c.sections current) refl
      (steps_left loads current now runs)

  -- ---- what steps hold

  module _ (Whole : Tree → Type 0) where
    abbrev pub HoldsItem : Item → Type 0
    HoldsItem (Literal bytes) = Unit {0}
    HoldsItem (Field kind size t) = Whole t

    -- the step is one of the module, and its expression is whole
    abbrev pub Holds : Step → Type 0
    Holds (counter_step site section t) = (site ≡ home) × Whole t
    Holds (item_step site section item) = (site ≡ home) × HoldsItem item

    abbrev pub AllHold : List Step → Type 0
    AllHold [] = Unit {0}
    AllHold (step ∷ steps) = (stays_step step ≡ true → Holds step) × AllHold steps

    hold-join : (xs ys : List Step) → AllHold xs → AllHold ys → AllHold (xs ++ ys)
    hold-join [] ys a b = b
    hold-join (x ∷ xs) ys a b = (a.0, hold-join xs ys a.1 b)

    hold-repeated : (n : ℕ) (xs : List Step) → AllHold xs → AllHold (repeated n xs)
    hold-repeated zero xs a = tt
    hold-repeated (suc n) xs a = hold-join xs (repeated n xs) a (hold-repeated n xs a)

    hold-item : (item : Item) → ((t : Tree) → In t (item_trees item) → Whole t) → HoldsItem item
    hold-item (Literal bytes) each = tt
    hold-item (Field kind size t) each = each t (inl refl)

    hold-items : (current : Option ℕ) (items : List Item) → (is_left c.sections current ≡ true → (item : Item) → In item items → HoldsItem item)
        → AllHold (item_steps home current items)
    hold-items None items each = tt
    hold-items (Some s) [] each = tt
    hold-items (Some s) (item ∷ items) each =
        ((λ h. (refl, each (ap (is_marked c.sections) (sym (own s)) ∙ h) item (inl refl))), hold-items (Some s) items (λ e x h. each e x (inr h)))

    pub all_hold : (loads : List Load) (current : Option ℕ) → ((p : Option ℕ × Load) → In p (placed_from current loads) → stays c.sections p ≡ true
        → (t : Tree) → In t (load_trees p.1) → Whole t)
        → AllHold (steps_of home current loads)
    all_hold [] current each = tt
    all_hold (SetSection s ∷ loads) current each = all_hold loads (Some s) (λ p h. each p (inr h))
    all_hold (SetPc s t ∷ loads) current each = (
      (λ h. (refl, each (current, SetPc s t) (inl refl) (ap (is_marked c.sections) (sym (own s)) ∙ h) t (inl refl))),
      all_hold loads current (λ p h. each p (inr h)),
    )
    all_hold (One item ∷ loads) current each =
        hold-join (item_steps home current (item ∷ [])) (steps_of home current loads)
        (hold-items current (item ∷ []) (λ e x h. one_of x h (hold-item item (λ t k. each (current, One item) (inl refl) e t k))))
        (all_hold loads current (λ p h. each p (inr h))) where
          one_of : (x : Item) → In x (item ∷ []) → HoldsItem item → HoldsItem x
          one_of x (inl same) h = subst HoldsItem same h
          one_of x (inr k) h = absurd k
    all_hold (Repeat count items ∷ loads) current each =
        hold-join (repeated count (item_steps home current items)) (steps_of home current loads)
        (hold-repeated count (item_steps home current items) (hold-items current items
        (λ e x h. hold-item x (λ t k. each (current, Repeat count items) (inl refl) e t (In-flat_map item_trees x t items h k)))))
        (all_hold loads current (λ p h. each p (inr h)))
