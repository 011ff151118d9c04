-- The positions and program counters of what remains are those of its own lists.
use Rattle.std.proofs.Common.{◌≡◌, ℕ, List, [], ◌∷◌, map, filter, get_or, Option, Some, None, inl, inr, Bool, true, false, not, ◌||◌, ◌&&◌, cond}
use Rattle.std.proofs.Common.{refl, sym, ap, ◌∙◌, true≢false, eq-eqb, rules}
use Rattle.std.specs.Prelude.{is_none, option_map}
use Rattle.std.specs.List.{list_any}
use Rattle.mufom_expr.specs.declared.token.Letter.{Letter}
use Rattle.mufom_expr.specs.declared.token.Letter.TheVariants as letters
use Rattle.mufom_expr.specs.Tree.{Tree}
use Rattle.mufom_expr.specs.Value.{variables_of}
use Rattle.mufom_loads.specs.declared.load.Item.{Item}
use Rattle.mufom_loads.specs.declared.load.Item.TheVariants.{Literal, Field}
use Rattle.mufom_loads.specs.declared.load.Load.{Load}
use Rattle.mufom_loads.specs.declared.load.Load.TheVariants.{SetSection, SetPc, One, Repeat}
use Rattle.mufom_module.specs.Contents.{load_any, item_any, placed_from}
use Rattle.mufom_module.specs.Defects.{is_this, is_other_counter, has_other_counter, misplaces_counter, loads_nowhere}
use Rattle.mufom_select.specs.Choice.{is_marked}
use Rattle.mufom_meaning.proofs.Members.{In, In-flat_map, flat_map-In, none-In, fails-In}
use Rattle.mufom_meaning.proofs.Tests.{either_false}
use Rattle.mufom_meaning.proofs.staging.Renamed.{variables_of-with_variables}
use Rattle.mufom_meaning.proofs.staging.JoinedEntries.{list_any-mapped}
use Rattle.mufom_prune.specs.declared.positions.NewPositions.{NewPositions}
use Rattle.mufom_prune.specs.Kept.{item_trees, load_trees}
use Rattle.mufom_prune.specs.Pruned.{new_variable, new_tree, new_item, new_load, is_left, stays, remaining_loads}

-- ---- expressions of loads

-- a test that fails at a load fails at each of its expressions
item_was : (test : Tree → Bool) (item : Item) → item_any test item ≡ false → (t : Tree) → In t (item_trees item) → test t ≡ false
item_was test (Literal bytes) e t h = absurd h
item_was test (Field kind size value) e t (inl same) = ap test (sym same) ∙ e
item_was test (Field kind size value) e t (inr h) = absurd h

pub load_was : (test : Tree → Bool) (load : Load) → load_any test load ≡ false → (t : Tree) → In t (load_trees load) → test t ≡ false
load_was test (SetSection section) e t h = absurd h
load_was test (SetPc section value) e t (inl same) = ap test (sym same) ∙ e
load_was test (SetPc section value) e t (inr h) = absurd h
load_was test (One item) e t h = item_was test item e t h
load_was test (Repeat count items) e t h = let its = flat_map-In item_trees t items h in
    item_was test its.0 (fails-In (item_any test) items e its.0 its.1) t its.2

module _ (new : NewPositions) where
  item_fails : (test : Tree → Bool) (item : Item) → ((t : Tree) → In t (item_trees item) → test (new_tree new t) ≡ false)
      → item_any test (new_item new item) ≡ false
  item_fails test (Literal bytes) each = refl
  item_fails test (Field kind size t) each = each t (inl refl)

  -- a test that fails at each new expression of a load fails at the new load
  pub load_fails : (test : Tree → Bool) (load : Load) → ((t : Tree) → In t (load_trees load) → test (new_tree new t) ≡ false)
      → load_any test (new_load new load) ≡ false
  load_fails test (SetSection section) each = refl
  load_fails test (SetPc section t) each = each t (inl refl)
  load_fails test (One item) each = item_fails test item each
  load_fails test (Repeat count items) each =
      list_any-mapped (item_any test) (new_item new) items
      ∙ none-In (λ item. item_any test (new_item new item)) items (λ item h. item_fails test item (λ t k. each t (In-flat_map item_trees item t items h k)))

  -- ---- program counters

  pub tree_fails : (other : Letter × ℕ → Bool) (t : Tree) → ((v : Letter × ℕ) → In v (variables_of t) → other (new_variable new v.0 v.1) ≡ false)
      → list_any other (variables_of (new_tree new t)) ≡ false
  tree_fails other t each =
      ap (list_any other) (variables_of-with_variables (new_variable new) t)
      ∙ list_any-mapped other (λ v. new_variable new v.0 v.1) (variables_of t)
      ∙ none-In (λ v. other (new_variable new v.0 v.1)) (variables_of t) each

  -- the section whose program counter may be named, by its new position
  abbrev moved : Option ℕ → Option ℕ
  moved allowed = option_map (λ k. get_or new.sections k 0) allowed

  counter-here : (allowed : Option ℕ) (n : ℕ) → not (is_this allowed n) ≡ false → not (is_this (moved allowed) (get_or new.sections n 0)) ≡ false
  counter-here None n e = absurd cc
  counter-here (Some k) n e =
      let same : k ≡ n = search rules in
      ap not (eq-eqb (get_or new.sections k 0) (get_or new.sections n 0) (ap (λ i. get_or new.sections i 0) same))

  counter-variable : (allowed : Option ℕ) (v : Letter × ℕ) → is_other_counter allowed v ≡ false
      → is_other_counter (moved allowed) (new_variable new v.0 v.1) ≡ false
  counter-variable allowed (letters.I, n) e = refl
  counter-variable allowed (letters.L, n) e = refl
  counter-variable allowed (letters.P, n) e = counter-here allowed n e
  counter-variable allowed (letters.R, n) e = refl
  counter-variable allowed (letters.S, n) e = refl
  counter-variable allowed (letters.X, n) e = refl

  pub tree_counter : (allowed : Option ℕ) (t : Tree) → has_other_counter allowed t ≡ false → has_other_counter (moved allowed) (new_tree new t) ≡ false
  tree_counter allowed t e = tree_fails (is_other_counter (moved allowed)) t
      (λ v h. counter-variable allowed v (fails-In (is_other_counter allowed) (variables_of t) e v h))

  load_counter : (load : Load) (k : ℕ) (now : Option ℕ) → now ≡ Some (get_or new.sections k 0) → load_any (has_other_counter (Some k)) load ≡ false
      → load_any (has_other_counter now) (new_load new load) ≡ false
  load_counter load k now same e =
      ap (λ allowed. load_any (has_other_counter allowed) (new_load new load)) same
      ∙ load_fails (has_other_counter (Some (get_or new.sections k 0))) load (λ t h. tree_counter (Some k) t (load_was (has_other_counter (Some k)) load e t h))

  and_false : (b : Bool) → (b && false) ≡ false
  and_false true = refl
  and_false false = refl

  -- ---- the current section

  module _ (marks : List Bool) where
    -- if the current section remains, it is current in the new loads
    abbrev Runs : Option ℕ → Option ℕ → Type 0
    Runs current now = (s : ℕ) → current ≡ Some s → is_marked marks s ≡ true → now ≡ Some (get_or new.sections s 0)

    -- these loads keep to the rules, if this section is current before them
    abbrev Keep : Option ℕ → List Load → Type 0
    Keep now loads = (list_any misplaces_counter (placed_from now loads) ≡ false) × (list_any loads_nowhere (placed_from now loads) ≡ false)

    abbrev rest_of : Option ℕ → List Load → List Load
    rest_of current loads = remaining_loads marks new (placed_from current loads)

    -- one load more, which remains or goes
    abbrev more_of : Bool → Option ℕ → Load → List Load → List Load
    more_of b current load rest = map (λ (p : Option ℕ × Load). new_load new p.1)
        (cond b ((current, load) ∷ filter (stays marks) (placed_from current rest)) (filter (stays marks) (placed_from current rest)))

    one_item : (current now : Option ℕ) (item : Item) (loads : List Load) → Runs current now → (b : Bool) → is_left marks current ≡ b
        → load_any (has_other_counter current) (One item) ≡ false → Keep now (rest_of current loads) → Keep now (more_of b current (One item) loads)
    one_item current now item loads runs false e f keep = keep
    one_item None now item loads runs true e f keep = absurd (true≢false (sym e))
    one_item (Some s) now item loads runs true e f keep =
        let at = runs s refl e in (
          ap (λ b. b || list_any misplaces_counter (placed_from now (rest_of (Some s) loads))) (load_counter (One item) s now at f) ∙ keep.0,
          ap (λ (o : Option ℕ). (is_none o && true) || list_any loads_nowhere (placed_from now (rest_of (Some s) loads))) at ∙ keep.1,
        )

    one_repeat : (current now : Option ℕ) (count : ℕ) (items : List Item) (loads : List Load) → Runs current now → (b : Bool) → is_left marks current ≡ b
        → load_any (has_other_counter current) (Repeat count items) ≡ false → Keep now (rest_of current loads)
        → Keep now (more_of b current (Repeat count items) loads)
    one_repeat current now count items loads runs false e f keep = keep
    one_repeat None now count items loads runs true e f keep = absurd (true≢false (sym e))
    one_repeat (Some s) now count items loads runs true e f keep =
        let at = runs s refl e in (
          ap (λ b. b || list_any misplaces_counter (placed_from now (rest_of (Some s) loads))) (load_counter (Repeat count items) s now at f) ∙ keep.0,
          ap (λ (o : Option ℕ). (is_none o && true) || list_any loads_nowhere (placed_from now (rest_of (Some s) loads))) at ∙ keep.1,
        )

    one_pc : (current now : Option ℕ) (s : ℕ) (t : Tree) (loads : List Load) (b : Bool) → has_other_counter (Some s) t ≡ false
        → Keep now (rest_of current loads) → Keep now (more_of b current (SetPc s t) loads)
    one_pc current now s t loads false f keep = keep
    one_pc current now s t loads true f keep = (
      ap (λ b. b || list_any misplaces_counter (placed_from now (rest_of current loads))) (tree_counter (Some s) t f) ∙ keep.0,
      ap (λ b. b || list_any loads_nowhere (placed_from now (rest_of current loads))) (and_false (is_none now)) ∙ keep.1,
    )

    one_section : (current now : Option ℕ) (s : ℕ) (loads : List Load) (b : Bool) → is_marked marks s ≡ b
        → ((next : Option ℕ) → Runs (Some s) next → Keep next (rest_of (Some s) loads))
        → Keep now (map (λ (p : Option ℕ × Load). new_load new p.1)
        (cond b ((current, SetSection s) ∷ filter (stays marks) (placed_from (Some s) loads)) (filter (stays marks) (placed_from (Some s) loads))))
    one_section current now s loads true e keep =
        let next = keep (Some (get_or new.sections s 0)) (λ k same h. sym (ap (λ (o : Option ℕ). option_map (λ i. get_or new.sections i 0) o) (sym same))) in (
          next.0,
          ap (λ b. b || list_any loads_nowhere (placed_from (Some (get_or new.sections s 0)) (rest_of (Some s) loads)))
              (and_false (is_none now)) ∙ next.1,
        )
    one_section current now s loads false e keep = keep now (λ k same h. let its : s ≡ k = cc in
        absurd (true≢false (sym h ∙ ap (is_marked marks) (sym its) ∙ e)))

    pub loads_keep : (loads : List Load) (current now : Option ℕ) → Runs current now → list_any misplaces_counter (placed_from current loads) ≡ false
        → Keep now (rest_of current loads)
    loads_keep [] current now runs e = (refl, refl)
    loads_keep (SetSection s ∷ loads) current now runs e =
        one_section current now s loads (is_marked marks s) refl (λ next r. loads_keep loads (Some s) next r (either_false false _ e).1)
    loads_keep (SetPc s t ∷ loads) current now runs e =
        let both = either_false (has_other_counter (Some s) t) (list_any misplaces_counter (placed_from current loads)) e in
        one_pc current now s t loads (is_marked marks s) both.0 (loads_keep loads current now runs both.1)
    loads_keep (One item ∷ loads) current now runs e =
        let both = either_false (load_any (has_other_counter current) (One item)) (list_any misplaces_counter (placed_from current loads)) e in
        one_item current now item loads runs (is_left marks current) refl both.0 (loads_keep loads current now runs both.1)
    loads_keep (Repeat count items ∷ loads) current now runs e =
        let both = either_false (load_any (has_other_counter current) (Repeat count items)) (list_any misplaces_counter (placed_from current loads)) e in
        one_repeat current now count items loads runs (is_left marks current) refl both.0 (loads_keep loads current now runs both.1)
