-- A module that has no defect and is within the bounds of its parts is one that the program can hold.
use Rattle.std.proofs.Common.{◌≡◌, ℕ, ◌+◌, ◌^◌, ◌<◌, ◌≤◌, Bool, true, false, not, nat_le, nat_lt, ◌==◌, ◌&&◌, ◌||◌, List, [], ◌∷◌, ◌++◌, length, Option, Some}
use Rattle.std.proofs.Common.{None, refl, sym, ◌∙◌, arith, ltb-false}
use Rattle.std.specs.Prelude.{IfSome, is_none, option_to_list}
use Rattle.std.specs.List.{AllByRecursion, list_any}
use Rattle.std.proofs.lemmas.List.Elements.{All-from_recursion}
use Rattle.std.proofs.lemmas.List.Folds.{list_any-append}
use Rattle.std.proofs.lemmas.Bool.{leb-false, leb-true, ltb-true, or_parts}
use Rattle.mufom_expr.specs.declared.token.Letter.{Letter}
use Rattle.mufom_expr.specs.declared.token.Letter.TheVariants.{I, L, P, R, S, X}
use Rattle.mufom_expr.specs.declared.token.Token.TheVariants.{Fun}
use Rattle.mufom_expr.specs.Tree.{Tree, number, variable, one, two, tokens_of, function_of_one, function_of_two, IsInRange}
use Rattle.mufom_expr.specs.Value.{variables_of}
use Rattle.mufom_names.specs.declared.name.Public.{Public}
use Rattle.mufom_loads.specs.declared.load.Item.{Item}
use Rattle.mufom_loads.specs.declared.load.Item.TheVariants.{Literal, Field}
use Rattle.mufom_loads.specs.declared.load.Load.{Load}
use Rattle.mufom_loads.specs.declared.load.Load.TheVariants.{SetSection, SetPc, One, Repeat}
use Rattle.mufom_debug.specs.declared.item.BlockHead.{BlockHead}
use Rattle.mufom_debug.specs.declared.item.BlockHead.TheVariants as heads
use Rattle.mufom_debug.specs.Marks.{DebugMark, block_begin, block_end, name_mark, note_mark, value_mark, offset_of}
use Rattle.mufom_module.specs.declared.module.Parts.{Parts}
use Rattle.mufom_module.specs.declared.module.Defect.TheVariants as kinds
use Rattle.mufom_module.specs.Contents.{any_of, any_item, debug_marks, item_any}
use Rattle.mufom_module.specs.Defects.{IsValid, counts_of, count_for, declared_after, has_bad_mark, has_bad_place, has_bad_size, is_outside, is_unit_count}
use Rattle.mufom_module.specs.Defects.{names_bad_section, names_no_section, names_outside}
use Rattle.mufom_module.specs.Made.{IsMade, IsMadeHead, IsMadeItem, IsMadeLoad, IsMadeMark, IsMadePublic, IsMadeReference, IsMadeSection, IsMadeTree}
use Rattle.mufom_module.specs.Made.{IsPosition}
use Rattle.mufom_meaning.proofs.NoDefects.{no_defect}
use Rattle.mufom_write.proofs.Fitting.{few-entries, few-marks, first-declared, inside_module}
use Rattle.mufom_write.proofs.Indexed.{AreFew}
use Rattle.mufom_works.specs.Works.{IsHeld}
use Rattle.mufom_bounds.specs.Bounded.{IsBounded, IsBoundedHead, IsBoundedItem, IsBoundedLoad, IsBoundedMark, IsBoundedPublic, IsBoundedToken}
use Rattle.mufom_bounds.specs.Bounded.{IsBoundedTree}
use Rattle.mufom_bounds.proofs.Bounded.{all-append, all-first, all-last}

-- ---- what follows if nothing is outside its list

module _ (m : Parts) (few : AreFew m) where
  place-below : (letter : Letter) (place : ℕ) → place < count_for (counts_of m) letter → place < 2 ^ 32
  place-below I place within = omega (arith, few.publics, within)
  place-below L place within = omega (arith, few.sections, within)
  place-below P place within = omega (arith, few.sections, within)
  place-below R place within = omega (arith, few.sections, within)
  place-below S place within = omega (arith, few.sections, within)
  place-below X place within = omega (arith, few.references, within)

  in-range : (tree : Tree) → AllByRecursion IsBoundedToken (tokens_of tree) → names_outside (counts_of m) tree ≡ false
      → AllByRecursion IsInRange (tokens_of tree)
  in-range (number value) are inside = (are.0, tt)
  in-range (variable letter place) are inside =
      let within = leb-false (count_for (counts_of m) letter) place (or_parts (nat_le (count_for (counts_of m) letter) place) false inside).0 in
      (place-below letter place within, tt)
  in-range (one f a) are inside =
      let last = Fun (function_of_one f) ∷ [] in
      all-append IsInRange (tokens_of a) last (in-range a (all-first IsBoundedToken (tokens_of a) last are) inside) (tt, tt)
  in-range (two f a b) are inside =
      let last = Fun (function_of_two f) ∷ [] in
      let both = all-first IsBoundedToken (tokens_of a ++ tokens_of b) last are in
      let parts = or_parts (names_outside (counts_of m) a) (names_outside (counts_of m) b)
      (sym (list_any-append (is_outside (counts_of m)) (variables_of a) (variables_of b)) ∙ inside) in
      all-append IsInRange (tokens_of a ++ tokens_of b) last
      (all-append IsInRange (tokens_of a) (tokens_of b)
      (in-range a (all-first IsBoundedToken (tokens_of a) (tokens_of b) both) parts.0)
      (in-range b (all-last IsBoundedToken (tokens_of a) (tokens_of b) both) parts.1))
      (tt, tt)

  made-tree : (tree : Tree) → IsBoundedTree tree → names_outside (counts_of m) tree ≡ false → IsMadeTree tree
  made-tree tree is inside = (is.0, in-range tree is.1 inside)

  made-publics : (publics : List Public) → AllByRecursion IsBoundedPublic publics → list_any (λ p. names_outside (counts_of m) p.value) publics ≡ false
      → AllByRecursion IsMadePublic publics
  made-publics [] are inside = tt
  made-publics (p ∷ publics) are inside =
      let parts = or_parts (names_outside (counts_of m) p.value) (list_any (λ p. names_outside (counts_of m) p.value) publics) inside in
      let own = are.0 in
      (record { name = own.name; value = made-tree p.value own.value parts.0; notes = own.notes }, made-publics publics are.1 parts.1)

  made-start : (start : Option Tree) → AllByRecursion IsBoundedTree (option_to_list start) → any_of (names_outside (counts_of m)) start ≡ false
      → IfSome start IsMadeTree
  made-start None are inside = tt
  made-start (Some value) are inside = made-tree value are.0 inside

  -- ---- loads

  size-below : (size : ℕ) → ((size == 0) || nat_lt 8 size) ≡ false → size < 256
  size-below size sized = let few = ltb-false 8 size (or_parts (size == 0) (nat_lt 8 size) sized).1 in omega (arith, few)

  made-item : (item : Item) → IsBoundedItem item → has_bad_size item ≡ false → item_any (names_outside (counts_of m)) item ≡ false → IsMadeItem item
  made-item (Literal bytes) is sized inside = is
  made-item (Field kind size value) is sized inside = (made-tree value is inside, size-below size sized)

  made-items : (items : List Item) → AllByRecursion IsBoundedItem items → list_any has_bad_size items ≡ false
      → list_any (item_any (names_outside (counts_of m))) items ≡ false → AllByRecursion IsMadeItem items
  made-items [] are sized inside = tt
  made-items (item ∷ items) are sized inside =
      let sizes = or_parts (has_bad_size item) (list_any has_bad_size items) sized in
      let insides = or_parts (item_any (names_outside (counts_of m)) item) (list_any (item_any (names_outside (counts_of m))) items) inside in
      (made-item item are.0 sizes.0 insides.0, made-items items are.1 sizes.1 insides.1)

  section-below : (section : ℕ) → nat_le (length m.sections) section ≡ false → IsPosition section
  section-below section inside = let within = leb-false (length m.sections) section inside in omega (arith, within, few.sections)

  made-load : (load : Load) → IsBoundedLoad load → any_item has_bad_size load ≡ false → has_bad_place (counts_of m) load ≡ false → IsMadeLoad load
  made-load (SetSection section) is sized inside =
      section-below section (or_parts (names_no_section (counts_of m) (SetSection section)) false inside).0
  made-load (SetPc section value) is sized inside =
      let parts = or_parts (names_no_section (counts_of m) (SetPc section value)) (names_outside (counts_of m) value) inside in
      (section-below section parts.0, made-tree value is parts.1)
  made-load (One item) is sized inside = made-item item is sized inside
  made-load (Repeat count items) is sized inside = (is.0, All-from_recursion IsMadeItem items (made-items items is.1 sized inside))

  made-loads : (loads : List Load) → AllByRecursion IsBoundedLoad loads → list_any (any_item has_bad_size) loads ≡ false
      → list_any (has_bad_place (counts_of m)) loads ≡ false → AllByRecursion IsMadeLoad loads
  made-loads [] are sized inside = tt
  made-loads (load ∷ loads) are sized inside =
      let sizes = or_parts (any_item has_bad_size load) (list_any (any_item has_bad_size) loads) sized in
      let insides = or_parts (has_bad_place (counts_of m) load) (list_any (has_bad_place (counts_of m)) loads) inside in
      (made-load load are.0 sizes.0 insides.0, made-loads loads are.1 sizes.1 insides.1)

  -- ---- debug marks

  made-head : (head : BlockHead) → IsBoundedHead head → names_bad_section (counts_of m) head ≡ false
      → any_of (names_outside (counts_of m)) (offset_of head) ≡ false → IsMadeHead head
  made-head heads.Module is known inside = tt
  made-head (heads.Global stack type_index offset) is known inside = (is.0, is.1, made-tree offset is.2 inside)
  made-head (heads.Source numbers) is known inside = is
  made-head (heads.Local stack type_index offset) is known inside = (is.0, is.1, made-tree offset is.2 inside)
  made-head (heads.Section section_type section offset) is known inside = (is.0, section-below section known, made-tree offset is.1 inside)

  made-end : (value : Option Tree) → IfSome value IsBoundedTree → any_of (names_outside (counts_of m)) value ≡ false → IfSome value IsMadeTree
  made-end None is inside = tt
  made-end (Some value) is inside = made-tree value is inside

  made-marks : (n : ℕ) (marks : List DebugMark) → n + length marks ≤ 2 ^ 32 → AllByRecursion IsBoundedMark marks
      → list_any (has_bad_mark (counts_of m)) marks ≡ false → is_none (declared_after n marks) ≡ false → AllByRecursion IsMadeMark marks
  made-marks n [] count are inside declared = tt
  made-marks n (block_begin head name ∷ marks) count are inside declared =
      let parts = or_parts (has_bad_mark (counts_of m) (block_begin head name)) (list_any (has_bad_mark (counts_of m)) marks) inside in
      let own = or_parts (names_bad_section (counts_of m) head) (any_of (names_outside (counts_of m)) (offset_of head)) parts.0 in
      ((made-head head are.0.0 own.0 own.1, are.0.1), made-marks n marks (omega (arith, count)) are.1 parts.1 declared)
  made-marks n (block_end value ∷ marks) count are inside declared =
      let parts = or_parts (any_of (names_outside (counts_of m)) value) (list_any (has_bad_mark (counts_of m)) marks) inside in
      (made-end value are.0 parts.0, made-marks n marks (omega (arith, count)) are.1 parts.1 declared)
  made-marks n (name_mark name ∷ marks) count are inside declared =
      (are.0, made-marks (n + 1) marks (omega (arith, count)) are.1 inside declared)
  made-marks n (note_mark name note ∷ marks) count are inside declared =
      let step = first-declared (nat_lt name n) n (λ k. declared_after k marks) declared in
      let within = ltb-true name n step.0 in
      ((omega (arith, within, count), are.0), made-marks n marks (omega (arith, count)) are.1 inside step.1)
  made-marks n (value_mark name value ∷ marks) count are inside declared =
      let step = first-declared (nat_lt name n) n (λ k. declared_after k marks) declared in
      let within = ltb-true name n step.0 in
      let parts = or_parts (names_outside (counts_of m) value) (list_any (has_bad_mark (counts_of m)) marks) inside in
      ((omega (arith, within, count), made-tree value are.0 parts.0), made-marks n marks (omega (arith, count)) are.1 parts.1 step.1)

-- ---- a module

units-few : (n : ℕ) → not (is_unit_count n) ≡ false → n < 256
units-few n is = by (nat_le 1 n) (nat_le n 8) refl refl is where
  by : (a b : Bool) → nat_le 1 n ≡ a → nat_le n 8 ≡ b → not (a && b) ≡ false → n < 256
  by true true low high is = let few = leb-true n 8 high in omega (arith, few)
  by true false low high is = absurd cc
  by false b low high is = absurd cc

made : (m : Parts) → IsValid m → IsBounded m → IsMade m
made m valid is =
    let few = few-entries m valid in
    let count = few-marks m valid in
    let its = inside_module m valid in
    record {
      processor = is.processor;
      name = is.name;
      maus = units-few m.maus (no_defect m valid kinds.BadMaus);
      ext = is.ext;
      env = is.env;
      sections = All-from_recursion IsMadeSection m.sections is.sections;
      publics = All-from_recursion IsMadePublic m.names.publics (made-publics m few m.names.publics is.publics its.values);
      references = All-from_recursion IsMadeReference m.names.references is.references;
      debug = All-from_recursion IsMadeMark (debug_marks m)
          (made-marks m few 0 (debug_marks m) (omega (arith, count)) is.debug its.marks its.declared);
      loads = All-from_recursion IsMadeLoad m.loads (made-loads m few m.loads is.loads (no_defect m valid kinds.FieldSize) its.places);
      start = made-start m few m.start is.start its.start;
    }

pub bounded-held : (m : Parts) → IsValid m → IsBounded m → IsHeld m
bounded-held m valid is = record { valid = valid; made = made m valid is }
