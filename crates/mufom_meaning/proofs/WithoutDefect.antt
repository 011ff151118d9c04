-- What a module without a defect has: its variables name entries of its lists, and a counter occurs only where a load allows it.
use Rattle.std.proofs.Common.{◌≡◌, ℕ, ◌<◌, inl, inr, List, [], ◌∷◌, Option, Some, None, Bool, true, false, ◌||◌, refl, sym, ◌∙◌, ap, cond, rules}
use Rattle.std.specs.Prelude.{nat_le, option_to_list, is_none}
use Rattle.std.specs.List.{find, list_any}
use Rattle.mufom_expr.specs.declared.token.Letter.{Letter}
use Rattle.mufom_expr.specs.declared.token.Letter.TheVariants as letters
use Rattle.mufom_expr.specs.Tree.{Tree}
use Rattle.mufom_expr.specs.Value.{variables_of}
use Rattle.mufom_names.specs.declared.name.Public.{Public}
use Rattle.mufom_loads.specs.declared.load.Load.{Load}
use Rattle.mufom_debug.specs.Marks.{DebugMark, block_begin, block_end, name_mark, note_mark, value_mark, mark_expressions, offset_of}
use Rattle.mufom_module.specs.declared.module.Parts.{Parts}
use Rattle.mufom_module.specs.declared.module.Defect.TheVariants as d
use Rattle.mufom_module.specs.Contents.{debug_marks, any_of, any_expression, placed_loads}
use Rattle.mufom_module.specs.Defects.{has_defect, IsValid, counts_of, count_for, is_outside, names_outside, has_bad_place, has_bad_mark}
use Rattle.mufom_module.specs.Defects.{begins_badly, declared_after, has_other_counter, is_other_counter, misplaces_counter}
use Rattle.mufom_meaning.proofs.NoDefects.{no_defect}
use Rattle.mufom_meaning.proofs.Tests.{either_false}
use Rattle.mufom_meaning.proofs.Members.{In, fails-In}

pub finds-none : {A : Type 0} (p : A → Bool) (xs : List A) → find p xs ≡ None → (x : A) → In x xs → p x ≡ false
finds-none p [] e x h = absurd h
finds-none p (y ∷ ys) e x h = by_case (p y) refl e h (finds-none p ys) where
  by_case : (b : Bool) → p y ≡ b → cond b (Some y) (find p ys) ≡ None → In x (y ∷ ys) → (find p ys ≡ None → (z : _) → In z ys → p z ≡ false) → p x ≡ false
  by_case true f e h later = absurd cc
  by_case false f e (inl same) later = ap p (sym same) ∙ f
  by_case false f e (inr h) later = later e x h

-- each variable of the expression names an entry of the module's lists
abbrev pub IsInside : Parts → Tree → Type 0
IsInside m t = (v : Letter × ℕ) → In v (variables_of t) → v.1 < count_for (counts_of m) v.0

pub inside : (m : Parts) (t : Tree) → names_outside (counts_of m) t ≡ false → IsInside m t
inside m t e v h = let low : nat_le (count_for (counts_of m) v.0) v.1 ≡ false = fails-In (is_outside (counts_of m)) (variables_of t) e v h in search rules

any_option : {A : Type 0} (p : A → Bool) (o : Option A) → any_of p o ≡ false → (x : A) → In x (option_to_list o) → p x ≡ false
any_option p None e x h = absurd h
any_option p (Some y) e x (inl same) = ap p (sym same) ∙ e
any_option p (Some y) e x (inr h) = absurd h

in_mark : (p : Tree → Bool) (mark : DebugMark) → any_expression p mark ≡ false → (t : Tree) → In t (mark_expressions mark) → p t ≡ false
in_mark p (block_begin head name) e t h = any_option p (offset_of head) e t h
in_mark p (block_end end) e t h = any_option p end e t h
in_mark p (name_mark name) e t h = absurd h
in_mark p (note_mark name note) e t h = absurd h
in_mark p (value_mark name value) e t (inl same) = ap p (sym same) ∙ e
in_mark p (value_mark name value) e t (inr h) = absurd h

module _ (m : Parts) (valid : IsValid m) where
  positions : has_defect m d.Position ≡ false
  positions = no_defect m valid d.Position

  after_publics : (list_any (has_bad_place (counts_of m)) m.loads
      || (list_any (has_bad_mark (counts_of m)) (debug_marks m)
      || (any_of (names_outside (counts_of m)) m.start || is_none (declared_after 0 (debug_marks m))))) ≡ false
  after_publics = (either_false (list_any (λ p. names_outside (counts_of m) p.value) m.names.publics) _ positions).1

  after_loads : (list_any (has_bad_mark (counts_of m)) (debug_marks m)
      || (any_of (names_outside (counts_of m)) m.start || is_none (declared_after 0 (debug_marks m)))) ≡ false
  after_loads = (either_false (list_any (has_bad_place (counts_of m)) m.loads) _ after_publics).1

  after_marks : (any_of (names_outside (counts_of m)) m.start || is_none (declared_after 0 (debug_marks m))) ≡ false
  after_marks = (either_false (list_any (has_bad_mark (counts_of m)) (debug_marks m)) _ after_loads).1

  counters : has_defect m d.MisplacedP ≡ false
  counters = no_defect m valid d.MisplacedP

  pub public_inside : (p : Public) → In p m.names.publics → IsInside m p.value
  public_inside p h = inside m p.value (fails-In (λ p. names_outside (counts_of m) p.value) m.names.publics (either_false _ _ positions).0 p h)

  pub load_inside : (load : Load) → In load m.loads → has_bad_place (counts_of m) load ≡ false
  load_inside load h = fails-In (has_bad_place (counts_of m)) m.loads (either_false (list_any (has_bad_place (counts_of m)) m.loads) _ after_publics).0 load h

  pub mark_inside : (mark : DebugMark) → In mark (debug_marks m) → (t : Tree) → In t (mark_expressions mark) → IsInside m t
  mark_inside mark h t k =
      let good = fails-In (has_bad_mark (counts_of m)) (debug_marks m)
      (either_false (list_any (has_bad_mark (counts_of m)) (debug_marks m)) _ after_loads).0 mark h in
      inside m t (in_mark (names_outside (counts_of m)) mark (either_false (begins_badly (counts_of m) mark) _ good).1 t k)

  pub start_inside : (t : Tree) → In t (option_to_list m.start) → IsInside m t
  start_inside t h = inside m t (any_option (names_outside (counts_of m)) m.start
      (either_false (any_of (names_outside (counts_of m)) m.start) _ after_marks).0 t h)

  counters_after_publics : (any_of (has_other_counter None) m.start
      || (list_any (any_expression (has_other_counter None)) (debug_marks m) || list_any misplaces_counter (placed_loads m))) ≡ false
  counters_after_publics = (either_false (list_any (λ p. has_other_counter None p.value) m.names.publics) _ counters).1

  counters_after_start : (list_any (any_expression (has_other_counter None)) (debug_marks m) || list_any misplaces_counter (placed_loads m)) ≡ false
  counters_after_start = (either_false (any_of (has_other_counter None) m.start) _ counters_after_publics).1

  counter_free : (t : Tree) → has_other_counter None t ≡ false → (k : ℕ) → In (letters.P, k) (variables_of t) → ⊥
  counter_free t e k h = let other : true ≡ false = fails-In (is_other_counter None) (variables_of t) e (letters.P, k) h in cc

  pub public_free : (p : Public) → In p m.names.publics → (k : ℕ) → In (letters.P, k) (variables_of p.value) → ⊥
  public_free p h = counter_free p.value (fails-In (λ p. has_other_counter None p.value) m.names.publics (either_false _ _ counters).0 p h)

  pub start_free : (t : Tree) → In t (option_to_list m.start) → (k : ℕ) → In (letters.P, k) (variables_of t) → ⊥
  start_free t h = counter_free t (any_option (has_other_counter None) m.start
      (either_false (any_of (has_other_counter None) m.start) _ counters_after_publics).0 t h)

  pub mark_free : (mark : DebugMark) → In mark (debug_marks m) → (t : Tree) → In t (mark_expressions mark) → (k : ℕ) → In (letters.P, k) (variables_of t) → ⊥
  mark_free mark h t k =
      counter_free t (in_mark (has_other_counter None) mark (fails-In (any_expression (has_other_counter None)) (debug_marks m)
      (either_false (list_any (any_expression (has_other_counter None)) (debug_marks m)) _ counters_after_start).0 mark h) t k)
