-- Where each expression has a value, the entries with their values are those of a location.
use Rattle.std.proofs.Common.{◌≡◌, ◌≢◌, ℕ, inl, List, [], ◌∷◌, map, Option, Some, None, refl, sym, ◌∙◌, ap, zero-add}
use Rattle.std.specs.Prelude.{option_map, option_to_list, unwrap_or}
use Rattle.mufom_expr.specs.Tree.{Tree, number}
use Rattle.mufom_debug.specs.declared.item.BlockHead.{BlockHead}
use Rattle.mufom_debug.specs.declared.item.BlockHead.TheVariants as heads
use Rattle.mufom_debug.specs.Marks.{DebugMark, block_begin, block_end, name_mark, note_mark, value_mark, mark_expressions, expressions_of, offset_of}
use Rattle.mufom_module.specs.declared.module.Parts.{Parts}
use Rattle.mufom_meaning.specs.Values.{Setting, value}
use Rattle.mufom_meaning.specs.Readings.{head_reading, mark_reading}
use Rattle.mufom_meaning.specs.Location.{located_head, located_mark}
use Rattle.mufom_meaning.proofs.Members.{In, In-left, In-right}
use Rattle.mufom_image_values.specs.Evaluated.{alone}
use Rattle.mufom_copies.specs.Mapped.{mapped_head}
use Rattle.mufom_image_entries.specs.Valued.{valued_mark}

module _ (s : Setting) (m : Parts) where
  -- the value, and 0 if there is none
  abbrev pub or_zero : Tree → ℕ
  or_zero t = unwrap_or (value s (alone m) None t) 0

  -- the value as an expression of one number
  abbrev number_or_zero : Tree → Tree
  number_or_zero t = number (or_zero t)

  abbrev pub HaveValues : List Tree → Type 0
  HaveValues trees = (t : Tree) → In t trees → value s (alone m) None t ≢ None

  pub has-value : (t : Tree) → value s (alone m) None t ≢ None → value s (alone m) None t ≡ Some (or_zero t)
  has-value t some = by_case (value s (alone m) None t) refl where
    by_case : (o : Option ℕ) → value s (alone m) None t ≡ o → o ≡ Some (unwrap_or o 0)
    by_case None e = absurd (some e)
    by_case (Some n) e = refl

  the-head : (head : BlockHead) → HaveValues (option_to_list (offset_of head)) → located_head (head_reading s (alone m) head)
      ≡ Some (mapped_head number_or_zero head)
  the-head heads.Module some = refl
  the-head (heads.Global stack type_index t) some = ap (option_map (λ n. heads.Global stack type_index (number n))) (has-value t (some t (inl refl)))
  the-head (heads.Source numbers) some = refl
  the-head (heads.Local stack type_index t) some = ap (option_map (λ n. heads.Local stack type_index (number n))) (has-value t (some t (inl refl)))
  the-head (heads.Section section_type section t) some =
      ap (λ k. option_map (λ n. heads.Section section_type k (number n)) (value s (alone m) None t)) (zero-add section)
      ∙ ap (option_map (λ n. heads.Section section_type section (number n))) (has-value t (some t (inl refl)))

  the-mark : (mark : DebugMark) → HaveValues (mark_expressions mark) → located_mark (mark_reading s (alone m) mark) ≡ Some (valued_mark or_zero mark)
  the-mark (block_begin head name) some = ap (option_map (λ h. block_begin h name)) (the-head head some)
  the-mark (block_end None) some = refl
  the-mark (block_end (Some t)) some = ap (option_map (λ n. block_end (Some (number n)))) (has-value t (some t (inl refl)))
  the-mark (name_mark name) some = refl
  the-mark (note_mark name note) some = ap (λ k. Some (note_mark k note)) (zero-add name)
  the-mark (value_mark name t) some =
      ap (λ k. option_map (λ n. value_mark k (number n)) (value s (alone m) None t)) (zero-add name)
      ∙ ap (option_map (λ n. value_mark name (number n))) (has-value t (some t (inl refl)))

  -- the marks with their values are those of a location
  pub located-marks : (marks : List DebugMark) → HaveValues (expressions_of marks)
      → map (λ mark. Some mark) (map (valued_mark or_zero) marks) ≡ map located_mark (map (mark_reading s (alone m)) marks)
  located-marks [] some = refl
  located-marks (mark ∷ marks) some =
      let first = the-mark mark (λ t h. some t (In-left t (mark_expressions mark) (expressions_of marks) h)) in
      let rest = located-marks marks (λ t h. some t (In-right t (mark_expressions mark) (expressions_of marks) h)) in
      λ i. sym first i ∷ rest i
