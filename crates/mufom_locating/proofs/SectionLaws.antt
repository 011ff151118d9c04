-- The sections of a location with copies are those without them, and the copies at their bases.
use Rattle.std.proofs.Common.{◌≡◌, ℕ, zero, suc, ◌+◌, ◌<◌, ◌≤◌, List, [], ◌∷◌, ◌++◌, length, map, take, drop, Option, Some, None, refl, sym, ap, subst, ◌∙◌}
use Rattle.std.proofs.Common.{arith, append_assoc, length-append, true}
use Rattle.std.specs.Prelude.{slice_get}
use Rattle.std.specs.List.{enumerate_from}
use Rattle.std.proofs.Math.Nat.{suc-add}
use Rattle.std.proofs.Math.ListN.{length-map}
use Rattle.std.proofs.Math.Seq.{drop-append_seam}
use Rattle.std.proofs.lemmas.List.{length-drop}
use Rattle.std.proofs.lemmas.List.FromFn.{length-enumerate_from}
use Rattle.mufom_sections.specs.declared.section.Section.{Section}
use Rattle.mufom_module.specs.declared.module.Parts.{Parts}
use Rattle.mufom_plan.specs.declared.plan.Plan.{Plan}
use Rattle.mufom_place.specs.declared.placing.RegionCopy.{RegionCopy}
use Rattle.mufom_place.specs.Bases.{Numbered, numbered, site_of}
use Rattle.mufom_place.specs.Copies.{copy_sections}
use Rattle.mufom_place.proofs.CopyLaws.{copies_move_nothing}
use Rattle.mufom_meaning.specs.Location.{placed_section, placed_sections, located_sections}
use Rattle.mufom_meaning.specs.Placed.{base_list, extended_sections}
use Rattle.mufom_planned.specs.Layout.{Layout, layout, layout_bases, whole_list}
use Rattle.mufom_locating.specs.Copied.{placed_copies}

-- sections at bases, one for each
zipped : List ℕ → List Section → List Section
zipped [] sections = []
zipped (base ∷ bases) [] = []
zipped (base ∷ bases) (x ∷ sections) = record x { absolute = true; base = Some base } ∷ zipped bases sections

get_last : (front more : List ℕ) (x : ℕ) → slice_get (front ++ x ∷ more) (length front) ≡ Some x
get_last [] more x = refl
get_last (y ∷ front) more x = get_last front more x

placed-zipped : (front bases : List ℕ) (sections : List Section) → length bases ≡ length sections
    → map (placed_section (front ++ bases)) (enumerate_from (length front) sections) ≡ zipped bases sections
unfolding zipped
placed-zipped front [] [] e = refl
placed-zipped front [] (x ∷ sections) e = absurd (omega (arith, e))
placed-zipped front (base ∷ bases) [] e = absurd (omega (arith, e))
placed-zipped front (base ∷ bases) (x ∷ sections) e =
    let here = get_last front bases base in
    let total = length-append front (base ∷ []) in
    let next : length (front ++ base ∷ []) ≡ length front + 1 = omega (arith, total) in
    let later = placed-zipped (front ++ base ∷ []) bases sections (omega (arith, e)) in
    let all = append_assoc front (base ∷ []) bases in
    let rest = (λ i. map (placed_section (sym all i)) (enumerate_from (sym next i) sections)) ∙ later in
    λ i. record x { absolute = true; base = here i } ∷ rest i

zipped-append : (bases more : List ℕ) (xs ys : List Section) → length bases ≡ length xs → zipped (bases ++ more) (xs ++ ys) ≡ zipped bases xs ++ zipped more ys
unfolding zipped
zipped-append [] more [] ys e = refl
zipped-append [] more (x ∷ xs) ys e = absurd (omega (arith, e))
zipped-append (base ∷ bases) more [] ys e = absurd (omega (arith, e))
zipped-append (base ∷ bases) more (x ∷ xs) ys e =
    ap (λ rest. record x { absolute = true; base = Some base } ∷ rest) (zipped-append bases more xs ys (omega (arith, e)))

zipped-copies : (bases : List ℕ) (copied : List RegionCopy) → zipped bases (copy_sections copied) ≡ placed_copies copied bases
unfolding zipped
zipped-copies [] [] = refl
zipped-copies [] (c ∷ copied) = refl
zipped-copies (base ∷ bases) [] = refl
zipped-copies (base ∷ bases) (c ∷ copied) = ap (λ rest. record c.section { absolute = true; base = Some base } ∷ rest) (zipped-copies bases copied)

-- copies of which one more is placed
pub copies-more : (copied : List RegionCopy) (bases : List ℕ) (k : ℕ) (c : RegionCopy) (base : ℕ) → slice_get copied k ≡ Some c → slice_get bases k ≡ Some base
    → placed_copies (take (k + 1) copied) (take (k + 1) bases)
    ≡ placed_copies (take k copied) (take k bases) ++ record c.section { absolute = true; base = Some base } ∷ []
copies-more [] bases k c base e f = absurd cc
copies-more (d ∷ copied) [] k c base e f = absurd cc
copies-more (d ∷ copied) (b ∷ bases) zero c base e f =
    let same : d ≡ c = cc in let there : b ≡ base = cc in λ i. record (same i).section { absolute = true; base = Some (there i) } ∷ []
copies-more (d ∷ copied) (b ∷ bases) (suc k) c base e f =
    ap (λ n. placed_copies (take n (d ∷ copied)) (take n (b ∷ bases))) (suc-add k 1)
    ∙ ap (λ rest. record d.section { absolute = true; base = Some b } ∷ rest) (copies-more copied bases k c base e f)

module _ (ms : List Parts) (plan : Plan) where
  abbrev l : Layout
  l = layout ms plan

  -- the bases of sections and commons, and after them those of the copies
  abbrev copy-bases : List ℕ
  copy-bases = (copies_move_nothing plan l.sections l.commons l.copied).0

  all-bases : layout_bases l ≡ base_list ms plan ++ copy-bases
  all-bases = (copies_move_nothing plan l.sections l.commons l.copied).1

  as-many : length (base_list ms plan) ≡ length (extended_sections ms plan)
  as-many =
      length-map (numbered (extended_sections ms plan)) (λ s. (site_of plan l.sections l.commons s).base)
      ∙ length-enumerate_from 0 (extended_sections ms plan)

  as-many-copies : length copy-bases ≡ length (copy_sections l.copied)
  as-many-copies = (copies_move_nothing plan l.sections l.commons l.copied).2 ∙ sym (length-map l.copied (λ (c : RegionCopy). c.section))

  pub bases-count : length (layout_bases l) ≡ length (extended_sections ms plan) + length l.copied
  bases-count =
      let total = ap length all-bases ∙ length-append (base_list ms plan) copy-bases in
      let own = as-many in
      let more = as-many-copies in
      let copies = length-map l.copied (λ (c : RegionCopy). c.section) in
      omega (arith, total, own, more, copies)

  pub with-copies : placed_sections (layout_bases l) (whole_list l)
      ≡ located_sections ms plan ++ placed_copies l.copied (drop (length (extended_sections ms plan)) (layout_bases l))
  with-copies =
      let own = as-many in
      let more = as-many-copies in
      let total = length-append (base_list ms plan) copy-bases in
      let sections = length-append (extended_sections ms plan) (copy_sections l.copied) in
      let rest : drop (length (extended_sections ms plan)) (layout_bases l) ≡ copy-bases =
      (λ i. drop (sym own i) (all-bases i)) ∙ drop-append_seam (base_list ms plan) copy-bases in
      ap (λ bases. placed_sections bases (whole_list l)) all-bases
      ∙ placed-zipped [] (base_list ms plan ++ copy-bases) (whole_list l) (omega (arith, own, more, total, sections))
      ∙ zipped-append (base_list ms plan) copy-bases (extended_sections ms plan) (copy_sections l.copied) own
      ∙ (λ i. sym (placed-zipped [] (base_list ms plan) (extended_sections ms plan) own) i ++ zipped-copies copy-bases l.copied i)
      ∙ ap (λ bases. located_sections ms plan ++ placed_copies l.copied bases) (sym rest)

  -- the bases of the copies
  pub plain-within : (bases : List ℕ) (n : ℕ) → bases ≡ layout_bases l → n ≡ length l.sections + length l.commons → n ≤ length bases
  plain-within bases n is at =
      let all = ap length is in
      let count = bases-count in
      let plain = length-append l.sections l.commons in
      omega (arith, all, count, plain, at)

  pub copies-within : (bases : List ℕ) (n : ℕ) → bases ≡ layout_bases l → n ≡ length l.sections + length l.commons → length (drop n bases) ≡ length l.copied
  copies-within bases n is at =
      let all = ap length is in
      let count = bases-count in
      let plain = length-append l.sections l.commons in
      let cut = length-drop n bases in
      omega (arith, all, count, plain, at, cut)
