-- The parts of a layout.
use Rattle.std.proofs.Common.{◌≡◌, ℕ, ◌+◌, ◌*◌, ◌-◌, ◌<◌, ◌≤◌, List, [], ◌∷◌, ◌++◌, length, map, take, drop, Option, Some, None, refl, sym, ap, subst, ◌∙◌, append-nil}
use Rattle.std.proofs.Common.{arith, length-append, append_assoc}
use Rattle.std.specs.Prelude.{All, option_map}
use Rattle.std.proofs.Math.ListN.{length-map}
use Rattle.std.proofs.Math.Seq.{take-append_seam, drop-append_seam}
use Rattle.std.proofs.lemmas.List.Elements.{All-take, All-drop}
use Rattle.std.proofs.lemmas.List.FromFn.{length-enumerate_from}
use Rattle.mufom_sections.specs.declared.section.Section.{Section}
use Rattle.mufom_module.specs.declared.module.Parts.{Parts}
use Rattle.mufom_module.specs.Defects.{IsValid}
use Rattle.mufom_plan.specs.declared.plan.Plan.{Plan}
use Rattle.mufom_plan.specs.Names.{listed_names}
use Rattle.mufom_place.specs.declared.placing.RegionCopy.{RegionCopy}
use Rattle.mufom_place.specs.declared.refusal.PlaceRefusal.{PlaceRefusal}
use Rattle.mufom_place.specs.Bases.{numbered}
use Rattle.mufom_place.specs.Copies.{all_refusal, all_sections, fit_refusal, copies, copy_sections}
use Rattle.mufom_place.specs.Facts.{◌or_else◌, IsAligned, IsAnswer, first_some, unplaced_at}
use Rattle.mufom_place.specs.Filling.{AreSizedFrom, IsPlaceableCopy}
use Rattle.mufom_meaning.specs.Flat.{flat_sections, width}
use Rattle.mufom_meaning.specs.Placed.{extended_sections, placed_commons}
use Rattle.mufom_meaning.specs.CallLaws.{MayBePlaced, ModulesMayBePlaced}
use Rattle.mufom_planned.specs.Layout.{Layout, layout, layout_bases, layout_placings, whole_list, has_bytes}

module _ (m : Parts) (plan : Plan) where
  abbrev l : Layout
  l = layout (m ∷ []) plan

  pub own-count : length (flat_sections (m ∷ [])) ≡ length m.sections
  own-count = ap length (append-nil m.sections)

  module _ (plain : List Section) (is : plain ≡ extended_sections (m ∷ []) plan) where
    pub sections-part : take (length m.sections) plain ≡ l.sections
    sections-part = (λ i. take (sym own-count i) (is i)) ∙ take-append_seam (flat_sections (m ∷ [])) (placed_commons (m ∷ []) plan)

    pub commons-part : drop (length m.sections) plain ≡ l.commons
    commons-part = (λ i. drop (sym own-count i) (is i)) ∙ drop-append_seam (flat_sections (m ∷ [])) (placed_commons (m ∷ []) plan)

  -- sections and commons before the copies
  pub plain-part : (whole : List Section) (copied : List RegionCopy) → whole ≡ extended_sections (m ∷ []) plan ++ copy_sections copied
      → take (length whole - length copied) whole ≡ extended_sections (m ∷ []) plan
  plain-part whole copied is =
      let total = ap length is ∙ length-append (extended_sections (m ∷ []) plan) (copy_sections copied) in
      let few = length-map copied (λ (c : RegionCopy). c.section) in
      let count : length whole - length copied ≡ length (extended_sections (m ∷ []) plan) = omega (arith, total, few) in
      (λ i. take (count i) (is i)) ∙ take-append_seam (extended_sections (m ∷ []) plan) (copy_sections copied)

  pub aligned-parts : MayBePlaced (m ∷ []) plan → All IsAligned l.sections × All IsAligned l.commons
  aligned-parts may = (
    subst (All IsAligned) (sections-part (extended_sections (m ∷ []) plan) refl) (All-take IsAligned (length m.sections) (extended_sections (m ∷ []) plan) may.alignments),
    subst (All IsAligned) (commons-part (extended_sections (m ∷ []) plan) refl) (All-drop IsAligned (length m.sections) (extended_sections (m ∷ []) plan) may.alignments),
  )

  -- an error that is found before the others
  pub unplaced-first : (sections : List Section) (refusal : PlaceRefusal) → sections ≡ l.sections
      → IsAnswer (first_some (unplaced_at (listed_names plan.regions)) (numbered sections)) refusal
      → IsAnswer (all_refusal (width (m ∷ [])) plan l.sections l.commons l.copied) refusal
  unplaced-first sections refusal is h known =
      ap (λ o. o or_else fit_refusal (width (m ∷ [])) plan.regions (layout_placings l) (whole_list l)) (ap (λ ss. first_some (unplaced_at (listed_names plan.regions)) (numbered ss)) (sym is) ∙ h known)
