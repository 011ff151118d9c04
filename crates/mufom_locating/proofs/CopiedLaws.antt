-- The location of a module with copies, from its location without them.
use Rattle.std.proofs.Common.{◌≡◌, ℕ, ◌+◌, ◌*◌, ◌<◌, ◌≤◌, List, [], ◌∷◌, ◌++◌, length, map, drop, Option, Some, None, refl, sym, ap, subst, ◌∙◌, arith}
use Rattle.std.specs.Prelude.{option_map, ◌^◌}
use Rattle.mufom_sections.specs.declared.section.Section.{Section}
use Rattle.mufom_module.specs.declared.module.Parts.{Parts}
use Rattle.mufom_module.specs.Defects.{IsValid}
use Rattle.mufom_plan.specs.declared.plan.Plan.{Plan}
use Rattle.mufom_place.specs.Facts.{◌or_else◌}
use Rattle.mufom_place.specs.Copies.{all_refusal}
use Rattle.mufom_place.proofs.CopyLaws.{fits_without_copies}
use Rattle.mufom_meaning.specs.declared.located.LocatedParts.{LocatedParts}
use Rattle.mufom_meaning.specs.declared.located.Run.{Run}
use Rattle.mufom_meaning.specs.AddressMap.{AreRunsOf, address_map, run_cells}
use Rattle.mufom_meaning.specs.CallLaws.{MayBePlaced}
use Rattle.mufom_meaning.specs.Facts.{placement}
use Rattle.mufom_meaning.specs.Flat.{flat_sections, width}
use Rattle.mufom_meaning.specs.LocateAnswer.{locate_answer, after_placing}
use Rattle.mufom_meaning.specs.Location.{IsLocation}
use Rattle.mufom_meaning.specs.Placed.{extended_sections, placed_commons, planned_bases}
use Rattle.mufom_meaning.specs.Readings.{readings}
use Rattle.mufom_meaning.specs.Staging.{AreValid}
use Rattle.mufom_meaning.specs.Steps.{steps, readings_after}
use Rattle.mufom_meaning.specs.Values.{Setting, setting}
use Rattle.mufom_refusals.specs.declared.locate.LocateRefusal.{LocateRefusal}
use Rattle.mufom_image.specs.Refusals.{IsMet}
use Rattle.mufom_image_bytes.specs.Images.{AreLow}
use Rattle.mufom_moves.specs.Shifts.{shifted_cells, ShareNoAddress, StayApart}
use Rattle.mufom_planned.specs.Layout.{Layout, layout, layout_bases, whole_list}
use Rattle.mufom_planned.specs.Planned.{HasLocation, copied_answer, layout_fact, load_map}
use Rattle.mufom_locating.specs.Copied.{IsLocatedWithCopies, layout_shifts, placed_copies}
use Rattle.mufom_locating.proofs.SectionLaws.{with-copies}
use Rattle.mufom_locating.proofs.ShiftedLaws as shift

-- if everything fits, copies change nothing of what keeps the module from being located
pub fitting-answer : (ms : List Parts) (plan : Plan) → layout_fact ms (layout ms plan) ≡ None → locate_answer ms plan ≡ copied_answer ms plan
unfolding locate_answer
fitting-answer ms plan fits =
    let without = fits_without_copies (width ms) plan (flat_sections ms) (placed_commons ms plan) (layout ms plan).copied (none_mapped _ fits) in
    ap (λ o. option_map placement o or_else after_placing ms plan) without ∙ sym (ap (λ o. o or_else after_placing ms plan) fits)
  where
    none_mapped : (o : Option _) → option_map placement o ≡ None → o ≡ None
    none_mapped None e = refl
    none_mapped (Some x) e = absurd cc

pub fitting-met : (ms : List Parts) (plan : Plan) → layout_fact ms (layout ms plan) ≡ None → (refusal : LocateRefusal) → IsMet (locate_answer ms plan) refusal
    → IsMet (copied_answer ms plan) refusal
fitting-met ms plan fits refusal h = subst (λ o. IsMet o refusal) (fitting-answer ms plan fits) h

module _ (m : Parts) (plan : Plan) (valid : IsValid m) (may : MayBePlaced (m ∷ []) plan) (fits : layout_fact (m ∷ []) (layout (m ∷ []) plan) ≡ None) where
  abbrev ms : List Parts
  ms = m ∷ []

  abbrev l : Layout
  l = layout ms plan

  module _ (r : LocatedParts) (is : IsLocation ms plan r) where
    pub answer : copied_answer ms plan ≡ None
    answer = sym (fitting-answer ms plan fits) ∙ is.locates

    abbrev v : AreValid ms
    v = (valid, tt)

    abbrev s : Setting
    s = setting ms (planned_bases ms plan)

    rows : AreRunsOf (address_map r.order s.modulus (readings_after s [] (steps ms))) r.runs
    unfolding readings
    rows = is.rows

    pub no-address-shared : ShareNoAddress (layout_shifts l)
    no-address-shared = shift.no-address-shared ms plan v is.links is.locates answer may.addresses.most

    pub is-low : AreLow (run_cells r.runs)
    is-low = shift.is-low ms plan v is.links is.locates answer may.addresses.most r.order r.runs rows

    pub stays-low : AreLow (shifted_cells (layout_shifts l) (run_cells r.runs))
    stays-low = shift.stays-low ms plan v is.links is.locates answer may.addresses.most r.order r.runs rows

    pub stays-apart : StayApart (layout_shifts l) (run_cells r.runs)
    stays-apart = shift.stays-apart ms plan v is.links is.locates answer may.addresses.most r.order r.runs rows

    moved : (runs : List Run) → AreRunsOf (shifted_cells (layout_shifts l) (run_cells r.runs)) runs
        → AreRunsOf (load_map l r.order (2 ^ width ms) (readings ms (planned_bases ms plan)).steps) runs
    unfolding readings
    moved runs h = shift.moved-rows ms plan v is.links is.locates answer may.addresses.most r.order r.runs rows runs h

    pub located-with : (sections : List Section) (runs : List Run)
        → sections ≡ r.sections ++ placed_copies l.copied (drop (length (extended_sections ms plan)) (layout_bases l))
        → AreRunsOf (shifted_cells (layout_shifts l) (run_cells r.runs)) runs
        → IsLocatedWithCopies m plan (record r { sections = sections; runs = runs })
    located-with sections runs own h = record {
      locates = answer;
      located = record {
        first = is.first;
        sections = own ∙ ap (λ xs. xs ++ placed_copies l.copied (drop (length (extended_sections ms plan)) (layout_bases l))) is.sections
            ∙ sym (with-copies ms plan);
        publics = is.publics;
        start = is.start;
        debug = is.debug;
        rows = moved runs h;
      };
    }
