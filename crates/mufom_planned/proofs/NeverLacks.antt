-- No list is without a location by a plan for lack of memory: what is returned in place of a location never is that.
use Rattle.std.proofs.Common.{◌≡◌, ◌≢◌, ℕ, ◌+◌, ◌^◌, List, [], ◌∷◌, Option, Some, None, Bool, true, false, ap}
use Rattle.std.specs.Prelude.{option_map, nat_lt, if◌then◌else◌}
use Rattle.mufom_numbers.specs.declared.limits.TheConstants.{MOST_IMAGE_BYTES}
use Rattle.mufom_sections.specs.declared.section.Section.{Section}
use Rattle.mufom_module.specs.declared.module.Parts.{Parts}
use Rattle.mufom_plan.specs.declared.plan.Region.{Region}
use Rattle.mufom_plan.specs.declared.plan.Plan.{Plan}
use Rattle.mufom_plan.specs.Names.{listed_names}
use Rattle.mufom_place.specs.declared.placing.Placing.{Placing}
use Rattle.mufom_place.specs.declared.placing.Extent.{Extent}
use Rattle.mufom_place.specs.declared.refusal.PlaceRefusal.{PlaceRefusal}
use Rattle.mufom_place.specs.declared.refusal.PlaceRefusal.TheVariants as place_refusal
use Rattle.mufom_place.specs.Bases.{numbered, site_by}
use Rattle.mufom_place.specs.Copies.{all_refusal, fit_refusal, all_placings, all_sections, bases_by}
use Rattle.mufom_place.specs.Facts.{◌or_else◌, first_some, is_unplaced, unplaced_at, is_misfit, misfit_by, first_overlap, in_order, extents}
use Rattle.mufom_meaning.specs.Flat.{public_names, width}
use Rattle.mufom_meaning.specs.Counts.{loaded_total}
use Rattle.mufom_meaning.specs.Cycles.{is_on_cycle}
use Rattle.mufom_meaning.specs.Placed.{planned_bases}
use Rattle.mufom_meaning.specs.Values.{setting}
use Rattle.mufom_meaning.specs.Facts.{LocateFact, placement, undefined, common_unplaced, cycle, image_limit}
use Rattle.mufom_meaning.specs.LocateAnswer.{cycle_at, first_undefined, first_unplaced_common, after_placing}
use Rattle.mufom_meaning.proofs.facts.WalkAnswers.{walk_sound}
use Rattle.mufom_planned.specs.Layout.{layout}
use Rattle.mufom_planned.specs.PlanSymbols.{with_symbols, first_shared}
use Rattle.mufom_planned.specs.Planned.{of_list, shared_name, layout_fact, copied_answer, planned_answer}

either_never : {A : Type 0} (x : A) (o u : Option A) → o ≢ Some x → u ≢ Some x → (o or_else u) ≢ Some x
either_never x None u first second = second
either_never x (Some y) u first second = first

mapped_never : {A B : Type 0} (f : A → B) (x : B) → ((a : A) → f a ≢ x) → (o : Option A) → option_map f o ≢ Some x
mapped_never f x other None = λ same. cc
mapped_never f x other (Some a) = λ same. let is : f a ≡ x = cc in other a is

chosen_never : {A : Type 0} (x y : A) → y ≢ x → (b : Bool) → (if b then Some y else None) ≢ Some x
chosen_never x y other true = λ same. let is : y ≡ x = cc in other is
chosen_never x y other false = λ same. cc

first_never : {A B : Type 0} (f : A → Option B) (x : B) → ((a : A) → f a ≢ Some x) → (xs : List A) → first_some f xs ≢ Some x
first_never f x other [] = λ same. cc
first_never f x other (a ∷ xs) = either_never x (f a) (first_some f xs) (other a) (first_never f x other xs)

-- ---- placing

overlaps_never : (xs : List Extent) → first_overlap xs ≢ Some place_refusal.NoMemory
overlaps_never [] = λ same. cc
overlaps_never (x ∷ []) = λ same. cc
overlaps_never (x ∷ y ∷ more) = by_case (nat_lt y.base (x.base + x.size)) (overlaps_never (y ∷ more)) where
  by_case : (b : Bool) → first_overlap (y ∷ more) ≢ Some place_refusal.NoMemory
      → (if b then Some (place_refusal.Overlap x.section y.section) else first_overlap (y ∷ more)) ≢ Some place_refusal.NoMemory
  by_case true later = λ same. cc
  by_case false later = later

fits_never : (width : ℕ) (regions : List Region) (given : List Placing) (whole : List Section)
    → fit_refusal width regions given whole ≢ Some place_refusal.NoMemory
fits_never width regions given whole =
    either_never place_refusal.NoMemory (first_some (misfit_by (2 ^ width) regions given) (numbered whole)) _
    (first_never (misfit_by (2 ^ width) regions given) place_refusal.NoMemory (λ t.
    chosen_never place_refusal.NoMemory (place_refusal.Misfit t.0 (site_by given t).region) (λ same. cc)
    (is_misfit (2 ^ width) regions (site_by given t) t.1.size)) (numbered whole))
    (overlaps_never (in_order (extents (numbered whole) (bases_by given whole))))

places_never : (width : ℕ) (plan : Plan) (ms : List Parts) → let l = layout ms plan in
    all_refusal width plan l.sections l.commons l.copied ≢ Some place_refusal.NoMemory
places_never width plan ms =
    let l = layout ms plan in
    either_never place_refusal.NoMemory (first_some (unplaced_at (listed_names plan.regions)) (numbered l.sections)) _
    (first_never (unplaced_at (listed_names plan.regions)) place_refusal.NoMemory (λ t.
    chosen_never place_refusal.NoMemory (place_refusal.Unplaced t.0) (λ same. cc) (is_unplaced (listed_names plan.regions) t.1)) (numbered l.sections))
    (fits_never width plan.regions (all_placings plan l.sections l.commons l.copied) (all_sections l.sections l.commons l.copied))

-- ---- after placing

-- the fact that memory lacks
abbrev lacking : LocateFact
lacking = placement place_refusal.NoMemory

later_never : (ms : List Parts) (plan : Plan) → after_placing ms plan ≢ Some lacking
later_never ms plan =
    either_never lacking _ _ (mapped_never undefined lacking (λ name same. cc) (first_undefined ms))
    (either_never lacking _ _ (mapped_never common_unplaced lacking (λ name same. cc) (first_unplaced_common ms plan))
    (either_never lacking _ _ (first_never (cycle_at ms) lacking
    (λ name. chosen_never lacking (cycle name) (λ same. cc) (is_on_cycle ms name)) (public_names ms))
    (either_never lacking _ _ (chosen_never lacking (image_limit (loaded_total ms)) (λ same. cc) (nat_lt MOST_IMAGE_BYTES (loaded_total ms)))
    (λ same. walk_sound ms (setting ms (planned_bases ms plan)) lacking same))))

copied_never : (ms : List Parts) (plan : Plan) → copied_answer ms plan ≢ Some lacking
copied_never ms plan =
    either_never lacking (layout_fact ms (layout ms plan)) (after_placing ms plan)
    (by_refusal (all_refusal (width ms) plan (layout ms plan).sections (layout ms plan).commons (layout ms plan).copied) (places_never (width ms) plan ms))
    (later_never ms plan) where
      by_refusal : (o : Option PlaceRefusal) → o ≢ Some place_refusal.NoMemory → option_map placement o ≢ Some lacking
      by_refusal None other = λ same. cc
      by_refusal (Some refusal) other = λ same. let is : refusal ≡ place_refusal.NoMemory = cc in other (ap (λ (x : PlaceRefusal). Some x) is)

pub planned_never_lacks : (ms : List Parts) (plan : Plan) → planned_answer ms plan ≢ Some (of_list (placement place_refusal.NoMemory))
planned_never_lacks ms plan =
    either_never (of_list lacking) (option_map shared_name (first_shared ms plan)) (option_map of_list (copied_answer (with_symbols ms plan) plan))
    (mapped_never shared_name (of_list lacking) (λ name same. cc) (first_shared ms plan))
    (by_answer (copied_answer (with_symbols ms plan) plan) (copied_never (with_symbols ms plan) plan)) where
      by_answer : (o : Option LocateFact) → o ≢ Some lacking → option_map of_list o ≢ Some (of_list lacking)
      by_answer None other = λ same. cc
      by_answer (Some fact) other = λ same. let is : fact ≡ lacking = cc in other (ap (λ (x : LocateFact). Some x) is)
