-- The module of a sound location has no defect, if it is light enough.
use Rattle.std.proofs.Common.{◌≡◌, ℕ, ◌^◌, ◌<◌, List, [], ◌∷◌, map, length, Option, Some, None, Bool, false, not, ◌||◌}
use Rattle.std.proofs.Common.{◌&&◌, refl, sym, ◌∙◌, ap, subst, cond}
use Rattle.std.specs.Prelude.{option_map, is_none}
use Rattle.std.specs.List.{list_any, find, enumerate_from}
use Rattle.mufom_expr.specs.Tree.{Tree, number}
use Rattle.mufom_sections.specs.declared.section.Section.{Section}
use Rattle.mufom_names.specs.declared.name.Public.{Public}
use Rattle.mufom_debug.specs.Marks.{marks_of}
use Rattle.mufom_module.specs.declared.module.Parts.{Parts}
use Rattle.mufom_module.specs.declared.module.Defect.{Defect}
use Rattle.mufom_module.specs.declared.module.Defect.TheVariants as d
use Rattle.mufom_module.specs.Contents.{any_of, any_expression, any_item, placed_loads, debug_marks}
use Rattle.mufom_module.specs.Written.{weight}
use Rattle.mufom_module.specs.Defects.{IsValid, has_defect, defects, counts_of, names_outside, has_bad_place, has_bad_mark, declared_after}
use Rattle.mufom_module.specs.Defects.{has_other_counter, misplaces_counter, is_long, has_long_name, has_bad_alignment, lacks_base, is_unit_count}
use Rattle.mufom_module.specs.Defects.{is_long_literal, has_bad_size}
use Rattle.mufom_plan.specs.declared.plan.Plan.{Plan}
use Rattle.mufom_meaning.specs.declared.located.PublicValue.{PublicValue}
use Rattle.mufom_meaning.specs.declared.located.LocatedParts.{LocatedParts}
use Rattle.mufom_meaning.specs.Flat.{SitedPublic, sited, flat_publics}
use Rattle.mufom_meaning.specs.Values.{Setting, setting}
use Rattle.mufom_meaning.specs.Readings.{PublicReading, public_reading, readings}
use Rattle.mufom_meaning.specs.Placed.{planned_bases}
use Rattle.mufom_meaning.specs.Location.{Header, located_public}
use Rattle.mufom_meaning.specs.LocationLaws.{AbsoluteIsValid}
use Rattle.mufom_meaning.specs.Staging.{AreValid}
use Rattle.mufom_meaning.specs.Absolute.{absolute_public, absolute_of}
use Rattle.mufom_meaning.proofs.Tests.{either_false}
use Rattle.mufom_numbers.proofs.Choices.{some_same, two_false, not_le}
use Rattle.mufom_meaning.proofs.Members.{In, In-map, map-In, flat_map-In, none-In, fails-In}
use Rattle.mufom_meaning.proofs.NoDefects.{no_defect}
use Rattle.mufom_meaning.proofs.values.Named.{site_module, valid_module}
use Rattle.mufom_meaning.proofs.absolute.Sound.{IsPlainSection, IsSoundLocation, strings_after_name, after_processor, after_name}
use Rattle.mufom_meaning.proofs.absolute.Rows.{sound, plain as plain_sections}
use Rattle.mufom_meaning.proofs.absolute.Loads.{loads_plain, plain_place, plain_counter, plain_short, plain_size, placed-In, all_somewhere}
use Rattle.mufom_meaning.proofs.absolute.Debug.{short_names, known, marks_inside, no_counters, shallow, plain_ends, declared}

finds_nothing : {A : Type 0} (p : A → Bool) (xs : List A) → ((x : A) → p x ≡ false) → find p xs ≡ None
finds_nothing p [] h = refl
finds_nothing p (x ∷ xs) h = ap (λ b. cond b (Some x) (find p xs)) (h x) ∙ finds_nothing p xs h

number_start : (p : Tree → Bool) → ((n : ℕ) → p (number n) ≡ false) → (o : Option ℕ) → any_of p (option_map (λ n. number n) o) ≡ false
number_start p fails None = refl
number_start p fails (Some n) = fails n

module _ (m : Parts) (more : List Parts) (plan : Plan) (r : LocatedParts) (v : AreValid (m ∷ more)) (h : IsSoundLocation (m ∷ more) plan r)
    (plain : (section : Section) → In section r.sections → IsPlainSection section) where
  abbrev ms : List Parts
  ms = m ∷ more

  abbrev s : Setting
  s = setting ms (planned_bases ms plan)

  abbrev alone : Parts
  alone = absolute_of r

  header : ◌≡◌ {A = Header} (m.processor, m.name, m.maus, m.order) (r.processor, r.name, r.maus, r.order)
  header = some_same _ _ h.first

  valid_parts : (parts : Parts) → In parts ms → IsValid parts
  valid_parts parts k = valid_module ms v parts k

  -- ---- strings

  short_processor : is_long r.processor ≡ false
  short_processor = ap (λ (x : Header). is_long x.0) (sym header)
      ∙ (either_false (is_long m.processor) (is_long m.name || strings_after_name m) (no_defect m v.0 d.LongId)).0

  short_name : is_long r.name ≡ false
  short_name = ap (λ (x : Header). is_long x.1) (sym header) ∙ (either_false (is_long m.name) (strings_after_name m) (after_processor m v.0)).0

  short_sections : list_any (λ s. is_long s.name) r.sections ≡ false
  short_sections = none-In (λ s. is_long s.name) r.sections (λ section k. (plain section k).short)

  short_public : (p : PublicValue) → In p r.publics → is_long p.name ≡ false
  unfolding readings
  short_public p k =
      let there = map-In (public_reading s) (located_public p) (flat_publics ms)
      (subst (In (located_public p)) h.publics (In-map located_public p r.publics k)) in
      let site = flat_map-In (λ site. map (λ entry. record { site = site; entry = entry }) site.parts.names.publics) there.0 (sited ms) there.1 in
      let own = map-In (λ entry. record { site = site.0; entry = entry }) there.0 site.0.parts.names.publics site.2 in
      let parts = site.0.parts in
      let valid = valid_parts parts (site_module 0 0 0 ms site.0 site.1) in
      let rest = (either_false (list_any (λ s. is_long s.name) parts.sections) (list_any (λ p. is_long p.name) parts.names.publics
      || (list_any (λ r. is_long r.name) parts.names.references || list_any has_long_name (debug_marks parts))) (after_name parts valid)).1 in
      let publics = (either_false (list_any (λ p. is_long p.name) parts.names.publics) _ rest).0 in
      ap (λ (x : PublicReading). is_long x.name) (sym there.2) ∙ ap (λ (q : SitedPublic). is_long q.entry.name) (sym own.2)
      ∙ fails-In (λ p. is_long p.name) parts.names.publics publics own.0 own.1

  short_publics : list_any (λ p. is_long p.name) (map absolute_public r.publics) ≡ false
  short_publics = none-In (λ p. is_long p.name) (map absolute_public r.publics) (λ entry k.
      let there = map-In absolute_public entry r.publics k in ap (λ (x : Public). is_long x.name) (sym there.2) ∙ short_public there.0 there.1)

  short_strings : has_defect alone d.LongId ≡ false
  short_strings =
      two_false (is_long r.processor) (is_long r.name || strings_after_name alone) short_processor
      (two_false (is_long r.name) (strings_after_name alone) short_name
      (two_false (list_any (λ s. is_long s.name) r.sections) _ short_sections
      (two_false (list_any (λ p. is_long p.name) (map absolute_public r.publics)) _ short_publics (short_names m more plan r v h))))

  -- ---- sections and descriptor

  units : has_defect alone d.BadMaus ≡ false
  units = ap (λ (x : Header). not (is_unit_count x.2)) (sym header) ∙ no_defect m v.0 d.BadMaus

  aligned : has_defect alone d.BadAlign ≡ false
  aligned = none-In has_bad_alignment r.sections (λ section k. (plain section k).aligned)

  based : has_defect alone d.MissingBase ≡ false
  based = none-In lacks_base r.sections (λ section k.
      let own = h.absolute section k in let both = own.absolute in let base = own.based in λ i. both i && is_none (base i))

  -- ---- positions and counters

  publics_fail : (p : Tree → Bool) → ((n : ℕ) → p (number n) ≡ false) → list_any (λ (x : Public). p x.value) (map absolute_public r.publics) ≡ false
  publics_fail p fails = none-In (λ (x : Public). p x.value) (map absolute_public r.publics) (λ entry k.
      let there = map-In absolute_public entry r.publics k in ap (λ (x : Public). p x.value) (sym there.2) ∙ fails there.0.value)

  loads_placed : list_any (has_bad_place (counts_of alone)) alone.loads ≡ false
  loads_placed = none-In (has_bad_place (counts_of alone)) alone.loads (λ load k. plain_place alone load (loads_plain r.runs r.sections load k))

  positions : has_defect alone d.Position ≡ false
  positions =
      two_false (list_any (λ p. names_outside (counts_of alone) p.value) (map absolute_public r.publics)) _
      (publics_fail (names_outside (counts_of alone)) (λ n. refl))
      (two_false (list_any (has_bad_place (counts_of alone)) alone.loads) _ loads_placed
      (two_false (list_any (has_bad_mark (counts_of alone)) (marks_of r.debug)) _ (marks_inside m more plan r v h)
      (two_false (any_of (names_outside (counts_of alone)) alone.start) (is_none (declared_after 0 (marks_of r.debug)))
      (number_start (names_outside (counts_of alone)) (λ n. refl) r.start) (declared m more plan r v h))))

  loads_counted : list_any misplaces_counter (placed_loads alone) ≡ false
  loads_counted = none-In misplaces_counter (placed_loads alone)
      (λ p k. plain_counter (length r.sections) p (loads_plain r.runs r.sections p.1 (placed-In None alone.loads p k)))

  counted : has_defect alone d.MisplacedP ≡ false
  counted =
      two_false (list_any (λ p. has_other_counter None p.value) (map absolute_public r.publics)) _ (publics_fail (has_other_counter None) (λ n. refl))
      (two_false (any_of (has_other_counter None) alone.start) _ (number_start (has_other_counter None) (λ n. refl) r.start)
      (two_false (list_any (any_expression (has_other_counter None)) (marks_of r.debug)) (list_any misplaces_counter (placed_loads alone))
      (no_counters m more plan r v h) loads_counted))

  -- ---- all of them

  module _ (light : weight alone < 2 ^ 32) where
    no_defect_alone : (defect : Defect) → has_defect alone defect ≡ false
    no_defect_alone d.Depth = shallow m more plan r v h
    no_defect_alone d.LongId = short_strings
    no_defect_alone d.BadMaus = units
    no_defect_alone d.BadAlign = aligned
    no_defect_alone d.MissingBase = based
    no_defect_alone d.Position = positions
    no_defect_alone d.MisplacedP = counted
    no_defect_alone d.NoSection = all_somewhere r.runs (enumerate_from 0 r.sections)
    no_defect_alone d.LongRun = none-In (any_item is_long_literal) alone.loads
        (λ load k. plain_short (length r.sections) load (loads_plain r.runs r.sections load k))
    no_defect_alone d.FieldSize = none-In (any_item has_bad_size) alone.loads
        (λ load k. plain_size (length r.sections) load (loads_plain r.runs r.sections load k))
    no_defect_alone d.Attribute = known m more plan r v h
    no_defect_alone d.Nesting = plain_ends m more plan r v h
    no_defect_alone d.Weight = not_le (2 ^ 32) (weight alone) light

    pub valid_alone : IsValid alone
    valid_alone = finds_nothing (has_defect alone) defects no_defect_alone

pub absolute_is_valid : AbsoluteIsValid
absolute_is_valid [] plan r v h light = let e = h.first in absurd cc
absolute_is_valid (m ∷ more) plan r v h light = valid_alone m more plan r v (sound m more plan r v h) (plain_sections m more plan r v h) light
