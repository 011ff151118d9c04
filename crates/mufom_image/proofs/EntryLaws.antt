-- The entries with their values are those of the location, if each expression has a value.
use Rattle.std.proofs.Common.{◌≡◌, ◌≢◌, ◌*◌, ◌^◌, ◌≤◌, inl, inr, List, [], ◌∷◌, map, length, Option, Some, None, refl, sym, ◌∙◌, ap, subst, append-nil, arith}
use Rattle.std.specs.Prelude.{filter, option_map, option_to_list}
use Rattle.mufom_expr.specs.Tree.{Tree}
use Rattle.mufom_debug.specs.Marks.{marks_of, expressions_of}
use Rattle.mufom_names.specs.declared.name.Public.{Public}
use Rattle.mufom_names.specs.Names.{names_of, AreDistinct}
use Rattle.mufom_module.specs.declared.module.Order.{Order}
use Rattle.mufom_module.specs.declared.module.Parts.{Parts}
use Rattle.mufom_module.specs.Defects.{IsValid}
use Rattle.mufom_module.specs.Written.{weight}
use Rattle.mufom_plan.specs.declared.plan.Plan.{Plan}
use Rattle.mufom_meaning.specs.declared.located.LocatedParts.{LocatedParts}
use Rattle.mufom_meaning.specs.declared.located.PublicValue.{PublicValue}
use Rattle.mufom_meaning.specs.declared.located.Run.{Run}
use Rattle.mufom_meaning.specs.Absolute.{absolute_of}
use Rattle.mufom_meaning.specs.AddressMap.{AreRunsOf, address_map}
use Rattle.mufom_meaning.specs.Bases.{Bases}
use Rattle.mufom_meaning.specs.Flat.{Sited, sited, flat_publics, is_common}
use Rattle.mufom_meaning.specs.LocateAnswer.{locate_answer}
use Rattle.mufom_meaning.specs.Location.{IsLocation, Header, located_sections, located_public, located_mark}
use Rattle.mufom_meaning.specs.LocationLaws.{AbsoluteWeighs, asking_count}
use Rattle.mufom_meaning.specs.Placed.{planned_bases}
use Rattle.mufom_meaning.specs.Readings.{readings, public_reading, mark_reading}
use Rattle.mufom_meaning.specs.Valued.{HaveValues}
use Rattle.mufom_meaning.specs.Values.{Setting, setting, value}
use Rattle.mufom_meaning.specs.Walk.{start_trees, debug_trees}
use Rattle.mufom_numbers.proofs.Choices.{some_same}
use Rattle.mufom_meaning.proofs.Members.{In, at-In, In-map, In-flat_map}
use Rattle.mufom_meaning.proofs.Unfolding.{readings-publics, readings-starts, readings-debug}
use Rattle.mufom_meaning.proofs.values.ValueLaws.{values_exist}
use Rattle.mufom_image_values.specs.Evaluated.{alone}
use Rattle.mufom_image_values.proofs.MentionLaws.{sit, flat-alone}
use Rattle.mufom_image_entries.specs.declared.valued.ValuedModule.{ValuedModule}
use Rattle.mufom_image_entries.specs.Valued.{parts_of, valued_mark}
use Rattle.mufom_image_entries.proofs.LocatedLaws.{or_zero, has-value, located-marks}
use Rattle.mufom_image.specs.Entries.{HasEntries, AreRuns}
use Rattle.mufom_image.specs.Stages.{IsPlannedBy, bases_of, most_weight}
use Rattle.mufom_image.proofs.ReadyLaws.{linkable-alone, same-bases}

module _ (m : Parts) (b : Bases) (h : HaveValues (m ∷ []) (setting (m ∷ []) b)) where
  abbrev s : Setting
  s = setting (m ∷ []) b

  -- a public with its value
  abbrev pub with_value : Public → PublicValue
  with_value p = record { name = p.name; value = or_zero s m p.value; notes = p.notes }

  public_there : (p : Public) → In p m.names.publics → value s (alone m) None p.value ≢ None
  public_there p k =
      let q = sit m p in
      let among : In q (flat_publics (m ∷ [])) = subst (In q) (sym (flat-alone m)) (In-map (sit m) p m.names.publics k) in
      h.expressions None (alone m) p.value (inl (q, at-In q (flat_publics (m ∷ [])) among, refl, refl))

  start_there : (t : Tree) → In t (option_to_list m.start) → value s (alone m) None t ≢ None
  start_there t k =
      let among = In-flat_map (λ (site : Sited). map (λ t. (site, t)) (option_to_list site.parts.start)) (alone m) (alone m, t) (sited (m ∷ [])) (inl refl)
      (In-map (λ t. (alone m, t)) t (option_to_list m.start) k) in
      h.expressions None (alone m) t (inr (inl (at-In (alone m, t) (start_trees (m ∷ [])) among)))

  debug_there : (t : Tree) → In t (expressions_of (marks_of m.debug)) → value s (alone m) None t ≢ None
  debug_there t k =
      let among = In-flat_map (λ (site : Sited). map (λ t. (site, t)) (expressions_of (marks_of site.parts.debug))) (alone m) (alone m, t)
      (sited (m ∷ [])) (inl refl)
      (In-map (λ t. (alone m, t)) t (expressions_of (marks_of m.debug)) k) in
      h.expressions None (alone m) t (inr (inr (at-In (alone m, t) (debug_trees (m ∷ [])) among)))

  same-publics : (ps : List Public) → ((p : Public) → In p ps → In p m.names.publics) → map located_public (map with_value ps)
      ≡ map (public_reading s) (map (sit m) ps)
  same-publics [] among = refl
  same-publics (p ∷ ps) among =
      let here = sym (has-value s m p.value (public_there p (among p (inl refl)))) in
      let rest = same-publics ps (λ q k. among q (inr k)) in
      λ i. record { name = p.name; notes = p.notes; value = here i } ∷ rest i

  pub publics-are : map located_public (map with_value m.names.publics) ≡ (readings (m ∷ []) b).publics
  publics-are =
      same-publics m.names.publics (λ p k. k)
      ∙ ap (map (public_reading s)) (sym (flat-alone m))
      ∙ sym (readings-publics (m ∷ []) b)

  pub start-is : map (λ v. Some v) (option_to_list (option_map (or_zero s m) m.start)) ≡ (readings (m ∷ []) b).starts
  start-is = by_start m.start start_there ∙ sym (append-nil (map (value s (alone m) None) (option_to_list m.start))) ∙ sym (readings-starts (m ∷ []) b) where
    by_start : (o : Option Tree) → ((t : Tree) → In t (option_to_list o) → value s (alone m) None t ≢ None)
        → map (λ v. Some v) (option_to_list (option_map (or_zero s m) o)) ≡ map (value s (alone m) None) (option_to_list o)
    by_start None some = refl
    by_start (Some t) some = ap (λ v. v ∷ []) (sym (has-value s m t (some t (inl refl))))

  pub debug-is : map (λ mark. Some mark) (map (valued_mark (or_zero s m)) (marks_of m.debug)) ≡ map located_mark (readings (m ∷ []) b).debug
  debug-is =
      located-marks s m (marks_of m.debug) debug_there
      ∙ ap (map located_mark) (sym (append-nil (map (mark_reading s (alone m)) (marks_of m.debug))) ∙ sym (readings-debug (m ∷ []) b))

-- the parts with these entries are the location
pub entries-located : (plan : Plan) (valued : ValuedModule) (runs : List Run) (r : LocatedParts) → IsPlannedBy plan valued.placed.now
    → IsValid (parts_of valued) → AreDistinct (names_of (parts_of valued).names.publics) → locate_answer (parts_of valued ∷ []) plan ≡ None
    → AreRuns valued runs → HasEntries valued (located_sections (parts_of valued ∷ []) plan) runs r → IsLocation (parts_of valued ∷ []) plan r
entries-located plan valued runs r by valid names locates rows entries =
    let m = parts_of valued in
    let links = linkable-alone m names in
    let same = same-bases plan valued.placed.now by in
    let there : HaveValues (m ∷ []) (setting (m ∷ []) (bases_of valued.placed.now))
    = subst (λ (b : Bases). HaveValues (m ∷ []) (setting (m ∷ []) b)) (sym same) (values_exist (m ∷ []) plan (valid, tt {0}) links locates) in
    let order : m.order ≡ r.order = ap (λ (header : Header). header.3)
    (some_same (m.processor, m.name, m.maus, m.order) (r.processor, r.name, r.maus, r.order) entries.first) in
    record {
      links = links;
      locates = locates;
      first = entries.first;
      sections = entries.placed;
      publics = ap (map located_public) entries.publics ∙ publics-are m (bases_of valued.placed.now) there
          ∙ ap (λ (b : Bases). (readings (m ∷ []) b).publics) same;
      start = ap (λ o. map (λ v. Some v) (option_to_list o)) entries.start ∙ start-is m (bases_of valued.placed.now) there
          ∙ ap (λ (b : Bases). (readings (m ∷ []) b).starts) same;
      debug = ap (map (λ mark. Some mark)) entries.debug ∙ debug-is m (bases_of valued.placed.now) there
          ∙ ap (λ (b : Bases). map located_mark (readings (m ∷ []) b).debug) same;
      rows = rows_there same order;
    }
  where
    rows_there : bases_of valued.placed.now ≡ planned_bases (parts_of valued ∷ []) plan → (parts_of valued).order ≡ r.order
        → AreRunsOf (address_map r.order (2 ^ (8 * (parts_of valued).maus))
        (readings (parts_of valued ∷ []) (planned_bases (parts_of valued ∷ []) plan)).steps) r.runs
    rows_there same order =
        subst (λ (x : Order × Bases × List Run). AreRunsOf (address_map x.0 (2 ^ (8 * (parts_of valued).maus)) (readings (parts_of valued ∷ []) x.1).steps) x.2)
        (let runs_same = sym entries.rows in λ i. (order i, same i, runs_same i))
        rows

-- the absolute module of a location is light
pub location-light : AbsoluteWeighs → (m : Parts) (plan : Plan) (r : LocatedParts) → IsValid m → IsLocation (m ∷ []) plan r
    → weight (absolute_of r) ≤ most_weight m
location-light weighs m plan r valid is =
    let whole = weighs (m ∷ []) plan r (valid, tt {0}) is in
    let sections = ap length (append-nil m.sections) in
    let references : asking_count (m ∷ []) ≡ length (filter is_common m.names.references) =
    ap (λ all. length (filter is_common all)) (append-nil m.names.references) in
    omega (arith, whole, sections, references)
