-- Lists of modules that mean the same have the same sections, commons and undefined names, and so the same explanations.
use Rattle.std.proofs.Common.{◌≡◌, ℕ, ◌+◌, ◌-◌, List, ◌++◌, length, map, Option, Some, None, not, refl, ap, ◌∙◌}
use Rattle.std.specs.Prelude.{filter, slice_get}
use Rattle.mufom_sections.specs.declared.section.Section.{Section}
use Rattle.mufom_module.specs.declared.module.Parts.{Parts}
use Rattle.mufom_plan.specs.declared.plan.Region.{Region}
use Rattle.mufom_plan.specs.Names.{has_name}
use Rattle.mufom_place.specs.declared.refusal.PlaceRefusal.{PlaceRefusal}
use Rattle.mufom_place.specs.declared.refusal.PlaceRefusal.TheVariants as place
use Rattle.mufom_refusals.specs.declared.locate.LocateRefusal.{LocateRefusal}
use Rattle.mufom_refusals.specs.declared.locate.LocateRefusal.TheVariants as locate
use Rattle.mufom_meaning.specs.declared.located.Site.{Site}
use Rattle.mufom_meaning.specs.declared.located.Site.TheVariants as site
use Rattle.mufom_meaning.specs.Flat.{commons, flat_sections, needs}
use Rattle.mufom_meaning.specs.Placed.{placed_commons, planned_bases}
use Rattle.mufom_meaning.specs.Readings.{Readings, readings}
use Rattle.mufom_meaning.specs.StagingLaws.{MeansTheSame}
use Rattle.mufom_meaning.proofs.Placed.{same_placed_commons}
use Rattle.mufom_planned.specs.Layout.{Layout, layout}
use Rattle.mufom_planned.proofs.Alike.{layout_same}
use Rattle.mufom_text.specs.Words.{Text}
use Rattle.mufom_field_values.specs.Fields.{field_of}
use Rattle.mufom_explain.specs.Details.{Explained, entry_lines, locate_details, numbered_lines, placement_details, region_at, region_lines}
use Rattle.mufom_explain.specs.Details.{field_details, lines_of_field, numbered_copy, placed_lines, site_details, undefined_names}
use Rattle.mufom_explain.specs.Lines.{copied_line}
use Rattle.mufom_explain.specs.Laws.{with_modules}
use Rattle.mufom_explain.specs.Mentions.{mention_text}
use Rattle.mufom_explain.specs.Region.{region_line, taken_in}

module _ (e : Explained) (ms leaves : List Parts) (same : MeansTheSame ms leaves) where
  abbrev one : Explained
  one = with_modules e ms

  abbrev other : Explained
  other = with_modules e leaves

  sections : flat_sections ms ≡ flat_sections leaves
  unfolding readings
  sections = ap (λ (x : Readings). x.sections) (same.same_readings (planned_bases ms e.plan))

  needed : needs ms ≡ needs leaves
  unfolding readings
  needed = ap (λ (x : Readings). x.needs) (same.same_readings (planned_bases ms e.plan))

  asked : commons ms ≡ commons leaves
  unfolding readings
  asked = ap (λ (x : Readings). x.commons) (same.same_readings (planned_bases ms e.plan))

  placed : placed_commons ms e.plan ≡ placed_commons leaves e.plan
  placed = same_placed_commons ms leaves sections asked e.plan

  lacking : undefined_names ms ≡ undefined_names leaves
  lacking =
      let commons_same = asked in
      let needs_same = needed in
      λ i. filter (λ name. not (has_name (map (λ (common : List ℕ × ℕ). common.0) (commons_same i)) name)) (needs_same i)

  numbered : (n : ℕ) (o u : Option Section) → numbered_lines one n o u ≡ numbered_lines other n o u
  numbered n (Some s) u = refl
  numbered n None (Some s) = refl
  numbered n None None = refl

  entries : (n : ℕ) → entry_lines one n ≡ entry_lines other n
  entries n =
      let own = sections in
      let commons_same = placed in
      (λ i. numbered_lines one n (slice_get (own i) n) (slice_get (commons_same i) (n - length (own i))))
      ∙ numbered n (slice_get (flat_sections leaves) n) (slice_get (placed_commons leaves e.plan) (n - length (flat_sections leaves)))

  -- the located module is the same one
  fields : (n address : ℕ) → field_details one n address ≡ field_details other n address
  fields n address = ap (λ (entry : Text). entry ++ lines_of_field e.own (field_of e.«module» e.own e.plan n address)) (entries n)

  layouts : layout ms e.plan ≡ layout leaves e.plan
  layouts = layout_same ms leaves e.plan same

  placed_entries : (n : ℕ) → placed_lines one n ≡ placed_lines other n
  placed_entries n =
      let entry = entries n in
      let own = sections in
      let commons_same = placed in
      let all = layouts in
      λ i. entry i ++ copied_line n (numbered_copy (length (own i) + length (commons_same i)) (all i).copied n)

  region : (n : ℕ) (o : Option Region) → region_at one n o ≡ region_at other n o
  region n None = refl
  region n (Some r) = ap (λ (l : Layout). region_line e.maus n r (taken_in l n r)) layouts

  regions : (o : Option ℕ) → region_lines one o ≡ region_lines other o
  regions None = refl
  regions (Some n) = region n (slice_get e.plan.regions n)

  placements : (r : PlaceRefusal) → placement_details one r ≡ placement_details other r
  placements (place.Unplaced n) = entries n
  placements (place.Misfit n o) = let first = placed_entries n in let second = regions o in λ i. first i ++ second i
  placements (place.Overlap m n) = let first = placed_entries m in let second = placed_entries n in λ i. first i ++ second i
  placements place.NoMemory = refl

  sites : (s : Site) → site_details one s ≡ site_details other s
  sites (site.Public name) = refl
  sites (site.Counter n) = entries n
  sites (site.Field n address) = fields n address
  sites site.Start = refl
  sites (site.Debug n) = refl

  pub explained-alike : (r : LocateRefusal) → locate_details one r ≡ locate_details other r
  explained-alike (locate.Place r) = placements r
  explained-alike (locate.Undefined name) = ap (mention_text e.names e.flat) lacking
  explained-alike (locate.CommonUnplaced name) = refl
  explained-alike (locate.Cycle name) = refl
  explained-alike (locate.DivideByZero s) = sites s
  explained-alike (locate.Overflow n address kind size value) = fields n address
  explained-alike (locate.LoadOutside n address) = entries n
  explained-alike (locate.LoadedTwice address) = refl
  explained-alike (locate.ImageLimit count) = refl
  explained-alike locate.NoMemory = refl
