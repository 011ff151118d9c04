-- What is known of the location of one module by a plan: its sections are those of the module, the commons and the copies, aligned, placed, and few.
use Rattle.std.proofs.Common.{◌≡◌, ◌+◌, ◌<◌, ◌^◌, ℕ, List, [], ◌∷◌, ◌++◌, length, map, None, sym, ap, ◌∙◌, subst, append-nil, arith, length-append}
use Rattle.std.specs.Prelude.{All}
use Rattle.std.specs.List.{enumerate_from}
use Rattle.std.proofs.lemmas.List.{length-map}
use Rattle.std.proofs.lemmas.List.FromFn.{length-enumerate_from}
use Rattle.std.proofs.Math.Seq.{take-append_seam}
use Rattle.std.proofs.lemmas.List.Elements.{All-nil, All-cons, All-head, All-tail, All-take}
use Rattle.mufom_sections.specs.declared.section.Section.{Section}
use Rattle.mufom_names.specs.declared.name.Public.{Public}
use Rattle.mufom_module.specs.declared.module.Parts.{Parts}
use Rattle.mufom_module.specs.declared.module.Defect.TheVariants as kinds
use Rattle.mufom_module.specs.Defects.{IsValid}
use Rattle.mufom_module.specs.Written.{weight}
use Rattle.mufom_module.proofs.EntryCounts.{publics-count}
use Rattle.mufom_plan.specs.declared.plan.Plan.{Plan}
use Rattle.mufom_plan.specs.declared.plan.PlanSymbol.{PlanSymbol}
use Rattle.mufom_plan.specs.Names.{listed_names}
use Rattle.mufom_place.specs.declared.placing.RegionCopy.{RegionCopy}
use Rattle.mufom_place.specs.Bases.{numbered}
use Rattle.mufom_place.specs.Copies.{all_refusal, copy_sections}
use Rattle.mufom_place.specs.Facts.{IsAligned, first_some, unplaced_at}
use Rattle.mufom_meaning.specs.declared.located.LocatedParts.{LocatedParts}
use Rattle.mufom_meaning.specs.Facts.{placement}
use Rattle.mufom_meaning.specs.Flat.{SitedPublic, flat_publics, flat_sections, width}
use Rattle.mufom_meaning.specs.LocateAnswer.{after_placing}
use Rattle.mufom_meaning.specs.Location.{located_public, placed_section, placed_sections}
use Rattle.mufom_meaning.specs.Placed.{extended_sections, placed_commons, planned_bases}
use Rattle.mufom_meaning.specs.Readings.{readings, public_reading}
use Rattle.mufom_meaning.specs.Values.{setting}
use Rattle.mufom_meaning.proofs.CallLaws.{modules_may_be_placed}
use Rattle.mufom_numbers.proofs.Choices.{mapped_none, of_not_le}
use Rattle.mufom_meaning.proofs.NoDefects.{no_defect}
use Rattle.mufom_meaning.proofs.facts.Answers.{or_else_none}
use Rattle.mufom_located.specs.Located.{IsLocated}
use Rattle.mufom_planned.specs.Layout.{Layout, layout_bases, whole_list}
use Rattle.mufom_planned.specs.PlanSymbols.{followed_by, with_symbols}
use Rattle.mufom_planned.specs.Planned.{IsPlanned, copied_answer, layout_fact, of_list}
use Rattle.mufom_map.specs.Mapped.{planned_layout}
use Rattle.mufom_map.specs.Shown.{bare}

-- ---- placed sections

placed-count : (at : List ℕ) (sections : List Section) → length (placed_sections at sections) ≡ length sections
placed-count at sections = length-map (enumerate_from 0 sections) (placed_section at) ∙ length-enumerate_from 0 sections

-- placing changes no alignment
placed-aligned : (at : List ℕ) (n : ℕ) (sections : List Section) → All IsAligned sections
    → All IsAligned (map (placed_section at) (enumerate_from n sections))
placed-aligned at n [] all = All-nil IsAligned
placed-aligned at n (s ∷ sections) all =
    let own = All-head IsAligned s sections all in
    All-cons IsAligned (placed_section at (n, s)) (map (placed_section at) (enumerate_from (n + 1) sections))
    (record { least = own.least; most = own.most }) (placed-aligned at (n + 1) sections (All-tail IsAligned s sections all))

pub bare-aligned : (sections : List Section) → All IsAligned sections → All IsAligned (map bare sections)
bare-aligned [] all = All-nil IsAligned
bare-aligned (s ∷ sections) all =
    let own = All-head IsAligned s sections all in
    All-cons IsAligned (bare s) (map bare sections) (record { least = own.least; most = own.most }) (bare-aligned sections (All-tail IsAligned s sections all))

-- ---- any location

module _ (r : LocatedParts) (h : IsLocated r) where
  abbrev ms : List Parts
  ms = h.source ∷ []

  pub few-located : length r.sections < 2 ^ 32
  few-located =
      let all = ap length h.is.sections ∙ placed-count _ (extended_sections ms h.plan) in
      let less = (modules_may_be_placed h.source h.plan h.valid).count in omega (arith, all, less)

  pub aligned-located : All IsAligned r.sections
  aligned-located = subst (All IsAligned) (sym h.is.sections)
      (placed-aligned _ 0 (extended_sections ms h.plan) (modules_may_be_placed h.source h.plan h.valid).alignments)

  few-publics : length h.source.names.publics < 2 ^ 32
  few-publics =
      let light = of_not_le (2 ^ 32) (weight h.source) (no_defect h.source h.valid kinds.Weight) in
      let count = publics-count h.source in omega (arith, light, count)

  abbrev entry-of : Public → SitedPublic
  entry-of entry = record { site = record { parts = h.source; first_section = 0; first_public = 0; first_name = 0 }; entry = entry }

  pub publics-located : length r.publics < 2 ^ 32
  unfolding readings
  publics-located =
      let own = length-map r.publics located_public in
      let same = ap length h.is.publics in
      let entries = ap (λ (ps : List SitedPublic). length ps) (append-nil (map entry-of h.source.names.publics)) in
      let many = length-map h.source.names.publics entry-of in
      let readings-long = length-map (flat_publics ms) (public_reading (setting ms (planned_bases ms h.plan))) in
      let less = few-publics in
      omega (arith, own, same, entries, many, readings-long, less)

-- ---- a location by a plan

pub aligned-own : (m : Parts) (plan : Plan) → IsValid m → All IsAligned m.sections
aligned-own m plan valid =
    let own = flat_sections (m ∷ []) in let asked = placed_commons (m ∷ []) plan in
    subst (All IsAligned) (take-append_seam own asked ∙ append-nil m.sections)
    (All-take IsAligned (length own) (own ++ asked) (modules_may_be_placed m plan valid).alignments)

-- the plan's symbols have no sections
symbols-sections : (m : Parts) (numbers : PlanSymbol → ℕ) (symbols : List PlanSymbol) → flat_sections (followed_by (m ∷ []) numbers symbols) ≡ m.sections
symbols-sections m numbers [] = append-nil m.sections
symbols-sections m numbers (symbol ∷ more) = append-nil m.sections

module _ (m : Parts) (plan : Plan) where
  abbrev l : Layout
  l = planned_layout (m ∷ []) plan

  pub own-is : l.sections ≡ m.sections
  own-is = symbols-sections m _ plan.symbols

  module _ (r : LocatedParts) (h : IsPlanned (m ∷ []) plan r) where
    pub count : length r.sections ≡ length m.sections + length l.commons + length l.copied
    count =
        let all = ap length h.located.sections ∙ placed-count (layout_bases l) (whole_list l) in
        let both = length-append (l.sections ++ l.commons) (copy_sections l.copied) in
        let first = length-append l.sections l.commons in
        let last = length-map l.copied (λ (c : RegionCopy). c.section) in
        let own = ap length own-is in
        omega (arith, all, both, first, last, own)

    pub all-placed : first_some (unplaced_at (listed_names plan.regions)) (numbered m.sections) ≡ None
    all-placed =
        let ns = with_symbols (m ∷ []) plan in
        let copied = mapped_none of_list (copied_answer ns plan)
        (or_else_none _ _ h.locates).1 in
        let fits = mapped_none placement (all_refusal (width ns) plan l.sections l.commons l.copied)
        (or_else_none (layout_fact ns l) (after_placing ns plan) copied).0 in
        subst (λ (own : List Section). first_some (unplaced_at (listed_names plan.regions)) (numbered own) ≡ None) own-is
        (or_else_none _ _ fits).0
