use Rattle.std.proofs.Common.{◌≡◌, ◌-◌, ◌++◌, ◌∷◌, [], List, length, map, take, drop, Some, None, sym, ap, ◌∙◌, subst, arith}
use Rattle.std.specs.Prelude.{All}
use Rattle.std.proofs.lemmas.List.Elements.{All-drop, All-take}
use Rattle.mufom_sections.specs.declared.section.Section.{Section}
use Rattle.mufom_plan.specs.Names.{listed_names}
use Rattle.mufom_place.specs.declared.placing.RegionCopy.{RegionCopy}
use Rattle.mufom_place.specs.Bases.{numbered, site_of}
use Rattle.mufom_place.specs.Copies.{copy_sections}
use Rattle.mufom_place.specs.Facts.{IsAligned, first_some, unplaced_at}
use Rattle.mufom_planned.specs.Layout.{layout_bases, whole_list}
use Rattle.mufom_planned.specs.PlanSymbols.{with_symbols}
use Rattle.mufom_meaning.specs.Location.{placed_sections}
use Rattle.mufom_map.specs.Mapped.{planned_layout}
use Rattle.mufom_map.specs.Shown.{bare}
use Rattle.mufom_map.proofs.CopyRegions.{regions-are}
use Rattle.mufom_map.proofs.LocatedLaws.{aligned-located, aligned-own, all-placed, bare-aligned, count, few-located, own-is}
use Rattle.mufom_map.proofs.ShownLaws.{commons-again}
use Rattle.mufom_map.proofs.making.regions_of.Goals as goal
use Rattle.mufom_map.proofs.making.regions_of.Goals.{After-deref}

pub split_at-requires : goal.split_at-requires
split_at-requires c =
    let parts = count c.args.parts.now c.args.plan.now c.args.located.now c.requires.planned in
    let own = ap length c.as_slice-own.ensures in let all = ap length c.as_slice.ensures in omega (arith, parts, own, all)

pub overflow_sub-placed : goal.overflow_sub-placed
overflow_sub-placed c =
    let parts = count c.args.parts.now c.args.plan.now c.args.located.now c.requires.planned in
    let own = ap length c.as_slice-own.ensures in let all = ap length c.as_slice.ensures in
    let copies = ap length c.requires.copies in let back = c.split_at.ensures.back_len in omega (arith, parts, own, all, copies, back)

-- the sections of the module
own-are : (c : After-deref) → c.as_slice-own.result.now ≡ (planned_layout (c.args.parts.now ∷ []) c.args.plan.now).sections
own-are c = c.as_slice-own.ensures ∙ sym (own-is c.args.parts.now c.args.plan.now)

-- the sections after those of the module, up to the copies, are the commons
commons-are : (c : After-deref) → c.deref.result.now ≡ (planned_layout (c.args.parts.now ∷ []) c.args.plan.now).commons
commons-are c =
    let plan = c.args.plan.now in let h = c.requires.planned in
    let l = planned_layout (c.args.parts.now ∷ []) plan in
    let parts = count c.args.parts.now plan c.args.located.now h in
    let own = ap length c.as_slice-own.ensures in let all = ap length c.as_slice.ensures in
    let copies = ap length c.requires.copies in let back = c.split_at.ensures.back_len in
    let size : length c.split_at.result.1.now - length c.args.copies.now ≡ length l.commons = omega (arith, parts, own, all, copies, back) in
    let rest : c.split_at.result.1.now ≡ drop (length l.sections) (placed_sections (layout_bases l) (whole_list l))
    = c.split_at.ensures.back ∙ (λ i. drop (length (own-are c i)) ((c.as_slice.ensures ∙ h.located.sections) i)) in
    c.deref.ensures.value ∙ c.in_ok-commons.ensures ∙ ap (map bare) (c.split_at-2.ensures.front ∙ (λ i. take (size i) (rest i)))
    ∙ commons-again (with_symbols (c.args.parts.now ∷ []) plan) plan (layout_bases l) (copy_sections l.copied)

pub section_regions-requires-clause-alignments : goal.section_regions-requires-clause-alignments
section_regions-requires-clause-alignments c =
    subst (All IsAligned) (sym c.as_slice-own.ensures) (aligned-own c.args.parts.now c.args.plan.now c.requires.valid)

pub section_regions-requires-clause-aligned_commons : goal.section_regions-requires-clause-aligned_commons
section_regions-requires-clause-aligned_commons c =
    let all = c.as_slice.result.now in
    let rest = c.split_at.result.1.now in
    let aligned : All IsAligned all = subst (All IsAligned) (sym c.as_slice.ensures) (aligned-located c.args.located.now c.requires.located) in
    let later : All IsAligned rest = subst (All IsAligned) (sym c.split_at.ensures.back) (All-drop IsAligned (length c.as_slice-own.result.now) all aligned) in
    let first : All IsAligned c.split_at-2.result.0.now
    = subst (All IsAligned) (sym c.split_at-2.ensures.front) (All-take IsAligned (length rest - length c.args.copies.now) rest later) in
    subst (All IsAligned) (sym (c.deref.ensures.value ∙ c.in_ok-commons.ensures)) (bare-aligned c.split_at-2.result.0.now first)

pub section_regions-requires-clause-count : goal.section_regions-requires-clause-count
section_regions-requires-clause-count c =
    let less = few-located c.args.located.now c.requires.located in
    let parts = count c.args.parts.now c.args.plan.now c.args.located.now c.requires.planned in
    let own = ap length c.as_slice-own.ensures in
    let asked = ap length (commons-are (goal.at.section_regions-requires-clause-count c).After-deref) in omega (arith, less, parts, own, asked)

pub section_regions-requires-clause-placed : goal.section_regions-requires-clause-placed
section_regions-requires-clause-placed c =
    subst (λ (own : List Section). first_some (unplaced_at (listed_names c.args.plan.now.regions)) (numbered own) ≡ None) (sym c.as_slice-own.ensures)
    (all-placed c.args.parts.now c.args.plan.now c.args.located.now c.requires.planned)

pub returns : goal.returns
returns c =
    let plan = c.args.plan.now in
    let own = own-are (goal.at.returns c).After-deref in let asked = commons-are (goal.at.returns c).After-deref in
    let first = c.in_ok-regions.ensures ∙ (λ i. map (λ s. (site_of plan (own i) (asked i) s).region) (numbered (own i ++ asked i))) in
    c.in_ok-add_holders.ensures ∙ (λ i. first i ++ map (λ (copy : RegionCopy). Some copy.holder) (c.requires.copies i))
    ∙ sym (regions-are (with_symbols (c.args.parts.now ∷ []) plan) plan)
