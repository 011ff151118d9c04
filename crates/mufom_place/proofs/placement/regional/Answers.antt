use Rattle.std.proofs.Common.{length, map, sym, ap, ◌∙◌, subst, arith}
use Rattle.std.specs.Prelude.{All, sum_by}
use Rattle.std.specs.List.{enumerate_from}
use Rattle.std.proofs.lemmas.List.{length-map}
use Rattle.std.proofs.lemmas.List.FromFn.{length-enumerate_from}
use Rattle.mufom_plan.specs.Names.{listed_names}
use Rattle.mufom_place.specs.Bases.{numbered, waiting, waiting_among, waiting_commons as waiting_of}
use Rattle.mufom_place.specs.Packing.{IsAlignedWaiting, placings_from}
use Rattle.mufom_place.proofs.AlignedLemmas.{waiting-aligned, commons-aligned}
use Rattle.mufom_place.proofs.PackingLemmas.{placings_from-waiting}
use Rattle.mufom_place.proofs.placement.regional.Goals as goal

pub placings-requires-clause-aligned : goal.placings-requires-clause-aligned
placings-requires-clause-aligned c =
    subst (All (All IsAlignedWaiting)) (sym (c.deref.ensures.value ∙ c.in_ok-entries.ensures.waiting))
    (waiting-aligned c.in_ok-index.index c.args.sections.now c.requires.alignments c.in_ok-index.index)

pub placings-requires-clause-aligned_commons : goal.placings-requires-clause-aligned_commons
placings-requires-clause-aligned_commons c =
    subst (All IsAlignedWaiting) (sym (c.deref-2.ensures.value ∙ c.in_ok-waiting.ensures))
    (commons-aligned (length c.args.sections.now) c.args.commons.now c.requires.aligned_commons)

pub placings-requires-clause-room : goal.placings-requires-clause-room
placings-requires-clause-room c =
    let entries = ap (sum_by length) c.deref.ensures.value in
    let few = c.in_ok-entries.ensures.total in
    let commons = ap length (c.deref-2.ensures.value ∙ c.in_ok-waiting.ensures)
    ∙ length-map (enumerate_from (length c.args.sections.now) c.args.commons.now) waiting
    ∙ length-enumerate_from (length c.args.sections.now) c.args.commons.now in
    let count = c.requires.count in
    omega (arith, entries, few, commons, count)

pub returns-clause-given : goal.returns-clause-given
returns-clause-given c =
    let regions = c.args.plan.now.regions in
    let sections = c.args.sections.now in
    let commons = c.args.commons.now in
    let listed = c.in_ok-index.ensures in
    let entries = c.deref.ensures.value ∙ c.in_ok-entries.ensures.waiting ∙ (λ i. map (waiting_among (listed i) (numbered sections)) (listed i)) in
    let last = c.deref-2.ensures.value ∙ c.in_ok-waiting.ensures in
    c.in_ok-placings.ensures.given ∙ (λ i. placings_from 0 regions (entries i) (last i))
    ∙ placings_from-waiting (waiting_among (listed_names regions) (numbered sections)) (waiting_of sections commons) 0 regions
