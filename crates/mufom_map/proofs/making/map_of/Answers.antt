use Rattle.std.proofs.Common.{◌≡◌, ◌∷◌, [], ℕ, List, length, map, option_map, sym, ap, ◌∙◌, sum_by}
use Rattle.std.specs.Prelude.{position}
use Rattle.std.specs.List.{list_any}
use Rattle.mufom_module.specs.declared.module.Parts.{Parts}
use Rattle.mufom_plan.specs.Names.{has_name, listed_names}
use Rattle.mufom_meaning.specs.declared.located.LocatedParts.{LocatedParts}
use Rattle.mufom_meaning.specs.declared.located.Run.{Run}
use Rattle.mufom_origins.specs.declared.origins.Origin.{Origin}
use Rattle.mufom_map.specs.Mapped.{planned_layout}
use Rattle.mufom_map.specs.Unused.{missing_entries, waits_as}
use Rattle.mufom_map.proofs.LocatedLaws.{own-is}
use Rattle.mufom_map.proofs.UnusedLaws.{missing-unused}
use Rattle.mufom_map.proofs.making.map_of.Goals as goal

pub returns : goal.returns
returns c =
    let plan = c.args.plan.now in
    let own = (planned_layout (c.args.module.now ∷ []) plan).sections in
    let h = c.in_ok-entries.ensures in
    let same = c.parts-parts.ensures.same in
    let placed = c.in_ok-placed.placed in
    let names : (entry : List ℕ) → has_name placed entry ≡ list_any (waits_as entry) own
    = λ entry. c.in_ok-placed.ensures entry ∙ ap (list_any (waits_as entry)) (c.as_slice.ensures
    ∙ ap (λ (m : Parts). m.sections) c.parts-own.ensures.same ∙ sym (own-is c.args.module.now plan)) in
    let unused = ap (map (missing_entries placed)) c.as_slice-2.ensures ∙ missing-unused (listed_names plan.regions) placed own names plan.regions in
    let runs = c.as_slice-3.ensures ∙ ap (λ (r : LocatedParts). r.runs) same in
    λ i. record {
      maus = h.maus i;
      origins = h.origins_are i;
      regions = c.as_slice-2.ensures i;
      unused = unused i;
      sections = h.sections i;
      publics = h.publics i;
      start = option_map (λ (a : ℕ). (a, position (λ (o : Origin). o.has_start) (h.origins_are i))) (same i).start;
      loaded = sum_by (λ (run : Run). length run.bytes) (runs i);
    }
