use Rattle.std.proofs.Common.{◌≡◌, [], ◌∷◌, length, sym, ap, subst, arith, ◌∙◌}
use Rattle.std.proofs.lemmas.Result.{err_from_is_err_and}
use Rattle.mufom_module.specs.Defects.{IsValid}
use Rattle.mufom_meaning.specs.Location.{IsLocation, placed_sections}
use Rattle.mufom_image_values.specs.Evaluated.{AreValues}
use Rattle.mufom_image.proofs.MetLaws.{unplaced-answered, judged-answered}
use Rattle.mufom_image.proofs.ReadyLaws.{placed-count}
use Rattle.mufom_image.proofs.EntryLaws.{location-light}
use Rattle.mufom_image.proofs.PlannedLaws.{placed-there, graph-placed, nothing-unplaced, placed-acyclic, walk-met, valued-where-placed}
use Rattle.mufom_image.proofs.PlannedLaws.{walked-where-placed, located-where-placed}
use Rattle.mufom_image.proofs.locating.located.Goals as goal

pub returns-in_err-sections-clause-refused : goal.returns-in_err-sections-clause-refused
returns-in_err-sections-clause-refused c =
    let p = err_from_is_err_and c.from_residual.result c.from_residual.ensures.1 in
    rw (p.1, p.2) (unplaced-answered c.args.module.now c.args.plan.now c.in_err-sections.field-0.0 c.in_err-sections.ensures.refused)

pub placed_module-placed-requires : goal.placed_module-placed-requires
placed_module-placed-requires c =
    let count = placed-count _ _ _ _ c.in_ok-sections.ensures.placed in
    let same : c.as_slice.result.now ≡ c.in_ok-sections.field-0.bases = c.as_slice.ensures in
    omega (arith, count, ap length same)

pub check_module-requires-clause-graph : goal.check_module-requires-clause-graph
check_module-requires-clause-graph c =
    graph-placed _ _ _ _ c.placed_module-placed.ensures c.requires.names c.requires.met

pub returns-in_err-components-clause-refused : goal.returns-in_err-components-clause-refused
returns-in_err-components-clause-refused c =
    let there = placed-there _ _ _ _ _ c.in_ok-sections.ensures.placed c.as_slice.ensures in
    let none = nothing-unplaced _ _ _ _ c.placed_module-placed.ensures c.requires.names _ _ there in
    let p = err_from_is_err_and c.from_residual-in_err-components.result c.from_residual-in_err-components.ensures.1 in
    rw (p.1, p.2) (judged-answered c.args.module.now c.args.plan.now none c.in_err-components.field-0.0 c.in_err-components.ensures.refused)

pub public_values-requires : goal.public_values-requires
public_values-requires c =
    let there = placed-there _ _ _ _ _ c.in_ok-sections.ensures.placed c.as_slice.ensures in
    placed-acyclic _ _ _ _ c.placed_module-placed.ensures c.requires.names _ _ there c.in_ok-components.ensures.ok c.requires.met

pub walk_module-requires-clause-valued : goal.walk_module-requires-clause-valued
walk_module-requires-clause-valued c =
    let there = placed-there _ _ _ _ _ c.in_ok-sections.ensures.placed c.as_slice.ensures in
    valued-where-placed _ _ _ _ c.placed_module-placed.ensures c.requires.names _ _ there c.in_ok-components.ensures.ok c.requires.met
    (subst (AreValues c.placed_module-placed.result) (sym c.as_slice-2.ensures.value) c.in_ok-values.ensures)

pub walk_module-requires-clause-ready : goal.walk_module-requires-clause-ready
walk_module-requires-clause-ready c =
    let there = placed-there _ _ _ _ _ c.in_ok-sections.ensures.placed c.as_slice.ensures in
    walked-where-placed _ _ _ _ c.placed_module-placed.ensures c.requires.names _ _ there c.in_ok-components.ensures.ok
    (valued-where-placed _ _ _ _ c.placed_module-placed.ensures c.requires.names _ _ there c.in_ok-components.ensures.ok c.requires.met
    (subst (AreValues c.placed_module-placed.result) (sym c.as_slice-2.ensures.value) c.in_ok-values.ensures))

pub returns-in_err-runs-clause-refused : goal.returns-in_err-runs-clause-refused
returns-in_err-runs-clause-refused c =
    let there = placed-there _ _ _ _ _ c.in_ok-sections.ensures.placed c.as_slice.ensures in
    let p = err_from_is_err_and c.from_residual-in_err-runs.result c.from_residual-in_err-runs.ensures.1 in
    rw (p.1, p.2)
    (walk-met _ _ _ _ c.placed_module-placed.ensures c.requires.names _ _ there c.in_ok-components.ensures.ok c.in_err-runs.field-0.0
    c.in_err-runs.ensures.refused)

pub located_parts-requires : goal.located_parts-requires
located_parts-requires c =
    let there = placed-there _ _ _ _ _ c.in_ok-sections.ensures.placed c.as_slice.ensures in
    valued-where-placed _ _ _ _ c.placed_module-placed.ensures c.requires.names _ _ there c.in_ok-components.ensures.ok c.requires.met
    (subst (AreValues c.placed_module-placed.result) (sym c.as_slice-2.ensures.value) c.in_ok-values.ensures)

pub returns : goal.returns
returns c =
    let there = placed-there _ _ _ _ _ c.in_ok-sections.ensures.placed c.as_slice.ensures in
    let own : c.placed_sections-sections.result ≡ placed_sections c.as_slice.result.now c.in_ok-sections.field-0.sections
    = c.placed_sections-sections.ensures ∙ ap (λ bases. placed_sections bases c.in_ok-sections.field-0.sections) (c.as_slice-3.ensures
    ∙ sym c.as_slice.ensures) in
    let valid : IsValid c.args.module.now = subst IsValid c.placed_module-placed.ensures.parts c.placed_module-placed.ensures.valid in
    let is : IsLocation (c.args.module.now ∷ []) c.args.plan.now c.in_ok-located_parts.field-0
    = located-where-placed _ _ _ _ _ _ _ c.in_ok-located_parts.ensures c.placed_module-placed.ensures c.requires.names _ _ there own
    c.in_ok-components.ensures.ok c.in_ok-runs.ensures.passed c.in_ok-runs.ensures.runs in
    record {
      sound = record { source = c.args.module.now; plan = c.args.plan.now; valid = valid; is = is };
      located = is;
      light = location-light c.absolute_weighs.ensures c.args.module.now c.args.plan.now c.in_ok-located_parts.field-0 valid is;
      refused = tt {0};
    }
