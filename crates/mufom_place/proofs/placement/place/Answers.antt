use Rattle.std.proofs.Common.{◌≡◌, ◌^◌, None, Some, length, map, refl, rules, sym, ap, ◌∙◌}
use Rattle.std.proofs.lemmas.List.{length-map}
use Rattle.std.proofs.lemmas.List.FromFn.{length-enumerate_from}
use Rattle.std.proofs.lemmas.Result.{err_from_is_err_and}
use Rattle.mufom_plan.specs.Names.{listed_names}
use Rattle.mufom_place.specs.Bases.{numbered, placings as placings_of, site_by}
use Rattle.mufom_place.specs.Facts.{◌or_else◌, extents, first_overlap, first_some, in_order, last_sections, misfit_by, sections_before, unplaced_at}
use Rattle.mufom_place.proofs.PackingLemmas.{place_refusal-by, sections_rejoined}
use Rattle.mufom_place.proofs.placement.place.Goals as goal

pub returns-in_err-bases-clause-refused : goal.returns-in_err-bases-clause-refused
returns-in_err-bases-clause-refused c =
    let sections = c.args.sections.now in
    let plan = c.args.plan.now in
    let before = sections_before c.args.commons sections in
    let last = last_sections c.args.commons sections in
    let given = c.as_slice-2.result.now in
    let is : given ≡ placings_of plan before last = c.as_slice-2.ensures ∙ c.in_ok-placings.ensures.given
    ∙ (λ i. placings_of plan (c.split_at.ensures.front i) (c.split_at.ensures.back i)) in
    let unplaced = ap (λ ss. first_some (unplaced_at (listed_names plan.regions)) (numbered ss)) (sym c.split_at.ensures.front)
    ∙ c.in_ok-placings.ensures.placed in
    let placed = map (λ s. (site_by given s).base) (numbered sections) in
    let rest = first_overlap (in_order (extents (numbered sections) placed)) in
    let p = err_from_is_err_and c.from_residual-in_err-bases.result c.from_residual-in_err-bases.ensures.1 in
    rw (p.1, p.2) (λ memory. place_refusal-by c.args.width plan before last sections given placed (sections_rejoined c.args.commons sections) is refl unplaced
    ∙ (λ i. ap (λ regions. first_some (misfit_by (2 ^ c.args.width) regions given) (numbered sections)) (sym c.as_slice.ensures) i or_else rest)
    ∙ ap (λ m. m or_else rest) (c.in_err-bases.ensures.misfit memory))

pub overlap-requires-clause-same : goal.overlap-requires-clause-same
overlap-requires-clause-same c =
    let sections = c.args.sections.now in
    let given = c.as_slice-2.result.now in
    ap length (c.as_slice-3.ensures ∙ c.in_ok-bases.ensures.bases) ∙ length-map (numbered sections) (λ s. (site_by given s).base)
    ∙ length-enumerate_from 0 sections

pub returns-in-Some-clause-refused : goal.returns-in-Some-clause-refused
returns-in-Some-clause-refused c =
    let sections = c.args.sections.now in
    let plan = c.args.plan.now in
    let before = sections_before c.args.commons sections in
    let last = last_sections c.args.commons sections in
    let given = c.as_slice-2.result.now in
    let is : given ≡ placings_of plan before last = c.as_slice-2.ensures ∙ c.in_ok-placings.ensures.given
    ∙ (λ i. placings_of plan (c.split_at.ensures.front i) (c.split_at.ensures.back i)) in
    let unplaced = ap (λ ss. first_some (unplaced_at (listed_names plan.regions)) (numbered ss)) (sym c.split_at.ensures.front)
    ∙ c.in_ok-placings.ensures.placed in
    let based = c.as_slice-3.ensures ∙ c.in_ok-bases.ensures.bases in
    let rest = first_overlap (in_order (extents (numbered sections) c.as_slice-3.result.now)) in
    let found : rest ≡ Some c.in-Some.refusal = search rules in
    λ _. place_refusal-by c.args.width plan before last sections given c.as_slice-3.result.now (sections_rejoined c.args.commons sections) is based unplaced
    ∙ ap (λ m. m or_else rest) (ap (λ regions. first_some (misfit_by (2 ^ c.args.width) regions given) (numbered sections)) (sym c.as_slice.ensures)
    ∙ c.in_ok-bases.ensures.fit)
    ∙ found

pub returns-clause-bases : goal.returns-clause-bases
returns-clause-bases c =
    let sections = c.args.sections.now in
    let plan = c.args.plan.now in
    let before = sections_before c.args.commons sections in
    let last = last_sections c.args.commons sections in
    let given = c.as_slice-2.result.now in
    let is : given ≡ placings_of plan before last = c.as_slice-2.ensures ∙ c.in_ok-placings.ensures.given
    ∙ (λ i. placings_of plan (c.split_at.ensures.front i) (c.split_at.ensures.back i)) in
    c.in_ok-bases.ensures.bases ∙ (λ i. map (λ s. (site_by (is i) s).base) (numbered (sym (sections_rejoined c.args.commons sections) i)))

pub returns-clause-placed : goal.returns-clause-placed
returns-clause-placed c =
    let sections = c.args.sections.now in
    let plan = c.args.plan.now in
    let before = sections_before c.args.commons sections in
    let last = last_sections c.args.commons sections in
    let given = c.as_slice-2.result.now in
    let is : given ≡ placings_of plan before last = c.as_slice-2.ensures ∙ c.in_ok-placings.ensures.given
    ∙ (λ i. placings_of plan (c.split_at.ensures.front i) (c.split_at.ensures.back i)) in
    let unplaced = ap (λ ss. first_some (unplaced_at (listed_names plan.regions)) (numbered ss)) (sym c.split_at.ensures.front)
    ∙ c.in_ok-placings.ensures.placed in
    let based = c.as_slice-3.ensures ∙ c.in_ok-bases.ensures.bases in
    let rest = first_overlap (in_order (extents (numbered sections) c.as_slice-3.result.now)) in
    let found : rest ≡ None = search rules in
    place_refusal-by c.args.width plan before last sections given c.as_slice-3.result.now (sections_rejoined c.args.commons sections) is based unplaced
    ∙ ap (λ m. m or_else rest) (ap (λ regions. first_some (misfit_by (2 ^ c.args.width) regions given) (numbered sections)) (sym c.as_slice.ensures)
    ∙ c.in_ok-bases.ensures.fit)
    ∙ found
