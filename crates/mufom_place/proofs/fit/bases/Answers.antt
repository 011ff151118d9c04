use Rattle.std.proofs.Common.{◌≡◌, ◌<◌, ◌+◌, ◌^◌, ◌∷◌, ◌++◌, [], drop, length, map, None, sym, ap, ◌∙◌, append_assoc, arith}
use Rattle.std.proofs.lemmas.List.{append-nil, get_or_default}
use Rattle.std.proofs.lemmas.Result.{err_from_is_err_and}
use Rattle.mufom_place.specs.declared.placing.AssignedBase.{AssignedBase}
use Rattle.mufom_place.specs.Bases.{Numbered, numbered, site_by, site_with}
use Rattle.mufom_place.specs.Facts.{first_some, misfit_by, misfit_with}
use Rattle.mufom_place.proofs.Steps.{drop-numbered, drop-numbered-all, first_some-next, first_some-found}
use Rattle.mufom_place.proofs.fit.bases.Goals as goal

pub returns-in_err-fitting_base-clause-misfit : goal.returns-in_err-fitting_base-clause-misfit
returns-in_err-fitting_base-clause-misfit c =
    let given = c.args.placings.now in
    let sections = c.args.sections.now in
    let regions = c.args.regions.now in
    let modulus = 2 ^ c.args.width in
    let place = c.loop-place.place in
    let section = c.index-sections-place.result in
    let count = c.in_ok-planned.ensures.count in let long = c.in_ok-planned.planned.ok.0 in let inside = c.loop-place-test.true in
    let within : place < length c.in_ok-planned.planned.items = omega (arith, count, long, inside) in
    let at : c.site-site.result ≡ site_by given (place, section) = c.site-site.ensures
    ∙ ap (site_with section.base) (c.index.ensures ∙ get_or_default c.in_ok-planned.planned.items place c.index.result.now None within
    ∙ c.in_ok-planned.ensures.value place c.loop-place-test.true) in
    let some : misfit_by modulus regions given (place, section) ≡ misfit_with modulus regions place section.size c.site-site.result =
    λ i. misfit_with modulus regions place section.size (sym at i) in
    let p = err_from_is_err_and c.from_residual-in_err-fitting_base.result c.from_residual-in_err-fitting_base.ensures.1 in
    rw (p.1, p.2) (λ _. c.loop-place.invariant.fit
    ∙ ap (first_some (misfit_by modulus regions given)) (drop-numbered sections place section c.loop-place-test.true c.index-sections-place.is)
    ∙ first_some-found (misfit_by modulus regions given) (place, section) (drop (place + 1) (numbered sections)) c.in_err-fitting_base.field-0.0 (some
    ∙ c.in_err-fitting_base.ensures.misfit))

pub loop-place-preserved : goal.loop-place-preserved
loop-place-preserved c =
    let given = c.args.placings.now in
    let sections = c.args.sections.now in
    let regions = c.args.regions.now in
    let modulus = 2 ^ c.args.width in
    let place = c.loop-place.place in
    let section = c.index-sections-place.result in
    let more = drop (place + 1) (numbered sections) in
    let base_at = λ (s : Numbered). (site_by given s).base in
    let next = drop-numbered sections place section c.loop-place-test.true c.index-sections-place.is in
    let count = c.in_ok-planned.ensures.count in let long = c.in_ok-planned.planned.ok.0 in let inside = c.loop-place-test.true in
    let within : place < length c.in_ok-planned.planned.items = omega (arith, count, long, inside) in
    let at : c.site-site.result ≡ site_by given (place, section) = c.site-site.ensures
    ∙ ap (site_with section.base) (c.index.ensures ∙ get_or_default c.in_ok-planned.planned.items place c.index.result.now None within
    ∙ c.in_ok-planned.ensures.value place c.loop-place-test.true) in
    let none : misfit_by modulus regions given (place, section) ≡ misfit_with modulus regions place section.size c.site-site.result =
    λ i. misfit_with modulus regions place section.size (sym at i) in
    let base = ap (λ (s : AssignedBase). s.base) (sym at) ∙ sym c.in_ok-fitting_base.ensures.base in
    record {
      based = c.loop-place.invariant.based
          ∙ ap (λ rest. c.loop-place.bases ++ map base_at rest) next
          ∙ ap (λ b. c.loop-place.bases ++ (b ∷ map base_at more)) base
          ∙ sym (append_assoc c.loop-place.bases (c.in_ok-fitting_base.field-0 ∷ []) (map base_at more))
          ∙ ap (λ all. all ++ map base_at more) (sym c.in_ok-push.ensures.ok);
      fit = c.loop-place.invariant.fit ∙ ap (first_some (misfit_by modulus regions given)) next
          ∙ first_some-next (misfit_by modulus regions given) (place, section) more (none ∙ c.in_ok-fitting_base.ensures.fits);
    }

pub returns-clause-bases : goal.returns-clause-bases
returns-clause-bases c =
    let all = drop-numbered-all c.args.sections.now c.loop-place.place c.loop-place-test.false in
    sym (c.loop-place.invariant.based ∙ ap (λ rest. c.loop-place.bases ++ map (λ s. (site_by c.args.placings.now s).base) rest) all
    ∙ append-nil c.loop-place.bases)

pub returns-clause-fit : goal.returns-clause-fit
returns-clause-fit c =
    let all = drop-numbered-all c.args.sections.now c.loop-place.place c.loop-place-test.false in
    c.loop-place.invariant.fit ∙ ap (first_some (misfit_by (2 ^ c.args.width) c.args.regions.now c.args.placings.now)) all
