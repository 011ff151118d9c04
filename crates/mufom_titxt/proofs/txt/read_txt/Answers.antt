use Rattle.std.proofs.Common.{◌∙◌, ◌*◌, [], Some, sym, ap, subst}
use Rattle.mufom_meaning.specs.Facts.{loaded_twice}
use Rattle.mufom_meaning.specs.Walk.{first_twice}
use Rattle.mufom_image_bytes.specs.Chunks.{cell_addresses}
use Rattle.mufom_image_bytes.specs.Loaded.{loaded_cells}
use Rattle.mufom_titxt.specs.declared.txt.RunsStop.{RunsStop}
use Rattle.mufom_titxt.specs.Twice.{IsTwice}
use Rattle.mufom_titxt.proofs.ReadLaws.{have-module}
use Rattle.mufom_titxt.proofs.TxtLaws.{read_is_low, refused_by_stop, refused_by_twice, accepted_text, refused_same}
use Rattle.mufom_titxt.proofs.txt.read_txt.Goals as goal

pub joined_runs-requires-clause-low : goal.joined_runs-requires-clause-low
joined_runs-requires-clause-low c =
    read_is_low c.args.text.now (8 * c.args.maus) c.modulus_of-modulus.result c.modulus_of-modulus.ensures.value (loaded_cells c.in_ok-loaded.loaded)
    c.in_ok-loaded.ensures.cells c.modulus_of-modulus.ensures.most

pub returns-in-None-clause-runs : goal.returns-in-None-clause-runs
returns-in-None-clause-runs c =
    accepted_text c.args.text.now (8 * c.args.maus) c.modulus_of-modulus.result c.modulus_of-modulus.ensures.value (loaded_cells c.in_ok-loaded.loaded)
    c.in_ok-loaded.ensures.cells c.in-Ok.runs c.in-Ok.ensures.once (sym c.in-None.is ∙ c.in_ok-loaded.ensures.stop) c.in-Ok.ensures.runs

pub returns-in-None-clause-modules : goal.returns-in-None-clause-modules
returns-in-None-clause-modules c =
    let is = accepted_text c.args.text.now (8 * c.args.maus) c.modulus_of-modulus.result c.modulus_of-modulus.ensures.value
    (loaded_cells c.in_ok-loaded.loaded) c.in_ok-loaded.ensures.cells c.in-Ok.runs c.in-Ok.ensures.once
    (sym c.in-None.is ∙ c.in_ok-loaded.ensures.stop) c.in-Ok.ensures.runs in
    have-module c.args.text.now (8 * c.args.maus) c.in-Ok.runs is c.requires.short

pub returns-in-Some-clause-refused : goal.returns-in-Some-clause-refused
returns-in-Some-clause-refused c refusal e =
    refused_by_stop c.args.text.now (8 * c.args.maus) c.modulus_of-modulus.result c.modulus_of-modulus.ensures.value (loaded_cells c.in_ok-loaded.loaded)
    c.in_ok-loaded.ensures.cells c.in-Ok.ensures.once
    ∙ (sym c.in_ok-loaded.ensures.stop ∙ (c.in-Some.is ∙ ap (λ r. Some r) (refused_same c.in-Some.refusal refusal e)))

pub returns-in_ok-refusal-in-Err-Twice-clause-refused : goal.returns-in_ok-refusal-in-Err-Twice-clause-refused
returns-in_ok-refusal-in-Err-Twice-clause-refused c refusal e =
    let P : RunsStop → Type 0 = λ stop. IsTwice (first_twice [] (cell_addresses (loaded_cells c.in_ok-loaded.loaded))) stop in
    let twice = subst P c.in-Err-Twice.field-0-is c.in-Err-Twice.ensures.twice ∙ ap (λ a. Some (loaded_twice a)) (sym c.in-Err-Twice.address-is) in
    let found = refused_by_twice c.args.text.now (8 * c.args.maus) c.modulus_of-modulus.result c.modulus_of-modulus.ensures.value
    (loaded_cells c.in_ok-loaded.loaded)
    c.in_ok-loaded.ensures.cells _ twice in
    found ∙ ap (λ r. Some r) (sym c.in_ok-refusal-in-Err-Twice.ensures ∙ refused_same c.in_ok-refusal-in-Err-Twice.refusal refusal e)
