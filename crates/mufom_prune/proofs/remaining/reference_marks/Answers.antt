use Rattle.std.proofs.Common.{ap, ◌∙◌, ◌++◌, ◌∷◌, [], ◌||◌, ◌&&◌, get_or, is_some, false, length}
use Rattle.mufom_names.specs.declared.name.Reference.{Reference}
use Rattle.mufom_names.specs.Index.{position_of}
use Rattle.mufom_plan.specs.Names.{has_name}
use Rattle.mufom_meaning.specs.Flat.{is_common}
use Rattle.mufom_prune.specs.Pruned.{remaining_names, with_commons}
use Rattle.mufom_prune.proofs.RemainLaws.{commons_end, commons_step, finds_remaining, length-commons}
use Rattle.mufom_prune.proofs.remaining.reference_marks.Goals as goal

pub loop-place-preserved : goal.loop-place-preserved
loop-place-preserved c =
    let marks = c.args.marks.now in
    let xs = c.args.references.now in
    let i = c.loop-place.place in
    let all = c.loop-place.all in
    let names = remaining_names marks xs in
    let mark = get_or marks i false in
    let r = c.index-references-place.result in
    let test =
    c.remains.ensures
    ∙ ap (λ es. mark || (is_common r && is_some (position_of es r.name))) c.in_ok-names.ensures
    ∙ ap (λ b. mark || (is_common r && b)) (finds_remaining marks xs r.name)
    ∙ ap (λ (r : Reference). mark || (is_common r && has_name names r.name)) c.index-references-place.is in
    commons_step names marks xs i r all c.push.new.self (with_commons names marks xs) c.loop-place-test.true c.requires
    (c.in_ok-push.ensures.ok ∙ ap (λ b. all ++ b ∷ []) test) c.loop-place.invariant

pub returns-clause-sized : goal.returns-clause-sized
returns-clause-sized c =
    let marks = c.args.marks.now in
    let xs = c.args.references.now in
    let names = remaining_names marks xs in
    ap length (commons_end names marks xs c.loop-place.place c.loop-place.all (with_commons names marks xs) c.loop-place-test.false c.loop-place.invariant)
    ∙ length-commons names marks xs c.requires
