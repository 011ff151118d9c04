use Rattle.std.proofs.Common.{List, ◌++◌, take, option_to_list, sym, ap, ◌∙◌, append_assoc, get_or}
use Rattle.std.specs.Prelude.{slice_get}
use Rattle.mufom_origins.specs.declared.origins.Origin.{Origin}
use Rattle.mufom_origins.specs.Places.{at_positions}
use Rattle.mufom_origins.proofs.ListLaws.{positions-more}
use Rattle.mufom_origins.proofs.origins.copy_chosen.Goals as goal

pub loop-position-preserved : goal.loop-position-preserved
loop-position-preserved c =
    let i = c.loop-position.position-index in
    let modules = c.args.modules.now in
    let chosen = c.args.chosen.now in
    let before = at_positions modules (take i chosen) in
    c.in_ok-push_copy.ensures
    ∙ ap (λ (one : List Origin). c.loop-position.copies.items ++ one) (ap option_to_list c.origin_at.ensures)
    ∙ ap (λ (all : List Origin). all ++ option_to_list (slice_get modules (get_or chosen i 0))) c.loop-position.invariant
    ∙ append_assoc c.args.copies.now.items before (option_to_list (slice_get modules (get_or chosen i 0)))
    ∙ ap (λ (all : List Origin). c.args.copies.now.items ++ all) (sym (positions-more modules chosen i 0 c.loop-position-test.true))
