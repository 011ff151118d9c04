use Rattle.std.proofs.Common.{ap, sym, ◌∙◌, take, []}
use Rattle.mufom_module.specs.declared.module.Parts.{Parts}
use Rattle.mufom_select.specs.Choice.{with_publics, with_providers}
use Rattle.mufom_select.proofs.IndexLaws.{with_providers-more}
use Rattle.mufom_select.proofs.providers.providers.Goals as goal

pub loop-position-preserved : goal.loop-position-preserved
loop-position-preserved c =
    let before = with_providers [] 0 (take c.loop-position.position c.args.members.now) in
    c.in_ok-add_publics.ensures
    ∙ ap (with_publics c.loop-position.index c.loop-position.position) (c.as_slice-publics.ensures ∙ ap (λ (m : Parts). m.names.publics) c.parts.ensures.same)
    ∙ ap (λ entries. with_publics entries c.loop-position.position c.index-members-position.result.names.publics) c.loop-position.invariant
    ∙ ap (λ (m : Parts). with_publics before c.loop-position.position m.names.publics) c.index-members-position.is
    ∙ sym (with_providers-more c.args.members.now c.loop-position.position c.index-members-position.result c.loop-position-test.true)
