use Rattle.std.proofs.Common.{ap, sym, subst, ◌∙◌, length}
use Rattle.mufom_prune.specs.Kept.{needs, roots}
use Rattle.mufom_prune.specs.Underway.{AllBelow, AreBelow}
use Rattle.mufom_prune.proofs.NeedLaws.{length-needs, needs-inside, roots-inside}
use Rattle.mufom_prune.proofs.pruning.kept.Goals as goal

pub reach-requires-clause-inside : goal.reach-requires-clause-inside
reach-requires-clause-inside c =
    let m = c.args.parts.now in
    let its = c.deref.ensures.value ∙ c.in_ok-needs.ensures in
    subst (λ all. AllBelow (length all) all) (sym its) (subst (λ k. AllBelow k (needs m)) (sym (length-needs m)) (needs-inside m))

pub reach-requires-clause-rooted : goal.reach-requires-clause-rooted
reach-requires-clause-rooted c =
    let m = c.args.parts.now in
    let its = c.deref.ensures.value ∙ c.in_ok-needs.ensures in
    let theirs = c.as_slice.ensures ∙ c.in_ok-roots.ensures in
    subst (AreBelow (length c.deref.result.now)) (sym theirs)
    (subst (λ k. AreBelow k (roots m c.args.names.now c.args.stays.now)) (sym (ap length its ∙ length-needs m)) (roots-inside m c.args.names.now c.args.stays.now))
