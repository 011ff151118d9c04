use Rattle.std.proofs.Common.{sym, subst}
use Rattle.mufom_locating.specs.Linked.{IsLinkWith}
use Rattle.mufom_locating.specs.Numbered.{AreValues}
use Rattle.mufom_locating.proofs.exports.linked.Goals as goal

pub returns-in-Ok : goal.returns-in-Ok
returns-in-Ok c = λ numbers are.
    let m = c.args.module.now in
    subst (λ symbols. IsLinkWith m numbers symbols c.in-Ok.link) c.as_slice.ensures
    (c.in-Ok.ensures.joined numbers (subst (λ symbols. AreValues m.maus numbers symbols c.args.values.now) (sym c.as_slice.ensures) are))
