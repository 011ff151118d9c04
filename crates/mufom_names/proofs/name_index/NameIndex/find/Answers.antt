use Rattle.std.proofs.Common.{◌∙◌, ap, sym, subst}
use Rattle.mufom_names.specs.Index.{position_of, HaveDistinctKeys}
use Rattle.mufom_names.proofs.IndexLemmas.{borrowed, absent, distinct-seen, found-at, position-place}
use Rattle.mufom_names.proofs.name_index.NameIndex.find.Goals as goal

pub returns-in_err-slot-clause-value : goal.returns-in_err-slot-clause-value
returns-in_err-slot-clause-value c =
    c.from_residual.ensures
    ∙ sym (absent borrowed c.args.name.now c.self.inside.names.keys c.self.inside.positions.items (sym c.in_err-slot.ensures.found))
    ∙ ap (λ entries. position_of entries c.args.name.now) c.self.view_is

pub returns-in_err-slot-clause-distinct : goal.returns-in_err-slot-clause-distinct
returns-in_err-slot-clause-distinct c =
    subst HaveDistinctKeys c.self.view_is (distinct-seen borrowed c.self.inside.names.keys c.self.inside.positions.items c.self.invariant.1)

pub returns-clause-value : goal.returns-clause-value
returns-clause-value c =
    found-at borrowed c.args.name.now c.self.inside.names.keys c.self.inside.positions.items c.in_ok-slot.slot c.index.result.now c.self.invariant.0
    (sym c.in_ok-slot.ensures.found) (position-place borrowed c.args.name.now c.self.inside.names.keys c.in_ok-slot.slot c.in_ok-slot.ensures.index)
    c.in_ok-slot.ensures.within c.index.ensures
    ∙ ap (λ entries. position_of entries c.args.name.now) c.self.view_is

pub returns-clause-distinct : goal.returns-clause-distinct
returns-clause-distinct c =
    subst HaveDistinctKeys c.self.view_is (distinct-seen borrowed c.self.inside.names.keys c.self.inside.positions.items c.self.invariant.1)
