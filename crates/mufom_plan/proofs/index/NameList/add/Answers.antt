use Rattle.std.proofs.Common.{◌∙◌, ap, not}
use Rattle.mufom_plan.specs.Names.{has_name}
use Rattle.mufom_plan.proofs.IndexLemmas.{seen, list_any-seen}
use Rattle.mufom_plan.proofs.index.NameList.add.Goals as goal

pub returns-clause-added : goal.returns-clause-added
returns-clause-added c =
    c.in_ok-added.ensures.added
    ∙ ap not (list_any-seen c.in_ok-copy.copy.items c.self.inside.names.keys
    ∙ ap (has_name (seen c.self.inside.names.keys)) c.in_ok-copy.ensures.items
    ∙ ap (λ names. has_name names c.args.name.now) c.self.view_is)
