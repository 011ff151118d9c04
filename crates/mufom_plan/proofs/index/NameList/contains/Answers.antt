use Rattle.std.proofs.Common.{◌∙◌, ap}
use Rattle.mufom_plan.specs.Names.{has_name}
use Rattle.mufom_plan.proofs.IndexLemmas.{list_any-seen}
use Rattle.mufom_plan.proofs.index.NameList.contains.Goals as goal

pub returns : goal.returns
returns c =
    c.contains.ensures ∙ list_any-seen c.args.name.now c.self.inside.names.keys ∙ ap (λ names. has_name names c.args.name.now) c.self.view_is
