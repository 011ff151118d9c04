use Rattle.std.proofs.Common.{◌∙◌, ap}
use Rattle.std.specs.Prelude.{position}
use Rattle.std.specs.Str.{bytes_eq}
use Rattle.mufom_plan.proofs.IndexLemmas.{position-seen}
use Rattle.mufom_plan.proofs.index.NameList.position.Goals as goal

pub returns : goal.returns
returns c = c.get_index_of.ensures.index ∙ position-seen c.args.name.now c.self.inside.names.keys ∙ ap (position (bytes_eq c.args.name.now)) c.self.view_is
