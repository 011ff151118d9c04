use Rattle.std.proofs.Common.{◌∙◌, ap, is_some}
use Rattle.mufom_names.specs.Index.{position_of}
use Rattle.mufom_explain.specs.Flat.{wanted_names}
use Rattle.mufom_explain.proofs.NamingLaws.{found-is}
use Rattle.mufom_explain.proofs.mention_lines.is_wanted.Goals as goal

pub returns : goal.returns
returns c =
    c.is_some.ensures ∙ ap is_some (c.find.ensures.value ∙ ap (λ es. position_of es c.args.name.now) c.args.wanted.now.indexed)
    ∙ found-is (wanted_names c.args.wanted.now) c.args.name.now
