use Rattle.mufom_build.proofs.Shapes.{build_has_shape}
use Rattle.mufom_build.proofs.laws.built_texts_have_the_shape.Goals as goal

pub returns : goal.returns
returns c = build_has_shape
