use Rattle.std.proofs.Common.{length, drop, sym, ◌∙◌}
use Rattle.std.proofs.lemmas.Bool.Decides.{Decides-eqb}
use Rattle.std.proofs.lemmas.Slice.Eq.{starts_is}
use Rattle.mufom_build_text.proofs.cursor.Cursor.is_next.Goals as goal

pub returns : goal.returns
returns c =
    let (front, all) = starts_is Decides-eqb c.rest.result.now c.args.bytes.now c.starts_with.result c.starts_with.ensures.value in
    (λ yes. (drop (length c.args.bytes.now) c.rest.result.now, sym c.rest.ensures ∙ front yes), λ is. all is.0 (c.rest.ensures ∙ is.1))
