use Rattle.std.proofs.Common.{ap, ◌∙◌, sym}
use Rattle.std.proofs.lemmas.Slice.Eq.{slice_eq-Decides}
use Rattle.mufom_expr.specs.Terms.{the_term}
use Rattle.mufom_expr.specs.Tree.{tokens_of}
use Rattle.mufom_expr.proofs.Same.{same_token}
use Rattle.mufom_expr.proofs.TermsLemmas.{tokens_of-the_term}
use Rattle.mufom_expr.proofs.postfix.Postfix.equals.Goals as goal

pub returns : goal.returns
returns c =
    let decides = slice_eq-Decides same_token c.as_slice.result.now c.as_slice-2.result.now c.eq.result c.eq.ensures in
    let left = c.as_slice.ensures in
    let right = c.as_slice-2.ensures in (
      λ e. sym c.self.view_is ∙ ap the_term (sym left ∙ decides.0 e ∙ right) ∙ c.other.view_is,
      λ e. decides.1 (left ∙ tokens_of-the_term _ c.self.invariant.0 ∙ ap tokens_of (c.self.view_is ∙ e ∙ sym c.other.view_is)
          ∙ sym (tokens_of-the_term _ c.other.invariant.0) ∙ sym right),
    )
