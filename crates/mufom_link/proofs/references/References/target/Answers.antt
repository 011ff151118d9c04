use Rattle.std.proofs.Common.{◌∙◌, ap, sym}
use Rattle.mufom_expr.specs.declared.token.Letter.TheVariants as letters
use Rattle.mufom_names.specs.Index.{position_of, keys_of}
use Rattle.mufom_meaning.specs.Joined.{position_of as place_of, same_reference}
use Rattle.mufom_link.specs.References.{merged_with}
use Rattle.mufom_link.proofs.ReferenceLaws.{target-met, target-unresolved}
use Rattle.mufom_link.proofs.references.References.target.Goals as goal

pub returns-in-Some-clause-target : goal.returns-in-Some-clause-target
returns-in-Some-clause-target c =
    let r = c.args.reference.now in
    let same = c.in-Some.ensures.value ∙ (λ i. position_of (c.requires.publics i) (c.as_slice.ensures i)) in
    (target-met (keys_of c.args.publics.now) c.args.self.now.kept r c.in-Some.position (sym same)).0

pub returns-in-Some-clause-kept : goal.returns-in-Some-clause-kept
returns-in-Some-clause-kept c =
    let r = c.args.reference.now in
    let same = c.in-Some.ensures.value ∙ (λ i. position_of (c.requires.publics i) (c.as_slice.ensures i)) in
    (target-met (keys_of c.args.publics.now) c.args.self.now.kept r c.in-Some.position (sym same)).1

pub returns-in_ok-merge-in-None-clause-target : goal.returns-in_ok-merge-in-None-clause-target
returns-in_ok-merge-in-None-clause-target c =
    let r = c.args.reference.now in
    let same = c.in-None.ensures.value ∙ (λ i. position_of (c.requires.publics i) (c.as_slice.ensures i)) in
    ap (λ k. (letters.X, k)) c.in_ok-merge-in-None.ensures.position
    ∙ ap (λ kept. (letters.X, place_of (same_reference r) kept)) c.begin.ensures.kept
    ∙ (target-unresolved (keys_of c.args.publics.now) c.args.self.now.kept r (sym same)).0

pub returns-in_ok-merge-in-None-clause-kept : goal.returns-in_ok-merge-in-None-clause-kept
returns-in_ok-merge-in-None-clause-kept c =
    let r = c.args.reference.now in
    let same = c.in-None.ensures.value ∙ (λ i. position_of (c.requires.publics i) (c.as_slice.ensures i)) in
    c.in_ok-merge-in-None.ensures.kept
    ∙ ap (λ kept. merged_with kept r) c.begin.ensures.kept
    ∙ (target-unresolved (keys_of c.args.publics.now) c.args.self.now.kept r (sym same)).1
