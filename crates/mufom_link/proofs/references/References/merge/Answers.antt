use Rattle.std.proofs.Common.{◌≡◌, ◌++◌, ◌∷◌, [], ◌∙◌, Some, None, ap, sym}
use Rattle.mufom_names.specs.declared.name.Reference.{Reference}
use Rattle.mufom_names.specs.Index.{position_of, with_entry}
use Rattle.mufom_names.specs.Keys.{reference_key}
use Rattle.mufom_link.specs.References.{keyed}
use Rattle.mufom_link.proofs.ReferenceLaws.{merge-found, merge-new}
use Rattle.mufom_link.proofs.references.References.merge.Goals as goal

pub returns-in-Some-clause-position : goal.returns-in-Some-clause-position
returns-in-Some-clause-position c =
    let r = c.args.reference.now in
    let kept = c.args.self.now.kept in
    let key = c.in_ok-key.ensures in
    let same = c.in_ok-position.ensures.answer ∙ (λ i. position_of (c.requires.keyed i) (key i)) in
    let found : position_of (keyed kept) (reference_key r) ≡ Some c.in-Some.position = sym same ∙ c.in-Some.is in
    (merge-found r kept c.requires.short c.requires.kept_short c.in-Some.position 0 found).0

pub returns-in-Some-clause-kept : goal.returns-in-Some-clause-kept
returns-in-Some-clause-kept c =
    let r = c.args.reference.now in
    let kept = c.args.self.now.kept in
    let key = c.in_ok-key.ensures in
    let same = c.in_ok-position.ensures.answer ∙ (λ i. position_of (c.requires.keyed i) (key i)) in
    let found : position_of (keyed kept) (reference_key r) ≡ Some c.in-Some.position = sym same ∙ c.in-Some.is in
    sym (merge-found r kept c.requires.short c.requires.kept_short c.in-Some.position 0 found).1

pub returns-clause-position : goal.returns-clause-position
returns-clause-position c =
    let r = c.args.reference.now in
    let kept = c.args.self.now.kept in
    let key = c.in_ok-key.ensures in
    let same = c.in_ok-position.ensures.answer ∙ (λ i. position_of (c.requires.keyed i) (key i)) in
    let absent : position_of (keyed kept) (reference_key r) ≡ None = sym same ∙ c.in_default.is in
    c.len-next.ensures ∙ (merge-new r kept c.requires.short c.requires.kept_short absent).0

pub returns-clause-kept : goal.returns-clause-kept
returns-clause-kept c =
    let r = c.args.reference.now in
    let kept = c.args.self.now.kept in
    let key = c.in_ok-key.ensures in
    let same = c.in_ok-position.ensures.answer ∙ (λ i. position_of (c.requires.keyed i) (key i)) in
    let absent : position_of (keyed kept) (reference_key r) ≡ None = sym same ∙ c.in_default.is in
    c.in_ok-push.ensures.ok ∙ ap (λ (q : Reference). kept ++ q ∷ []) c.in_ok-copy_reference.ensures
    ∙ sym (merge-new r kept c.requires.short c.requires.kept_short absent).1

pub returns-clause-keys : goal.returns-clause-keys
returns-clause-keys c =
    let r = c.args.reference.now in
    let kept = c.args.self.now.kept in
    let key = c.in_ok-key.ensures in
    let same = c.in_ok-position.ensures.answer ∙ (λ i. position_of (c.requires.keyed i) (key i)) in
    let absent : position_of (keyed kept) (reference_key r) ≡ None = sym same ∙ c.in_default.is in
    c.in_ok-position.ensures.after
    ∙ (λ i. with_entry (c.requires.keyed i) (key i) (c.len-next.ensures i))
    ∙ (merge-new r kept c.requires.short c.requires.kept_short absent).2
    ∙ sym (ap keyed (c.in_ok-push.ensures.ok ∙ ap (λ (q : Reference). kept ++ q ∷ []) c.in_ok-copy_reference.ensures))
