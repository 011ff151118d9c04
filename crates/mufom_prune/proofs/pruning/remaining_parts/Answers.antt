use Rattle.std.proofs.Common.{ap, ◌∙◌, take, drop}
use Rattle.mufom_prune.specs.Pruned.{marks_of_all, remaining_names, with_commons, without_others}
use Rattle.mufom_prune.proofs.pruning.remaining_parts.Goals as goal

pub returns : goal.returns
returns c =
    let m = c.args.parts.now in
    let marks = c.args.marks.now in
    let sections = c.split_at.ensures.front ∙ ap (λ n. take n marks) c.len.ensures in
    let others = c.split_at.ensures.back ∙ ap (λ n. drop n marks) c.len.ensures in
    let publics = c.split_at-2.ensures.front ∙ (λ i. take (c.len-2.ensures i) (others i)) in
    let mentioned = c.split_at-2.ensures.back ∙ (λ i. drop (c.len-2.ensures i) (others i)) in
    let own = c.as_slice.ensures in
    let references = c.as_slice-3.ensures ∙ c.in_ok-references.ensures.marks
    ∙ (λ i. with_commons (remaining_names (mentioned i) (own i)) (mentioned i) (own i)) in
    c.in_ok-fill.ensures ∙ (λ i. without_others m (marks_of_all (sections i) (publics i) (references i)))
