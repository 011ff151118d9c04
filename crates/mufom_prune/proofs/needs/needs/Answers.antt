use Rattle.std.proofs.Common.{ap, ◌∙◌, ◌++◌, append_assoc, map, List, ℕ, option_to_list, replicate, []}
use Rattle.mufom_names.specs.declared.name.Public.{Public}
use Rattle.mufom_names.specs.declared.name.Reference.{Reference}
use Rattle.mufom_module.specs.Contents.{placed_loads}
use Rattle.mufom_prune.specs.Kept.{mentions, named, section_needs}
use Rattle.mufom_prune.specs.Steps.{with_loads, reference_needs}
use Rattle.mufom_prune.proofs.NeedLaws.{loads_are_needs, all_reference_needs}
use Rattle.mufom_prune.proofs.needs.needs.Goals as goal

pub returns : goal.returns
returns c =
    let m = c.args.parts.now in
    let first = section_needs m (placed_loads m) 0 m.sections in
    let second = map (λ (p : Public). mentions m p.value) m.names.publics in
    let third = map (λ (r : Reference). option_to_list (named m r.name)) m.names.references in
    let loaded = c.in_ok-add_loads.ensures ∙ ap (λ es. with_loads m es (placed_loads m)) c.in_ok-needs.ensures
    ∙ ap (λ (n : ℕ). with_loads m (replicate n []) (placed_loads m)) c.len-count.ensures ∙ loads_are_needs m (placed_loads m) m.sections in
    let others = (λ i. map (reference_needs (c.requires.index i)) (c.as_slice-references.ensures i)) ∙ all_reference_needs m m.names.references in
    c.in_ok-add_references.ensures
    ∙ ap (λ (es : List (List ℕ)). es ++ map (reference_needs c.args.publics.now) c.as_slice-references.result.now) (c.in_ok-add_publics.ensures
    ∙ ap (λ (es : List (List ℕ)). es ++ second) loaded)
    ∙ ap (λ (es : List (List ℕ)). (first ++ second) ++ es) others
    ∙ append_assoc first second third
