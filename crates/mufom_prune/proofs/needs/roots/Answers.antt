use Rattle.std.proofs.Common.{ap, ◌∙◌, ◌++◌, flat_map, option_to_list, List, ℕ}
use Rattle.mufom_names.specs.Index.{position_of}
use Rattle.mufom_prune.specs.Kept.{all_mentions, staying_from}
use Rattle.mufom_prune.proofs.NeedLaws.{roots-found}
use Rattle.mufom_prune.proofs.needs.roots.Goals as goal

pub returns : goal.returns
returns c =
    let m = c.args.parts.now in
    let names = c.args.names.now in
    c.in_ok-add_start.ensures
    ∙ ap (λ (all : List ℕ). all ++ all_mentions m (option_to_list m.start)) (c.in_ok-add_named.ensures
    ∙ (λ i. (c.in_ok-all.ensures ∙ ap (staying_from c.in_ok-index.index 0) c.as_slice.ensures) i
    ++ flat_map (λ name. option_to_list (position_of (c.requires.index i) name)) names))
    ∙ roots-found m c.in_ok-index.index c.args.stays.now names c.in_ok-index.ensures
