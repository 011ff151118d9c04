use Rattle.mufom_make.proofs.LinkLaws.{all-found, staged-linkable}
use Rattle.mufom_make.proofs.linking.linked_modules.Goals as goal

pub linked-requires-clause-linkable : goal.linked-requires-clause-linkable
linked-requires-clause-linkable c = staged-linkable c.args.count c.in_ok-pairs.pairs.items c.requires.few c.in_ok-pairs.ensures.staged

pub returns : goal.returns
returns c =
    all-found c.linked.result c.args.count c.in_ok-pairs.pairs.items c.requires.few c.in_ok-pairs.ensures.staged c.in_ok-pairs.ensures.light
    c.linked.ensures.joined c.linked.ensures.named c.linked.ensures.light
