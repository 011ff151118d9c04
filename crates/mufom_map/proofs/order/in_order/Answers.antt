use Rattle.mufom_map.proofs.KeyLaws.{sorted-by_key}
use Rattle.mufom_map.proofs.order.in_order.Goals as goal

pub returns : goal.returns
returns c = sorted-by_key c.args.keys.items c.sort.new.self.items c.requires c.in_ok-sort.ensures.permutation c.in_ok-sort.ensures.sorted
