use Rattle.std.proofs.Common.{[]}
use Rattle.mufom_addr.specs.Entries.{entries_of, outermost}
use Rattle.mufom_addr.proofs.find.find_address.Goals as goal

pub returns : goal.returns
returns c = c.hit.ensures c.args.address (entries_of c.args.items.now outermost) (c.in_ok-see_items.ensures.seen c.args.address [] c.new-search.ensures)
