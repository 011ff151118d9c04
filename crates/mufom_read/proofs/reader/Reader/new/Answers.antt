use Rattle.std.proofs.Common.{refl, [], None}
use Rattle.mufom_read.proofs.feeding.Feed.{none-read}
use Rattle.mufom_read.proofs.reader.Reader.new.Goals as goal

pub invariant_of-result : goal.invariant_of-result
invariant_of-result c = (
  [],
  none-read (record { alloc = c.args.alloc; options = c.args.options; prefix = c.new.result; rest = c.new-2.result; stop = None })
      c.new.ensures c.new-2.ensures.items refl,
)

pub returns-clause-read : goal.returns-clause-read
returns-clause-read c =
    none-read (record { alloc = c.args.alloc; options = c.args.options; prefix = c.new.result; rest = c.new-2.result; stop = None })
    c.new.ensures c.new-2.ensures.items refl
