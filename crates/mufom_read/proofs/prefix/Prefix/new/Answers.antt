use Rattle.std.proofs.Common.{refl, arith}
use Rattle.mufom_read.proofs.prefix.Prefix.new.Goals as goal

pub returns : goal.returns
returns c = record {
  contents = c.new.ensures;
  awaits = refl;
  ended = refl;
  tables = c.new-2.ensures;
  offsets = c.new-3.ensures;
  extension = c.new-4.ensures.items;
  environment = c.new-5.ensures.items;
  size = refl;
  location = refl;
  few = omega arith;
  ordered = tt;
  count = refl;
  begun = λ many. omega (arith, many);
  follow = tt;
  rising = omega arith;
}
