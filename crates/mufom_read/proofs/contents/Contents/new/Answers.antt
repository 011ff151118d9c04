use Rattle.std.proofs.Common.{refl, ap}
use Rattle.mufom_read.specs.declared.header.Header.{Header}
use Rattle.mufom_read.proofs.contents.Contents.new.Goals as goal

pub returns : goal.returns
returns c = record {
  names = ap (λ (h : Header). h.names) c.new.ensures;
  layout = ap (λ (h : Header). h.layout) c.new.ensures;
  sections = c.new-2.ensures;
  publics = c.new-3.ensures;
  references = c.new-4.ensures.items;
  debug = record { marks = c.new-5.ensures.marks; blocks = c.new-5.ensures.blocks };
  loads = c.new-6.ensures;
  start = refl;
}
