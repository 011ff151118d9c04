use Rattle.mufom_read.proofs.publics.Publics.new.Goals as goal

pub returns : goal.returns
returns c = record { list = c.new.ensures.items; marks = c.new-2.ensures.items }
