use Rattle.std.proofs.Common.{Option, subst}
use Rattle.mufom_origins.specs.Words.{ModuleFile, file_text}
use Rattle.mufom_origins.proofs.words.file_text.Goals as goal

pub returns-in-Some : goal.returns-in-Some
returns-in-Some g c = let l = g.met.K.Output in
    subst (λ (o : Option ModuleFile). g.K.Output.takes c.args.out.now c.file_word.new.out (file_text o)) (rw c.in-Some.is at c.find.ensures)
    (l.joins _ _ _ _ _ c.counted.ensures (l.joins _ _ _ _ _ c.put.ensures c.file_word.ensures))
