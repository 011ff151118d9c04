use Rattle.mufom_headline.proofs.ReadBack.{written-files-are-read-back}
use Rattle.mufom_headline.proofs.read_back.written_module_is_read_back.Goals as goal

pub returns : goal.returns
returns c = written-files-are-read-back c.args.module.now c.parts-parts.ensures.valid c.parts-parts.ensures.made
