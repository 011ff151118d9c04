use Rattle.mufom_headline.proofs.LinkedFiles.{links-are-put-out}
use Rattle.mufom_headline.proofs.laws.links_are_put_out.Goals as goal

pub returns : goal.returns
returns c = links-are-put-out
