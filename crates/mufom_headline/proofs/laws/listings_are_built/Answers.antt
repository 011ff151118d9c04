use Rattle.mufom_headline.proofs.Built.{listings-are-built}
use Rattle.mufom_headline.proofs.laws.listings_are_built.Goals as goal

pub returns : goal.returns
returns c = listings-are-built
