use Rattle.mufom_headline.proofs.Headline.{the-headline}
use Rattle.mufom_headline.proofs.laws.the_headline.Goals as goal

pub returns : goal.returns
returns c = the-headline
