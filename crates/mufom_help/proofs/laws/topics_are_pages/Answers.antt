use Rattle.mufom_help.proofs.Computed.{topic-pages, list-fits}
use Rattle.mufom_help.proofs.laws.topics_are_pages.Goals as goal

pub returns-clause-pages : goal.returns-clause-pages
returns-clause-pages c = topic-pages

pub returns-clause-list : goal.returns-clause-list
returns-clause-list c = list-fits
