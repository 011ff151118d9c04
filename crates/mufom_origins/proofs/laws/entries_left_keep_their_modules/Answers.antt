use Rattle.mufom_origins.proofs.LeftLaws.{publics-left, sections-left}
use Rattle.mufom_origins.proofs.laws.entries_left_keep_their_modules.Goals as goal

pub returns-clause-sections : goal.returns-clause-sections
returns-clause-sections c = sections-left

pub returns-clause-publics : goal.returns-clause-publics
returns-clause-publics c = publics-left
