use Rattle.mufom_planned.proofs.Values as laws
use Rattle.mufom_planned.proofs.laws.places_do_not_depend_on_values.Goals as goal

pub returns-clause-names : goal.returns-clause-names
returns-clause-names c = laws.names_do_not_depend_on_values

pub returns-clause-places : goal.returns-clause-places
returns-clause-places c = laws.placement_does_not_depend_on_values

pub returns-clause-own : goal.returns-clause-own
returns-clause-own c = laws.symbols_have_their_own_layout
