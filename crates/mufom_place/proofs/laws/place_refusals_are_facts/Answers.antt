use Rattle.mufom_place.proofs.FactLemmas.{refusal_sound, refusal_complete}
use Rattle.mufom_place.proofs.laws.place_refusals_are_facts.Goals as goal

pub returns-clause-sound : goal.returns-clause-sound
returns-clause-sound c = refusal_sound

pub returns-clause-complete : goal.returns-clause-complete
returns-clause-complete c = refusal_complete
