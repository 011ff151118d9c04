use Rattle.mufom_map.proofs.RoomLaws.{region-covered, used-covered}
use Rattle.mufom_map.proofs.laws.used_room_is_the_number_of_covered_addresses.Goals as goal

pub returns-clause-between : goal.returns-clause-between
returns-clause-between c = used-covered

pub returns-clause-region : goal.returns-clause-region
returns-clause-region c = region-covered
