use Rattle.mufom_map.proofs.RoomLaws.{used-split}
use Rattle.mufom_map.proofs.laws.used_room_counts_addresses.Goals as goal

pub returns-clause-sum : goal.returns-clause-sum
returns-clause-sum c from between to sections low high = used-split from between to sections low high
