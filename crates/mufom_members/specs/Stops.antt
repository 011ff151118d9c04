-- Errors of the reader of a module as errors of a file.
use Rattle.mufom_read.specs.declared.refusal.ReadStop.{ReadStop}
use Rattle.mufom_read.specs.declared.refusal.ReadStop.TheVariants as read_stop
use Rattle.mufom_members.specs.declared.members.MembersStop.{MembersStop}
use Rattle.mufom_members.specs.declared.members.MembersStop.TheVariants as stop

abbrev pub stop_by : ReadStop → MembersStop
stop_by (read_stop.Refused r) = stop.Refused r
stop_by read_stop.NoMemory = stop.NoMemory
