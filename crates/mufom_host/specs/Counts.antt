-- The counts of errors that a host keeps.
use Rattle.mufom_host.specs.World.{Faults}
use Rattle.mufom_host.specs.declared.counts.Counts.{Counts}

abbrev pub faults_of : Counts → Faults
faults_of counts = record { reads = counts.reads; writes = counts.writes; complaints = counts.complaints; input_failed = counts.input_failed }
