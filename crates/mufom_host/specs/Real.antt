-- The host over the files and streams of the process reveals no content.
use Rattle.std.specs.Prelude.{None}
use Rattle.mufom_host.specs.World.{Meaning}

abbrev pub reveals_nothing : Meaning
reveals_nothing = record { left = None; files = None; making = None; made = None; out = None; err = None; opened = None; created = None }
