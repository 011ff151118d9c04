-- Modules, meanings and locations without debug items.
use Rattle.std.specs.Prelude.{List, [], map, Option, Some, None, Bool, true, false, if◌then◌else◌}
use Rattle.mufom_module.specs.declared.module.Parts.{Parts}
use Rattle.mufom_meaning.specs.declared.located.LocatedParts.{LocatedParts}
use Rattle.mufom_meaning.specs.declared.located.Site.TheVariants as sites
use Rattle.mufom_meaning.specs.Facts.{LocateFact, zero_divisor}
use Rattle.mufom_meaning.specs.Readings.{Readings}

-- the module without its debug items; all else is the same
abbrev pub without_debug : Parts → Parts
without_debug m = record m { debug = [] }

-- each module without its debug items
abbrev pub all_without_debug : List Parts → List Parts
all_without_debug ms = map without_debug ms

-- what modules mean, without what their debug items mean
abbrev pub readings_without_debug : Readings → Readings
readings_without_debug r = record r { debug = [] }

-- the location without its debug items
abbrev pub located_without_debug : LocatedParts → LocatedParts
located_without_debug r = record r { debug = [] }

-- a division by 0 in a debug expression
abbrev pub is_debug_fact : LocateFact → Bool
is_debug_fact (zero_divisor (sites.Debug n)) = true
is_debug_fact _ = false

-- the fact, unless it is found in a debug expression
abbrev pub fact_without_debug : Option LocateFact → Option LocateFact
fact_without_debug None = None
fact_without_debug (Some fact) = if is_debug_fact fact then None else Some fact
