-- The image of loads, and the errors in its place.
use Rattle.std.specs.Prelude.{◌≡◌, ℕ, ◌<◌, ◌^◌, List, [], Option, Some, None, Contains}
use Rattle.mufom_loads.specs.declared.load.Load.{Load}
use Rattle.mufom_place.specs.Facts.{◌or_else◌}
use Rattle.mufom_meaning.specs.declared.located.Run.{Run}
use Rattle.mufom_meaning.specs.AddressMap.{Cell, address_map, AreRunsOf}
use Rattle.mufom_meaning.specs.Facts.{LocateFact}
use Rattle.mufom_meaning.specs.Flat.{Sited}
use Rattle.mufom_meaning.specs.Steps.{steps_of, step_readings}
use Rattle.mufom_meaning.specs.Values.{Setting}
use Rattle.mufom_meaning.specs.Walk.{first_twice, steps_fact}
use Rattle.mufom_image_bytes.specs.declared.layout.Layout.{Layout}
use Rattle.mufom_image_bytes.specs.declared.stop.ImageStop.{ImageStop}
use Rattle.mufom_image_bytes.specs.declared.stop.ImageStop.TheVariants as stops
use Rattle.mufom_image_bytes.specs.Stops.{fact_of}
use Rattle.mufom_image_bytes.specs.Chunks.{cell_addresses}
use Rattle.mufom_image_bytes.specs.Outcomes.{ValuationAt}
use Rattle.mufom_image_bytes.specs.Walked.{AreWalked}

-- the addresses of cells fit 64 bits
abbrev pub AreLow : List Cell → Type 0
AreLow cells = (a : ℕ) → Contains (cell_addresses cells) a → a < 2 ^ 64

-- no error stopped the loads, no address occurs twice, and the runs are the maximal runs of the cells
pub record IsImage (cells : List Cell) (stop : Option LocateFact) (runs : List Run) : Type 0 where
  pub ended : stop ≡ None
  pub single : AreLow cells → first_twice [] (cell_addresses cells) ≡ None
  pub rows : AreRunsOf cells runs

-- the error is the first address that occurs twice, or otherwise the one that stopped the loads; or it is out of memory
abbrev pub IsRefusal : List Cell → Option LocateFact → ImageStop → Type 0
IsRefusal cells stop (stops.Refused other) = AreLow cells → (first_twice [] (cell_addresses cells) or_else stop) ≡ Some (fact_of other)
IsRefusal cells stop stops.NoMemory = Unit {0}

-- if the loads are walked with this layout and these values, no error is found, and the runs are those of the bytes that are loaded
abbrev pub IsImageOf : Layout → ValuationAt → List Load → List Run → Type 0
IsImageOf layout valuation loads runs =
    (s : Setting) (site : Sited) → AreWalked s site layout valuation loads → let steps = steps_of site None loads in
    (steps_fact s [] steps ≡ None) × AreRunsOf (address_map layout.order s.modulus (step_readings s steps)) runs

-- if the loads are walked with this layout and these values, this is the first error that is found
abbrev pub IsRefusalOf : Layout → ValuationAt → List Load → ImageStop → Type 0
IsRefusalOf layout valuation loads (stops.Refused stop) =
    (s : Setting) (site : Sited) → AreWalked s site layout valuation loads → steps_fact s [] (steps_of site None loads) ≡ Some (fact_of stop)
IsRefusalOf layout valuation loads stops.NoMemory = Unit {0}
