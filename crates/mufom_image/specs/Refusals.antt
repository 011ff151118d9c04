-- The facts that the errors of locating report.
use Rattle.std.specs.Prelude.{◌≡◌, Option, Some}
use Rattle.mufom_meaning.specs.Facts.{LocateFact, placement, undefined, common_unplaced, cycle, image_limit, zero_divisor, load_outside, loaded_twice, overflow}
use Rattle.mufom_refusals.specs.declared.locate.LocateRefusal.{LocateRefusal}
use Rattle.mufom_refusals.specs.declared.locate.LocateRefusal.TheVariants as refusals

-- the error reports this fact, or is out of memory
abbrev pub IsMet : Option LocateFact → LocateRefusal → Type 0
IsMet met (refusals.Place refusal) = met ≡ Some (placement refusal)
IsMet met (refusals.Undefined name) = met ≡ Some (undefined name)
IsMet met (refusals.CommonUnplaced name) = met ≡ Some (common_unplaced name)
IsMet met (refusals.Cycle name) = met ≡ Some (cycle name)
IsMet met (refusals.DivideByZero site) = met ≡ Some (zero_divisor site)
IsMet met (refusals.Overflow section address kind size value) = met ≡ Some (overflow section address kind size value)
IsMet met (refusals.LoadOutside section address) = met ≡ Some (load_outside section address)
IsMet met (refusals.LoadedTwice address) = met ≡ Some (loaded_twice address)
IsMet met (refusals.ImageLimit count) = met ≡ Some (image_limit count)
IsMet met refusals.NoMemory = Unit {0}
