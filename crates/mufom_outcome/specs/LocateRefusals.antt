-- The error that locating returns for a locate fact.
use Rattle.mufom_meaning.specs.Facts.{LocateFact, placement, undefined, common_unplaced, cycle, image_limit, zero_divisor, load_outside, loaded_twice, overflow}
use Rattle.mufom_refusals.specs.declared.locate.LocateRefusal.{LocateRefusal}
use Rattle.mufom_refusals.specs.declared.locate.LocateRefusal.TheVariants as refusals

abbrev pub locate_refusal : LocateFact → LocateRefusal
locate_refusal (placement refusal) = refusals.Place refusal
locate_refusal (undefined name) = refusals.Undefined name
locate_refusal (common_unplaced name) = refusals.CommonUnplaced name
locate_refusal (cycle name) = refusals.Cycle name
locate_refusal (image_limit count) = refusals.ImageLimit count
locate_refusal (zero_divisor site) = refusals.DivideByZero site
locate_refusal (load_outside section address) = refusals.LoadOutside section address
locate_refusal (loaded_twice address) = refusals.LoadedTwice address
locate_refusal (overflow section address kind size value) = refusals.Overflow section address kind size value
