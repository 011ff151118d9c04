-- The errors that stop the walk over the loads, as facts of the definitions.
use Rattle.mufom_meaning.specs.declared.located.Site.TheVariants as sites
use Rattle.mufom_meaning.specs.Facts.{LocateFact, zero_divisor, load_outside, loaded_twice, overflow}
use Rattle.mufom_image_bytes.specs.declared.refusal.LoadRefusal.{LoadRefusal}
use Rattle.mufom_image_bytes.specs.declared.refusal.LoadRefusal.TheVariants as refusals

-- the fact for an error
abbrev pub fact_of : LoadRefusal → LocateFact
fact_of (refusals.Counter section) = zero_divisor (sites.Counter section)
fact_of (refusals.Field section address) = zero_divisor (sites.Field section address)
fact_of (refusals.Outside section address) = load_outside section address
fact_of (refusals.Overflow section address kind size value) = overflow section address kind size value
fact_of (refusals.Twice address) = loaded_twice address
