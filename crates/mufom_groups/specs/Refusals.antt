-- The error that a link returns for a link fact.
use Rattle.mufom_meaning.specs.declared.located.Descriptor.{Descriptor}
use Rattle.mufom_meaning.specs.Facts.{Descriptor as Described, LinkFact, mismatch, duplicate, duplicate_start}
use Rattle.mufom_refusals.specs.declared.link.LinkRefusal.{LinkRefusal}
use Rattle.mufom_refusals.specs.declared.link.LinkRefusal.TheVariants.{Mismatch, Duplicate, DuplicateStart}

abbrev pub descriptor_of : Described → Descriptor
descriptor_of d = record { maus = d.0; order = d.1 }

abbrev pub link_refusal : LinkFact → LinkRefusal
link_refusal (mismatch first other) = Mismatch (descriptor_of first) (descriptor_of other)
link_refusal (duplicate name) = Duplicate name
link_refusal duplicate_start = DuplicateStart
