use Rattle.std.proofs.Common.{◌≡◌, filter, take}
use Rattle.mufom_members.specs.Names.{is_named}
use Rattle.mufom_members.proofs.archive.named_entries.Given as goal

abbrev pub invariant-loop-entry : goal.invariant-loop-entry
invariant-loop-entry l = l.named ≡ filter (is_named l.listing.names.items) (take l.entry-index l.listing.entries)
