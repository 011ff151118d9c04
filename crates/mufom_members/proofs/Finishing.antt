-- The verdict on an archive that was read to its end.
use Rattle.std.proofs.Common.{◌≡◌, ◌≢◌, Result, Err, ℕ, ◌<◌, ◌≤◌, ◌∙◌, refl, Bool, true, false, nat_lt, if◌then◌else◌, List, ◌++◌, filter, map}
use Rattle.std.proofs.Common.{Option, Some, None, IfSome, slice_get, subst, arith}
use Rattle.std.proofs.lemmas.Bool.Decides.{nat_tests}
use Rattle.mufom_archive.specs.declared.listing.BadArchive.{BadArchive}
use Rattle.mufom_archive.specs.declared.listing.Listing.{Listing}
use Rattle.mufom_archive.specs.Entries.{AreEntries}
use Rattle.mufom_archive.specs.Listings.{IsListing, Member}
use Rattle.mufom_archive.specs.Reading.{entries_of, members_in}
use Rattle.mufom_read.specs.declared.refusal.ReadRefusal.{ReadRefusal}
use Rattle.mufom_members.specs.declared.archive.Gatherer.{Gatherer}
use Rattle.mufom_members.specs.declared.members.Members.{Members}
use Rattle.mufom_members.specs.declared.members.MembersStop.{MembersStop}
use Rattle.mufom_members.specs.declared.members.MembersStop.TheVariants as stop
use Rattle.mufom_members.specs.Results.{StopsBy}
use Rattle.mufom_members.specs.Files.{IsArchiveVerdict, accepted, bad_archive, refused}
use Rattle.mufom_members.specs.Names.{AreNames, entry_name, is_named}
use Rattle.mufom_members.specs.Reading.{ArePending, AreReadUpTo, HasGathered, first_stop}
use Rattle.mufom_members.proofs.Gathering.{last_is}
use Rattle.mufom_members.proofs.NameLaws.{names_are}
use Rattle.mufom_members.proofs.Verdicts.{IsListed, all_accepted, error_first, listed_by, refusal_first}

module _ (g : Gatherer) (stream : List ℕ) (has : HasGathered g stream) where
  abbrev up : AreReadUpTo g.gathered.options stream (entries_of g.archive) g.done g.gathered.modules g.gathered.reader g.gathered.refusal
  up = has.1

  its_entries : AreEntries stream 8 (up.before ++ up.later) g.archive.next
  its_entries = subst (λ l. AreEntries stream 8 l g.archive.next) up.split has.0.found

  its_listing : (members : List Member) (error : Option BadArchive) → IsListing stream members error
      → IsListed stream (up.before ++ up.later) g.archive.next members error
  its_listing members error l = listed_by stream (up.before ++ up.later) g.archive.next members error its_entries (last_is g.archive stream has.0) l

  -- the members and the error are those of the listing
  pub gathered_stop : (members : List Member) (error : Option BadArchive) → IsListing stream members error → (s : MembersStop)
      → first_stop g.gathered.refusal error ≡ Some s → StopsBy (IsArchiveVerdict g.gathered.options stream) s
  gathered_stop members error l s is = by_both g.gathered.refusal error up.pending l is where
    at_refusal : (r : ReadRefusal) (e : Option BadArchive) → ArePending g.gathered.options stream up.later g.gathered.reader (Some r)
        → IsListing stream members e
        → IfSome e (λ bad. r.offset ≤ bad.offset) → IsArchiveVerdict g.gathered.options stream (refused r.offset r.reason)
    at_refusal r e pending l first = (
      members,
      e,
      l,
      refusal_first g.gathered.options stream up.before up.later g.archive.next its_entries
          g.gathered.modules up.read g.gathered.reader r pending members e (its_listing members e l) first,
    )

    at_error : (r : Option ReadRefusal) (bad : BadArchive) → ArePending g.gathered.options stream up.later g.gathered.reader r
        → IsListing stream members (Some bad)
        → IfSome r (λ f. bad.offset < f.offset) → IsArchiveVerdict g.gathered.options stream (bad_archive bad.offset)
    at_error r bad pending l first =
        let it = error_first g.gathered.options stream up.before up.later g.archive.next its_entries g.gathered.modules up.read g.gathered.reader r pending
        members bad (its_listing members (Some bad) l) first in
        (members, it.0, l, it.1)

    by_both : (r : Option ReadRefusal) (e : Option BadArchive) → ArePending g.gathered.options stream up.later g.gathered.reader r → IsListing stream members e
        → first_stop r e ≡ Some s → StopsBy (IsArchiveVerdict g.gathered.options stream) s
    by_both None None pending l is = absurd (cc)
    by_both None (Some bad) pending l is =
        let same : stop.BadArchive bad ≡ s = cc in
        subst (StopsBy (IsArchiveVerdict g.gathered.options stream)) same (at_error None bad pending l tt)
    by_both (Some r) None pending l is =
        let same : stop.Refused r ≡ s = cc in
        subst (StopsBy (IsArchiveVerdict g.gathered.options stream)) same (at_refusal r None pending l tt)
    by_both (Some r) (Some bad) pending l is = by_test (nat_lt bad.offset r.offset) refl is where
      by_test : (b : Bool) → nat_lt bad.offset r.offset ≡ b → (if b then Some (stop.BadArchive bad) else Some (stop.Refused r)) ≡ Some s
          → StopsBy (IsArchiveVerdict g.gathered.options stream) s
      by_test true less is =
          let same : stop.BadArchive bad ≡ s = cc in
          subst (StopsBy (IsArchiveVerdict g.gathered.options stream)) same (at_error (Some r) bad pending l (grind (arith, nat_tests)))
      by_test false less is =
          let same : stop.Refused r ≡ s = cc in
          subst (StopsBy (IsArchiveVerdict g.gathered.options stream)) same (at_refusal r (Some bad) pending l (grind (arith, nat_tests)))

  pub gathered_modules : (members : List Member) (error : Option BadArchive) → IsListing stream members error
      → first_stop g.gathered.refusal error ≡ None
      → IsArchiveVerdict g.gathered.options stream (accepted (Some (map (λ m. m.name) members)) g.gathered.modules)
  gathered_modules members error l is = by_both g.gathered.refusal error up.pending l is where
    by_both : (r : Option ReadRefusal) (e : Option BadArchive) → ArePending g.gathered.options stream up.later g.gathered.reader r → IsListing stream members e
        → first_stop r e ≡ None → IsArchiveVerdict g.gathered.options stream (accepted (Some (map (λ m. m.name) members)) g.gathered.modules)
    by_both None None pending l is = (
      members,
      refl,
      l,
      all_accepted g.gathered.options stream up.before up.later g.archive.next its_entries
          g.gathered.modules up.read g.gathered.reader pending members (its_listing members None l),
    )
    by_both None (Some bad) pending l is = absurd (cc)
    by_both (Some r) None pending l is = absurd (cc)
    by_both (Some r) (Some bad) pending l is = by_test (nat_lt bad.offset r.offset) is where
      by_test : (b : Bool) → (if b then Some (stop.BadArchive bad) else Some (stop.Refused r)) ≡ None
          → IsArchiveVerdict g.gathered.options stream (accepted (Some (map (λ m. m.name) members)) g.gathered.modules)
      by_test true is = absurd (cc)
      by_test false is = absurd (cc)

-- the names of a listing that has the members alone
pub listing_names : (l now : Listing) → now.entries ≡ filter (is_named l.names.items) l.entries → now.names.items ≡ l.names.items
    → AreNames (Some now) (Some (map (λ m. m.name) (members_in l)))
listing_names l now entries names position =
    (λ i. entry_name (names i) (slice_get (entries i) position)) ∙ names_are l.names.items l.entries position

pub no_fault : (r : Option ReadRefusal) (e : Option BadArchive) (s : MembersStop) → first_stop r e ≡ Some s
    → ◌≢◌ {A = Result Members MembersStop} (Err s) (Err stop.Fault)
no_fault r e stop.Fault is same = by_both r e is where
  by_both : (r : Option ReadRefusal) (e : Option BadArchive) → first_stop r e ≡ Some stop.Fault → ⊥
  by_both None None is = cc
  by_both None (Some bad) is = let wrong : stop.BadArchive bad ≡ stop.Fault = cc in cc
  by_both (Some r) None is = let wrong : stop.Refused r ≡ stop.Fault = cc in cc
  by_both (Some r) (Some bad) is = by_test (nat_lt bad.offset r.offset) is where
    by_test : (b : Bool) → (if b then Some (stop.BadArchive bad) else Some (stop.Refused r)) ≡ Some stop.Fault → ⊥
    by_test true is = let wrong : stop.BadArchive bad ≡ stop.Fault = cc in cc
    by_test false is = let wrong : stop.Refused r ≡ stop.Fault = cc in cc
no_fault r e (stop.Refused f) is same = let wrong : stop.Refused f ≡ stop.Fault = cc in cc
no_fault r e (stop.BadArchive bad) is same = let wrong : stop.BadArchive bad ≡ stop.Fault = cc in cc
no_fault r e stop.Limit is same = let wrong : stop.Limit ≡ stop.Fault = cc in cc
no_fault r e stop.NoMemory is same = let wrong : stop.NoMemory ≡ stop.Fault = cc in cc
