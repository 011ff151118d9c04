-- The stop for an archive that goes on after the bytes that were read.
use Rattle.std.proofs.Common.{◌≡◌, ◌≢◌, ℕ, ◌+◌, ◌∙◌, sym, ap, refl, Bool, true, false, ◌||◌, ◌&&◌, ◌==◌, nat_le, nat_lt}
use Rattle.std.proofs.Common.{if◌then◌else◌, List, length, map, take, drop}
use Rattle.std.proofs.Common.{Option, Some, None, subst, eqb-true}
use Rattle.std.specs.List.{find}
use Rattle.std.specs.Option.{is_none}
use Rattle.std.proofs.lemmas.Bool.Decides.{Decides-eqb}
use Rattle.mufom_archive.specs.declared.entry.Entry.{Entry}
use Rattle.mufom_archive.specs.declared.listing.BadArchive.{BadArchive}
use Rattle.mufom_archive.specs.Entries.{entry_at, lacks_header, long_names}
use Rattle.mufom_archive.specs.Listings.{IsBadHeader, IsListing, Member, first_error, is_at, is_refused, lacks_long_name, nameless_in}
use Rattle.mufom_archive.proofs.EntryLaws.{entry_parts, found_entry, one_reading}
use Rattle.mufom_read.specs.declared.refusal.ReadRefusal.{ReadRefusal}
use Rattle.mufom_members.specs.declared.archive.Gatherer.{Gatherer}
use Rattle.mufom_members.specs.declared.members.MembersStop.{MembersStop}
use Rattle.mufom_members.specs.declared.members.MembersStop.TheVariants as stop
use Rattle.mufom_members.specs.Files.{IsArchiveVerdict, IsPrefixVerdict, accepted, bad_archive, past_limit, refused}
use Rattle.mufom_members.specs.Results.{StopsBy}
use Rattle.mufom_members.specs.Reading.{HasGathered, first_stop, prefix_stop}
use Rattle.mufom_members.proofs.Finishing.{gathered_modules, gathered_stop}

-- ---- whether the error is that of a header

and_false : (b : Bool) → (b && false) ≡ false
and_false true = refl
and_false false = refl

and_true : (b : Bool) → (b && true) ≡ b
and_true true = refl
and_true false = refl

module _ (bytes : List ℕ) (next offset : ℕ) (header : Option ℕ) (place : header ≡ (if nat_le (next + 60) (length bytes) then Some next else None))
    (last : entry_at bytes next ≡ None) where
  -- it is in an entry
  at_entry : (e : Entry) → entry_at bytes offset ≡ Some e → is_at header offset ≡ lacks_header bytes offset
  at_entry e is = by_place (nat_le (next + 60) (length bytes)) place ∙ sym found where
    found : lacks_header bytes offset ≡ false
    found = ap (λ (o : Option Entry). nat_le (offset + 60) (length bytes) && is_none o) is ∙ and_false (nat_le (offset + 60) (length bytes))

    by_place : (b : Bool) → header ≡ (if b then Some next else None) → is_at header offset ≡ false
    by_place false p = ap (λ o. is_at o offset) p
    by_place true p = ap (λ o. is_at o offset) p ∙ by_same (next == offset) refl where
      by_same : (b : Bool) → (next == offset) ≡ b → b ≡ false
      by_same false s = refl
      by_same true s = let here = eqb-true next offset s in let none = ap (entry_at bytes) (sym here) ∙ last in absurd (cc)

  -- it is after the entries
  at_next : offset ≡ next → is_at header offset ≡ lacks_header bytes offset
  at_next same = ap (is_at header) same ∙ ap (λ o. is_at o next) place ∙ by_size (nat_le (next + 60) (length bytes)) ∙ sym lacks
      ∙ ap (lacks_header bytes) (sym same) where
        lacks : lacks_header bytes next ≡ nat_le (next + 60) (length bytes)
        lacks = ap (λ (o : Option Entry). nat_le (next + 60) (length bytes) && is_none o) last ∙ and_true (nat_le (next + 60) (length bytes))

        by_size : (b : Bool) → is_at (if b then Some next else None) next ≡ b
        by_size true = (Decides-eqb next next).1 refl
        by_size false = refl

pub header_error : (bytes : List ℕ) (members : List Member) (bad : BadArchive) (header : Option ℕ) → IsListing bytes members (Some bad)
    → IsBadHeader bytes header → is_at header bad.offset ≡ lacks_header bytes bad.offset
header_error bytes members bad header l h = by_found (find (is_refused (long_names bytes l.entries) (length bytes)) l.entries) refl l.refused where
  place : header ≡ (if nat_le (l.next + 60) (length bytes) then Some l.next else None)
  place = h.place ∙ ap (λ n. if nat_le (n + 60) (length bytes) then Some n else None)
      (one_reading bytes 8 h.entries l.entries h.next l.next h.found h.last l.found l.last).1

  by_found : (o : Option Entry) → find (is_refused (long_names bytes l.entries) (length bytes)) l.entries ≡ o
      → Some bad ≡ first_error (length bytes) l.next o → is_at header bad.offset ≡ lacks_header bytes bad.offset
  by_found (Some e) found is =
      let at = found_entry (is_refused (long_names bytes l.entries) (length bytes)) bytes 8 l.entries l.next e l.found found in
      let parts = entry_parts at.0 (take 60 (drop at.0 bytes)) e at.1 in
      let error : bad ≡ record { offset = e.offset } = cc in
      let here : bad.offset ≡ at.0 = ap (λ (x : BadArchive). x.offset) error ∙ parts.offset in
      at_entry bytes l.next bad.offset header place l.last e (ap (entry_at bytes) here ∙ at.1)
  by_found None found is = by_test (nat_lt l.next (length bytes)) is where
    by_test : (b : Bool) → Some bad ≡ (if b then Some (record { offset = l.next }) else None) → is_at header bad.offset ≡ lacks_header bytes bad.offset
    by_test true is =
        let error : bad ≡ record { offset = l.next } = cc in
        at_next bytes l.next bad.offset header place l.last (ap (λ (x : BadArchive). x.offset) error)
    by_test false is = absurd (cc)

-- ---- the stop

abbrev IsError : MembersStop → Type 0
IsError (stop.Refused r) = Unit {0}
IsError (stop.BadArchive bad) = Unit {0}
IsError _ = ⊥

only_errors : (r : Option ReadRefusal) (e : Option BadArchive) (s : MembersStop) → first_stop r e ≡ Some s → IsError s
only_errors None None s is = absurd (cc)
only_errors None (Some bad) s is = let same : stop.BadArchive bad ≡ s = cc in subst (λ (x : MembersStop). IsError x) same tt
only_errors (Some r) None s is = let same : stop.Refused r ≡ s = cc in subst (λ (x : MembersStop). IsError x) same tt
only_errors (Some r) (Some bad) s is = by_test (nat_lt bad.offset r.offset) is where
  by_test : (b : Bool) → (if b then Some (stop.BadArchive bad) else Some (stop.Refused r)) ≡ Some s → IsError s
  by_test true is = let same : stop.BadArchive bad ≡ s = cc in subst (λ (x : MembersStop). IsError x) same tt
  by_test false is = let same : stop.Refused r ≡ s = cc in subst (λ (x : MembersStop). IsError x) same tt

module _ (g : Gatherer) (stream : List ℕ) (has : HasGathered g stream) (members : List Member) (error : Option BadArchive)
    (l : IsListing stream members error) (header nameless : Option ℕ) (h : IsBadHeader stream header) (n : nameless ≡ nameless_in stream) where
  abbrev Is : MembersStop → Type 0
  Is s = StopsBy (IsPrefixVerdict g.gathered.options stream) s

  by_stop : (o : Option MembersStop) → first_stop g.gathered.refusal error ≡ o → Is (prefix_stop header nameless o)
  by_stop None is = (accepted (Some (map (λ m. m.name) members)) g.gathered.modules, gathered_modules g stream has members error l is, refl)
  by_stop (Some (stop.Refused r)) is = (refused r.offset r.reason, gathered_stop g stream has members error l (stop.Refused r) is, refl)
  by_stop (Some (stop.BadArchive bad)) is = by_header (is_at header bad.offset || is_at nameless bad.offset) refl where
    first : IsArchiveVerdict g.gathered.options stream (bad_archive bad.offset)
    first = gathered_stop g stream has members error l (stop.BadArchive bad) is

    lacks : (is_at header bad.offset || is_at nameless bad.offset) ≡ (lacks_header stream bad.offset || lacks_long_name stream bad.offset)
    lacks = λ i. (header_error stream first.0 (record { offset = bad.offset }) header first.2 h i) || is_at (n i) bad.offset

    by_header : (b : Bool) → (is_at header bad.offset || is_at nameless bad.offset) ≡ b → Is (if b then stop.BadArchive bad else stop.Limit)
    by_header true is = (bad_archive bad.offset, first, sym (ap (λ b. if b then bad_archive bad.offset else past_limit) (sym lacks ∙ is)))
    by_header false is = (bad_archive bad.offset, first, sym (ap (λ b. if b then bad_archive bad.offset else past_limit) (sym lacks ∙ is)))
  by_stop (Some stop.Limit) is = absurd (only_errors g.gathered.refusal error stop.Limit is)
  by_stop (Some stop.Fault) is = absurd (only_errors g.gathered.refusal error stop.Fault is)
  by_stop (Some stop.NoMemory) is = absurd (only_errors g.gathered.refusal error stop.NoMemory is)

  pub gathered_prefix : (o : Option MembersStop) (s : MembersStop) → o ≡ first_stop g.gathered.refusal error → s ≡ prefix_stop header nameless o
      → StopsBy (IsPrefixVerdict g.gathered.options stream) s
  gathered_prefix o s is made = subst (λ (x : MembersStop). StopsBy (IsPrefixVerdict g.gathered.options stream) x) (sym made) (by_stop o (sym is))

pub prefix_no_fault : (header nameless : Option ℕ) (o : Option MembersStop) (s : MembersStop) → s ≡ prefix_stop header nameless o
    → ◌≢◌ {A = MembersStop} s stop.Fault
prefix_no_fault header nameless o s made = λ is. by_stop o (sym made ∙ is) where
  by_stop : (o : Option MembersStop) → prefix_stop header nameless o ≡ stop.Fault → ⊥
  by_stop None is = let wrong : stop.Limit ≡ stop.Fault = is in cc
  by_stop (Some (stop.Refused r)) is = let wrong : stop.Refused r ≡ stop.Fault = is in cc
  by_stop (Some (stop.BadArchive bad)) is = by_header (is_at header bad.offset || is_at nameless bad.offset) is where
    by_header : (b : Bool) → (if b then stop.BadArchive bad else stop.Limit) ≡ stop.Fault → ⊥
    by_header true is = let wrong : stop.BadArchive bad ≡ stop.Fault = is in cc
    by_header false is = let wrong : stop.Limit ≡ stop.Fault = is in cc
  by_stop (Some stop.Limit) is = let wrong : stop.Limit ≡ stop.Fault = is in cc
  by_stop (Some stop.Fault) is = let wrong : stop.Limit ≡ stop.Fault = is in cc
  by_stop (Some stop.NoMemory) is = let wrong : stop.Limit ≡ stop.Fault = is in cc
