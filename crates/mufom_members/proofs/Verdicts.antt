-- The verdict on an archive, by the entries that were read and by its listing.
use Rattle.std.proofs.Common.{◌≡◌, ℕ, ◌+◌, ◌<◌, ◌≤◌, ◌∙◌, inl, inr, ◌⊎◌, sym, ap}
use Rattle.std.proofs.Common.{refl, Bool, true, false, ◌||◌, ◌&&◌, nat_lt, if◌then◌else◌, List, [], ◌∷◌, ◌++◌}
use Rattle.std.proofs.Common.{length, take, drop, filter, Option, Some, None, IfSome, subst, append-nil, arith}
use Rattle.std.specs.List.{before_first, find}
use Rattle.std.specs.Option.{is_none}
use Rattle.std.proofs.lemmas.Bool.Decides.{nat_tests}
use Rattle.std.proofs.lemmas.List.Elements.{filter_map-append}
use Rattle.mufom_archive.specs.declared.entry.Entry.{Entry}
use Rattle.mufom_archive.specs.declared.listing.BadArchive.{BadArchive}
use Rattle.mufom_archive.specs.Names.{is_member, name_of}
use Rattle.mufom_archive.specs.Entries.{AreEntries, contents_of, entry_at, long_names, next_offset}
use Rattle.mufom_archive.specs.Listings.{IsListing, Member, first_error, is_refused, member_of, members_of}
use Rattle.mufom_archive.proofs.EntryLaws.{entry_parts, one_reading}
use Rattle.mufom_module.specs.declared.module.Parts.{Parts}
use Rattle.mufom_records.specs.declared.options.ReadOptions.{ReadOptions}
use Rattle.mufom_read.specs.declared.refusal.ReadRefusal.{ReadRefusal}
use Rattle.mufom_read.specs.declared.state.State.{State}
use Rattle.mufom_judging.specs.Judging.{IsJudged, IsRefusedAt, refusal}
use Rattle.mufom_numbers.specs.declared.reason.Reason.{Reason}
use Rattle.mufom_judging.proofs.judged.Stays.{refusal_goes_on}
use Rattle.mufom_members.specs.Files.{AreModulesOf, IsFirstRefused}
use Rattle.mufom_members.specs.Reading.{StartAfter, IsRefusedEarly, ArePending, AreRead, HasError, is_member_entry}
use Rattle.mufom_members.proofs.EntryOrder.{contents_length, start_after}
use Rattle.mufom_members.proofs.Walk.{AreSound, HasBad, Walk, ends_inside, find_fails, find_passes, first_fails, first_passes, member_named, members_some}
use Rattle.mufom_members.proofs.Walk.{the_member, walk}

-- the listing of bytes with these entries
pub record IsListed (bytes : List ℕ) (entries : List Entry) (next : ℕ) (members : List Member) (error : Option BadArchive) : Type 0 where
  pub listed : members ≡ members_of (long_names bytes entries) (before_first (is_refused (long_names bytes entries) (length bytes)) entries)
  pub refused : error ≡ first_error (length bytes) next (find (is_refused (long_names bytes entries) (length bytes)) entries)

pub listed_by : (bytes : List ℕ) (entries : List Entry) (next : ℕ) (members : List Member) (error : Option BadArchive) → AreEntries bytes 8 entries next
    → entry_at bytes next ≡ None → IsListing bytes members error → IsListed bytes entries next members error
listed_by bytes entries next members error found last l =
    let same = one_reading bytes 8 l.entries entries l.next next l.found l.last found last in
    record {
      listed = l.listed ∙ (λ i. members_of (long_names bytes (same.0 i)) (before_first (is_refused (long_names bytes (same.0 i)) (length bytes)) (same.0 i)));
      refused = l.refused ∙ (λ i. first_error (length bytes) (same.1 i) (find (is_refused (long_names bytes (same.0 i)) (length bytes)) (same.0 i)));
    }

-- an entry that is found is at the offset of the first one, or after it
found_after : (p : Entry → Bool) (bytes : List ℕ) (at : ℕ) (es : List Entry) (next : ℕ) (t : Entry) → AreEntries bytes at es next → find p es ≡ Some t
    → at ≤ t.offset
found_after p bytes at [] next t found is = absurd (cc)
found_after p bytes at (e ∷ es) next t found is = by_case (p e) is (found_after p bytes (next_offset e) es next t found.1) where
  by_case : (b : Bool) → (if b then Some e else find p es) ≡ Some t → (find p es ≡ Some t → next_offset e ≤ t.offset) → at ≤ t.offset
  by_case true here further = let same : e ≡ t = cc in
      let offset = (entry_parts at (take 60 (drop at bytes)) e found.0).offset in omega (arith, offset, ap (λ (x : Entry). x.offset) same)
  by_case false here further =
      let its = entry_parts at (take 60 (drop at bytes)) e found.0 in
      let start = its.start in let order = its.order in omega (arith, start, order, further here)

-- the entries after some of them
later_entries : (bytes : List ℕ) (at : ℕ) (before later : List Entry) (next : ℕ) → AreEntries bytes at (before ++ later) next
    → (from : ℕ) × AreEntries bytes from later next
later_entries bytes at [] later next found = (at, found)
later_entries bytes at (e ∷ before) later next found = later_entries bytes (next_offset e) before later next found.1

next_after : (bytes : List ℕ) (at : ℕ) (es : List Entry) (next : ℕ) → AreEntries bytes at es next → at ≤ next
next_after bytes at es next found = (start_after bytes at es next found).1

-- the error of an archive whose first entries are sound is after them
error_after : (p : Entry → Bool) (bytes : List ℕ) (size at : ℕ) (es : List Entry) (next : ℕ) (bad : BadArchive) → AreEntries bytes at es next
    → first_error size next (find p es) ≡ Some bad → at ≤ bad.offset
error_after p bytes size at es next bad found is = by_found (find p es) refl is where
  by_found : (o : Option Entry) → find p es ≡ o → first_error size next o ≡ Some bad → at ≤ bad.offset
  by_found (Some e) some here =
      let after = found_after p bytes at es next e found some in
      let same : record { offset = e.offset } ≡ bad = cc in
      omega (arith, after, ap (λ (x : BadArchive). x.offset) same)
  by_found None none here = by_test (nat_lt next size) here where
    by_test : (b : Bool) → (if b then Some (record { offset = next }) else None) ≡ Some bad → at ≤ bad.offset
    by_test true it =
        let same : record { offset = next } ≡ bad = cc in
        omega (arith, next_after bytes at es next found, ap (λ (x : BadArchive). x.offset) same)
    by_test false it = absurd (cc)

-- the archive is read up to its last byte
module _ (options : ReadOptions) (bytes : List ℕ) (before later : List Entry) (next : ℕ) (found : AreEntries bytes 8 (before ++ later) next)
    (modules : List Parts) (read : AreRead options bytes (filter is_member_entry before) modules) (members : List Member)
    (error : Option BadArchive) (l : IsListed bytes (before ++ later) next members error) where
  abbrev names : List ℕ
  names = long_names bytes (before ++ later)

  abbrev refuses : Entry → Bool
  refuses = is_refused names (length bytes)

  its_walk : Walk options bytes names (length bytes) before later modules
  its_walk = walk options bytes names (length bytes) 8 before later next modules found read

  -- the error, if it is that of an entry
  error_at : (e : Entry) → find refuses (before ++ later) ≡ Some e → error ≡ Some (record { offset = e.offset })
  error_at e is = l.refused ∙ ap (first_error (length bytes) next) is

  -- the members, if these entries are before the first error
  members_are : (es : List Entry) → before_first refuses (before ++ later) ≡ es → members ≡ members_of names es
  members_are es is = l.listed ∙ ap (members_of names) is

  incomplete : (e : Entry) → length bytes < e.end → refuses e ≡ true
  incomplete e short = by_test (nat_lt (length bytes) e.end) refl (is_member e.label && is_none (name_of names e.label)) where
    by_test : (b : Bool) → nat_lt (length bytes) e.end ≡ b → (c : Bool) → (b || c) ≡ true
    by_test true is c = refl
    by_test false is c = absurd (grind (arith, nat_tests))

  abbrev AreAccepted : List Parts → Type 0
  AreAccepted ms = AreModulesOf options bytes members ms

  -- the modules of the entries before, if the members are theirs
  accepted_before : (sound : AreSound options bytes names (length bytes) before later modules) → before_first refuses later ≡ [] → AreAccepted modules
  accepted_before sound none =
      let are = members_are before (sound.first ∙ ap (λ es. before ++ es) none ∙ append-nil before) in
      subst (λ ms. AreModulesOf options bytes ms modules) (sym are) sound.accepted

  accepted_bad : (bad : HasBad options bytes names (length bytes) before later) → AreAccepted bad.modules
  accepted_bad bad = subst (λ ms. AreModulesOf options bytes ms bad.modules) (sym (members_are _ refl)) bad.accepted

-- no member is refused, and there is no error
pub all_accepted : (options : ReadOptions) (bytes : List ℕ) (before later : List Entry) (next : ℕ) → AreEntries bytes 8 (before ++ later) next
    → (modules : List Parts) → AreRead options bytes (filter is_member_entry before) modules → (reader : Option State)
    → ArePending options bytes later reader None → (members : List Member) → IsListed bytes (before ++ later) next members None
    → AreModulesOf options bytes members modules
all_accepted options bytes before later next found modules read reader pending members l =
    by_walk (its_walk options bytes before later next found modules read members None l)
  where
    by_walk : Walk options bytes (long_names bytes (before ++ later)) (length bytes) before later modules → AreModulesOf options bytes members modules
    by_walk (inr bad) = let is = error_at options bytes before later next found modules read members None l bad.bad bad.found in absurd (cc)
    by_walk (inl sound) = by_later later refl pending where
      by_later : (es : List Entry) → later ≡ es → ArePending options bytes es reader None → AreModulesOf options bytes members modules
      by_later [] none is = accepted_before options bytes before later next found modules read members None l sound
          (ap (before_first (is_refused (long_names bytes (before ++ later)) (length bytes))) none)
      by_later (e ∷ es) some is =
          let refuses = is_refused (long_names bytes (before ++ later)) (length bytes) in
          let cut = incomplete options bytes before later next found modules read members None l e is.0 in
          let here = error_at options bytes before later next found modules read members None l e
          (sound.found ∙ ap (find refuses) some ∙ find_passes refuses e es cut) in absurd (cc)

-- an early error is one of all bytes
refused_early : (options : ReadOptions) (bytes : List ℕ) (offset : ℕ) (reason : Reason) → IsRefusedEarly options bytes offset reason
    → IsRefusedAt options bytes offset reason
refused_early options bytes offset reason early =
    subst (λ l. IsRefusedAt options l offset reason) (sym early.split)
    (refusal_goes_on options early.front early.rest offset reason early.fits early.refused)

-- the error of a member is after the start of its entry, and not after the end of its contents
error_inside : (options : ReadOptions) (bytes : List ℕ) (at : ℕ) (e : Entry) (r : ReadRefusal) → entry_at bytes at ≡ Some e
    → HasError options e (contents_of bytes e) (e.end ≤ length bytes) r → (e.offset < r.offset) × (r.offset ≤ e.end)
error_inside options bytes at e r is error =
    let parts = entry_parts at (take 60 (drop at bytes)) e is in
    let offset = parts.offset in let start = parts.start in let order = parts.order in
    let place = error.place in let within = error.within in let few = contents_length bytes e in
    (omega (arith, offset, start, place), omega (arith, order, place, within, few))

-- the error of the archive is in an entry before the first member that is refused
pub error_first : (options : ReadOptions) (bytes : List ℕ) (before later : List Entry) (next : ℕ) → AreEntries bytes 8 (before ++ later) next
    → (modules : List Parts) → AreRead options bytes (filter is_member_entry before) modules → (reader : Option State) (r : Option ReadRefusal)
    → ArePending options bytes later reader r → (members : List Member) (bad : BadArchive) → IsListed bytes (before ++ later) next members (Some bad)
    → IfSome r (λ f. bad.offset < f.offset) → (ms : List Parts) × AreModulesOf options bytes members ms
error_first options bytes before later next found modules read reader r pending members bad l first =
    by_walk (its_walk options bytes before later next found modules read members (Some bad) l)
  where
    Accepted : Type 0
    Accepted = (ms : List Parts) × AreModulesOf options bytes members ms

    by_walk : Walk options bytes (long_names bytes (before ++ later)) (length bytes) before later modules
        → (ms : List Parts) × AreModulesOf options bytes members ms
    by_walk (inr bad_one) =
        (bad_one.modules, accepted_bad options bytes before later next found modules read members (Some bad) l bad_one)
    by_walk (inl sound) =
        (modules, accepted_before options bytes before later next found modules read members (Some bad) l sound (by_later later r refl pending first))
      where
        refuses : Entry → Bool
        refuses = is_refused (long_names bytes (before ++ later)) (length bytes)

        by_later : (es : List Entry) (o : Option ReadRefusal) → later ≡ es → ArePending options bytes es reader o
            → IfSome o (λ f. bad.offset < f.offset) → before_first (is_refused (long_names bytes (before ++ later)) (length bytes)) later ≡ []
        by_later [] o none is it = ap (before_first (is_refused (long_names bytes (before ++ later)) (length bytes))) none
        by_later (e ∷ es) None some is it =
            let refuses = is_refused (long_names bytes (before ++ later)) (length bytes) in
            let cut = incomplete options bytes before later next found modules read members (Some bad) l e is.0 in
            ap (before_first refuses) some ∙ first_passes refuses e es cut
        by_later (e ∷ es) (Some f) some is it =
            let refuses = is_refused (long_names bytes (before ++ later)) (length bytes) in
            by_test (refuses e) refl
          where
            by_test : (b : Bool) → is_refused (long_names bytes (before ++ later)) (length bytes) e ≡ b
                → before_first (is_refused (long_names bytes (before ++ later)) (length bytes)) later ≡ []
            by_test true refused =
                let refuses = is_refused (long_names bytes (before ++ later)) (length bytes) in
                ap (before_first refuses) some ∙ first_passes refuses e es refused
            by_test false kept =
                let refuses = is_refused (long_names bytes (before ++ later)) (length bytes) in
                let place = later_entries bytes 8 before later next found in
                let here = subst (λ xs. AreEntries bytes place.0 xs next) some place.1 in
                let its = error_inside options bytes place.0 e f here.0 is in
                let error = l.refused ∙ ap (first_error (length bytes) next)
                (sound.found ∙ ap (find refuses) some ∙ find_fails refuses e es kept) in
                let after = error_after refuses bytes (length bytes) (next_offset e) es next bad here.1 (sym error) in
                absurd (omega (arith, it, its.1, after))

-- the first member that is refused is in an entry before the error of the archive
pub refusal_first : (options : ReadOptions) (bytes : List ℕ) (before later : List Entry) (next : ℕ) → AreEntries bytes 8 (before ++ later) next
    → (modules : List Parts) → AreRead options bytes (filter is_member_entry before) modules → (reader : Option State) (r : ReadRefusal)
    → ArePending options bytes later reader (Some r) → (members : List Member) (error : Option BadArchive)
    → IsListed bytes (before ++ later) next members error
    → IfSome error (λ bad. r.offset ≤ bad.offset) → IsFirstRefused options bytes members r.offset r.reason
refusal_first options bytes before later next found modules read reader r pending members error l first = by_later later refl pending where
  by_later : (es : List Entry) → later ≡ es → ArePending options bytes es reader (Some r) → IsFirstRefused options bytes members r.offset r.reason
  by_later [] none is = absurd is
  by_later (e ∷ es) some is =
      by_walk (its_walk options bytes before later next found modules read members error l)
    where
      names : List ℕ
      names = long_names bytes (before ++ later)

      here : (from : ℕ) × AreEntries bytes from (e ∷ es) next
      here = let place = later_entries bytes 8 before later next found in (place.0, subst (λ xs. AreEntries bytes place.0 xs next) some place.1)

      inside : (e.offset < r.offset) × (r.offset ≤ e.end)
      inside = error_inside options bytes here.0 e r here.1.0 is

      too_late : (x : Entry) → error ≡ Some (record { offset = x.offset }) → x.offset < r.offset → ⊥
      too_late x is below =
          let after = subst (λ (o : Option BadArchive). IfSome o (λ bad. r.offset ≤ bad.offset)) is first in omega (arith, after, below)

      by_walk : Walk options bytes (long_names bytes (before ++ later)) (length bytes) before later modules
          → IsFirstRefused options bytes members r.offset r.reason
      by_walk (inr bad) =
          let starts = subst (λ xs. StartAfter (bad.bad.offset + 1) xs) some bad.earlier in
          let parts = entry_parts here.0 (take 60 (drop here.0 bytes)) e here.1.0 in
          let place = is.place in let start = starts.0 in
          absurd (too_late bad.bad (error_at options bytes before later next found modules read members error l bad.bad bad.found)
          (omega (arith, place, start)))
      by_walk (inl sound) = by_test (is_refused (long_names bytes (before ++ later)) (length bytes) e) refl where
        by_test : (b : Bool) → is_refused (long_names bytes (before ++ later)) (length bytes) e ≡ b
            → IsFirstRefused options bytes members r.offset r.reason
        by_test true refused =
            let refuses = is_refused (long_names bytes (before ++ later)) (length bytes) in
            absurd (too_late e (error_at options bytes before later next found modules read members error l e
            (sound.found ∙ ap (find refuses) some ∙ find_passes refuses e es refused)) inside.0)
        by_test false kept =
            let its_names = long_names bytes (before ++ later) in
            let refuses = is_refused its_names (length bytes) in
            let named = member_named its_names (length bytes) e kept is.member in
            let rest = before_first refuses es in
            let are = members_are options bytes before later next found modules read members error l (before ++ e ∷ rest)
            (sound.first ∙ ap (λ xs. before ++ before_first refuses xs) some ∙ ap (λ xs. before ++ xs) (first_fails refuses e es kept)) in
            record {
              before = members_of its_names before;
              member = the_member named.0 e;
              after = members_of its_names rest;
              split = are ∙ filter_map-append (member_of its_names) before (e ∷ rest)
                  ∙ ap (λ xs. members_of its_names before ++ xs) (members_some its_names e rest (the_member named.0 e) named.2);
              modules = modules;
              accepted = sound.accepted;
              inside = is.inside;
              place = is.place;
              judged = judged (ends_inside its_names (length bytes) e kept) is.judged;
            }
          where
            judged : e.end ≤ length bytes → (IsRefusedEarly options (contents_of bytes e) is.inside r.reason
                ⊎ ((e.end ≤ length bytes) × IsJudged options (contents_of bytes e) (refusal is.inside r.reason)))
                → IsJudged options (contents_of bytes e) (refusal is.inside r.reason)
            judged whole (inl early) = inl (refused_early options (contents_of bytes e) is.inside r.reason early)
            judged whole (inr (complete, it)) = it
