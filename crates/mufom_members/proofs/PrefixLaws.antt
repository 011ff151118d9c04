-- An error of the first bytes of an archive that counts past a limit is that of the archive, whatever follows them.
use Rattle.std.proofs.Common.{◌≡◌, ◌⊎◌, ℕ, ◌+◌, ◌≤◌, ◌∙◌, inl, inr, ◌-◌, sym, ap, refl, Bool, true, false, ◌||◌, ◌&&◌, nat_le, nat_lt, if◌then◌else◌}
use Rattle.std.proofs.Common.{List, [], ◌∷◌, ◌++◌, length, take, drop, Option, Some, None, option_map, subst, length-append, eqb-true, arith}
use Rattle.std.specs.List.{AllByRecursion, before_first, find}
use Rattle.std.specs.Option.{is_none}
use Rattle.std.specs.Str.Parse.{digits_value}
use Rattle.std.proofs.lemmas.Bool.Decides.{nat_tests}
use Rattle.std.proofs.lemmas.List.{length-take}
use Rattle.std.proofs.lemmas.List.Elements.{filter_map-append}
use Rattle.mufom_numbers.specs.declared.reason.Reason.{Reason}
use Rattle.mufom_records.specs.declared.options.ReadOptions.{ReadOptions}
use Rattle.mufom_module.specs.declared.module.Parts.{Parts}
use Rattle.mufom_judging.specs.Judging.{IsJudged, IsModule, refusal}
use Rattle.mufom_archive.specs.declared.entry.Entry.{Entry}
use Rattle.mufom_archive.specs.declared.listing.BadArchive.{BadArchive}
use Rattle.mufom_archive.specs.Names.{begins_past, ends_name, is_long_names, is_member, is_reference, long_name, name_of, trimmed, without_slash}
use Rattle.mufom_archive.specs.Entries.{AreEntries, contents_of, contents_of_table, entry_at, entry_of, lacks_header}
use Rattle.mufom_archive.specs.Entries.{long_names, next_offset, offset_after, room_for_names}
use Rattle.mufom_archive.specs.Entries.{size_of_table, table_among}
use Rattle.mufom_archive.specs.Listings.{IsListing, Member, first_error, first_nameless, is_at, is_refused, lacks_long_name, lacks_name, member_of, members_of}
use Rattle.mufom_archive.proofs.EntryLaws.{entries_are, entries_stay, entry_parts, found_entry, header_stays, one_reading}
use Rattle.mufom_archive.proofs.ListingLaws.{each_listing, offset_after_is}
use Rattle.mufom_archive.proofs.OnlyLaws.{all_before}
use Rattle.mufom_members.specs.Files.{AreModulesOf, IsArchiveVerdict, IsFirstRefused, accepted, bad_archive, contents_at, past_limit, refused}
use Rattle.mufom_members.specs.Laws.{PrefixErrorsStay}
use Rattle.mufom_members.proofs.EntryOrder.{contents_grow, contents_stay, part_of}
use Rattle.mufom_members.proofs.Walk.{ends_inside, find_fails, find_passes, first_fails, first_passes, member_named}
use Rattle.mufom_members.proofs.Walk.{members_none, members_some, not_member, the_member}

-- ---- lists of entries

-- the entries of more bytes go on where those of the first ones end
entries_split : (bytes : List ℕ) (at : ℕ) (es fs : List Entry) (m n : ℕ) → AreEntries bytes at es m → AreEntries bytes at fs n → entry_at bytes n ≡ None
    → (gs : List Entry) × (fs ≡ es ++ gs)
entries_split bytes at [] fs m n a b last = (fs, refl)
entries_split bytes at (e ∷ es) [] m n a b last = let none = ap (entry_at bytes) b ∙ last in let some = a.0 in absurd (cc)
entries_split bytes at (e ∷ es) (f ∷ fs) m n a b last =
    let one = a.0 in let two = b.0 in let same : e ≡ f = cc in
    let rest = entries_split bytes (next_offset e) es fs m n a.1 (subst (λ (x : Entry). AreEntries bytes (next_offset x) fs n) (sym same) b.1) last in
    (rest.0, (λ i. sym same i ∷ rest.1 i))

find_stays : (p : Entry → Bool) (es fs : List Entry) (t : Entry) → find p es ≡ Some t → find p (es ++ fs) ≡ Some t
find_stays p [] fs t is = absurd (cc)
find_stays p (e ∷ es) fs t is = by_case (p e) is (find_stays p es fs t) where
  by_case : (b : Bool) → (if b then Some e else find p es) ≡ Some t → (find p es ≡ Some t → find p (es ++ fs) ≡ Some t)
      → (if b then Some e else find p (es ++ fs)) ≡ Some t
  by_case true here further = here
  by_case false here further = further here

-- what is before the first element that one test passes, if a weaker one passes it too
first_stays : (p q : Entry → Bool) → ((e : Entry) → p e ≡ false → q e ≡ false) → (es fs : List Entry)
    → (extra : List Entry) × (before_first q (es ++ fs) ≡ before_first p es ++ extra)
first_stays p q weaker [] fs = (before_first q fs, refl)
first_stays p q weaker (e ∷ es) fs = by_case (p e) refl (first_stays p q weaker es fs) where
  by_case : (b : Bool) → p e ≡ b → ((extra : List Entry) × (before_first q (es ++ fs) ≡ before_first p es ++ extra))
      → (extra : List Entry) × (before_first q (e ∷ (es ++ fs)) ≡ before_first p (e ∷ es) ++ extra)
  by_case true is rest = (before_first q (e ∷ (es ++ fs)), ap (λ l. l ++ before_first q (e ∷ (es ++ fs))) (sym (first_passes p e es is)))
  by_case false is rest = (
    rest.0,
    first_fails q e (es ++ fs) (weaker e is) ∙ ap (λ l. e ∷ l) rest.1 ∙ ap (λ l. l ++ rest.0) (sym (first_fails p e es is)),
  )

first_none : (p q : Entry → Bool) → ((e : Entry) → p e ≡ false → q e ≡ false) → (es : List Entry) → find p es ≡ None → find q es ≡ None
first_none p q weaker [] none = refl
first_none p q weaker (e ∷ es) none = by_case (p e) refl none (first_none p q weaker es) where
  by_case : (b : Bool) → p e ≡ b → (if b then Some e else find p es) ≡ None → (find p es ≡ None → find q es ≡ None) → find q (e ∷ es) ≡ None
  by_case true is none rest = absurd (cc)
  by_case false is none rest = ap (λ b. if b then Some e else find q es) (weaker e is) ∙ rest none

-- If a test that fewer pass still passes the first element that the other passes, that one is its first element too, and the same ones
-- are before it.
find_both : (p q : Entry → Bool) → ((e : Entry) → p e ≡ false → q e ≡ false) → (es fs : List Entry) (x : Entry) → find p es ≡ Some x → q x ≡ true
    → (find q (es ++ fs) ≡ Some x) × (before_first q (es ++ fs) ≡ before_first p es)
find_both p q weaker [] fs x found passes = absurd (cc)
find_both p q weaker (e ∷ es) fs x found passes = by_case (p e) refl found (λ later. find_both p q weaker es fs x later passes) where
  by_case : (b : Bool) → p e ≡ b → (if b then Some e else find p es) ≡ Some x
      → (find p es ≡ Some x → (find q (es ++ fs) ≡ Some x) × (before_first q (es ++ fs) ≡ before_first p es))
      → (find q (e ∷ (es ++ fs)) ≡ Some x) × (before_first q (e ∷ (es ++ fs)) ≡ before_first p (e ∷ es))
  by_case true is here rest =
      let same : e ≡ x = cc in let passed : q e ≡ true = ap q same ∙ passes in (
        find_passes q e (es ++ fs) passed ∙ here,
        first_passes q e (es ++ fs) passed ∙ sym (first_passes p e es is),
      )
  by_case false is later rest =
      let both = rest later in let failed = weaker e is in (
        find_fails q e (es ++ fs) failed ∙ both.0,
        first_fails q e (es ++ fs) failed ∙ ap (λ l. e ∷ l) both.1 ∙ sym (first_fails p e es is),
      )

found_so : (p : Entry → Bool) (es : List Entry) (x : Entry) → find p es ≡ Some x → p x ≡ true
found_so p [] x found = absurd (cc)
found_so p (e ∷ es) x found = by_case (p e) refl found (found_so p es x) where
  by_case : (b : Bool) → p e ≡ b → (if b then Some e else find p es) ≡ Some x → (find p es ≡ Some x → p x ≡ true) → p x ≡ true
  by_case true is here rest = let same : e ≡ x = cc in ap p (sym same) ∙ is
  by_case false is later rest = rest later

abbrev AreKept : (Entry → Bool) → List Entry → Type 0
AreKept p es = AllByRecursion (λ e. p e ≡ false) es

first_kept : (p : Entry → Bool) (es : List Entry) → AreKept p (before_first p es)
first_kept p [] = tt
first_kept p (e ∷ es) = by_case (p e) refl (first_kept p es) where
  by_case : (b : Bool) → p e ≡ b → AreKept p (before_first p es) → AreKept p (before_first p (e ∷ es))
  by_case true is rest = subst (AreKept p) (sym (first_passes p e es is)) tt
  by_case false is rest = subst (AreKept p) (sym (first_fails p e es is)) (is, rest)

-- ---- names

-- a label lacks its name in each table of at most this size
not_named : (size : ℕ) (table : List ℕ) (label : List ℕ) → length table ≤ size → begins_past size label ≡ true → is_none (name_of table label) ≡ true
not_named size table label few past =
    by_kind (is_reference (without_slash (trimmed label))) (digits_value 10 (drop 1 (without_slash (trimmed label)))) past
  where
    by_test : (at : ℕ) (a b : Bool) → nat_lt size at ≡ a → nat_le at (length table) ≡ b → a ≡ true
        → is_none (if b then Some (before_first ends_name (drop at table)) else None) ≡ true
    by_test at a false one two is = refl
    by_test at true true one two is = absurd (grind (arith, nat_tests, few))
    by_test at false true one two is = absurd (cc)

    by_kind : (reference : Bool) (at : ℕ) → (reference && nat_lt size at) ≡ true
        → is_none (if reference then long_name table at else Some (without_slash (trimmed label))) ≡ true
    by_kind true at is = by_test at (nat_lt size at) (nat_le at (length table)) refl refl is
    by_kind false at is = absurd (cc)

contents_few : (bytes : List ℕ) (e : Entry) → length (contents_of bytes e) ≤ e.end - e.start
contents_few bytes e = omega (arith, length-take (e.end - e.start) (drop e.start bytes))

-- an entry that lacks its name in each table of at most this size is refused
refused_nameless : (table : List ℕ) (n size : ℕ) (e : Entry) → length table ≤ size → lacks_name size e ≡ true → is_refused table n e ≡ true
refused_nameless table n size e few lacks = by_test (nat_lt n e.end) (is_member e.label) (begins_past size e.label) refl lacks where
  by_test : (a b c : Bool) → begins_past size e.label ≡ c → (b && c) ≡ true → (a || (b && is_none (name_of table e.label))) ≡ true
  by_test true b c past is = refl
  by_test false true true past is = not_named size table e.label few past
  by_test false true false past is = absurd (cc)
  by_test false false c past is = absurd (cc)

-- ---- entries that are not refused

-- a longer table has the names that a shorter one has
named_so : (names more : List ℕ) (label : List ℕ) → length names ≤ length more → is_none (name_of names label) ≡ false → is_none (name_of more label) ≡ false
named_so names more label longer named =
    by_kind (is_reference (without_slash (trimmed label))) (digits_value 10 (drop 1 (without_slash (trimmed label)))) named
  where
    by_test : (at : ℕ) (a b : Bool) → nat_le at (length names) ≡ a → nat_le at (length more) ≡ b
        → is_none (if a then Some (before_first ends_name (drop at names)) else None) ≡ false
        → is_none (if b then Some (before_first ends_name (drop at more)) else None) ≡ false
    by_test at true true one two is = refl
    by_test at true false one two is = absurd (grind (arith, nat_tests))
    by_test at false b one two is = absurd (cc)

    by_kind : (reference : Bool) (at : ℕ) → is_none (if reference then long_name names at else Some (without_slash (trimmed label))) ≡ false
        → is_none (if reference then long_name more at else Some (without_slash (trimmed label))) ≡ false
    by_kind true at is = by_test at (nat_le at (length names)) (nat_le at (length more)) refl refl is
    by_kind false at is = refl

module _ (bytes more : List ℕ) (es all : List Entry) (stays : (t : Entry) → table_among es ≡ Some t → table_among all ≡ Some t) where
  abbrev names : List ℕ
  names = long_names bytes es

  abbrev longer : List ℕ
  longer = long_names (bytes ++ more) all

  table_grows : length (long_names bytes es) ≤ length (long_names (bytes ++ more) all)
  table_grows = by_table (table_among es) refl where
    by_table : (o : Option Entry) → table_among es ≡ o → length (contents_of_table bytes o) ≤ length (long_names (bytes ++ more) all)
    by_table None is = omega arith
    by_table (Some t) is =
        let same : long_names (bytes ++ more) all ≡ contents_of bytes t ++ part_of t (length bytes) more
        = ap (contents_of_table (bytes ++ more)) (stays t is) ∙ contents_grow bytes more t in
        omega (arith, ap length same, length-append (contents_of bytes t) (part_of t (length bytes) more))

  -- an entry that is not refused in the first bytes is not refused
  kept_still : (e : Entry) → is_refused (long_names bytes es) (length bytes) e ≡ false
      → is_refused (long_names (bytes ++ more) all) (length (bytes ++ more)) e ≡ false
  kept_still e kept = λ i. (size_fits (nat_lt (length (bytes ++ more)) e.end) refl i)
      || (by_member (is_member e.label) (nat_lt (length bytes) e.end) kept i) where
        size_fits : (b : Bool) → nat_lt (length (bytes ++ more)) e.end ≡ b → b ≡ false
        size_fits false is = refl
        size_fits true is =
            let inside = ends_inside (long_names bytes es) (length bytes) e kept in
            absurd (grind (arith, nat_tests, inside, length-append bytes more))

        by_member : (member other : Bool) → (other || (member && is_none (name_of (long_names bytes es) e.label))) ≡ false
            → (member && is_none (name_of (long_names (bytes ++ more) all) e.label)) ≡ false
        by_member false other is = refl
        by_member true true is = absurd (cc)
        by_member true false is = named_so (long_names bytes es) (long_names (bytes ++ more) all) e.label table_grows is

  abbrev AreSound : List Entry → Type 0
  AreSound ks = AreKept (is_refused (long_names bytes es) (length bytes)) ks

  -- the member that an entry is, with fewer bytes and with all
  pub record IsMember (e : Entry) : Type 0 where
    pub name : List ℕ
    pub other : List ℕ
    pub is : member_of (long_names bytes es) e ≡ Some (the_member name e)
    pub still : member_of (long_names (bytes ++ more) all) e ≡ Some (the_member other e)

  member_still : (e : Entry) → is_refused (long_names bytes es) (length bytes) e ≡ false → is_member e.label ≡ true → IsMember e
  member_still e kept member =
      let one = member_named (long_names bytes es) (length bytes) e kept member in
      let two = member_named (long_names (bytes ++ more) all) (length (bytes ++ more)) e (kept_still e kept) member in
      record { name = one.0; other = two.0; is = one.2; still = two.2 }

  same_contents : (e : Entry) → is_refused (long_names bytes es) (length bytes) e ≡ false → contents_of (bytes ++ more) e ≡ contents_of bytes e
  same_contents e kept = contents_stay bytes more e (ends_inside (long_names bytes es) (length bytes) e kept)

  -- ---- modules

  modules_still : (options : ReadOptions) (ks : List Entry) → AreSound ks → (ms : List Parts)
      → AreModulesOf options bytes (members_of (long_names bytes es) ks) ms
      → AreModulesOf options (bytes ++ more) (members_of (long_names (bytes ++ more) all) ks) ms
  modules_still options [] kept [] are = tt
  modules_still options [] kept (m ∷ ms) are = absurd are
  modules_still options (e ∷ ks) kept ms are = by_member (is_member e.label) refl (modules_still options ks kept.1) where
    by_member : (b : Bool) → is_member e.label ≡ b → ((ms : List Parts) → AreModulesOf options bytes (members_of (long_names bytes es) ks) ms
        → AreModulesOf options (bytes ++ more) (members_of (long_names (bytes ++ more) all) ks) ms)
        → AreModulesOf options (bytes ++ more) (members_of (long_names (bytes ++ more) all) (e ∷ ks)) ms
    by_member false other rest =
        let fewer = members_none (long_names bytes es) e ks (not_member (long_names bytes es) e other) in
        let whole = members_none (long_names (bytes ++ more) all) e ks (not_member (long_names (bytes ++ more) all) e other) in
        subst (λ l. AreModulesOf options (bytes ++ more) l ms) (sym whole)
        (rest ms (subst (λ l. AreModulesOf options bytes l ms) fewer are))
    by_member true member rest = by_modules ms (subst (λ l. AreModulesOf options bytes l ms) fewer are) where
      it : IsMember e
      it = member_still e kept.0 member

      fewer : members_of (long_names bytes es) (e ∷ ks) ≡ the_member it.name e ∷ members_of (long_names bytes es) ks
      fewer = members_some (long_names bytes es) e ks (the_member it.name e) it.is

      whole : members_of (long_names (bytes ++ more) all) (e ∷ ks) ≡ the_member it.other e ∷ members_of (long_names (bytes ++ more) all) ks
      whole = members_some (long_names (bytes ++ more) all) e ks (the_member it.other e) it.still

      by_modules : (ms : List Parts) → AreModulesOf options bytes (the_member it.name e ∷ members_of (long_names bytes es) ks) ms
          → AreModulesOf options (bytes ++ more) (members_of (long_names (bytes ++ more) all) (e ∷ ks)) ms
      by_modules [] are = absurd are
      by_modules (m ∷ ms) are = subst (λ l. AreModulesOf options (bytes ++ more) l (m ∷ ms)) (sym whole) (
        subst (λ l. IsModule options l m) (sym (same_contents e kept.0)) are.0,
        rest ms are.1,
      )

-- ---- the first member that is refused

-- going through the members
abbrev IsFound : ReadOptions → List ℕ → List Member → ℕ → Reason → Type 0
IsFound options bytes [] offset reason = ⊥
IsFound options bytes (m ∷ members) offset reason =
    ((inside : ℕ) × (offset ≡ m.start + inside) × IsJudged options (contents_at bytes m) (refusal inside reason))
    ⊎ (((p : Parts) × IsModule options (contents_at bytes m) p) × IsFound options bytes members offset reason)

found_first : (options : ReadOptions) (bytes : List ℕ) (before : List Member) (m : Member) (after : List Member) (ms : List Parts) (inside offset : ℕ)
    (reason : Reason) → AreModulesOf options bytes before ms → offset ≡ m.start + inside
    → IsJudged options (contents_at bytes m) (refusal inside reason) → IsFound options bytes (before ++ m ∷ after) offset reason
found_first options bytes [] m after ms inside offset reason are place judged = inl (inside, place, judged)
found_first options bytes (x ∷ before) m after [] inside offset reason are place judged = absurd are
found_first options bytes (x ∷ before) m after (p ∷ ms) inside offset reason are place judged =
    inr ((p, are.0), found_first options bytes before m after ms inside offset reason are.1 place judged)

first_found : (options : ReadOptions) (bytes : List ℕ) (members : List Member) (offset : ℕ) (reason : Reason)
    → IsFound options bytes members offset reason → IsFirstRefused options bytes members offset reason
first_found options bytes [] offset reason found = absurd found
first_found options bytes (m ∷ members) offset reason (inl here) = record {
  before = [];
  member = m;
  after = members;
  split = refl;
  modules = [];
  accepted = tt;
  inside = here.0;
  place = here.1;
  judged = here.2;
}
first_found options bytes (m ∷ members) offset reason (inr later) =
    let rest = first_found options bytes members offset reason later.1 in
    record {
      before = m ∷ rest.before;
      member = rest.member;
      after = rest.after;
      split = ap (λ l. m ∷ l) rest.split;
      modules = later.0.0 ∷ rest.modules;
      accepted = (later.0.1, rest.accepted);
      inside = rest.inside;
      place = rest.place;
      judged = rest.judged;
    }

module _ (bytes more : List ℕ) (es all : List Entry) (stays : (t : Entry) → table_among es ≡ Some t → table_among all ≡ Some t) (options : ReadOptions)
    (offset : ℕ) (reason : Reason) (extra : List Member) where
  abbrev Found : List Entry → Type 0
  Found ks = IsFound options (bytes ++ more) (members_of (long_names (bytes ++ more) all) ks ++ extra) offset reason

  found_still : (ks : List Entry) → AreSound bytes more es all stays ks → IsFound options bytes (members_of (long_names bytes es) ks) offset reason
      → IsFound options (bytes ++ more) (members_of (long_names (bytes ++ more) all) ks ++ extra) offset reason
  found_still [] kept found = absurd found
  found_still (e ∷ ks) kept found = by_member (is_member e.label) refl (found_still ks kept.1) where
    by_member : (b : Bool) → is_member e.label ≡ b → (IsFound options bytes (members_of (long_names bytes es) ks) offset reason → Found ks) → Found (e ∷ ks)
    by_member false other rest =
        let fewer = members_none (long_names bytes es) e ks (not_member (long_names bytes es) e other) in
        let whole = members_none (long_names (bytes ++ more) all) e ks (not_member (long_names (bytes ++ more) all) e other) in
        subst (λ l. IsFound options (bytes ++ more) (l ++ extra) offset reason) (sym whole)
        (rest (subst (λ l. IsFound options bytes l offset reason) fewer found))
    by_member true member rest =
        subst (λ l. IsFound options (bytes ++ more) (l ++ extra) offset reason) (sym whole)
        (by_found (subst (λ l. IsFound options bytes l offset reason) fewer found)) where
          it : IsMember bytes more es all stays e
          it = member_still bytes more es all stays e kept.0 member

          fewer : members_of (long_names bytes es) (e ∷ ks) ≡ the_member it.name e ∷ members_of (long_names bytes es) ks
          fewer = members_some (long_names bytes es) e ks (the_member it.name e) it.is

          whole : members_of (long_names (bytes ++ more) all) (e ∷ ks) ≡ the_member it.other e ∷ members_of (long_names (bytes ++ more) all) ks
          whole = members_some (long_names (bytes ++ more) all) e ks (the_member it.other e) it.still

          same : contents_of (bytes ++ more) e ≡ contents_of bytes e
          same = same_contents bytes more es all stays e kept.0

          by_found : IsFound options bytes (the_member it.name e ∷ members_of (long_names bytes es) ks) offset reason
              → IsFound options (bytes ++ more) (the_member it.other e ∷ (members_of (long_names (bytes ++ more) all) ks ++ extra)) offset reason
          by_found (inl here) = inl (here.0, here.1, subst (λ l. IsJudged options l (refusal here.0 reason)) (sym same) here.2)
          by_found (inr later) =
              inr ((later.0.0, subst (λ l. IsModule options l later.0.0) (sym same) later.0.1), rest later.1)

-- ---- the law

module _ (options : ReadOptions) (bytes more : List ℕ) where
  refused_stays : (offset : ℕ) (reason : Reason) → IsArchiveVerdict options bytes (refused offset reason)
      → IsArchiveVerdict options (bytes ++ more) (refused offset reason)
  refused_stays offset reason is = (
    each.0,
    each.1,
    each.2,
    first_found options (bytes ++ more) each.0 offset reason
        (subst (λ l. IsFound options (bytes ++ more) l offset reason) (sym listed)
        (found_still bytes more l.entries (l.entries ++ split.0) stays options offset reason _
        (before_first (is_refused (long_names bytes l.entries) (length bytes)) l.entries)
        (first_kept (is_refused (long_names bytes l.entries) (length bytes)) l.entries) found)),
  ) where
    l : IsListing bytes is.0 is.1
    l = is.2

    each : (ms : List Member) × (error : Option BadArchive) × IsListing (bytes ++ more) ms error
    each = each_listing (bytes ++ more)

    split : (gs : List Entry) × (each.2.entries ≡ l.entries ++ gs)
    split = entries_split (bytes ++ more) 8 l.entries each.2.entries l.next each.2.next (entries_stay bytes more 8 l.entries l.next l.found) each.2.found
        each.2.last

    stays : (t : Entry) → table_among l.entries ≡ Some t → table_among (l.entries ++ split.0) ≡ Some t
    stays t some = find_stays (λ e. is_long_names e.label) l.entries split.0 t some

    first : (extra : List Entry) × (before_first (is_refused (long_names (bytes ++ more) (l.entries ++ split.0)) (length (bytes ++ more)))
        (l.entries ++ split.0)
        ≡ before_first (is_refused (long_names bytes l.entries) (length bytes)) l.entries ++ extra)
    first = first_stays (is_refused (long_names bytes l.entries) (length bytes))
        (is_refused (long_names (bytes ++ more) (l.entries ++ split.0)) (length (bytes ++ more)))
        (kept_still bytes more l.entries (l.entries ++ split.0) stays) l.entries split.0

    listed : each.0 ≡ members_of (long_names (bytes ++ more) (l.entries ++ split.0))
        (before_first (is_refused (long_names bytes l.entries) (length bytes)) l.entries)
        ++ members_of (long_names (bytes ++ more) (l.entries ++ split.0)) first.0
    listed =
        each.2.listed
        ∙ (λ i. members_of (long_names (bytes ++ more) (split.1 i))
        (before_first (is_refused (long_names (bytes ++ more) (split.1 i)) (length (bytes ++ more))) (split.1 i)))
        ∙ ap (members_of (long_names (bytes ++ more) (l.entries ++ split.0))) first.1
        ∙ filter_map-append (member_of (long_names (bytes ++ more) (l.entries ++ split.0)))
        (before_first (is_refused (long_names bytes l.entries) (length bytes)) l.entries) first.0

    found : IsFound options bytes (members_of (long_names bytes l.entries) (before_first (is_refused (long_names bytes l.entries) (length bytes)) l.entries))
        offset reason
    found =
        let it = is.3 in
        subst (λ m. IsFound options bytes m offset reason) (sym it.split ∙ l.listed)
        (found_first options bytes it.before it.member it.after it.modules it.inside offset reason it.accepted it.place it.judged)

  and_left : (a b : Bool) → (a && b) ≡ true → a ≡ true
  and_left true b is = refl
  and_left false b is = is

  bad_same : (a b : ℕ) → ◌≡◌ {A = Option BadArchive} (Some (record { offset = a })) (Some (record { offset = b })) → a ≡ b
  bad_same a b is =
      let errors : ◌≡◌ {A = BadArchive} (record { offset = a }) (record { offset = b }) = cc in
      ap (λ (x : BadArchive). x.offset) errors

  -- the error is that of what follows the entries, and no entry is refused
  pub record IsLast (entries : List Entry) (next offset : ℕ) : Type 0 where
    pub none : find (is_refused (long_names bytes entries) (length bytes)) entries ≡ None
    pub place : offset ≡ next

  is_last : (members : List Member) (offset : ℕ) → (l : IsListing bytes members (Some (record { offset = offset }))) → lacks_header bytes offset ≡ true
      → IsLast l.entries l.next offset
  is_last members offset l lacks = by_found (find (is_refused (long_names bytes l.entries) (length bytes)) l.entries) refl l.refused where
    by_found : (o : Option Entry) → find (is_refused (long_names bytes l.entries) (length bytes)) l.entries ≡ o
        → ◌≡◌ {A = Option BadArchive} (Some (record { offset = offset })) (first_error (length bytes) l.next o) → IsLast l.entries l.next offset
    by_found (Some e) found is =
        let at = found_entry (is_refused (long_names bytes l.entries) (length bytes)) bytes 8 l.entries l.next e l.found found in
        let parts = entry_parts at.0 (take 60 (drop at.0 bytes)) e at.1 in
        let error = bad_same offset e.offset is in
        let here : offset ≡ at.0 = error ∙ parts.offset in
        absurd (wrong e (ap (entry_at bytes) here ∙ at.1))
      where
        no_and : (b : Bool) → (b && false) ≡ true → ⊥
        no_and true is = cc
        no_and false is = cc

        wrong : (e : Entry) → entry_at bytes offset ≡ Some e → ⊥
        wrong e is = no_and (nat_le (offset + 60) (length bytes))
            (sym (ap (λ (o : Option Entry). nat_le (offset + 60) (length bytes) && is_none o) is) ∙ lacks)
    by_found None found is = by_test (nat_lt l.next (length bytes)) is where
      by_test : (b : Bool) → ◌≡◌ {A = Option BadArchive} (Some (record { offset = offset }))
          (if b then Some (record { offset = l.next }) else None) → IsLast l.entries l.next offset
      by_test true is =
          let error = bad_same offset l.next is in
          record { none = found; place = error }
      by_test false is = absurd (cc)

  bad_stays : (offset : ℕ) → lacks_header bytes offset ≡ true → IsArchiveVerdict options bytes (bad_archive offset)
      → IsArchiveVerdict options (bytes ++ more) (bad_archive offset)
  bad_stays offset lacks is = (
    members_of (long_names (bytes ++ more) l.entries)
        (before_first (is_refused (long_names (bytes ++ more) l.entries) (length (bytes ++ more))) l.entries),
    is.1,
    record {
      entries = l.entries;
      next = l.next;
      found = entries_stay bytes more 8 l.entries l.next l.found;
      last = ap (entry_of l.next) (header_stays bytes more l.next inside) ∙ l.last;
      listed = refl;
      refused = error;
    },
    subst (λ m. AreModulesOf options (bytes ++ more) m is.1) (sym listed)
        (modules_still bytes more l.entries l.entries (λ t some. some) options l.entries kept is.1
        (subst (λ m. AreModulesOf options bytes m is.1) (l.listed ∙ ap (members_of (long_names bytes l.entries)) whole) is.3)),
  ) where
    l : IsListing bytes is.0 (Some (record { offset = offset }))
    l = is.2

    it : IsLast l.entries l.next offset
    it = is_last is.0 offset l lacks

    inside : l.next + 60 ≤ length bytes
    inside =
        let fits = and_left (nat_le (offset + 60) (length bytes)) (is_none (entry_at bytes offset)) lacks in
        let place = it.place in grind (arith, nat_tests, fits, place)

    whole : before_first (is_refused (long_names bytes l.entries) (length bytes)) l.entries ≡ l.entries
    whole = all_before (is_refused (long_names bytes l.entries) (length bytes)) l.entries it.none

    kept : AreKept (is_refused (long_names bytes l.entries) (length bytes)) l.entries
    kept = subst (AreKept (is_refused (long_names bytes l.entries) (length bytes))) whole
        (first_kept (is_refused (long_names bytes l.entries) (length bytes)) l.entries)

    none : find (is_refused (long_names (bytes ++ more) l.entries) (length (bytes ++ more))) l.entries ≡ None
    none = first_none (is_refused (long_names bytes l.entries) (length bytes)) (is_refused (long_names (bytes ++ more) l.entries) (length (bytes ++ more)))
        (kept_still bytes more l.entries l.entries (λ t some. some)) l.entries it.none

    listed : members_of (long_names (bytes ++ more) l.entries)
        (before_first (is_refused (long_names (bytes ++ more) l.entries) (length (bytes ++ more))) l.entries)
        ≡ members_of (long_names (bytes ++ more) l.entries) l.entries
    listed = ap (members_of (long_names (bytes ++ more) l.entries))
        (all_before (is_refused (long_names (bytes ++ more) l.entries) (length (bytes ++ more))) l.entries none)

    error : ◌≡◌ {A = Option BadArchive} (Some (record { offset = offset }))
        (first_error (length (bytes ++ more)) l.next (find (is_refused (long_names (bytes ++ more) l.entries) (length (bytes ++ more))) l.entries))
    error = ap (λ n. Some (record { offset = n })) it.place ∙ by_test (nat_lt l.next (length (bytes ++ more))) refl
        ∙ ap (first_error (length (bytes ++ more)) l.next) (sym none) where
          by_test : (b : Bool) → nat_lt l.next (length (bytes ++ more)) ≡ b
              → ◌≡◌ {A = Option BadArchive} (Some (record { offset = l.next })) (if b then Some (record { offset = l.next }) else None)
          by_test true is = refl
          by_test false is = absurd (grind (arith, nat_tests, inside, length-append bytes more))

  -- the first member that lacks its name, whatever follows
  pub record IsNameless (entries : List Entry) (offset : ℕ) : Type 0 where
    pub size : ℕ
    pub room : room_for_names bytes entries ≡ Some size
    pub entry : Entry
    pub found : find (lacks_name size) entries ≡ Some entry
    pub place : entry.offset ≡ offset

  is_nameless : (entries : List Entry) (offset : ℕ) → is_at (first_nameless entries (room_for_names bytes entries)) offset ≡ true → IsNameless entries offset
  is_nameless entries offset is = by_room (room_for_names bytes entries) refl is where
    by_room : (o : Option ℕ) → room_for_names bytes entries ≡ o → is_at (first_nameless entries o) offset ≡ true → IsNameless entries offset
    by_room None none is = absurd (cc)
    by_room (Some size) some is = by_found (find (lacks_name size) entries) refl is where
      by_found : (o : Option Entry) → find (lacks_name size) entries ≡ o → is_at (option_map (λ (e : Entry). e.offset) o) offset ≡ true
          → IsNameless entries offset
      by_found None none is = absurd (cc)
      by_found (Some e) found is = record { size = size; room = some; entry = e; found = found; place = eqb-true e.offset offset is }

  -- the first error is that of this entry
  refused_first : (members : List Member) (offset : ℕ) (l : IsListing bytes members (Some (record { offset = offset }))) (e : Entry)
      → entry_at bytes offset ≡ Some e → find (is_refused (long_names bytes l.entries) (length bytes)) l.entries ≡ Some e
  refused_first members offset l e here = by_found (find (is_refused (long_names bytes l.entries) (length bytes)) l.entries) refl l.refused where
    by_found : (o : Option Entry) → find (is_refused (long_names bytes l.entries) (length bytes)) l.entries ≡ o
        → ◌≡◌ {A = Option BadArchive} (Some (record { offset = offset })) (first_error (length bytes) l.next o) → o ≡ Some e
    by_found (Some f) found is =
        let at = found_entry (is_refused (long_names bytes l.entries) (length bytes)) bytes 8 l.entries l.next f l.found found in
        let parts = entry_parts at.0 (take 60 (drop at.0 bytes)) f at.1 in
        let there : offset ≡ at.0 = bad_same offset f.offset is ∙ parts.offset in
        sym at.1 ∙ ap (entry_at bytes) (sym there) ∙ here
    by_found None found is = by_test (nat_lt l.next (length bytes)) is where
      by_test : (b : Bool) → ◌≡◌ {A = Option BadArchive} (Some (record { offset = offset })) (if b then Some (record { offset = l.next }) else None)
          → ◌≡◌ {A = Option Entry} None (Some e)
      by_test true is = sym l.last ∙ ap (entry_at bytes) (sym (bad_same offset l.next is)) ∙ here
      by_test false is = absurd (cc)

  -- the table of long names has at most the room for names, whatever follows
  room_is_enough : (es all : List Entry) (next end size : ℕ) → AreEntries bytes 8 es next → entry_at bytes next ≡ None
      → AreEntries (bytes ++ more) 8 all end → entry_at (bytes ++ more) end ≡ None
      → ((t : Entry) → table_among es ≡ Some t → table_among all ≡ Some t) → room_for_names bytes es ≡ Some size
      → length (long_names (bytes ++ more) all) ≤ size
  room_is_enough es all next end size found last whole ends stays room = by_table (table_among es) refl room where
    by_table : (o : Option Entry) → table_among es ≡ o → size_of_table o (lacks_header bytes (offset_after 8 es)) ≡ Some size
        → length (long_names (bytes ++ more) all) ≤ size
    by_table (Some t) is room =
        let same : t.end - t.start ≡ size = cc in
        let names : long_names (bytes ++ more) all ≡ contents_of (bytes ++ more) t = ap (contents_of_table (bytes ++ more)) (stays t is) in
        omega (arith, same, ap length names, contents_few (bytes ++ more) t)
    by_table None is room = by_header (lacks_header bytes (offset_after 8 es)) refl room where
      by_header : (b : Bool) → lacks_header bytes (offset_after 8 es) ≡ b → size_of_table None b ≡ Some size → length (long_names (bytes ++ more) all) ≤ size
      by_header false lacks room = absurd (cc)
      by_header true lacks room =
          let lacking : lacks_header bytes next ≡ true = ap (lacks_header bytes) (sym (offset_after_is bytes 8 es next found)) ∙ lacks in
          let fits = and_left (nat_le (next + 60) (length bytes)) (is_none (entry_at bytes next)) lacking in
          let inside : next + 60 ≤ length bytes = grind (arith, nat_tests, fits) in
          let stop : entry_at (bytes ++ more) next ≡ None = ap (entry_of next) (header_stays bytes more next inside) ∙ last in
          let same = (one_reading (bytes ++ more) 8 all es end next whole ends (entries_stay bytes more 8 es next found) stop).0 in
          let none : long_names (bytes ++ more) all ≡ [] = ap (long_names (bytes ++ more)) same ∙ ap (contents_of_table (bytes ++ more)) is in
          omega (arith, ap length none)

  nameless_stays : (offset : ℕ) → lacks_long_name bytes offset ≡ true → IsArchiveVerdict options bytes (bad_archive offset)
      → IsArchiveVerdict options (bytes ++ more) (bad_archive offset)
  nameless_stays offset lacks is = (
    each.0,
    is.1,
    subst (λ o. IsListing (bytes ++ more) each.0 o) error each.2,
    subst (λ m. AreModulesOf options (bytes ++ more) m is.1) (sym listed)
        (modules_still bytes more l.entries (l.entries ++ split.0) stays options (before_first refuses l.entries) (first_kept refuses l.entries) is.1
        (subst (λ m. AreModulesOf options bytes m is.1) l.listed is.3)),
  ) where
    l : IsListing bytes is.0 (Some (record { offset = offset }))
    l = is.2

    each : (ms : List Member) × (error : Option BadArchive) × IsListing (bytes ++ more) ms error
    each = each_listing (bytes ++ more)

    split : (gs : List Entry) × (each.2.entries ≡ l.entries ++ gs)
    split = entries_split (bytes ++ more) 8 l.entries each.2.entries l.next each.2.next (entries_stay bytes more 8 l.entries l.next l.found) each.2.found
        each.2.last

    stays : (t : Entry) → table_among l.entries ≡ Some t → table_among (l.entries ++ split.0) ≡ Some t
    stays t some = find_stays (λ e. is_long_names e.label) l.entries split.0 t some

    refuses : Entry → Bool
    refuses = is_refused (long_names bytes l.entries) (length bytes)

    names : List ℕ
    names = long_names (bytes ++ more) (l.entries ++ split.0)

    it : IsNameless l.entries offset
    it = is_nameless l.entries offset
        (ap (λ es. is_at (first_nameless es (room_for_names bytes es)) offset)
        (entries_are (length bytes) bytes 8 l.entries l.next l.found l.last (omega arith)) ∙ lacks)

    here : entry_at bytes offset ≡ Some it.entry
    here =
        let at = found_entry (lacks_name it.size) bytes 8 l.entries l.next it.entry l.found it.found in
        let parts = entry_parts at.0 (take 60 (drop at.0 bytes)) it.entry at.1 in
        ap (entry_at bytes) (sym it.place ∙ parts.offset) ∙ at.1

    enough : length (long_names (bytes ++ more) (l.entries ++ split.0)) ≤ it.size
    enough = room_is_enough l.entries (l.entries ++ split.0) l.next each.2.next it.size l.found l.last
        (subst (λ es. AreEntries (bytes ++ more) 8 es each.2.next) split.1 each.2.found) each.2.last stays it.room

    both : (find (is_refused (long_names (bytes ++ more) (l.entries ++ split.0)) (length (bytes ++ more))) (l.entries ++ split.0) ≡ Some it.entry)
        × (before_first (is_refused (long_names (bytes ++ more) (l.entries ++ split.0)) (length (bytes ++ more)))
        (l.entries ++ split.0)
        ≡ before_first (is_refused (long_names bytes l.entries) (length bytes)) l.entries)
    both = find_both (is_refused (long_names bytes l.entries) (length bytes))
        (is_refused (long_names (bytes ++ more) (l.entries ++ split.0)) (length (bytes ++ more)))
        (kept_still bytes more l.entries (l.entries ++ split.0) stays) l.entries split.0 it.entry (refused_first is.0 offset l it.entry here)
        (refused_nameless (long_names (bytes ++ more) (l.entries ++ split.0)) (length (bytes ++ more)) it.size it.entry enough
        (found_so (lacks_name it.size) l.entries it.entry it.found))

    error : each.1 ≡ Some (record { offset = offset })
    error =
        each.2.refused
        ∙ (λ i. first_error (length (bytes ++ more)) each.2.next
        (find (is_refused (long_names (bytes ++ more) (split.1 i)) (length (bytes ++ more))) (split.1 i)))
        ∙ ap (first_error (length (bytes ++ more)) each.2.next) both.0 ∙ ap (λ n. Some (record { offset = n })) it.place

    listed : each.0 ≡ members_of (long_names (bytes ++ more) (l.entries ++ split.0))
        (before_first (is_refused (long_names bytes l.entries) (length bytes)) l.entries)
    listed =
        each.2.listed
        ∙ (λ i. members_of (long_names (bytes ++ more) (split.1 i))
        (before_first (is_refused (long_names (bytes ++ more) (split.1 i)) (length (bytes ++ more))) (split.1 i)))
        ∙ ap (members_of (long_names (bytes ++ more) (l.entries ++ split.0))) both.1

pub prefix_errors_stay : PrefixErrorsStay
prefix_errors_stay options bytes more (accepted its_names ms) is counts = absurd (counts refl)
prefix_errors_stay options bytes more past_limit is counts = absurd (counts refl)
prefix_errors_stay options bytes more (refused offset reason) is counts = refused_stays options bytes more offset reason is
prefix_errors_stay options bytes more (bad_archive offset) is counts =
    by_test (lacks_header bytes offset) (lacks_long_name bytes offset) refl refl counts where
      by_test : (a b : Bool) → lacks_header bytes offset ≡ a → lacks_long_name bytes offset ≡ b
          → ((if (a || b) then bad_archive offset else past_limit) ≡ past_limit → ⊥)
          → IsArchiveVerdict options (bytes ++ more) (if (a || b) then bad_archive offset else past_limit)
      by_test true b lacks other counts = bad_stays options bytes more offset lacks is
      by_test false true other lacks counts = nameless_stays options bytes more offset lacks is
      by_test false false one two counts = absurd (counts refl)
