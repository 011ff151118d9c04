-- The names of the modules of a file, and how many they are.
use Rattle.std.proofs.Common.{◌≡◌, ℕ, inl, inr, sym, ◌∙◌, ap, refl, Bool, true, false, ◌||◌, List, [], ◌∷◌, length, map, take}
use Rattle.std.proofs.Common.{Option, Some, None, IfSome, if◌then◌else◌, arith}
use Rattle.std.specs.List.{find}
use Rattle.std.proofs.lemmas.List.{length-map}
use Rattle.std.proofs.lemmas.Slice.Eq.{bytes_eq-Decides}
use Rattle.mufom_records.specs.declared.options.ReadOptions.{ReadOptions}
use Rattle.mufom_module.specs.declared.module.Parts.{Parts}
use Rattle.mufom_archive.specs.Entries.{BeginsArchive, begins_archive, entries_from, lacks_header, long_names, signature}
use Rattle.mufom_archive.specs.Listings.{IsListing, Member, is_refused, lacks_long_name, members_of}
use Rattle.mufom_archive.proofs.EntryLaws.{entries_are}
use Rattle.mufom_archive.proofs.OnlyLaws.{all_before, no_error}
use Rattle.mufom_members.specs.Files.{AreModulesOf, IsArchiveVerdict, IsPlainVerdict, IsVerdict, IsVerdictWithin, Verdict, accepted, bad_archive, past_limit}
use Rattle.mufom_members.specs.Files.{refused, verdict_on_prefix}
use Rattle.mufom_members.specs.Laws.{HaveMemberNames}
use Rattle.mufom_members.specs.Names.{member_names, names_of_entries}

-- the members of an archive without an error are those of all its entries
members_are : (bytes : List ℕ) (members : List Member) → IsListing bytes members None
    → map (λ (m : Member). m.name) members ≡ names_of_entries bytes (entries_from (length bytes) bytes 8)
members_are bytes members l =
    let refuses = is_refused (long_names bytes l.entries) (length bytes) in
    let none = no_error (length bytes) l.next (find refuses l.entries) l.refused in
    ap (map (λ (m : Member). m.name)) (l.listed ∙ ap (members_of (long_names bytes l.entries)) (all_before refuses l.entries none.0))
    ∙ ap (names_of_entries bytes) (entries_are (length bytes) bytes 8 l.entries l.next l.found l.last (omega arith))

-- no archive is accepted for its first bytes alone
prefix_not_accepted : (bytes : List ℕ) (names : Option (List (List ℕ))) (ms : List Parts) (first : Verdict)
    → accepted names ms ≡ verdict_on_prefix bytes first → ⊥
prefix_not_accepted bytes names ms (accepted others ns) is = cc
prefix_not_accepted bytes names ms (refused offset reason) is = cc
prefix_not_accepted bytes names ms (bad_archive offset) is = by_test (lacks_header bytes offset || lacks_long_name bytes offset) is where
  by_test : (b : Bool) → accepted names ms ≡ (if b then bad_archive offset else past_limit) → ⊥
  by_test true is = cc
  by_test false is = cc
prefix_not_accepted bytes names ms past_limit is = cc

-- an archive that is accepted is accepted as a whole
archive_accepted : (options : ReadOptions) (limit : ℕ) (bytes : List ℕ) (names : Option (List (List ℕ))) (ms : List Parts)
    → IsVerdictWithin options limit bytes (accepted names ms) → IsArchiveVerdict options bytes (accepted names ms)
archive_accepted options limit bytes names ms (inl whole) = whole.1
archive_accepted options limit bytes names ms (inr cut) = absurd (prefix_not_accepted (take limit bytes) names ms cut.1.0 cut.1.2)

begins_so : (bytes : List ℕ) → BeginsArchive bytes → begins_archive bytes ≡ true
begins_so bytes is = (bytes_eq-Decides (take 8 bytes) signature).1 is

begins_not : (bytes : List ℕ) → (BeginsArchive bytes → ⊥) → begins_archive bytes ≡ false
begins_not bytes other = by_test (begins_archive bytes) refl where
  by_test : (b : Bool) → begins_archive bytes ≡ b → b ≡ false
  by_test false is = refl
  by_test true is = absurd (other ((bytes_eq-Decides (take 8 bytes) signature).0 is))

-- the names of an archive that is accepted
names_within : (options : ReadOptions) (bytes : List ℕ) (names : Option (List (List ℕ))) (ms : List Parts)
    → IsArchiveVerdict options bytes (accepted names ms) → names ≡ Some (names_of_entries bytes (entries_from (length bytes) bytes 8))
names_within options bytes None ms is = absurd is
names_within options bytes (Some names) ms is = ap (λ l. Some l) (is.1 ∙ members_are bytes is.0 is.2)

-- a file that is no archive has no names
names_plain : (options : ReadOptions) (limit : ℕ) (bytes : List ℕ) (names : Option (List (List ℕ))) (ms : List Parts)
    → IsPlainVerdict options limit bytes (accepted names ms) → names ≡ None
names_plain options limit bytes None ms is = refl
names_plain options limit bytes (Some names) ms is = absurd is

-- the names of a file that is accepted are a function of its bytes
pub verdicts-have-names : (options : ReadOptions) (limit : ℕ) (bytes : List ℕ) (names : Option (List (List ℕ))) (ms : List Parts)
    → IsVerdict options limit bytes (accepted names ms) → names ≡ member_names bytes
verdicts-have-names options limit bytes names ms (inl archive) =
    names_within options bytes names ms (archive_accepted options limit bytes names ms archive.1)
    ∙ sym (ap (λ b. if b then Some (names_of_entries bytes (entries_from (length bytes) bytes 8)) else None) (begins_so bytes archive.0))
verdicts-have-names options limit bytes names ms (inr plain) =
    names_plain options limit bytes names ms plain.1
    ∙ sym (ap (λ b. if b then Some (names_of_entries bytes (entries_from (length bytes) bytes 8)) else None) (begins_not bytes plain.0))

-- each member has a module
modules_of_members : (options : ReadOptions) (bytes : List ℕ) (members : List Member) (ms : List Parts) → AreModulesOf options bytes members ms
    → length members ≡ length ms
modules_of_members options bytes [] [] are = refl
modules_of_members options bytes [] (p ∷ ms) are = absurd are
modules_of_members options bytes (m ∷ members) [] are = absurd are
modules_of_members options bytes (m ∷ members) (p ∷ ms) are = omega (arith, modules_of_members options bytes members ms are.1)

-- the modules of an archive that is accepted have one name each
pub names-of-modules : (options : ReadOptions) (limit : ℕ) (bytes : List ℕ) (names : List (List ℕ)) (ms : List Parts)
    → IsVerdict options limit bytes (accepted (Some names) ms) → length names ≡ length ms
names-of-modules options limit bytes names ms (inl archive) =
    let is = archive_accepted options limit bytes (Some names) ms archive.1 in
    ap length is.1 ∙ length-map is.0 (λ (m : Member). m.name) ∙ modules_of_members options bytes is.0 ms is.3
names-of-modules options limit bytes names ms (inr plain) = absurd plain.1

pub have_member_names : HaveMemberNames
have_member_names options limit bytes names modules is = (verdicts-have-names options limit bytes names modules is, by_names names is) where
  by_names : (o : Option (List (List ℕ))) → IsVerdict options limit bytes (accepted o modules) → IfSome o (λ ns. length ns ≡ length modules)
  by_names None is = tt
  by_names (Some ns) is = names-of-modules options limit bytes ns modules is
