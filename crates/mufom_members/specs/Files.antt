-- What a file has: one module, or those of an archive; or why it is refused.
use Rattle.std.specs.Prelude.{◌≡◌, ◌⊎◌, ◌||◌, ℕ, ◌+◌, ◌-◌, ◌<◌, ◌≤◌, List, [], ◌∷◌, ◌++◌, length, map, take, drop, Option, Some, None, if◌then◌else◌}
use Rattle.mufom_archive.specs.declared.listing.BadArchive.{BadArchive}
use Rattle.mufom_archive.specs.Entries.{BeginsArchive, lacks_header}
use Rattle.mufom_archive.specs.Listings.{IsListing, Member, lacks_long_name}
use Rattle.mufom_numbers.specs.declared.reason.Reason.{Reason}
use Rattle.mufom_module.specs.declared.module.Parts.{Parts}
use Rattle.mufom_records.specs.declared.options.ReadOptions.{ReadOptions}
use Rattle.mufom_judging.specs.Judging.{refusal, IsModule, IsJudged}
use Rattle.mufom_judging.specs.Limited.{IsRefusedWithin, IsPastLimit}

-- the contents of a member of an archive
abbrev pub contents_at : List ℕ → Member → List ℕ
contents_at bytes m = take (m.end - m.start) (drop m.start bytes)

-- The contents of these members are files of these modules, each of the module at its position.
abbrev pub AreModulesOf : ReadOptions → List ℕ → List Member → List Parts → Type 0
AreModulesOf options bytes [] [] = Unit {0}
AreModulesOf options bytes (m ∷ members) (p ∷ modules) = IsModule options (contents_at bytes m) p × AreModulesOf options bytes members modules
AreModulesOf options bytes [] (_ ∷ _) = ⊥
AreModulesOf options bytes (_ ∷ _) [] = ⊥

-- The first of these members whose contents are not a file of a module has this error. The offset is counted from the start of
-- the archive.
pub record IsFirstRefused (options : ReadOptions) (bytes : List ℕ) (members : List Member) (offset : ℕ) (reason : Reason) : Type 0 where
  pub before : List Member
  pub member : Member
  pub after : List Member
  pub split : members ≡ before ++ member ∷ after
  pub modules : List Parts
  pub accepted : AreModulesOf options bytes before modules
  pub inside : ℕ
  pub place : offset ≡ member.start + inside
  pub judged : IsJudged options (contents_at bytes member) (refusal inside reason)

-- The verdict on a file: it is accepted, with its modules in their order, and with their names if it is an archive; it has an
-- error at an offset; it is an archive with an error in the entry at an offset; or it has more bytes than it may have.
pub data Verdict : Type 0 where
  accepted : Option (List (List ℕ)) → List Parts → Verdict
  refused : ℕ → Reason → Verdict
  bad_archive : ℕ → Verdict
  past_limit : Verdict

-- The verdict on a file that is not an archive: that of reading one module.
abbrev pub IsPlainVerdict : ReadOptions → ℕ → List ℕ → Verdict → Type 0
IsPlainVerdict options limit bytes (accepted None (m ∷ [])) = IsModule options bytes m × (length bytes ≤ limit)
IsPlainVerdict options limit bytes (refused offset reason) = IsRefusedWithin options limit bytes offset reason
IsPlainVerdict options limit bytes past_limit = IsPastLimit options limit bytes
IsPlainVerdict options limit bytes _ = ⊥

-- The verdict on an archive: its members are files of these modules, and it has no error; or one of the members before the first
-- error is refused; or none of them is, and this is the first error.
abbrev pub IsArchiveVerdict : ReadOptions → List ℕ → Verdict → Type 0
IsArchiveVerdict options bytes (accepted (Some names) modules) = (members : List Member) × (names ≡ map (λ m. m.name) members)
    × IsListing bytes members None × AreModulesOf options bytes members modules
IsArchiveVerdict options bytes (refused offset reason) = (members : List Member) × (error : Option BadArchive) × IsListing bytes members error
    × IsFirstRefused options bytes members offset reason
IsArchiveVerdict options bytes (bad_archive offset) = (members : List Member) × (modules : List Parts)
    × IsListing bytes members (Some (record { offset = offset })) × AreModulesOf options bytes members modules
IsArchiveVerdict options bytes _ = ⊥

-- The verdict on an archive of which these bytes are only the first, given their verdict as an archive of their own. An error is kept
-- if no bytes that follow can mend it: that of a member, a header that is complete and is none, and a long name that begins past the
-- end of the table, whatever follows. Any other verdict may change with the bytes that follow, so that the archive is only too long.
-- For example, contents that end after these bytes may be complete, and the table of long names may follow.
abbrev pub verdict_on_prefix : List ℕ → Verdict → Verdict
verdict_on_prefix bytes (accepted names modules) = past_limit
verdict_on_prefix bytes (refused offset reason) = refused offset reason
verdict_on_prefix bytes (bad_archive offset) = if lacks_header bytes offset || lacks_long_name bytes offset then bad_archive offset else past_limit
verdict_on_prefix bytes past_limit = past_limit

-- The verdict on an archive of which these bytes are only the first.
abbrev pub IsPrefixVerdict : ReadOptions → List ℕ → Verdict → Type 0
IsPrefixVerdict options bytes verdict = (first : Verdict) × IsArchiveVerdict options bytes first × (verdict ≡ verdict_on_prefix bytes first)

-- The verdict on an archive that may have at most `limit` bytes: if it has more, its first `limit` bytes may have an error that what
-- follows cannot mend.
abbrev pub IsVerdictWithin : ReadOptions → ℕ → List ℕ → Verdict → Type 0
IsVerdictWithin options limit bytes verdict = ((length bytes ≤ limit) × IsArchiveVerdict options bytes verdict)
    ⊎ ((limit < length bytes) × IsPrefixVerdict options (take limit bytes) verdict)

-- The verdict on a file that may have at most `limit` bytes.
abbrev pub IsVerdict : ReadOptions → ℕ → List ℕ → Verdict → Type 0
IsVerdict options limit bytes verdict = (BeginsArchive bytes × IsVerdictWithin options limit bytes verdict)
    ⊎ ((¬ BeginsArchive bytes) × IsPlainVerdict options limit bytes verdict)
