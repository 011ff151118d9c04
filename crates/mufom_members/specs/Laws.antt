-- Laws about the verdicts on files. All files consist of bytes.
use Rattle.std.specs.Prelude.{◌≡◌, ℕ, List, ◌++◌, length, Option, IfSome}
use Rattle.mufom_numbers.specs.Spelling.{AreBytes}
use Rattle.mufom_module.specs.declared.module.Parts.{Parts}
use Rattle.mufom_records.specs.declared.options.ReadOptions.{ReadOptions}
use Rattle.mufom_members.specs.Files.{IsArchiveVerdict, IsVerdict, Verdict, accepted, past_limit, verdict_on_prefix}
use Rattle.mufom_members.specs.Names.{member_names}

-- No file has two verdicts.
abbrev pub HaveOneVerdict : Type 0
HaveOneVerdict = (options : ReadOptions) (limit : ℕ) (bytes : List ℕ) (a b : Verdict) → AreBytes bytes → IsVerdict options limit bytes a
    → IsVerdict options limit bytes b → a ≡ b

-- Each file has a verdict.
abbrev pub HaveVerdict : Type 0
HaveVerdict = (options : ReadOptions) (limit : ℕ) (bytes : List ℕ) → AreBytes bytes → (verdict : Verdict) × IsVerdict options limit bytes verdict

-- The names of a file that is accepted are those of its members, one for each module; a file that is not an archive has none.
abbrev pub HaveMemberNames : Type 0
HaveMemberNames = (options : ReadOptions) (limit : ℕ) (bytes : List ℕ) (names : Option (List (List ℕ))) (modules : List Parts)
    → IsVerdict options limit bytes (accepted names modules) → (names ≡ member_names bytes) × IfSome names (λ ns. length ns ≡ length modules)

-- An error of the first bytes of an archive that counts if the archive is too long is the error of the archive, whatever follows.
abbrev pub PrefixErrorsStay : Type 0
PrefixErrorsStay = (options : ReadOptions) (bytes more : List ℕ) (first : Verdict) → IsArchiveVerdict options bytes first
    → ¬ (verdict_on_prefix bytes first ≡ past_limit) → IsArchiveVerdict options (bytes ++ more) (verdict_on_prefix bytes first)
