-- Laws about judgments. All streams consist of bytes.
use Rattle.std.specs.Prelude.{◌≡◌, ◌≢◌, ◌⊎◌, ℕ, ◌≤◌, ◌*◌, Bool, true, false, List, [], ◌++◌, length}
use Rattle.mufom_numbers.specs.declared.reason.Reason.{Reason}
use Rattle.mufom_numbers.specs.Spelling.{AreBytes}
use Rattle.mufom_module.specs.declared.module.Parts.{Parts}
use Rattle.mufom_module.specs.Written.{weight}
use Rattle.mufom_module.specs.Grammar.{SpellsModule, FileParts, IsCutInto, HasNames, States, indexes_of, file_limit}
use Rattle.mufom_judging.specs.Prefixes.{Step, size_of, is_ended}
use Rattle.mufom_judging.specs.Judging.{IsSoundPrefix, within_limit, IsRefusedAt, IsTruncated, IsModule, Judgment, IsJudged}
use Rattle.mufom_judging.specs.Stated.{IsStatedBy}
use Rattle.mufom_records.specs.declared.options.ReadOptions.{ReadOptions}

-- Of two sound prefixes of a stream, one begins with the other.
abbrev pub PrefixesAreOne : Type 0
PrefixesAreOne = (options : ReadOptions) (bytes : List ℕ) (a b : List Step) → IsSoundPrefix options a bytes → IsSoundPrefix options b bytes
    → ((more : List Step) × (b ≡ a ++ more)) ⊎ ((more : List Step) × (a ≡ b ++ more))

-- An error in a stream is the same error in every longer stream.
abbrev pub RefusalStays : Type 0
RefusalStays = (options : ReadOptions) (bytes more : List ℕ) (offset : ℕ) (reason : Reason) → AreBytes (bytes ++ more)
    → IsRefusedAt options bytes offset reason → IsRefusedAt options (bytes ++ more) offset reason

-- A sound prefix of a stream is also a sound prefix of every longer stream.
abbrev pub PrefixesStay : Type 0
PrefixesStay = (options : ReadOptions) (bytes more : List ℕ) (prefix : List Step) → AreBytes bytes → IsSoundPrefix options prefix (within_limit bytes)
    → IsSoundPrefix options prefix (within_limit (bytes ++ more))

-- The error of a stream has one offset and one reason.
abbrev pub RefusalIsSingle : Type 0
RefusalIsSingle = (options : ReadOptions) (bytes : List ℕ) (offset other : ℕ) (reason why_ : Reason) → AreBytes bytes
    → IsRefusedAt options bytes offset reason → IsRefusedAt options bytes other why_ → (offset ≡ other) × (reason ≡ why_)

-- A stream with an error is not a module's file and is not cut off. A module's file is not cut off, and is the file of only
-- one module.
pub record JudgmentsExclude (options : ReadOptions) (bytes : List ℕ) : Type 0 where
  pub not_module : (m : Parts) (offset : ℕ) (reason : Reason) → IsModule options bytes m → IsRefusedAt options bytes offset reason → ⊥
  pub not_cut : (offset : ℕ) (reason : Reason) → IsTruncated options bytes → IsRefusedAt options bytes offset reason → ⊥
  pub whole : (m : Parts) → IsModule options bytes m → IsTruncated options bytes → ⊥
  pub one_module : (m n : Parts) → IsModule options bytes m → IsModule options bytes n → m ≡ n

abbrev pub JudgmentsExcludeEachOther : Type 0
JudgmentsExcludeEachOther = (options : ReadOptions) (bytes : List ℕ) → AreBytes bytes → JudgmentsExclude options bytes

-- Each stream has a judgment.
abbrev pub HasJudgment : Type 0
HasJudgment = (options : ReadOptions) (bytes : List ℕ) → AreBytes bytes → (judgment : Judgment) × IsJudged options bytes judgment

-- No stream has two judgments.
abbrev pub HasOneJudgment : Type 0
HasOneJudgment = (options : ReadOptions) (bytes : List ℕ) (a b : Judgment) → AreBytes bytes → IsJudged options bytes a → IsJudged options bytes b → a ≡ b

-- Every proper prefix of a module's file counts as cut off, never as an error: no valid file is lost.
abbrev pub PrefixesOfModulesAreCutOff : Type 0
PrefixesOfModulesAreCutOff = (options : ReadOptions) (bytes more : List ℕ) (m : Parts) → AreBytes (bytes ++ more) → more ≢ []
    → IsModule options (bytes ++ more) m → IsTruncated options bytes

-- A file of a module is a file of the same module if the forms of GNU binutils are accepted too.
abbrev pub GnuFormsAreExtra : Type 0
GnuFormsAreExtra = (reads_debug : Bool) (bytes : List ℕ) (m : Parts) → IsModule (record { debug = reads_debug; gnu = false }) bytes m
    → IsModule (record { debug = reads_debug; gnu = true }) bytes m

-- A module weighs at most ten times the length of its file.
abbrev pub ModulesWeighTenfold : Type 0
ModulesWeighTenfold = (options : ReadOptions) (bytes : List ℕ) (m : Parts) → AreBytes bytes → SpellsModule m bytes options → weight m ≤ 10 * length bytes

-- What the records of a file state weighs at most ten times the file's length, even if the file is invalid.
abbrev pub FilesWeighTenfold : Type 0
FilesWeighTenfold = (options : ReadOptions) (bytes : List ℕ) (f : FileParts) (m : Parts) → AreBytes bytes → IsCutInto bytes options f → HasNames f
    → States f (indexes_of f) m → weight m ≤ 10 * length bytes

-- A sound prefix that has ended and is the whole stream is a module's file, and states that module.
abbrev pub EndedPrefixIsModule : Type 0
EndedPrefixIsModule = (options : ReadOptions) (prefix : List Step) (bytes : List ℕ) → AreBytes bytes → length bytes ≤ file_limit
    → IsSoundPrefix options prefix bytes
    → is_ended prefix ≡ true → size_of prefix ≡ length bytes → (m : Parts) × SpellsModule m bytes options × IsStatedBy prefix m

-- A module's file is one sound prefix, which ends with the stream and states the module.
abbrev pub ModuleIsEndedPrefix : Type 0
ModuleIsEndedPrefix = (options : ReadOptions) (bytes : List ℕ) (m : Parts) → AreBytes bytes → IsModule options bytes m
    → (prefix : List Step) × IsSoundPrefix options prefix bytes × (is_ended prefix ≡ true) × (size_of prefix ≡ length bytes) × IsStatedBy prefix m
