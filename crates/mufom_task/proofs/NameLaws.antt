-- The names of the modules of a file: those of the members of an archive, and none of another file.
use Rattle.std.proofs.Common.{◌≡◌, ℕ, suc, ◌+◌, Bool, true, false, List, [], ◌∷◌, length, take, slice_get, Option, Some, None, unwrap_or}
use Rattle.std.proofs.Common.{refl, sym, ap}
use Rattle.std.proofs.Common.{subst, ◌∙◌, inl, inr, arith}
use Rattle.std.proofs.lemmas.List.{length-map}
use Rattle.mufom_archive.specs.declared.listing.Listing.{Listing}
use Rattle.mufom_records.specs.declared.options.ReadOptions.{ReadOptions}
use Rattle.mufom_module.specs.declared.module.Parts.{Parts}
use Rattle.mufom_members.specs.Files.{IsPlainVerdict, IsVerdict, accepted}
use Rattle.mufom_members.specs.Names.{AreNames, name_at}
use Rattle.mufom_origins.specs.Words.{member_word, own_files, own_from}
use Rattle.mufom_task.specs.Inputs.{IsFileVerdict, files_of_one, members_if}
use Rattle.mufom_task.specs.FilesRead.{AreAsMany}
use Rattle.mufom_members.proofs.FileNames.{names-of-modules, verdicts-have-names}
use Rattle.mufom_task.proofs.FileLaws.{never-prefix}

plain-many : (options : ReadOptions) (limit : ℕ) (bytes : List ℕ) (names : Option (List (List ℕ))) (ms : List Parts)
    → IsPlainVerdict options limit bytes (accepted names ms) → AreAsMany names ms
plain-many options limit bytes None [] is = absurd is
plain-many options limit bytes None (m ∷ []) is = refl
plain-many options limit bytes None (m ∷ n ∷ ms) is = absurd is
plain-many options limit bytes (Some names) ms is = absurd is

plain-none : (options : ReadOptions) (limit : ℕ) (bytes : List ℕ) (names : Option (List (List ℕ))) (ms : List Parts)
    → IsPlainVerdict options limit bytes (accepted names ms) → names ≡ None
plain-none options limit bytes None ms is = refl
plain-none options limit bytes (Some names) ms is = absurd is

members-many : (options : ReadOptions) (limit : ℕ) (bytes : List ℕ) (names : Option (List (List ℕ))) (ms : List Parts)
    → IsVerdict options limit bytes (accepted names ms) → AreAsMany names ms
members-many options limit bytes (Some names) ms is = names-of-modules options limit bytes names ms is
members-many options limit bytes None ms (inl (begins, inl is)) = absurd is.1
members-many options limit bytes None ms (inl (begins, inr (many, (first, whole, same)))) = absurd (never-prefix (take limit bytes) None ms first same)
members-many options limit bytes None ms (inr is) = plain-many options limit bytes None ms is.1

-- there is a name for each module, or there are no names and one module
pub are-as-many : (options : ReadOptions) (root : Bool) (limit : ℕ) (bytes : List ℕ) (names : Option (List (List ℕ))) (ms : List Parts)
    → IsFileVerdict options root limit bytes (accepted names ms) → AreAsMany names ms
are-as-many options true = plain-many options
are-as-many options false = members-many options

-- ---- the files of modules

listed-files : (number : ℕ) (name : List ℕ) (l : Listing) (count k : ℕ) (names : List (List ℕ))
    → ((j : ℕ) → name_at (Some l) (k + j) ≡ slice_get names j)
    → own_from (record { number = number; name = name; listing = Some l; modules = count }) k (length names) ≡ files_of_one number name (Some names)
listed-files number name l count k [] are = refl
listed-files number name l count k (m ∷ names) are =
    let here : k + 0 ≡ k = omega arith in
    let first : name_at (Some l) k ≡ Some m = subst (λ (n : ℕ). name_at (Some l) n ≡ Some m) here (are 0) in
    let rest = listed-files number name l count (suc k) names (λ j. next j) in
    (λ i. record { number = number; name = member_word name (unwrap_or (first i) []) } ∷ rest i) where
      next : (j : ℕ) → name_at (Some l) (suc k + j) ≡ slice_get names j
      next j = let later : k + suc j ≡ suc k + j = omega arith in subst (λ (n : ℕ). name_at (Some l) n ≡ slice_get names j) later (are (suc j))

-- the files of the modules of a file by its listing are those by the names of its members
pub files-listed : (number : ℕ) (name : List ℕ) (listing : Option Listing) (names : Option (List (List ℕ))) (ms : List Parts) → AreNames listing names
    → AreAsMany names ms
    → own_files (record { number = number; name = name; listing = listing; modules = length ms }) ≡ files_of_one number name names
files-listed number name listing None ms are many =
    λ i. own_from (record { number = number; name = name; listing = are i; modules = many i }) 0 (many i)
files-listed number name (Some l) (Some names) ms are many =
    ap (λ (n : ℕ). own_from (record { number = number; name = name; listing = Some l; modules = length ms }) 0 n) (sym many)
    ∙ listed-files number name l (length ms) 0 names (λ j. shown j) where
      shown : (j : ℕ) → name_at (Some l) (0 + j) ≡ slice_get names j
      shown j = let same : j ≡ 0 + j = omega arith in subst (λ (n : ℕ). name_at (Some l) n ≡ slice_get names j) same (are j)
files-listed number name None (Some []) ms are many =
    ap (λ (n : ℕ). own_from (record { number = number; name = name; listing = None; modules = length ms }) 0 n) (sym many)
files-listed number name None (Some (m ∷ names)) ms are many = absurd (let wrong : None ≡ Some m = are 0 in cc)

-- there are as many files as modules
pub files-many : (number : ℕ) (name : List ℕ) (names : Option (List (List ℕ))) (ms : List Parts) → AreAsMany names ms
    → length (files_of_one number name names) ≡ length ms
files-many number name None ms many = sym many
files-many number name (Some names) ms many = length-map names (λ (m : List ℕ). record { number = number; name = member_word name m }) ∙ many

-- ---- the names of a file

-- the names are those of the members that the bytes have
pub names-are : (options : ReadOptions) (root : Bool) (limit : ℕ) (bytes : List ℕ) (names : Option (List (List ℕ))) (ms : List Parts)
    → IsFileVerdict options root limit bytes (accepted names ms) → names ≡ members_if root bytes
names-are options true = plain-none options
names-are options false = verdicts-have-names options
