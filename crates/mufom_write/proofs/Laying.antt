-- Records that are laid one after another: their bytes are the forms of their entries, and each is whole.
use Rattle.std.proofs.Common.{◌≡◌, ℕ, ◌+◌, Bool, true, false, ◌&&◌, List, [], ◌∷◌, ◌++◌, map, None, refl, sym, subst, ap, ◌∙◌}
use Rattle.std.specs.List.{AllByRecursion, list_all}
use Rattle.mufom_records.specs.declared.record.Record.{Record}
use Rattle.mufom_records.specs.Fields.{first_of}
use Rattle.mufom_debug.specs.Marks.{joined}
use Rattle.mufom_debug.proofs.MarksLemmas.{joined-append}
use Rattle.std.proofs.lemmas.List.{map-append}
use Rattle.mufom_module.proofs.GnuLaws.{plainly}
use Rattle.mufom_module.specs.SpelledRecords.{SpelledRecord, bytes_of}
use Rattle.mufom_module.specs.RecordParts.{Part, stands_in, opens_items}
use Rattle.mufom_module.specs.Grammar.{AreWhole, IsPart}
use Rattle.mufom_module.specs.Written.{each_from}
use Rattle.mufom_write.proofs.Rows.{IsCode, IsWhole}

abbrev pub spelled : Record → List ℕ → SpelledRecord
spelled row bytes = record { row = row; bytes = bytes }

-- the records of entries, each by its position, which counts from n
abbrev pub records_from : {X : Type 0} → ℕ → (ℕ → X → List SpelledRecord) → List X → List SpelledRecord
records_from n lay [] = []
records_from n lay (x ∷ xs) = lay n x ++ records_from (n + 1) lay xs

pub bytes_of-append : (xs ys : List SpelledRecord) → bytes_of (xs ++ ys) ≡ bytes_of xs ++ bytes_of ys
bytes_of-append xs ys = ap (λ (l : List (List ℕ)). joined l) (map-append (λ (p : SpelledRecord). p.bytes) xs ys)
    ∙ joined-append (map (λ (p : SpelledRecord). p.bytes) xs) (map (λ (p : SpelledRecord). p.bytes) ys)

pub bytes_of-records_from : {X : Type 0} (lay : ℕ → X → List SpelledRecord) (write : ℕ → X → List ℕ) → ((n : ℕ) (x : X) → bytes_of (lay n x) ≡ write n x)
    → (n : ℕ) (xs : List X) → bytes_of (records_from n lay xs) ≡ each_from n write xs
bytes_of-records_from lay write same n [] = refl
bytes_of-records_from lay write same n (x ∷ xs) =
    let first = same n x in
    let rest = bytes_of-records_from lay write same (n + 1) xs in
    bytes_of-append (lay n x) (records_from (n + 1) lay xs) ∙ (λ i. first i ++ rest i)

-- a record of a part that is neither LR nor an item is whole if a record follows it
pub record IsRecord (part : Part) (p : SpelledRecord) : Type 0 where
  pub whole : IsWhole p.row p.bytes
  pub code : IsCode (first_of p.bytes None)
  pub plain : opens_items p.row ≡ false
  pub own : stands_in part p.row ≡ true

pub code-first : (bytes rest : List ℕ) → IsCode (first_of bytes None) → IsCode (first_of (bytes ++ rest) None)
code-first [] rest code = absurd code
code-first (b ∷ bytes) rest code = code

module _ (part : Part) where
  next-code : (records : List SpelledRecord) (after : List ℕ) → AllByRecursion (IsRecord part) records → IsCode (first_of after None)
      → IsCode (first_of (bytes_of records ++ after) None)
  next-code [] after all code = code
  next-code (p ∷ records) after all code =
      code-first (p.bytes ++ bytes_of records) after (code-first p.bytes (bytes_of records) all.0.code)

  are_whole : (records : List SpelledRecord) (after : List ℕ) → AllByRecursion (IsRecord part) records → IsCode (first_of after None)
      → AreWhole (plainly true) false records after
  are_whole [] after all code = tt
  are_whole (p ∷ records) after all code = (
    all.0.whole (first_of (bytes_of records ++ after) None) (next-code records after all.1 code),
    subst (λ (items : Bool). AreWhole (plainly true) items records after) (sym all.0.plain) (are_whole records after all.1 code),
  )

  are_own : (records : List SpelledRecord) → AllByRecursion (IsRecord part) records → list_all (λ p. stands_in part p.row) records ≡ true
  are_own [] all = refl
  are_own (p ∷ records) all =
      let first = all.0.own in
      let rest = are_own records all.1 in
      λ i. first i && rest i

  pub is_part : (records : List SpelledRecord) (after : List ℕ) → AllByRecursion (IsRecord part) records → IsCode (first_of after None)
      → IsPart (plainly true) part records after
  is_part records after all code = record { are_whole = are_whole records after all code; own = are_own records all }

  pub part-code : (records : List SpelledRecord) (after : List ℕ) → AllByRecursion (IsRecord part) records → IsCode (first_of after None)
      → IsCode (first_of (bytes_of records ++ after) None)
  part-code = next-code

-- of entries each of which is laid as such records
pub all-append : {X : Type 0} (Is : X → Type 0) (xs ys : List X) → AllByRecursion Is xs → AllByRecursion Is ys → AllByRecursion Is (xs ++ ys)
all-append Is [] ys a b = b
all-append Is (x ∷ xs) ys a b = (a.0, all-append Is xs ys a.1 b)
