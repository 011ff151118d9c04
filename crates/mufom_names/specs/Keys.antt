-- The keys of references: two keys are equal if and only if the references are equal.
use Rattle.std.specs.Prelude.{◌≡◌, ◌↔◌, ℕ, ◌<◌, ◌^◌, List, [], ◌∷◌, ◌++◌, length, flat_map, Option, Some, None, IfSome}
use Rattle.std.specs.List.{AllByRecursion}
use Rattle.std.specs.Int.{w64, to_be_bytes}
use Rattle.mufom_names.specs.declared.name.Note.{Note}
use Rattle.mufom_names.specs.declared.name.Weak.{Weak}
use Rattle.mufom_names.specs.declared.name.Reference.{Reference}

-- a number as eight bytes, the most significant first
unfoldable pub number_key : ℕ → List ℕ
number_key n = to_be_bytes w64 n

abbrev pub numbers_key : List ℕ → List ℕ
numbers_key ns = flat_map number_key ns

-- the type, the attribute, the count of the numbers, and the numbers
abbrev pub note_key : Note → List ℕ
note_key note = number_key note.type_index ++ (number_key note.attribute ++ (number_key (length note.numbers.items) ++ numbers_key note.numbers.items))

abbrev pub notes_key : List Note → List ℕ
notes_key notes = flat_map note_key notes

-- 0 for a strong reference; 1, the size and the default for a weak one
abbrev pub weak_key : Option Weak → List ℕ
weak_key None = number_key 0
weak_key (Some weak) = number_key 1 ++ (number_key weak.size ++ number_key weak.default)

-- the length of the name and the name, the weak part, the count of the notes, and the notes
abbrev pub reference_key : Reference → List ℕ
reference_key r = number_key (length r.name) ++ (r.name ++ (weak_key r.weak ++ (number_key (length r.notes) ++ notes_key r.notes)))

-- ---- equal references

-- all numbers of the notes are the same
pub record IsSameNote (m n : Note) : Type 0 where
  pub type_index : m.type_index ≡ n.type_index
  pub attribute : m.attribute ≡ n.attribute
  pub numbers : m.numbers.items ≡ n.numbers.items

-- the notes are the same, one by one
abbrev pub AreSameNotes : List Note → List Note → Type 0
AreSameNotes [] [] = Unit {0}
AreSameNotes [] (n ∷ ns) = ⊥
AreSameNotes (m ∷ ms) [] = ⊥
AreSameNotes (m ∷ ms) (n ∷ ns) = IsSameNote m n × AreSameNotes ms ns

-- name, weak part and notes are the same
pub record IsSameReference (r q : Reference) : Type 0 where
  pub name : r.name ≡ q.name
  pub weak : r.weak ≡ q.weak
  pub notes : AreSameNotes r.notes q.notes

-- ---- what eight bytes can hold

abbrev pub IsShort : ℕ → Type 0
IsShort n = n < 2 ^ 64

pub record IsShortNote (note : Note) : Type 0 where
  pub type_index : IsShort note.type_index
  pub attribute : IsShort note.attribute
  pub count : IsShort (length note.numbers.items)
  pub numbers : AllByRecursion IsShort note.numbers.items

abbrev pub IsShortWeak : Weak → Type 0
IsShortWeak weak = IsShort weak.size × IsShort weak.default

-- each number and each length of the reference is below 2^64, as in memory
pub record IsShortReference (r : Reference) : Type 0 where
  pub name : IsShort (length r.name)
  pub weak : IfSome r.weak IsShortWeak
  pub count : IsShort (length r.notes)
  pub notes : AllByRecursion IsShortNote r.notes

-- Two references have equal keys if and only if they are equal.
abbrev pub EqualKeysAreEqualReferences : Type 0
EqualKeysAreEqualReferences = (r q : Reference) → IsShortReference r → IsShortReference q → (reference_key r ≡ reference_key q) ↔ IsSameReference r q
