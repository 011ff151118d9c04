-- What an archive is, written out: a signature, and then entries, each of them a header, contents, and padding.
use Rattle.std.specs.Prelude.{◌≡◌, ◌⊎◌, ℕ, ◌+◌, ◌-◌, ◌%◌, ◌<◌, true, List, [], ◌∷◌, ◌++◌, length}
use Rattle.std.specs.List.{list_all}
use Rattle.std.specs.Char.{is_ascii_digit}
use Rattle.std.specs.Str.Parse.{digits_value}
use Rattle.mufom_archive.specs.declared.entry.Entry.{Entry}
use Rattle.mufom_archive.specs.Names.{is_blank}
use Rattle.mufom_archive.specs.Entries.{signature}

-- the header of an entry with this label and contents of this size
pub record IsHeader (label : List ℕ) (size : ℕ) (header : List ℕ) : Type 0 where
  pub unread : List ℕ
  pub digits : List ℕ
  pub blanks : List ℕ
  pub made : header ≡ label ++ (unread ++ (digits ++ (blanks ++ 96 ∷ 10 ∷ [])))
  pub label_length : length label ≡ 16
  pub unread_length : length unread ≡ 32
  pub field_length : length digits + length blanks ≡ 10
  pub some : 0 < length digits
  pub decimal : list_all is_ascii_digit digits ≡ true
  pub blank : list_all is_blank blanks ≡ true
  pub value : size ≡ digits_value 10 digits

-- The padding after contents of this size: one byte if the size is odd, which is not looked at and which may be missing at the
-- end of the archive.
abbrev pub IsPadding : ℕ → List ℕ → List ℕ → Type 0
IsPadding size padding rest = (length padding ≡ size % 2) ⊎ ((padding ≡ []) × (rest ≡ []))

-- The bytes of one entry, which begins at this offset, and those after it.
pub record IsWritten (at : ℕ) (e : Entry) (bytes : List ℕ) (rest : List ℕ) : Type 0 where
  pub header : List ℕ
  pub contents : List ℕ
  pub padding : List ℕ
  pub made : bytes ≡ header ++ (contents ++ (padding ++ rest))
  pub offset : e.offset ≡ at
  pub start : e.start ≡ at + 60
  pub end : e.end ≡ e.start + length contents
  pub header_is : IsHeader e.label (length contents) header
  pub padding_is : IsPadding (length contents) padding rest

-- The bytes from an offset on are those of these entries.
abbrev pub AreWritten : ℕ → List Entry → List ℕ → Type 0
AreWritten at [] bytes = bytes ≡ []
AreWritten at (e ∷ es) bytes = (rest : List ℕ) × IsWritten at e bytes rest × AreWritten (e.end + (e.end - e.start) % 2) es rest

-- The bytes are an archive with these entries.
abbrev pub IsArchive : List ℕ → List Entry → Type 0
IsArchive bytes es = (body : List ℕ) × (bytes ≡ signature ++ body) × AreWritten 8 es body
