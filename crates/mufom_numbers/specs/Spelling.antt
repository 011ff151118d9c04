-- How an object module spells numbers and strings (IEEE Std 695, numbers and identifiers). One value has several
-- spellings.
use Rattle.std.specs.Prelude.{◌≡◌, ◌≢◌, ◌⊎◌, ℕ, zero, suc, ◌+◌, ◌-◌, ◌*◌, ◌<◌, ◌≤◌, List, [], ◌∷◌, ◌++◌, length, take, nat_lt, ◌==◌, if◌then◌else◌}
use Rattle.std.specs.List.{AllByRecursion}
use Rattle.std.specs.Int.{w16, w64, to_be_bytes}
use Rattle.mufom_numbers.specs.declared.reason.Reason.TheVariants.{BadNumber, BadId}
use Rattle.mufom_numbers.specs.declared.taken.Span.{Span}
use Rattle.mufom_numbers.specs.declared.taken.Taken.{Taken}
use Rattle.mufom_numbers.specs.declared.taken.Taken.TheVariants.{Got, More, Bad}

abbrev pub AreBytes : List ℕ → Type 0
AreBytes bytes = AllByRecursion (λ b. b < 256) bytes

-- the number n with these bytes appended as further digits in base 256, the most significant first
abbrev pub value_after : ℕ → List ℕ → ℕ
value_after n [] = n
value_after n (b ∷ bytes) = value_after (256 * n + b) bytes

abbrev pub big_endian : List ℕ → ℕ
big_endian bytes = value_after 0 bytes

-- A number is one byte below 128, or a byte 128 + k and k bytes, k at most 8.
abbrev pub SpellsNumber : ℕ → List ℕ → Type 0
SpellsNumber n [] = ⊥
SpellsNumber n (lead ∷ bytes) = ((lead < 128) × (bytes ≡ []) × (n ≡ lead))
    ⊎ ((lead ≡ 128 + length bytes) × (length bytes ≤ 8) × AreBytes bytes × (n ≡ big_endian bytes))

-- The lead of a string of this length: the length (below 128), DE and the length in one byte, or DF and the length in two bytes.
abbrev pub IsStringLead : ℕ → List ℕ → Type 0
IsStringLead len (a ∷ []) = (len < 128) × (a ≡ len)
IsStringLead len (a ∷ b ∷ []) = (a ≡ 222) × (len < 256) × (b ≡ len)
IsStringLead len (a ∷ b ∷ c ∷ []) = (a ≡ 223) × (b < 256) × (c < 256) × (len ≡ 256 * b + c)
IsStringLead len _ = ⊥

-- A string is a lead for its length, followed by its bytes, in any character set.
abbrev pub SpellsString : List ℕ → List ℕ → Type 0
SpellsString text bytes = (lead : List ℕ) × IsStringLead (length text) lead × AreBytes text × (bytes ≡ lead ++ text)

-- ---- the shortest spellings, which a writer uses

abbrev pub without_leading_zeros : List ℕ → List ℕ
without_leading_zeros [] = []
without_leading_zeros (zero ∷ bytes) = without_leading_zeros bytes
without_leading_zeros (suc b ∷ bytes) = suc b ∷ bytes

abbrev pub counted : List ℕ → List ℕ
counted bytes = (128 + length bytes) ∷ bytes

-- the shortest spelling of a number below 2^64; of 0 it is the byte 00, and not the equally short 80
abbrev pub shortest_number : ℕ → List ℕ
shortest_number n = if nat_lt n 128 then n ∷ [] else counted (without_leading_zeros (to_be_bytes w64 n))

-- the shortest lead of a string of at most 65,535 bytes
abbrev pub shortest_lead : ℕ → List ℕ
shortest_lead len = if nat_lt len 128 then len ∷ []
    else (if nat_lt len 256 then 222 ∷ len ∷ [] else 223 ∷ to_be_bytes w16 len)

abbrev pub shortest_string : List ℕ → List ℕ
shortest_string text = shortest_lead (length text) ++ text

-- every spelling (a list that satisfies Spells) has at least as many bytes as this one
abbrev pub NoneIsShorter : (List ℕ → Type 0) → List ℕ → Type 0
NoneIsShorter Spells bytes = (other : List ℕ) → Spells other → length bytes ≤ length other

-- ---- reading at the start of an input

-- reads the number at the start of the input: the number and the length of its spelling in bytes, More, or an error
abbrev pub number_at : List ℕ → Taken ℕ
number_at [] = More
number_at (lead ∷ bytes) = if nat_lt lead 128 then Got lead 1
    else (if nat_lt 136 lead then Bad 0 BadNumber
    else (if nat_lt (length bytes) (lead - 128) then More
    else Got (big_endian (take (lead - 128) bytes)) (lead - 127)))

-- the span of a string of `len` bytes that follows a lead of `lead` bytes, or More if the input ends before the string does
abbrev pub string_after : ℕ → ℕ → List ℕ → Taken Span
string_after lead len input = if nat_lt (length input) (lead + len) then More
    else Got (record { start = lead; len = len }) (lead + len)

-- reads the string at the start of the input: the span of its bytes and the length of lead and string in bytes, More, or an error
abbrev pub string_at : List ℕ → Taken Span
string_at [] = More
string_at (lead ∷ bytes) = if nat_lt lead 128 then string_after 1 lead (lead ∷ bytes)
    else (if lead == 222 then one_byte_length bytes (lead ∷ bytes)
    else (if lead == 223 then two_byte_length bytes (lead ∷ bytes)
    else Bad 0 BadId)) where
      one_byte_length : List ℕ → List ℕ → Taken Span
      one_byte_length [] input = More
      one_byte_length (a ∷ _) input = string_after 2 a input

      two_byte_length : List ℕ → List ℕ → Taken Span
      two_byte_length (a ∷ b ∷ _) input = string_after 3 (256 * a + b) input
      two_byte_length _ input = More

-- ---- definitions for clauses

-- if a value was read, P holds for the value and the number of bytes that it takes
abbrev pub IfGot : {X : Type 0} → Taken X → (X → ℕ → Type 0) → Type 0
IfGot (Got x used) P = P x used
IfGot More P = Unit {0}
IfGot (Bad offset reason) P = Unit {0}

-- if there is an error, P holds for its offset
abbrev pub IfBad : {X : Type 0} → Taken X → (ℕ → Type 0) → Type 0
IfBad (Got x used) P = Unit {0}
IfBad More P = Unit {0}
IfBad (Bad offset reason) P = P offset

-- the input is a proper prefix of a spelling
abbrev pub IsCutOff : (List ℕ → Type 0) → List ℕ → Type 0
IsCutOff Spells input = (rest : List ℕ) × (rest ≢ []) × Spells (input ++ rest)

-- there is a first byte, and it is between low and high, inclusive
abbrev pub BeginsIn : ℕ → ℕ → List ℕ → Type 0
BeginsIn low high [] = ⊥
BeginsIn low high (b ∷ _) = (low ≤ b) × (b ≤ high)
