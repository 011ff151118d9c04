-- Reading at the start of an input gives what is spelled there, and each spelling is read.
use Rattle.std.proofs.Common.{◌≡◌, ℕ, zero, suc, ◌-◌, ◌<◌, ◌≤◌, false, ltb, List, [], ◌∷◌, ◌++◌, length, take, get_or, refl, sym, ap, ◌∙◌, inl, inr, arith}
use Rattle.std.proofs.lemmas.Bool.{cases_lt, le-ltb, lt-ltb}
use Rattle.std.proofs.lemmas.List.{take_at, length-append, length-take, nil_from_length}
use Rattle.mufom_numbers.specs.declared.reason.Reason.TheVariants.{BadNumber}
use Rattle.mufom_numbers.specs.declared.taken.Taken.{Taken}
use Rattle.mufom_numbers.specs.declared.taken.Taken.TheVariants.{Got, More, Bad}
use Rattle.mufom_numbers.specs.Spelling.{AreBytes, SpellsNumber, big_endian, number_at, IfGot, IsCutOff, BeginsIn}

abbrev more_number : Taken ℕ
more_number = More

-- a list of the cells of an array of bytes is of bytes
pub are_bytes : (xs : List ℕ) → ((i : ℕ) → get_or xs i 0 < 256) → AreBytes xs
are_bytes [] fits = tt
are_bytes (x ∷ xs) fits = (fits 0, are_bytes xs (λ i. fits (suc i)))

pub AreBytes-take : (n : ℕ) (xs : List ℕ) → AreBytes xs → AreBytes (take n xs)
AreBytes-take zero xs fits = tt
AreBytes-take (suc n) [] fits = tt
AreBytes-take (suc n) (x ∷ xs) fits = (fits.0, AreBytes-take n xs fits.1)

pub AreBytes-append : (xs ys : List ℕ) → AreBytes xs → AreBytes ys → AreBytes (xs ++ ys)
AreBytes-append [] ys a b = b
AreBytes-append (x ∷ xs) ys a b = (a.0, AreBytes-append xs ys a.1 b)

abbrev pub zeros : ℕ → List ℕ
zeros zero = []
zeros (suc k) = 0 ∷ zeros k

pub length-zeros : (k : ℕ) → length (zeros k) ≡ k
length-zeros zero = refl
length-zeros (suc k) = ap suc (length-zeros k)

pub AreBytes-zeros : (k : ℕ) → AreBytes (zeros k)
AreBytes-zeros zero = tt
AreBytes-zeros (suc k) = (omega arith, AreBytes-zeros k)

-- a prefix that something follows is shorter
pub prefix_is_shorter : (prefix rest all : List ℕ) → prefix ++ rest ≡ all → (rest ≡ [] → ⊥) → length prefix < length all
prefix_is_shorter prefix rest all is more = elim (cases_lt 0 (length rest)) [
  | inl some ↦ omega (arith, length-append prefix rest, ap length is)
  | inr none ↦ absurd (more (nil_from_length rest (omega (arith, none))))
]

-- a spelling is read, whatever follows it
pub number_at-spelling : (n : ℕ) (text rest : List ℕ) → SpellsNumber n text → number_at (text ++ rest) ≡ Got n (length text)
number_at-spelling n [] rest spells = absurd spells
number_at-spelling n (lead ∷ bytes) rest (inl short) =
    rw (lt-ltb lead 128 short.0, short.1, short.2) refl
number_at-spelling n (lead ∷ bytes) rest (inr long) =
    let not_one : ltb lead 128 ≡ false = le-ltb _ _ (omega (arith, long.0)) in
    let not_bad : ltb 136 lead ≡ false = le-ltb _ _ (omega (arith, long.0, long.1)) in
    let count : lead - 128 ≡ length bytes = omega (arith, long.0) in
    let used : lead - 127 ≡ suc (length bytes) = omega (arith, long.0) in
    let there : ltb (length (bytes ++ rest)) (length bytes) ≡ false = le-ltb _ _ (omega (arith, length-append bytes rest)) in
    rw (not_one, not_bad, count, there, used, take_at bytes rest (length bytes) refl, long.3) refl

pub number_at-got : (input : List ℕ) → AreBytes input → IfGot (number_at input) (λ n used. (used ≤ length input) × SpellsNumber n (take used input))
number_at-got [] fits = tt
number_at-got (lead ∷ bytes) fits =
    elim (cases_lt lead 128) [
      | inl low ↦ rw (lt-ltb lead 128 low) (omega arith, inl (low, refl, refl))
      | inr high ↦ rw (le-ltb _ _ high) (elim (cases_lt 136 lead) [
        | inl above ↦ rw (lt-ltb 136 lead above) tt
        | inr within ↦ rw (le-ltb _ _ within) (elim (cases_lt (length bytes) (lead - 128)) [
          | inl short ↦ rw (lt-ltb _ _ short) tt
          | inr whole ↦
              let used : lead - 127 ≡ suc (lead - 128) = omega (arith, high) in
              let len : length (take (lead - 128) bytes) ≡ lead - 128 = omega (arith, length-take (lead - 128) bytes, whole) in
              rw (le-ltb _ _ whole, used) (
                omega (arith, whole),
                inr (
                  omega (arith, len, high),
                  omega (arith, len, within),
                  AreBytes-take (lead - 128) bytes fits.1,
                  refl,
                ),
              )
        ])
      ])
    ]

-- less than a spelling asks for more bytes
pub number_at-cut_off : (input : List ℕ) (n : ℕ) → IsCutOff (SpellsNumber n) input → number_at input ≡ More
number_at-cut_off [] n cut = refl
number_at-cut_off (lead ∷ bytes) n (rest, more, inl short) = absurd (more (nil_from_length rest (omega (arith, length-append bytes rest, ap length short.1))))
number_at-cut_off (lead ∷ bytes) n (rest, more, inr long) =
    let shorter = prefix_is_shorter bytes rest (bytes ++ rest) refl more in
    rw (
      le-ltb lead 128 (omega (arith, long.0)),
      le-ltb 136 lead (omega (arith, long.0, long.1)),
      lt-ltb (length bytes) (lead - 128) (omega (arith, long.0, shorter)),
    ) refl

pub more-cut_off : (input : List ℕ) → AreBytes input → number_at input ≡ More → (n : ℕ) × IsCutOff (SpellsNumber n) input
more-cut_off [] fits e = (0, (0 ∷ [], λ h. cc, inl (omega arith, refl, refl)))
more-cut_off (lead ∷ bytes) fits e =
    elim (cases_lt lead 128) [
      | inl low ↦ let bad : Got lead 1 ≡ More = rw (lt-ltb lead 128 low) at e in absurd cc
      | inr high ↦ elim (cases_lt 136 lead) [
        | inl above ↦ let bad : number_at (lead ∷ bytes) ≡ Bad 0 BadNumber = rw (le-ltb lead 128 high, lt-ltb 136 lead above) refl in
            let no : Bad 0 BadNumber ≡ More = sym bad ∙ e in absurd cc
        | inr within ↦ elim (cases_lt (length bytes) (lead - 128)) [
          | inl short ↦
              let k = lead - 128 - length bytes in
              let rest = zeros k in
              let len : length (bytes ++ rest) ≡ lead - 128 = omega (arith, length-append bytes rest, length-zeros k, short) in (
                big_endian (bytes ++ rest),
                (
                  rest,
                  λ h. omega (arith, ap length h, length-zeros k, short),
                  inr (omega (arith, len, high), omega (arith, len, within), AreBytes-append bytes rest fits.1 (AreBytes-zeros k), refl),
                ),
              )
          | inr whole ↦ let got : number_at (lead ∷ bytes) ≡ Got (big_endian (take (lead - 128) bytes)) (lead - 127) =
              rw (le-ltb lead 128 high, le-ltb 136 lead within, le-ltb _ _ whole) refl in
              let no : Got (big_endian (take (lead - 128) bytes)) (lead - 127) ≡ More = sym got ∙ e in absurd cc
        ]
      ]
    ]

pub number_at-bad : (input : List ℕ) → BeginsIn 0x89 0xFF input → number_at input ≡ Bad 0 BadNumber
number_at-bad [] begins = absurd begins
number_at-bad (lead ∷ bytes) begins = rw (le-ltb lead 128 (omega (arith, begins.0)), lt-ltb 136 lead (omega (arith, begins.0))) refl

pub bad-number_at : (input : List ℕ) → AreBytes input → number_at input ≡ Bad 0 BadNumber → BeginsIn 0x89 0xFF input
bad-number_at [] fits e = absurd cc
bad-number_at (lead ∷ bytes) fits e =
    elim (cases_lt 136 lead) [
      | inl above ↦ (omega (arith, above), omega (arith, fits.0))
      | inr within ↦ elim (cases_lt lead 128) [
        | inl low ↦ let got : number_at (lead ∷ bytes) ≡ Got lead 1 = rw (lt-ltb lead 128 low) refl in let no : Got lead 1 ≡ Bad 0 BadNumber = sym got
            ∙ e in absurd cc
        | inr high ↦ elim (cases_lt (length bytes) (lead - 128)) [
          | inl short ↦ let more : number_at (lead ∷ bytes) ≡ More = rw (le-ltb lead 128 high, le-ltb 136 lead within, lt-ltb _ _ short) refl in
              let no : more_number ≡ Bad 0 BadNumber = sym more ∙ e in absurd cc
          | inr whole ↦ let got : number_at (lead ∷ bytes) ≡ Got (big_endian (take (lead - 128) bytes)) (lead - 127) =
              rw (le-ltb lead 128 high, le-ltb 136 lead within, le-ltb _ _ whole) refl in
              let no : Got (big_endian (take (lead - 128) bytes)) (lead - 127) ≡ Bad 0 BadNumber = sym got ∙ e in absurd cc
        ]
      ]
    ]
