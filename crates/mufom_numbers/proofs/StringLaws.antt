-- Each spelled string is read, and what is read is spelled so.
use Rattle.std.proofs.Common.{◌≡◌, ◌⊎◌, ℕ, ◌+◌, ◌-◌, ◌*◌, ◌<◌, ◌≤◌, List, [], ◌∷◌, ◌++◌, length, take, refl, sym, ap, subst, ◌∙◌, inl, inr, arith}
use Rattle.std.proofs.lemmas.Bool.{cases_lt, cases_eq, ne_eqb, le-ltb, lt-ltb}
use Rattle.std.proofs.lemmas.List.{append_assoc, length-append}
use Rattle.mufom_numbers.specs.declared.reason.Reason.TheVariants.{BadId}
use Rattle.mufom_numbers.specs.declared.taken.Span.{Span}
use Rattle.mufom_numbers.specs.declared.taken.Taken.{Taken}
use Rattle.mufom_numbers.specs.declared.taken.Taken.TheVariants.{Got, More, Bad}
use Rattle.mufom_numbers.specs.Spelling.{AreBytes, BeginsIn, IfGot, IsCutOff, IsStringLead, SpellsString, string_at, string_after}
use Rattle.mufom_numbers.proofs.SpellingLaws.{AreBytes-append, AreBytes-zeros, prefix_is_shorter, length-zeros, zeros}

abbrev none_taken : Taken Span
none_taken = More

abbrev none_bad : Taken Span
none_bad = Bad 0 BadId

abbrev span_of : ℕ → ℕ → Span
span_of start len = record { start = start; len = len }

-- a string whose bytes are there
after : (lead len : ℕ) (input : List ℕ) → lead + len ≤ length input → string_after lead len input ≡ Got (span_of lead len) (lead + len)
after lead len input there = rw (le-ltb (length input) (lead + len) there) refl

-- a string is read after its lead, whatever follows it
pub string_at-spelling : (lead text rest : List ℕ) → IsStringLead (length text) lead → string_at (lead ++ (text ++ rest))
    ≡ Got (span_of (length lead) (length text)) (length lead + length text)
string_at-spelling [] text rest is = absurd is
string_at-spelling (a ∷ []) text rest is =
    let there : 1 + length text ≤ length (a ∷ (text ++ rest)) = omega (arith, length-append text rest) in
    rw (is.1, lt-ltb (length text) 128 is.0) (after 1 (length text) (length text ∷ (text ++ rest)) there)
string_at-spelling (a ∷ b ∷ []) text rest is =
    let there : 2 + length text ≤ length (222 ∷ length text ∷ (text ++ rest)) = omega (arith, length-append text rest) in
    rw (is.0, is.2) (after 2 (length text) (222 ∷ length text ∷ (text ++ rest)) there)
string_at-spelling (a ∷ b ∷ c ∷ []) text rest is =
    let there : 3 + length text ≤ length (223 ∷ b ∷ c ∷ (text ++ rest)) = omega (arith, length-append text rest) in
    rw (is.0, ← is.3) (after 3 (length text) (223 ∷ b ∷ c ∷ (text ++ rest)) there)
string_at-spelling (a ∷ b ∷ c ∷ d ∷ lead) text rest is = absurd is

-- a string that was taken: its lead is before its bytes, and nothing else was taken
abbrev pub IsTakenString : List ℕ → Taken Span → Type 0
IsTakenString input taken = IfGot taken (λ span used. (used ≤ length input) × (used ≡ span.start + span.len) × IsStringLead span.len (take span.start input))

taken_after : (lead len : ℕ) (input : List ℕ) → IsStringLead len (take lead input) → IsTakenString input (string_after lead len input)
taken_after lead len input is =
    elim (cases_lt (length input) (lead + len)) [
      | inl short ↦ rw (lt-ltb _ _ short) tt
      | inr there ↦ rw (le-ltb _ _ there) (there, refl, is)
    ]

one_byte : (bytes input : List ℕ) → input ≡ 222 ∷ bytes → AreBytes bytes → IsTakenString input (string_at (222 ∷ bytes))
one_byte [] input e fits = tt
one_byte (b ∷ bytes) input e fits = rw e (taken_after 2 b (222 ∷ b ∷ bytes) (refl, fits.0, refl))

two_bytes : (bytes input : List ℕ) → input ≡ 223 ∷ bytes → AreBytes bytes → IsTakenString input (string_at (223 ∷ bytes))
two_bytes [] input e fits = tt
two_bytes (b ∷ []) input e fits = tt
two_bytes (b ∷ c ∷ bytes) input e fits = rw e (taken_after 3 (256 * b + c) (223 ∷ b ∷ c ∷ bytes) (refl, fits.0, fits.1.0, refl))

pub string_at-taken : (input : List ℕ) → AreBytes input → IsTakenString input (string_at input)
string_at-taken [] fits = tt
string_at-taken (lead ∷ bytes) fits =
    elim (cases_lt lead 128) [
      | inl low ↦ rw (lt-ltb lead 128 low) (taken_after 1 lead (lead ∷ bytes) (low, refl))
      | inr high ↦ elim (cases_eq lead 222) [
        | inl is_one ↦ rw is_one (one_byte bytes (222 ∷ bytes) refl fits.1)
        | inr not_one ↦ elim (cases_eq lead 223) [
          | inl is_two ↦ rw is_two (two_bytes bytes (223 ∷ bytes) refl fits.1)
          | inr not_two ↦ rw (le-ltb lead 128 high, ne_eqb lead 222 not_one, ne_eqb lead 223 not_two) tt
        ]
      ]
    ]

-- ---- what wants more

short_after : (lead len : ℕ) (input : List ℕ) → length input < lead + len → string_after lead len input ≡ More
short_after lead len input short = rw (lt-ltb _ _ short) refl

-- a proper prefix of a string asks for more bytes
pub string_at-cut_off : (text input : List ℕ) → IsCutOff (SpellsString text) input → string_at input ≡ More
string_at-cut_off text input (rest, more, (lead, is, fits, split)) = cut lead text input rest is split more where
  cut : (lead text input rest : List ℕ) → IsStringLead (length text) lead → input ++ rest ≡ lead ++ text → (rest ≡ [] → ⊥) → string_at input ≡ More
  cut lead text [] rest is split more = refl
  cut [] text (i ∷ input) rest is split more = absurd is
  cut (a ∷ []) text (i ∷ input) rest is split more =
      let same : i ≡ length text = (let e : i ≡ a = cc in e ∙ is.1) in
      let shorter : length input < length text = prefix_is_shorter input rest text (cc) more in
      rw (same, lt-ltb (length text) 128 is.0) (short_after 1 (length text) (length text ∷ input) (omega (arith, shorter)))
  cut (a ∷ b ∷ []) text (i ∷ []) rest is split more = let same : i ≡ 222 = (let e : i ≡ a = cc in e ∙ is.0) in rw same refl
  cut (a ∷ b ∷ []) text (i ∷ j ∷ input) rest is split more =
      let same : i ≡ 222 = (let e : i ≡ a = cc in e ∙ is.0) in
      let count : j ≡ length text = (let e : j ≡ b = cc in e ∙ is.2) in
      let shorter : length input < length text = prefix_is_shorter input rest text (cc) more in
      rw (same, count) (short_after 2 (length text) (222 ∷ length text ∷ input) (omega (arith, shorter)))
  cut (a ∷ b ∷ c ∷ []) text (i ∷ []) rest is split more = let same : i ≡ 223 = (let e : i ≡ a = cc in e ∙ is.0) in rw same refl
  cut (a ∷ b ∷ c ∷ []) text (i ∷ j ∷ []) rest is split more = let same : i ≡ 223 = (let e : i ≡ a = cc in e ∙ is.0) in rw same refl
  cut (a ∷ b ∷ c ∷ []) text (i ∷ j ∷ k ∷ input) rest is split more =
      let same : i ≡ 223 = (let e : i ≡ a = cc in e ∙ is.0) in
      let high : j ≡ b = cc in
      let low : k ≡ c = cc in
      let shorter : length input < length text = prefix_is_shorter input rest text (cc) more in
      rw (same, high, low, ← is.3) (short_after 3 (length text) (223 ∷ b ∷ c ∷ input) (omega (arith, shorter)))
  cut (a ∷ b ∷ c ∷ d ∷ lead) text (i ∷ input) rest is split more = absurd is

-- `len` bytes that a lead counts, some of which are not there yet
completed : (len : ℕ) (lead bytes : List ℕ) → IsStringLead len lead → AreBytes bytes → length bytes < len → (text : List ℕ)
    × IsCutOff (SpellsString text) (lead ++ bytes)
completed len lead bytes is fits short =
    let k = len - length bytes in
    let text = bytes ++ zeros k in
    let count : length text ≡ len = omega (arith, length-append bytes (zeros k), length-zeros k, short) in (
      text,
      (
        zeros k,
        λ none. omega (arith, ap length none, length-zeros k, short),
        (lead, rw count is, AreBytes-append bytes (zeros k) fits (AreBytes-zeros k), append_assoc lead bytes (zeros k)),
      ),
    )

after_more : (lead len : ℕ) (input : List ℕ) → string_after lead len input ≡ More → length input < lead + len
after_more lead len input wants = elim (cases_lt (length input) (lead + len)) [
  | inl short ↦ short
  | inr whole ↦ let got = after lead len input whole in let no : Got (span_of lead len) (lead + len) ≡ More = sym got ∙ wants in absurd cc
]

abbrev IsPrefix : List ℕ → Type 0
IsPrefix input = (text : List ℕ) × IsCutOff (SpellsString text) input

one_byte_more : (bytes : List ℕ) → AreBytes bytes → string_at (222 ∷ bytes) ≡ More → IsPrefix (222 ∷ bytes)
one_byte_more [] fits wants = ([], (0 ∷ [], λ none. cc, (222 ∷ 0 ∷ [], (refl, omega arith, refl), tt, refl)))
one_byte_more (b ∷ bytes) fits wants =
    completed b (222 ∷ b ∷ []) bytes (refl, fits.0, refl) fits.1 (omega (arith, after_more 2 b (222 ∷ b ∷ bytes) wants))

two_bytes_more : (bytes : List ℕ) → AreBytes bytes → string_at (223 ∷ bytes) ≡ More → IsPrefix (223 ∷ bytes)
two_bytes_more [] fits wants = ([], (0 ∷ 0 ∷ [], λ none. cc, (223 ∷ 0 ∷ 0 ∷ [], (refl, omega arith, omega arith, refl), tt, refl)))
two_bytes_more (b ∷ []) fits wants =
    let text = zeros (256 * b) in
    (text, (0 ∷ text, λ none. cc, (223 ∷ b ∷ 0 ∷ [], (refl, fits.0, omega arith, omega (arith, length-zeros (256 * b))), AreBytes-zeros (256 * b), refl)))
two_bytes_more (b ∷ c ∷ bytes) fits wants =
    completed (256 * b + c) (223 ∷ b ∷ c ∷ []) bytes (refl, fits.0, fits.1.0, refl) fits.1.1
    (omega (arith, after_more 3 (256 * b + c) (223 ∷ b ∷ c ∷ bytes) wants))

pub more-string_cut_off : (input : List ℕ) → AreBytes input → string_at input ≡ More → IsPrefix input
more-string_cut_off [] fits wants = ([], (0 ∷ [], λ none. cc, (0 ∷ [], (omega arith, refl), tt, refl)))
more-string_cut_off (lead ∷ bytes) fits wants = elim (cases_lt lead 128) [
  | inl low ↦
      let short : string_after 1 lead (lead ∷ bytes) ≡ More = rw (lt-ltb lead 128 low) at wants in
      completed lead (lead ∷ []) bytes (low, refl) fits.1 (omega (arith, after_more 1 lead (lead ∷ bytes) short))
  | inr high ↦ elim (cases_eq lead 222) [
    | inl is_one ↦ subst (λ (n : ℕ). IsPrefix (n ∷ bytes)) (sym is_one) (one_byte_more bytes fits.1 (rw is_one at wants))
    | inr not_one ↦ elim (cases_eq lead 223) [
      | inl is_two ↦ subst (λ (n : ℕ). IsPrefix (n ∷ bytes)) (sym is_two) (two_bytes_more bytes fits.1 (rw is_two at wants))
      | inr not_two ↦ let bad : none_bad ≡ More = rw (le-ltb lead 128 high, ne_eqb lead 222 not_one, ne_eqb lead 223 not_two) at wants in absurd cc
    ]
  ]
]

-- ---- what begins no string
pub string_at-bad : (input : List ℕ) → (BeginsIn 0x80 0xDD input ⊎ BeginsIn 0xE0 0xFF input) → string_at input ≡ Bad 0 BadId
string_at-bad [] begins = elim begins [ inl h ↦ absurd h | inr h ↦ absurd h ]
string_at-bad (lead ∷ bytes) begins =
    let high : 128 ≤ lead = elim begins [ inl h ↦ h.0 | inr h ↦ omega (arith, h.0) ] in
    let not_one : lead ≡ 222 → ⊥ = λ e. elim begins [ inl h ↦ omega (arith, h.1) | inr h ↦ omega (arith, h.0) ] in
    let not_two : lead ≡ 223 → ⊥ = λ e. elim begins [ inl h ↦ omega (arith, h.1) | inr h ↦ omega (arith, h.0) ] in
    rw (le-ltb lead 128 high, ne_eqb lead 222 not_one, ne_eqb lead 223 not_two) refl

after_not_bad : (lead len : ℕ) (input : List ℕ) → string_after lead len input ≡ Bad 0 BadId → ⊥
after_not_bad lead len input bad = elim (cases_lt (length input) (lead + len)) [
  | inl short ↦ let no : none_taken ≡ Bad 0 BadId = sym (short_after lead len input short) ∙ bad in cc
  | inr whole ↦ let no : Got (span_of lead len) (lead + len) ≡ Bad 0 BadId = sym (after lead len input whole) ∙ bad in cc
]

one_byte_not_bad : (bytes : List ℕ) → string_at (222 ∷ bytes) ≡ none_bad → ⊥
one_byte_not_bad [] bad = cc
one_byte_not_bad (b ∷ bytes) bad = after_not_bad 2 b (222 ∷ b ∷ bytes) bad

two_bytes_not_bad : (bytes : List ℕ) → string_at (223 ∷ bytes) ≡ none_bad → ⊥
two_bytes_not_bad [] bad = cc
two_bytes_not_bad (b ∷ []) bad = cc
two_bytes_not_bad (b ∷ c ∷ bytes) bad = after_not_bad 3 (256 * b + c) (223 ∷ b ∷ c ∷ bytes) bad

pub bad-string_at : (input : List ℕ) → AreBytes input → string_at input ≡ Bad 0 BadId → BeginsIn 0x80 0xDD input ⊎ BeginsIn 0xE0 0xFF input
bad-string_at [] fits bad = absurd cc
bad-string_at (lead ∷ bytes) fits bad = elim (cases_lt lead 128) [
  | inl low ↦ absurd (after_not_bad 1 lead (lead ∷ bytes) (rw (lt-ltb lead 128 low) at bad))
  | inr high ↦ elim (cases_eq lead 222) [
    | inl is_one ↦ absurd (one_byte_not_bad bytes (rw is_one at bad))
    | inr not_one ↦ elim (cases_eq lead 223) [
      | inl is_two ↦ absurd (two_bytes_not_bad bytes (rw is_two at bad))
      | inr not_two ↦ elim (cases_lt lead 222) [
        | inl below ↦ inl (omega arith, omega arith)
        | inr above ↦ inr (omega (arith, not_one, not_two), omega (arith, fits.0))
      ]
    ]
  ]
]
