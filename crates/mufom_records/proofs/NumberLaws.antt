-- Bytes and numbers are read exactly.
use Rattle.std.proofs.Common.{◌≡◌, ℕ, ◌+◌, ◌-◌, ◌≤◌, Bool, true, false, List, [], ◌∷◌, ◌++◌, length, take, drop, Option, Some, None, Ok, Err, refl}
use Rattle.std.proofs.Common.{sym, ap, subst, ◌∙◌, inl, inr, arith, append_assoc, if◌then◌else◌}
use Rattle.std.proofs.lemmas.Bool.{cases_Bool, cases_lt, lt-ltb, le-ltb}
use Rattle.std.proofs.lemmas.List.{length-take, take-append-drop}
use Rattle.mufom_numbers.specs.declared.reason.Reason.{Reason}
use Rattle.mufom_numbers.specs.declared.reason.Reason.TheVariants.{BadNumber}
use Rattle.mufom_numbers.specs.declared.taken.Taken.{Taken}
use Rattle.mufom_numbers.specs.declared.taken.Taken.TheVariants as taken
use Rattle.mufom_numbers.specs.Spelling.{AreBytes, SpellsNumber, IfGot, BeginsIn, big_endian, number_at}
use Rattle.mufom_numbers.proofs.SpellingLaws.{number_at-spelling, number_at-got, number_at-cut_off, more-cut_off, number_at-bad, bad-number_at}
use Rattle.mufom_expr.specs.TokenAt.{begins_number}
use Rattle.mufom_records.specs.declared.stop.Stop.{Stop}
use Rattle.mufom_records.specs.declared.stop.Stop.TheVariants.{More, Bad}
use Rattle.mufom_records.specs.Fields.{byte, number, letter, optional_number, is_one_of, SpellsField, first_of}
use Rattle.mufom_records.specs.Reading.{Reading, ◌>>=◌, moved, first_byte, plain_number_at, letter_at, optional_number_at}
use Rattle.mufom_records.specs.Faults.{IsCutOffNumber, FieldFault}
use Rattle.mufom_records.proofs.Exact.{ok, stopped, same_value, same_place, same_stop, ok_not_err, AreBytes-drop, Found, found, found-as, IsExact}

-- ---- a byte

byte_got : (input : List ℕ) (at b after : ℕ) (bytes : List ℕ) → drop at input ≡ bytes → first_byte bytes at ≡ Ok (b, after) → Found byte input at b after
byte_got input at b after [] e gives = absurd (ok_not_err b after More (sym gives))
byte_got input at b after (c ∷ rest) e gives = found-as byte input at c (at + 1) b after (found byte input at c (at + 1) (c ∷ []) rest refl e refl) gives

byte_not_bad : (bytes : List ℕ) (at fault_offset : ℕ) (reason : Reason) → first_byte bytes at ≡ Err (Bad fault_offset reason) → ⊥
byte_not_bad [] at fault_offset reason gives = let same : More ≡ Bad fault_offset reason = same_stop {X = ℕ} More (Bad fault_offset reason) gives in cc
byte_not_bad (b ∷ rest) at fault_offset reason gives = ok_not_err b (at + 1) (Bad fault_offset reason) gives

byte_more : (bytes : List ℕ) (at : ℕ) → first_byte bytes at ≡ Err More → bytes ≡ []
byte_more [] at gives = refl
byte_more (b ∷ rest) at gives = absurd (ok_not_err b (at + 1) More gives)

pub byte-exact : IsExact byte
byte-exact = record {
  got = λ input at fits x after gives. byte_got input at x after (drop at input) refl gives;
  only = λ input at x prefix rest spells split. rw (split, spells) refl;
  bad = λ input at fits fault_offset reason gives. absurd (byte_not_bad (drop at input) at fault_offset reason gives);
  fault = λ input at fault_offset reason has. absurd has;
  more = λ input at fits gives. byte_more (drop at input) at gives;
  ends = λ input at ends. rw ends refl;
  later = λ x at prefix next spells. spells;
  grows = λ at bytes more fault_offset reason has. has;
}

-- ---- any number

pub record FoundNumber (input : List ℕ) (at n after : ℕ) : Type 0 where
  pub prefix : List ℕ
  pub rest : List ℕ
  pub spells : SpellsNumber n prefix
  pub split : drop at input ≡ prefix ++ rest
  pub count : after ≡ at + length prefix

plain_got : (input : List ℕ) (at n after : ℕ) (answer : Taken ℕ)
    → IfGot answer (λ m used. (used ≤ length (drop at input)) × SpellsNumber m (take used (drop at input))) → moved at answer ≡ Ok (n, after)
    → FoundNumber input at n after
plain_got input at n after (taken.Got m used) got gives =
    let bytes = drop at input in
    let count : length (take used bytes) ≡ used = omega (arith, length-take used bytes, got.0) in
    record {
      prefix = take used bytes;
      rest = drop used bytes;
      spells = subst (λ (k : ℕ). SpellsNumber k (take used bytes)) (same_value m n (at + used) after gives) got.1;
      split = sym (take-append-drop used bytes);
      count = sym (same_place m n (at + used) after gives) ∙ ap (λ (k : ℕ). at + k) (sym count);
    }
plain_got input at n after taken.More got gives = absurd (ok_not_err n after More (sym gives))
plain_got input at n after (taken.Bad offset reason) got gives = absurd (ok_not_err n after (Bad (at + offset) reason) (sym gives))

pub plain-got : (input : List ℕ) (at : ℕ) → AreBytes input → (n after : ℕ) → plain_number_at input at ≡ Ok (n, after) → FoundNumber input at n after
plain-got input at fits n after gives = plain_got input at n after (number_at (drop at input))
    (number_at-got (drop at input) (AreBytes-drop at input fits)) gives

pub plain-only : (input : List ℕ) (at n : ℕ) (prefix rest : List ℕ) → SpellsNumber n prefix → drop at input ≡ prefix ++ rest
    → plain_number_at input at ≡ Ok (n, at + length prefix)
plain-only input at n prefix rest spells split = ap (λ (l : List ℕ). moved at (number_at l)) split
    ∙ ap (λ (t : Taken ℕ). moved at t) (number_at-spelling n prefix rest spells)

abbrev more_number : Taken ℕ
more_number = taken.More

abbrev got_number : ℕ → ℕ → Taken ℕ
got_number n used = taken.Got n used

abbrev bad_number : ℕ → Reason → Taken ℕ
bad_number offset reason = taken.Bad offset reason

-- a byte of 0 to 88 is not an error as a number
not_bad : (b : ℕ) (bytes : List ℕ) → b ≤ 0x88 → (offset : ℕ) (reason : Reason) → number_at (b ∷ bytes) ≡ bad_number offset reason → ⊥
not_bad b bytes low offset reason e = elim (cases_lt b 128) [
  | inl short ↦ let no : got_number b 1 ≡ bad_number offset reason = rw (lt-ltb b 128 short) at e in cc
  | inr long ↦ elim (cases_lt (length bytes) (b - 128)) [
    | inl cut ↦ let no : more_number ≡ bad_number offset reason = rw (le-ltb b 128 long, le-ltb 136 b low, lt-ltb _ _ cut) at e in cc
    | inr whole ↦ let no : got_number (big_endian (take (b - 128) bytes)) (b - 127) ≡ bad_number offset reason =
        rw (le-ltb b 128 long, le-ltb 136 b low, le-ltb _ _ whole) at e in cc
  ]
]

-- the only error of a number
bad_is : (bytes : List ℕ) (offset : ℕ) (reason : Reason) → number_at bytes ≡ bad_number offset reason → bad_number 0 BadNumber ≡ bad_number offset reason
bad_is [] offset reason e = let no : more_number ≡ bad_number offset reason = e in absurd cc
bad_is (b ∷ bytes) offset reason e = elim (cases_lt 136 b) [
  | inl above ↦ let is : number_at (b ∷ bytes) ≡ bad_number 0 BadNumber = rw (le-ltb b 128 (omega (arith, above)), lt-ltb 136 b above) refl in sym is ∙ e
  | inr within ↦ absurd (not_bad b bytes within offset reason e)
]

plain_bad : (input : List ℕ) (at fault_offset : ℕ) (reason : Reason) → AreBytes (drop at input) → (answer : Taken ℕ) → number_at (drop at input)
    ≡ answer → moved at answer ≡ Err (Bad fault_offset reason)
    → (reason ≡ BadNumber) × (fault_offset ≡ at) × BeginsIn 0x89 0xFF (drop at input)
plain_bad input at fault_offset reason fits (taken.Got m used) is gives = absurd (ok_not_err m (at + used) (Bad fault_offset reason) gives)
plain_bad input at fault_offset reason fits taken.More is gives = let same : More ≡ Bad fault_offset reason =
    same_stop {X = ℕ} More (Bad fault_offset reason) gives in absurd cc
plain_bad input at fault_offset reason fits (taken.Bad offset why) is gives =
    let same : Bad (at + offset) why ≡ Bad fault_offset reason = same_stop {X = ℕ} (Bad (at + offset) why) (Bad fault_offset reason) gives in
    let one = bad_is (drop at input) offset why is in
    let offset_is : 0 ≡ offset = cc in
    let place_is : at + offset ≡ fault_offset = cc in
    (cc, omega (arith, offset_is, place_is), bad-number_at (drop at input) fits (is ∙ sym one))

pub plain-bad : (input : List ℕ) (at : ℕ) → AreBytes input → (fault_offset : ℕ) (reason : Reason) → plain_number_at input at
    ≡ Err (Bad fault_offset reason) → (reason ≡ BadNumber) × (fault_offset ≡ at) × BeginsIn 0x89 0xFF (drop at input)
plain-bad input at fits fault_offset reason gives = plain_bad input at fault_offset reason (AreBytes-drop at input fits) (number_at (drop at input)) refl gives

pub plain-fault : (input : List ℕ) (at : ℕ) → BeginsIn 0x89 0xFF (drop at input) → plain_number_at input at ≡ Err (Bad at BadNumber)
plain-fault input at begins = let same : at + 0 ≡ at = omega arith in rw (number_at-bad (drop at input) begins, same) refl

plain_more : (input : List ℕ) (at : ℕ) → AreBytes (drop at input) → (answer : Taken ℕ) → number_at (drop at input) ≡ answer → moved at answer
    ≡ Err More → IsCutOffNumber (drop at input)
plain_more input at fits (taken.Got m used) is gives = absurd (ok_not_err m (at + used) More gives)
plain_more input at fits taken.More is gives = more-cut_off (drop at input) fits is
plain_more input at fits (taken.Bad offset why) is gives = let same : Bad (at + offset) why ≡ More =
    same_stop {X = ℕ} (Bad (at + offset) why) More gives in absurd cc

pub plain-more : (input : List ℕ) (at : ℕ) → AreBytes input → plain_number_at input at ≡ Err More → IsCutOffNumber (drop at input)
plain-more input at fits gives = plain_more input at (AreBytes-drop at input fits) (number_at (drop at input)) refl gives

pub plain-ends : (input : List ℕ) (at : ℕ) → IsCutOffNumber (drop at input) → plain_number_at input at ≡ Err More
plain-ends input at cut = rw (number_at-cut_off (drop at input) cut.0 cut.1) refl

pub BeginsIn-grows : (low high : ℕ) (bytes more : List ℕ) → BeginsIn low high bytes → BeginsIn low high (bytes ++ more)
BeginsIn-grows low high [] more begins = absurd begins
BeginsIn-grows low high (b ∷ bytes) more begins = begins

-- ---- a number that passes a test

module _ (fits : ℕ → Bool) (where_ : ℕ → ℕ) (fault : Reason) where
  abbrev tested : ℕ → ℕ × ℕ → Reading ℕ
  tested at n = if fits n.0 then Ok (n.0, n.1) else Err (Bad (where_ at) fault)

  number_got : (input : List ℕ) (at : ℕ) → AreBytes input → (x after : ℕ) (answer : Reading ℕ) → plain_number_at input at ≡ answer
      → (answer >>= tested at) ≡ Ok (x, after) → Found (number fits where_ fault) input at x after
  number_got input at are x after (Err stop) is gives = absurd (ok_not_err x after stop (sym gives))
  number_got input at are x after (Ok r) is gives = elim (cases_Bool (fits r.0)) [
    | inl h ↦
        let e : ok r.0 r.1 ≡ ok x after = rw h at gives in
        let one = plain-got input at are r.0 r.1 is in
        found-as (number fits where_ fault) input at r.0 r.1 x after
        (found (number fits where_ fault) input at r.0 r.1 one.prefix one.rest (one.spells, h) one.split one.count) e
    | inr h ↦ let e : stopped {X = ℕ} (Bad (where_ at) fault) ≡ ok x after = rw h at gives in absurd (ok_not_err x after (Bad (where_ at) fault) (sym e))
  ]

  number_bad : (input : List ℕ) (at : ℕ) → AreBytes input → (fault_offset : ℕ) (reason : Reason) (answer : Reading ℕ) → plain_number_at input at
      ≡ answer → (answer >>= tested at) ≡ Err (Bad fault_offset reason) → FieldFault (number fits where_ fault) at (drop at input) fault_offset reason
  number_bad input at are fault_offset reason (Err stop) is gives = inl (plain-bad input at are fault_offset reason (is ∙ gives))
  number_bad input at are fault_offset reason (Ok r) is gives = elim (cases_Bool (fits r.0)) [
    | inl h ↦ let e : ok r.0 r.1 ≡ stopped (Bad fault_offset reason) = rw h at gives in absurd (ok_not_err r.0 r.1 (Bad fault_offset reason) e)
    | inr h ↦
        let e : stopped {X = ℕ} (Bad (where_ at) fault) ≡ stopped (Bad fault_offset reason) = rw h at gives in
        let same = same_stop {X = ℕ} (Bad (where_ at) fault) (Bad fault_offset reason) e in
        let one = plain-got input at are r.0 r.1 is in
        inr (cc, cc, (r.0, one.prefix, one.rest, one.spells, h, one.split))
  ]

  number_fault : (input : List ℕ) (at fault_offset : ℕ) (reason : Reason)
      → FieldFault (number fits where_ fault) at (drop at input) fault_offset reason → (plain_number_at input at >>= tested at) ≡ Err (Bad fault_offset reason)
  number_fault input at fault_offset reason (inl (why, same, begins)) = rw (why, same, plain-fault input at begins) refl
  number_fault input at fault_offset reason (inr (why, same, (n, text, rest, spells, fails, split))) =
      rw (why, same, plain-only input at n text rest spells split, fails) refl

  number_more : (input : List ℕ) (at : ℕ) → AreBytes input → (answer : Reading ℕ) → plain_number_at input at ≡ answer → (answer >>= tested at)
      ≡ Err More → IsCutOffNumber (drop at input)
  number_more input at are (Err stop) is gives = plain-more input at are (is ∙ gives)
  number_more input at are (Ok r) is gives = elim (cases_Bool (fits r.0)) [
    | inl h ↦ let e : ok r.0 r.1 ≡ stopped More = rw h at gives in absurd (ok_not_err r.0 r.1 More e)
    | inr h ↦
        let e : stopped {X = ℕ} (Bad (where_ at) fault) ≡ stopped More = rw h at gives in
        let same = same_stop {X = ℕ} (Bad (where_ at) fault) More e in absurd cc
  ]

  number_grows : (at : ℕ) (bytes more : List ℕ) (fault_offset : ℕ) (reason : Reason)
      → FieldFault (number fits where_ fault) at bytes fault_offset reason → FieldFault (number fits where_ fault) at (bytes ++ more) fault_offset reason
  number_grows at bytes more fault_offset reason (inl (why, same, begins)) = inl (why, same, BeginsIn-grows 0x89 0xFF bytes more begins)
  number_grows at bytes more fault_offset reason (inr (why, same, (n, text, rest, spells, fails, split))) =
      inr (why, same, (n, text, rest ++ more, spells, fails, ap (λ (l : List ℕ). l ++ more) split ∙ append_assoc text rest more))

  pub number-exact : IsExact (number fits where_ fault)
  number-exact = record {
    got = λ input at are x after gives. number_got input at are x after (plain_number_at input at) refl gives;
    only = λ input at x prefix rest spells split. rw (plain-only input at x prefix rest spells.0 split, spells.1) refl;
    bad = λ input at are fault_offset reason gives. number_bad input at are fault_offset reason (plain_number_at input at) refl gives;
    fault = number_fault;
    more = λ input at are gives. number_more input at are (plain_number_at input at) refl gives;
    ends = λ input at ends. rw (plain-ends input at ends) refl;
    later = λ x at prefix next spells. spells;
    grows = number_grows;
  }

-- ---- one of some letters, or none

module _ (known : List ℕ) where
  letter_yes : (input : List ℕ) (at b : ℕ) (rest : List ℕ) → drop at input ≡ b ∷ rest → is_one_of known b ≡ true → letter_at known input at
      ≡ Ok (Some b, at + 1)
  letter_yes input at b rest e h = rw (e, h) refl

  letter_no : (input : List ℕ) (at b : ℕ) (rest : List ℕ) → drop at input ≡ b ∷ rest → is_one_of known b ≡ false → letter_at known input at ≡ Ok (None, at)
  letter_no input at b rest e h = rw (e, h) refl

  letter_end : (input : List ℕ) (at : ℕ) → drop at input ≡ [] → letter_at known input at ≡ Err More
  letter_end input at e = rw e refl

  letter_got : (input : List ℕ) (at : ℕ) (x : Option ℕ) (after : ℕ) (bytes : List ℕ) → drop at input ≡ bytes → letter_at known input at
      ≡ Ok (x, after) → Found (letter known) input at x after
  letter_got input at x after [] e gives = absurd (ok_not_err x after More (sym gives ∙ letter_end input at e))
  letter_got input at x after (b ∷ rest) e gives = elim (cases_Bool (is_one_of known b)) [
    | inl h ↦ found-as (letter known) input at (Some b) (at + 1) x after
        (found (letter known) input at (Some b) (at + 1) (b ∷ []) rest (refl, h) e refl) (sym (letter_yes input at b rest e h) ∙ gives)
    | inr h ↦ found-as (letter known) input at None at x after (found (letter known) input at None at [] (b ∷ rest) (refl, h) e (omega arith))
        (sym (letter_no input at b rest e h) ∙ gives)
  ]

  letter_only : (input : List ℕ) (at : ℕ) (x : Option ℕ) (prefix rest : List ℕ) → SpellsField (letter known) x at prefix (first_of rest None)
      → drop at input ≡ prefix ++ rest → letter_at known input at ≡ Ok (x, at + length prefix)
  letter_only input at None prefix [] spells split = absurd spells.1
  letter_only input at None prefix (b ∷ rest) spells split =
      let count : at ≡ at + length prefix = omega (arith, ap length spells.0) in
      letter_no input at b rest (split ∙ ap (λ (l : List ℕ). l ++ b ∷ rest) spells.0) spells.1 ∙ ap (λ (n : ℕ). ok None n) count
  letter_only input at (Some b) prefix rest spells split =
      let count : at + 1 ≡ at + length prefix = omega (arith, ap length spells.0) in
      letter_yes input at b rest (split ∙ ap (λ (l : List ℕ). l ++ rest) spells.0) spells.1 ∙ ap (λ (n : ℕ). ok (Some b) n) count

  letter_stops : (input : List ℕ) (at : ℕ) (stop : Stop) (bytes : List ℕ) → drop at input ≡ bytes → letter_at known input at ≡ Err stop → (bytes ≡ [])
      × (stop ≡ More)
  letter_stops input at stop [] e gives = (refl, same_stop {X = Option ℕ} stop More (sym gives ∙ letter_end input at e))
  letter_stops input at stop (b ∷ rest) e gives = elim (cases_Bool (is_one_of known b)) [
    | inl h ↦ absurd (ok_not_err (Some b) (at + 1) stop (sym (letter_yes input at b rest e h) ∙ gives))
    | inr h ↦ absurd (ok_not_err None at stop (sym (letter_no input at b rest e h) ∙ gives))
  ]

  letter_later : (x : Option ℕ) (at : ℕ) (prefix : List ℕ) (next : Option ℕ) → SpellsField (letter known) x at prefix None
      → SpellsField (letter known) x at prefix next
  letter_later None at prefix next spells = absurd spells.1
  letter_later (Some b) at prefix next spells = spells

  pub letter-exact : IsExact (letter known)
  letter-exact = record {
    got = λ input at fits x after gives. letter_got input at x after (drop at input) refl gives;
    only = letter_only;
    bad = λ input at fits fault_offset reason gives. let no = (letter_stops input at (Bad fault_offset reason) (drop at input) refl gives).1 in absurd cc;
    fault = λ input at fault_offset reason has. absurd has;
    more = λ input at fits gives. (letter_stops input at More (drop at input) refl gives).0;
    ends = λ input at ends. letter_end input at ends;
    later = letter_later;
    grows = λ at bytes more fault_offset reason has. has;
  }

-- ---- a number, or none

pub number_first : (n : ℕ) (prefix : List ℕ) → SpellsNumber n prefix → (b : ℕ) × (rest : List ℕ) × (prefix ≡ b ∷ rest) × (begins_number b ≡ true)
number_first n [] spells = absurd spells
number_first n (b ∷ rest) (inl short) = let low : b ≤ 136 = omega (arith, short.0) in (b, rest, refl, begins b low) where
  begins : (b : ℕ) → b ≤ 136 → begins_number b ≡ true
  begins b low = grind (arith, low)
number_first n (b ∷ rest) (inr long) = let low : b ≤ 136 = omega (arith, long.0, long.1) in (b, rest, refl, begins b low) where
  begins : (b : ℕ) → b ≤ 136 → begins_number b ≡ true
  begins b low = grind (arith, low)

begins_low : (b : ℕ) → begins_number b ≡ true → b ≤ 136
begins_low b h = grind (arith, h)

abbrev some_number : ℕ × ℕ → Reading (Option ℕ)
some_number n = Ok (Some n.0, n.1)

optional_yes : (input : List ℕ) (at b : ℕ) (rest : List ℕ) → drop at input ≡ b ∷ rest → begins_number b ≡ true → optional_number_at input at
    ≡ (plain_number_at input at >>= some_number)
optional_yes input at b rest e h = rw (e, h) refl

optional_no : (input : List ℕ) (at b : ℕ) (rest : List ℕ) → drop at input ≡ b ∷ rest → begins_number b ≡ false → optional_number_at input at ≡ Ok (None, at)
optional_no input at b rest e h = rw (e, h) refl

optional_end : (input : List ℕ) (at : ℕ) → drop at input ≡ [] → optional_number_at input at ≡ Err More
optional_end input at e = rw e refl

some_got : (input : List ℕ) (at : ℕ) → AreBytes input → (x : Option ℕ) (after : ℕ) (answer : Reading ℕ) → plain_number_at input at ≡ answer
    → (answer >>= some_number) ≡ Ok (x, after) → Found optional_number input at x after
some_got input at fits x after (Ok r) is gives =
    let one = plain-got input at fits r.0 r.1 is in
    found-as optional_number input at (Some r.0) r.1 x after (found optional_number input at (Some r.0) r.1 one.prefix one.rest one.spells one.split
    one.count) gives
some_got input at fits x after (Err stop) is gives = absurd (ok_not_err x after stop (sym gives))

optional_got : (input : List ℕ) (at : ℕ) → AreBytes input → (x : Option ℕ) (after : ℕ) (bytes : List ℕ) → drop at input ≡ bytes
    → optional_number_at input at ≡ Ok (x, after) → Found optional_number input at x after
optional_got input at fits x after [] e gives = absurd (ok_not_err x after More (sym gives ∙ optional_end input at e))
optional_got input at fits x after (b ∷ rest) e gives = elim (cases_Bool (begins_number b)) [
  | inl h ↦ some_got input at fits x after (plain_number_at input at) refl (sym (optional_yes input at b rest e h) ∙ gives)
  | inr h ↦ found-as optional_number input at None at x after (found optional_number input at None at [] (b ∷ rest) (refl, h) e (omega arith))
      (sym (optional_no input at b rest e h) ∙ gives)
]

optional_only : (input : List ℕ) (at : ℕ) (x : Option ℕ) (prefix rest : List ℕ) → SpellsField optional_number x at prefix (first_of rest None)
    → drop at input ≡ prefix ++ rest → optional_number_at input at ≡ Ok (x, at + length prefix)
optional_only input at None prefix [] spells split = absurd spells.1
optional_only input at None prefix (b ∷ rest) spells split =
    let count : at ≡ at + length prefix = omega (arith, ap length spells.0) in
    optional_no input at b rest (split ∙ ap (λ (l : List ℕ). l ++ b ∷ rest) spells.0) spells.1 ∙ ap (λ (n : ℕ). ok None n) count
optional_only input at (Some n) prefix rest spells split =
    let first = number_first n prefix spells in
    let e : drop at input ≡ first.0 ∷ (first.1 ++ rest) = split ∙ ap (λ (l : List ℕ). l ++ rest) first.2 in
    optional_yes input at first.0 (first.1 ++ rest) e first.3 ∙ ap (λ (r : Reading ℕ). r >>= some_number) (plain-only input at n prefix rest spells split)

some_stops : (input : List ℕ) (at : ℕ) (stop : Stop) (answer : Reading ℕ) → plain_number_at input at ≡ answer → (answer >>= some_number) ≡ Err stop
    → plain_number_at input at ≡ Err stop
some_stops input at stop (Ok r) is gives = absurd (ok_not_err (Some r.0) r.1 stop gives)
some_stops input at stop (Err s) is gives = is ∙ ap (λ (t : Stop). stopped t) (same_stop {X = Option ℕ} s stop gives)

begins_apart : (b : ℕ) (bytes rest : List ℕ) → bytes ≡ b ∷ rest → begins_number b ≡ true → BeginsIn 0x89 0xFF bytes → ⊥
begins_apart b [] rest e h begins = begins
begins_apart b (c ∷ bytes) rest e h begins = let same : c ≡ b = cc in let low = begins_low b h in omega (arith, begins.0, low, same)

optional_bad : (input : List ℕ) (at : ℕ) → AreBytes input → (fault_offset : ℕ) (reason : Reason) (bytes : List ℕ) → drop at input ≡ bytes
    → optional_number_at input at ≡ Err (Bad fault_offset reason) → ⊥
optional_bad input at fits fault_offset reason [] e gives = let same : More ≡ Bad fault_offset reason =
    same_stop {X = Option ℕ} More (Bad fault_offset reason) (sym (optional_end input at e) ∙ gives) in cc
optional_bad input at fits fault_offset reason (b ∷ rest) e gives = elim (cases_Bool (begins_number b)) [
  | inl h ↦
      let plain = some_stops input at (Bad fault_offset reason) (plain_number_at input at) refl (sym (optional_yes input at b rest e h) ∙ gives) in
      begins_apart b (drop at input) rest e h (plain-bad input at fits fault_offset reason plain).2
  | inr h ↦ ok_not_err None at (Bad fault_offset reason) (sym (optional_no input at b rest e h) ∙ gives)
]

optional_more : (input : List ℕ) (at : ℕ) → AreBytes input → (bytes : List ℕ) → drop at input ≡ bytes → optional_number_at input at ≡ Err More
    → IsCutOffNumber (drop at input)
optional_more input at fits [] e gives = plain-more input at fits (rw e refl)
optional_more input at fits (b ∷ rest) e gives = elim (cases_Bool (begins_number b)) [
  | inl h ↦ plain-more input at fits (some_stops input at More (plain_number_at input at) refl (sym (optional_yes input at b rest e h) ∙ gives))
  | inr h ↦ absurd (ok_not_err None at More (sym (optional_no input at b rest e h) ∙ gives))
]

pub cut_first : (b : ℕ) (rest : List ℕ) → IsCutOffNumber (b ∷ rest) → begins_number b ≡ true
cut_first b rest (n, (more, some, spells)) =
    let first = number_first n ((b ∷ rest) ++ more) spells in
    let same : b ≡ first.0 = head_is b (rest ++ more) first.0 first.1 first.2 in
    subst (λ (c : ℕ). begins_number c ≡ true) (sym same) first.3 where
      head_is : (x : ℕ) (xs : List ℕ) (y : ℕ) (ys : List ℕ) → x ∷ xs ≡ y ∷ ys → x ≡ y
      head_is x xs y ys e = cc

optional_ends : (input : List ℕ) (at : ℕ) (bytes : List ℕ) → drop at input ≡ bytes → IsCutOffNumber bytes → optional_number_at input at ≡ Err More
optional_ends input at [] e ends = optional_end input at e
optional_ends input at (b ∷ rest) e ends =
    optional_yes input at b rest e (cut_first b rest ends) ∙ ap (λ (r : Reading ℕ). r >>= some_number)
    (plain-ends input at (subst (λ (l : List ℕ). IsCutOffNumber l) (sym e) ends))

optional_later : (x : Option ℕ) (at : ℕ) (prefix : List ℕ) (next : Option ℕ) → SpellsField optional_number x at prefix None
    → SpellsField optional_number x at prefix next
optional_later None at prefix next spells = absurd spells.1
optional_later (Some n) at prefix next spells = spells

pub optional_number-exact : IsExact optional_number
optional_number-exact = record {
  got = λ input at fits x after gives. optional_got input at fits x after (drop at input) refl gives;
  only = optional_only;
  bad = λ input at fits fault_offset reason gives. absurd (optional_bad input at fits fault_offset reason (drop at input) refl gives);
  fault = λ input at fault_offset reason has. absurd has;
  more = λ input at fits gives. optional_more input at fits (drop at input) refl gives;
  ends = λ input at ends. optional_ends input at (drop at input) refl ends;
  later = optional_later;
  grows = λ at bytes more fault_offset reason has. has;
}
