-- Records that are read before bytes that are not records.
use Rattle.std.proofs.Common.{◌≡◌, ◌⊎◌, ℕ, zero, suc, ◌-◌, ◌<◌, ◌≤◌, ◌==◌, Bool, true, false, cond, nat_le, List, [], ◌∷◌, ◌++◌}
use Rattle.std.proofs.Common.{length, take, drop, Option, Some, None, IfSome, IfOk, Result, Ok, Err, refl, sym, ap, subst, ◌∙◌, inl, inr, arith, append_assoc}
use Rattle.std.proofs.lemmas.Bool.{cases_lt, lt-ltb, le-ltb, le-leb, leb-true, eq-eqb, ne_eqb}
use Rattle.std.proofs.lemmas.List.{length-append, length-take, drop_at, take-append-le}
use Rattle.mufom_numbers.specs.declared.reason.Reason.{Reason}
use Rattle.mufom_numbers.specs.declared.taken.Taken.{Taken}
use Rattle.mufom_numbers.specs.declared.taken.Taken.TheVariants as taken
use Rattle.mufom_numbers.specs.Spelling.{AreBytes, IfGot}
use Rattle.mufom_records.specs.declared.record.Mode.{Mode}
use Rattle.mufom_records.specs.declared.record.Record.{Record}
use Rattle.mufom_records.specs.Fields.{first_of}
use Rattle.mufom_records.specs.Layouts.{IsWholeRecord}
use Rattle.mufom_records.specs.Reading.{as_taken, in_place, record_at, closed_at, unless_past, record_before, record_within, next_seen}
use Rattle.mufom_records.specs.Faults.{IsFaulty}
use Rattle.mufom_records.specs.declared.stop.Stop.{Stop}
use Rattle.mufom_records.proofs.ShortLaws.{unended-short}
use Rattle.mufom_records.proofs.EndLaws.{ends-anywhere}
use Rattle.mufom_records.proofs.RecordLaws.{got_record, bad_record, more_record, record_at-got, record_at-only, record_at-stable, bad-record_at}

-- ---- bytes

AreBytes-take : (n : ℕ) (bytes : List ℕ) → AreBytes bytes → AreBytes (take n bytes)
AreBytes-take zero bytes fits = tt
AreBytes-take (suc n) [] fits = tt
AreBytes-take (suc n) (b ∷ bytes) fits = (fits.0, AreBytes-take n bytes fits.1)

AreBytes-append : (xs ys : List ℕ) → AreBytes xs → AreBytes ys → AreBytes (xs ++ ys)
AreBytes-append [] ys first second = second
AreBytes-append (x ∷ xs) ys first second = (first.0, AreBytes-append xs ys first.1 second)

pub closed_fits : (end : ℕ) (input : List ℕ) → AreBytes input → AreBytes (closed_at end input)
closed_fits end input fits = AreBytes-append (take end input) (0xE1 ∷ []) (AreBytes-take end input fits) (omega arith, tt)

-- ---- what the bytes before the end decide

closed-same : (end : ℕ) (m : Mode) (answer other : Taken Record) → IfGot answer (λ row used. used ≤ end) → (answer ≡ taken.More → ⊥)
    → unless_past end answer other ≡ answer
closed-same end m (taken.Got row used) other few decided = ap (λ (b : Bool). cond b (taken.Got row used) other) (le-leb used end few)
closed-same end m taken.More other few decided = absurd (decided refl)
closed-same end m (taken.Bad offset reason) other few decided = refl

got_few : (m : Mode) (input : List ℕ) (answer : Taken Record)
    → IfGot answer (λ row used. (used ≤ length input) × IsWholeRecord m row (take used input) (first_of (drop used input) None))
    → IfGot answer (λ row used. used ≤ length input)
got_few m input (taken.Got row used) got = got.0
got_few m input taken.More got = tt
got_few m input (taken.Bad offset reason) got = tt

few_of : (end : ℕ) (answer : Taken Record) (n : ℕ) → n ≤ end → IfGot answer (λ row used. used ≤ n) → IfGot answer (λ row used. used ≤ end)
few_of end (taken.Got row used) n within few = omega (arith, within, few)
few_of end taken.More n within few = tt
few_of end (taken.Bad offset reason) n within few = tt

pub before-within : (end : ℕ) (m : Mode) (input : List ℕ) → end < length input
    → record_before end m input ≡ unless_past end (record_at m (closed_at end input)) (record_at m input)
before-within end m input within = rw (lt-ltb end (length input) within) refl

pub before-beyond : (end : ℕ) (m : Mode) (input : List ℕ) → length input ≤ end → record_before end m input ≡ record_at m input
before-beyond end m input beyond = rw (le-ltb end (length input) beyond) refl

pub before-decided : (end : ℕ) (m : Mode) (input : List ℕ) → AreBytes input → end < length input → (record_at m (take end input) ≡ taken.More → ⊥)
    → record_before end m input ≡ record_at m (take end input)
before-decided end m input fits within decided =
    let first = take end input in
    let fits_first = AreBytes-take end input fits in
    let count : length first ≤ end = omega (arith, length-take end input) in
    before-within end m input within
    ∙ ap (λ (a : Taken Record). unless_past end a (record_at m input)) (record_at-stable m first (0xE1 ∷ []) fits_first decided)
    ∙ closed-same end m (record_at m first) (record_at m input)
    (few_of end (record_at m first) (length first) count (got_few m first (record_at m first) (record_at-got m first fits_first))) decided

-- ---- what is read is there

first-drop : (used end : ℕ) (input more : List ℕ) → used < end → used < length input → first_of (drop used (take end input ++ more)) None
    ≡ first_of (drop used input) None
first-drop used end [] more below within = absurd (omega (arith, within))
first-drop zero zero (b ∷ input) more below within = absurd (omega (arith, below))
first-drop zero (suc end) (b ∷ input) more below within = refl
first-drop (suc used) zero (b ∷ input) more below within = absurd (omega (arith, below))
first-drop (suc used) (suc end) (b ∷ input) more below within = first-drop used end input more (omega (arith, below)) (omega (arith, within))

pub take-closed : (used end : ℕ) (input more : List ℕ) → used ≤ end → used ≤ length input → take used (take end input ++ more) ≡ take used input
take-closed zero end input more below within = refl
take-closed (suc used) end [] more below within = absurd (omega (arith, within))
take-closed (suc used) zero (b ∷ input) more below within = absurd (omega (arith, below))
take-closed (suc used) (suc end) (b ∷ input) more below within = ap (λ (l : List ℕ). b ∷ l)
    (take-closed used end input more (omega (arith, below)) (omega (arith, within)))

-- a record that is read, by what it sees
abbrev pub Got : Option ℕ → Mode → List ℕ → Taken Record → Type 0
Got end m input answer = IfGot answer (λ row used. (used ≤ length input) × IsWholeRecord m row (take used input) (next_seen end used input))

seen_here : (end : ℕ) (m : Mode) (input : List ℕ) (row : Record) (used : ℕ) → IsWholeRecord m row (take used input) (first_of (drop used input) None)
    → IsWholeRecord m row (take used input) (next_seen (Some end) used input)
seen_here end m input row used is = by_test (used == end) where
  by_test : (test : Bool) → IsWholeRecord m row (take used input) (cond test (Some 0xE1) (first_of (drop used input) None))
  by_test true = ends-anywhere m row (take used input) (first_of (drop used input) None) is
  by_test false = is

plain_got : (end : ℕ) (m : Mode) (input : List ℕ) (answer : Taken Record)
    → IfGot answer (λ row used. (used ≤ length input) × IsWholeRecord m row (take used input) (first_of (drop used input) None)) → Got
    (Some end) m input answer
plain_got end m input (taken.Got row used) got = (got.0, seen_here end m input row used got.1)
plain_got end m input taken.More got = tt
plain_got end m input (taken.Bad offset reason) got = tt

closed_got : (end : ℕ) (m : Mode) (input : List ℕ) (answer other : Taken Record) → end < length input
    → IfGot answer (λ row used. (used ≤ length (closed_at end input)) × IsWholeRecord m row (take used (closed_at end input))
    (first_of (drop used (closed_at end input)) None)) → Got (Some end) m input other
    → Got (Some end) m input (unless_past end answer other)
closed_got end m input taken.More other within got plain = plain
closed_got end m input (taken.Bad offset reason) other within got plain = tt
closed_got end m input (taken.Got row used) other within got plain = by_test (nat_le used end) refl where
  by_place : used ≤ end → (used < end) ⊎ (used ≡ end) → IsWholeRecord m row (take used input) (next_seen (Some end) used input)
  by_place few (inl below) =
      let away : (used == end) ≡ false = ne_eqb used end (λ same. omega (arith, below, same)) in
      let text = take-closed used end input (0xE1 ∷ []) few (omega (arith, few, within)) in
      let next = first-drop used end input (0xE1 ∷ []) below (omega (arith, few, within)) in
      rw (away, ← next) (subst (λ (l : List ℕ). IsWholeRecord m row l (first_of (drop used (closed_at end input)) None)) text got.1)
  by_place few (inr here) =
      let same : (used == end) ≡ true = eq-eqb used end here in
      let text = take-closed used end input (0xE1 ∷ []) few (omega (arith, few, within)) in
      rw same (subst (λ (l : List ℕ). IsWholeRecord m row l (Some 0xE1)) text
      (ends-anywhere m row (take used (closed_at end input)) (first_of (drop used (closed_at end input)) None) got.1))

  split : used ≤ end → (used < end) ⊎ (used ≡ end)
  split few = elim (cases_lt used end) [ inl below ↦ inl below | inr not_below ↦ inr (omega (arith, few, not_below)) ]

  by_test : (test : Bool) → nat_le used end ≡ test → Got (Some end) m input (cond test (taken.Got row used) other)
  by_test true is = let few = leb-true used end is in (omega (arith, few, within), by_place few (split few))
  by_test false is = plain

pub record_within-got : (end : Option ℕ) (m : Mode) (input : List ℕ) → AreBytes input → Got end m input (record_within end m input)
record_within-got None m input fits = record_at-got m input fits
record_within-got (Some end) m input fits = elim (cases_lt end (length input)) [
  | inl within ↦ subst (λ (a : Taken Record). Got (Some end) m input a) (sym (before-within end m input within))
      (closed_got end m input (record_at m (closed_at end input)) (record_at m input) within
      (record_at-got m (closed_at end input) (closed_fits end input fits)) (plain_got end m input (record_at m input) (record_at-got m input fits)))
  | inr beyond ↦ subst (λ (a : Taken Record). Got (Some end) m input a) (sym (before-beyond end m input beyond))
      (plain_got end m input (record_at m input) (record_at-got m input fits))
]

-- ---- what is there is read

rest_first : (k : ℕ) (rest more : List ℕ) → 0 < k → 0 < length rest → first_of (take k rest ++ more) None ≡ first_of rest None
rest_first zero rest more some any = absurd (omega (arith, some))
rest_first (suc k) [] more some any = absurd (omega (arith, any))
rest_first (suc k) (b ∷ rest) more some any = refl

take_past : (text rest : List ℕ) (end : ℕ) → length text ≤ end → take end (text ++ rest) ≡ text ++ take (end - length text) rest
take_past [] rest end few = let same : end ≡ end - 0 = omega arith in ap (λ (n : ℕ). take n rest) same
take_past (t ∷ text) rest zero few = absurd (omega (arith, few))
take_past (t ∷ text) rest (suc end) few =
    let same : end - length text ≡ suc end - suc (length text) = omega arith in
    ap (λ (l : List ℕ). t ∷ l) (take_past text rest end (omega (arith, few)) ∙ ap (λ (n : ℕ). text ++ take n rest) same)

pub record_within-only : (end : Option ℕ) (m : Mode) (row : Record) (text rest : List ℕ) → IsWholeRecord m row text
    (next_seen end (length text) (text ++ rest))
    → IfSome end (λ n. (length text ≤ n) × (n < length (text ++ rest))) → record_within end m (text ++ rest) ≡ taken.Got row (length text)
record_within-only None m row text rest is bounds =
    record_at-only m (text ++ rest) row text rest (subst (λ (l : List ℕ). IsWholeRecord m row text (first_of l None))
    (drop_at text rest (length text) refl) is) refl
record_within-only (Some end) m row text rest is bounds =
    let few = bounds.0 in
    let within = bounds.1 in
    let closed : closed_at end (text ++ rest) ≡ text ++ (take (end - length text) rest ++ 0xE1 ∷ []) =
    ap (λ (l : List ℕ). l ++ 0xE1 ∷ []) (take_past text rest end few) ∙ append_assoc text (take (end - length text) rest) (0xE1 ∷ []) in
    let read = record_at-only m (closed_at end (text ++ rest)) row text (take (end - length text) rest ++ 0xE1 ∷ []) (seen (split few)) closed in
    before-within end m (text ++ rest) within
    ∙ ap (λ (a : Taken Record). unless_past end a (record_at m (text ++ rest))) read
    ∙ ap (λ (b : Bool). cond b (taken.Got row (length text)) (record_at m (text ++ rest))) (le-leb (length text) end few)
  where
    split : length text ≤ end → (length text < end) ⊎ (length text ≡ end)
    split few = elim (cases_lt (length text) end) [ inl below ↦ inl below | inr not_below ↦ inr (omega (arith, few, not_below)) ]

    seen : (length text < end) ⊎ (length text ≡ end) → IsWholeRecord m row text (first_of (take (end - length text) rest ++ 0xE1 ∷ []) None)
    seen (inl below) =
        let away : (length text == end) ≡ false = ne_eqb (length text) end (λ same. omega (arith, below, same)) in
        let here : IsWholeRecord m row text (first_of (drop (length text) (text ++ rest)) None) =
        subst (λ (b : Bool). IsWholeRecord m row text (cond b (Some 0xE1) (first_of (drop (length text) (text ++ rest)) None))) away is in
        let some : 0 < length rest = omega (arith, below, bounds.1, length-append text rest) in
        let k : 0 < end - length text = omega (arith, below) in
        rw (rest_first (end - length text) rest (0xE1 ∷ []) k some)
        (subst (λ (l : List ℕ). IsWholeRecord m row text (first_of l None)) (drop_at text rest (length text) refl) here)
    seen (inr here) =
        let same : (length text == end) ≡ true = eq-eqb (length text) end here in
        let at_end : IsWholeRecord m row text (Some 0xE1) =
        subst (λ (b : Bool). IsWholeRecord m row text (cond b (Some 0xE1) (first_of (drop (length text) (text ++ rest)) None))) same is in
        let none : end - length text ≡ 0 = omega (arith, here) in
        rw none at_end

-- ---- longer inputs

unless_stays : (end : ℕ) (answer a b : Taken Record) → (unless_past end answer a ≡ taken.More → ⊥) → ((a ≡ taken.More → ⊥) → b ≡ a)
    → unless_past end answer b ≡ unless_past end answer a
unless_stays end (taken.Got row used) a b decided stays = by_test (nat_le used end) decided where
  by_test : (test : Bool) → (cond test (taken.Got row used) a ≡ taken.More → ⊥) → cond test (taken.Got row used) b ≡ cond test (taken.Got row used) a
  by_test true decided = refl
  by_test false decided = stays decided
unless_stays end taken.More a b decided stays = stays decided
unless_stays end (taken.Bad offset reason) a b decided stays = refl

pub closed-append : (end : ℕ) (bytes more : List ℕ) → length bytes ≤ end → closed_at end (bytes ++ more)
    ≡ bytes ++ (take (end - length bytes) more ++ 0xE1 ∷ [])
closed-append end bytes more few = ap (λ (l : List ℕ). l ++ 0xE1 ∷ []) (take_past bytes more end few)
    ∙ append_assoc bytes (take (end - length bytes) more) (0xE1 ∷ [])

-- a longer input has the same result, unless that is More
pub record_within-stable : (end : Option ℕ) (m : Mode) (input more : List ℕ) → AreBytes input → (record_within end m input ≡ taken.More → ⊥)
    → record_within end m (input ++ more) ≡ record_within end m input
record_within-stable None m input more fits decided = record_at-stable m input more fits decided
record_within-stable (Some end) m input more fits decided = elim (cases_lt end (length input)) [
  | inl within ↦
      let longer : end < length (input ++ more) = omega (arith, within, length-append input more) in
      let same : closed_at end (input ++ more) ≡ closed_at end input = ap (λ (l : List ℕ). l ++ 0xE1 ∷ [])
      (take-append-le end input more (omega (arith, within))) in
      before-within end m (input ++ more) longer
      ∙ ap (λ (l : List ℕ). unless_past end (record_at m l) (record_at m (input ++ more))) same
      ∙ unless_stays end (record_at m (closed_at end input)) (record_at m input) (record_at m (input ++ more))
      (λ e. decided (before-within end m input within ∙ e)) (λ wanted. record_at-stable m input more fits wanted)
      ∙ sym (before-within end m input within)
  | inr beyond ↦
      let plain = before-beyond end m input beyond in
      let wanted : record_at m input ≡ taken.More → ⊥ = λ e. decided (plain ∙ e) in
      elim (cases_lt end (length (input ++ more))) [
        | inl longer ↦
            let closed = closed-append end input more beyond in
            before-within end m (input ++ more) longer
            ∙ ap (λ (l : List ℕ). unless_past end (record_at m l) (record_at m (input ++ more))) closed
            ∙ ap (λ (a : Taken Record). unless_past end a (record_at m (input ++ more)))
            (record_at-stable m input (take (end - length input) more ++ 0xE1 ∷ []) fits wanted)
            ∙ closed-same end m (record_at m input) (record_at m (input ++ more))
            (few_of end (record_at m input) (length input) beyond (got_few m input (record_at m input) (record_at-got m input fits))) wanted
            ∙ sym plain
        | inr longer ↦ before-beyond end m (input ++ more) longer ∙ record_at-stable m input more fits wanted ∙ sym plain
      ]
]

unless_wants : (end : ℕ) (answer a : Taken Record) → unless_past end answer a ≡ taken.More → a ≡ taken.More
unless_wants end (taken.Got row used) a e = by_test (nat_le used end) e where
  by_test : (test : Bool) → cond test (taken.Got row used) a ≡ taken.More → a ≡ taken.More
  by_test true e = let wrong : got_record row used ≡ more_record = e in absurd cc
  by_test false e = e
unless_wants end taken.More a e = e
unless_wants end (taken.Bad offset reason) a e = let wrong : bad_record offset reason ≡ more_record = e in absurd cc

-- what needs more bytes needs them too if no such byte is known
pub record_within-more : (end : Option ℕ) (m : Mode) (input : List ℕ) → record_within end m input ≡ taken.More → record_at m input ≡ taken.More
record_within-more None m input e = e
record_within-more (Some end) m input e = elim (cases_lt end (length input)) [
  | inl within ↦ unless_wants end (record_at m (closed_at end input)) (record_at m input) (sym (before-within end m input within) ∙ e)
  | inr beyond ↦ sym (before-beyond end m input beyond) ∙ e
]

-- ---- errors

unless_bad : (end : ℕ) (answer a : Taken Record) (offset : ℕ) (reason : Reason) → unless_past end answer a ≡ taken.Bad offset reason
    → (answer ≡ taken.Bad offset reason) ⊎ (a ≡ taken.Bad offset reason)
unless_bad end (taken.Got row used) a offset reason e = by_test (nat_le used end) e where
  by_test : (test : Bool) → cond test (taken.Got row used) a ≡ taken.Bad offset reason
      → (taken.Got row used ≡ taken.Bad offset reason) ⊎ (a ≡ taken.Bad offset reason)
  by_test true e = inl e
  by_test false e = inr e
unless_bad end taken.More a offset reason e = inr e
unless_bad end (taken.Bad at why) a offset reason e = inl e

-- an error is one of the whole input, or one before the end
pub record_within-bad : (end : Option ℕ) (m : Mode) (input : List ℕ) → AreBytes input → (offset : ℕ) (reason : Reason)
    → record_within end m input ≡ taken.Bad offset reason
    → IsFaulty m input offset reason ⊎ ((n : ℕ) × (n < length input) × IsFaulty m (closed_at n input) offset reason)
record_within-bad None m input fits offset reason e = inl (bad-record_at m input fits offset reason e)
record_within-bad (Some end) m input fits offset reason e = elim (cases_lt end (length input)) [
  | inl within ↦ elim (unless_bad end (record_at m (closed_at end input)) (record_at m input) offset reason (sym (before-within end m input within) ∙ e)) [
    | inl closed ↦ inr (end, within, bad-record_at m (closed_at end input) (closed_fits end input fits) offset reason closed)
    | inr plain ↦ inl (bad-record_at m input fits offset reason plain)
  ]
  | inr beyond ↦ inl (bad-record_at m input fits offset reason (sym (before-beyond end m input beyond) ∙ e))
]

-- ---- in place

-- a result of reading the bytes before the end
pub decided-ok : (end : ℕ) (m : Mode) (input : List ℕ) (row : Record) (used : ℕ) → AreBytes input → end < length input
    → record_at m (take end input) ≡ taken.Got row used → taken.Got row used ≡ record_before end m input
decided-ok end m input row used fits within e =
    sym (before-decided end m input fits within (λ wanted. not_more (sym e ∙ wanted)) ∙ e) where
      not_more : got_record row used ≡ more_record → ⊥
      not_more wrong = cc

pub decided-bad : (end : ℕ) (m : Mode) (input : List ℕ) (offset : ℕ) (reason : Reason) → AreBytes input → end < length input
    → record_at m (take end input) ≡ taken.Bad offset reason → taken.Bad offset reason ≡ record_before end m input
decided-bad end m input offset reason fits within e =
    sym (before-decided end m input fits within (λ wanted. not_more (sym e ∙ wanted)) ∙ e) where
      not_more : bad_record offset reason ≡ more_record → ⊥
      not_more wrong = cc

pub wanting-short : (end : ℕ) (m : Mode) (input : List ℕ) → AreBytes input → end < length input → record_at m (take end input) ≡ taken.More → end < 131077
wanting-short end m input fits within e =
    let few = unended-short m (take end input) (AreBytes-take end input fits) e in
    omega (arith, few, length-take end input, within)

pub in_place-whole : (end : Option ℕ) (m : Mode) (input : List ℕ) (row : Record) (result : Result ℕ Stop) → AreBytes input
    → as_taken (in_place row result) ≡ record_within end m input
    → IfOk result (λ used. (used ≤ length input) × IsWholeRecord m row (take used input) (next_seen end used input))
in_place-whole end m input row (Ok used) fits e =
    subst (λ (a : Taken Record). Got end m input a) (sym e) (record_within-got end m input fits)
in_place-whole end m input row (Err stop) fits e = tt
