-- Lists of numbers, strings and literal bytes are read exactly.
use Rattle.std.proofs.Common.{◌≡◌, ◌⊎◌, ℕ, zero, suc, ◌+◌, ◌*◌, ◌<◌, ◌≤◌, List, [], ◌∷◌, ◌++◌, length, take, drop, Option, Some, None, Ok, Err, refl}
use Rattle.std.proofs.Common.{sym, ap, subst, ◌∙◌, inl, inr, arith, append_assoc}
use Rattle.std.proofs.lemmas.Bool.{cases_lt, cases_eq, ne_eqb, lt-ltb, le-ltb}
use Rattle.std.proofs.lemmas.List.{length-append, length-take, length-drop, take-append-drop, take-take}
use Rattle.arrayvec.specs.ArrayVec.{ArrayVec}
use Rattle.mufom_numbers.specs.declared.reason.Reason.{Reason}
use Rattle.mufom_numbers.specs.declared.reason.Reason.TheVariants.{BadId}
use Rattle.mufom_numbers.specs.declared.taken.Span.{Span}
use Rattle.mufom_numbers.specs.declared.taken.Taken.{Taken}
use Rattle.mufom_numbers.specs.declared.taken.Taken.TheVariants as taken
use Rattle.mufom_numbers.specs.Spelling.{AreBytes, SpellsString, IsStringLead, IsCutOff, IfGot, BeginsIn, string_at, string_after}
use Rattle.mufom_numbers.proofs.SpellingLaws.{AreBytes-take}
use Rattle.mufom_numbers.proofs.StringLaws.{string_at-spelling, string_at-taken, string_at-cut_off, more-string_cut_off, string_at-bad, bad-string_at}
use Rattle.mufom_expr.specs.TokenAt.{begins_number}
use Rattle.mufom_records.specs.declared.stop.Stop.{Stop}
use Rattle.mufom_records.specs.declared.stop.Stop.TheVariants.{More, Bad}
use Rattle.mufom_records.specs.Fields.{optional_number, numbers, string, run, SpellsField, SpellsNumbers, Stops, first_of, items_of, span_at}
use Rattle.mufom_records.specs.Reading.{Reading, ◌>>=◌, moved, text_at, run_at, optional_number_at, with_first, numbers_at}
use Rattle.mufom_records.specs.Faults.{IsCutOffNumber, IsCutOffField}
use Rattle.mufom_records.proofs.Exact.{ok, stopped, same_stop, ok_not_err, AreBytes-drop, drop-following, Found, found, found-as, IsExact}
use Rattle.mufom_records.proofs.NumberLaws.{BeginsIn-grows, optional_number-exact}

-- ---- at most `most` numbers

pub record FoundNumbers (most : ℕ) (input : List ℕ) (at : ℕ) (ns : List ℕ) (after : ℕ) : Type 0 where
  pub prefix : List ℕ
  pub spells : SpellsNumbers ns prefix
  pub few : length ns ≤ most
  pub stops : length ns < most → Stops begins_number (first_of (drop after input) None)
  pub split : drop at input ≡ prefix ++ drop after input
  pub count : after ≡ at + length prefix

abbrev pair_or : List ℕ × ℕ → Reading (List ℕ) → List ℕ × ℕ
pair_or p (Ok r) = r
pair_or p (Err stop) = p

numbers-as : (most : ℕ) (input : List ℕ) (at : ℕ) (ms : List ℕ) (b : ℕ) (ns : List ℕ) (after : ℕ) → FoundNumbers most input at ms b → ok ms b
    ≡ ok ns after → FoundNumbers most input at ns after
numbers-as most input at ms b ns after is e = subst (λ (p : List ℕ × ℕ). FoundNumbers most input at p.0 p.1) (ap (λ r. pair_or (ms, b) r) e) is

no_numbers : (most : ℕ) (input : List ℕ) (at mid : ℕ) → (0 < most → Found optional_number input at None mid) → (most ≡ 0 → mid ≡ at)
    → FoundNumbers most input at [] mid
no_numbers zero input at mid one none =
    let same = none refl in
    record {
      prefix = [];
      spells = refl;
      few = omega arith;
      stops = λ h. absurd (omega (arith, h));
      split = ap (λ (n : ℕ). drop n input) (sym same);
      count = omega (arith, same);
    }
no_numbers (suc k) input at mid one none =
    let is = one (omega arith) in
    record {
      prefix = [];
      spells = refl;
      few = omega arith;
      stops = λ h. is.spells.1;
      split = is.split ∙ ap (λ (l : List ℕ). l ++ drop mid input) is.spells.0;
      count = omega (arith, is.count, ap length is.spells.0);
    }

with_one : (k : ℕ) (input : List ℕ) (at n mid : ℕ) (ns : List ℕ) (after : ℕ) → Found optional_number input at (Some n) mid
    → FoundNumbers k input mid ns after → FoundNumbers (suc k) input at (n ∷ ns) after
with_one k input at n mid ns after one rest =
    record {
      prefix = one.prefix ++ rest.prefix;
      spells = (one.prefix, rest.prefix, one.spells, rest.spells, refl);
      few = omega (arith, rest.few);
      stops = λ h. rest.stops (omega (arith, h));
      split = one.split ∙ ap (λ (l : List ℕ). one.prefix ++ l) rest.split ∙ sym (append_assoc one.prefix rest.prefix (drop after input));
      count = omega (arith, one.count, rest.count, length-append one.prefix rest.prefix);
    }

first_got : (k : ℕ) (input : List ℕ) (at : ℕ) → AreBytes input → (ns : List ℕ) (after : ℕ) (answer : Reading (Option ℕ)) → optional_number_at input at
    ≡ answer → (answer >>= λ n. with_first n.0 n.1 (numbers_at k input n.1)) ≡ Ok (ns, after)
    → ((mid : ℕ) (ms : List ℕ) (end : ℕ) → numbers_at k input mid ≡ Ok (ms, end) → FoundNumbers k input mid ms end) → FoundNumbers (suc k) input at ns after
first_got k input at fits ns after (Err stop) is gives recursive = absurd (ok_not_err ns after stop (sym gives))
first_got k input at fits ns after (Ok (None, mid)) is gives recursive =
    numbers-as (suc k) input at [] mid ns after (no_numbers (suc k) input at mid (λ h. optional_number-exact.got input at fits None mid is)
    (λ h. absurd (omega (arith, h)))) gives
first_got k input at fits ns after (Ok (Some n, mid)) is gives recursive = rest_got (numbers_at k input mid) refl gives where
  rest_got : (answer : Reading (List ℕ)) → numbers_at k input mid ≡ answer → with_first (Some n) mid answer ≡ Ok (ns, after)
      → FoundNumbers (suc k) input at ns after
  rest_got (Err stop) same gives = absurd (ok_not_err ns after stop (sym gives))
  rest_got (Ok (ms, end)) same gives =
      numbers-as (suc k) input at (n ∷ ms) end ns after (with_one k input at n mid ms end (optional_number-exact.got input at fits (Some n) mid is)
      (recursive mid ms end same)) gives

numbers_got : (most : ℕ) (input : List ℕ) (at : ℕ) → AreBytes input → (ns : List ℕ) (after : ℕ) → numbers_at most input at ≡ Ok (ns, after)
    → FoundNumbers most input at ns after
numbers_got zero input at fits ns after gives = numbers-as zero input at [] at ns after
    (no_numbers zero input at at (λ h. absurd (omega (arith, h))) (λ h. refl)) gives
numbers_got (suc k) input at fits ns after gives = first_got k input at fits ns after (optional_number_at input at) refl gives
    (λ mid ms end. numbers_got k input mid fits ms end)

abbrev with_it : ℕ → Reading (List ℕ) → Reading (List ℕ)
with_it n later = later >>= λ ns. Ok (n ∷ ns.0, ns.1)

numbers_only : (most : ℕ) (input : List ℕ) (at : ℕ) (ns prefix rest : List ℕ) → SpellsNumbers ns prefix → length ns ≤ most
    → (length ns < most → Stops begins_number (first_of rest None)) → drop at input ≡ prefix ++ rest
    → numbers_at most input at ≡ Ok (ns, at + length prefix)
numbers_only zero input at [] prefix rest spells few stops split = let count : at + length prefix ≡ at = omega (arith, ap length spells) in rw count refl
numbers_only zero input at (n ∷ ns) prefix rest spells few stops split = absurd (omega (arith, few))
numbers_only (suc k) input at [] prefix rest spells few stops split =
    rw (optional_number-exact.only input at None prefix rest (spells, stops (omega arith)) split) refl
numbers_only (suc k) input at (n ∷ ns) prefix rest (one, two, spelled, spells, parts) few stops split =
    let first_split : drop at input ≡ one ++ (two ++ rest) = split ∙ ap (λ (l : List ℕ). l ++ rest) parts ∙ append_assoc one two rest in
    let first = optional_number-exact.only input at (Some n) one (two ++ rest) spelled first_split in
    let second = numbers_only k input (at + length one) ns two rest spells (omega (arith, few)) (λ h. stops (omega (arith, h)))
    (drop-following input at one (two ++ rest) first_split) in
    let count : at + length one + length two ≡ at + length prefix = omega (arith, ap length parts, length-append one two) in
    rw (first, second, count) refl

first_stops : (k : ℕ) (input : List ℕ) (at : ℕ) (stop : Stop) (answer : Reading (Option ℕ)) → optional_number_at input at ≡ answer
    → (answer >>= λ n. with_first n.0 n.1 (numbers_at k input n.1)) ≡ Err stop
    → (optional_number_at input at ≡ Err stop) ⊎ ((n : ℕ) × (mid : ℕ) × (optional_number_at input at ≡ Ok (Some n, mid)) × (numbers_at k input mid ≡ Err stop))
first_stops k input at stop (Err s) is gives = inl (is ∙ ap (λ (t : Stop). stopped t) (same_stop {X = List ℕ} s stop gives))
first_stops k input at stop (Ok (None, mid)) is gives = absurd (ok_not_err [] mid stop gives)
first_stops k input at stop (Ok (Some n, mid)) is gives = inr (n, mid, is, rest_stops (numbers_at k input mid) refl gives) where
  rest_stops : (answer : Reading (List ℕ)) → numbers_at k input mid ≡ answer → with_first (Some n) mid answer ≡ Err stop → numbers_at k input mid ≡ Err stop
  rest_stops (Err s) same gives = same ∙ ap (λ (t : Stop). stopped t) (same_stop {X = List ℕ} s stop gives)
  rest_stops (Ok (ms, end)) same gives = absurd (ok_not_err (n ∷ ms) end stop gives)

numbers_bad : (most : ℕ) (input : List ℕ) (at : ℕ) → AreBytes input → (fault_offset : ℕ) (reason : Reason) → numbers_at most input at
    ≡ Err (Bad fault_offset reason) → ⊥
numbers_bad zero input at fits fault_offset reason gives = ok_not_err [] at (Bad fault_offset reason) gives
numbers_bad (suc k) input at fits fault_offset reason gives = elim (first_stops k input at (Bad fault_offset reason) (optional_number_at input at) refl gives) [
  | inl first ↦ optional_number-exact.bad input at fits fault_offset reason first
  | inr (n, mid, first, later) ↦ numbers_bad k input mid fits fault_offset reason later
]

numbers_more : (most : ℕ) (input : List ℕ) (at : ℕ) → AreBytes input → numbers_at most input at ≡ Err More → IsCutOffField (numbers most) (drop at input)
numbers_more zero input at fits gives = absurd (ok_not_err [] at More gives)
numbers_more (suc k) input at fits gives = elim (first_stops k input at More (optional_number_at input at) refl gives) [
  | inl first ↦ ([], [], drop at input, refl, omega arith, optional_number-exact.more input at fits first, refl)
  | inr (n, mid, first, later) ↦
      let one = optional_number-exact.got input at fits (Some n) mid first in
      let two = numbers_more k input mid fits later in (
        n ∷ two.0,
        one.prefix ++ two.1,
        two.2,
        (one.prefix, two.1, one.spells, two.3, refl),
        omega (arith, two.4),
        two.5,
        one.split
            ∙ ap (λ (l : List ℕ). one.prefix ++ l) two.6 ∙ sym (append_assoc one.prefix two.1 two.2),
      )
]

numbers_ends : (most : ℕ) (input : List ℕ) (at : ℕ) (ns prefix rest : List ℕ) → SpellsNumbers ns prefix → length ns < most → IsCutOffNumber rest
    → drop at input ≡ prefix ++ rest → numbers_at most input at ≡ Err More
numbers_ends zero input at ns prefix rest spells few cut split = absurd (omega (arith, few))
numbers_ends (suc k) input at [] prefix rest spells few cut split =
    let same : drop at input ≡ rest = split ∙ ap (λ (l : List ℕ). l ++ rest) spells in
    rw (optional_number-exact.ends input at (subst (λ (l : List ℕ). IsCutOffNumber l) (sym same) cut)) refl
numbers_ends (suc k) input at (n ∷ ns) prefix rest (one, two, spelled, spells, parts) few cut split =
    let first_split : drop at input ≡ one ++ (two ++ rest) = split ∙ ap (λ (l : List ℕ). l ++ rest) parts ∙ append_assoc one two rest in
    let first = optional_number-exact.only input at (Some n) one (two ++ rest) spelled first_split in
    let second = numbers_ends k input (at + length one) ns two rest spells (omega (arith, few)) cut (drop-following input at one (two ++ rest) first_split) in
    rw (first, second) refl

module _ (most : ℕ) where
  abbrev as_items : List ℕ × ℕ → Reading (ArrayVec ℕ)
  as_items ns = Ok (items_of ns.0, ns.1)

  items_got : (input : List ℕ) (at : ℕ) → AreBytes input → (x : ArrayVec ℕ) (after : ℕ) (answer : Reading (List ℕ)) → numbers_at most input at
      ≡ answer → (answer >>= as_items) ≡ Ok (x, after) → Found (numbers most) input at x after
  items_got input at fits x after (Err stop) is gives = absurd (ok_not_err x after stop (sym gives))
  items_got input at fits x after (Ok (ns, end)) is gives =
      let all = numbers_got most input at fits ns end is in
      found-as (numbers most) input at (items_of ns) end x after
      (record { prefix = all.prefix; spells = (all.spells, all.few, all.stops); split = all.split; count = all.count }) gives

  items_stop : (input : List ℕ) (at : ℕ) (stop : Stop) (answer : Reading (List ℕ)) → numbers_at most input at ≡ answer → (answer >>= as_items)
      ≡ Err stop → numbers_at most input at ≡ Err stop
  items_stop input at stop (Err s) is gives = is ∙ ap (λ (t : Stop). stopped t) (same_stop {X = ArrayVec ℕ} s stop gives)
  items_stop input at stop (Ok (ns, end)) is gives = absurd (ok_not_err (items_of ns) end stop gives)

  numbers_later : (x : ArrayVec ℕ) (at : ℕ) (prefix : List ℕ) (next : Option ℕ) → SpellsField (numbers most) x at prefix None
      → SpellsField (numbers most) x at prefix next
  numbers_later x at prefix next (spells, few, stops) = (spells, few, λ h. absurd (stops h))

  pub numbers-exact : IsExact (numbers most)
  numbers-exact = record {
    got = λ input at fits x after gives. items_got input at fits x after (numbers_at most input at) refl gives;
    only = λ input at x prefix rest spells split. rw (numbers_only most input at x.items prefix rest spells.0 spells.1 spells.2 split) refl;
    bad = λ input at fits fault_offset reason gives. absurd (numbers_bad most input at fits fault_offset reason
        (items_stop input at (Bad fault_offset reason) (numbers_at most input at) refl gives));
    fault = λ input at fault_offset reason has. absurd has;
    more = λ input at fits gives. numbers_more most input at fits (items_stop input at More (numbers_at most input at) refl gives);
    ends = λ input at ends. rw (numbers_ends most input at ends.0 ends.1 ends.2 ends.3 ends.4 ends.5 ends.6) refl;
    later = numbers_later;
    grows = λ at bytes more fault_offset reason has. has;
  }

-- ---- a span of `n` bytes

module _ (n : ℕ) where
  run_got : (input : List ℕ) (at : ℕ) → AreBytes input → (x : Span) (after : ℕ) → run_at n input at ≡ Ok (x, after) → Found (run n) input at x after
  run_got input at fits x after gives = elim (cases_lt (length (drop at input)) n) [
    | inl short ↦ let e : stopped {X = Span} More ≡ ok x after = rw (lt-ltb (length (drop at input)) n short) at gives in
        absurd (ok_not_err x after More (sym e))
    | inr there ↦
        let e : ok (span_at at n) (at + n) ≡ ok x after = rw (le-ltb (length (drop at input)) n there) at gives in
        let bytes = drop at input in
        let count : length (take n bytes) ≡ n = omega (arith, length-take n bytes, there) in
        found-as (run n) input at (span_at at n) (at + n) x after
        (found (run n) input at (span_at at n) (at + n) (take n bytes) (drop n bytes) (
          count,
          AreBytes-take n bytes (AreBytes-drop at input fits),
          refl,
        ) (sym (take-append-drop n bytes)) (omega (arith, count))) e
  ]

  run_only : (input : List ℕ) (at : ℕ) (x : Span) (prefix rest : List ℕ) → SpellsField (run n) x at prefix (first_of rest None) → drop at input
      ≡ prefix ++ rest → run_at n input at ≡ Ok (x, at + length prefix)
  run_only input at x prefix rest (count, are, same) split =
      let there : n ≤ length (drop at input) = omega (arith, count, ap length split, length-append prefix rest) in
      rw (le-ltb (length (drop at input)) n there, same, count) refl

  run_stops : (input : List ℕ) (at : ℕ) (stop : Stop) → run_at n input at ≡ Err stop → (length (drop at input) < n) × (stop ≡ More)
  run_stops input at stop gives = elim (cases_lt (length (drop at input)) n) [
    | inl short ↦ let e : stopped {X = Span} More ≡ stopped stop = rw (lt-ltb (length (drop at input)) n short) at gives in
        (short, sym (same_stop {X = Span} More stop e))
    | inr there ↦ let e : ok (span_at at n) (at + n) ≡ stopped stop = rw (le-ltb (length (drop at input)) n there) at gives in
        absurd (ok_not_err (span_at at n) (at + n) stop e)
  ]

  pub run-exact : IsExact (run n)
  run-exact = record {
    got = run_got;
    only = run_only;
    bad = λ input at fits fault_offset reason gives. let wrong = (run_stops input at (Bad fault_offset reason) gives).1 in absurd cc;
    fault = λ input at fault_offset reason has. absurd has;
    more = λ input at fits gives. (run_stops input at More gives).0;
    ends = λ input at short. rw (lt-ltb (length (drop at input)) n short) refl;
    later = λ x at prefix next spells. spells;
    grows = λ at bytes more fault_offset reason has. has;
  }

-- ---- strings

abbrev as_text : ℕ → Span × ℕ → Reading Span
as_text at span = Ok (span_at (at + span.0.start) span.0.len, span.1)

taken_text : (input : List ℕ) (at start len used : ℕ) → AreBytes (drop at input) → used ≤ length (drop at input) → used ≡ start + len
    → IsStringLead len (take start (drop at input)) → Found string input at (span_at (at + start) len) (at + used)
taken_text input at start len used are few parts is =
    let bytes = drop at input in
    let prefix = take used bytes in
    let count : length prefix ≡ used = omega (arith, length-take used bytes, few) in
    let lead_is : take start prefix ≡ take start bytes = take-take start used bytes (omega (arith, parts)) in
    let lead_count : length (take start prefix) ≡ start = omega (arith, length-take start prefix, count, parts) in
    let rest_count : length (drop start prefix) ≡ len = omega (arith, length-drop start prefix, count, parts) in
    let lead : IsStringLead (length (drop start prefix)) (take start prefix) = rw (rest_count, lead_is) is in
    found string input at (span_at (at + start) len) (at + used) prefix (drop used bytes) (
      take start prefix,
      drop start prefix,
      lead,
      AreBytes-drop start prefix (AreBytes-take used bytes are),
      rw (lead_count, rest_count) refl,
      sym (take-append-drop start prefix),
    )
    (sym (take-append-drop used bytes)) (omega (arith, count))

text_got : (input : List ℕ) (at : ℕ) → AreBytes input → (x : Span) (after : ℕ) (answer : Taken Span)
    → IfGot answer (λ span used. (used ≤ length (drop at input)) × (used ≡ span.start + span.len) × IsStringLead span.len (take span.start (drop at input)))
    → (moved at answer >>= as_text at) ≡ Ok (x, after) → Found string input at x after
text_got input at fits x after (taken.Got span used) is gives =
    found-as string input at (span_at (at + span.start) span.len) (at + used) x after
    (taken_text input at span.start span.len used (AreBytes-drop at input fits) is.0 is.1 is.2) gives
text_got input at fits x after taken.More is gives = absurd (ok_not_err x after More (sym gives))
text_got input at fits x after (taken.Bad offset reason) is gives = absurd (ok_not_err x after (Bad (at + offset) reason) (sym gives))

text_only : (input : List ℕ) (at : ℕ) (x : Span) (prefix rest : List ℕ) → SpellsField string x at prefix (first_of rest None) → drop at input ≡ prefix
    ++ rest → text_at input at ≡ Ok (x, at + length prefix)
text_only input at x prefix rest (lead, text, is, are, same, parts) split =
    let whole : drop at input ≡ lead ++ (text ++ rest) = split ∙ ap (λ (l : List ℕ). l ++ rest) parts ∙ append_assoc lead text rest in
    let count : at + (length lead + length text) ≡ at + length prefix = omega (arith, ap length parts, length-append lead text) in
    rw (whole, string_at-spelling lead text rest is, same, count) refl

abbrev more_text : Taken Span
more_text = taken.More

abbrev got_text : ℕ → ℕ → ℕ → Taken Span
got_text start len used = taken.Got (span_at start len) used

abbrev bad_text : ℕ → Reason → Taken Span
bad_text offset reason = taken.Bad offset reason

after_not_bad : (lead len : ℕ) (input : List ℕ) (offset : ℕ) (reason : Reason) → string_after lead len input ≡ bad_text offset reason → ⊥
after_not_bad lead len input offset reason bad = elim (cases_lt (length input) (lead + len)) [
  | inl short ↦ let wrong : more_text ≡ bad_text offset reason = rw (lt-ltb (length input) (lead + len) short) at bad in cc
  | inr there ↦ let wrong : got_text lead len (lead + len) ≡ bad_text offset reason = rw (le-ltb (length input) (lead + len) there) at bad in cc
]

one_byte_not_bad : (bytes : List ℕ) (offset : ℕ) (reason : Reason) → string_at (222 ∷ bytes) ≡ bad_text offset reason → ⊥
one_byte_not_bad [] offset reason bad = let wrong : more_text ≡ bad_text offset reason = bad in cc
one_byte_not_bad (b ∷ bytes) offset reason bad = after_not_bad 2 b (222 ∷ b ∷ bytes) offset reason bad

two_bytes_not_bad : (bytes : List ℕ) (offset : ℕ) (reason : Reason) → string_at (223 ∷ bytes) ≡ bad_text offset reason → ⊥
two_bytes_not_bad [] offset reason bad = let wrong : more_text ≡ bad_text offset reason = bad in cc
two_bytes_not_bad (b ∷ []) offset reason bad = let wrong : more_text ≡ bad_text offset reason = bad in cc
two_bytes_not_bad (b ∷ c ∷ bytes) offset reason bad = after_not_bad 3 (256 * b + c) (223 ∷ b ∷ c ∷ bytes) offset reason bad

-- the only error of a string
bad_is : (bytes : List ℕ) (offset : ℕ) (reason : Reason) → string_at bytes ≡ bad_text offset reason → bad_text 0 BadId ≡ bad_text offset reason
bad_is [] offset reason bad = let wrong : more_text ≡ bad_text offset reason = bad in absurd cc
bad_is (lead ∷ bytes) offset reason bad = elim (cases_lt lead 128) [
  | inl low ↦ absurd (after_not_bad 1 lead (lead ∷ bytes) offset reason (rw (lt-ltb lead 128 low) at bad))
  | inr high ↦ elim (cases_eq lead 222) [
    | inl is_one ↦ absurd (one_byte_not_bad bytes offset reason (rw is_one at bad))
    | inr not_one ↦ elim (cases_eq lead 223) [
      | inl is_two ↦ absurd (two_bytes_not_bad bytes offset reason (rw is_two at bad))
      | inr not_two ↦ let e : bad_text 0 BadId ≡ bad_text offset reason =
          rw (le-ltb lead 128 high, ne_eqb lead 222 not_one, ne_eqb lead 223 not_two) at bad in e
    ]
  ]
]

text_bad : (input : List ℕ) (at : ℕ) → AreBytes (drop at input) → (fault_offset : ℕ) (reason : Reason) (answer : Taken Span)
    → string_at (drop at input) ≡ answer → (moved at answer >>= as_text at) ≡ Err (Bad fault_offset reason)
    → (reason ≡ BadId) × (fault_offset ≡ at) × (BeginsIn 0x80 0xDD (drop at input) ⊎ BeginsIn 0xE0 0xFF (drop at input))
text_bad input at are fault_offset reason (taken.Got span used) is gives =
    absurd (ok_not_err (span_at (at + span.start) span.len) (at + used) (Bad fault_offset reason) gives)
text_bad input at are fault_offset reason taken.More is gives = let same : More ≡ Bad fault_offset reason =
    same_stop {X = Span} More (Bad fault_offset reason) gives in absurd cc
text_bad input at are fault_offset reason (taken.Bad offset why) is gives =
    let same : Bad (at + offset) why ≡ Bad fault_offset reason = same_stop {X = Span} (Bad (at + offset) why) (Bad fault_offset reason) gives in
    let one = bad_is (drop at input) offset why is in
    let offset_is : 0 ≡ offset = cc in
    let place_is : at + offset ≡ fault_offset = cc in
    (cc, omega (arith, offset_is, place_is), bad-string_at (drop at input) are (is ∙ sym one))

text_fault : (input : List ℕ) (at fault_offset : ℕ) (reason : Reason) → (reason ≡ BadId) × (fault_offset ≡ at)
    × (BeginsIn 0x80 0xDD (drop at input) ⊎ BeginsIn 0xE0 0xFF (drop at input)) → text_at input at ≡ Err (Bad fault_offset reason)
text_fault input at fault_offset reason (why, same, begins) = let none : at + 0 ≡ at = omega arith in
    rw (string_at-bad (drop at input) begins, why, same, none) refl

text_more : (input : List ℕ) (at : ℕ) → AreBytes (drop at input) → (answer : Taken Span) → string_at (drop at input) ≡ answer
    → (moved at answer >>= as_text at) ≡ Err More → (text : List ℕ) × IsCutOff (SpellsString text) (drop at input)
text_more input at are (taken.Got span used) is gives = absurd (ok_not_err (span_at (at + span.start) span.len) (at + used) More gives)
text_more input at are taken.More is gives = more-string_cut_off (drop at input) are is
text_more input at are (taken.Bad offset why) is gives = let same : Bad (at + offset) why ≡ More =
    same_stop {X = Span} (Bad (at + offset) why) More gives in absurd cc

text_grows : (at : ℕ) (bytes more : List ℕ) (fault_offset : ℕ) (reason : Reason) → (reason ≡ BadId) × (fault_offset ≡ at)
    × (BeginsIn 0x80 0xDD bytes ⊎ BeginsIn 0xE0 0xFF bytes)
    → (reason ≡ BadId) × (fault_offset ≡ at) × (BeginsIn 0x80 0xDD (bytes ++ more) ⊎ BeginsIn 0xE0 0xFF (bytes ++ more))
text_grows at bytes more fault_offset reason (why, same, inl begins) = (why, same, inl (BeginsIn-grows 0x80 0xDD bytes more begins))
text_grows at bytes more fault_offset reason (why, same, inr begins) = (why, same, inr (BeginsIn-grows 0xE0 0xFF bytes more begins))

pub string-exact : IsExact string
string-exact = record {
  got = λ input at fits x after gives. text_got input at fits x after (string_at (drop at input))
      (string_at-taken (drop at input) (AreBytes-drop at input fits)) gives;
  only = text_only;
  bad = λ input at fits fault_offset reason gives. text_bad input at (AreBytes-drop at input fits) fault_offset reason (string_at (drop at input)) refl gives;
  fault = text_fault;
  more = λ input at fits gives. text_more input at (AreBytes-drop at input fits) (string_at (drop at input)) refl gives;
  ends = λ input at ends. rw (string_at-cut_off ends.0 (drop at input) ends.1) refl;
  later = λ x at prefix next spells. spells;
  grows = text_grows;
}
