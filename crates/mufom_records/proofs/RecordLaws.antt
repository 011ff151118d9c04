-- Records are read exactly, and a longer input changes no result except More.
use Rattle.std.proofs.Common.{◌≡◌, ℕ, ◌+◌, ◌≤◌, List, [], ◌∷◌, ◌++◌, length, take, drop, None, Ok, Err, IfOk, refl, sym, ap, subst, ◌∙◌, arith, append_assoc}
use Rattle.std.proofs.lemmas.List.{length-append, length-take, take-append-drop, take_at}
use Rattle.mufom_numbers.specs.declared.reason.Reason.{Reason}
use Rattle.mufom_numbers.specs.declared.taken.Taken.{Taken}
use Rattle.mufom_numbers.specs.declared.taken.Taken.TheVariants as taken
use Rattle.mufom_numbers.specs.Spelling.{AreBytes, IfGot}
use Rattle.mufom_records.specs.declared.record.Mode.{Mode}
use Rattle.mufom_records.specs.declared.record.Record.{Record}
use Rattle.mufom_records.specs.declared.stop.Stop.TheVariants.{More, Bad}
use Rattle.mufom_records.specs.Fields.{Field, byte, number, string, run, letter, optional_number, numbers, expression, optional_expression, first_of}
use Rattle.mufom_records.specs.Fields.{sized_expression}
use Rattle.mufom_records.specs.Layouts.{layout_of, IsWholeRecord}
use Rattle.mufom_records.specs.Reading.{Reading, read, as_taken, record_at}
use Rattle.mufom_records.specs.Faults.{IsFaulty, IsCutOffRecord}
use Rattle.mufom_records.proofs.Exact.{IsExact, FoundRecord, read-got, read-only, read-bad, read-fault, read-more, read-ends, record-later, fault-grows}
use Rattle.mufom_records.proofs.NumberLaws.{byte-exact, number-exact, letter-exact, optional_number-exact}
use Rattle.mufom_records.proofs.ListLaws.{numbers-exact, run-exact, string-exact}
use Rattle.mufom_records.proofs.ExpressionLaws.{expression-exact, optional_expression-exact}
use Rattle.mufom_records.proofs.SizedLaws.{sized_expression-exact}

-- each field is read exactly
pub exact : (f : Field) → IsExact f
exact byte = byte-exact
exact (number fits offset fault) = number-exact fits offset fault
exact string = string-exact
exact (run n) = run-exact n
exact (letter known) = letter-exact known
exact optional_number = optional_number-exact
exact (numbers most) = numbers-exact most
exact expression = expression-exact
exact optional_expression = optional_expression-exact
exact sized_expression = sized_expression-exact

abbrev pub got_record : Record → ℕ → Taken Record
got_record row used = taken.Got row used

abbrev pub bad_record : ℕ → Reason → Taken Record
bad_record offset reason = taken.Bad offset reason

abbrev pub more_record : Taken Record
more_record = taken.More

-- ---- what a result states

-- the bytes that were read are a prefix of the input and a complete record
pub record IsPrefix (mode : Mode) (input : List ℕ) (row : Record) (used : ℕ) : Type 0 where
  pub within : used ≤ length input
  pub is_whole : IsWholeRecord mode row (take used input) (first_of (drop used input) None)

prefix_of : (mode : Mode) (input : List ℕ) (row : Record) (used : ℕ) → FoundRecord exact (layout_of mode) input 0 row used → IsPrefix mode input row used
prefix_of mode input row used all =
    let count : length all.prefix ≡ used = omega (arith, all.count) in
    let text : take used input ≡ all.prefix = ap (take used) all.split ∙ take_at all.prefix (drop used input) used count in
    record {
      within = omega (arith, ap length all.split, length-append all.prefix (drop used input), count);
      is_whole = subst (λ (l : List ℕ). IsWholeRecord mode row l (first_of (drop used input) None)) (sym text) all.spells;
    }

pub data States (mode : Mode) (input : List ℕ) : Taken Record → Type 0 where
  states_got : (row : Record) (used : ℕ) → IsPrefix mode input row used → States mode input (taken.Got row used)
  states_more : IsCutOffRecord mode input → States mode input taken.More
  states_bad : (offset : ℕ) (reason : Reason) → IsFaulty mode input offset reason → States mode input (taken.Bad offset reason)

states_by : (mode : Mode) (input : List ℕ) → AreBytes input → (answer : Reading Record) → read (layout_of mode) input 0 ≡ answer
    → States mode input (as_taken answer)
states_by mode input fits (Ok (row, used)) is = states_got row used (prefix_of mode input row used (read-got exact (layout_of mode) input 0 fits row used is))
states_by mode input fits (Err More) is = states_more (read-more exact (layout_of mode) input 0 fits is)
states_by mode input fits (Err (Bad offset reason)) is = states_bad offset reason (read-bad exact (layout_of mode) input 0 fits offset reason is)

pub states : (mode : Mode) (input : List ℕ) → AreBytes input → States mode input (record_at mode input)
states mode input fits = states_by mode input fits (read (layout_of mode) input 0) refl

stated_got : (mode : Mode) (input : List ℕ) (answer : Taken Record) → States mode input answer
    → IfGot answer (λ row used. (used ≤ length input) × IsWholeRecord mode row (take used input) (first_of (drop used input) None))
stated_got mode input answer (states_got row used is) = (is.within, is.is_whole)
stated_got mode input answer (states_more ends) = tt
stated_got mode input answer (states_bad offset reason has) = tt

pub record_at-got : (mode : Mode) (input : List ℕ) → AreBytes input
    → IfGot (record_at mode input) (λ row used. (used ≤ length input) × IsWholeRecord mode row (take used input) (first_of (drop used input) None))
record_at-got mode input fits = stated_got mode input (record_at mode input) (states mode input fits)

pub record_at-only : (mode : Mode) (input : List ℕ) (row : Record) (text rest : List ℕ) → IsWholeRecord mode row text (first_of rest None) → input
    ≡ text ++ rest → record_at mode input ≡ taken.Got row (length text)
record_at-only mode input row text rest is split = let none : 0 + length text ≡ length text = omega arith in
    rw (read-only exact (layout_of mode) input 0 row text rest is split, none) refl

pub record_at-bad : (mode : Mode) (input : List ℕ) (offset : ℕ) (reason : Reason) → IsFaulty mode input offset reason → record_at mode input
    ≡ taken.Bad offset reason
record_at-bad mode input offset reason has = ap (λ a. as_taken a) (read-fault exact (layout_of mode) input 0 offset reason has)

stated_bad : (mode : Mode) (input : List ℕ) (offset : ℕ) (reason : Reason) (answer : Taken Record) → States mode input answer → answer
    ≡ taken.Bad offset reason → IsFaulty mode input offset reason
stated_bad mode input offset reason answer (states_got row used is) same = let wrong : got_record row used ≡ bad_record offset reason = same in absurd cc
stated_bad mode input offset reason answer (states_more ends) same = let wrong : more_record ≡ bad_record offset reason = same in absurd cc
stated_bad mode input offset reason answer (states_bad where_ why has) same =
    let e : bad_record where_ why ≡ bad_record offset reason = same in
    let place_is : where_ ≡ offset = cc in
    let reason_is : why ≡ reason = cc in
    subst (λ (p : ℕ). IsFaulty mode input p reason) place_is (subst (λ (r : Reason). IsFaulty mode input where_ r) reason_is has)

pub bad-record_at : (mode : Mode) (input : List ℕ) → AreBytes input → (offset : ℕ) (reason : Reason) → record_at mode input ≡ taken.Bad offset reason
    → IsFaulty mode input offset reason
bad-record_at mode input fits offset reason e = stated_bad mode input offset reason (record_at mode input) (states mode input fits) e

pub record_at-more : (mode : Mode) (input : List ℕ) → IsCutOffRecord mode input → record_at mode input ≡ taken.More
record_at-more mode input ends = ap (λ a. as_taken a) (read-ends exact (layout_of mode) input 0 ends)

stated_more : (mode : Mode) (input : List ℕ) (answer : Taken Record) → States mode input answer → answer ≡ taken.More → IsCutOffRecord mode input
stated_more mode input answer (states_got row used is) same = let wrong : got_record row used ≡ more_record = same in absurd cc
stated_more mode input answer (states_more ends) same = ends
stated_more mode input answer (states_bad offset reason has) same = let wrong : bad_record offset reason ≡ more_record = same in absurd cc

pub more-record_at : (mode : Mode) (input : List ℕ) → AreBytes input → record_at mode input ≡ taken.More → IsCutOffRecord mode input
more-record_at mode input fits e = stated_more mode input (record_at mode input) (states mode input fits) e

-- ---- the same for the result before it is converted

got_ok : (P : Record → ℕ → Type 0) (answer : Reading Record) → IfGot (as_taken answer) P → IfOk answer (λ r. P r.0 r.1)
got_ok P (Ok (row, used)) has = has
got_ok P (Err More) has = tt
got_ok P (Err (Bad offset reason)) has = tt

pub read_at-whole : (mode : Mode) (input : List ℕ) → AreBytes input → IfOk (read (layout_of mode) input 0)
    (λ r. (r.1 ≤ length input) × IsWholeRecord mode r.0 (take r.1 input) (first_of (drop r.1 input) None))
read_at-whole mode input fits =
    got_ok (λ row used. (used ≤ length input) × IsWholeRecord mode row (take used input) (first_of (drop used input) None)) (read (layout_of mode) input 0)
    (record_at-got mode input fits)

pub read_at-only : (mode : Mode) (input : List ℕ) (row : Record) (text rest : List ℕ) → IsWholeRecord mode row text (first_of rest None) → input
    ≡ text ++ rest → read (layout_of mode) input 0 ≡ Ok (row, length text)
read_at-only mode input row text rest is split = let none : 0 + length text ≡ length text = omega arith in
    rw (read-only exact (layout_of mode) input 0 row text rest is split, none) refl

pub bad-read_at : (mode : Mode) (input : List ℕ) → AreBytes input → (offset : ℕ) (reason : Reason)
    → read (layout_of mode) input 0 ≡ Err (Bad offset reason) → IsFaulty mode input offset reason
bad-read_at mode input fits offset reason e = bad-record_at mode input fits offset reason (ap (λ a. as_taken a) e)

pub read_at-bad : (mode : Mode) (input : List ℕ) (offset : ℕ) (reason : Reason) → IsFaulty mode input offset reason
    → read (layout_of mode) input 0 ≡ Err (Bad offset reason)
read_at-bad mode input offset reason has = read-fault exact (layout_of mode) input 0 offset reason has

pub more-read_at : (mode : Mode) (input : List ℕ) → AreBytes input → read (layout_of mode) input 0 ≡ Err More → IsCutOffRecord mode input
more-read_at mode input fits e = more-record_at mode input fits (ap (λ a. as_taken a) e)

pub read_at-more : (mode : Mode) (input : List ℕ) → IsCutOffRecord mode input → read (layout_of mode) input 0 ≡ Err More
read_at-more mode input ends = read-ends exact (layout_of mode) input 0 ends

-- ---- laws

later_of : (mode : Mode) (it : Record) (text rest more : List ℕ) → IsWholeRecord mode it text (first_of rest None)
    → IsWholeRecord mode it text (first_of (rest ++ more) None)
later_of mode it text [] more is = record-later exact (layout_of mode) it 0 text (first_of more None) is
later_of mode it text (b ∷ rest) more is = is

stable_by : (mode : Mode) (input more : List ℕ) (answer : Taken Record) → States mode input answer → (answer ≡ taken.More → ⊥)
    → record_at mode (input ++ more) ≡ answer
stable_by mode input more answer (states_got row used is) wanted =
    let text = take used input in
    let rest = drop used input in
    let split : input ≡ text ++ rest = sym (take-append-drop used input) in
    let count : length text ≡ used = omega (arith, length-take used input, is.within) in
    record_at-only mode (input ++ more) row text (rest ++ more) (later_of mode row text rest more is.is_whole) (ap (λ (l : List ℕ). l ++ more) split
    ∙ append_assoc text rest more) ∙ ap (λ (n : ℕ). got_record row n) count
stable_by mode input more answer (states_more ends) wanted = absurd (wanted refl)
stable_by mode input more answer (states_bad offset reason has) wanted =
    record_at-bad mode (input ++ more) offset reason (fault-grows exact (layout_of mode) 0 input more offset reason has)

-- a longer input has the same result, unless that is More
pub record_at-stable : (mode : Mode) (input more : List ℕ) → AreBytes input → (record_at mode input ≡ taken.More → ⊥) → record_at mode (input ++ more)
    ≡ record_at mode input
record_at-stable mode input more fits wanted = stable_by mode input more (record_at mode input) (states mode input fits) wanted

-- two complete records at one offset are the same
pub one_record : (mode : Mode) (r s : Record) (text rest other more : List ℕ) → IsWholeRecord mode r text (first_of rest None)
    → IsWholeRecord mode s other (first_of more None) → text ++ rest ≡ other ++ more → (r ≡ s) × (text ≡ other)
one_record mode r s text rest other more first second same =
    let one = record_at-only mode (text ++ rest) r text rest first refl in
    let two = record_at-only mode (text ++ rest) s other more second same in
    let e : got_record r (length text) ≡ got_record s (length other) = sym one ∙ two in
    let row : r ≡ s = cc in
    let count : length text ≡ length other = cc in
    (row, sym (take_at text rest (length text) refl) ∙ ap (take (length text)) same ∙ take_at other more (length text) (sym count))
