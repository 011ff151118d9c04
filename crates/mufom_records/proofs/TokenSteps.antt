-- One token of an expression, and the result of reading it: it is there, it is cut off, or it has an error.
use Rattle.std.proofs.Common.{◌≡◌, ℕ, zero, suc, ◌+◌, ◌-◌, ◌<◌, ◌≤◌, ◌==◌, true, false, List, [], ◌∷◌, ◌++◌, length, take, drop, Option, Some, None}
use Rattle.std.proofs.Common.{Ok, Err, refl, sym, ap, subst, ◌∙◌, inl, inr, arith}
use Rattle.std.specs.Prelude.{option_map, option_and_then}
use Rattle.std.proofs.lemmas.Bool.{cases_Bool, cases_lt, cases_eq, lt-ltb, le-ltb, eq-eqb, ne_eqb}
use Rattle.std.proofs.lemmas.List.{take-append-drop}
use Rattle.mufom_numbers.specs.declared.reason.Reason.{Reason}
use Rattle.mufom_numbers.specs.declared.reason.Reason.TheVariants.{BadNumber, UnsupportedFunction, UnsupportedVariable, Underflow, SurplusTerms, Empty, TooLong}
use Rattle.mufom_numbers.specs.declared.taken.Taken.{Taken}
use Rattle.mufom_numbers.specs.declared.taken.Taken.TheVariants as taken
use Rattle.mufom_numbers.specs.Spelling.{AreBytes}
use Rattle.mufom_expr.specs.declared.token.Letter.{Letter}
use Rattle.mufom_expr.specs.declared.token.Letter.TheVariants as letters
use Rattle.mufom_expr.specs.declared.token.Function.{Function}
use Rattle.mufom_expr.specs.declared.token.Function.TheVariants as functions
use Rattle.mufom_expr.specs.declared.token.Token.{Token}
use Rattle.mufom_expr.specs.declared.token.Token.TheVariants.{Number, Var, Fun}
use Rattle.mufom_expr.specs.Codes.{letter_byte, function_byte, operands_of}
use Rattle.mufom_expr.specs.Tree.{Tree}
use Rattle.mufom_expr.specs.Terms.{after_token, terms_after, leaves}
use Rattle.mufom_expr.specs.Spelled.{SpellsToken, BeginsWith, IsLeftOutFunction, IsLeftOutLetter, HasBadIndex, IsCutOffToken}
use Rattle.mufom_expr.specs.TokenAt.{begins_number, begins_token, token_at}
use Rattle.mufom_expr.proofs.Running.{enough}
use Rattle.mufom_expr.proofs.Leaves.{terms_after-append, leaves-zero}
use Rattle.mufom_expr.proofs.TokenLaws.{States, states, token_at-spelling, cut_off-more, left_out-function, left_out-letter, bad_index}
use Rattle.mufom_records.specs.declared.stop.Stop.{Stop}
use Rattle.mufom_records.specs.declared.stop.Stop.TheVariants.{More, Bad}
use Rattle.mufom_records.specs.Reading.{byte_at, terms_with, expression_end, tokens_from}
use Rattle.mufom_records.specs.Faults.{EndsTokens, TokenFault}
use Rattle.mufom_records.proofs.Exact.{AreBytes-drop}
use Rattle.mufom_records.proofs.NumberLaws.{number_first, cut_first}
use Rattle.mufom_records.proofs.Tokens.{tokens-stop, tokens-got}

-- ---- first bytes

pub number_begins : (b : ℕ) → begins_number b ≡ true → begins_token b ≡ true
number_begins b h = rw h refl

function_begins : (b : ℕ) → 0xA0 ≤ b → b ≤ 0xB9 → begins_token b ≡ true
function_begins b low high = grind (arith, low, high)

pub letter_begins : (l : Letter) → begins_token (letter_byte l) ≡ true
letter_begins letters.I = refl
letter_begins letters.L = refl
letter_begins letters.P = refl
letter_begins letters.R = refl
letter_begins letters.S = refl
letter_begins letters.X = refl

fun_begins : (f : Function) → begins_token (function_byte f) ≡ true
fun_begins functions.Abs = refl
fun_begins functions.Neg = refl
fun_begins functions.Plus = refl
fun_begins functions.Minus = refl
fun_begins functions.Divide = refl
fun_begins functions.Times = refl
fun_begins functions.Max = refl
fun_begins functions.Min = refl
fun_begins functions.Mod = refl
fun_begins functions.Less = refl
fun_begins functions.Greater = refl
fun_begins functions.Equal = refl
fun_begins functions.Unequal = refl
fun_begins functions.And = refl
fun_begins functions.Or = refl
fun_begins functions.Xor = refl

-- the bytes begin with one that begins a token
abbrev pub Begins : List ℕ → Type 0
Begins bytes = (b : ℕ) × (rest : List ℕ) × (bytes ≡ b ∷ rest) × (begins_token b ≡ true)

pub token_first : (token : Token) (text rest : List ℕ) → SpellsToken token text → Begins (text ++ rest)
token_first (Number n) text rest spells =
    let first = number_first n text spells in
    (first.0, first.1 ++ rest, ap (λ (l : List ℕ). l ++ rest) first.2, number_begins first.0 first.3)
token_first (Var l i) text rest (small, bytes, spells, same) = (letter_byte l, bytes ++ rest, ap (λ (l : List ℕ). l ++ rest) same, letter_begins l)
token_first (Fun f) text rest spells = (function_byte f, rest, ap (λ (l : List ℕ). l ++ rest) spells, fun_begins f)

pub cut_off_first : (b : ℕ) (rest : List ℕ) → IsCutOffToken (b ∷ rest) → begins_token b ≡ true
cut_off_first b rest (inl cut) = number_begins b (cut_first b rest cut)
cut_off_first b rest (inr (l, bytes, same, n, cut)) = let e : letter_byte l ≡ b = cc in subst (λ (c : ℕ). begins_token c ≡ true) e (letter_begins l)

bad_index_first : (bytes : List ℕ) → HasBadIndex bytes → Begins bytes
bad_index_first bytes (l, rest, same, wrong) = (letter_byte l, rest, same, letter_begins l)

left_out_first : (bytes : List ℕ) → BeginsWith IsLeftOutFunction bytes → Begins bytes
left_out_first [] begins = absurd begins
left_out_first (b ∷ bytes) begins = (b, bytes, refl, function_begins b begins.0 begins.1)

pub begins-byte_at : (input : List ℕ) (at : ℕ) (begins : Begins (drop at input)) → byte_at input at ≡ Ok (begins.0, at + 1)
begins-byte_at input at begins = rw begins.2 refl

-- ---- the result at an offset

pub tokens-none : (room terms : ℕ) (input : List ℕ) (at : ℕ) → drop at input ≡ [] → tokens_from room terms input at ≡ Err More
tokens-none zero terms input at e = rw e refl
tokens-none (suc room) terms input at e = rw e refl

tokens_end : (room terms : ℕ) (input : List ℕ) (at b : ℕ) (rest : List ℕ) → drop at input ≡ b ∷ rest → begins_token b ≡ false
    → tokens_from room terms input at ≡ expression_end (room == 255) terms at
tokens_end zero terms input at b rest e h = rw (e, h) refl
tokens_end (suc room) terms input at b rest e h = rw (e, h) refl

ends_at : (bytes : List ℕ) → EndsTokens bytes → (b : ℕ) × (rest : List ℕ) × (bytes ≡ b ∷ rest) × (begins_token b ≡ false)
ends_at [] ends = absurd ends
ends_at (b ∷ rest) ends = (b, rest, refl, ends)

pub tokens-end : (room terms : ℕ) (input : List ℕ) (at : ℕ) → EndsTokens (drop at input) → tokens_from room terms input at
    ≡ expression_end (room == 255) terms at
tokens-end room terms input at ends = let e = ends_at (drop at input) ends in tokens_end room terms input at e.0 e.1 e.2 e.3

tokens_stop : (room terms : ℕ) (input : List ℕ) (at : ℕ) (stop : Stop) → Begins (drop at input) → terms_with room terms at (token_at (drop at input))
    ≡ Err stop → tokens_from room terms input at ≡ Err stop
tokens_stop room terms input at stop begins e = tokens-stop room terms at input begins.0 (at + 1) stop (begins-byte_at input at begins) begins.3 e

-- a token that has its operands, and is still allowed
pub tokens-next : (room terms : ℕ) (input : List ℕ) (at : ℕ) (token : Token) (text rest : List ℕ) → SpellsToken token text → drop at input ≡ text
    ++ rest → operands_of token ≤ terms → 0 < room
    → tokens_from room terms input at ≡ tokens_from (room - 1) (terms - operands_of token + 1) input (at + length text)
tokens-next room terms input at token text rest spells split found some =
    let begins : Begins (drop at input) = subst (λ (l : List ℕ). Begins l) (sym split) (token_first token text rest spells) in
    let got : token_at (drop at input) ≡ taken.Got token (length text) = ap token_at split ∙ token_at-spelling token text rest spells in
    let step : terms_with room terms at (token_at (drop at input)) ≡ Ok (terms - operands_of token + 1, at + length text)
    = ap (λ t. terms_with room terms at t) got ∙ with_room room terms at token (length text) found some in
    tokens-got room terms at input begins.0 (at + 1) (terms - operands_of token + 1) (at + length text) some (begins-byte_at input at begins) begins.3
    step where
      with_room : (room terms at : ℕ) (token : Token) (used : ℕ) → operands_of token ≤ terms → 0 < room
          → terms_with room terms at (taken.Got token used) ≡ Ok (terms - operands_of token + 1, at + used)
      with_room zero terms at token used found some = absurd (omega (arith, some))
      with_room (suc room) terms at token used found some = rw (le-ltb terms (operands_of token) found, ne_eqb (suc room) 0 (λ e. omega (arith, e))) refl

-- if a token is cut off, more bytes are needed
pub tokens-cut : (room terms : ℕ) (input : List ℕ) (at : ℕ) (bytes : List ℕ) → drop at input ≡ bytes → IsCutOffToken bytes
    → tokens_from room terms input at ≡ Err More
tokens-cut room terms input at [] e cut = tokens-none room terms input at e
tokens-cut room terms input at (b ∷ rest) e cut =
    let more : token_at (drop at input) ≡ taken.More = ap token_at e ∙ cut_off-more (b ∷ rest) cut in
    tokens_stop room terms input at More (b, rest, e, cut_off_first b rest cut) (ap (λ t. terms_with room terms at t) more ∙ wants room) where
      wants : (room : ℕ) → terms_with room terms at taken.More ≡ Err More
      wants zero = refl
      wants (suc room) = refl

bad_here : (room terms at : ℕ) (reason : Reason) → terms_with room terms at (taken.Bad 0 reason) ≡ Err (Bad (at + 0) reason)
bad_here zero terms at reason = refl
bad_here (suc room) terms at reason = refl

index_bad : (room terms at tokens : ℕ) → tokens + room ≡ 255 → tokens < 255 → terms_with room terms at (taken.Bad 1 BadNumber) ≡ Err (Bad (at + 1) BadNumber)
index_bad zero terms at tokens count few = absurd (omega (arith, count, few))
index_bad (suc room) terms at tokens count few = refl

token_under : (room terms at : ℕ) (token : Token) (used : ℕ) → terms < operands_of token → terms_with room terms at (taken.Got token used)
    ≡ Err (Bad (at + 0) Underflow)
token_under zero terms at token used few = let same : at + 0 ≡ at = omega arith in rw (lt-ltb terms (operands_of token) few, same) refl
token_under (suc room) terms at token used few = let same : at + 0 ≡ at = omega arith in rw (lt-ltb terms (operands_of token) few, same) refl

token_long : (room terms at : ℕ) (token : Token) (used : ℕ) → room ≡ 0 → operands_of token ≤ terms → terms_with room terms at (taken.Got token used)
    ≡ Err (Bad (at + 0) TooLong)
token_long zero terms at token used none found = let same : at + 0 ≡ at = omega arith in rw (le-ltb terms (operands_of token) found, same) refl
token_long (suc room) terms at token used none found = absurd (omega (arith, none))

index_long : (room terms at : ℕ) → room ≡ 0 → terms_with room terms at (taken.Bad 1 BadNumber) ≡ Err (Bad (at + 0) TooLong)
index_long zero terms at none = let same : at + 0 ≡ at = omega arith in rw same refl
index_long (suc room) terms at none = absurd (omega (arith, none))

end_empty : (room terms at : ℕ) → room ≡ 255 → expression_end (room == 255) terms at ≡ Err (Bad (at + 0) Empty)
end_empty room terms at all = let same : at + 0 ≡ at = omega arith in rw (eq-eqb room 255 all, same) refl

pub end_surplus : (room terms at : ℕ) → (room ≡ 255 → ⊥) → (terms ≡ 1 → ⊥) → expression_end (room == 255) terms at ≡ Err (Bad (at + 0) SurplusTerms)
end_surplus room terms at some many = let same : at + 0 ≡ at = omega arith in rw (ne_eqb room 255 some, ne_eqb terms 1 many, same) refl

pub end_whole : (room at : ℕ) → (room ≡ 255 → ⊥) → expression_end (room == 255) 1 at ≡ Ok (tt, at)
end_whole room at some = rw (ne_eqb room 255 some) refl

-- each error of a token is returned at its offset
pub tokens-fault : (room terms : ℕ) (input : List ℕ) (at tokens offset : ℕ) (reason : Reason) → tokens + room ≡ 255 → (tokens ≡ 0 → terms ≡ 0)
    → TokenFault tokens terms (drop at input) offset reason
    → tokens_from room terms input at ≡ Err (Bad (at + offset) reason)
tokens-fault room terms input at tokens offset UnsupportedFunction count start (none, begins) =
    rw none (tokens_stop room terms input at (Bad (at + 0) UnsupportedFunction) (left_out_first (drop at input) begins)
    (ap (λ t. terms_with room terms at t) (left_out-function (drop at input) begins) ∙ bad_here room terms at UnsupportedFunction))
tokens-fault room terms input at tokens offset UnsupportedVariable count start (none, begins) =
    let both = letter_first (drop at input) begins in
    rw none (tokens_stop room terms input at (Bad (at + 0) UnsupportedVariable) both.0
    (ap (λ t. terms_with room terms at t) (left_out-letter (drop at input) both.1) ∙ bad_here room terms at UnsupportedVariable)) where
      letter_first : (bytes : List ℕ) → BeginsWith (λ b. (begins_token b ≡ true) × IsLeftOutLetter b) bytes → Begins bytes × BeginsWith IsLeftOutLetter bytes
      letter_first [] begins = absurd begins
      letter_first (b ∷ bytes) begins = ((b, bytes, refl, begins.0), begins.1)
tokens-fault room terms input at tokens offset BadNumber count start (one, few, wrong) =
    rw one (tokens_stop room terms input at (Bad (at + 1) BadNumber) (bad_index_first (drop at input) wrong)
    (ap (λ t. terms_with room terms at t) (bad_index (drop at input) wrong) ∙ index_bad room terms at tokens count few))
tokens-fault room terms input at tokens offset Underflow count start (none, (token, text, rest, spells, few, split)) =
    let begins : Begins (drop at input) = subst (λ (l : List ℕ). Begins l) (sym split) (token_first token text rest spells) in
    let got : token_at (drop at input) ≡ taken.Got token (length text) = ap token_at split ∙ token_at-spelling token text rest spells in
    rw none (tokens_stop room terms input at (Bad (at + 0) Underflow) begins (ap (λ t. terms_with room terms at t) got
    ∙ token_under room terms at token (length text) few))
tokens-fault room terms input at tokens offset TooLong count start (none, all, inl (token, text, rest, spells, found, split)) =
    let begins : Begins (drop at input) = subst (λ (l : List ℕ). Begins l) (sym split) (token_first token text rest spells) in
    let got : token_at (drop at input) ≡ taken.Got token (length text) = ap token_at split ∙ token_at-spelling token text rest spells in
    rw none (tokens_stop room terms input at (Bad (at + 0) TooLong) begins (ap (λ t. terms_with room terms at t) got
    ∙ token_long room terms at token (length text) (omega (arith, count, all)) found))
tokens-fault room terms input at tokens offset TooLong count start (none, all, inr wrong) =
    rw none (tokens_stop room terms input at (Bad (at + 0) TooLong) (bad_index_first (drop at input) wrong)
    (ap (λ t. terms_with room terms at t) (bad_index (drop at input) wrong) ∙ index_long room terms at (omega (arith, count, all))))
tokens-fault room terms input at tokens offset Empty count start (none, empty, ends) =
    rw none (tokens-end room terms input at ends ∙ end_empty room terms at (omega (arith, count, empty)))
tokens-fault room terms input at tokens offset SurplusTerms count start (none, many, ends) =
    rw none (tokens-end room terms input at ends ∙ end_surplus room terms at (λ all. omega (arith, many, start (omega (arith, count, all))))
    (λ one. omega (arith, many, one)))
tokens-fault room terms input at tokens offset _ count start has = absurd has

-- ---- the number of terms

some_is : (a b : ℕ) → ◌≡◌ {A = Option ℕ} (Some a) (Some b) → a ≡ b
some_is a b e = cc

none_is : (a : ℕ) → ◌≡◌ {A = Option ℕ} None (Some a) → ⊥
none_is a e = cc

-- a token that is followed by others had its operands
pub leaves-enough : (before after : List Token) (token : Token) (m n : ℕ) → leaves before ≡ Some m → leaves (before ++ token ∷ after) ≡ Some n
    → operands_of token ≤ m
leaves-enough before after token m n first whole = by_terms (terms_after before []) first
    (sym (ap (option_map length) (terms_after-append before (token ∷ after) [])) ∙ whole) where
      by_step : (s : List Tree) (o : Option (List Tree)) → after_token token s ≡ o → length s ≡ m
          → option_map length (option_and_then (terms_after after) o) ≡ Some n → operands_of token ≤ m
      by_step s None step count whole = absurd (none_is n whole)
      by_step s (Some s') step count whole = omega (arith, enough token s s' step, count)

      by_terms : (o : Option (List Tree)) → option_map length o ≡ Some m → option_map length (option_and_then (terms_after (token ∷ after)) o) ≡ Some n
          → operands_of token ≤ m
      by_terms None first whole = absurd (none_is m first)
      by_terms (Some s) first whole = by_step s (after_token token s) refl (some_is (length s) m first) whole

-- ---- a step

pub data Step (room terms : ℕ) (before : List Token) (input : List ℕ) (at : ℕ) : Type 0 where
  cut : IsCutOffToken (drop at input) → tokens_from room terms input at ≡ Err More → Step room terms before input at
  faulty : (offset : ℕ) (reason : Reason) → TokenFault (length before) terms (drop at input) offset reason → tokens_from room terms input at
      ≡ Err (Bad (at + offset) reason) → Step room terms before input at
  ended : EndsTokens (drop at input) → terms ≡ 1 → tokens_from room terms input at ≡ Ok (tt, at) → Step room terms before input at
  goes_on : (token : Token) (text rest : List ℕ) → SpellsToken token text → drop at input ≡ text ++ rest → operands_of token ≤ terms → 0 < room
      → tokens_from room terms input at ≡ tokens_from (room - 1) (terms - operands_of token + 1) input (at + length text) → Step room terms before input at

module _ (room terms : ℕ) (before : List Token) (input : List ℕ) (at : ℕ) (stand : leaves before ≡ Some terms) (count : length before + room ≡ 255) where
  start_none : length before ≡ 0 → terms ≡ 0
  start_none none = by_list before none stand where
    by_list : (tokens : List Token) → length tokens ≡ 0 → leaves tokens ≡ Some terms → terms ≡ 0
    by_list [] none stand = sym (some_is 0 terms stand)
    by_list (t ∷ tokens) none stand = absurd (omega (arith, none))

  as_fault : (offset : ℕ) (reason : Reason) → TokenFault (length before) terms (drop at input) offset reason → Step room terms before input at
  as_fault offset reason has = faulty offset reason has (tokens-fault room terms input at (length before) offset reason count start_none has)

  end_step : EndsTokens (drop at input) → Step room terms before input at
  end_step ends = elim (cases_eq (length before) 0) [
    | inl none ↦ as_fault 0 Empty (refl, none, ends)
    | inr some ↦ elim (cases_eq terms 1) [
      | inl one ↦ ended ends one (tokens-end room terms input at ends ∙ ap (λ (n : ℕ). expression_end (room == 255) n at) one
          ∙ end_whole room at (λ all. some (omega (arith, count, all))))
      | inr many ↦ as_fault 0 SurplusTerms (refl, at_least some many, ends)
    ]
  ] where
    at_least : (length before ≡ 0 → ⊥) → (terms ≡ 1 → ⊥) → 1 < terms
    at_least some many = elim (cases_eq terms 0) [
      | inl none ↦ absurd (some (ap length (leaves-zero before (stand ∙ ap (λ (n : ℕ). Some n) none))))
      | inr full ↦ omega (arith, full, many)
    ]

  got_step : (token : Token) (used : ℕ) → used ≤ length (drop at input) → SpellsToken token (take used (drop at input)) → Step room terms before input at
  got_step token used few spells =
      let text = take used (drop at input) in
      let rest = drop used (drop at input) in
      let split : drop at input ≡ text ++ rest = sym (take-append-drop used (drop at input)) in
      elim (cases_lt terms (operands_of token)) [
        | inl under ↦ as_fault 0 Underflow (refl, (token, text, rest, spells, under, split))
        | inr found ↦ elim (cases_eq room 0) [
          | inl none ↦ as_fault 0 TooLong (refl, omega (arith, count, none), inl (token, text, rest, spells, found, split))
          | inr some ↦ goes_on token text rest spells split found (omega (arith, some))
              (tokens-next room terms input at token text rest spells split found (omega (arith, some)))
        ]
      ]

  letter_both : (bytes : List ℕ) → Begins bytes → BeginsWith IsLeftOutLetter bytes → BeginsWith (λ b. (begins_token b ≡ true) × IsLeftOutLetter b) bytes
  letter_both [] begins left_out = left_out
  letter_both (b ∷ bytes) (c, rest, same, h) left_out = let e : c ≡ b = cc in (subst (λ (n : ℕ). begins_token n ≡ true) e h, left_out)

  token_step : (answer : Taken Token) → Begins (drop at input) → States (drop at input) answer → Step room terms before input at
  token_step (taken.Got token used) begins stated = got_step token used stated.0 stated.1
  token_step taken.More begins stated = cut stated (tokens-cut room terms input at (drop at input) refl stated)
  token_step (taken.Bad zero UnsupportedFunction) begins stated = as_fault 0 UnsupportedFunction (refl, stated)
  token_step (taken.Bad zero UnsupportedVariable) begins stated = as_fault 0 UnsupportedVariable (refl, letter_both (drop at input) begins stated)
  token_step (taken.Bad (suc zero) BadNumber) begins stated = elim (cases_eq room 0) [
    | inl none ↦ as_fault 0 TooLong (refl, omega (arith, count, none), inr stated)
    | inr some ↦ as_fault 1 BadNumber (refl, omega (arith, count, some), stated)
  ]
  token_step (taken.Bad _ _) begins stated = absurd stated

  step_at : AreBytes input → (bytes : List ℕ) → drop at input ≡ bytes → Step room terms before input at
  step_at fits [] e =
      let none : IsCutOffToken (drop at input) = subst (λ (l : List ℕ). IsCutOffToken l) (sym e) (states [] tt) in
      cut none (tokens-none room terms input at e)
  step_at fits (b ∷ rest) e = elim (cases_Bool (begins_token b)) [
    | inl h ↦ token_step (token_at (drop at input)) (b, rest, e, h) (states (drop at input) (AreBytes-drop at input fits))
    | inr h ↦ end_step (subst (λ (l : List ℕ). EndsTokens l) (sym e) h)
  ]

  pub step : AreBytes input → Step room terms before input at
  step fits = step_at fits (drop at input) refl
