-- What the token at the start of bytes says about them.
use Rattle.std.proofs.Common.{◌≡◌, ◌⊎◌, ℕ, zero, suc, ◌+◌, ◌-◌, ◌<◌, ◌≤◌, ◌==◌, Bool, true, false, List, [], ◌∷◌, ◌++◌, length, take, drop, Option}
use Rattle.std.proofs.Common.{Some, None, refl, sym, ap, subst, ◌∙◌, inl, inr, arith}
use Rattle.std.specs.List.{find}
use Rattle.std.proofs.lemmas.Bool.{cases_lt, le-ltb, lt-ltb}
use Rattle.std.proofs.lemmas.Bool.Decides.{Decides-eqb}
use Rattle.std.proofs.lemmas.List.{take-append-drop}
use Rattle.mufom_numbers.specs.declared.reason.Reason.{Reason}
use Rattle.mufom_numbers.specs.declared.reason.Reason.TheVariants.{BadNumber, UnsupportedFunction, UnsupportedVariable}
use Rattle.mufom_numbers.specs.declared.taken.Taken.{Taken}
use Rattle.mufom_numbers.specs.declared.taken.Taken.TheVariants.{Got, More, Bad}
use Rattle.mufom_numbers.specs.Spelling.{SpellsNumber, AreBytes, IfGot, big_endian, number_at}
use Rattle.mufom_numbers.proofs.SpellingLaws.{number_at-spelling, number_at-got, number_at-cut_off, more-cut_off, number_at-bad, bad-number_at}
use Rattle.mufom_expr.specs.declared.token.Letter.{Letter}
use Rattle.mufom_expr.specs.declared.token.Letter.TheVariants as letters
use Rattle.mufom_expr.specs.declared.token.Function.{Function}
use Rattle.mufom_expr.specs.declared.token.Function.TheVariants as functions
use Rattle.mufom_expr.specs.declared.token.Token.{Token}
use Rattle.mufom_expr.specs.declared.token.Token.TheVariants.{Number, Var, Fun}
use Rattle.mufom_expr.specs.Codes.{letter_byte, function_byte, letter_of, function_of, all_letters, all_functions}
use Rattle.mufom_expr.specs.Spelled.{SpellsToken, BeginsWith, IsLeftOutFunction, IsLeftOutLetter, HasBadIndex, IsCutOffToken}
use Rattle.mufom_expr.specs.TokenAt.{begins_number, is_from_to, number_token, function_token, variable_token, token_at}

-- ---- bytes and what they are the bytes of

-- what a search finds passes the test
found_at : {X : Type 0} (byte : X → ℕ) (b : ℕ) (xs : List X) (x : X) → find (λ y. b == byte y) xs ≡ Some x → b ≡ byte x
found_at byte b [] x e = let bad : None ≡ Some x = e in absurd cc
found_at byte b (y ∷ ys) x e = by_test (b == byte y) refl (found_at byte b ys x) where
  by_test : (r : Bool) → (b == byte y) ≡ r → (find (λ z. b == byte z) ys ≡ Some x → b ≡ byte x) → b ≡ byte x
  by_test true test later = let first : Some y ≡ Some x = rw test at e in let same : y ≡ x = cc in (Decides-eqb b (byte y)).0 test ∙ ap byte same
  by_test false test later = let rest : find (λ z. b == byte z) ys ≡ Some x = rw test at e in later rest

letter_of-byte : (letter : Letter) → letter_of (letter_byte letter) ≡ Some letter
letter_of-byte letters.I = refl
letter_of-byte letters.L = refl
letter_of-byte letters.P = refl
letter_of-byte letters.R = refl
letter_of-byte letters.S = refl
letter_of-byte letters.X = refl

function_of-byte : (f : Function) → function_of (function_byte f) ≡ Some f
function_of-byte functions.Abs = refl
function_of-byte functions.Neg = refl
function_of-byte functions.Plus = refl
function_of-byte functions.Minus = refl
function_of-byte functions.Divide = refl
function_of-byte functions.Times = refl
function_of-byte functions.Max = refl
function_of-byte functions.Min = refl
function_of-byte functions.Mod = refl
function_of-byte functions.Less = refl
function_of-byte functions.Greater = refl
function_of-byte functions.Equal = refl
function_of-byte functions.Unequal = refl
function_of-byte functions.And = refl
function_of-byte functions.Or = refl
function_of-byte functions.Xor = refl

no_letter : (b : ℕ) (o : Option Letter) → letter_of b ≡ o → ((letter : Letter) → (b ≡ letter_byte letter) → ⊥) → letter_of b ≡ None
no_letter b None e none = e
no_letter b (Some letter) e none = absurd (none letter (found_at letter_byte b all_letters letter e))

no_function : (b : ℕ) (o : Option Function) → function_of b ≡ o → ((f : Function) → (b ≡ function_byte f) → ⊥) → function_of b ≡ None
no_function b None e none = e
no_function b (Some f) e none = absurd (none f (found_at function_byte b all_functions f e))

-- ---- the three kinds of first bytes

begins-number : (b : ℕ) → b ≤ 0x88 → begins_number b ≡ true
begins-number b low = grind (arith, low)

pub number_kind : (b : ℕ) (bytes : List ℕ) → b ≤ 0x88 → token_at (b ∷ bytes) ≡ number_token (number_at (b ∷ bytes))
number_kind b bytes low = rw (begins-number b low) refl

no_number : (b : ℕ) → 0x88 < b → begins_number b ≡ false
no_number b high = grind (arith, high)

in_functions : (b : ℕ) → 0xA0 ≤ b → b ≤ 0xB9 → is_from_to 0xA0 0xB9 b ≡ true
in_functions b low high = grind (arith, low, high)

out_of_functions : (b : ℕ) → (b < 0xA0) ⊎ (0xB9 < b) → is_from_to 0xA0 0xB9 b ≡ false
out_of_functions b (inl low) = grind (arith, low)
out_of_functions b (inr high) = grind (arith, high)

pub function_kind : (b : ℕ) (bytes : List ℕ) → 0xA0 ≤ b → b ≤ 0xB9 → token_at (b ∷ bytes) ≡ function_token (function_of b)
function_kind b bytes low high = rw (no_number b (omega (arith, low)), in_functions b low high) refl

pub letter_kind : (b : ℕ) (bytes : List ℕ) → 0x88 < b → (b < 0xA0) ⊎ (0xB9 < b) → token_at (b ∷ bytes) ≡ variable_token (letter_of b) (number_at bytes)
letter_kind b bytes high out = rw (no_number b high, out_of_functions b out) refl

data Kind (b : ℕ) : Type 0 where
  of_number : b ≤ 0x88 → Kind b
  of_function : 0xA0 ≤ b → b ≤ 0xB9 → Kind b
  of_letter : 0x88 < b → (b < 0xA0) ⊎ (0xB9 < b) → Kind b

kind : (b : ℕ) → Kind b
kind b = elim (cases_lt 0x88 b) [
  | inr low ↦ of_number low
  | inl high ↦ elim (cases_lt b 0xA0) [
    | inl below ↦ of_letter high (inl below)
    | inr from ↦ elim (cases_lt 0xB9 b) [
      | inl above ↦ of_letter high (inr above)
      | inr within ↦ of_function from within
    ]
  ]
]

-- ---- what a result says about the input

abbrev pub States : List ℕ → Taken Token → Type 0
States input (Got token used) = (used ≤ length input) × SpellsToken token (take used input)
States input More = IsCutOffToken input
States input (Bad zero UnsupportedFunction) = BeginsWith IsLeftOutFunction input
States input (Bad zero UnsupportedVariable) = BeginsWith IsLeftOutLetter input
States input (Bad (suc zero) BadNumber) = HasBadIndex input
States input (Bad _ _) = ⊥

abbrev more_number : Taken ℕ
more_number = More

-- a byte of 0 to 88 is not refused as a number
not_bad : (b : ℕ) (bytes : List ℕ) → b ≤ 0x88 → (offset : ℕ) (reason : Reason) → number_at (b ∷ bytes) ≡ Bad offset reason → ⊥
not_bad b bytes low offset reason e = elim (cases_lt b 128) [
  | inl short ↦ let no : Got b 1 ≡ Bad offset reason = rw (lt-ltb b 128 short) at e in cc
  | inr long ↦ elim (cases_lt (length bytes) (b - 128)) [
    | inl cut ↦ let no : more_number ≡ Bad offset reason = rw (le-ltb b 128 long, le-ltb 136 b low, lt-ltb _ _ cut) at e in cc
    | inr whole ↦ let no : Got (big_endian (take (b - 128) bytes)) (b - 127) ≡ Bad offset reason =
        rw (le-ltb b 128 long, le-ltb 136 b low, le-ltb _ _ whole) at e in cc
  ]
]

-- each other byte is
bad_is : (bytes : List ℕ) (offset : ℕ) (reason : Reason) → number_at bytes ≡ Bad offset reason → number_at bytes ≡ Bad 0 BadNumber
bad_is [] offset reason e = let no : more_number ≡ Bad offset reason = e in absurd cc
bad_is (b ∷ bytes) offset reason e = elim (cases_lt 136 b) [
  | inl above ↦ rw (le-ltb b 128 (omega (arith, above)), lt-ltb 136 b above) refl
  | inr within ↦ absurd (not_bad b bytes within offset reason e)
]

states_number : (b : ℕ) (bytes : List ℕ) → b ≤ 0x88 → AreBytes (b ∷ bytes) → (r : Taken ℕ) → number_at (b ∷ bytes) ≡ r → States (b ∷ bytes) (number_token r)
states_number b bytes low fits (Got n used) e =
    let IsPrefix : Taken ℕ → Type 0 = λ r. IfGot r (λ m k. (k ≤ length (b ∷ bytes)) × SpellsNumber m (take k (b ∷ bytes))) in
    subst IsPrefix e (number_at-got (b ∷ bytes) fits)
states_number b bytes low fits More e = inl (more-cut_off (b ∷ bytes) fits e)
states_number b bytes low fits (Bad offset reason) e = absurd (not_bad b bytes low offset reason e)

states_function : (b : ℕ) (bytes : List ℕ) → 0xA0 ≤ b → b ≤ 0xB9 → (o : Option Function) → function_of b ≡ o → States (b ∷ bytes) (function_token o)
states_function b bytes low high (Some f) e = (omega arith, ap (λ x. x ∷ []) (found_at function_byte b all_functions f e))
states_function b bytes low high None e = (
  low,
  high,
  λ f same.
      let some : function_of b ≡ Some f = ap function_of same ∙ function_of-byte f in
      let no : ◌≡◌ {A = Option Function} None (Some f) = sym e ∙ some in cc,
)

states_letter : (b : ℕ) (bytes : List ℕ) → 0x88 < b → (b < 0xA0) ⊎ (0xB9 < b) → AreBytes bytes → (o : Option Letter) → letter_of b ≡ o → (r : Taken ℕ)
    → number_at bytes ≡ r
    → States (b ∷ bytes) (variable_token o r)
states_letter b bytes high out fits None e r number = (
  high,
  out,
  λ letter same.
      let some : letter_of b ≡ Some letter = ap letter_of same ∙ letter_of-byte letter in
      let no : ◌≡◌ {A = Option Letter} None (Some letter) = sym e ∙ some in cc,
)
states_letter b bytes high out fits (Some letter) e (Got n used) number =
    let IsPrefix : Taken ℕ → Type 0 = λ r. IfGot r (λ m k. (k ≤ length bytes) × SpellsNumber m (take k bytes)) in
    let prefix = subst IsPrefix number (number_at-got bytes fits) in
    let byte : b ≡ letter_byte letter = found_at letter_byte b all_letters letter e in
    let more : used + 1 ≡ suc used = omega arith in
    elim (cases_lt n 4294967296) [
      | inl small ↦ rw (lt-ltb n 4294967296 small, more) (omega (arith, prefix.0), (small, take used bytes, prefix.1, ap (λ x. x ∷ take used bytes) byte))
      | inr large ↦ rw (le-ltb n 4294967296 large) (
        letter,
        bytes,
        ap (λ x. x ∷ bytes) byte,
        inr (n, take used bytes, drop used bytes, large, prefix.1, sym (take-append-drop used bytes)),
      )
    ]
states_letter b bytes high out fits (Some letter) e More number =
    let byte : b ≡ letter_byte letter = found_at letter_byte b all_letters letter e in
    let cut = more-cut_off bytes fits number in inr (letter, bytes, ap (λ x. x ∷ bytes) byte, cut.0, cut.1)
states_letter b bytes high out fits (Some letter) e (Bad offset reason) number =
    let byte : b ≡ letter_byte letter = found_at letter_byte b all_letters letter e in
    (letter, bytes, ap (λ x. x ∷ bytes) byte, inl (bad-number_at bytes fits (bad_is bytes offset reason number)))

-- if a token is returned, a prefix of the input spells it
pub got_prefix : (input : List ℕ) (r : Taken Token) → States input r → IfGot r (λ token used. (used ≤ length input) × SpellsToken token (take used input))
got_prefix input (Got token used) states = states
got_prefix input More states = tt
got_prefix input (Bad offset reason) states = tt

pub states : (input : List ℕ) → AreBytes input → States input (token_at input)
states [] fits = inl (more-cut_off [] fits refl)
states (b ∷ bytes) fits = elim (kind b) [
  | of_number low ↦ rw (number_kind b bytes low) (states_number b bytes low fits (number_at (b ∷ bytes)) refl)
  | of_function low high ↦ rw (function_kind b bytes low high) (states_function b bytes low high (function_of b) refl)
  | of_letter high out ↦ rw (letter_kind b bytes high out) (states_letter b bytes high out fits.1 (letter_of b) refl (number_at bytes) refl)
]

-- ---- what the input says about the result

number_low : (n lead : ℕ) (bytes : List ℕ) → SpellsNumber n (lead ∷ bytes) → lead ≤ 0x88
number_low n lead bytes (inl short) = omega (arith, short.0)
number_low n lead bytes (inr long) = omega (arith, long.0, long.1)

function_read : (f : Function) (rest : List ℕ) → token_at (function_byte f ∷ rest) ≡ Got (Fun f) 1
function_read functions.Abs rest = refl
function_read functions.Neg rest = refl
function_read functions.Plus rest = refl
function_read functions.Minus rest = refl
function_read functions.Divide rest = refl
function_read functions.Times rest = refl
function_read functions.Max rest = refl
function_read functions.Min rest = refl
function_read functions.Mod rest = refl
function_read functions.Less rest = refl
function_read functions.Greater rest = refl
function_read functions.Equal rest = refl
function_read functions.Unequal rest = refl
function_read functions.And rest = refl
function_read functions.Or rest = refl
function_read functions.Xor rest = refl

letter_read : (letter : Letter) (bytes : List ℕ) → token_at (letter_byte letter ∷ bytes) ≡ variable_token (Some letter) (number_at bytes)
letter_read letters.I bytes = refl
letter_read letters.L bytes = refl
letter_read letters.P bytes = refl
letter_read letters.R bytes = refl
letter_read letters.S bytes = refl
letter_read letters.X bytes = refl

-- a spelling is read, whatever follows it
pub token_at-spelling : (token : Token) (text rest : List ℕ) → SpellsToken token text → token_at (text ++ rest) ≡ Got token (length text)
token_at-spelling (Number n) [] rest spells = absurd spells
token_at-spelling (Number n) (lead ∷ bytes) rest spells =
    number_kind lead (bytes ++ rest) (number_low n lead bytes spells) ∙ ap number_token (number_at-spelling n (lead ∷ bytes) rest spells)
token_at-spelling (Var letter index) text rest (small, number_bytes, spells, same) =
    let more : length number_bytes + 1 ≡ suc (length number_bytes) = omega arith in
    let got : variable_token (Some letter) (Got index (length number_bytes)) ≡ Got (Var letter index) (suc (length number_bytes)) =
    rw (lt-ltb index 4294967296 small, more) refl in
    rw same (letter_read letter (number_bytes ++ rest) ∙ ap (variable_token (Some letter)) (number_at-spelling index number_bytes rest spells) ∙ got)
token_at-spelling (Fun f) text rest spells = rw spells (function_read f rest)

pub cut_off-more : (input : List ℕ) → IsCutOffToken input → token_at input ≡ More
cut_off-more [] cut = refl
cut_off-more (lead ∷ bytes) (inl (n, cut)) =
    number_kind lead bytes (number_low n lead (bytes ++ cut.0) cut.2) ∙ ap number_token (number_at-cut_off (lead ∷ bytes) n cut)
cut_off-more (lead ∷ bytes) (inr (letter, rest, same, n, cut)) =
    ap token_at same ∙ letter_read letter rest ∙ ap (variable_token (Some letter)) (number_at-cut_off rest n cut)

pub left_out-function : (input : List ℕ) → BeginsWith IsLeftOutFunction input → token_at input ≡ Bad 0 UnsupportedFunction
left_out-function [] begins = absurd begins
left_out-function (b ∷ bytes) (low, high, none) = function_kind b bytes low high ∙ ap function_token (no_function b (function_of b) refl none)

pub left_out-letter : (input : List ℕ) → BeginsWith IsLeftOutLetter input → token_at input ≡ Bad 0 UnsupportedVariable
left_out-letter [] begins = absurd begins
left_out-letter (b ∷ bytes) (high, out, none) = letter_kind b bytes high out
    ∙ ap (λ o. variable_token o (number_at bytes)) (no_letter b (letter_of b) refl none)

pub bad_index : (input : List ℕ) → HasBadIndex input → token_at input ≡ Bad 1 BadNumber
bad_index input (letter, rest, same, inl begins) =
    ap token_at same ∙ letter_read letter rest ∙ ap (variable_token (Some letter)) (number_at-bad rest begins)
bad_index input (letter, rest, same, inr (n, text, more, large, spells, cut)) =
    let refused : variable_token (Some letter) (Got n (length text)) ≡ Bad 1 BadNumber = rw (le-ltb n 4294967296 large) refl in
    ap token_at same ∙ letter_read letter rest ∙ ap (λ (bytes : List ℕ). variable_token (Some letter) (number_at bytes)) cut
    ∙ ap (variable_token (Some letter)) (number_at-spelling n text more spells) ∙ refused
