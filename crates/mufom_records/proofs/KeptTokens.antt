-- The tokens that are kept while an expression is read are those of its tree.
use Rattle.std.proofs.Common.{◌≡◌, ℕ, zero, suc, ◌+◌, ◌-◌, ◌<◌, ◌≤◌, ◌⊎◌, true, false, List, [], ◌∷◌, ◌++◌, length, take, drop, Option, Some, None, Ok}
use Rattle.std.proofs.Common.{Result, Err, IfOk, refl, sym, ap, subst, ◌∙◌, inl, inr, arith, append_assoc}
use Rattle.std.proofs.lemmas.Bool.{cases_lt}
use Rattle.std.proofs.lemmas.List.{append-nil, drop_at, drop-drop, length-append, take_at}
use Rattle.mufom_numbers.specs.declared.reason.Reason.TheVariants.{UnsupportedVariable}
use Rattle.mufom_numbers.specs.declared.taken.Span.{Span}
use Rattle.mufom_numbers.specs.declared.taken.Taken.{Taken}
use Rattle.mufom_numbers.specs.declared.taken.Taken.TheVariants as taken
use Rattle.mufom_numbers.specs.Spelling.{AreBytes}
use Rattle.mufom_expr.specs.declared.token.Letter.{Letter}
use Rattle.mufom_expr.specs.declared.token.Token.{Token}
use Rattle.mufom_expr.specs.declared.token.Token.TheVariants.{Number}
use Rattle.mufom_expr.specs.Codes.{letter_byte}
use Rattle.mufom_expr.specs.Tree.{Tree, tokens_of}
use Rattle.mufom_expr.specs.Spelled.{SpellsTokens, SpellsTree}
use Rattle.mufom_expr.specs.TokenAt.{begins_token, first_token, token_at, tokens_at}
use Rattle.mufom_expr.proofs.TokenLaws.{left_out-letter, token_at-spelling}
use Rattle.mufom_records.specs.declared.size.PlainSize.{PlainSize}
use Rattle.mufom_records.specs.Fields.{expression, sized_expression, SpellsSized, first_of, span_at}
use Rattle.mufom_records.specs.Reading.{Reading, byte_at, first_byte, expression_at, sized_expression_at}
use Rattle.mufom_records.specs.Parts.{AreTokensIn, without_size}
use Rattle.mufom_records.specs.Faults.{EndsTokens}
use Rattle.mufom_records.proofs.Exact.{Found}
use Rattle.mufom_records.proofs.TokenSteps.{letter_begins}
use Rattle.mufom_records.proofs.ExpressionLaws.{expression-exact, stops_end}
use Rattle.mufom_records.proofs.SizedLaws.{sized_expression-exact, spells-push, closing_ends, first-closes}

-- ---- one token after another

-- one more token is kept
pub kept-next : (room : ℕ) (input : List ℕ) (at used after : ℕ) (token : Token) (before all : List Token) → 0 < room
    → token_at (drop at input) ≡ taken.Got token used → after ≡ at + used → all ≡ before ++ tokens_at room (drop at input)
    → all ≡ (before ++ token ∷ []) ++ tokens_at (room - 1) (drop after input)
kept-next zero input at used after token before all some got place is = absurd (omega (arith, some))
kept-next (suc room) input at used after token before all some got place is =
    let less : suc room - 1 ≡ room = omega arith in
    let rest : drop used (drop at input) ≡ drop after input = drop-drop used at input ∙ ap (λ (n : ℕ). drop n input) (sym place) in
    is
    ∙ ap (λ (t : Taken Token). before ++ first_token t (λ n. tokens_at room (drop n (drop at input)))) got
    ∙ ap (λ (l : List ℕ). before ++ token ∷ tokens_at room l) rest
    ∙ ap (λ (n : ℕ). before ++ token ∷ tokens_at n (drop after input)) (sym less)
    ∙ sym (append_assoc before (token ∷ []) (tokens_at (suc room - 1) (drop after input)))

no_letter : (b : ℕ) → begins_token b ≡ false → (l : Letter) → b ≡ letter_byte l → ⊥
no_letter b ends l same = let begins : begins_token b ≡ true = ap begins_token same ∙ letter_begins l in absurd (wrong (sym begins ∙ ends)) where
  wrong : true ≡ false → ⊥
  wrong e = cc

no_token : (b : ℕ) (bytes : List ℕ) → begins_token b ≡ false → token_at (b ∷ bytes) ≡ taken.Bad 0 UnsupportedVariable
no_token b bytes ends = left_out-letter (b ∷ bytes) (high, outside, no_letter b ends) where
  high : 0x88 < b
  high = grind (arith, ends)

  outside : (b < 0xA0) ⊎ (0xB9 < b)
  outside = elim (cases_lt b 0xA0) [ inl low ↦ inl low | inr not_low ↦ inr (grind (arith, ends, not_low)) ]

none_at : (k b : ℕ) (bytes : List ℕ) → begins_token b ≡ false → tokens_at k (b ∷ bytes) ≡ []
none_at zero b bytes ends = refl
none_at (suc k) b bytes ends = ap (λ (t : Taken Token). first_token t (λ used. tokens_at k (drop used (b ∷ bytes)))) (no_token b bytes ends)

ends_here : (k : ℕ) (bytes : List ℕ) → EndsTokens bytes → tokens_at k bytes ≡ []
ends_here k [] ends = absurd ends
ends_here k (b ∷ bytes) ends = none_at k b bytes ends

-- no token is left before a byte that cannot begin one
pub kept-last : (room : ℕ) (input : List ℕ) (at b p : ℕ) (before all : List Token) → byte_at input at ≡ Ok (b, p) → begins_token b ≡ false
    → all ≡ before ++ tokens_at room (drop at input) → all ≡ before
kept-last room input at b p before all first ends is = is ∙ ap (λ (l : List Token). before ++ l) (by_bytes (drop at input) first) ∙ append-nil before where
  by_bytes : (bytes : List ℕ) → first_byte bytes at ≡ Ok (b, p) → tokens_at room bytes ≡ []
  by_bytes [] e = cc
  by_bytes (c ∷ bytes) e =
      let same : (c, at + 1) ≡ (b, p) = cc in
      none_at room c bytes (ap (λ (x : ℕ × ℕ). begins_token x.0) same ∙ ends)

-- ---- all tokens of an expression

tokens_at-spelled : (k : ℕ) (tokens : List Token) (text rest : List ℕ) → SpellsTokens tokens text → length tokens ≤ k
    → tokens_at k (text ++ rest) ≡ tokens ++ tokens_at (k - length tokens) rest
tokens_at-spelled k [] text rest spells few =
    let all : k ≡ k - 0 = omega arith in
    ap (λ (l : List ℕ). tokens_at k (l ++ rest)) spells ∙ ap (λ (n : ℕ). tokens_at n rest) all
tokens_at-spelled zero (token ∷ tokens) text rest spells few = absurd (omega (arith, few))
tokens_at-spelled (suc k) (token ∷ tokens) text rest (first, back, spelled, spells, parts) few =
    let whole : text ++ rest ≡ first ++ (back ++ rest) = ap (λ (l : List ℕ). l ++ rest) parts ∙ append_assoc first back rest in
    let less : k - length tokens ≡ suc k - suc (length tokens) = omega arith in
    ap (tokens_at (suc k)) whole
    ∙ ap (λ (t : Taken Token). first_token t (λ used. tokens_at k (drop used (first ++ (back ++ rest)))))
    (token_at-spelling token first (back ++ rest) spelled)
    ∙ ap (λ (l : List ℕ). token ∷ tokens_at k l) (drop_at first (back ++ rest) (length first) refl)
    ∙ ap (λ (l : List Token). token ∷ l) (tokens_at-spelled k tokens back rest spells (omega (arith, few)))
    ∙ ap (λ (n : ℕ). token ∷ (tokens ++ tokens_at n rest)) less

tokens_at-whole : (tokens : List Token) (text rest : List ℕ) → SpellsTokens tokens text → length tokens ≤ 255 → EndsTokens rest
    → tokens_at 255 (text ++ rest) ≡ tokens
tokens_at-whole tokens text rest spells few ends =
    tokens_at-spelled 255 tokens text rest spells few
    ∙ ap (λ (l : List Token). tokens ++ l) (ends_here (255 - length tokens) rest ends)
    ∙ append-nil tokens

sliced_tokens : (input : List ℕ) (at : ℕ) (span : Span) (text rest : List ℕ) (tree : Tree) (all : List Token) → SpellsTree tree text
    → span ≡ span_at at (length text) → drop at input ≡ text ++ rest → all ≡ tokens_of tree → AreTokensIn input span all
sliced_tokens input at span text rest tree all spells same split are =
    let count : span.len ≡ length text = ap (λ (s : Span). s.len) same in
    let start : span.start ≡ at = ap (λ (s : Span). s.start) same in
    let there : span.start + span.len - span.start ≡ length text = omega (arith, count) in
    let slice : take (span.start + span.len - span.start) (drop span.start input) ≡ text
    = ap (λ (k : ℕ). take k (drop span.start input)) there ∙ ap (λ (k : ℕ). take (length text) (drop k input)) start
    ∙ ap (take (length text)) split ∙ take_at text rest (length text) refl in
    (tree, subst (λ (l : List ℕ). SpellsTree tree l) (sym slice) spells, are)

plain_tokens : (input : List ℕ) (at : ℕ) (x : Span) (after : ℕ) → Found expression input at x after → (all : List Token)
    → tokens_at 255 (drop at input) ≡ all → AreTokensIn input x all
plain_tokens input at x after is all are =
    let tree = is.spells.0.0 in
    let spells = is.spells.0.1 in
    let whole = tokens_at-whole (tokens_of tree) is.prefix (drop after input) spells.1 spells.0 (stops_end (drop after input) is.spells.2) in
    sliced_tokens input at x is.prefix (drop after input) tree all spells is.spells.1 is.split
    (sym are ∙ ap (tokens_at 255) is.split ∙ whole)

-- the tokens of an expression that was read
pub expression-tokens : (input : List ℕ) (at : ℕ) → AreBytes input → (x : Span) (after : ℕ) → expression_at input at ≡ Ok (x, after)
    → (all : List Token) → tokens_at 255 (drop at input) ≡ all → AreTokensIn input x all
expression-tokens input at fits x after gives all are = plain_tokens input at x after (expression-exact.got input at fits x after gives) all are

-- ---- the tokens before a size

abbrev SizedValue : Type 0
SizedValue = Span × Option PlainSize

without_last : (tokens all : List Token) (token : Token) → all ≡ tokens ++ token ∷ [] → take (length all - 1) all ≡ tokens
without_last tokens all token same =
    let count : length all - 1 ≡ length tokens = omega (arith, ap length same, length-append tokens (token ∷ [])) in
    ap (λ (n : ℕ). take n all) count ∙ ap (take (length tokens)) same ∙ take_at tokens (token ∷ []) (length tokens) refl

sized_tokens : (input : List ℕ) (at : ℕ) (x : SizedValue) (after : ℕ) → Found sized_expression input at x after → (all kept : List Token)
    → tokens_at 255 (drop at input) ≡ all → kept ≡ without_size x.1 all → AreTokensIn input x.0 kept
sized_tokens input at (span, None) after is all kept are same =
    plain_tokens input at span after (record { prefix = is.prefix; spells = is.spells; split = is.split; count = is.count }) kept (are ∙ sym same)
sized_tokens input at (span, Some last) after is all kept are same = of_sized is.spells where
  of_sized : SpellsSized span last at is.prefix (first_of (drop after input) None) → AreTokensIn input span kept
  of_sized (tree, text, number_bytes, spells, few, spelled, fits, uses, span_is, closed, parts) =
      let rest = drop after input in
      let ends : EndsTokens rest = closing_ends rest (first-closes rest closed) in
      let tokens = tokens_of tree ++ Number last.size ∷ [] in
      let pushed : SpellsTokens tokens (text ++ number_bytes) = spells-push (tokens_of tree) (Number last.size) text number_bytes spells.1 spelled in
      let count : length tokens ≤ 255 = omega (arith, few, length-append (tokens_of tree) (Number last.size ∷ [])) in
      let split : drop at input ≡ (text ++ number_bytes) ++ rest = is.split ∙ ap (λ (l : List ℕ). l ++ rest) parts in
      let all_are : all ≡ tokens = sym are ∙ ap (tokens_at 255) split ∙ tokens_at-whole tokens (text ++ number_bytes) rest pushed count ends in
      sliced_tokens input at span text (number_bytes ++ rest) tree kept spells span_is (split ∙ append_assoc text number_bytes rest)
      (same ∙ without_last (tokens_of tree) all (Number last.size) all_are)

-- the tokens of an expression that was read, without the size after it
pub sized-tokens-of : (input : List ℕ) (at : ℕ) → AreBytes input → (answer : Reading SizedValue) → answer ≡ sized_expression_at input at
    → (all kept : List Token) → tokens_at 255 (drop at input) ≡ all → IfOk answer (λ r. kept ≡ without_size r.0.1 all)
    → IfOk answer (λ r. AreTokensIn input r.0.0 kept)
sized-tokens-of input at fits (Ok (x, after)) is all kept are same =
    sized_tokens input at x after (sized_expression-exact.got input at fits x after (sym is)) all kept are same
sized-tokens-of input at fits (Err stop) is all kept are same = tt

-- what holds in any case holds of a result
pub in_any_case : {X E : Type 0} (answer : Result X E) (Is : Type 0) → Is → IfOk answer (λ _. Is)
in_any_case (Ok x) Is is = is
in_any_case (Err e) Is is = tt
