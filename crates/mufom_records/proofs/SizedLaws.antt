-- Expressions that may end in a size are read exactly.
use Rattle.std.proofs.Common.{◌≡◌, ℕ, zero, suc, ◌+◌, ◌-◌, ◌<◌, ◌≤◌, ◌==◌, ◌&&◌, ◌||◌, Bool, true, false, List, [], ◌∷◌, ◌++◌, length, take, drop, Option}
use Rattle.std.proofs.Common.{Some, None, is_some, Ok, Err, IfOk, refl, sym, ap, subst, ◌∙◌, arith, append_assoc, cond, nat_lt}
use Rattle.std.specs.List.{last_or, list_any}
use Rattle.std.proofs.lemmas.Bool.{eqb-true}
use Rattle.std.proofs.lemmas.List.{length-append, length-drop, append-nil, take_at}
use Rattle.std.proofs.lemmas.List.Folds.{list_any-append}
use Rattle.mufom_numbers.specs.declared.reason.Reason.{Reason}
use Rattle.mufom_numbers.specs.declared.reason.Reason.TheVariants.{BadNumber, SurplusTerms, TooLong, Underflow, UnsupportedFunction, UnsupportedVariable}
use Rattle.mufom_numbers.specs.declared.taken.Span.{Span}
use Rattle.mufom_numbers.specs.declared.taken.Taken.{Taken}
use Rattle.mufom_numbers.specs.declared.taken.Taken.TheVariants as taken
use Rattle.mufom_numbers.specs.Spelling.{AreBytes, SpellsNumber}
use Rattle.mufom_expr.specs.declared.token.Token.{Token}
use Rattle.mufom_expr.specs.declared.token.Token.TheVariants.{Number, Var, Fun}
use Rattle.mufom_expr.specs.Codes.{operands_of}
use Rattle.mufom_expr.specs.Tree.{Tree, tokens_of}
use Rattle.mufom_expr.specs.Terms.{leaves, the_term}
use Rattle.mufom_expr.specs.Spelled.{SpellsToken, SpellsTokens, SpellsTree}
use Rattle.mufom_expr.specs.TokenAt.{token_at}
use Rattle.mufom_expr.proofs.Leaves.{leaves-push, leaves-one}
use Rattle.mufom_expr.proofs.TermsLemmas.{tokens_of-the_term}
use Rattle.mufom_expr.proofs.TokensBack.{leaves-tokens_of}
use Rattle.mufom_expr.proofs.TokenLaws.{States, states, token_at-spelling}
use Rattle.mufom_records.specs.declared.size.PlainSize.{PlainSize}
use Rattle.mufom_records.specs.declared.stop.Stop.{Stop}
use Rattle.mufom_records.specs.declared.stop.Stop.TheVariants.{More, Bad}
use Rattle.mufom_records.specs.Fields.{sized_expression, SpellsField, SpellsSized, Closes, closes, is_surplus, is_counter, is_size}
use Rattle.mufom_records.specs.Fields.{size_of_token, last_size, first_of, span_at, expression}
use Rattle.mufom_records.specs.declared.size.SizeSoFar.{SizeSoFar}
use Rattle.mufom_records.specs.Reading.{Reading, tokens_from, no_tokens, with_token, begins_first, sizes_from, sized_or, sized_by}
use Rattle.mufom_records.specs.Reading.{sized_expression_at, terms_with, byte_at, first_byte}
use Rattle.mufom_records.specs.Parts.{IsExpressionIn}
use Rattle.mufom_records.specs.Faults.{EndsTokens, TokenFault, SizedFault, ends_in_size, IsCutOffExpression}
use Rattle.mufom_records.proofs.Exact.{ok, stopped, same_stop, ok_not_err, AreBytes-drop, drop-following, Found, found-as, IsExact}
use Rattle.mufom_records.proofs.TokenSteps.{Begins, token_first, leaves-enough}
use Rattle.mufom_records.proofs.ExpressionLaws.{tokens_stopped, faulty_tokens, cut_tokens, whole_tokens, expression_got}
use Rattle.mufom_records.proofs.ExpressionLaws.{token_fault_grows}

-- ---- what tokens say of a size

last_append : (o : Option Token) (tokens : List Token) (token : Token) → last_or o (tokens ++ token ∷ []) ≡ Some token
last_append o [] token = refl
last_append o (t ∷ tokens) token = last_append (Some t) tokens token

-- what these tokens say
record Says (tokens : List Token) (s : SizeSoFar) : Type 0 where
  terms : leaves tokens ≡ Some s.terms
  size : s.size ≡ last_size tokens
  uses_pc : s.uses_pc ≡ list_any is_counter tokens

says_next : (tokens : List Token) (s : SizeSoFar) (token : Token) (at : ℕ) → Says tokens s → operands_of token ≤ s.terms
    → Says (tokens ++ token ∷ []) (with_token s token at)
says_next tokens s token at says found = record {
  terms = leaves-push tokens token s.terms says.terms found;
  size = ap size_of_token (sym (last_append None tokens token));
  uses_pc = ap (λ (b : Bool). b || is_counter token) says.uses_pc ∙ or_last (list_any is_counter tokens) (is_counter token)
      ∙ sym (list_any-append is_counter tokens (token ∷ []));
} where
  or_last : (a b : Bool) → (a || b) ≡ (a || (b || false))
  or_last true b = refl
  or_last false true = refl
  or_last false false = refl

begins_here : (bytes : List ℕ) → Begins bytes → begins_first bytes ≡ true
begins_here bytes (b, rest, same, h) = ap begins_first same ∙ h

sizes-next : (room : ℕ) (s : SizeSoFar) (input : List ℕ) (at : ℕ) (token : Token) (text rest : List ℕ) → SpellsToken token text → drop at input ≡ text ++ rest
    → sizes_from (suc room) s input at ≡ sizes_from room (with_token s token at) input (at + length text)
sizes-next room s input at token text rest spells split =
    let begins : begins_first (drop at input) ≡ true = begins_here (drop at input) (subst (λ (l : List ℕ). Begins l) (sym split)
    (token_first token text rest spells)) in
    let got : token_at (drop at input) ≡ taken.Got token (length text) = ap token_at split ∙ token_at-spelling token text rest spells in
    rw (begins, got) refl

ends_here : (bytes : List ℕ) → EndsTokens bytes → begins_first bytes ≡ false
ends_here [] ends = absurd ends
ends_here (b ∷ bytes) ends = ends

sizes-end : (room : ℕ) (s : SizeSoFar) (input : List ℕ) (at : ℕ) → EndsTokens (drop at input) → sizes_from room s input at ≡ s
sizes-end zero s input at ends = refl
sizes-end (suc room) s input at ends = rw (ends_here (drop at input) ends) refl

-- what is known after these tokens
record Walked (before tokens : List Token) (room : ℕ) (s : SizeSoFar) (input : List ℕ) (at : ℕ) (prefix : List ℕ) : Type 0 where
  t : SizeSoFar
  says : Says (before ++ tokens) t
  goes : sizes_from room s input at ≡ sizes_from (room - length tokens) t input (at + length prefix)

sizes-walk : (tokens before more : List Token) (room n : ℕ) (s : SizeSoFar) (input : List ℕ) (at : ℕ) (prefix rest : List ℕ) → Says before s
    → SpellsTokens tokens prefix → leaves (before ++ (tokens ++ more)) ≡ Some n → length tokens ≤ room → drop at input ≡ prefix ++ rest
    → Walked before tokens room s input at prefix
sizes-walk [] before more room n s input at prefix rest says spells whole few split =
    let one : room ≡ room - 0 = omega arith in
    let two : at ≡ at + length prefix = omega (arith, ap length spells) in
    record {
      t = s;
      says = subst (λ (l : List Token). Says l s) (sym (append-nil before)) says;
      goes = ap (λ (k : ℕ). sizes_from k s input at) one ∙ ap (λ (k : ℕ). sizes_from (room - 0) s input k) two;
    }
sizes-walk (token ∷ tokens) before more zero n s input at prefix rest says spells whole few split = absurd (omega (arith, few))
sizes-walk (token ∷ tokens) before more (suc room) n s input at prefix rest says (text, back, spelled, spells, parts) whole few split =
    let first_split : drop at input ≡ text ++ (back ++ rest) = split ∙ ap (λ (l : List ℕ). l ++ rest) parts ∙ append_assoc text back rest in
    let enough : operands_of token ≤ s.terms = leaves-enough before (tokens ++ more) token s.terms n says.terms whole in
    let next = with_token s token at in
    let later = sizes-walk tokens (before ++ token ∷ []) more room n next input (at + length text) back rest (says_next before s token at says enough) spells
    (ap leaves (append_assoc before (token ∷ []) (tokens ++ more)) ∙ whole) (omega (arith, few)) (drop-following input at text (back ++ rest) first_split) in
    let room_is : room - length tokens ≡ suc room - suc (length tokens) = omega arith in
    let place_is : at + length text + length back ≡ at + length prefix = omega (arith, ap length parts, length-append text back) in
    record {
      t = later.t;
      says = subst (λ (l : List Token). Says l later.t) (append_assoc before (token ∷ []) tokens) later.says;
      goes = sizes-next room s input at token text (back ++ rest) spelled first_split ∙ later.goes
          ∙ ap (λ (k : ℕ). sizes_from k later.t input (at + length text + length back)) room_is
          ∙ ap (λ (k : ℕ). sizes_from (suc room - suc (length tokens)) later.t input k) place_is;
    }

-- what all tokens of an expression say, the last of which is apart
record SaysAll (tokens : List Token) (token : Token) (text : List ℕ) (input : List ℕ) (at : ℕ) : Type 0 where
  t : SizeSoFar
  says : Says tokens t
  whole : Says (tokens ++ token ∷ []) (with_token t token (at + length text))
  all : sizes_from 255 (no_tokens at) input at ≡ with_token t token (at + length text)

sizes-all : (tokens : List Token) (token : Token) (n : ℕ) (input : List ℕ) (at : ℕ) (text last rest : List ℕ) → SpellsTokens tokens text
    → SpellsToken token last → leaves (tokens ++ token ∷ []) ≡ Some n → length tokens < 255 → EndsTokens rest → drop at input ≡ text ++ (last ++ rest)
    → SaysAll tokens token text input at
sizes-all tokens token n input at text last rest spells spelled leave few ends split =
    let start : Says [] (no_tokens at) = record { terms = refl; size = refl; uses_pc = refl } in
    let one = sizes-walk tokens [] (token ∷ []) 255 n (no_tokens at) input at text (last ++ rest) start spells leave (omega (arith, few)) split in
    let t = one.t in
    let enough : operands_of token ≤ t.terms = leaves-enough tokens [] token t.terms n one.says.terms leave in
    let after = drop-following input at text (last ++ rest) split in
    let later = drop-following input (at + length text) last rest after in
    let room_is : 255 - length tokens ≡ suc (254 - length tokens) = omega (arith, few) in
    record {
      t = t;
      says = one.says;
      whole = says_next tokens t token (at + length text) one.says enough;
      all = one.goes ∙ ap (λ (k : ℕ). sizes_from k t input (at + length text)) room_is
          ∙ sizes-next (254 - length tokens) t input (at + length text) token last rest spelled after
          ∙ sizes-end (254 - length tokens) (with_token t token (at + length text)) input (at + length text + length last)
          (subst (λ (l : List ℕ). EndsTokens l) (sym later) ends);
    }

-- the last of some tokens
record HasLast (tokens : List Token) (prefix : List ℕ) : Type 0 where
  before : List Token
  token : Token
  text : List ℕ
  last : List ℕ
  spells : SpellsTokens before text
  spelled : SpellsToken token last
  tokens_are : tokens ≡ before ++ token ∷ []
  prefix_is : prefix ≡ text ++ last

last_token : (tokens : List Token) (prefix : List ℕ) → SpellsTokens tokens prefix → 0 < length tokens → HasLast tokens prefix
last_token [] prefix spells some = absurd (omega (arith, some))
last_token (token ∷ []) prefix (text, back, spelled, none, parts) some = record {
  before = [];
  token = token;
  text = [];
  last = text;
  spells = refl;
  spelled = spelled;
  tokens_are = refl;
  prefix_is = parts ∙ ap (λ (l : List ℕ). text ++ l) none ∙ append-nil text;
}
last_token (token ∷ (next ∷ tokens)) prefix (text, back, spelled, spells, parts) some =
    let later = last_token (next ∷ tokens) back spells (omega arith) in
    record {
      before = token ∷ later.before;
      token = later.token;
      text = text ++ later.text;
      last = later.last;
      spells = (text, later.text, spelled, later.spells, refl);
      spelled = later.spelled;
      tokens_are = ap (λ (l : List Token). token ∷ l) later.tokens_are;
      prefix_is = parts ∙ ap (λ (l : List ℕ). text ++ l) later.prefix_is ∙ sym (append_assoc text later.text later.last);
    }

-- what all tokens of an expression with a surplus of terms say
record Surplus (input : List ℕ) (at end : ℕ) : Type 0 where
  tokens : List Token
  terms : ℕ
  prefix : List ℕ
  rest : List ℕ
  spells : SpellsTokens tokens prefix
  stand : leaves tokens ≡ Some terms
  few : length tokens ≤ 255
  many : 1 < terms
  ends : EndsTokens rest
  place : end ≡ at + length prefix
  split : drop at input ≡ prefix ++ rest
  last : HasLast tokens prefix
  said : SaysAll last.before last.token last.text input at

some_terms : (tokens : List Token) (terms : ℕ) → leaves tokens ≡ Some terms → 1 < terms → 0 < length tokens
some_terms [] terms stand many = let none : 0 ≡ terms = some_is 0 terms stand in absurd (omega (arith, none, many)) where
  some_is : (a b : ℕ) → ◌≡◌ {A = Option ℕ} (Some a) (Some b) → a ≡ b
  some_is a b e = cc
some_terms (t ∷ tokens) terms stand many = omega arith

surplus_of : (input : List ℕ) (at end : ℕ) (tokens : List Token) (terms : ℕ) (prefix rest : List ℕ) → SpellsTokens tokens prefix → leaves tokens ≡ Some terms
    → length tokens ≤ 255 → 1 < terms → EndsTokens rest → end ≡ at + length prefix → drop at input ≡ prefix ++ rest → Surplus input at end
surplus_of input at end tokens terms prefix rest spells stand few many ends place split =
    let l = last_token tokens prefix spells (some_terms tokens terms stand many) in
    let count : length tokens ≡ length l.before + 1 = ap length l.tokens_are ∙ length-append l.before (l.token ∷ []) in
    record {
      tokens = tokens;
      terms = terms;
      prefix = prefix;
      rest = rest;
      spells = spells;
      stand = stand;
      few = few;
      many = many;
      ends = ends;
      place = place;
      split = split;
      last = l;
      said = sizes-all l.before l.token terms input at l.text l.last rest l.spells l.spelled (ap leaves (sym l.tokens_are) ∙ stand)
          (omega (arith, count, few)) ends
          (split ∙ ap (λ (x : List ℕ). x ++ rest) l.prefix_is ∙ append_assoc l.text l.last rest);
    }

-- what is read where the tokens have a surplus
surplus_read : (input : List ℕ) (at end : ℕ) → AreBytes input → tokens_from 255 0 input at ≡ Err (Bad end SurplusTerms) → Surplus input at end
surplus_read input at end fits is =
    let all = tokens_stopped 255 0 [] input at fits refl refl (Bad end SurplusTerms) is in
    surplus_of input at end all.tokens all.terms all.prefix all.rest all.spells all.stand all.few all.is.1.1 all.is.1.2
    (let none : all.is.0 ≡ 0 = all.is.1.0 in omega (arith, all.is.2, none)) all.split

-- ---- from the result to the bytes

is_surplus_true : (reason : Reason) → is_surplus reason ≡ true → reason ≡ SurplusTerms
is_surplus_true SurplusTerms h = refl
is_surplus_true _ h = cc

and_parts : (a b : Bool) → (a && b) ≡ true → (a ≡ true) × (b ≡ true)
and_parts true b h = (refl, h)
and_parts false b h = cc

closes-first : (bytes : List ℕ) → closes bytes ≡ true → Closes (first_of bytes None)
closes-first [] h = cc
closes-first (b ∷ bytes) h = h

pub first-closes : (bytes : List ℕ) → Closes (first_of bytes None) → closes bytes ≡ true
first-closes [] h = absurd h
first-closes (b ∷ bytes) h = h

-- a last token that is a size
size_token : (token : Token) (n : ℕ) → size_of_token (Some token) ≡ Some n → (token ≡ Number n) × (is_size n ≡ true)
size_token (Number m) n h = by_test (is_size m) refl h where
  some_is : (a b : ℕ) → ◌≡◌ {A = Option ℕ} (Some a) (Some b) → a ≡ b
  some_is a b e = cc

  by_test : (test : Bool) → is_size m ≡ test → cond test (Some m) None ≡ Some n → (Number m ≡ Number n) × (is_size n ≡ true)
  by_test true is h = let same = some_is m n h in (ap Number same, subst (λ (k : ℕ). is_size k ≡ true) same is)
  by_test false is h = let wrong : ◌≡◌ {A = Option ℕ} None (Some n) = h in absurd cc
size_token (Var l i) n h = let wrong : ◌≡◌ {A = Option ℕ} None (Some n) = h in absurd cc
size_token (Fun f) n h = let wrong : ◌≡◌ {A = Option ℕ} None (Some n) = h in absurd cc

or_none : (a : Bool) → (a || false) ≡ a
or_none true = refl
or_none false = refl

spelled_number : (token : Token) (n : ℕ) (bytes : List ℕ) → token ≡ Number n → SpellsToken token bytes → SpellsNumber n bytes
spelled_number token n bytes same spells = subst (λ (t : Token). SpellsToken t bytes) same spells

-- the expression and the size that were read
sized_found : (input : List ℕ) (at end n : ℕ) (a : Surplus input at end) → (with_token a.said.t a.last.token (at + length a.last.text)).terms ≡ 2
    → size_of_token (Some a.last.token) ≡ Some n → closes (drop end input) ≡ true
    → Found sized_expression input at (
      span_at at (at + length a.last.text - at),
      Some (record {
        size = n;
        uses_pc = (with_token a.said.t a.last.token (at + length a.last.text)).uses_pc;
      }),
    ) end
sized_found input at end n a two is_n closed =
    let l = a.last in
    let t = a.said.t in
    let number_is = size_token l.token n is_n in
    let none : operands_of l.token ≡ 0 = ap operands_of number_is.0 in
    let one : t.terms ≡ 1 = omega (arith, two, none) in
    let leave : leaves l.before ≡ Some 1 = a.said.says.terms ∙ ap (λ (k : ℕ). Some k) one in
    let same = tokens_of-the_term l.before (leaves-one l.before leave) in
    let count : length a.tokens ≡ length l.before + 1 = ap length l.tokens_are ∙ length-append l.before (l.token ∷ []) in
    let fewer : length (tokens_of (the_term l.before)) < 255 = subst (λ (k : List Token). length k < 255) same (omega (arith, count, a.few)) in
    let len : at + length l.text - at ≡ length l.text = omega arith in
    let following : drop end input ≡ a.rest = ap (λ (k : ℕ). drop k input) a.place ∙ drop-following input at a.prefix a.rest a.split in
    record {
      prefix = a.prefix;
      spells = (
        the_term l.before,
        l.text,
        l.last,
        (omega (arith, fewer), subst (λ (k : List Token). SpellsTokens k l.text) same l.spells),
        fewer,
        spelled_number l.token n l.last number_is.0 l.spelled,
        number_is.1,
        ap (λ (k : Token). t.uses_pc || is_counter k) number_is.0 ∙ or_none t.uses_pc ∙ a.said.says.uses_pc ∙ ap (list_any is_counter) same,
        ap (λ (k : ℕ). span_at at k) len,
        closes-first (drop end input) closed,
        l.prefix_is,
      );
      split = a.split ∙ ap (λ (k : List ℕ). a.prefix ++ k) (sym following);
      count = a.place;
    }

abbrev SizedValue : Type 0
SizedValue = Span × Option PlainSize

sized_got : (input : List ℕ) (at end n : ℕ) (a : Surplus input at end) (x : SizedValue) (after : ℕ) → closes (drop end input) ≡ true
    → (with_token a.said.t a.last.token (at + length a.last.text)).terms ≡ 2 → (o : Option ℕ) → size_of_token (Some a.last.token) ≡ o
    → sized_or o at end (with_token a.said.t a.last.token (at + length a.last.text)) (Err (Bad end SurplusTerms)) ≡ Ok (x, after)
    → Found sized_expression input at x after
sized_got input at end n a x after closed two None is gives = absurd (ok_not_err x after (Bad end SurplusTerms) (sym gives))
sized_got input at end n a x after closed two (Some k) is gives =
    found-as sized_expression input at _ end x after (sized_found input at end k a two is closed) gives

surplus_got : (input : List ℕ) (at end : ℕ) → AreBytes input → (x : SizedValue) (after : ℕ) → tokens_from 255 0 input at ≡ Err (Bad end SurplusTerms)
    → (test : Bool) → ((sizes_from 255 (no_tokens at) input at).terms == 2 && closes (drop end input)) ≡ test
    → cond test (sized_or (sizes_from 255 (no_tokens at) input at).size at end (sizes_from 255 (no_tokens at) input at) (Err (Bad end SurplusTerms)))
    (Err (Bad end SurplusTerms)) ≡ Ok (x, after)
    → Found sized_expression input at x after
surplus_got input at end fits x after is false test gives = absurd (ok_not_err x after (Bad end SurplusTerms) (sym gives))
surplus_got input at end fits x after is true test gives =
    let a = surplus_read input at end fits is in
    let all = a.said.all in
    let s = with_token a.said.t a.last.token (at + length a.last.text) in
    let tests : (s.terms == 2 && closes (drop end input)) ≡ true = ap (λ (u : SizeSoFar). u.terms == 2 && closes (drop end input)) (sym all) ∙ test in
    let both = and_parts (s.terms == 2) (closes (drop end input)) tests in
    sized_got input at end 0 a x after both.1 (eqb-true s.terms 2 both.0) (size_of_token (Some a.last.token)) refl
    (subst (λ (u : SizeSoFar). sized_or u.size at end u (Err (Bad end SurplusTerms)) ≡ Ok (x, after)) all gives)

expression_here : (input : List ℕ) (at : ℕ) (x : Span) (after : ℕ) → Found expression input at x after → Found sized_expression input at (x, None) after
expression_here input at x after is = record { prefix = is.prefix; spells = is.spells; split = is.split; count = is.count }

sized-got : (input : List ℕ) (at : ℕ) → AreBytes input → (x : SizedValue) (after : ℕ) (answer : Reading (Unit {0})) → tokens_from 255 0 input at ≡ answer
    → sized_by input at (sizes_from 255 (no_tokens at) input at) answer ≡ Ok (x, after) → Found sized_expression input at x after
sized-got input at fits x after (Ok (unit, end)) is gives =
    let plain = expression_got input at fits (span_at at (end - at)) end (Ok (unit, end)) is refl in
    found-as sized_expression input at (span_at at (end - at), None) end x after (expression_here input at (span_at at (end - at)) end plain) gives
sized-got input at fits x after (Err More) is gives = absurd (ok_not_err x after More (sym gives))
sized-got input at fits x after (Err (Bad end reason)) is gives = by_reason (is_surplus reason) refl gives where
  by_reason : (test : Bool) → is_surplus reason ≡ test
      → cond (test && ((sizes_from 255 (no_tokens at) input at).terms == 2 && closes (drop end input)))
      (sized_or (sizes_from 255 (no_tokens at) input at).size at end (sizes_from 255 (no_tokens at) input at) (Err (Bad end reason)))
      (Err (Bad end reason)) ≡ Ok (x, after)
      → Found sized_expression input at x after
  by_reason false same gives = absurd (ok_not_err x after (Bad end reason) (sym gives))
  by_reason true same gives =
      let surplus = is_surplus_true reason same in
      surplus_got input at end fits x after (is ∙ ap (λ (r : Reason). stopped (Bad end r)) surplus)
      ((sizes_from 255 (no_tokens at) input at).terms == 2 && closes (drop end input)) refl
      (subst (λ (r : Reason). cond ((sizes_from 255 (no_tokens at) input at).terms == 2 && closes (drop end input))
      (sized_or (sizes_from 255 (no_tokens at) input at).size at end (sizes_from 255 (no_tokens at) input at) (Err (Bad end r)))
      (Err (Bad end r)) ≡ Ok (x, after)) surplus gives)

-- ---- from the bytes to the result

leaves_two : (tree : Tree) (n : ℕ) → leaves (tokens_of tree ++ Number n ∷ []) ≡ Some 2
leaves_two tree n = leaves-push (tokens_of tree) (Number n) 1 (leaves-tokens_of tree) (omega arith)

pub spells-push : (tokens : List Token) (token : Token) (text last : List ℕ) → SpellsTokens tokens text → SpellsToken token last
    → SpellsTokens (tokens ++ token ∷ []) (text ++ last)
spells-push [] token text last none spelled = (last, [], spelled, refl, ap (λ (l : List ℕ). l ++ last) none ∙ sym (append-nil last))
spells-push (t ∷ tokens) token text last (first, back, one, spells, parts) spelled = (
  first,
  back ++ last,
  one,
  spells-push tokens token back last spells spelled,
  ap (λ (l : List ℕ). l ++ last) parts ∙ append_assoc first back last,
)

pub closing_ends : (bytes : List ℕ) → closes bytes ≡ true → EndsTokens bytes
closing_ends [] h = cc
closing_ends (b ∷ bytes) h = grind (arith, h)

abbrev sized_value : ℕ → ℕ → ℕ → Bool → SizedValue
sized_value at len size uses = (span_at at len, Some (record { size = size; uses_pc = uses }))

sized_read : (input : List ℕ) (at end n : ℕ) (s t : SizeSoFar) → s ≡ t → t.terms ≡ 2 → t.size ≡ Some n → closes (drop end input) ≡ true
    → sized_by input at s (Err (Bad end SurplusTerms)) ≡ Ok ((span_at at (t.last - at), Some (record { size = n; uses_pc = t.uses_pc })), end)
sized_read input at end n s t same two size closed = rw (same, two, closed, size) refl

sized_only : (input : List ℕ) (at : ℕ) (span : Span) (last : PlainSize) (prefix rest : List ℕ) → SpellsSized span last at prefix (first_of rest None)
    → drop at input ≡ prefix ++ rest → sized_expression_at input at ≡ Ok ((span, Some last), at + length prefix)
sized_only input at span last prefix rest (tree, text, number_bytes, spells, few, spelled, fits, uses, span_is, closed, parts) split =
    let tokens = tokens_of tree in
    let all = tokens ++ Number last.size ∷ [] in
    let end = at + length prefix in
    let closed_there = first-closes rest closed in
    let ends = closing_ends rest closed_there in
    let count : length all ≡ length tokens + 1 = length-append tokens (Number last.size ∷ []) in
    let split_there : drop at input ≡ text ++ (number_bytes ++ rest) = split ∙ ap (λ (l : List ℕ). l ++ rest) parts ∙ append_assoc text number_bytes rest in
    let said = sizes-all tokens (Number last.size) 2 input at text number_bytes rest spells.1 spelled (leaves_two tree last.size) few ends split_there in
    let place : end ≡ at + length prefix + 0 = omega arith in
    let bad = faulty_tokens input at end SurplusTerms (
      0,
      (
        all,
        2,
        prefix,
        rest,
        subst (λ (l : List ℕ). SpellsTokens all l) (sym parts) (spells-push tokens (Number last.size) text number_bytes spells.1 spelled),
        leaves_two tree last.size,
        omega (arith, count, few),
        ((refl, omega arith, ends), place),
        split,
      ),
    ) in
    let following : drop end input ≡ rest = drop-following input at prefix rest split in
    let s = with_token said.t (Number last.size) (at + length text) in
    let terms : s.terms ≡ 2 = some_is s.terms 2 (sym said.whole.terms ∙ leaves_two tree last.size) in
    let size : s.size ≡ Some last.size = rw fits refl in
    let read = sized_read input at end last.size (sizes_from 255 (no_tokens at) input at) s said.all terms size
    (ap closes following ∙ closed_there) in
    let len : s.last - at ≡ length text = omega arith in
    let uses_is : s.uses_pc ≡ last.uses_pc = or_none said.t.uses_pc ∙ said.says.uses_pc ∙ sym uses in
    rw bad (read ∙ same_sized (s.last - at) (length text) s.uses_pc len span_is uses_is)
  where
    some_is : (a b : ℕ) → ◌≡◌ {A = Option ℕ} (Some a) (Some b) → a ≡ b
    some_is a b e = cc

    same_sized : (a b : ℕ) (uses : Bool) → a ≡ b → span ≡ span_at at b → uses ≡ last.uses_pc
        → ok (sized_value at a last.size uses) (at + length prefix) ≡ ok (span, Some last) (at + length prefix)
    same_sized a b uses len span_is uses_is = rw (len, uses_is, span_is) refl

plain_only : (input : List ℕ) (at : ℕ) (end : ℕ) (tokens_end : tokens_from 255 0 input at ≡ Ok (tt, end)) (span : Span) → span ≡ span_at at (end - at)
    → sized_expression_at input at ≡ Ok ((span, None), end)
plain_only input at end is span same = rw (is, same) refl

sized-only : (input : List ℕ) (at : ℕ) (x : SizedValue) (prefix rest : List ℕ) → SpellsField sized_expression x at prefix (first_of rest None)
    → drop at input ≡ prefix ++ rest → sized_expression_at input at ≡ Ok (x, at + length prefix)
sized-only input at (span, Some last) prefix rest spells split = sized_only input at span last prefix rest spells split
sized-only input at (span, None) prefix rest (tree, same, stops) split =
    let len : length prefix ≡ at + length prefix - at = omega arith in
    plain_only input at (at + length prefix) (whole_tokens tree.0 input at prefix rest tree.1 stops split) span (same ∙ ap (λ (n : ℕ). span_at at n) len)

-- ---- errors

some_or_none : (o : Option ℕ) → is_some o ≡ false → o ≡ None
some_or_none None h = refl
some_or_none (Some n) h = cc

not_sized : (input : List ℕ) (at end : ℕ) (reason : Reason) (s : SizeSoFar)
    → (is_surplus reason && (s.terms == 2 && (closes (drop end input) && is_some s.size)))
    ≡ false → sized_by input at s (Err (Bad end reason)) ≡ Err (Bad end reason)
not_sized input at end reason s h = by_tests (is_surplus reason) (s.terms == 2) (closes (drop end input)) s.size h where
  by_tests : (a b c : Bool) (o : Option ℕ) → (a && (b && (c && is_some o))) ≡ false
      → cond (a && (b && c)) (sized_or o at end s (stopped (Bad end reason))) (stopped (Bad end reason)) ≡ stopped (Bad end reason)
  by_tests false b c o h = refl
  by_tests true false c o h = refl
  by_tests true true false o h = refl
  by_tests true true true None h = refl
  by_tests true true true (Some n) h = cc

only_bad : (input : List ℕ) (at end : ℕ) (reason : Reason) (s : SizeSoFar) (stop : Stop) → sized_by input at s (Err (Bad end reason)) ≡ Err stop
    → (Bad end reason ≡ stop) × ((is_surplus reason && (s.terms == 2 && (closes (drop end input) && is_some s.size))) ≡ false)
only_bad input at end reason s stop gives = by_tests (is_surplus reason) (s.terms == 2) (closes (drop end input)) s.size gives where
  by_tests : (a b c : Bool) (o : Option ℕ) → cond (a && (b && c)) (sized_or o at end s (stopped (Bad end reason))) (stopped (Bad end reason)) ≡ stopped stop
      → (Bad end reason ≡ stop) × ((a && (b && (c && is_some o))) ≡ false)
  by_tests false b c o h = (same_stop {X = SizedValue} (Bad end reason) stop h, refl)
  by_tests true false c o h = (same_stop {X = SizedValue} (Bad end reason) stop h, refl)
  by_tests true true false o h = (same_stop {X = SizedValue} (Bad end reason) stop h, refl)
  by_tests true true true None h = (same_stop {X = SizedValue} (Bad end reason) stop h, refl)
  by_tests true true true (Some n) h = absurd (ok_not_err _ end stop h)

abbrev Test : ℕ → List ℕ → Option ℕ → Bool
Test terms rest size = terms == 2 && (closes rest && is_some size)

-- the test of what was remembered is that of the tokens
test_same : (input : List ℕ) (at end : ℕ) (a : Surplus input at end) → Test (sizes_from 255 (no_tokens at) input at).terms (drop end input)
    (sizes_from 255 (no_tokens at) input at).size ≡ ends_in_size a.tokens a.terms a.rest
test_same input at end a =
    let s = with_token a.said.t a.last.token (at + length a.last.text) in
    let tokens_are = a.last.tokens_are in
    let terms : s.terms ≡ a.terms = some_is s.terms a.terms (sym a.said.whole.terms ∙ ap leaves (sym tokens_are) ∙ a.stand) in
    let size : s.size ≡ last_size a.tokens = a.said.whole.size ∙ ap last_size (sym tokens_are) in
    let following : drop end input ≡ a.rest = ap (λ (k : ℕ). drop k input) a.place ∙ drop-following input at a.prefix a.rest a.split in
    ap (λ (u : SizeSoFar). Test u.terms (drop end input) u.size) a.said.all
    ∙ ap (λ (n : ℕ). Test n (drop end input) s.size) terms
    ∙ ap (λ (l : List ℕ). Test a.terms l s.size) following
    ∙ ap (λ (o : Option ℕ). Test a.terms a.rest o) size
  where
    some_is : (a b : ℕ) → ◌≡◌ {A = Option ℕ} (Some a) (Some b) → a ≡ b
    some_is a b e = cc

surplus_of_after : (input : List ℕ) (at end : ℕ) (reason : Reason) → AreBytes input → tokens_from 255 0 input at ≡ Err (Bad end reason)
    → (is_surplus reason && Test (sizes_from 255 (no_tokens at) input at).terms (drop end input) (sizes_from 255 (no_tokens at) input at).size) ≡ false
    → SizedFault at (drop at input) end reason
surplus_of_after input at end reason fits is h = by_reason (is_surplus reason) refl where
  by_reason : (test : Bool) → is_surplus reason ≡ test → SizedFault at (drop at input) end reason
  by_reason false same =
      let all = tokens_stopped 255 0 [] input at fits refl refl (Bad end reason) is in (
        all.is.0,
        all.tokens,
        all.terms,
        all.prefix,
        all.rest,
        all.spells,
        all.stand,
        all.few,
        all.is.1,
        all.is.2,
        ap (λ (b : Bool). b && ends_in_size all.tokens all.terms all.rest) same,
        all.split,
      )
  by_reason true same =
      let surplus = is_surplus_true reason same in
      let a = surplus_read input at end fits (is ∙ ap (λ (r : Reason). stopped (Bad end r)) surplus) in
      let none : end ≡ at + length a.prefix + 0 = omega (arith, a.place) in
      let test : (is_surplus reason && ends_in_size a.tokens a.terms a.rest) ≡ false =
      ap (λ (b : Bool). is_surplus reason && b) (sym (test_same input at end a)) ∙ h in
      let has : TokenFault (length a.tokens) a.terms a.rest 0 reason =
      subst (λ (r : Reason). TokenFault (length a.tokens) a.terms a.rest 0 r) (sym surplus) (refl, a.many, a.ends) in
      (0, a.tokens, a.terms, a.prefix, a.rest, a.spells, a.stand, a.few, has, none, test, a.split)

sized_stop : (input : List ℕ) (at : ℕ) (answer : Reading (Unit {0})) (s : SizeSoFar) (stop : Stop) → sized_by input at s answer ≡ Err stop
    → answer ≡ Err stop
sized_stop input at (Ok (unit, end)) s stop gives = absurd (ok_not_err (span_at at (end - at), None) end stop gives)
sized_stop input at (Err More) s stop gives = ap (λ (t : Stop). stopped t) (same_stop {X = SizedValue} More stop gives)
sized_stop input at (Err (Bad end reason)) s stop gives = ap (λ (t : Stop). stopped t) (only_bad input at end reason s stop gives).0

sized-bad : (input : List ℕ) (at : ℕ) → AreBytes input → (end : ℕ) (reason : Reason) → sized_expression_at input at ≡ Err (Bad end reason)
    → SizedFault at (drop at input) end reason
sized-bad input at fits end reason gives =
    let s = sizes_from 255 (no_tokens at) input at in
    let is = sized_stop input at (tokens_from 255 0 input at) s (Bad end reason) gives in
    let there : sized_by input at s (Err (Bad end reason)) ≡ Err (Bad end reason) = ap (λ (r : Reading (Unit {0})). sized_by input at s r) (sym is) ∙ gives in
    surplus_of_after input at end reason fits is (only_bad input at end reason s (Bad end reason) there).1

sized-more : (input : List ℕ) (at : ℕ) → AreBytes input → sized_expression_at input at ≡ Err More → IsCutOffExpression (drop at input)
sized-more input at fits gives =
    let is = sized_stop input at (tokens_from 255 0 input at) (sizes_from 255 (no_tokens at) input at) More gives in
    let all = tokens_stopped 255 0 [] input at fits refl refl More is in
    (all.tokens, all.terms, all.prefix, all.rest, all.spells, all.stand, all.few, all.is, all.split)

sized-ends : (input : List ℕ) (at : ℕ) → IsCutOffExpression (drop at input) → sized_expression_at input at ≡ Err More
sized-ends input at ends = rw (cut_tokens input at ends) refl

-- the test for tokens with a surplus, or none
fault_test : (input : List ℕ) (at end : ℕ) (reason : Reason) (offset : ℕ) (tokens : List Token) (terms : ℕ) (prefix rest : List ℕ)
    → SpellsTokens tokens prefix → leaves tokens ≡ Some terms → length tokens ≤ 255 → TokenFault (length tokens) terms rest offset reason
    → end ≡ at + length prefix + offset → (is_surplus reason && ends_in_size tokens terms rest) ≡ false → drop at input ≡ prefix ++ rest
    → (test : Bool) → is_surplus reason ≡ test
    → (is_surplus reason && Test (sizes_from 255 (no_tokens at) input at).terms (drop end input) (sizes_from 255 (no_tokens at) input at).size) ≡ false
unfolding surplus_of
fault_test input at end reason offset tokens terms prefix rest spells stand few has place h split false same =
    ap (λ (b : Bool). b && Test (sizes_from 255 (no_tokens at) input at).terms (drop end input) (sizes_from 255 (no_tokens at) input at).size) same
fault_test input at end reason offset tokens terms prefix rest spells stand few has place h split true same =
    let surplus = is_surplus_true reason same in
    let here : TokenFault (length tokens) terms rest offset SurplusTerms =
    subst (λ (r : Reason). TokenFault (length tokens) terms rest offset r) surplus has in
    let none : offset ≡ 0 = here.0 in
    let a = surplus_of input at end tokens terms prefix rest spells stand few here.1 here.2 (omega (arith, place, none)) split in
    ap (λ (b : Bool). is_surplus reason && b) (test_same input at end a) ∙ h

sized-fault : (input : List ℕ) (at end : ℕ) (reason : Reason) → SizedFault at (drop at input) end reason → sized_expression_at input at ≡ Err (Bad end reason)
sized-fault input at end reason (offset, tokens, terms, prefix, rest, spells, stand, few, has, place, h, split) =
    let s = sizes_from 255 (no_tokens at) input at in
    let bad = faulty_tokens input at end reason (offset, (tokens, terms, prefix, rest, spells, stand, few, (has, place), split)) in
    let test = fault_test input at end reason offset tokens terms prefix rest spells stand few has place h split (is_surplus reason) refl in
    ap (λ (r : Reading (Unit {0})). sized_by input at s r) bad ∙ not_sized input at end reason s test

sized-later : (x : SizedValue) (at : ℕ) (prefix : List ℕ) (next : Option ℕ) → SpellsField sized_expression x at prefix None
    → SpellsField sized_expression x at prefix next
sized-later (span, None) at prefix next spells = absurd spells.2
sized-later (span, Some last) at prefix next (tree, text, number_bytes, spells, few, spelled, fits, uses, span_is, closed, parts) = absurd closed

closes_grows : (bytes more : List ℕ) → EndsTokens bytes → closes (bytes ++ more) ≡ closes bytes
closes_grows [] more ends = absurd ends
closes_grows (b ∷ bytes) more ends = refl

sized-grows : (at : ℕ) (bytes more : List ℕ) (end : ℕ) (reason : Reason) → SizedFault at bytes end reason → SizedFault at (bytes ++ more) end reason
sized-grows at bytes more end reason (offset, tokens, terms, prefix, rest, spells, stand, few, has, place, h, split) = (
  offset,
  tokens,
  terms,
  prefix,
  rest ++ more,
  spells,
  stand,
  few,
  token_fault_grows (length tokens) terms rest more offset reason has,
  place,
  by_reason (is_surplus reason) refl,
  ap (λ (l : List ℕ). l ++ more) split ∙ append_assoc prefix rest more,
) where
  by_reason : (test : Bool) → is_surplus reason ≡ test → (is_surplus reason && ends_in_size tokens terms (rest ++ more)) ≡ false
  by_reason false same = ap (λ (b : Bool). b && ends_in_size tokens terms (rest ++ more)) same
  by_reason true same =
      let here : TokenFault (length tokens) terms rest offset SurplusTerms =
      subst (λ (r : Reason). TokenFault (length tokens) terms rest offset r) (is_surplus_true reason same) has in
      ap (λ (b : Bool). is_surplus reason && (terms == 2 && (b && is_some (last_size tokens)))) (closes_grows rest more here.2) ∙ h

pub sized_expression-exact : IsExact sized_expression
sized_expression-exact = record {
  got = λ input at fits x after gives. sized-got input at fits x after (tokens_from 255 0 input at) refl gives;
  only = sized-only;
  bad = sized-bad;
  fault = sized-fault;
  more = sized-more;
  ends = sized-ends;
  later = sized-later;
  grows = sized-grows;
}

-- ---- the bytes of the expression

sliced : (input : List ℕ) (at : ℕ) (span : Span) (text rest : List ℕ) (tree : Tree) → SpellsTree tree text → span ≡ span_at at (length text)
    → drop at input ≡ text ++ rest → at ≤ length input → IsExpressionIn input span
sliced input at span text rest tree spells same split within =
    let count : span.len ≡ length text = ap (λ (s : Span). s.len) same in
    let start : span.start ≡ at = ap (λ (s : Span). s.start) same in
    let total : length (drop at input) ≡ length text + length rest = ap length split ∙ length-append text rest in
    let there : span.start + span.len - span.start ≡ length text = omega (arith, count) in
    let slice : take (span.start + span.len - span.start) (drop span.start input) ≡ text
    = ap (λ (k : ℕ). take k (drop span.start input)) there ∙ ap (λ (k : ℕ). take (length text) (drop k input)) start
    ∙ ap (take (length text)) split ∙ take_at text rest (length text) refl in (
      omega (arith, count, start, total, length-drop at input, within),
      (tree, subst (λ (l : List ℕ). SpellsTree tree l) (sym slice) spells),
    )

sized_part : (input : List ℕ) (at : ℕ) (x : SizedValue) (after : ℕ) → Found sized_expression input at x after → at ≤ length input → IsExpressionIn input x.0
sized_part input at (span, None) after is within =
    sliced input at span is.prefix (drop after input) is.spells.0.0 is.spells.0.1 is.spells.1 is.split within
sized_part input at (span, Some last) after is within = of_sized is.spells where
  of_sized : SpellsSized span last at is.prefix (first_of (drop after input) None) → IsExpressionIn input span
  of_sized (tree, text, number_bytes, spells, few, spelled, fits, uses, span_is, closed, parts) =
      sliced input at span text (number_bytes ++ drop after input) tree spells span_is
      (is.split ∙ ap (λ (l : List ℕ). l ++ drop after input) parts ∙ append_assoc text number_bytes (drop after input)) within

-- the bytes of an expression that was read, without the size after it
pub sized-part-of : (input : List ℕ) (at : ℕ) → AreBytes input → (answer : Reading SizedValue) → answer ≡ sized_expression_at input at
    → at ≤ length input → IfOk answer (λ r. IsExpressionIn input r.0.0)
sized-part-of input at fits (Ok (x, after)) is within = sized_part input at x after (sized_expression-exact.got input at fits x after (sym is)) within
sized-part-of input at fits (Err stop) is within = tt

-- ---- errors of a token

-- a surplus of terms is no error of a token
abbrev IsPlain : Stop → Type 0
IsPlain More = Unit {0}
IsPlain (Bad end reason) = is_surplus reason ≡ false

plain_as : (stop other : Stop) → IsPlain stop → stopped {X = ℕ} stop ≡ stopped other → IsPlain other
plain_as stop other is e = subst IsPlain (same_stop {X = ℕ} stop other e) is

token_plain : (room terms at : ℕ) (bytes : List ℕ) (answer : Taken Token) → States bytes answer → (stop : Stop) → terms_with room terms at answer ≡ Err stop
    → IsPlain stop
token_plain zero terms at bytes taken.More is stop e = plain_as More stop tt e
token_plain (suc room) terms at bytes taken.More is stop e = plain_as More stop tt e
token_plain zero terms at bytes (taken.Bad zero UnsupportedFunction) is stop e = plain_as (Bad (at + 0) UnsupportedFunction) stop refl e
token_plain (suc room) terms at bytes (taken.Bad zero UnsupportedFunction) is stop e = plain_as (Bad (at + 0) UnsupportedFunction) stop refl e
token_plain zero terms at bytes (taken.Bad zero UnsupportedVariable) is stop e = plain_as (Bad (at + 0) UnsupportedVariable) stop refl e
token_plain (suc room) terms at bytes (taken.Bad zero UnsupportedVariable) is stop e = plain_as (Bad (at + 0) UnsupportedVariable) stop refl e
token_plain zero terms at bytes (taken.Bad (suc zero) BadNumber) is stop e = plain_as (Bad at TooLong) stop refl e
token_plain (suc room) terms at bytes (taken.Bad (suc zero) BadNumber) is stop e = plain_as (Bad (at + 1) BadNumber) stop refl e
token_plain zero terms at bytes (taken.Got token used) is stop e = by_tests (nat_lt terms (operands_of token)) e where
  by_tests : (under : Bool) → cond under (stopped {X = ℕ} (Bad at Underflow)) (stopped (Bad at TooLong)) ≡ Err stop → IsPlain stop
  by_tests true e = plain_as (Bad at Underflow) stop refl e
  by_tests false e = plain_as (Bad at TooLong) stop refl e
token_plain (suc room) terms at bytes (taken.Got token used) is stop e = by_tests (nat_lt terms (operands_of token)) (suc room == 0) e where
  by_tests : (under full : Bool) → cond under (stopped {X = ℕ} (Bad at Underflow)) (cond full (stopped (Bad at TooLong))
      (ok (terms - operands_of token + 1) (at + used))) ≡ Err stop → IsPlain stop
  by_tests true full e = plain_as (Bad at Underflow) stop refl e
  by_tests false true e = plain_as (Bad at TooLong) stop refl e
  by_tests false false e = absurd (ok_not_err (terms - operands_of token + 1) (at + used) stop e)
token_plain room terms at bytes (taken.Bad _ _) is stop e = absurd is

passed_on : (input : List ℕ) (start : ℕ) (s : SizeSoFar) (stop : Stop) → IsPlain stop → sized_by input start s (Err stop) ≡ Err stop
passed_on input start s More is = refl
passed_on input start s (Bad end reason) is = rw is refl

-- the error of a token is that of the whole
pub token-passed : (room terms at : ℕ) (input : List ℕ) (start : ℕ) (s : SizeSoFar) (stop : Stop) → AreBytes input
    → terms_with room terms at (token_at (drop at input)) ≡ Err stop → sized_by input start s (Err stop) ≡ Err stop
token-passed room terms at input start s stop fits e =
    passed_on input start s stop (token_plain room terms at (drop at input) (token_at (drop at input))
    (states (drop at input) (AreBytes-drop at input fits)) stop e)

-- so is an end of the bytes
pub byte-passed : (input : List ℕ) (at start : ℕ) (s : SizeSoFar) (stop : Stop) → byte_at input at ≡ Err stop → sized_by input start s (Err stop) ≡ Err stop
byte-passed input at start s stop e = passed_on input start s stop (by_bytes (drop at input) e) where
  by_bytes : (bytes : List ℕ) → first_byte bytes at ≡ Err stop → IsPlain stop
  by_bytes [] e = plain_as More stop tt e
  by_bytes (b ∷ bytes) e = absurd (ok_not_err b (at + 1) stop e)
