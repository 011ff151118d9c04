-- Expressions are read exactly.
use Rattle.std.proofs.Common.{◌≡◌, ℕ, zero, suc, ◌+◌, ◌-◌, ◌<◌, ◌≤◌, true, false, List, [], ◌∷◌, ◌++◌, length, take, drop, Option, Some, None, Ok}
use Rattle.std.proofs.Common.{Err, refl, sym, ap, subst, ◌∙◌, inl, inr, arith, append_assoc}
use Rattle.std.proofs.lemmas.Bool.{cases_Bool}
use Rattle.std.proofs.lemmas.List.{length-append, length-drop, append-nil, take_at}
use Rattle.mufom_numbers.specs.declared.reason.Reason.{Reason}
use Rattle.mufom_numbers.specs.declared.reason.Reason.TheVariants.{BadNumber, UnsupportedFunction, UnsupportedVariable, Underflow, SurplusTerms, Empty, TooLong}
use Rattle.mufom_numbers.specs.declared.taken.Span.{Span}
use Rattle.mufom_numbers.specs.Spelling.{AreBytes}
use Rattle.mufom_expr.specs.declared.token.Token.{Token}
use Rattle.mufom_expr.specs.Codes.{operands_of}
use Rattle.mufom_expr.specs.Tree.{Tree, tokens_of}
use Rattle.mufom_expr.specs.Terms.{leaves, the_term}
use Rattle.mufom_expr.specs.Spelled.{SpellsToken, SpellsTokens, SpellsTree, BeginsWith, IsLeftOutFunction, IsLeftOutLetter, HasBadIndex, IsCutOffToken}
use Rattle.mufom_expr.specs.TokenAt.{begins_token}
use Rattle.mufom_expr.proofs.Leaves.{leaves-push, leaves-one}
use Rattle.mufom_expr.proofs.TermsLemmas.{tokens_of-the_term}
use Rattle.mufom_expr.proofs.TokensBack.{leaves-tokens_of}
use Rattle.mufom_expr.proofs.TokenLaws.{states}
use Rattle.mufom_records.specs.declared.stop.Stop.{Stop}
use Rattle.mufom_records.specs.declared.stop.Stop.TheVariants.{More, Bad}
use Rattle.mufom_records.specs.Fields.{expression, optional_expression, SpellsField, SpellsExpression, Stops, first_of, span_at}
use Rattle.mufom_records.specs.Reading.{Reading, ◌>>=◌, tokens_from, expression_at, optional_expression_at}
use Rattle.mufom_records.specs.Faults.{EndsTokens, TokenFault, BeginsWithToken, ExpressionFault, IsCutOffExpression, FieldFault}
use Rattle.mufom_records.proofs.Exact.{ok, stopped, same_place, same_stop, ok_not_err, drop-following, Found, found, found-as, IsExact}
use Rattle.mufom_records.specs.Parts.{IsExpressionIn}
use Rattle.mufom_records.proofs.NumberLaws.{BeginsIn-grows}
use Rattle.mufom_records.proofs.TokenSteps.{Begins, token_first, cut_off_first, tokens-next, tokens-cut, tokens-end, tokens-fault, end_whole}
use Rattle.mufom_records.proofs.TokenSteps.{leaves-enough, Step, cut, faulty, ended, goes_on, step}

-- ---- from the result to the bytes at the offset

abbrev ok_unit : ℕ → Reading (Unit {0})
ok_unit at = Ok (tt, at)

-- these tokens are at the offset, and make an expression with the tokens before them
pub record FoundTokens (before : List Token) (input : List ℕ) (at after : ℕ) : Type 0 where
  pub tokens : List Token
  pub prefix : List ℕ
  pub spells : SpellsTokens tokens prefix
  pub one : leaves (before ++ tokens) ≡ Some 1
  pub few : length (before ++ tokens) ≤ 255
  pub stops : Stops begins_token (first_of (drop after input) None)
  pub split : drop at input ≡ prefix ++ drop after input
  pub count : after ≡ at + length prefix

-- the same, if the first of them is one of those before
first_of_more : (before : List Token) (input : List ℕ) (at after : ℕ) (token : Token) (text rest : List ℕ) → SpellsToken token text → drop at input
    ≡ text ++ rest → FoundTokens (before ++ token ∷ []) input (at + length text) after → FoundTokens before input at after
first_of_more before input at after token text rest spells split all =
    let same : (before ++ token ∷ []) ++ all.tokens ≡ before ++ token ∷ all.tokens = append_assoc before (token ∷ []) all.tokens in
    let following : drop (at + length text) input ≡ rest = drop-following input at text rest split in
    record {
      tokens = token ∷ all.tokens;
      prefix = text ++ all.prefix;
      spells = (text, all.prefix, spells, all.spells, refl);
      one = subst (λ (l : List Token). leaves l ≡ Some 1) same all.one;
      few = subst (λ (l : List Token). length l ≤ 255) same all.few;
      stops = all.stops;
      split = split ∙ ap (λ (l : List ℕ). text ++ l) (sym following ∙ all.split) ∙ sym (append_assoc text all.prefix (drop after input));
      count = omega (arith, all.count, length-append text all.prefix);
    }

pushed : (before : List Token) (token : Token) (terms room : ℕ) → length before + room ≡ 255 → 0 < room → length (before ++ token ∷ []) + (room - 1) ≡ 255
pushed before token terms room count some = omega (arith, count, some, length-append before (token ∷ []))

ends_stop : (bytes : List ℕ) → EndsTokens bytes → Stops begins_token (first_of bytes None)
ends_stop [] ends = absurd ends
ends_stop (b ∷ bytes) ends = ends

none_found : (before : List Token) (terms room : ℕ) (input : List ℕ) (at after : ℕ) → leaves before ≡ Some terms → terms ≡ 1 → length before + room
    ≡ 255 → EndsTokens (drop at input) → after ≡ at → FoundTokens before input at after
none_found before terms room input at after stand one count ends same =
    record {
      tokens = [];
      prefix = [];
      spells = refl;
      one = ap leaves (append-nil before) ∙ stand ∙ ap (λ (n : ℕ). Some n) one;
      few = omega (arith, ap length (append-nil before), count);
      stops = subst (λ (n : ℕ). Stops begins_token (first_of (drop n input) None)) (sym same) (ends_stop (drop at input) ends);
      split = ap (λ (n : ℕ). drop n input) (sym same);
      count = omega (arith, same);
    }

tokens_found : (room terms : ℕ) (before : List Token) (input : List ℕ) (at : ℕ) → AreBytes input → leaves before ≡ Some terms → length before + room
    ≡ 255 → (after : ℕ) → tokens_from room terms input at ≡ ok_unit after → FoundTokens before input at after
tokens_found zero terms before input at fits stand count after gives = by_step (step zero terms before input at stand count fits) where
  by_step : Step zero terms before input at → FoundTokens before input at after
  by_step (cut is answer) = absurd (ok_not_err tt after More (sym gives ∙ answer))
  by_step (faulty offset reason is answer) = absurd (ok_not_err tt after (Bad (at + offset) reason) (sym gives ∙ answer))
  by_step (ended ends one answer) = none_found before terms zero input at after stand one count ends (sym (same_place tt tt at after (sym answer ∙ gives)))
  by_step (goes_on token text rest spells split found some answer) = absurd (omega (arith, some))
tokens_found (suc room) terms before input at fits stand count after gives =
    by_step (step (suc room) terms before input at stand count fits)
    (λ token text terms2 stand2 count2. tokens_found room terms2 (before ++ token ∷ []) input (at + length text) fits stand2 count2 after) where
      by_step : Step (suc room) terms before input at → ((token : Token) (text : List ℕ) (terms2 : ℕ) → leaves (before ++ token ∷ []) ≡ Some terms2
          → length (before ++ token ∷ []) + room ≡ 255
          → tokens_from room terms2 input (at + length text) ≡ ok_unit after → FoundTokens (before ++ token ∷ []) input (at + length text) after)
          → FoundTokens before input at after
      by_step (cut is answer) recursive = absurd (ok_not_err tt after More (sym gives ∙ answer))
      by_step (faulty offset reason is answer) recursive = absurd (ok_not_err tt after (Bad (at + offset) reason) (sym gives ∙ answer))
      by_step (ended ends one answer) recursive = none_found before terms (suc room) input at after stand one count ends
          (sym (same_place tt tt at after (sym answer ∙ gives)))
      by_step (goes_on token text rest spells split found some answer) recursive =
          let less : suc room - 1 ≡ room = omega arith in
          let more = recursive token text (terms - operands_of token + 1) (leaves-push before token terms stand found)
          (omega (arith, count, length-append before (token ∷ [])))
          (ap (λ (n : ℕ). tokens_from n (terms - operands_of token + 1) input (at + length text)) (sym less) ∙ sym answer ∙ gives) in
          first_of_more before input at after token text rest spells split more

-- what follows tokens, some of which come before these bytes
pub record After (before : List Token) (bytes : List ℕ) (Is : ℕ → ℕ → List ℕ → List ℕ → Type 0) : Type 0 where
  pub tokens : List Token
  pub terms : ℕ
  pub prefix : List ℕ
  pub rest : List ℕ
  pub spells : SpellsTokens tokens prefix
  pub stand : leaves (before ++ tokens) ≡ Some terms
  pub few : length (before ++ tokens) ≤ 255
  pub is : Is (length (before ++ tokens)) terms prefix rest
  pub split : bytes ≡ prefix ++ rest

no_more : (before : List Token) (bytes : List ℕ) (Is : ℕ → ℕ → List ℕ → List ℕ → Type 0) (terms room : ℕ) → leaves before ≡ Some terms
    → length before + room ≡ 255 → Is (length before) terms [] bytes → After before bytes Is
no_more before bytes Is terms room stand count is =
    let same : before ++ [] ≡ before = append-nil before in
    record {
      tokens = [];
      terms = terms;
      prefix = [];
      rest = bytes;
      spells = refl;
      stand = ap leaves same ∙ stand;
      few = omega (arith, ap length same, count);
      is = subst (λ (l : List Token). Is (length l) terms [] bytes) (sym same) is;
      split = refl;
    }

one_more : (before : List Token) (bytes : List ℕ) (Is Was : ℕ → ℕ → List ℕ → List ℕ → Type 0) (token : Token) (text rest : List ℕ)
    → SpellsToken token text → bytes ≡ text ++ rest
    → ((tokens terms : ℕ) (prefix rest : List ℕ) → Was tokens terms prefix rest → Is tokens terms (text ++ prefix) rest)
    → After (before ++ token ∷ []) rest Was → After before bytes Is
one_more before bytes Is Was token text rest spells split to all =
    let same : (before ++ token ∷ []) ++ all.tokens ≡ before ++ token ∷ all.tokens = append_assoc before (token ∷ []) all.tokens in
    record {
      tokens = token ∷ all.tokens;
      terms = all.terms;
      prefix = text ++ all.prefix;
      rest = all.rest;
      spells = (text, all.prefix, spells, all.spells, refl);
      stand = subst (λ (l : List Token). leaves l ≡ Some all.terms) same all.stand;
      few = subst (λ (l : List Token). length l ≤ 255) same all.few;
      is = to (length (before ++ token ∷ all.tokens)) all.terms all.prefix all.rest
          (subst (λ (l : List Token). Was (length l) all.terms all.prefix all.rest) same all.is);
      split = split ∙ ap (λ (l : List ℕ). text ++ l) all.split ∙ sym (append_assoc text all.prefix all.rest);
    }

-- the result of an error, or of an early end, after tokens
abbrev pub IsFaultAt : ℕ → ℕ → Reason → ℕ → ℕ → List ℕ → List ℕ → Type 0
IsFaultAt at fault_offset reason tokens terms prefix rest = (offset : ℕ) × TokenFault tokens terms rest offset reason
    × (fault_offset ≡ at + length prefix + offset)

abbrev pub IsCutAt : ℕ → ℕ → List ℕ → List ℕ → Type 0
IsCutAt tokens terms prefix rest = IsCutOffToken rest

-- what a stop states of the tokens
abbrev pub Stopped : Stop → ℕ → ℕ → ℕ → List ℕ → List ℕ → Type 0
Stopped More at = IsCutAt
Stopped (Bad fault_offset reason) at = IsFaultAt at fault_offset reason

moved_on : (stop : Stop) (at : ℕ) (text : List ℕ) (tokens terms : ℕ) (prefix rest : List ℕ) → Stopped stop (at + length text) tokens terms prefix rest
    → Stopped stop at tokens terms (text ++ prefix) rest
moved_on More at text tokens terms prefix rest is = is
moved_on (Bad fault_offset reason) at text tokens terms prefix rest (offset, is, same) = (offset, is, omega (arith, same, length-append text prefix))

fault_stops : (at offset : ℕ) (reason : Reason) (stop : Stop) (tokens terms : ℕ) (bytes : List ℕ) → TokenFault tokens terms bytes offset reason
    → Bad (at + offset) reason ≡ stop → Stopped stop at tokens terms [] bytes
fault_stops at offset reason stop tokens terms bytes is same =
    let none : at + offset ≡ at + 0 + offset = omega arith in
    let first : Stopped (Bad (at + offset) reason) at tokens terms [] bytes = (offset, is, none) in
    subst (λ (s : Stop). Stopped s at tokens terms [] bytes) same first

pub tokens_stopped : (room terms : ℕ) (before : List Token) (input : List ℕ) (at : ℕ) → AreBytes input → leaves before ≡ Some terms → length before + room
    ≡ 255 → (stop : Stop) → tokens_from room terms input at ≡ Err stop → After before (drop at input) (Stopped stop at)
tokens_stopped zero terms before input at fits stand count stop gives = by_step (step zero terms before input at stand count fits) where
  by_step : Step zero terms before input at → After before (drop at input) (Stopped stop at)
  by_step (cut is answer) = no_more before (drop at input) (Stopped stop at) terms zero stand count
      (subst (λ (s : Stop). Stopped s at (length before) terms [] (drop at input)) (same_stop {X = Unit {0}} More stop (sym answer ∙ gives)) is)
  by_step (faulty offset reason is answer) = no_more before (drop at input) (Stopped stop at) terms zero stand count
      (fault_stops at offset reason stop (length before) terms (drop at input) is
      (same_stop {X = Unit {0}} (Bad (at + offset) reason) stop (sym answer ∙ gives)))
  by_step (ended ends one answer) = absurd (ok_not_err tt at stop (sym answer ∙ gives))
  by_step (goes_on token text rest spells split found some answer) = absurd (omega (arith, some))
tokens_stopped (suc room) terms before input at fits stand count stop gives =
    by_step (step (suc room) terms before input at stand count fits)
    (λ token text terms2 stand2 count2. tokens_stopped room terms2 (before ++ token ∷ []) input (at + length text) fits stand2 count2 stop) where
      by_step : Step (suc room) terms before input at → ((token : Token) (text : List ℕ) (terms2 : ℕ) → leaves (before ++ token ∷ []) ≡ Some terms2
          → length (before ++ token ∷ []) + room ≡ 255
          → tokens_from room terms2 input (at + length text) ≡ Err stop
          → After (before ++ token ∷ []) (drop (at + length text) input) (Stopped stop (at + length text))) → After before (drop at input) (Stopped stop at)
      by_step (cut is answer) recursive = no_more before (drop at input) (Stopped stop at) terms (suc room) stand count
          (subst (λ (s : Stop). Stopped s at (length before) terms [] (drop at input)) (same_stop {X = Unit {0}} More stop (sym answer ∙ gives)) is)
      by_step (faulty offset reason is answer) recursive = no_more before (drop at input) (Stopped stop at) terms (suc room) stand count
          (fault_stops at offset reason stop (length before) terms (drop at input) is
          (same_stop {X = Unit {0}} (Bad (at + offset) reason) stop (sym answer ∙ gives)))
      by_step (ended ends one answer) recursive = absurd (ok_not_err tt at stop (sym answer ∙ gives))
      by_step (goes_on token text rest spells split found some answer) recursive =
          let less : suc room - 1 ≡ room = omega arith in
          let more = recursive token text (terms - operands_of token + 1) (leaves-push before token terms stand found)
          (omega (arith, count, length-append before (token ∷ [])))
          (ap (λ (n : ℕ). tokens_from n (terms - operands_of token + 1) input (at + length text)) (sym less) ∙ sym answer ∙ gives) in
          let following : drop (at + length text) input ≡ rest = drop-following input at text rest split in
          one_more before (drop at input) (Stopped stop at) (Stopped stop (at + length text)) token text rest spells split (moved_on stop at text)
          (subst (λ (l : List ℕ). After (before ++ token ∷ []) l (Stopped stop (at + length text))) following more)

-- ---- from the bytes at the offset to the result

-- reading goes on over tokens that have their operands
walk : (tokens before : List Token) (room terms n : ℕ) (input : List ℕ) (at : ℕ) (prefix rest : List ℕ) → leaves before ≡ Some terms
    → length before + room ≡ 255 → SpellsTokens tokens prefix → leaves (before ++ tokens) ≡ Some n → length (before ++ tokens) ≤ 255
    → drop at input ≡ prefix ++ rest → tokens_from room terms input at ≡ tokens_from (room - length tokens) n input (at + length prefix)
walk [] before room terms n input at prefix rest stand count spells whole few split =
    let one : room ≡ room - 0 = omega arith in
    let two : terms ≡ n = some_is terms n (sym stand ∙ sym (ap leaves (append-nil before)) ∙ whole) in
    let three : at ≡ at + length prefix = omega (arith, ap length spells) in
    ap (λ (k : ℕ). tokens_from k terms input at) one ∙ ap (λ (k : ℕ). tokens_from (room - 0) k input at) two
    ∙ ap (λ (k : ℕ). tokens_from (room - 0) n input k) three where
      some_is : (a b : ℕ) → ◌≡◌ {A = Option ℕ} (Some a) (Some b) → a ≡ b
      some_is a b e = cc
walk (token ∷ tokens) before room terms n input at prefix rest stand count (text, back, spelled, spells, parts) whole few split =
    let first_split : drop at input ≡ text ++ (back ++ rest) = split ∙ ap (λ (l : List ℕ). l ++ rest) parts ∙ append_assoc text back rest in
    let found : operands_of token ≤ terms = leaves-enough before tokens token terms n stand whole in
    let some : 0 < room = omega (arith, few, count, length-append before (token ∷ tokens)) in
    let first = tokens-next room terms input at token text (back ++ rest) spelled first_split found some in
    let same : before ++ token ∷ tokens ≡ (before ++ token ∷ []) ++ tokens = sym (append_assoc before (token ∷ []) tokens) in
    let later = walk tokens (before ++ token ∷ []) (room - 1) (terms - operands_of token + 1) n input (at + length text) back rest
    (leaves-push before token terms stand found) (pushed before token terms room count some) spells
    (ap leaves (sym same) ∙ whole) (subst (λ (l : List Token). length l ≤ 255) same few) (drop-following input at text (back ++ rest) first_split) in
    let room_is : room - 1 - length tokens ≡ room - suc (length tokens) = omega arith in
    let place_is : at + length text + length back ≡ at + length prefix = omega (arith, ap length parts, length-append text back) in
    first ∙ later ∙ ap (λ (k : ℕ). tokens_from k n input (at + length text + length back)) room_is
    ∙ ap (λ (k : ℕ). tokens_from (room - suc (length tokens)) n input k) place_is

walked : (tokens : List Token) (terms : ℕ) (input : List ℕ) (at : ℕ) (prefix rest : List ℕ) → SpellsTokens tokens prefix → leaves tokens ≡ Some terms
    → length tokens ≤ 255 → drop at input ≡ prefix ++ rest
    → tokens_from 255 0 input at ≡ tokens_from (255 - length tokens) terms input (at + length prefix)
walked tokens terms input at prefix rest spells stand few split = walk tokens [] 255 0 terms input at prefix rest refl refl spells stand few split

stop_at_start : (tokens : List Token) (terms : ℕ) → leaves tokens ≡ Some terms → length tokens ≡ 0 → terms ≡ 0
stop_at_start [] terms stand none = some_is 0 terms stand where
  some_is : (a b : ℕ) → ◌≡◌ {A = Option ℕ} (Some a) (Some b) → b ≡ a
  some_is a b e = cc
stop_at_start (t ∷ tokens) terms stand none = absurd (omega (arith, none))

pub faulty_tokens : (input : List ℕ) (at fault_offset : ℕ) (reason : Reason) → ExpressionFault at (drop at input) fault_offset reason
    → tokens_from 255 0 input at ≡ Err (Bad fault_offset reason)
faulty_tokens input at fault_offset reason (offset, (tokens, terms, prefix, rest, spells, stand, few, (has, same), split)) =
    let following : drop (at + length prefix) input ≡ rest = drop-following input at prefix rest split in
    let has_there : TokenFault (length tokens) terms (drop (at + length prefix) input) offset reason =
    subst (λ (l : List ℕ). TokenFault (length tokens) terms l offset reason) (sym following) has in
    walked tokens terms input at prefix rest spells stand few split
    ∙ tokens-fault (255 - length tokens) terms input (at + length prefix) (length tokens) offset reason (omega (arith, few))
    (stop_at_start tokens terms stand) has_there
    ∙ ap (λ (k : ℕ). stopped (Bad k reason)) (sym same)

pub cut_tokens : (input : List ℕ) (at : ℕ) → IsCutOffExpression (drop at input) → tokens_from 255 0 input at ≡ Err More
cut_tokens input at (tokens, terms, prefix, rest, spells, stand, few, is, split) =
    let following : drop (at + length prefix) input ≡ rest = drop-following input at prefix rest split in
    walked tokens terms input at prefix rest spells stand few split ∙ tokens-cut (255 - length tokens) terms input (at + length prefix) rest following is

some_token : (tokens : List Token) → leaves tokens ≡ Some 1 → 0 < length tokens
some_token [] one = let no_one : ◌≡◌ {A = Option ℕ} (Some 0) (Some 1) = one in absurd cc
some_token (t ∷ tokens) one = omega arith

pub stops_end : (bytes : List ℕ) → Stops begins_token (first_of bytes None) → EndsTokens bytes
stops_end [] stops = stops
stops_end (b ∷ bytes) stops = stops

pub whole_tokens : (tree : Tree) (input : List ℕ) (at : ℕ) (prefix rest : List ℕ) → SpellsTree tree prefix → Stops begins_token (first_of rest None)
    → drop at input ≡ prefix ++ rest → tokens_from 255 0 input at ≡ ok_unit (at + length prefix)
whole_tokens tree input at prefix rest (few, spells) stops split =
    let one = leaves-tokens_of tree in
    let some = some_token (tokens_of tree) one in
    let following : drop (at + length prefix) input ≡ rest = drop-following input at prefix rest split in
    let ends : EndsTokens (drop (at + length prefix) input) = subst (λ (l : List ℕ). EndsTokens l) (sym following) (stops_end rest stops) in
    walked (tokens_of tree) 1 input at prefix rest spells one few split ∙ tokens-end (255 - length (tokens_of tree)) 1 input (at + length prefix) ends
    ∙ end_whole (255 - length (tokens_of tree)) (at + length prefix) (λ all. omega (arith, all, some))

-- ---- an expression

abbrev as_span : ℕ → Unit {0} × ℕ → Reading Span
as_span at end = Ok (span_at at (end.1 - at), end.1)

spelled_tree : (input : List ℕ) (at after : ℕ) (all : FoundTokens [] input at after) → SpellsTree (the_term all.tokens) all.prefix
spelled_tree input at after all =
    let same = tokens_of-the_term all.tokens (leaves-one all.tokens all.one) in
    (subst (λ (l : List Token). length l ≤ 255) same all.few, subst (λ (l : List Token). SpellsTokens l all.prefix) same all.spells)

pub expression_got : (input : List ℕ) (at : ℕ) → AreBytes input → (x : Span) (after : ℕ) (answer : Reading (Unit {0})) → tokens_from 255 0 input at
    ≡ answer → (answer >>= as_span at) ≡ Ok (x, after) → Found expression input at x after
expression_got input at fits x after (Err stop) is gives = absurd (ok_not_err x after stop (sym gives))
expression_got input at fits x after (Ok (unit, end)) is gives =
    let all = tokens_found 255 0 [] input at fits refl refl end is in
    let len : end - at ≡ length all.prefix = omega (arith, all.count) in
    found-as expression input at (span_at at (end - at)) end x after
    (record {
      prefix = all.prefix;
      spells = ((the_term all.tokens, spelled_tree input at end all), ap (λ (n : ℕ). span_at at n) len, all.stops);
      split = all.split;
      count = all.count;
    }) gives

expression_only : (input : List ℕ) (at : ℕ) (x : Span) (prefix rest : List ℕ) → SpellsExpression x at prefix (first_of rest None) → drop at input
    ≡ prefix ++ rest → expression_at input at ≡ Ok (x, at + length prefix)
expression_only input at x prefix rest (tree, same, stops) split =
    let len : at + length prefix - at ≡ length prefix = omega arith in
    rw (whole_tokens tree.0 input at prefix rest tree.1 stops split, len, same) refl

expression_stopped : (input : List ℕ) (at : ℕ) (stop : Stop) (answer : Reading (Unit {0})) → tokens_from 255 0 input at ≡ answer
    → (answer >>= as_span at) ≡ Err stop → tokens_from 255 0 input at ≡ Err stop
expression_stopped input at stop (Err s) is gives = is ∙ ap (λ (t : Stop). stopped t) (same_stop {X = Span} s stop gives)
expression_stopped input at stop (Ok (unit, end)) is gives = absurd (ok_not_err (span_at at (end - at)) end stop gives)

expression_bad : (input : List ℕ) (at : ℕ) → AreBytes input → (fault_offset : ℕ) (reason : Reason) → expression_at input at
    ≡ Err (Bad fault_offset reason) → ExpressionFault at (drop at input) fault_offset reason
expression_bad input at fits fault_offset reason gives =
    let all = tokens_stopped 255 0 [] input at fits refl refl (Bad fault_offset reason)
    (expression_stopped input at (Bad fault_offset reason) (tokens_from 255 0 input at) refl gives) in
    (all.is.0, (all.tokens, all.terms, all.prefix, all.rest, all.spells, all.stand, all.few, (all.is.1, all.is.2), all.split))

expression_more : (input : List ℕ) (at : ℕ) → AreBytes input → expression_at input at ≡ Err More → IsCutOffExpression (drop at input)
expression_more input at fits gives =
    let all = tokens_stopped 255 0 [] input at fits refl refl More (expression_stopped input at More (tokens_from 255 0 input at) refl gives) in
    (all.tokens, all.terms, all.prefix, all.rest, all.spells, all.stand, all.few, all.is, all.split)

-- ---- a longer input

begins_grows : (Is : ℕ → Type 0) (bytes more : List ℕ) → BeginsWith Is bytes → BeginsWith Is (bytes ++ more)
begins_grows Is [] more begins = absurd begins
begins_grows Is (b ∷ bytes) more begins = begins

bad_index_grows : (bytes more : List ℕ) → HasBadIndex bytes → HasBadIndex (bytes ++ more)
bad_index_grows bytes more (letter, rest, same, inl begins) =
    (letter, rest ++ more, ap (λ (l : List ℕ). l ++ more) same, inl (BeginsIn-grows 0x89 0xFF rest more begins))
bad_index_grows bytes more (letter, rest, same, inr (n, text, following, large, spells, split)) = (
  letter,
  rest ++ more,
  ap (λ (l : List ℕ). l ++ more) same,
  inr (n, text, following ++ more, large, spells, ap (λ (l : List ℕ). l ++ more) split ∙ append_assoc text following more),
)

token_grows : (Is : Token → Type 0) (bytes more : List ℕ) → BeginsWithToken Is bytes → BeginsWithToken Is (bytes ++ more)
token_grows Is bytes more (token, text, rest, spells, is, split) =
    (token, text, rest ++ more, spells, is, ap (λ (l : List ℕ). l ++ more) split ∙ append_assoc text rest more)

pub token_fault_grows : (tokens terms : ℕ) (bytes more : List ℕ) (offset : ℕ) (reason : Reason) → TokenFault tokens terms bytes offset reason
    → TokenFault tokens terms (bytes ++ more) offset reason
token_fault_grows tokens terms bytes more offset UnsupportedFunction (none, begins) = (none, begins_grows IsLeftOutFunction bytes more begins)
token_fault_grows tokens terms bytes more offset UnsupportedVariable (none, begins) =
    (none, begins_grows (λ b. (begins_token b ≡ true) × IsLeftOutLetter b) bytes more begins)
token_fault_grows tokens terms bytes more offset BadNumber (one, few, wrong) = (one, few, bad_index_grows bytes more wrong)
token_fault_grows tokens terms bytes more offset Underflow (none, token) = (none, token_grows (λ t. terms < operands_of t) bytes more token)
token_fault_grows tokens terms bytes more offset TooLong (none, all, inl token) = (none, all, inl (token_grows (λ t. operands_of t ≤ terms) bytes more token))
token_fault_grows tokens terms bytes more offset TooLong (none, all, inr wrong) = (none, all, inr (bad_index_grows bytes more wrong))
token_fault_grows tokens terms bytes more offset Empty (none, empty, ends) = (none, empty, begins_grows (λ b. begins_token b ≡ false) bytes more ends)
token_fault_grows tokens terms bytes more offset SurplusTerms (none, many, ends) = (none, many, begins_grows (λ b. begins_token b ≡ false) bytes more ends)
token_fault_grows tokens terms bytes more offset _ has = absurd has

expression_grows : (at : ℕ) (bytes more : List ℕ) (fault_offset : ℕ) (reason : Reason) → ExpressionFault at bytes fault_offset reason
    → ExpressionFault at (bytes ++ more) fault_offset reason
expression_grows at bytes more fault_offset reason (offset, (tokens, terms, prefix, rest, spells, stand, few, (has, same), split)) = (
  offset,
  (
    tokens,
    terms,
    prefix,
    rest ++ more,
    spells,
    stand,
    few,
    (token_fault_grows (length tokens) terms rest more offset reason has, same),
    ap (λ (l : List ℕ). l ++ more) split ∙ append_assoc prefix rest more,
  ),
)

expression_later : (x : Span) (at : ℕ) (prefix : List ℕ) (next : Option ℕ) → SpellsExpression x at prefix None → SpellsExpression x at prefix next
expression_later x at prefix next spells = absurd spells.2

pub expression-exact : IsExact expression
expression-exact = record {
  got = λ input at fits x after gives. expression_got input at fits x after (tokens_from 255 0 input at) refl gives;
  only = expression_only;
  bad = expression_bad;
  fault = λ input at fault_offset reason has. rw (faulty_tokens input at fault_offset reason has) refl;
  more = expression_more;
  ends = λ input at ends. rw (cut_tokens input at ends) refl;
  later = expression_later;
  grows = expression_grows;
}

-- ---- an expression, or none

abbrev some_span : Span × ℕ → Reading (Option Span)
some_span e = Ok (Some e.0, e.1)

optional_yes : (input : List ℕ) (at : ℕ) → Begins (drop at input) → optional_expression_at input at ≡ (expression_at input at >>= some_span)
optional_yes input at (b, rest, e, h) = rw (e, h) refl

optional_no : (input : List ℕ) (at b : ℕ) (rest : List ℕ) → drop at input ≡ b ∷ rest → begins_token b ≡ false → optional_expression_at input at ≡ Ok (None, at)
optional_no input at b rest e h = rw (e, h) refl

optional_end : (input : List ℕ) (at : ℕ) → drop at input ≡ [] → optional_expression_at input at ≡ Err More
optional_end input at e = rw e refl

some_got : (input : List ℕ) (at : ℕ) → AreBytes input → (x : Option Span) (after : ℕ) (answer : Reading Span) → expression_at input at ≡ answer
    → (answer >>= some_span) ≡ Ok (x, after) → Found optional_expression input at x after
some_got input at fits x after (Ok r) is gives =
    let one = expression-exact.got input at fits r.0 r.1 is in
    found-as optional_expression input at (Some r.0) r.1 x after
    (record { prefix = one.prefix; spells = one.spells; split = one.split; count = one.count }) gives
some_got input at fits x after (Err stop) is gives = absurd (ok_not_err x after stop (sym gives))

optional_got : (input : List ℕ) (at : ℕ) → AreBytes input → (x : Option Span) (after : ℕ) (bytes : List ℕ) → drop at input ≡ bytes
    → optional_expression_at input at ≡ Ok (x, after) → Found optional_expression input at x after
optional_got input at fits x after [] e gives = absurd (ok_not_err x after More (sym gives ∙ optional_end input at e))
optional_got input at fits x after (b ∷ rest) e gives = elim (cases_Bool (begins_token b)) [
  | inl h ↦ some_got input at fits x after (expression_at input at) refl (sym (optional_yes input at (b, rest, e, h)) ∙ gives)
  | inr h ↦ found-as optional_expression input at None at x after (found optional_expression input at None at [] (b ∷ rest) (refl, h) e (omega arith))
      (sym (optional_no input at b rest e h) ∙ gives)
]

-- if there are tokens, the bytes begin with one that begins a token
tokens_first : (tokens : List Token) (prefix rest : List ℕ) → SpellsTokens tokens prefix → 0 < length tokens → Begins (prefix ++ rest)
tokens_first [] prefix rest spells some = absurd (omega (arith, some))
tokens_first (token ∷ tokens) prefix rest (text, back, spelled, spells, parts) some =
    let same : prefix ++ rest ≡ text ++ (back ++ rest) = ap (λ (l : List ℕ). l ++ rest) parts ∙ append_assoc text back rest in
    subst (λ (l : List ℕ). Begins l) (sym same) (token_first token text (back ++ rest) spelled)

pub tree_first : (tree : Tree) (prefix rest : List ℕ) → SpellsTree tree prefix → Begins (prefix ++ rest)
tree_first tree prefix rest (few, spells) = tokens_first (tokens_of tree) prefix rest spells (some_token (tokens_of tree) (leaves-tokens_of tree))

optional_only : (input : List ℕ) (at : ℕ) (x : Option Span) (prefix rest : List ℕ) → SpellsField optional_expression x at prefix (first_of rest None)
    → drop at input ≡ prefix ++ rest → optional_expression_at input at ≡ Ok (x, at + length prefix)
optional_only input at None prefix [] spells split = absurd spells.1
optional_only input at None prefix (b ∷ rest) spells split =
    let count : at ≡ at + length prefix = omega (arith, ap length spells.0) in
    optional_no input at b rest (split ∙ ap (λ (l : List ℕ). l ++ b ∷ rest) spells.0) spells.1 ∙ ap (λ (n : ℕ). ok None n) count
optional_only input at (Some x) prefix rest spells split =
    let begins : Begins (drop at input) = subst (λ (l : List ℕ). Begins l) (sym split) (tree_first spells.0.0 prefix rest spells.0.1) in
    optional_yes input at begins ∙ ap (λ (r : Reading Span). r >>= some_span) (expression_only input at x prefix rest spells split)

some_stops : (input : List ℕ) (at : ℕ) (stop : Stop) (answer : Reading Span) → expression_at input at ≡ answer → (answer >>= some_span) ≡ Err stop
    → expression_at input at ≡ Err stop
some_stops input at stop (Ok r) is gives = absurd (ok_not_err (Some r.0) r.1 stop gives)
some_stops input at stop (Err s) is gives = is ∙ ap (λ (t : Stop). stopped t) (same_stop {X = Option Span} s stop gives)

optional_bad : (input : List ℕ) (at : ℕ) → AreBytes input → (fault_offset : ℕ) (reason : Reason) (bytes : List ℕ) → drop at input ≡ bytes
    → optional_expression_at input at ≡ Err (Bad fault_offset reason) → FieldFault optional_expression at (drop at input) fault_offset reason
optional_bad input at fits fault_offset reason [] e gives = let same : More ≡ Bad fault_offset reason =
    same_stop {X = Option Span} More (Bad fault_offset reason) (sym (optional_end input at e) ∙ gives) in absurd cc
optional_bad input at fits fault_offset reason (b ∷ rest) e gives = elim (cases_Bool (begins_token b)) [
  | inl h ↦
      let wrong = some_stops input at (Bad fault_offset reason) (expression_at input at) refl (sym (optional_yes input at (b, rest, e, h)) ∙ gives) in
      (subst (λ (l : List ℕ). BeginsWith (λ c. begins_token c ≡ true) l) (sym e) h, expression_bad input at fits fault_offset reason wrong)
  | inr h ↦ absurd (ok_not_err None at (Bad fault_offset reason) (sym (optional_no input at b rest e h) ∙ gives))
]

begins_from : (bytes : List ℕ) → BeginsWith (λ b. begins_token b ≡ true) bytes → Begins bytes
begins_from [] begins = absurd begins
begins_from (b ∷ rest) begins = (b, rest, refl, begins)

optional_fault : (input : List ℕ) (at fault_offset : ℕ) (reason : Reason) → FieldFault optional_expression at (drop at input) fault_offset reason
    → optional_expression_at input at ≡ Err (Bad fault_offset reason)
optional_fault input at fault_offset reason (begins, has) =
    optional_yes input at (begins_from (drop at input) begins)
    ∙ ap (λ (r : Reading Span). r >>= some_span) (expression-exact.fault input at fault_offset reason has)

optional_more : (input : List ℕ) (at : ℕ) → AreBytes input → (bytes : List ℕ) → drop at input ≡ bytes → optional_expression_at input at ≡ Err More
    → IsCutOffExpression (drop at input)
optional_more input at fits [] e gives = (
  [],
  0,
  [],
  drop at input,
  refl,
  refl,
  omega arith,
  subst (λ (l : List ℕ). IsCutOffToken l) (sym e) (states [] tt),
  refl,
)
optional_more input at fits (b ∷ rest) e gives = elim (cases_Bool (begins_token b)) [
  | inl h ↦ expression_more input at fits (some_stops input at More (expression_at input at) refl (sym (optional_yes input at (b, rest, e, h)) ∙ gives))
  | inr h ↦ absurd (ok_not_err None at More (sym (optional_no input at b rest e h) ∙ gives))
]

cut_begins : (b : ℕ) (rest : List ℕ) → IsCutOffExpression (b ∷ rest) → Begins (b ∷ rest)
cut_begins b rest ([], terms, prefix, back, spells, stand, few, is, split) =
    let same : b ∷ rest ≡ back = split ∙ ap (λ (l : List ℕ). l ++ back) spells in
    (b, rest, refl, cut_off_first b rest (subst (λ (l : List ℕ). IsCutOffToken l) (sym same) is))
cut_begins b rest (token ∷ tokens, terms, prefix, back, spells, stand, few, is, split) =
    subst (λ (l : List ℕ). Begins l) (sym split) (tokens_first (token ∷ tokens) prefix back spells (omega arith))

optional_ends : (input : List ℕ) (at : ℕ) (bytes : List ℕ) → drop at input ≡ bytes → IsCutOffExpression bytes → optional_expression_at input at ≡ Err More
optional_ends input at [] e ends = optional_end input at e
optional_ends input at (b ∷ rest) e ends =
    optional_yes input at (subst (λ (l : List ℕ). Begins l) (sym e) (cut_begins b rest ends))
    ∙ ap (λ (r : Reading Span). r >>= some_span) (expression-exact.ends input at (subst (λ (l : List ℕ). IsCutOffExpression l) (sym e) ends))

optional_later : (x : Option Span) (at : ℕ) (prefix : List ℕ) (next : Option ℕ) → SpellsField optional_expression x at prefix None
    → SpellsField optional_expression x at prefix next
optional_later None at prefix next spells = absurd spells.1
optional_later (Some x) at prefix next spells = absurd spells.2

pub optional_expression-exact : IsExact optional_expression
optional_expression-exact = record {
  got = λ input at fits x after gives. optional_got input at fits x after (drop at input) refl gives;
  only = optional_only;
  bad = λ input at fits fault_offset reason gives. optional_bad input at fits fault_offset reason (drop at input) refl gives;
  fault = optional_fault;
  more = λ input at fits gives. optional_more input at fits (drop at input) refl gives;
  ends = λ input at ends. optional_ends input at (drop at input) refl ends;
  later = optional_later;
  grows = λ at bytes more fault_offset reason has. (
    begins_grows (λ b. begins_token b ≡ true) bytes more has.0,
    expression_grows at bytes more fault_offset reason has.1,
  );
}

-- the bytes of an expression that was read
pub expression-part : (input : List ℕ) (at : ℕ) → AreBytes input → (x : Span) (after : ℕ) → expression_at input at ≡ Ok (x, after) → at ≤ length input
    → IsExpressionIn input x
expression-part input at fits x after gives within =
    let one = expression-exact.got input at fits x after gives in
    let count : x.len ≡ length one.prefix = ap (λ (s : Span). s.len) one.spells.1 in
    let start : x.start ≡ at = ap (λ (s : Span). s.start) one.spells.1 in
    let total : length (drop at input) ≡ length one.prefix + length (drop after input) = ap length one.split ∙ length-append one.prefix (drop after input) in
    let there : x.start + x.len - x.start ≡ length one.prefix = omega (arith, count) in
    let slice : take (x.start + x.len - x.start) (drop x.start input) ≡ one.prefix
    = ap (λ (k : ℕ). take k (drop x.start input)) there ∙ ap (λ (k : ℕ). take (length one.prefix) (drop k input)) start
    ∙ ap (take (length one.prefix)) one.split ∙ take_at one.prefix (drop after input) (length one.prefix) refl in (
      omega (arith, count, start, total, length-drop at input, within),
      (one.spells.0.0, subst (λ (l : List ℕ). SpellsTree one.spells.0.0 l) (sym slice) one.spells.0.1),
    )
