-- A text in a TOML document is no longer than the bytes that spell it.
use Rattle.std.proofs.Common.{◌≡◌, ℕ, zero, suc, ◌+◌, ◌/◌, ◌%◌, ◌<◌, ◌≤◌, Bool, true, false, ◌&&◌, ◌||◌, List, [], ◌∷◌, ◌++◌, length, drop, take}
use Rattle.std.proofs.Common.{Option, Some, None, IfSome, refl, ap, arith, length-append, unwrap_or, is_some, cond}
use Rattle.std.proofs.lemmas.Bool.Decides.{nat_tests}
use Rattle.std.specs.Prelude.{◌==◌, if◌then◌else◌, nat_lt, nat_le, encode_utf8, option_map, option_and_then, slice_index}
use Rattle.std.specs.List.{prefix_len, list_all}
use Rattle.std.specs.Char.{is_digit}
use Rattle.std.specs.Str.Parse.{digits_value}
use lib.Utf8.{encode}
use Rattle.toml_parser.specs.Lexical.{Read, dot, first, is_ws, is_bare, line_feed, backslash, skip_from, skip_turn, skip_ws, skip_blank}
use Rattle.toml_parser.specs.Lexical.{skip_lines, split_while, starts_newline}
use Rattle.toml_parser.specs.Numbers.{unquoted, word_len, word_value}
use Rattle.toml_parser.specs.Strings.{after_piece, at_delims, body, escape, escape_char, hex_escape, hex_len, is_plain, is_scalar, key}
use Rattle.toml_parser.specs.Strings.{key_after, one_line, prepend, quoted, simple_escape, simple_key, special, starts_string, trim_newline}
use Rattle.toml_parser.specs.declared.scalar.Scalar.{Scalar}

-- ---- what is read

-- what is read and the rest of the text are together no larger than n
abbrev pub Fits : {A : Type 0} → (A → ℕ) → ℕ → Read A → Type 0
Fits measure n r = IfSome r (λ p. measure p.0 + length p.1 ≤ n)

-- the bytes of a text
abbrev pub long : List ℕ → ℕ
long bytes = length bytes

-- nothing is counted but the rest of the text
abbrev pub nothing : {A : Type 0} → A → ℕ
nothing a = 0

pub fits-more : {A : Type 0} (measure : A → ℕ) (m n : ℕ) (r : Read A) → m ≤ n → Fits measure m r → Fits measure n r
fits-more measure m n None less fits = tt
fits-more measure m n (Some p) less fits = omega (arith, less, fits)

-- ---- what is left out

pub drop-less : (n : ℕ) (text : List ℕ) → length (drop n text) ≤ length text
drop-less zero text = omega arith
drop-less (suc n) [] = omega arith
drop-less (suc n) (b ∷ text) = let later = drop-less n text in omega (arith, later)

drop-some : (n : ℕ) (text : List ℕ) → n ≤ length text → n + length (drop n text) ≡ length text
drop-some zero text few = omega arith
drop-some (suc n) [] few = absurd (omega (arith, few))
drop-some (suc n) (b ∷ text) few = let later = drop-some n text (omega (arith, few)) in omega (arith, later)

skip-less : (comments inside : Bool) (text : List ℕ) → length (skip_from comments inside text) ≤ length text
unfolding skip_from
skip-less comments inside [] = omega arith
skip-less comments inside (c ∷ text) =
    by (is_some (skip_turn comments inside c (first text))) (skip-less comments (unwrap_or (skip_turn comments inside c (first text)) false) text) where
      by : (b : Bool) → length (skip_from comments (unwrap_or (skip_turn comments inside c (first text)) false) text) ≤ length text
          → length (if b then skip_from comments (unwrap_or (skip_turn comments inside c (first text)) false) text else c ∷ text) ≤ suc (length text)
      by true later = omega (arith, later)
      by false later = omega arith

pub blank-less : (text : List ℕ) → length (skip_blank text) ≤ length text
blank-less text = skip-less true false text

pub ws-less : (text : List ℕ) → length (skip_ws text) ≤ length text
unfolding skip_ws
ws-less text = drop-less (prefix_len is_ws text) text

-- ---- a byte at the front

same-number : (m n : ℕ) → (m == n) ≡ true → m ≡ n
same-number m n e = grind (arith, nat_tests)

-- a text that begins with a byte other than 0 has one
pub after-byte : (text : List ℕ) (c : ℕ) → 0 < c → (first text == c) ≡ true → suc (length (drop 1 text)) ≡ length text
after-byte [] c some at = let same : 0 ≡ c = same-number 0 c at in absurd (omega (arith, some, same))
after-byte (b ∷ text) c some at = refl

-- ---- escapes

encode-four : (c : ℕ) → length (encode_utf8 c) ≤ 4
unfolding encode
encode-four c = by (nat_lt c 128) (nat_lt c 2048) (nat_lt c 65536) where
  by : (one two three : Bool) → length (cond one (c ∷ []) (cond two ((192 + c / 64) ∷ (128 + c % 64) ∷ [])
      (cond three ((224 + c / 4096) ∷ (128 + (c / 64) % 64) ∷ (128 + c % 64) ∷ [])
      ((240 + c / 262144) ∷ (128 + (c / 4096) % 64) ∷ (128 + (c / 64) % 64) ∷ (128 + c % 64) ∷ [])))) ≤ 4
  by true two three = omega arith
  by false true three = omega arith
  by false false true = omega arith
  by false false false = omega arith

hex-fits : (n : ℕ) (text : List ℕ) → IfSome (hex_escape n text) (λ p. n + length p.1 ≤ length text)
unfolding hex_escape
hex-fits n text = by (nat_le n (length text)) (list_all (λ c. is_digit c 16) (take n text)) (is_scalar (digits_value 16 (take n text))) refl where
  by : (enough digits scalar : Bool) → nat_le n (length text) ≡ enough
      → IfSome {T = ℕ × List ℕ} (if (enough && digits) && scalar then Some (digits_value 16 (take n text), drop n text) else None)
      (λ p. n + length p.1 ≤ length text)
  by false digits scalar e = tt
  by true false scalar e = tt
  by true true false e = tt
  by true true true e =
      let few : n ≤ length text = grind (arith, nat_tests) in
      let all = drop-some n text few in
      omega (arith, all)

hex-two : (a b c : Bool) → nat_lt 0 (if a then 2 else if b then 4 else if c then 8 else 0) ≡ true → 2 ≤ (if a then 2 else if b then 4 else if c then 8 else 0)
hex-two true b c e = omega arith
hex-two false true c e = omega arith
hex-two false false true e = omega arith
hex-two false false false e = absurd cc

one-byte : (c : ℕ) → length (encode_utf8 c) ≡ 1 → length (encode_utf8 c) ≤ 1
one-byte c one = omega (arith, one)

-- the character of a letter has one byte
simple-one : (c : ℕ) → IfSome (simple_escape c) (λ x. length (encode_utf8 x) ≤ 1)
unfolding encode
simple-one c = by (c == 98) (c == 101) (c == 102) (c == 110) (c == 114) (c == 116) (c == 34) (c == 92) refl refl where
  by : (b e f n r t q s : Bool) → (c == 34) ≡ q → (c == 92) ≡ s
      → IfSome (if b then Some 8 else if e then Some 27 else if f then Some 12 else if n then Some 10 else if r then Some 13 else if t then Some 9
      else if q || s then Some c else None) (λ x. length (encode_utf8 x) ≤ 1)
  by true e f n r t q s is_q is_s = one-byte 8 refl
  by false true f n r t q s is_q is_s = one-byte 27 refl
  by false false true n r t q s is_q is_s = one-byte 12 refl
  by false false false true r t q s is_q is_s = one-byte 10 refl
  by false false false false true t q s is_q is_s = one-byte 13 refl
  by false false false false false true q s is_q is_s = one-byte 9 refl
  by false false false false false false true s is_q is_s =
      let same : c ≡ 34 = same-number c 34 is_q in one-byte c (ap (λ x. length (encode_utf8 x)) same)
  by false false false false false false false true is_q is_s =
      let same : c ≡ 92 = same-number c 92 is_s in one-byte c (ap (λ x. length (encode_utf8 x)) same)
  by false false false false false false false false is_q is_s = tt

-- the bytes of a character
abbrev spelled : ℕ → ℕ
spelled c = length (encode_utf8 c)

char-fits : (text : List ℕ) → Fits spelled (suc (length text)) (escape_char text)
unfolding escape_char
char-fits text = by (nat_lt 0 (hex_len (first text))) refl where
  long : (r : Read ℕ) → IfSome r (λ p. hex_len (first text) + length p.1 ≤ length (drop 1 text)) → 2 ≤ hex_len (first text) → (list : List ℕ) → text ≡ list
      → Fits spelled (suc (length text)) r
  long None fits two list is = tt
  long (Some p) fits two [] is =
      let empty : length (drop 1 text) ≡ 0 = ap (λ (l : List ℕ). length (drop 1 l)) is in absurd (omega (arith, fits, two, empty))
  long (Some p) fits two (b ∷ list) is =
      let four = encode-four p.0 in
      let after : length (drop 1 text) ≡ length list = ap (λ (l : List ℕ). length (drop 1 l)) is in
      let all : length text ≡ suc (length list) = ap (λ (l : List ℕ). length l) is in
      omega (arith, fits, two, four, after, all)

  short : (o : Option ℕ) → IfSome o (λ x. length (encode_utf8 x) ≤ 1) → Fits spelled (suc (length text)) (option_map (λ c. (c, drop 1 text)) o)
  short None one = tt
  short (Some c) one = let less = drop-less 1 text in omega (arith, one, less)

  by : (b : Bool) → nat_lt 0 (hex_len (first text)) ≡ b
      → Fits spelled (suc (length text)) (if b then hex_escape (hex_len (first text)) (drop 1 text)
      else option_map (λ c. (c, drop 1 text)) (simple_escape (first text)))
  by true e =
      long (hex_escape (hex_len (first text)) (drop 1 text)) (hex-fits (hex_len (first text)) (drop 1 text))
      (hex-two (first text == 0x78) (first text == 0x75) (first text == 0x55) e) text refl
  by false e = short (simple_escape (first text)) (simple-one (first text))

escape-fits : (multi : Bool) (text : List ℕ) → Fits long (suc (length text)) (escape multi text)
unfolding escape
escape-fits multi text = by (multi && starts_newline (skip_ws text)) where
  bytes : (r : Read ℕ) → Fits spelled (suc (length text)) r
      → Fits long (suc (length text)) (option_map (λ p. (encode_utf8 p.0, p.1)) r)
  bytes None fits = tt
  bytes (Some p) fits = fits

  by : (b : Bool) → Fits long (suc (length text))
      (if b then Some ([], skip_lines text) else option_map (λ p. (encode_utf8 p.0, p.1)) (escape_char text))
  by true = let less = skip-less false false text in omega (arith, less)
  by false = bytes (escape_char text) (char-fits text)

-- ---- strings

-- the bytes of a piece; the end has none
abbrev piece_size : Option (List ℕ) → ℕ
piece_size None = 0
piece_size (Some bytes) = length bytes

delims-fit : (delim : ℕ) (text : List ℕ) → 0 < delim → (first text == delim) ≡ true → Fits piece_size (length text) (at_delims delim text)
delims-fit delim text some at = by (prefix_len (λ c. c == delim) text == 3) (nat_lt (prefix_len (λ c. c == delim) text) 6) where
  by : (three few : Bool)
      → Fits piece_size (length text) (if three then Some (None, drop 3 text) else if few then Some (Some (delim ∷ []), drop 1 text) else None)
  by true few = let less = drop-less 3 text in omega (arith, less)
  by false true = let after = after-byte text delim some at in omega (arith, after)
  by false false = tt

newline-fits : (multi : Bool) (text : List ℕ)
    → Fits piece_size (length text) (if multi && starts_newline text then Some (Some (first text ∷ []), drop 1 text) else None)
newline-fits true [] = tt
newline-fits false [] = tt
newline-fits multi (b ∷ text) = by (multi && starts_newline (b ∷ text)) where
  by : (is : Bool) → Fits piece_size (suc (length text)) (if is then Some (Some (b ∷ []), text) else None)
  by true = omega arith
  by false = tt

special-fits : (delim : ℕ) (multi : Bool) (text : List ℕ) → 0 < delim → Fits piece_size (length text) (special delim multi text)
unfolding special
special-fits delim multi text some = by (first text == delim) refl where
  escaped : (r : Read (List ℕ)) → Fits long (length text) r → Fits piece_size (length text) (option_map (λ p. (Some p.0, p.1)) r)
  escaped None fits = tt
  escaped (Some p) fits = fits

  ended : (b : Bool) → (first text == delim) ≡ true → Fits piece_size (length text) (if b then at_delims delim text else Some (None, drop 1 text))
  ended true at = delims-fit delim text some at
  ended false at = let less = drop-less 1 text in omega (arith, less)

  other : (b : Bool) → (first text == backslash) ≡ b
      → Fits piece_size (length text) (if b then option_map (λ p. (Some p.0, p.1)) (escape multi (drop 1 text))
      else if multi && starts_newline text then Some (Some (first text ∷ []), drop 1 text) else None)
  other true at =
      let after = after-byte text backslash (omega arith) at in
      escaped (escape multi (drop 1 text)) (fits-more long (suc (length (drop 1 text))) (length text) (escape multi (drop 1 text))
      (omega (arith, after)) (escape-fits multi (drop 1 text)))
  other false at = newline-fits multi text

  by : (b : Bool) → (first text == delim) ≡ b → Fits piece_size (length text) (if b then (if multi then at_delims delim text else Some (None, drop 1 text))
      else if first text == backslash then option_map (λ p. (Some p.0, p.1)) (escape multi (drop 1 text))
      else if multi && starts_newline text then Some (Some (first text ∷ []), drop 1 text) else None)
  by true at = ended multi at
  by false at = other (first text == backslash) refl

plain-some : (delim : ℕ) (multi : Bool) (text : List ℕ) → is_plain delim multi (first text) ≡ true → suc (length (drop 1 text)) ≡ length text
plain-some delim true [] plain = absurd (grind (arith, nat_tests))
plain-some delim false [] plain = absurd (grind (arith, nat_tests))
plain-some delim multi (b ∷ text) plain = refl

prepend-fits : (front : List ℕ) (n : ℕ) (r : Read (List ℕ)) → Fits long n r → Fits long (length front + n) (prepend front r)
prepend-fits front n None fits = tt
prepend-fits front n (Some p) fits = let sum = length-append front p.0 in omega (arith, fits, sum)

body-fits : (delim : ℕ) (multi : Bool) (n : ℕ) (text : List ℕ) → 0 < delim → Fits long (length text) (body delim multi n text)
unfolding body
body-fits delim multi zero text some = tt
body-fits delim multi (suc n) text some = by (is_plain delim multi (first text)) refl (λ rest. body-fits delim multi n rest some) where
  piece : (r : Read (Option (List ℕ))) → Fits piece_size (length text) r → ((rest : List ℕ) → Fits long (length rest) (body delim multi n rest))
      → Fits long (length text) (option_and_then (λ p. after_piece (body delim multi n) p.0 p.1) r)
  piece None fits later = tt
  piece (Some (None, rest)) fits later = fits
  piece (Some (Some bytes, rest)) fits later =
      fits-more long (length bytes + length rest) (length text) (prepend bytes (body delim multi n rest)) fits
      (prepend-fits bytes (length rest) (body delim multi n rest) (later rest))

  by : (b : Bool) → is_plain delim multi (first text) ≡ b → ((rest : List ℕ) → Fits long (length rest) (body delim multi n rest))
      → Fits long (length text) (if b then prepend (first text ∷ []) (body delim multi n (drop 1 text))
      else option_and_then (λ p. after_piece (body delim multi n) p.0 p.1) (special delim multi text))
  by true plain later =
      let after = plain-some delim multi text plain in
      fits-more long (1 + length (drop 1 text)) (length text) (prepend (first text ∷ []) (body delim multi n (drop 1 text)))
      (omega (arith, after)) (prepend-fits (first text ∷ []) (length (drop 1 text)) (body delim multi n (drop 1 text)) (later (drop 1 text)))
  by false plain later = piece (special delim multi text) (special-fits delim multi text some) later

-- a delimiter is not 0
delimiter : (text : List ℕ) → starts_string text ≡ true → 0 < first text
delimiter text starts = grind (arith, nat_tests)

pub line-fits : (text : List ℕ) → starts_string text ≡ true → Fits long (length text) (one_line text)
unfolding one_line
line-fits text starts =
    fits-more long (length (drop 1 text)) (length text) (body (first text) false (length text) (drop 1 text)) (drop-less 1 text)
    (body-fits (first text) false (length text) (drop 1 text) (delimiter text starts))

trim-less : (text : List ℕ) → length (trim_newline text) ≤ length text
trim-less text = by (first text == line_feed) (starts_newline text) where
  by : (feed newline : Bool) → length (if feed then drop 1 text else if newline then drop 2 text else text) ≤ length text
  by true newline = drop-less 1 text
  by false true = drop-less 2 text
  by false false = omega arith

pub quoted-fits : (text : List ℕ) → starts_string text ≡ true → Fits long (length text) (quoted text)
unfolding quoted
quoted-fits text starts = by (slice_index text 1 == first text && slice_index text 2 == first text) where
  by : (three : Bool) → Fits long (length text)
      (if three then body (first text) true (length text) (trim_newline (drop 3 text)) else one_line text)
  by true =
      let trimmed = trim-less (drop 3 text) in
      let less = drop-less 3 text in
      fits-more long (length (trim_newline (drop 3 text))) (length text) (body (first text) true (length text) (trim_newline (drop 3 text)))
      (omega (arith, trimmed, less)) (body-fits (first text) true (length text) (trim_newline (drop 3 text)) (delimiter text starts))
  by false = line-fits text starts

-- ---- keys and words

bare : {A : Type 0} (measure : A → ℕ) (n : ℕ) (r : Read A) → Fits measure n r → Fits nothing n r
bare measure n None fits = tt
bare measure n (Some p) fits = omega (arith, fits)

simple-fits : (text : List ℕ) → Fits nothing (length text) (simple_key text)
unfolding simple_key
simple-fits text = by (starts_string text) refl where
  word : (b : Bool) → Fits nothing (length text) (if b then Some (split_while is_bare text) else None)
  word true = let less = drop-less (prefix_len is_bare text) text in omega (arith, less)
  word false = tt

  by : (b : Bool) → starts_string text ≡ b
      → Fits nothing (length text) (if b then one_line text else if is_bare (first text) then Some (split_while is_bare text) else None)
  by true starts = bare long (length text) (one_line text) (line-fits text starts)
  by false starts = word (is_bare (first text))

key-after-fits : (n : ℕ) (path : List (List ℕ)) (text : List ℕ) → Fits nothing (length text) (key_after n path text)
unfolding key_after
key-after-fits zero path text = tt
key-after-fits (suc n) path text = by (simple_key text) (simple-fits text) (key-after-fits n) where
  part : (p : List ℕ × List ℕ) (dots : Bool) → 0 + length p.1 ≤ length text
      → ((more : List (List ℕ)) (rest : List ℕ) → Fits nothing (length rest) (key_after n more rest))
      → Fits nothing (length text) (if dots then key_after n (path ++ p.0 ∷ []) (skip_ws (drop 1 (skip_ws p.1))) else Some ((path, p.0), skip_ws p.1))
  part p true fits later =
      let first_ws = ws-less p.1 in
      let dropped = drop-less 1 (skip_ws p.1) in
      let second_ws = ws-less (drop 1 (skip_ws p.1)) in
      fits-more nothing (length (skip_ws (drop 1 (skip_ws p.1)))) (length text) (key_after n (path ++ p.0 ∷ []) (skip_ws (drop 1 (skip_ws p.1))))
      (omega (arith, first_ws, dropped, second_ws, fits)) (later (path ++ p.0 ∷ []) (skip_ws (drop 1 (skip_ws p.1))))
  part p false fits later = let first_ws = ws-less p.1 in omega (arith, first_ws, fits)

  by : (r : Read (List ℕ)) → Fits nothing (length text) r
      → ((more : List (List ℕ)) (rest : List ℕ) → Fits nothing (length rest) (key_after n more rest))
      → Fits nothing (length text) (option_and_then (λ p. if first (skip_ws p.1) == dot then key_after n (path ++ p.0 ∷ []) (skip_ws (drop 1 (skip_ws p.1)))
      else Some ((path, p.0), skip_ws p.1)) r)
  by None fits later = tt
  by (Some p) fits later = part p (first (skip_ws p.1) == dot) fits later

pub key-fits : (text : List ℕ) → Fits nothing (length text) (key text)
key-fits text = key-after-fits 80 [] text

pub unquoted-fits : (text : List ℕ) → Fits nothing (length text) (unquoted text)
unfolding unquoted
unquoted-fits text = by (word_len text == 0) (word_value (take (word_len text) text)) where
  by : (none : Bool) (o : Option Scalar) → Fits nothing (length text) (if none then None else option_map (λ d. (d, drop (word_len text) text)) o)
  by true o = tt
  by false None = tt
  by false (Some d) = let less = drop-less (word_len text) text in omega (arith, less)
