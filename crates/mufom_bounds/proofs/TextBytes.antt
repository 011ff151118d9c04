-- A text in a TOML document consists of bytes, if the document does.
use Rattle.std.proofs.Common.{◌≡◌, ℕ, zero, suc, ◌+◌, ◌/◌, ◌%◌, ◌<◌, Bool, true, false, ◌&&◌, ◌||◌, List, [], ◌∷◌, ◌++◌, length, drop, take}
use Rattle.std.proofs.Common.{Option, Some, None, IfSome, refl, arith, unwrap_or, is_some, cond, ltb-true}
use Rattle.std.proofs.lemmas.Bool.Decides.{nat_tests}
use Rattle.std.specs.Prelude.{◌==◌, if◌then◌else◌, nat_lt, nat_le, encode_utf8, option_map, option_and_then, slice_index}
use Rattle.std.specs.List.{prefix_len, list_all}
use Rattle.std.specs.Char.{is_digit}
use Rattle.std.specs.Str.Parse.{digits_value}
use lib.Utf8.{encode}
use Rattle.mufom_numbers.specs.Spelling.{AreBytes}
use Rattle.mufom_judging.proofs.judged.Stays.{AreBytes-drop}
use Rattle.toml_parser.specs.Lexical.{Read, dot, first, is_ws, is_bare, line_feed, backslash, skip_from, skip_turn, skip_ws, skip_blank}
use Rattle.toml_parser.specs.Lexical.{skip_lines, split_while, starts_newline}
use Rattle.toml_parser.specs.Numbers.{unquoted, word_len, word_value}
use Rattle.toml_parser.specs.Strings.{after_piece, at_delims, body, escape, escape_char, hex_escape, hex_len, is_plain, is_scalar, key}
use Rattle.toml_parser.specs.Strings.{key_after, one_line, prepend, quoted, simple_escape, simple_key, special, starts_string, trim_newline}
use Rattle.toml_parser.specs.declared.scalar.Scalar.{Scalar}
use Rattle.mufom_bounds.proofs.Bounded.{all-append}

-- ---- what is read

-- this holds of what is read, and the rest of the text consists of bytes
abbrev pub Keeps : {A : Type 0} → (A → Type 0) → Read A → Type 0
Keeps Is r = IfSome r (λ p. Is p.0 × AreBytes p.1)

-- nothing is claimed but of the rest of the text
abbrev pub Any : {A : Type 0} → A → Type 0
Any a = Unit {0}

pub keeps-any : {A : Type 0} (Is : A → Type 0) (r : Read A) → Keeps Is r → Keeps Any r
keeps-any Is None is = tt
keeps-any Is (Some p) is = (tt, is.1)

-- ---- what is left out

skip-bytes : (comments inside : Bool) (text : List ℕ) → AreBytes text → AreBytes (skip_from comments inside text)
unfolding skip_from
skip-bytes comments inside [] are = tt
skip-bytes comments inside (c ∷ text) are =
    by (is_some (skip_turn comments inside c (first text)))
    (skip-bytes comments (unwrap_or (skip_turn comments inside c (first text)) false) text are.1) where
      by : (b : Bool) → AreBytes (skip_from comments (unwrap_or (skip_turn comments inside c (first text)) false) text)
          → AreBytes (if b then skip_from comments (unwrap_or (skip_turn comments inside c (first text)) false) text else c ∷ text)
      by true later = later
      by false later = are

pub blank-bytes : (text : List ℕ) → AreBytes text → AreBytes (skip_blank text)
blank-bytes text are = skip-bytes true false text are

pub ws-bytes : (text : List ℕ) → AreBytes text → AreBytes (skip_ws text)
unfolding skip_ws
ws-bytes text are = AreBytes-drop (prefix_len is_ws text) text are

first-byte : (text : List ℕ) → AreBytes text → first text < 256
first-byte [] are = omega arith
first-byte (b ∷ text) are = are.0

-- ---- escapes

-- a number that is that of a character
abbrev IsChar : ℕ → Type 0
IsChar c = c < 1114112

encode-bytes : (c : ℕ) → IsChar c → AreBytes (encode_utf8 c)
unfolding encode
encode-bytes c is = by (nat_lt c 128) (nat_lt c 2048) (nat_lt c 65536) refl refl refl where
  by : (one two three : Bool) → nat_lt c 128 ≡ one → nat_lt c 2048 ≡ two → nat_lt c 65536 ≡ three
      → AreBytes (cond one (c ∷ []) (cond two ((192 + c / 64) ∷ (128 + c % 64) ∷ [])
      (cond three ((224 + c / 4096) ∷ (128 + (c / 64) % 64) ∷ (128 + c % 64) ∷ [])
      ((240 + c / 262144) ∷ (128 + (c / 4096) % 64) ∷ (128 + (c / 64) % 64) ∷ (128 + c % 64) ∷ []))))
  by true two three a b d = let small = ltb-true c 128 a in (omega (arith, small), tt)
  by false true three a b d = let small = ltb-true c 2048 b in (omega (arith, small), (omega arith, tt))
  by false false true a b d = let small = ltb-true c 65536 d in (omega (arith, small), (omega arith, (omega arith, tt)))
  by false false false a b d = (omega (arith, is), (omega arith, (omega arith, (omega arith, tt))))

scalar-char : (c : ℕ) → is_scalar c ≡ true → IsChar c
scalar-char c is = grind (arith, nat_tests)

hex-keeps : (n : ℕ) (text : List ℕ) → AreBytes text → Keeps IsChar (hex_escape n text)
unfolding hex_escape
hex-keeps n text are = by (nat_le n (length text)) (list_all (λ c. is_digit c 16) (take n text)) (is_scalar (digits_value 16 (take n text))) refl where
  by : (enough digits scalar : Bool) → is_scalar (digits_value 16 (take n text)) ≡ scalar
      → Keeps IsChar (if (enough && digits) && scalar then Some (digits_value 16 (take n text), drop n text) else None)
  by false digits scalar e = tt
  by true false scalar e = tt
  by true true false e = tt
  by true true true e = (scalar-char (digits_value 16 (take n text)) e, AreBytes-drop n text are)

simple-char : (c : ℕ) → c < 256 → IfSome (simple_escape c) IsChar
simple-char c small = by (c == 98) (c == 101) (c == 102) (c == 110) (c == 114) (c == 116) ((c == 34) || (c == 92)) where
  by : (b e f n r t q : Bool)
      → IfSome (if b then Some 8 else if e then Some 27 else if f then Some 12 else if n then Some 10 else if r then Some 13 else if t then Some 9
      else if q then Some c else None) IsChar
  by true e f n r t q = omega arith
  by false true f n r t q = omega arith
  by false false true n r t q = omega arith
  by false false false true r t q = omega arith
  by false false false false true t q = omega arith
  by false false false false false true q = omega arith
  by false false false false false false true = omega (arith, small)
  by false false false false false false false = tt

char-keeps : (text : List ℕ) → AreBytes text → Keeps IsChar (escape_char text)
unfolding escape_char
char-keeps text are = by (nat_lt 0 (hex_len (first text))) where
  short : (o : Option ℕ) → IfSome o IsChar → Keeps IsChar (option_map (λ c. (c, drop 1 text)) o)
  short None is = tt
  short (Some c) is = (is, AreBytes-drop 1 text are)

  by : (b : Bool) → Keeps IsChar (if b then hex_escape (hex_len (first text)) (drop 1 text)
      else option_map (λ c. (c, drop 1 text)) (simple_escape (first text)))
  by true = hex-keeps (hex_len (first text)) (drop 1 text) (AreBytes-drop 1 text are)
  by false = short (simple_escape (first text)) (simple-char (first text) (first-byte text are))

escape-keeps : (multi : Bool) (text : List ℕ) → AreBytes text → Keeps AreBytes (escape multi text)
unfolding escape
escape-keeps multi text are = by (multi && starts_newline (skip_ws text)) where
  bytes : (r : Read ℕ) → Keeps IsChar r → Keeps AreBytes (option_map (λ p. (encode_utf8 p.0, p.1)) r)
  bytes None is = tt
  bytes (Some p) is = (encode-bytes p.0 is.0, is.1)

  by : (b : Bool) → Keeps AreBytes (if b then Some ([], skip_lines text) else option_map (λ p. (encode_utf8 p.0, p.1)) (escape_char text))
  by true = (tt, skip-bytes false false text are)
  by false = bytes (escape_char text) (char-keeps text are)

-- ---- strings

-- a piece consists of bytes; the end has none
abbrev PieceBytes : Option (List ℕ) → Type 0
PieceBytes None = Unit {0}
PieceBytes (Some bytes) = AreBytes bytes

delims-keep : (delim : ℕ) (text : List ℕ) → delim < 256 → AreBytes text → Keeps PieceBytes (at_delims delim text)
delims-keep delim text small are = by (prefix_len (λ c. c == delim) text == 3) (nat_lt (prefix_len (λ c. c == delim) text) 6) where
  by : (three few : Bool) → Keeps PieceBytes (if three then Some (None, drop 3 text) else if few then Some (Some (delim ∷ []), drop 1 text) else None)
  by true few = (tt, AreBytes-drop 3 text are)
  by false true = ((small, tt), AreBytes-drop 1 text are)
  by false false = tt

special-keeps : (delim : ℕ) (multi : Bool) (text : List ℕ) → delim < 256 → AreBytes text → Keeps PieceBytes (special delim multi text)
unfolding special
special-keeps delim multi text small are = by (first text == delim) where
  escaped : (r : Read (List ℕ)) → Keeps AreBytes r → Keeps PieceBytes (option_map (λ p. (Some p.0, p.1)) r)
  escaped None is = tt
  escaped (Some p) is = is

  ended : (b : Bool) → Keeps PieceBytes (if b then at_delims delim text else Some (None, drop 1 text))
  ended true = delims-keep delim text small are
  ended false = (tt, AreBytes-drop 1 text are)

  newline : (b : Bool) → Keeps PieceBytes (if b then Some (Some (first text ∷ []), drop 1 text) else None)
  newline true = ((first-byte text are, tt), AreBytes-drop 1 text are)
  newline false = tt

  other : (b : Bool) → Keeps PieceBytes (if b then option_map (λ p. (Some p.0, p.1)) (escape multi (drop 1 text))
      else if multi && starts_newline text then Some (Some (first text ∷ []), drop 1 text) else None)
  other true = escaped (escape multi (drop 1 text)) (escape-keeps multi (drop 1 text) (AreBytes-drop 1 text are))
  other false = newline (multi && starts_newline text)

  by : (b : Bool) → Keeps PieceBytes (if b then (if multi then at_delims delim text else Some (None, drop 1 text))
      else if first text == backslash then option_map (λ p. (Some p.0, p.1)) (escape multi (drop 1 text))
      else if multi && starts_newline text then Some (Some (first text ∷ []), drop 1 text) else None)
  by true = ended multi
  by false = other (first text == backslash)

prepend-keeps : (front : List ℕ) (r : Read (List ℕ)) → AreBytes front → Keeps AreBytes r → Keeps AreBytes (prepend front r)
prepend-keeps front None are is = tt
prepend-keeps front (Some p) are is = (all-append (λ b. b < 256) front p.0 are is.0, is.1)

body-keeps : (delim : ℕ) (multi : Bool) (n : ℕ) (text : List ℕ) → delim < 256 → AreBytes text → Keeps AreBytes (body delim multi n text)
unfolding body
body-keeps delim multi zero text small are = tt
body-keeps delim multi (suc n) text small are =
    by (is_plain delim multi (first text)) (λ rest own. body-keeps delim multi n rest small own) where
      piece : (r : Read (Option (List ℕ))) → Keeps PieceBytes r → ((rest : List ℕ) → AreBytes rest → Keeps AreBytes (body delim multi n rest))
          → Keeps AreBytes (option_and_then (λ p. after_piece (body delim multi n) p.0 p.1) r)
      piece None is later = tt
      piece (Some (None, rest)) is later = (tt, is.1)
      piece (Some (Some bytes, rest)) is later = prepend-keeps bytes (body delim multi n rest) is.0 (later rest is.1)

      by : (b : Bool) → ((rest : List ℕ) → AreBytes rest → Keeps AreBytes (body delim multi n rest))
          → Keeps AreBytes (if b then prepend (first text ∷ []) (body delim multi n (drop 1 text))
          else option_and_then (λ p. after_piece (body delim multi n) p.0 p.1) (special delim multi text))
      by true later =
          prepend-keeps (first text ∷ []) (body delim multi n (drop 1 text)) (first-byte text are, tt) (later (drop 1 text) (AreBytes-drop 1 text are))
      by false later = piece (special delim multi text) (special-keeps delim multi text small are) later

line-keeps : (text : List ℕ) → AreBytes text → Keeps AreBytes (one_line text)
unfolding one_line
line-keeps text are = body-keeps (first text) false (length text) (drop 1 text) (first-byte text are) (AreBytes-drop 1 text are)

trim-bytes : (text : List ℕ) → AreBytes text → AreBytes (trim_newline text)
trim-bytes text are = by (first text == line_feed) (starts_newline text) where
  by : (feed newline : Bool) → AreBytes (if feed then drop 1 text else if newline then drop 2 text else text)
  by true newline = AreBytes-drop 1 text are
  by false true = AreBytes-drop 2 text are
  by false false = are

pub quoted-keeps : (text : List ℕ) → AreBytes text → Keeps AreBytes (quoted text)
unfolding quoted
quoted-keeps text are = by (slice_index text 1 == first text && slice_index text 2 == first text) where
  by : (three : Bool) → Keeps AreBytes (if three then body (first text) true (length text) (trim_newline (drop 3 text)) else one_line text)
  by true =
      body-keeps (first text) true (length text) (trim_newline (drop 3 text)) (first-byte text are) (trim-bytes (drop 3 text) (AreBytes-drop 3 text are))
  by false = line-keeps text are

-- ---- keys and words

simple-keeps : (text : List ℕ) → AreBytes text → Keeps Any (simple_key text)
unfolding simple_key
simple-keeps text are = by (starts_string text) where
  word : (b : Bool) → Keeps Any (if b then Some (split_while is_bare text) else None)
  word true = (tt, AreBytes-drop (prefix_len is_bare text) text are)
  word false = tt

  by : (b : Bool) → Keeps Any (if b then one_line text else if is_bare (first text) then Some (split_while is_bare text) else None)
  by true = keeps-any AreBytes (one_line text) (line-keeps text are)
  by false = word (is_bare (first text))

key-after-keeps : (n : ℕ) (path : List (List ℕ)) (text : List ℕ) → AreBytes text → Keeps Any (key_after n path text)
unfolding key_after
key-after-keeps zero path text are = tt
key-after-keeps (suc n) path text are = by (simple_key text) (simple-keeps text are) (key-after-keeps n) where
  part : (p : List ℕ × List ℕ) (dots : Bool) → AreBytes p.1
      → ((more : List (List ℕ)) (rest : List ℕ) → AreBytes rest → Keeps Any (key_after n more rest))
      → Keeps Any (if dots then key_after n (path ++ p.0 ∷ []) (skip_ws (drop 1 (skip_ws p.1))) else Some ((path, p.0), skip_ws p.1))
  part p true own later =
      later (path ++ p.0 ∷ []) (skip_ws (drop 1 (skip_ws p.1)))
      (ws-bytes (drop 1 (skip_ws p.1)) (AreBytes-drop 1 (skip_ws p.1) (ws-bytes p.1 own)))
  part p false own later = (tt, ws-bytes p.1 own)

  by : (r : Read (List ℕ)) → Keeps Any r → ((more : List (List ℕ)) (rest : List ℕ) → AreBytes rest → Keeps Any (key_after n more rest))
      → Keeps Any (option_and_then (λ p. if first (skip_ws p.1) == dot then key_after n (path ++ p.0 ∷ []) (skip_ws (drop 1 (skip_ws p.1)))
      else Some ((path, p.0), skip_ws p.1)) r)
  by None is later = tt
  by (Some p) is later = part p (first (skip_ws p.1) == dot) is.1 later

pub key-keeps : (text : List ℕ) → AreBytes text → Keeps Any (key text)
key-keeps text are = key-after-keeps 80 [] text are

pub unquoted-keeps : (text : List ℕ) → AreBytes text → Keeps Any (unquoted text)
unfolding unquoted
unquoted-keeps text are = by (word_len text == 0) (word_value (take (word_len text) text)) where
  by : (none : Bool) (o : Option Scalar) → Keeps Any (if none then None else option_map (λ d. (d, drop (word_len text) text)) o)
  by true o = tt
  by false None = tt
  by false (Some d) = (tt, AreBytes-drop (word_len text) text are)
