-- How a text is cut into lines, and a line into words.
use Rattle.std.proofs.Common.{◌≡◌, ◌≢◌, ℕ, zero, suc, ◌+◌, ◌-◌, ◌<◌, ◌≤◌, List, [], ◌∷◌, length, get_or, take, drop, filter, Bool, true, false, cond}
use Rattle.std.proofs.Common.{not, inl, inr, ◌⊎◌, refl, sym, ◌∙◌, ap, arith, add-one, drop-cons}
use Rattle.std.proofs.Math.Seq.{take-length, drop-length}
use Rattle.std.proofs.lemmas.List.{length-drop}
use Rattle.std.specs.Prelude.{◌==◌, nat_lt, if◌then◌else◌}
use Rattle.std.specs.List.{slice_split, position_or_len, prefix_len, before_first, after_first}
use Rattle.std.proofs.lemmas.List.Splits.{length-slice_split, slice_split_none, slice_split_first, slice_split-cons_yes}
use Rattle.std.proofs.lemmas.List.Sums.{fails_before_first, passes_at_first, position_or_len_is}
use Rattle.std.proofs.lemmas.List.Elements.{All-from_get_or}
use Rattle.memchr.specs.Find.{Passes, Nowhere, NoneBefore, is_byte}
use Rattle.mufom_numbers.proofs.Choices.{equal_numbers}
use Rattle.mufom_titxt.specs.Scans.{begins_with_space}
use Rattle.mufom_titxt.specs.Lines.{without_return, ended_lines, lines_of, has_bytes, words_of}

-- a carriage return at the end
pub return_cut : (line : List ℕ) (n : ℕ) → suc n ≡ length line → get_or line n 0 ≡ 13 → take n line ≡ without_return line
return_cut [] n e h = absurd (omega (arith, e))
return_cut (b ∷ []) zero e h = rw h refl
return_cut (b ∷ []) (suc n) e h = absurd (omega (arith, e))
return_cut (b ∷ c ∷ bytes) zero e h = absurd (omega (arith, e))
return_cut (b ∷ c ∷ bytes) (suc n) e h = ap (λ t. b ∷ t) (return_cut (c ∷ bytes) n (omega (arith, e)) h)

-- no carriage return at the end
pub return_absent : (line : List ℕ) (n : ℕ) → suc n ≡ length line → get_or line n 0 ≢ 13 → line ≡ without_return line
return_absent [] n e h = refl
return_absent (b ∷ []) zero e h = by_case (b == 13) refl where
  by_case : (t : Bool) → (b == 13) ≡ t → (b ∷ []) ≡ (if t then [] else b ∷ [])
  by_case true same = absurd (h (grind (arith, same)))
  by_case false same = refl
return_absent (b ∷ []) (suc n) e h = absurd (omega (arith, e))
return_absent (b ∷ c ∷ bytes) zero e h = absurd (omega (arith, e))
return_absent (b ∷ c ∷ bytes) (suc n) e h = ap (λ t. b ∷ t) (return_absent (c ∷ bytes) n (omega (arith, e)) h)

-- if nothing passes, all is one piece
pub split_whole : (p : ℕ → Bool) (xs : List ℕ) → position_or_len p xs ≡ length xs → slice_split p xs ≡ xs ∷ []
split_whole p xs e = slice_split_none p xs (All-from_get_or (λ x. p x ≡ false) xs 0 (λ i h. fails_before_first p xs i 0 (rw e h)))

-- what is not a line feed
fed_not : (text : List ℕ) (k : ℕ) → (Passes (is_byte 10) text k → ⊥) → (get_or text k 0 == 10) ≡ false
fed_not text k none = by_test (get_or text k 0 == 10) refl where
  by_test : (t : Bool) → (get_or text k 0 == 10) ≡ t → t ≡ false
  by_test true same = absurd (none same)
  by_test false same = refl

-- the first line feed, as a search finds it
pub feed_at : (text : List ℕ) (n : ℕ) → NoneBefore (Passes (is_byte 10) text) 0 (length text) n → Passes (is_byte 10) text n
    → position_or_len (λ b. b == 10) text ≡ n
feed_at text n before passes =
    let high = before.high in
    position_or_len_is (λ b. b == 10) text n 0 (omega (arith, high)) (λ k less. fed_not text k (before.before k (omega arith) less)) (λ less. passes)

-- and if it finds none
pub feed_none : (text : List ℕ) → Nowhere (Passes (is_byte 10) text) 0 (length text) → position_or_len (λ b. b == 10) text ≡ length text
feed_none text nowhere =
    position_or_len_is (λ b. b == 10) text (length text) 0 (omega arith) (λ k less. fed_not text k (nowhere k (omega arith) less))
    (λ less. absurd (omega (arith, less)))

-- a piece before others ends at a line feed
pub ended_more : (piece : List ℕ) (pieces : List (List ℕ)) → 0 < length pieces → ended_lines (piece ∷ pieces) ≡ without_return piece ∷ ended_lines pieces
ended_more piece [] h = absurd (omega (arith, h))
ended_more piece (next ∷ pieces) h = refl

-- the first line of a text with a line feed
pub lines_cut : (text : List ℕ) → position_or_len (λ b. b == 10) text < length text
    → lines_of text ≡ without_return (before_first (λ b. b == 10) text) ∷ lines_of (after_first (λ b. b == 10) text)
lines_cut text h =
    let rest : List ℕ = after_first (λ b. b == 10) text in
    let n = length-slice_split (λ (b : ℕ). b == 10) rest in
    ap ended_lines (slice_split_first (λ b. b == 10) text 0 h)
    ∙ ended_more (before_first (λ b. b == 10) text) (slice_split (λ b. b == 10) rest) (omega (arith, n))

-- a text without a line feed is one line
pub lines_whole : (text : List ℕ) → position_or_len (λ b. b == 10) text ≡ length text → lines_of text ≡ text ∷ []
lines_whole text e = ap ended_lines (split_whole (λ b. b == 10) text e)

-- a space at the front
pub words_space : (rest : List ℕ) → words_of (32 ∷ rest) ≡ words_of rest
words_space rest = ap (filter has_bytes) (slice_split-cons_yes (λ b. b == 32) 32 rest refl)

-- what is at the front is a piece that is not empty
piece_first : (n : ℕ) (rest : List ℕ) (pieces : List (List ℕ)) → 0 < n → n ≤ length rest
    → filter has_bytes (take n rest ∷ pieces) ≡ take n rest ∷ filter has_bytes pieces
piece_first zero rest pieces h within = absurd (omega (arith, h))
piece_first (suc n) [] pieces h within = absurd (omega (arith, within))
piece_first (suc n) (b ∷ more) pieces h within = refl

-- the place of the first space is not the first one
pub word_some : (b : ℕ) (more : List ℕ) → (b == 32) ≡ false → 0 < position_or_len (λ c. c == 32) (b ∷ more)
word_some b more other = by_case (b == 32) other where
  by_case : (t : Bool) → t ≡ false → 0 < cond (not t) (1 + prefix_len (λ x. not (x == 32)) more) 0
  by_case true e = absurd (cc e)
  by_case false e = omega arith

-- a length that is not 0
pub not_zero : (n : ℕ) → (n == 0) ≡ false → 0 < n
not_zero zero e = absurd (cc e)
not_zero (suc n) e = omega arith

-- the first space of a line that begins with another byte is not the first byte
pub word_begins : (rest : List ℕ) → 0 < length rest → begins_with_space rest ≡ false → 0 < position_or_len (λ c. c == 32) rest
word_begins [] some other = absurd (omega (arith, some))
word_begins (b ∷ more) some other = word_some b more other

-- if a space ends the first word
pub words_to_space : (rest : List ℕ) → 0 < position_or_len (λ c. c == 32) rest → position_or_len (λ c. c == 32) rest < length rest
    → words_of rest ≡ take (position_or_len (λ c. c == 32) rest) rest ∷ words_of (drop (position_or_len (λ c. c == 32) rest) rest)
words_to_space rest some within =
    let p : ℕ → Bool = λ c. c == 32 in
    let n : ℕ = position_or_len p rest in
    let space : get_or rest n 0 ≡ 32 = equal_numbers (get_or rest n 0) 32 (passes_at_first p rest 0 within) in
    let after : drop n rest ≡ 32 ∷ drop (suc n) rest = drop-cons rest n 0 within ∙ ap (λ b. b ∷ drop (suc n) rest) space in
    let words : words_of (drop n rest) ≡ words_of (drop (suc n) rest) = ap words_of after ∙ words_space (drop (suc n) rest) in
    ap (filter has_bytes) (slice_split_first p rest 0 within)
    ∙ (piece_first n rest (slice_split p (after_first p rest)) some (omega arith)
    ∙ (ap (λ k. take n rest ∷ words_of (drop k rest)) (add-one n) ∙ ap (λ ws. take n rest ∷ ws) (sym words)))

-- if the line ends with it
words_to_end : (rest : List ℕ) → 0 < length rest → position_or_len (λ c. c == 32) rest ≡ length rest → words_of rest ≡ rest ∷ []
words_to_end [] some e = absurd (omega (arith, some))
words_to_end (b ∷ more) some e = ap (filter has_bytes) (split_whole (λ c. c == 32) (b ∷ more) e)

-- a line that begins with another byte than a space begins with a word
pub words_first : (rest : List ℕ) → 0 < position_or_len (λ c. c == 32) rest → position_or_len (λ c. c == 32) rest ≤ length rest
    → words_of rest ≡ take (position_or_len (λ c. c == 32) rest) rest ∷ words_of (drop (position_or_len (λ c. c == 32) rest) rest)
words_first rest some within = by_case (le-split (position_or_len (λ c. c == 32) rest) (length rest) within) where
  le-split : (m n : ℕ) → m ≤ n → (m < n) ⊎ (m ≡ n)
  le-split m n h = by_test (nat_lt m n) refl where
    by_test : (t : Bool) → nat_lt m n ≡ t → (m < n) ⊎ (m ≡ n)
    by_test true e = inl (grind (arith, e))
    by_test false e = inr (grind (arith, e, h))

  by_case : (position_or_len (λ c. c == 32) rest < length rest) ⊎ (position_or_len (λ c. c == 32) rest ≡ length rest)
      → words_of rest ≡ take (position_or_len (λ c. c == 32) rest) rest ∷ words_of (drop (position_or_len (λ c. c == 32) rest) rest)
  by_case (inl less) = words_to_space rest some less
  by_case (inr same) = words_to_end rest (omega (arith, some, same)) same
      ∙ rw same (ap (λ w. w ∷ []) (sym (take-length rest)) ∙ ap (λ w. take (length rest) rest ∷ words_of w) (sym (drop-length rest)))

-- all that is left after some bytes
pub rest_whole : (n : ℕ) (xs : List ℕ) → take (length xs - n) (drop n xs) ≡ drop n xs
rest_whole n xs = ap (λ k. take k (drop n xs)) (sym (length-drop n xs)) ∙ take-length (drop n xs)
