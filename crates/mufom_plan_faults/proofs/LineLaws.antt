-- A text stops being a document at one line, and how its lines are counted.
use Rattle.std.proofs.Common.{◌≡◌, ℕ, ◌+◌, ◌<◌, List, [], ◌∷◌, ◌++◌, length, take, get_or, Bool, true, false, refl, sym, ap, ◌∙◌, arith}
use Rattle.std.specs.Str.Lossy.{utf8_valid_len}
use Rattle.std.specs.Prelude.{◌==◌, filter, if◌then◌else◌}
use Rattle.std.proofs.lemmas.List.{take_more, length-append}
use Rattle.std.proofs.lemmas.List.Elements.{filter-append}
use Rattle.toml.proofs.OnLiterals.{toml_on_literals}
use Rattle.mufom_plan_faults.specs.Lines.{IsLastWhole, IsSyntaxLine, is_whole, line_end, line_number}

-- a place before another is not the last
not-before : (text : List ℕ) (m n : ℕ) → IsLastWhole text m → IsLastWhole text n → m < n → ⊥
not-before text m n one other less = let both : true ≡ false = sym other.whole ∙ one.last n less other.within in cc

last-whole-single : (text : List ℕ) (m n : ℕ) → IsLastWhole text m → IsLastWhole text n → m ≡ n
last-whole-single text m n one other =
    let low = not-before text m n one other in
    let high = not-before text n m other one in
    grind (arith, low, high)

pub syntax-line-single : (text : List ℕ) (a b : ℕ) → IsSyntaxLine text a → IsSyntaxLine text b → a ≡ b
syntax-line-single text a b (m, one, is_a) (n, other, is_b) =
    is_a ∙ (ap (λ k. line_number (take k text)) (last-whole-single text m n one other) ∙ sym is_b)

-- no lines are a document
pub nothing-whole : (text : List ℕ) → is_whole text 0 ≡ true
unfolding toml_on_literals utf8_valid_len
nothing-whole text = refl

-- ---- counting lines

-- one byte more
pub line-more : (bytes : List ℕ) (i d b : ℕ) → i < length bytes → b ≡ get_or bytes i d
    → line_number (take (i + 1) bytes) ≡ (if b == line_end then line_number (take i bytes) + 1 else line_number (take i bytes))
line-more bytes i d b inside is =
    ap line_number (take_more bytes i d inside ∙ ap (λ x. take i bytes ++ x ∷ []) (sym is))
    ∙ ap (λ l. 1 + length l) (filter-append (λ byte. byte == line_end) (take i bytes) (b ∷ []))
    ∙ by (b == line_end) where
      before : List ℕ
      before = filter (λ byte. byte == line_end) (take i bytes)

      by : (test : Bool) → 1 + length (before ++ (if test then b ∷ [] else [])) ≡ (if test then 1 + length before + 1 else 1 + length before)
      by true = let sum = length-append before (b ∷ []) in omega (arith, sum)
      by false = let sum = length-append before [] in omega (arith, sum)
