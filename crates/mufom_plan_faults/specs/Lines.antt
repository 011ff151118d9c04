-- The line at which bytes stop being a document.
use Rattle.std.specs.Prelude.{◌≡◌, ℕ, zero, suc, ◌+◌, ◌==◌, ◌<◌, ◌≤◌, List, filter, length, take, is_some, slice_index_or, Bool, true, false, ◌&&◌}
use Rattle.mufom_plan.specs.Document.{document_of}

-- the byte at the end of a line
abbrev pub line_end : ℕ
line_end = 10

-- the bytes are a document
abbrev pub is_document : List ℕ → Bool
is_document bytes = is_some (document_of bytes)

-- a line begins at this position of the text, or the text ends there with a whole line
abbrev pub begins_line : List ℕ → ℕ → Bool
begins_line text zero = true
begins_line text (suc n) = slice_index_or text n 0 == line_end

-- up to this position the text has whole lines alone, and is a document
abbrev pub is_whole : List ℕ → ℕ → Bool
is_whole text n = begins_line text n && is_document (take n text)

-- this is the last such position
pub record IsLastWhole (text : List ℕ) (n : ℕ) : Type 0 where
  pub within : n ≤ length text
  pub whole : is_whole text n ≡ true
  pub last : (m : ℕ) → n < m → m ≤ length text → is_whole text m ≡ false

-- the number of the line that begins after these bytes, from 1
abbrev pub line_number : List ℕ → ℕ
line_number before = 1 + length (filter (λ byte. byte == line_end) before)

-- The line after the longest run of leading lines that is a document by itself, from 1.
abbrev pub IsSyntaxLine : List ℕ → ℕ → Type 0
IsSyntaxLine text line = (n : ℕ) × IsLastWhole text n × (line ≡ line_number (take n text))
