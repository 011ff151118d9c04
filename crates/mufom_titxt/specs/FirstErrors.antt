-- The error of a text as a fact about its lines: nothing is wrong with the lines before, and this line is wrong, or no line ends the text.
use Rattle.std.specs.Prelude.{◌≡◌, ◌≢◌, ◌⊎◌, ℕ, suc, ◌+◌, ◌^◌, ◌<◌, ◌≤◌, true, false, List, [], ◌∷◌, ◌++◌, length, map, replicate, Option, Some, None}
use Rattle.std.specs.List.{All}
use Rattle.mufom_meaning.specs.AddressMap.{Cell}
use Rattle.mufom_meaning.specs.Walk.{has_number, first_twice}
use Rattle.mufom_refusals.specs.declared.text.TxtReason.{TxtReason}
use Rattle.mufom_refusals.specs.declared.text.TxtReason.TheVariants.{BadLine, NoAddress, Beyond, Twice, AfterEnd, NoEnd}
use Rattle.mufom_refusals.specs.declared.text.TxtRefusal.{TxtRefusal}
use Rattle.mufom_titxt.specs.Lines.{Line, blank_line, address_line, byte_line, end_line, line_of, lines_of}
use Rattle.mufom_titxt.specs.Texts.{next_after, cells_of_lines, AreInside}

-- the addresses of the bytes that lines give, if the next byte before them has the address `next`
abbrev pub addresses_from : Option ℕ → List Line → List ℕ
addresses_from next lines = map (λ (cell : Cell). cell.0) (cells_of_lines next lines)

-- the addresses of the bytes that the first lines of a text give
abbrev pub addresses_of : List Line → List ℕ
addresses_of lines = addresses_from None lines

-- the address of the next byte after these lines: that of the last line with an address, plus the number of bytes since then
abbrev pub address_after : Option ℕ → List Line → Option ℕ
address_after next [] = next
address_after next (line ∷ lines) = address_after (next_after next line) lines

-- Nothing is wrong with these lines as the first lines of a text, and none of them ends it.
pub record MayBegin (width : ℕ) (lines : List Line) : Type 0 where
  pub inside : AreInside None lines
  pub below : All (λ a. a < 2 ^ width) (addresses_of lines)
  pub once : first_twice [] (addresses_of lines) ≡ None

-- a byte may have the address, if those of `given` have bytes
abbrev pub IsFree : ℕ → List ℕ → ℕ → Type 0
IsFree modulus given a = (a < modulus) × (has_number given a ≡ false)

-- a byte may not have the address, for this reason
abbrev pub IsBarred : ℕ → List ℕ → ℕ → TxtReason → Type 0
IsBarred modulus given a Beyond = modulus ≤ a
IsBarred modulus given a (Twice b) = (a < modulus) × (has_number given a ≡ true) × (b ≡ a)
IsBarred modulus given a BadLine = ⊥
IsBarred modulus given a NoAddress = ⊥
IsBarred modulus given a AfterEnd = ⊥
IsBarred modulus given a NoEnd = ⊥

-- One of the bytes from an address on is the first that may not have its address.
pub record HasBarredByte (modulus : ℕ) (given : List ℕ) (at : ℕ) (bytes : List ℕ) (reason : TxtReason) : Type 0 where
  pub address : ℕ
  pub from : at ≤ address
  pub to : address < at + length bytes
  pub free : (a : ℕ) → at ≤ a → a < address → IsFree modulus given a
  pub barred : IsBarred modulus given address reason

-- what is wrong with a line with bytes, if the next byte has the address `next`
abbrev pub AreWrongBytes : ℕ → List ℕ → Option ℕ → List ℕ → TxtReason → Type 0
AreWrongBytes modulus given None bytes reason = reason ≡ NoAddress
AreWrongBytes modulus given (Some at) bytes reason = HasBarredByte modulus given at bytes reason

-- what is wrong with a line before the end of the text
abbrev pub IsWrongLine : ℕ → List ℕ → Option ℕ → Option Line → TxtReason → Type 0
IsWrongLine modulus given next None reason = reason ≡ BadLine
IsWrongLine modulus given next (Some blank_line) reason = ⊥
IsWrongLine modulus given next (Some (address_line address)) reason = ⊥
IsWrongLine modulus given next (Some (byte_line bytes)) reason = AreWrongBytes modulus given next bytes reason
IsWrongLine modulus given next (Some end_line) reason = ⊥

-- A line before the end of the text is wrong.
pub record IsWrongInside (lines : List (Option Line)) (width : ℕ) (refusal : TxtRefusal) : Type 0 where
  pub before : List Line
  pub line : Option Line
  pub after : List (Option Line)
  pub split : lines ≡ map (λ line. Some line) before ++ line ∷ after
  pub begun : MayBegin width before
  pub number : refusal.line ≡ suc (length before)
  pub wrong : IsWrongLine (2 ^ width) (addresses_of before) (address_after None before) line refusal.reason

-- A line after the end of the text, where only blank lines may be, is the first that is not blank.
pub record IsAfterEnd (lines : List (Option Line)) (width : ℕ) (refusal : TxtRefusal) : Type 0 where
  pub before : List Line
  pub blanks : ℕ
  pub line : Option Line
  pub after : List (Option Line)
  pub split : lines ≡ map (λ line. Some line) (before ++ end_line ∷ replicate blanks blank_line) ++ line ∷ after
  pub begun : MayBegin width before
  pub number : refusal.line ≡ suc (length before + suc blanks)
  pub wrong : line ≢ Some blank_line
  pub reason : refusal.reason ≡ AfterEnd

-- No line is wrong, and none ends the text.
pub record HasNoEnd (lines : List (Option Line)) (width : ℕ) (refusal : TxtRefusal) : Type 0 where
  pub before : List Line
  pub split : lines ≡ map (λ line. Some line) before
  pub begun : MayBegin width before
  pub number : refusal.line ≡ length before
  pub reason : refusal.reason ≡ NoEnd

-- the error of lines
abbrev pub IsErrorOf : List (Option Line) → ℕ → TxtRefusal → Type 0
IsErrorOf lines width refusal = IsWrongInside lines width refusal ⊎ (IsAfterEnd lines width refusal ⊎ HasNoEnd lines width refusal)

-- the error of a text
abbrev pub IsTxtError : List ℕ → ℕ → TxtRefusal → Type 0
IsTxtError text width refusal = IsErrorOf (map line_of (lines_of text)) width refusal
