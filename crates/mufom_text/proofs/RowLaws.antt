-- A row of bytes as text, byte by byte.
use Rattle.std.proofs.Common.{◌≡◌, ℕ, ◌+◌, ◌<◌, ◌==◌, Bool, false, List, [], ◌∷◌, ◌++◌, length, get_or, drop, refl, sym, ap, ◌∙◌, inl, inr, arith}
use Rattle.std.proofs.Common.{add-one, drop-cons}
use Rattle.std.proofs.lemmas.Bool.{cases_eq, eq-eqb, ne_eqb}
use Rattle.std.proofs.lemmas.List.{append_assoc, length-drop, nil_from_length}
use Rattle.mufom_text.specs.Words.{Text}
use Rattle.mufom_text.specs.Image.{byte_text, is_last, row_text}

not_last : (bytes : List ℕ) → 0 < length bytes → is_last bytes ≡ false
not_last [] some = absurd (omega arith)
not_last (b ∷ bytes) some = refl

is_last-length : (i : ℕ) (bytes : List ℕ) → i < length bytes → is_last (drop (i + 1) bytes) ≡ (i + 1 == length bytes)
is_last-length i bytes in_it = elim (cases_eq (i + 1) (length bytes)) [
  | inl end ↦ ap is_last (nil_from_length (drop (i + 1) bytes) (omega (arith, length-drop (i + 1) bytes, end))) ∙ sym (eq-eqb (i + 1) (length bytes) end)
  | inr more ↦ not_last (drop (i + 1) bytes) (omega (arith, length-drop (i + 1) bytes, in_it, more)) ∙ sym (ne_eqb (i + 1) (length bytes) more)
]

module _ (maus : ℕ) where
  row_text-drop : (first : Bool) (a i : ℕ) (bytes : List ℕ) → i < length bytes
      → row_text maus first a (drop i bytes) ≡ byte_text maus first (i + 1 == length bytes) a (get_or bytes i 0)
      ++ row_text maus false (a + 1) (drop (i + 1) bytes)
  row_text-drop first a i bytes in_it =
      let rest = drop (i + 1) bytes in
      let cons : drop i bytes ≡ get_or bytes i 0 ∷ rest = rw add-one (drop-cons bytes i 0 in_it) in
      ap (λ (l : List ℕ). row_text maus first a l) cons
      ∙ ap (λ (last : Bool). byte_text maus first last a (get_or bytes i 0) ++ row_text maus false (a + 1) rest) (is_last-length i bytes in_it)

  -- the row goes on after a byte
  pub row_text-next : (done : Text) (at i : ℕ) (bytes : List ℕ) → i < length bytes
      → done ++ row_text maus (i == 0) (at + i) (drop i bytes)
      ≡ (done ++ byte_text maus (i == 0) (i + 1 == length bytes) (at + i) (get_or bytes i 0)) ++ row_text maus (i + 1 == 0) (at + (i + 1)) (drop (i + 1) bytes)
  row_text-next done at i bytes in_it =
      let rest = drop (i + 1) bytes in
      let one = byte_text maus (i == 0) (i + 1 == length bytes) (at + i) (get_or bytes i 0) in
      let no : false ≡ (i + 1 == 0) = not_zero i in
      let sum : at + i + 1 ≡ at + (i + 1) = omega arith in
      ap (λ (t : Text). done ++ t) (row_text-drop (i == 0) (at + i) i bytes in_it) ∙ sym (append_assoc done one (row_text maus false (at + i + 1) rest))
      ∙ (λ k. (done ++ one) ++ row_text maus (no k) (sum k) rest) where
        not_zero : (n : ℕ) → false ≡ (n + 1 == 0)
        not_zero n = sym (ne_eqb (n + 1) 0 (λ e. omega (arith, e)))
