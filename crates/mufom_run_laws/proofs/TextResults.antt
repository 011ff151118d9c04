-- Making the module of a TI-TXT text has a result: the file of the module, or an error.
use Rattle.std.proofs.Common.{◌≡◌, ℕ, ◌*◌, ◌≤◌, Bool, true, false, ◌||◌, nat_lt, List, [], ◌∷◌, length, map, Option, Some, None, IsSome}
use Rattle.std.proofs.Common.{refl, sym, ap, subst, ◌∙◌, inl, inr, arith, ltb-false, true≢false}
use Rattle.std.specs.Prelude.{◌==◌, if◌then◌else◌}
use Rattle.std.specs.List.{AllByRecursion}
use Rattle.mufom_numbers.specs.declared.limits.TheConstants.{MOST_FILE_BYTES}
use Rattle.mufom_host.specs.World.{NamedFile, file_named}
use Rattle.mufom_module.specs.declared.module.Parts.{Parts}
use Rattle.mufom_module.specs.Written.{written}
use Rattle.mufom_meaning.specs.declared.located.Run.{Run}
use Rattle.mufom_meaning.specs.AddressMap.{Cell}
use Rattle.mufom_meaning.specs.Facts.{loaded_twice}
use Rattle.mufom_meaning.specs.Walk.{has_number, first_twice}
use Rattle.mufom_meaning.proofs.Members.{In}
use Rattle.mufom_meaning.proofs.locations.CellRuns.{HaveOwnAddresses, rows_exist}
use Rattle.mufom_refusals.specs.declared.text.TxtRefusal.{TxtRefusal}
use Rattle.mufom_titxt.specs.TextModules.{text_parts}
use Rattle.mufom_titxt.specs.Texts.{IsTxtOf, txt_cells, txt_refusal}
use Rattle.mufom_titxt.proofs.AcceptLaws.{accepted_is_map}
use Rattle.mufom_titxt.proofs.ReadLaws.{have-module, have-text}
use Rattle.mufom_groups.specs.Work.{gives, stops, ◌>>=◌, sure}
use Rattle.mufom_outcome.specs.Stop.{past_limit, text_refused}
use Rattle.mufom_task.specs.declared.task.Inputs.{Inputs}
use Rattle.mufom_task.specs.Reading.{file_in, text_in, unless_past_limit}
use Rattle.mufom_works.specs.Works.{IsHeld, made, module_of_text, parts_of_txt, runs_of_text, runs_unless, writes_module}
use Rattle.mufom_works.proofs.TextLaws.{text-rows}
use Rattle.mufom_run_laws.specs.Results.{HasResult}
use Rattle.mufom_run_laws.proofs.TextHeld.{text-held}
use Rattle.mufom_run_laws.proofs.Then.{then-result}

-- ---- the addresses of a text without an error

abbrev addresses : List Cell → List ℕ
addresses cells = map (λ (cell : Cell). cell.0) cells

or-true : (b : Bool) → (b || true) ≡ true
or-true true = refl
or-true false = refl

is-same : (n : ℕ) → (n == n) ≡ true
is-same n = grind arith

-- no cell has an address of those before it
fresh : (cells : List Cell) (earlier : List ℕ) → first_twice earlier (addresses cells) ≡ None → (a : ℕ) → has_number earlier a ≡ true
    → (other : Cell) → In other cells → a ≡ other.0 → ⊥
fresh [] earlier none a had other there same = there
fresh (cell ∷ cells) earlier none a had other there same = by (has_number earlier cell.0) refl none there (fresh cells (cell.0 ∷ earlier)) where
  by : (b : Bool) → has_number earlier cell.0 ≡ b
      → (if b then Some (loaded_twice cell.0) else first_twice (cell.0 ∷ earlier) (addresses cells)) ≡ None → In other (cell ∷ cells)
      → (first_twice (cell.0 ∷ earlier) (addresses cells) ≡ None → (n : ℕ) → has_number (cell.0 ∷ earlier) n ≡ true → (c : Cell) → In c cells → n ≡ c.0 → ⊥)
      → ⊥
  by true is none there later = absurd cc
  by false is none (inl own) later =
      let first : cell.0 ≡ a = ap (λ (c : Cell). c.0) own ∙ sym same in
      true≢false (sym (ap (has_number earlier) first ∙ had) ∙ is)
  by false is none (inr more) later = later none a (ap (λ b. (cell.0 == a) || b) had ∙ or-true (cell.0 == a)) other more same

own-addresses : (cells : List Cell) (earlier : List ℕ) → first_twice earlier (addresses cells) ≡ None → HaveOwnAddresses cells
own-addresses [] earlier none = tt
own-addresses (cell ∷ cells) earlier none = by (has_number earlier cell.0) none (own-addresses cells (cell.0 ∷ earlier)) where
  by : (b : Bool) → (if b then Some (loaded_twice cell.0) else first_twice (cell.0 ∷ earlier) (addresses cells)) ≡ None
      → (first_twice (cell.0 ∷ earlier) (addresses cells) ≡ None → HaveOwnAddresses cells) → HaveOwnAddresses (cell ∷ cells)
  by true none later = absurd cc
  by false none later =
      let had : has_number (cell.0 ∷ earlier) cell.0 ≡ true = ap (λ b. b || has_number earlier cell.0) (is-same cell.0) in
      (fresh cells (cell.0 ∷ earlier) none cell.0 had, later none)

-- ---- the runs of a text

module _ (maus : ℕ) (text : List ℕ) where
  runs-result : HasResult (runs_of_text maus text)
  runs-result = by (txt_refusal text (8 * maus)) refl where
    by : (o : Option TxtRefusal) → txt_refusal text (8 * maus) ≡ o → HasResult (runs_of_text maus text)
    by None none =
        let (runs, rows) = rows_exist (txt_cells text) (own-addresses (txt_cells text) [] (accepted_is_map text (8 * maus) none).once) in
        (gives runs, text-rows maus text runs (record { accepted = none; rows = rows }))
    by (Some r) found = (
      stops (text_refused r),
      subst (λ (o : Option TxtRefusal). runs_unless o text (stops (text_refused r))) (sym found) refl,
    )

  is-text : (runs : List Run) → runs_of_text maus text (gives runs) → IsTxtOf text (8 * maus) runs
  is-text runs is = by (txt_refusal text (8 * maus)) refl is where
    by : (o : Option TxtRefusal) → txt_refusal text (8 * maus) ≡ o → runs_unless o text (gives runs) → IsTxtOf text (8 * maus) runs
    by None none rows = record { accepted = none; rows = rows }
    by (Some r) found never = absurd never

-- ---- the text in a file

limited-result : (long : Bool) (bytes : List ℕ) → HasResult (unless_past_limit long bytes)
limited-result true bytes = (stops (past_limit 0), refl)
limited-result false bytes = (gives bytes, refl)

text-result : (files : List NamedFile) (names : List (List ℕ)) → 1 ≤ length names → AllByRecursion (λ name. IsSome (file_named name files)) names
    → HasResult (text_in files names)
text-result files [] some exist = absurd (omega (arith, some))
text-result files (name ∷ names) some exist = by (file_named name files) refl exist.0 where
  by : (o : Option (List ℕ)) → file_named name files ≡ o → IsSome o → HasResult (text_in files (name ∷ names))
  by None there is = absurd (true≢false (sym is))
  by (Some bytes) there is =
      then-result (file_in files name) (λ text. unless_past_limit (nat_lt MOST_FILE_BYTES (length text)) text) (gives bytes, there)
      (λ text is_text. limited-result (nat_lt MOST_FILE_BYTES (length text)) text)

-- a text that is read is not too long
text-short : (files : List NamedFile) (names : List (List ℕ)) (text : List ℕ) → text_in files names (gives text) → length text ≤ MOST_FILE_BYTES
text-short files [] text never = absurd never
text-short files (name ∷ names) text (bytes, there, is) = by (nat_lt MOST_FILE_BYTES (length bytes)) refl is where
  by : (b : Bool) → nat_lt MOST_FILE_BYTES (length bytes) ≡ b → unless_past_limit b bytes (gives text) → length text ≤ MOST_FILE_BYTES
  by true long never = absurd never
  by false short same =
      let fits = ltb-false MOST_FILE_BYTES (length bytes) short in
      let size : length text ≡ length bytes = ap (λ (l : List ℕ). length l) same in
      omega (arith, fits, size)

-- ---- the file of its module

module _ (files : List NamedFile) (inputs : Inputs) (maus : ℕ) (out : List ℕ) (low : 1 ≤ maus) (high : maus ≤ 8) where
  written-result : (text : List ℕ) → length text ≤ MOST_FILE_BYTES → (m : Parts) → parts_of_txt maus text (gives m) → HasResult (writes_module out m)
  written-result text short m (runs, is_runs, same) =
      let is = is-text maus text runs is_runs in
      let held = text-held maus runs low high (have-module text (8 * maus) runs is short) (have-text text (8 * maus) runs is (omega (arith, high))) in
      (gives (made out (written m)), (subst IsHeld (sym same) held, refl))

  pub from-txt-result : 1 ≤ length inputs.files → AllByRecursion (λ name. IsSome (file_named name files)) inputs.files
      → HasResult (module_of_text (parts_of_txt maus) out files inputs)
  from-txt-result some exist =
      then-result (text_in files inputs.files) (λ text. parts_of_txt maus text >>= λ m. writes_module out m) (text-result files inputs.files some exist)
      (λ text is_read. then-result (parts_of_txt maus text) (λ m. writes_module out m)
      (then-result (runs_of_text maus text) (λ runs. sure (text_parts maus runs)) (runs-result maus text) (λ runs is. (gives (text_parts maus runs), refl)))
      (λ m is_module. written-result text (text-short files inputs.files text is_read) m is_module))
