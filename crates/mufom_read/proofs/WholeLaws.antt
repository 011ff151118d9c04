-- Faults of the header and of parts as wholes, read off the tables.
use Rattle.std.proofs.Common.{◌≡◌, ℕ, zero, suc, ◌+◌, ◌==◌, ◌&&◌, Bool, not, List, [], ◌∷◌, ◌++◌, length, Option, Some, None, refl, sym, ap, ◌∙◌}
use Rattle.std.proofs.Common.{arith, ◌⊎◌, inl, inr, eq-eqb, ne_eqb, length-append, Result, Ok, Err, IfOk}
use Rattle.std.proofs.lemmas.Bool.{cases_eq}
use Rattle.std.specs.Option.{option_or}
use Rattle.mufom_numbers.specs.declared.reason.Reason.TheVariants as why
use Rattle.mufom_records.specs.declared.record.Record.{Record}
use Rattle.mufom_module.specs.Contents.{any_of}
use Rattle.mufom_module.specs.SpelledRecords.{SpelledRecord, is_public_value, tree_of_record}
use Rattle.mufom_judging.specs.Prefixes.{OffsetRecord, first_present}
use Rattle.mufom_judging.specs.Faults.{Fault, leaves_gap, fault_if, first_fault, public_declared, lacks_value, has_unknown_variable, external_fault}
use Rattle.mufom_read.specs.Kept.{tables_of, statements, lacks_value_in, has_unknown_value_in, external_fault_in, first_or}
use Rattle.mufom_read.proofs.TableLaws.{value-has}
use Rattle.mufom_read.proofs.RuleLaws.{known-tree}

-- the first offset that is not 0 of offsets and one more
pub first_present-append : (offsets : List ℕ) (w : ℕ) → first_present (offsets ++ w ∷ []) ≡ first_or (first_present offsets) w
first_present-append [] zero = refl
first_present-append [] (suc w) = refl
first_present-append (zero ∷ offsets) w = first_present-append offsets w
first_present-append (suc v ∷ offsets) w = refl

one_more : (n m : ℕ) → ((n + 1) == (m + 1)) ≡ (n == m)
one_more n m = by_case (cases_eq n m) where
  by_case : ((n ≡ m) ⊎ (n ≡ m → ⊥)) → ((n + 1) == (m + 1)) ≡ (n == m)
  by_case (inl e) = eq-eqb (n + 1) (m + 1) (ap (λ k. k + 1) e) ∙ sym (eq-eqb n m e)
  by_case (inr d) = ne_eqb (n + 1) (m + 1) (λ e. d (omega (arith, e))) ∙ sym (ne_eqb n m d)

-- the eighth offset leaves a gap after seven
pub gap-last : (earlier : List ℕ) (w end : ℕ) → leaves_gap (earlier ++ w ∷ []) end ≡ ((length earlier == 7) && not (first_or (first_present earlier) w == end))
gap-last earlier w end =
    ap (λ n. (n == 8) && not (first_present (earlier ++ w ∷ []) == end)) (length-append earlier (w ∷ []))
    ∙ ap (λ b. b && not (first_present (earlier ++ w ∷ []) == end)) (one_more (length earlier) 7)
    ∙ ap (λ f. (length earlier == 7) && not (f == end)) (first_present-append earlier w)

-- what holds of a result that is there
pub if_ok : {A E : Type 0} (P Q : A → Type 0) (r : Result A E) → ((a : A) → P a → Q a) → IfOk r P → IfOk r Q
if_ok P Q (Ok a) h p = h a p
if_ok P Q (Err e) h p = tt

same_any : (f g : ℕ → Bool) (o : Option ℕ) → ((i : ℕ) → f i ≡ g i) → any_of f o ≡ any_of g o
same_any f g None same = refl
same_any f g (Some i) same = same i

value : (ps : List SpelledRecord) (row : Record) → lacks_value_in (tables_of ps) row ≡ lacks_value ps row
value ps row = same_any _ _ (public_declared row) (λ i. ap not (value-has i (statements ps)))

unknown : (ps : List SpelledRecord) (p : SpelledRecord) → has_unknown_value_in (tables_of ps) p ≡ has_unknown_variable ps p
unknown ps p = ap (λ b. is_public_value p.row && b) (known-tree ps (tree_of_record p))

same_first : (f g : OffsetRecord → Option Fault) (placed : List OffsetRecord) → ((p : OffsetRecord) → f p ≡ g p) → first_fault f placed ≡ first_fault g placed
same_first f g [] same = refl
same_first f g (p ∷ placed) same = ap (λ o. option_or o (first_fault f placed)) (same p) ∙ ap (λ o. option_or (g p) o) (same_first f g placed same)

-- the first public without a value, or value with a variable whose index is not declared
pub external_fault-tables : (ps : List SpelledRecord) (placed : List OffsetRecord) → first_fault (external_fault_in (tables_of ps)) placed
    ≡ first_fault (external_fault ps) placed
external_fault-tables ps placed = same_first _ _ placed (λ p.
    ap (λ b. option_or (fault_if b p.0 why.UnknownIndex) (fault_if (lacks_value_in (tables_of ps) p.1.row) p.0 why.MissingValue)) (unknown ps p.1)
    ∙ ap (λ b. option_or (fault_if (has_unknown_variable ps p.1) p.0 why.UnknownIndex) (fault_if b p.0 why.MissingValue)) (value ps p.1.row))
