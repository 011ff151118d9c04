-- The bytes of a record determine it, whatever follows them.
use Rattle.std.proofs.Common.{◌≡◌, ℕ, zero, suc, ◌+◌, ◌<◌, List, [], ◌∷◌, ◌++◌, length, drop, Option, Some, None, refl, sym, ap, subst, ◌∙◌, inl, inr}
use Rattle.std.proofs.Common.{arith, append_assoc}
use Rattle.std.specs.Option.{option_to_list}
use Rattle.std.proofs.lemmas.Bool.{cases_lt}
use Rattle.std.proofs.lemmas.List.{append-nil, length-append}
use Rattle.mufom_numbers.specs.declared.taken.Span.{Span}
use Rattle.mufom_numbers.specs.declared.taken.Taken.TheVariants as taken
use Rattle.mufom_numbers.specs.Spelling.{SpellsNumber, number_at}
use Rattle.mufom_numbers.proofs.SpellingLaws.{number_at-spelling}
use Rattle.mufom_expr.specs.Tree.{Tree}
use Rattle.mufom_expr.specs.Spelled.{SpellsTree}
use Rattle.mufom_records.specs.declared.record.Mode.{Mode}
use Rattle.mufom_records.specs.declared.record.Record.{Record}
use Rattle.mufom_records.specs.Fields.{Field, ValueOf, byte, number, string, run, letter, optional_number, numbers, expression, optional_expression}
use Rattle.mufom_records.specs.Fields.{sized_expression}
use Rattle.mufom_records.specs.Fields.{SpellsField, SpellsNumbers, first_of, items_of}
use Rattle.mufom_records.specs.Layouts.{Layout, whole, refused, field, SpellsRecord, layout_of, IsWholeRecord}
use Rattle.mufom_records.proofs.Exact.{same_value, same_place, first_of-append}
use Rattle.mufom_records.proofs.ExpressionLaws.{tree_first}
use Rattle.mufom_records.proofs.RecordLaws.{exact}

-- ---- two spellings, one of which begins with the other

-- two numbers at the start of one list are the same
one_number : (n m : ℕ) (one two rest more : List ℕ) → SpellsNumber n one → SpellsNumber m two → one ++ rest ≡ two ++ more → (n ≡ m) × (length one ≡ length two)
one_number n m one two rest more first second same =
    let e : taken.Got n (length one) ≡ taken.Got m (length two) = sym (number_at-spelling n one rest first) ∙ ap number_at same
    ∙ number_at-spelling m two more second in
    (cc, cc)

same_length : (one two rest more : List ℕ) → one ++ rest ≡ two ++ more → length one ≡ length two → (one ≡ two) × (rest ≡ more)
same_length [] [] rest more same count = (refl, same)
same_length [] (t ∷ two) rest more same count = absurd (omega (arith, count))
same_length (o ∷ one) [] rest more same count = absurd (omega (arith, count))
same_length (o ∷ one) (t ∷ two) rest more same count =
    let head : o ≡ t = cc in
    let tail : one ++ rest ≡ two ++ more = cc in
    let later = same_length one two rest more tail (omega (arith, count)) in
    (λ i. head i ∷ later.0 i, later.1)

not_none : (n : ℕ) (bytes : List ℕ) → SpellsNumber n bytes → bytes ≡ [] → ⊥
not_none n [] spells none = spells
not_none n (b ∷ bytes) spells none = cc

one_row : (ns ms bytes : List ℕ) → SpellsNumbers ns bytes → SpellsNumbers ms bytes → ns ≡ ms
one_row [] [] bytes first second = refl
one_row [] (m ∷ ms) bytes none (one, two, spelled, spells, parts) = absurd (not_none m one spelled (prefix_none one two (sym parts ∙ none))) where
  prefix_none : (xs ys : List ℕ) → xs ++ ys ≡ [] → xs ≡ []
  prefix_none [] ys e = refl
  prefix_none (x ∷ xs) ys e = absurd cc
one_row (n ∷ ns) [] bytes (one, two, spelled, spells, parts) none = absurd (not_none n one spelled (prefix_none one two (sym parts ∙ none))) where
  prefix_none : (xs ys : List ℕ) → xs ++ ys ≡ [] → xs ≡ []
  prefix_none [] ys e = refl
  prefix_none (x ∷ xs) ys e = absurd cc
one_row (n ∷ ns) (m ∷ ms) bytes (one, two, spelled, spells, parts) (one2, two2, spelled2, spells2, parts2) =
    let same = one_number n m one one2 two two2 spelled spelled2 (sym parts ∙ parts2) in
    let tails = same_length one one2 two two2 (sym parts ∙ parts2) same.1 in
    let later = one_row ns ms two spells (subst (λ (l : List ℕ). SpellsNumbers ms l) (sym tails.1) spells2) in
    λ i. same.0 i ∷ later i

-- ---- values are determined by their bytes

abbrev zeros : ℕ → List ℕ
zeros zero = []
zeros (suc k) = 0 ∷ zeros k

dropped : (k : ℕ) (bytes : List ℕ) → drop k (zeros k ++ bytes) ≡ bytes
dropped zero bytes = refl
dropped (suc k) bytes = dropped k bytes

no_tree : (bytes : List ℕ) (tree : Tree) → SpellsTree tree bytes → bytes ≡ [] → ⊥
no_tree bytes tree spells none =
    let begins = tree_first tree bytes [] spells in
    let e : [] ≡ begins.0 ∷ begins.1 = sym (append-nil bytes ∙ none) ∙ begins.2 in cc

-- a field whose spelling does not depend on what follows it
by_bytes : (f : Field) (x y : ValueOf f) (at : ℕ) (prefix : List ℕ) → SpellsField f x at prefix None → SpellsField f y at prefix None → x ≡ y
by_bytes f x y at prefix first second =
    let input = zeros at ++ prefix in
    let split : drop at input ≡ prefix ++ [] = dropped at prefix ∙ sym (append-nil prefix) in
    same_value x y (at + length prefix) (at + length prefix) (sym ((exact f).only input at x prefix [] first split)
    ∙ (exact f).only input at y prefix [] second split)

-- an expression with or without a size, before a closing bracket
closed_too : (x : ValueOf sized_expression) (at : ℕ) (prefix : List ℕ) (next : Option ℕ) → SpellsField sized_expression x at prefix next
    → SpellsField sized_expression x at prefix (Some 0xBB)
closed_too (span, None) at prefix next spells = (spells.0, spells.1, refl)
closed_too (span, Some last) at prefix next (tree, text, number_bytes, spells, few, spelled, fits, uses, span_is, closed, parts) =
    (tree, text, number_bytes, spells, few, spelled, fits, uses, span_is, refl, parts)

sized_once : (x y : ValueOf sized_expression) (at : ℕ) (prefix : List ℕ) (next other : Option ℕ) → SpellsField sized_expression x at prefix next
    → SpellsField sized_expression y at prefix other → x ≡ y
sized_once x y at prefix next other first second =
    let input = zeros at ++ (prefix ++ 0xBB ∷ []) in
    let split : drop at input ≡ prefix ++ 0xBB ∷ [] = dropped at (prefix ++ 0xBB ∷ []) in
    same_value x y (at + length prefix) (at + length prefix)
    (sym ((exact sized_expression).only input at x prefix (0xBB ∷ []) (closed_too x at prefix next first) split)
    ∙ (exact sized_expression).only input at y prefix (0xBB ∷ []) (closed_too y at prefix other second) split)

same_field : (f : Field) (x y : ValueOf f) (at : ℕ) (prefix : List ℕ) (next other : Option ℕ) → SpellsField f x at prefix next
    → SpellsField f y at prefix other → x ≡ y
same_field byte x y at prefix next other first second = by_bytes byte x y at prefix first second
same_field (number fits offset fault) x y at prefix next other first second = by_bytes (number fits offset fault) x y at prefix first second
same_field string x y at prefix next other first second = by_bytes string x y at prefix first second
same_field (run n) x y at prefix next other first second = by_bytes (run n) x y at prefix first second
same_field (letter known) None None at prefix next other first second = refl
same_field (letter known) None (Some b) at prefix next other first second = let e : [] ≡ b ∷ [] = sym first.0 ∙ second.0 in absurd cc
same_field (letter known) (Some b) None at prefix next other first second = let e : [] ≡ b ∷ [] = sym second.0 ∙ first.0 in absurd cc
same_field (letter known) (Some b) (Some c) at prefix next other first second = by_bytes (letter known) (Some b) (Some c) at prefix first second
same_field optional_number None None at prefix next other first second = refl
same_field optional_number None (Some n) at prefix next other first second = absurd (not_none n prefix second first.0)
same_field optional_number (Some n) None at prefix next other first second = absurd (not_none n prefix first second.0)
same_field optional_number (Some n) (Some m) at prefix next other first second = by_bytes optional_number (Some n) (Some m) at prefix first second
same_field (numbers most) x y at prefix next other first second = ap items_of (one_row x.items y.items prefix first.0 second.0)
same_field expression x y at prefix next other first second = first.1 ∙ sym second.1
same_field optional_expression None None at prefix next other first second = refl
same_field optional_expression None (Some y) at prefix next other first second = absurd (no_tree prefix second.0.0 second.0.1 first.0)
same_field optional_expression (Some x) None at prefix next other first second = absurd (no_tree prefix first.0.0 first.0.1 second.0)
same_field optional_expression (Some x) (Some y) at prefix next other first second = ap (λ (s : Span). Some s) (first.1 ∙ sym second.1)
same_field sized_expression x y at prefix next other first second = sized_once x y at prefix next other first second

-- ---- records are determined by their bytes

first_of-option : (next : Option ℕ) → first_of (option_to_list next) None ≡ next
first_of-option None = refl
first_of-option (Some b) = refl

-- of two values that begin with the same fields, neither has fewer bytes
not_shorter : (f : Field) (x y : ValueOf f) (at : ℕ) (prefix back front2 back2 : List ℕ) (next other : Option ℕ)
    → SpellsField f x at prefix (first_of back next) → SpellsField f y at front2 (first_of back2 other) → prefix ++ back ≡ front2 ++ back2
    → length prefix < length front2 → ⊥
not_shorter f x y at prefix [] front2 back2 next other first second same less =
    omega (arith, less, ap length same, length-append prefix [], length-append front2 back2)
not_shorter f x y at prefix (b ∷ back) front2 back2 next other first second same less =
    let after = option_to_list other in
    let input = zeros at ++ ((prefix ++ b ∷ back) ++ after) in
    let one : drop at input ≡ prefix ++ ((b ∷ back) ++ after) = dropped at ((prefix ++ b ∷ back) ++ after) ∙ append_assoc prefix (b ∷ back) after in
    let two : drop at input ≡ front2 ++ (back2 ++ after) = dropped at ((prefix ++ b ∷ back) ++ after) ∙ ap (λ (l : List ℕ). l ++ after) same
    ∙ append_assoc front2 back2 after in
    let follows : first_of (back2 ++ after) None ≡ first_of back2 other = first_of-append back2 after None ∙ ap (first_of back2) (first_of-option other) in
    let x_read = (exact f).only input at x prefix ((b ∷ back) ++ after) first one in
    let y_read = (exact f).only input at y front2 (back2 ++ after) (subst (λ (n : Option ℕ). SpellsField f y at front2 n) (sym follows) second) two in
    let offset = same_place x y (at + length prefix) (at + length front2) (sym x_read ∙ y_read) in
    omega (arith, less, offset)

one_prefix : (f : Field) (x y : ValueOf f) (at : ℕ) (prefix back front2 back2 : List ℕ) (next other : Option ℕ)
    → SpellsField f x at prefix (first_of back next) → SpellsField f y at front2 (first_of back2 other) → prefix ++ back ≡ front2 ++ back2
    → (prefix ≡ front2) × (back ≡ back2)
one_prefix f x y at prefix back front2 back2 next other first second same =
    same_length prefix front2 back back2 same (elim (cases_lt (length prefix) (length front2)) [
      | inl less ↦ absurd (not_shorter f x y at prefix back front2 back2 next other first second same less)
      | inr most ↦ elim (cases_lt (length front2) (length prefix)) [
        | inl less ↦ absurd (not_shorter f y x at front2 back2 prefix back other next second first (sym same) less)
        | inr least ↦ omega (arith, most, least)
      ]
    ])

same_record : (layout : Layout) (r s : Record) (at : ℕ) (bytes : List ℕ) (next other : Option ℕ) → SpellsRecord layout r at bytes next
    → SpellsRecord layout s at bytes other → r ≡ s
same_record (whole row) r s at bytes next other first second = first.0 ∙ sym second.0
same_record (refused back reason) r s at bytes next other first second = absurd first
same_record (field f rest) r s at bytes next other (x, prefix, back, spelled, spells, parts) (y, front2, back2, spelled2, spells2, parts2) =
    let both = one_prefix f x y at prefix back front2 back2 next other spelled spelled2 (sym parts ∙ parts2) in
    let same : x ≡ y = same_field f x y at prefix (first_of back next) (first_of back2 other) spelled
    (subst (λ (l : List ℕ). SpellsField f y at l (first_of back2 other)) (sym both.0) spelled2) in
    let other_spells : SpellsRecord (rest x) s (at + length prefix) back other
    = subst (λ (v : ValueOf f). SpellsRecord (rest v) s (at + length prefix) back other) (sym same)
    (subst (λ (l : List ℕ). SpellsRecord (rest y) s (at + length l) back other) (sym both.0)
    (subst (λ (l : List ℕ). SpellsRecord (rest y) s (at + length front2) l other) (sym both.1) spells2)) in
    same_record (rest x) r s (at + length prefix) back next other spells other_spells

pub one_by_bytes : (mode : Mode) (r s : Record) (text : List ℕ) (next other : Option ℕ) → IsWholeRecord mode r text next
    → IsWholeRecord mode s text other → r ≡ s
one_by_bytes mode r s text next other first second = same_record (layout_of mode) r s 0 text next other first second
