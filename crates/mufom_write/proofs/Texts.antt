-- The strings and expressions of records, where the records state that they are.
use Rattle.std.proofs.Common.{◌≡◌, ℕ, ◌+◌, ◌-◌, false, List, [], ◌++◌, length, take, drop, sym, ap, ◌∙◌, arith, append_assoc, length-append}
use Rattle.std.specs.Prelude.{slice_range}
use Rattle.std.proofs.lemmas.List.{append-nil, drop_at}
use Rattle.std.proofs.Math.Seq.{take-append_seam}
use Rattle.mufom_numbers.specs.Spelling.{shortest_lead}
use Rattle.mufom_expr.specs.Tree.{Tree}
use Rattle.mufom_expr.specs.Terms.{the_term}
use Rattle.mufom_expr.specs.TokenAt.{tokens_in}
use Rattle.mufom_module.specs.declared.module.Parts.{Parts}
use Rattle.mufom_module.specs.SpelledRecords.{positioned}
use Rattle.mufom_module.specs.Written.{shortest}
use Rattle.mufom_module.specs.Written as w
use Rattle.mufom_module.specs.Defects.{counts_of, names_outside}
use Rattle.mufom_module.proofs.SpelledLaws.{term-spelling}
use Rattle.mufom_write.proofs.Indexed.{IsFittingTree, indexed, expression-spells, written_indexes, positioned-indexed}

length-left : (at n : ℕ) → at + n - at ≡ n
length-left at n = omega arith

pub text-between : (bytes prefix text back : List ℕ) (at : ℕ) → bytes ≡ prefix ++ (text ++ back) → at ≡ length prefix
    → slice_range bytes at (at + length text) ≡ text
text-between bytes prefix text back at same place =
    let rest = ap (drop at) same ∙ drop_at prefix (text ++ back) at (sym place) in
    ap (take (at + length text - at)) rest ∙ ap (λ (n : ℕ). take n (text ++ back)) (length-left at (length text)) ∙ take-append_seam text back

pub text-last : (bytes prefix text : List ℕ) (at : ℕ) → bytes ≡ prefix ++ text → at ≡ length prefix → slice_range bytes at (at + length text) ≡ text
text-last bytes prefix text at same place = text-between bytes prefix text [] at (same ∙ ap (λ (l : List ℕ). prefix ++ l) (sym (append-nil text))) place

pub string-between : (bytes prefix text back : List ℕ) (at : ℕ) → bytes ≡ prefix ++ (w.string shortest text ++ back) → at ≡ length prefix
    → slice_range bytes (at + length (shortest_lead (length text))) (at + length (shortest_lead (length text)) + length text) ≡ text
string-between bytes prefix text back at same place =
    let lead = shortest_lead (length text) in
    let whole = length-append prefix lead in
    text-between bytes (prefix ++ lead) text back (at + length lead)
    (same ∙ ap (λ (l : List ℕ). prefix ++ l) (append_assoc lead text back) ∙ sym (append_assoc prefix lead (text ++ back))) (omega (arith, whole, place))

pub string-last : (bytes prefix text : List ℕ) (at : ℕ) → bytes ≡ prefix ++ w.string shortest text → at ≡ length prefix
    → slice_range bytes (at + length (shortest_lead (length text))) (at + length (shortest_lead (length text)) + length text) ≡ text
string-last bytes prefix text at same place = string-between bytes prefix text [] at (same
    ∙ ap (λ (l : List ℕ). prefix ++ l) (sym (append-nil (w.string shortest text)))) place

-- the text of an expression gives its tree back
pub tree-back : (m : Parts) (k : ℕ) (tree : Tree) (text : List ℕ) → IsFittingTree tree → names_outside (counts_of m) tree ≡ false → text
    ≡ w.expression shortest tree
    → positioned (written_indexes m k) (the_term (tokens_in text)) ≡ tree
tree-back m k tree text fits inside same =
    ap (λ (l : List ℕ). positioned (written_indexes m k) (the_term (tokens_in l))) same
    ∙ ap (positioned (written_indexes m k)) (term-spelling (indexed tree) (w.expression shortest tree) (expression-spells tree fits))
    ∙ positioned-indexed m k tree inside
