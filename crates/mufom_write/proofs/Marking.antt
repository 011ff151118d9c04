-- The records of marks, one list of marks after another.
use Rattle.std.proofs.Common.{◌≡◌, ℕ, Bool, true, false, ◌||◌, List, [], ◌∷◌, ◌++◌, refl, sym, ap, ◌∙◌, rules, append_assoc, append-nil, Result, Ok, Err, OnOk}
use Rattle.mufom_debug.specs.declared.item.DebugItem.{DebugItem, Block as block_case, Value as value_case, the_lemmas}
use Rattle.mufom_debug.specs.declared.item.DebugItem.TheOpen.{Block-F}
use Rattle.mufom_debug.specs.Marks.{DebugMark, block_begin, block_end, value_mark, marks_of_item, marks_of, names_after, names_after_all}
use Rattle.mufom_debug.proofs.MarksLemmas.{marks-Block}
use Rattle.mufom_expr.specs.Tree.{Tree}
use Rattle.mufom_module.specs.Written.{shortest, debug_record, debug_records}
use Rattle.mufom_host.specs.declared.world.Failed.{Failed}

pub records-append : (n : ℕ) (xs ys : List DebugMark) → debug_records shortest n (xs ++ ys) ≡ debug_records shortest n xs
    ++ debug_records shortest (names_after_all n xs) ys
records-append n [] ys = refl
records-append n (x ∷ xs) ys =
    let next = names_after n x in
    ap (λ rest. debug_record shortest n x ++ rest) (records-append next xs ys)
    ∙ sym (append_assoc (debug_record shortest n x) (debug_records shortest next xs) (debug_records shortest (names_after_all next xs) ys))

pub records-Block : (n : ℕ) (b : Block-F DebugItem (Unit {0})) → debug_records shortest n (marks_of_item (block_case b))
    ≡ debug_record shortest n (block_begin b.head b.name) ++ (debug_records shortest n (marks_of b.items) ++ debug_record shortest n (block_end b.end))
records-Block n b =
    ap (debug_records shortest n) (marks-Block b)
    ∙ ap (λ rest. debug_record shortest n (block_begin b.head b.name) ++ rest)
    (records-append n (marks_of b.items) (block_end b.end ∷ [])
    ∙ ap (λ end. debug_records shortest n (marks_of b.items) ++ end) (append-nil (debug_record shortest n (block_end b.end))))

pub or_last : (a b c : Bool) → a ≡ (b || c) → a ≡ false → c ≡ false
or_last a true c e h = let no : true ≡ false = sym e ∙ h in absurd cc
or_last a false c e h = sym e ∙ h

pub however_ok : (r : Result (Unit {0}) Failed) (P : Type 0) → P → OnOk r P
however_ok (Ok done) P p = p
however_ok (Err e) P p = tt

pub records-Value : (n name : ℕ) (value : Tree) → debug_records shortest n (marks_of_item (value_case name value))
    ≡ debug_record shortest n (value_mark name value)
records-Value n name value =
    let marks : marks_of_item (value_case name value) ≡ value_mark name value ∷ [] = search (rules, the_lemmas) in
    ap (debug_records shortest n) marks ∙ append-nil (debug_record shortest n (value_mark name value))
