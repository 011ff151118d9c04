-- Walks over loads and debug items: what is left of a list is its next entry and the rest.
use Rattle.std.proofs.Common.{◌≡◌, ℕ, ◌+◌, ◌<◌, Bool, true, false, ◌||◌, List, [], ◌∷◌, ◌++◌, length, drop, get_or, Option, Some, None, refl, ap, sym}
use Rattle.std.proofs.Common.{◌∙◌, rules, add-one, drop-cons, option_and_then, option_map}
use Rattle.std.specs.List.{list_any}
use Rattle.std.proofs.lemmas.List.Folds.{list_any-append}
use Rattle.mufom_loads.specs.declared.load.Load.{Load}
use Rattle.mufom_expr.specs.Tree.{Tree}
use Rattle.mufom_debug.specs.declared.item.DebugItem.{DebugItem, Block as block_case, the_lemmas}
use Rattle.mufom_debug.specs.declared.item.DebugItem.TheOpen.{Block-F}
use Rattle.mufom_debug.specs.Marks.{DebugMark, block_begin, block_end, marks_of_item, marks_of}
use Rattle.mufom_debug.proofs.MarksLemmas.{marks-Block}
use Rattle.mufom_module.specs.Contents.{placed_from, current_after, HeadAndEnd, blocks_of, blocks_of_item}
use Rattle.mufom_module.specs.Defects.{declared_after, declared_after_mark}
use Rattle.mufom_module.specs.Weights.{capped}
use Rattle.mufom_module.proofs.Variables.{or-false}

pub next_of : {X : Type 0} (xs : List X) (i : ℕ) (d : X) → i < length xs → drop i xs ≡ get_or xs i d ∷ drop (i + 1) xs
next_of xs i d inside = rw (add-one, drop-cons xs i d) refl

-- a test of the marks that are left looks at the next item's and at the rest
pub any_mark_next : (p : DebugMark → Bool) (items : List DebugItem) (i : ℕ) (d : DebugItem) → i < length items
    → list_any p (marks_of (drop i items)) ≡ (list_any p (marks_of_item (get_or items i d)) || list_any p (marks_of (drop (i + 1) items)))
any_mark_next p items i d inside =
    ap (λ xs. list_any p (marks_of xs)) (next_of items i d inside)
    ∙ list_any-append p (marks_of_item (get_or items i d)) (marks_of (drop (i + 1) items))

-- a test of a block's marks looks at its start, those of its items, and its end
pub any_mark-Block : (p : DebugMark → Bool) (b : Block-F DebugItem (Unit {0}))
    → list_any p (marks_of_item (block_case b)) ≡ (p (block_begin b.head b.name) || (list_any p (marks_of b.items) || p (block_end b.end)))
any_mark-Block p b =
    ap (list_any p) (marks-Block b)
    ∙ ap (λ rest. p (block_begin b.head b.name) || rest) (list_any-append p (marks_of b.items) (block_end b.end ∷ [])
    ∙ ap (λ e. list_any p (marks_of b.items) || e) (or-false (p (block_end b.end))))

-- the same for blocks
pub any_block_next : (p : HeadAndEnd → Bool) (items : List DebugItem) (i : ℕ) (d : DebugItem) → i < length items
    → list_any p (blocks_of (drop i items)) ≡ (list_any p (blocks_of_item (get_or items i d)) || list_any p (blocks_of (drop (i + 1) items)))
any_block_next p items i d inside =
    ap (λ xs. list_any p (blocks_of xs)) (next_of items i d inside)
    ∙ list_any-append p (blocks_of_item (get_or items i d)) (blocks_of (drop (i + 1) items))

pub blocks-Block : (b : Block-F DebugItem (Unit {0})) → blocks_of_item (block_case b) ≡ (b.head, b.end) ∷ blocks_of b.items
blocks-Block b = search (rules, the_lemmas)

-- a test of the loads that are left looks at the next one and at the rest
pub any_load_next : (p : Option ℕ × Load → Bool) (current : Option ℕ) (loads : List Load) (i : ℕ) (d : Load) → i < length loads
    → list_any p (placed_from current (drop i loads)) ≡ (p (current, get_or loads i d)
    || list_any p (placed_from (current_after current (get_or loads i d)) (drop (i + 1) loads)))
any_load_next p current loads i d inside = ap (λ xs. list_any p (placed_from current xs)) (next_of loads i d inside)

pub or-true : (a b c : Bool) → a ≡ (b || c) → b ≡ true → a ≡ true
or-true a b c e h = e ∙ ap (λ v. v || c) h

pub or-rest : (a b c : Bool) → a ≡ (b || c) → b ≡ false → a ≡ c
or-rest a b c e h = e ∙ ap (λ v. v || c) h

-- ---- declared names

both-then : (xs ys : List DebugMark) → ((k : ℕ) → declared_after k (xs ++ ys) ≡ option_and_then (λ j. declared_after j ys) (declared_after k xs))
    → (o : Option ℕ)
    → option_and_then (λ k. declared_after k (xs ++ ys)) o ≡ option_and_then (λ j. declared_after j ys) (option_and_then (λ k. declared_after k xs) o)
both-then xs ys rest None = refl
both-then xs ys rest (Some k) = rest k

pub declared_after-append : (n : ℕ) (xs ys : List DebugMark) → declared_after n (xs ++ ys) ≡ option_and_then (λ k. declared_after k ys) (declared_after n xs)
declared_after-append n [] ys = refl
declared_after-append n (mark ∷ xs) ys = both-then xs ys (λ k. declared_after-append k xs ys) (declared_after_mark n mark)

end-declares : (e : Option Tree) (o : Option ℕ) → option_and_then (λ k. declared_after k (block_end e ∷ [])) o ≡ o
end-declares e None = refl
end-declares e (Some k) = refl

-- a block declares what its items do
pub declared_after-Block : (n : ℕ) (b : Block-F DebugItem (Unit {0})) → declared_after n (marks_of_item (block_case b)) ≡ declared_after n (marks_of b.items)
declared_after-Block n b =
    ap (declared_after n) (marks-Block b)
    ∙ declared_after-append n (marks_of b.items) (block_end b.end ∷ [])
    ∙ end-declares b.end (declared_after n (marks_of b.items))

-- what is declared after the remaining items follows from the next item and the rest
pub declared_next : (n : ℕ) (items : List DebugItem) (i : ℕ) (d : DebugItem) → i < length items
    → declared_after n (marks_of (drop i items)) ≡ option_and_then (λ k. declared_after k (marks_of (drop (i + 1) items)))
    (declared_after n (marks_of_item (get_or items i d)))
declared_next n items i d inside =
    ap (λ xs. declared_after n (marks_of xs)) (next_of items i d inside)
    ∙ declared_after-append n (marks_of_item (get_or items i d)) (marks_of (drop (i + 1) items))

some_capped : (o : Option ℕ) (v : ℕ) → option_map capped o ≡ Some v → (k : ℕ) × (o ≡ Some k) × (capped k ≡ v)
some_capped None v h = cc
some_capped (Some k) v h = let e : capped k ≡ v = cc in (k, refl, e)

none_capped : (o : Option ℕ) → option_map capped o ≡ None → o ≡ None
none_capped None h = refl
none_capped (Some k) h = cc

-- an item that declares its names leaves the items after it
pub declared_step : (whole : Option ℕ) (k : ℕ) (items : List DebugItem) (i : ℕ) (item : DebugItem) (v : ℕ) → i < length items → item ≡ get_or items i item
    → whole ≡ declared_after k (marks_of (drop i items)) → option_map capped (declared_after k (marks_of_item item)) ≡ Some v
    → (j : ℕ) × (capped j ≡ v) × (whole ≡ declared_after j (marks_of (drop (i + 1) items)))
declared_step whole k items i item v inside its e h =
    let got = some_capped (declared_after k (marks_of_item item)) v h in
    let o = ap (λ (x : DebugItem). declared_after k (marks_of_item x)) (sym its) ∙ got.1 in
    (got.0, got.2, e ∙ declared_next k items i item inside ∙ ap (option_and_then (λ j. declared_after j (marks_of (drop (i + 1) items)))) o)

-- one that uses a name too early decides
pub declared_stop : (whole : Option ℕ) (k : ℕ) (items : List DebugItem) (i : ℕ) (item : DebugItem) → i < length items → item ≡ get_or items i item
    → whole ≡ declared_after k (marks_of (drop i items)) → option_map capped (declared_after k (marks_of_item item)) ≡ None → whole ≡ None
declared_stop whole k items i item inside its e h =
    let o = ap (λ (x : DebugItem). declared_after k (marks_of_item x)) (sym its) ∙ none_capped (declared_after k (marks_of_item item)) h in
    e ∙ declared_next k items i item inside ∙ ap (option_and_then (λ j. declared_after j (marks_of (drop (i + 1) items)))) o
