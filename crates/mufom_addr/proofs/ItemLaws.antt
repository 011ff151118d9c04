-- Searches that have seen whole items.
use Rattle.std.proofs.Common.{◌≡◌, ℕ, ◌+◌, ◌<◌, ◌≤◌, List, [], ◌∷◌, ◌++◌, length, take, get_or, Option, Result, Ok, Err, sym, ap, subst, ◌∙◌}
use Rattle.std.specs.Result.{OnOk}
use Rattle.std.proofs.lemmas.List.{take_all}
use Rattle.mufom_debug.specs.declared.item.DebugItem.{DebugItem, Block as block_case}
use Rattle.mufom_debug.specs.declared.item.DebugItem.TheOpen.{Block-F}
use Rattle.mufom_addr.specs.declared.search.Search.{Search}
use Rattle.mufom_addr.specs.Entries.{Around, Entry, block, entries_of, entries_of_item, source_within}
use Rattle.mufom_addr.specs.Search.{SeesMore}
use Rattle.mufom_addr.proofs.EntriesLemmas.{entries-Block, entries_of_more}
use Rattle.mufom_addr.proofs.SearchLaws.{sees-append}

pub on_ok : {T E P Q : Type 0} (r : Result T E) → (P → Q) → OnOk r P → OnOk r Q
on_ok (Ok x) f h = f h
on_ok (Err e) f h = tt

abbrev pub around_at : ℕ → Option (List ℕ) → Around
around_at depth source = record { depth = depth; source = source }

pub sees-same : (xs ys : List Entry) (s t : Search) → xs ≡ ys → SeesMore xs s t → SeesMore ys s t
sees-same xs ys s t same h = let P : List Entry → Type 0 = λ all. SeesMore all s t in subst P same h

-- a block, after itself and its items
pub sees-Block : (item : DebugItem) (b : Block-F DebugItem (Unit {0})) (depth : ℕ) (source inner : Option (List ℕ)) (items : List DebugItem) (s t u : Search)
    → item ≡ block_case b → items ≡ b.items → inner ≡ source_within b.head b.name source
    → SeesMore (block depth b.head b.name b.end ∷ []) s t → SeesMore (entries_of items (around_at (depth + 1) inner)) t u
    → SeesMore (entries_of_item item (around_at depth source)) s u
sees-Block item b depth source inner items s t u is own within first second =
    let its = block depth b.head b.name b.end in
    sees-same (its ∷ entries_of items (around_at (depth + 1) inner)) (entries_of_item item (around_at depth source)) s u
    (ap (λ all. its ∷ entries_of all (around_at (depth + 1) inner)) own
    ∙ ap (λ name. its ∷ entries_of b.items (around_at (depth + 1) name)) within
    ∙ sym (entries-Block b (around_at depth source))
    ∙ ap (λ (x : DebugItem). entries_of_item x (around_at depth source)) (sym is))
    (sees-append (its ∷ []) (entries_of items (around_at (depth + 1) inner)) s t u first second)

-- one item more
pub sees-item : (items : List DebugItem) (around : Around) (i : ℕ) (item : DebugItem) (s t u : Search) → i < length items → item ≡ get_or items i item
    → SeesMore (entries_of (take i items) around) s t → SeesMore (entries_of_item item around) t u → SeesMore (entries_of (take (i + 1) items) around) s u
sees-item items around i item s t u inside is first second =
    sees-same (entries_of (take i items) around ++ entries_of_item item around) (entries_of (take (i + 1) items) around) s u
    (ap (λ (x : DebugItem). entries_of (take i items) around ++ entries_of_item x around) is ∙ sym (entries_of_more items around i item inside))
    (sees-append (entries_of (take i items) around) (entries_of_item item around) s t u first second)

-- all items
pub sees-all : (items : List DebugItem) (around : Around) (i : ℕ) (s t : Search) → length items ≤ i → SeesMore (entries_of (take i items) around) s t
    → SeesMore (entries_of items around) s t
sees-all items around i s t past h = sees-same (entries_of (take i items) around) (entries_of items around) s t (ap (λ all. entries_of all around)
    (take_all i items past)) h
