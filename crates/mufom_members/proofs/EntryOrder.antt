-- Entries of a stream: their order, and what further bytes add to them.
use Rattle.std.proofs.Common.{◌≡◌, ℕ, ◌+◌, ◌-◌, ◌≤◌, ◌∙◌, inl, inr, ◌⊎◌, sym, ap, refl, List, [], ◌∷◌, ◌++◌, length, take, drop}
use Rattle.std.proofs.Common.{None, subst, append-nil, arith}
use Rattle.std.proofs.Math.Seq.{drop-append-add}
use Rattle.std.proofs.lemmas.List.{drop-append-le, drop-take, drop_all, length-take, take_all}
use Rattle.mufom_archive.specs.declared.entry.Entry.{Entry}
use Rattle.mufom_archive.specs.Entries.{AreEntries, contents_of, entry_at, entry_of, next_offset}
use Rattle.mufom_archive.proofs.EntryLaws.{entry_parts, header_stays}
use Rattle.mufom_archive.proofs.StepLaws.{le_either, take_both}
use Rattle.mufom_members.specs.Reading.{StartAfter}

-- ---- slices of lists

-- two ways to write the elements from one position up to another
pub between : (from to : ℕ) (bytes : List ℕ) → take (to - from) (drop from bytes) ≡ drop from (take to bytes)
between from to bytes = by_order (le_either from to) where
  by_order : (from ≤ to) ⊎ (to ≤ from) → take (to - from) (drop from bytes) ≡ drop from (take to bytes)
  by_order (inl order) =
      let whole : from + (to - from) ≡ to = omega arith in
      sym (drop-take from (to - from) bytes) ∙ ap (λ n. drop from (take n bytes)) whole
  by_order (inr reverse) =
      let none : to - from ≡ 0 = omega arith in
      let few : length (take to bytes) ≤ from = omega (arith, length-take to bytes) in
      rw none (sym (drop_all from (take to bytes) few))

-- the elements of two lists after the first n
pub drop_both : (n : ℕ) (xs ys : List ℕ) → drop n (xs ++ ys) ≡ drop n xs ++ drop (n - length xs) ys
drop_both n xs ys = by_size (le_either n (length xs)) where
  by_size : (n ≤ length xs) ⊎ (length xs ≤ n) → drop n (xs ++ ys) ≡ drop n xs ++ drop (n - length xs) ys
  by_size (inl few) = let none : n - length xs ≡ 0 = omega arith in rw none (drop-append-le n xs ys few)
  by_size (inr many) =
      let rest : n ≡ length xs + (n - length xs) = omega arith in
      ap (λ k. drop k (xs ++ ys)) rest ∙ drop-append-add xs ys (n - length xs) ∙ ap (λ l. l ++ drop (n - length xs) ys) (sym (drop_all n xs many))

-- the part of further bytes that belongs to an entry
abbrev pub part_of : Entry → ℕ → List ℕ → List ℕ
part_of e size more = drop (e.start - size) (take (e.end - size) more)

pub contents_grow : (bytes more : List ℕ) (e : Entry) → contents_of (bytes ++ more) e ≡ contents_of bytes e ++ part_of e (length bytes) more
contents_grow bytes more e =
    between e.start e.end (bytes ++ more) ∙ ap (drop e.start) (take_both e.end bytes more)
    ∙ drop_both e.start (take e.end bytes) (take (e.end - length bytes) more)
    ∙ (λ i. sym (between e.start e.end bytes) i ++ by_size (le_either e.end (length bytes)) i)
  where
    by_size : (e.end ≤ length bytes) ⊎ (length bytes ≤ e.end)
        → drop (e.start - length (take e.end bytes)) (take (e.end - length bytes) more) ≡ drop (e.start - length bytes) (take (e.end - length bytes) more)
    by_size (inl inside) =
        let none : e.end - length bytes ≡ 0 = omega arith in
        rw none (drop_all (e.start - length (take e.end bytes)) [] (omega arith) ∙ sym (drop_all (e.start - length bytes) [] (omega arith)))
    by_size (inr beyond) = ap (λ l. drop (e.start - length l) (take (e.end - length bytes) more)) (take_all e.end bytes beyond)

-- contents that have not begun
pub no_contents : (bytes : List ℕ) (e : Entry) → length bytes ≤ e.start → contents_of bytes e ≡ []
no_contents bytes e later = between e.start e.end bytes ∙ drop_all e.start (take e.end bytes) (omega (arith, length-take e.end bytes))

-- contents that are complete
pub contents_stay : (bytes more : List ℕ) (e : Entry) → e.end ≤ length bytes → contents_of (bytes ++ more) e ≡ contents_of bytes e
contents_stay bytes more e inside =
    let none : e.end - length bytes ≡ 0 = omega arith in
    contents_grow bytes more e ∙ ap (λ n. contents_of bytes e ++ drop (e.start - length bytes) (take n more)) none
    ∙ ap (λ l. contents_of bytes e ++ l) (drop_all (e.start - length bytes) [] (omega arith)) ∙ append-nil (contents_of bytes e)

-- contents have at most as many bytes as the entry says
pub contents_length : (bytes : List ℕ) (e : Entry) → length (contents_of bytes e) ≤ e.end - e.start
contents_length bytes e = omega (arith, length-take (e.end - e.start) (drop e.start bytes))

-- ---- the order of entries

pub start_before : (a b : ℕ) (entries : List Entry) → a ≤ b → StartAfter b entries → StartAfter a entries
start_before a b [] le all = tt
start_before a b (e ∷ entries) le all = (omega (arith, le, all.0), start_before a b entries le all.1)

-- entries are after the offset of the first one
pub start_after : (bytes : List ℕ) (at : ℕ) (entries : List Entry) (next : ℕ) → AreEntries bytes at entries next
    → StartAfter (at + 60) entries × (at ≤ next)
start_after bytes at [] next found = (tt, omega (arith, found))
start_after bytes at (e ∷ entries) next found =
    let parts = entry_parts at (take 60 (drop at bytes)) e found.0 in
    let start = parts.start in let order = parts.order in
    let rest = start_after bytes (next_offset e) entries next found.1 in
    let further = rest.1 in
    ((omega arith, start_before (at + 60) (next_offset e + 60) entries (omega arith) rest.0), omega arith)

-- the entries of all bytes begin with those that were found before
pub entries_more : (bytes : List ℕ) (at : ℕ) (es fs : List Entry) (next end : ℕ) → AreEntries bytes at es next → AreEntries bytes at fs end
    → entry_at bytes end ≡ None → (more : List Entry) × (fs ≡ es ++ more) × AreEntries bytes next more end
entries_more bytes at [] fs next end a b last = (fs, refl, subst (λ n. AreEntries bytes n fs end) a b)
entries_more bytes at (e ∷ es) [] next end a b last = let none = ap (entry_at bytes) b ∙ last in let some = a.0 in absurd (cc)
entries_more bytes at (e ∷ es) (f ∷ fs) next end a b last =
    let one = a.0 in let two = b.0 in let same : e ≡ f = cc in
    let rest = entries_more bytes (next_offset e) es fs next end a.1 (subst (λ (x : Entry). AreEntries bytes (next_offset x) fs end) (sym same) b.1) last in
    (rest.0, (λ i. sym same i ∷ rest.1 i), rest.2)

-- entries whose headers were not complete begin after the bytes that were there
pub start_later : (bytes more : List ℕ) (next : ℕ) (es : List Entry) (end : ℕ) → entry_at bytes next ≡ None → AreEntries (bytes ++ more) next es end
    → StartAfter (length bytes) es
start_later bytes more next [] end none found = tt
start_later bytes more next (e ∷ es) end none found = by_size (le_either (next + 60) (length bytes)) where
  by_size : ((next + 60) ≤ length bytes) ⊎ (length bytes ≤ (next + 60)) → StartAfter (length bytes) (e ∷ es)
  by_size (inl whole) = let some = sym (ap (entry_of next) (header_stays bytes more next whole)) ∙ found.0 in absurd (cc)
  by_size (inr short) = start_before (length bytes) (next + 60) (e ∷ es) short (start_after (bytes ++ more) next (e ∷ es) end found).0
