-- What a reader knows after further bytes of the stream.
use Rattle.std.proofs.Common.{◌≡◌, ℕ, inl, inr, Bool, true, false, if◌then◌else◌, ◌+◌, ◌-◌, ◌<◌, ◌≤◌, ◌⊎◌, nat_lt, ◌∙◌, sym, ap, refl, List, [], ◌∷◌}
use Rattle.std.proofs.Common.{◌++◌, length, take, drop, Option, Some, None, subst, append-nil, length-append, length-drop, arith}
use Rattle.std.proofs.lemmas.List.{drop-append-le, drop_all, length-take, take-append-le, take_all}
use Rattle.std.proofs.lemmas.List.Folds.{find-append}
use Rattle.std.proofs.lemmas.Bool.Decides.{nat_tests}
use Rattle.std.specs.Option.{option_or}
use Rattle.std.proofs.Math.Seq.{take-append-add}
use Rattle.mufom_archive.specs.declared.entry.Entry.{Entry}
use Rattle.mufom_archive.specs.Names.{is_long_names}
use Rattle.mufom_archive.specs.Entries.{contents_of_table, entry_at, entry_of, next_offset, table_among}
use Rattle.mufom_archive.specs.Reading.{Knows, names_after, table_with}
use Rattle.mufom_archive.proofs.EntryLaws.{entries_grow, entries_stay, entry_parts, entry_short, header_stays, starts_inside}

pub le_either : (m n : ℕ) → (m ≤ n) ⊎ (n ≤ m)
le_either m n = by_test (nat_lt n m) refl where
  by_test : (b : Bool) → nat_lt n m ≡ b → (m ≤ n) ⊎ (n ≤ m)
  by_test true is = inr (grind (arith, nat_tests))
  by_test false is = inl (grind (arith, nat_tests))

-- the front of a list, by its own length
pub front_again : (k : ℕ) (bytes : List ℕ) → take (length (take k bytes)) bytes ≡ take k bytes
front_again k bytes = by_size (le_either k (length bytes)) where
  by_size : (k ≤ length bytes) ⊎ (length bytes ≤ k) → take (length (take k bytes)) bytes ≡ take k bytes
  by_size (inl few) = let same : length (take k bytes) ≡ k = omega (arith, length-take k bytes) in ap (λ n. take n bytes) same
  by_size (inr many) = let whole = take_all k bytes many in
      ap (λ l. take (length l) bytes) whole ∙ take_all (length bytes) bytes (omega arith) ∙ sym whole

-- the first n of the elements of two lists
pub take_both : (n : ℕ) (xs ys : List ℕ) → take n (xs ++ ys) ≡ take n xs ++ take (n - length xs) ys
take_both n xs ys = by_size (le_either n (length xs)) where
  by_size : (n ≤ length xs) ⊎ (length xs ≤ n) → take n (xs ++ ys) ≡ take n xs ++ take (n - length xs) ys
  by_size (inl few) = let none : n - length xs ≡ 0 = omega arith in rw (none) (take-append-le n xs ys few ∙ sym (append-nil (take n xs)))
  by_size (inr many) = let rest : n ≡ length xs + (n - length xs) = omega arith in
      ap (λ k. take k (xs ++ ys)) rest ∙ take-append-add xs ys (n - length xs) ∙ ap (λ l. l ++ take (n - length xs) ys) (sym (take_all n xs many))

-- the contents of the table of long names in a longer stream
pub names_grow : (stream more : List ℕ) (table : Option Entry) → ((t : Entry) → table ≡ Some t → t.start ≤ length stream)
    → contents_of_table (stream ++ more) table ≡ names_after table (length stream) (contents_of_table stream table) more
names_grow stream more None inside = refl
names_grow stream more (Some t) inside =
    let here = inside t refl in
    let left : t.end - t.start - length (drop t.start stream) ≡ t.end - length stream = omega (arith, length-drop t.start stream) in
    ap (take (t.end - t.start)) (drop-append-le t.start stream more here) ∙ take_both (t.end - t.start) (drop t.start stream) more
    ∙ ap (λ k. take (t.end - t.start) (drop t.start stream) ++ take k more) left

-- a reader's bytes of the table of long names, after further bytes
named_after : (stream more : List ℕ) (size : ℕ) (entries : List Entry) (next : ℕ) (header : List ℕ) (table : Option Entry) (names : List ℕ)
    → Knows stream size entries next header table names → names_after table size names more ≡ contents_of_table (stream ++ more) table
named_after stream more size entries next header table names k =
    let here : names_after table size names more ≡ names_after table (length stream) (contents_of_table stream table) more
    = λ i. names_after table (k.counted i) (k.named i) more in
    here ∙ sym (names_grow stream more table (λ t is. starts_inside (λ e. is_long_names e.label) stream 8 entries next t k.found (sym k.first ∙ is)))

-- bytes that leave the next header as it is
still : (stream more : List ℕ) (size : ℕ) (entries : List Entry) (next : ℕ) (header : List ℕ) (table : Option Entry) (names : List ℕ)
    → Knows stream size entries next header table names → header ≡ take 60 (drop next (stream ++ more))
    → Knows (stream ++ more) (size + length more) entries next header table (names_after table size names more)
still stream more size entries next header table names k same = record {
  counted = ap (λ n. n + length more) k.counted ∙ sym (length-append stream more);
  found = entries_stay stream more 8 entries next k.found;
  pending = same;
  last = k.last;
  first = k.first;
  named = named_after stream more size entries next header table names k;
}

-- bytes before the next header
pub passed : (stream more : List ℕ) (size : ℕ) (entries : List Entry) (next : ℕ) (header : List ℕ) (table : Option Entry) (names : List ℕ)
    → Knows stream size entries next header table names → size + length more ≤ next
    → Knows (stream ++ more) (size + length more) entries next header table (names_after table size names more)
passed stream more size entries next header table names k before =
    let counted = k.counted in
    let short : length stream ≤ next = omega arith in
    let long : length (stream ++ more) ≤ next = omega (arith, length-append stream more) in
    still stream more size entries next header table names k
    (k.pending ∙ ap (take 60) (drop_all next stream short) ∙ sym (ap (take 60) (drop_all next (stream ++ more) long)))

-- bytes after what stands in place of a header
pub stopped : (stream more : List ℕ) (size : ℕ) (entries : List Entry) (next : ℕ) (header : List ℕ) (table : Option Entry) (names : List ℕ)
    → Knows stream size entries next header table names → length header ≡ 60
    → Knows (stream ++ more) (size + length more) entries next header table (names_after table size names more)
stopped stream more size entries next header table names k whole =
    let inside : next + 60 ≤ length stream = omega (arith, ap length k.pending, length-take 60 (drop next stream), length-drop next stream) in
    still stream more size entries next header table names k (k.pending ∙ sym (header_stays stream more next inside))

-- further bytes of the next header
pub header_more : (stream more : List ℕ) (size : ℕ) (entries : List Entry) (next : ℕ) (header : List ℕ) (table : Option Entry) (names : List ℕ)
    → Knows stream size entries next header table names → next ≤ size → length header < 60 → length header + length more ≤ 60
    → (header ++ more ≡ drop next (stream ++ more)) × (header ++ more ≡ take 60 (drop next (stream ++ more)))
header_more stream more size entries next header table names k begun short room =
    let counted = k.counted in
    let inside : next ≤ length stream = omega arith in
    let few : length (drop next stream) ≤ 60 = omega (arith, ap length k.pending, length-take 60 (drop next stream)) in
    let all : header ≡ drop next stream = k.pending ∙ take_all 60 (drop next stream) few in
    let joined : header ++ more ≡ drop next (stream ++ more) = ap (λ l. l ++ more) all ∙ sym (drop-append-le next stream more inside) in
    let size : length (drop next (stream ++ more)) ≤ 60 = omega (arith, ap length joined, length-append header more) in
    (joined, joined ∙ sym (take_all 60 (drop next (stream ++ more)) size))

-- bytes that do not complete a header, or complete what is not one
pub unfinished : (stream more : List ℕ) (size : ℕ) (entries : List Entry) (next : ℕ) (header : List ℕ) (table : Option Entry) (names : List ℕ)
    → Knows stream size entries next header table names → next ≤ size → length header < 60 → length header + length more ≤ 60
    → entry_of next (header ++ more) ≡ None
    → Knows (stream ++ more) (size + length more) entries next (header ++ more) table (names_after table size names more)
unfinished stream more size entries next header table names k begun short room none = record {
  counted = ap (λ n. n + length more) k.counted ∙ sym (length-append stream more);
  found = entries_stay stream more 8 entries next k.found;
  pending = (header_more stream more size entries next header table names k begun short room).1;
  last = none;
  first = k.first;
  named = named_after stream more size entries next header table names k;
}

-- the first table of long names with a further entry
first_with : (entries : List Entry) (table : Option Entry) (e : Entry) → table ≡ table_among entries → table_with table e ≡ table_among (entries ++ e ∷ [])
first_with entries table e first = by_table table first ∙ sym (find-append (λ x. is_long_names x.label) entries (e ∷ [])) where
  by_table : (t : Option Entry) → t ≡ table_among entries → table_with t e ≡ option_or (table_among entries) (table_among (e ∷ []))
  by_table None is = rw (← is) refl
  by_table (Some x) is = rw (← is) refl

-- the table of long names begins empty
names_with : (bytes names : List ℕ) (table : Option Entry) (e : Entry) (size : ℕ) (more : List ℕ) → length bytes ≤ e.start
    → (table ≡ None → names ≡ []) → names_after table size names more ≡ contents_of_table bytes table
    → names_after table size names more ≡ contents_of_table bytes (table_with table e)
names_with bytes names None e size more begins none same = by_case (is_long_names e.label) where
  by_case : (b : Bool) → names ≡ contents_of_table bytes (if b then Some e else None)
  by_case true = none refl ∙ sym (ap (take (e.end - e.start)) (drop_all e.start bytes begins) ∙ take_all (e.end - e.start) [] (omega arith))
  by_case false = none refl
names_with bytes names (Some t) e size more begins none same = same

-- bytes that complete a header
pub finished : (stream more : List ℕ) (size : ℕ) (entries : List Entry) (next : ℕ) (header : List ℕ) (table : Option Entry) (names : List ℕ) (e : Entry)
    → Knows stream size entries next header table names → next ≤ size → length header < 60 → length header + length more ≤ 60
    → entry_of next (header ++ more) ≡ Some e
    → Knows (stream ++ more) (size + length more) (entries ++ e ∷ []) (next_offset e) [] (table_with table e) (names_after table size names more)
finished stream more size entries next header table names e k begun short room is =
    let ahead = header_more stream more size entries next header table names k begun short room in
    let parts = entry_parts next (header ++ more) e is in
    let counted = k.counted in
    let here : entry_at (stream ++ more) next ≡ Some e = ap (entry_of next) (sym ahead.1) ∙ is in
    let whole = parts.whole in let start = parts.start in let order = parts.order in
    let total : length (stream ++ more) ≡ e.start = omega (arith, ap length ahead.0, length-drop next (stream ++ more), length-append stream more) in
    let past : length (stream ++ more) ≤ next_offset e = omega arith in
    record {
      counted = ap (λ n. n + length more) k.counted ∙ sym (length-append stream more);
      found = entries_grow (stream ++ more) 8 entries next e (entries_stay stream more 8 entries next k.found) here;
      pending = sym (ap (take 60) (drop_all (next_offset e) (stream ++ more) past));
      last = entry_short (next_offset e) [] (omega arith);
      first = first_with entries table e k.first;
      named = names_with (stream ++ more) names table e size more (omega arith) (λ none. k.named ∙ ap (contents_of_table stream) none)
          (named_after stream more size entries next header table names k);
    }

-- what a reader knows, in other words
pub known_as : {s u : List ℕ} {n p : ℕ} {es fs : List Entry} {x y : ℕ} {h g : List ℕ} {t v : Option Entry} {m l : List ℕ} → Knows s n es x h t m
    → s ≡ u → p ≡ n → fs ≡ es → y ≡ x → g ≡ h → v ≡ t → l ≡ m → Knows u p fs y g v l
known_as {s = s} {u = u} {n = n} {p = p} {es = es} {fs = fs} {x = x} {y = y} {h = h} {g = g} {t = t} {v = v} {m = m} {l = l} k stream size entries next header table names =
    let same : Knows s n es x h t m ≡ Knows u p fs y g v l
    = λ i. Knows (stream i) (sym size i) (sym entries i) (sym next i) (sym header i) (sym table i) (sym names i) in
    subst (λ (T : Type 0). T) same k
