-- Keys of references, taken apart from the beginning.
use Rattle.std.proofs.Common.{◌≡◌, ℕ, ◌+◌, ◌<◌, List, [], ◌∷◌, ◌++◌, length, flat_map, take, get_or, Option, Some, None, IfSome, refl, sym, ap, ◌∙◌}
use Rattle.std.proofs.Common.{append_assoc, append-nil, arith}
use Rattle.std.specs.List.{AllByRecursion}
use Rattle.std.specs.Int.{w64, from_be_bytes}
use Rattle.std.proofs.lemmas.Nat.{from_be_bytes-to_be_bytes_8}
use Rattle.std.proofs.lemmas.List.{take_more}
use Rattle.std.proofs.lemmas.Grind.{flat_map-append}
use Rattle.mufom_names.specs.declared.name.Note.{Note}
use Rattle.mufom_names.specs.declared.name.Weak.{Weak}
use Rattle.mufom_names.specs.declared.name.Reference.{Reference}
use Rattle.mufom_names.specs.Keys.{number_key, numbers_key, note_key, notes_key, weak_key, reference_key, IsSameNote, AreSameNotes, IsSameReference}
use Rattle.mufom_names.specs.Keys.{IsShort, IsShortNote, IsShortWeak, IsShortReference, EqualKeysAreEqualReferences}

-- one more element adds its results
pub one_more : {X : Type 0} (f : X → List ℕ) (xs : List X) (i : ℕ) (d : X) → i < length xs → flat_map f (take (i + 1) xs) ≡ flat_map f (take i xs)
    ++ f (get_or xs i d)
one_more f xs i d inside =
    ap (flat_map f) (take_more xs i d inside)
    ∙ flat_map-append f (take i xs) (get_or xs i d ∷ [])
    ∙ ap (λ its. flat_map f (take i xs) ++ its) (append-nil (f (get_or xs i d)))

-- prefixes of equal length are the same, and so is what follows
cut : (fs gs xs ys : List ℕ) → length fs ≡ length gs → fs ++ xs ≡ gs ++ ys → (fs ≡ gs) × (xs ≡ ys)
cut [] [] xs ys l e = (refl, e)
cut [] (b ∷ gs) xs ys l e = absurd (omega (arith, l))
cut (a ∷ fs) [] xs ys l e = absurd (omega (arith, l))
cut (a ∷ fs) (b ∷ gs) xs ys l e =
    let head : a ≡ b = cc in
    let tails : fs ++ xs ≡ gs ++ ys = cc in
    let rest = cut fs gs xs ys (omega (arith, l)) tails in
    ((λ i. head i ∷ rest.0 i), rest.1)

number-cut : (m n : ℕ) (xs ys : List ℕ) → IsShort m → IsShort n → number_key m ++ xs ≡ number_key n ++ ys → (m ≡ n) × (xs ≡ ys)
unfolding number_key
number-cut m n xs ys short-m short-n e =
    let parts = cut (number_key m) (number_key n) xs ys refl e in (
      sym (from_be_bytes-to_be_bytes_8 m short-m) ∙ ap (from_be_bytes w64) parts.0 ∙ from_be_bytes-to_be_bytes_8 n short-n,
      parts.1,
    )

-- the same if more follows in the key
first-cut : (m n : ℕ) (fs gs xs ys : List ℕ) → IsShort m → IsShort n → (number_key m ++ fs) ++ xs ≡ (number_key n ++ gs) ++ ys → (m ≡ n) × (fs ++ xs ≡ gs ++ ys)
first-cut m n fs gs xs ys short-m short-n e =
    number-cut m n (fs ++ xs) (gs ++ ys) short-m short-n (sym (append_assoc (number_key m) fs xs) ∙ e ∙ append_assoc (number_key n) gs ys)

numbers-cut : (ms ns xs ys : List ℕ) → length ms ≡ length ns → AllByRecursion IsShort ms → AllByRecursion IsShort ns → numbers_key ms ++ xs
    ≡ numbers_key ns ++ ys → (ms ≡ ns) × (xs ≡ ys)
numbers-cut [] [] xs ys l a b e = (refl, e)
numbers-cut [] (n ∷ ns) xs ys l a b e = absurd (omega (arith, l))
numbers-cut (m ∷ ms) [] xs ys l a b e = absurd (omega (arith, l))
numbers-cut (m ∷ ms) (n ∷ ns) xs ys l a b e =
    let first = first-cut m n (numbers_key ms) (numbers_key ns) xs ys a.0 b.0 e in
    let rest = numbers-cut ms ns xs ys (omega (arith, l)) a.1 b.1 first.1 in
    ((λ i. first.0 i ∷ rest.0 i), rest.1)

note-cut : (m n : Note) (xs ys : List ℕ) → IsShortNote m → IsShortNote n → note_key m ++ xs ≡ note_key n ++ ys → IsSameNote m n × (xs ≡ ys)
note-cut m n xs ys short-m short-n e =
    let count-m = number_key (length m.numbers.items) ++ numbers_key m.numbers.items in
    let count-n = number_key (length n.numbers.items) ++ numbers_key n.numbers.items in
    let one = first-cut m.type_index n.type_index (number_key m.attribute ++ count-m) (number_key n.attribute
    ++ count-n) xs ys short-m.type_index short-n.type_index e in
    let two = first-cut m.attribute n.attribute count-m count-n xs ys short-m.attribute short-n.attribute one.1 in
    let three = first-cut (length m.numbers.items) (length n.numbers.items) (numbers_key m.numbers.items) (numbers_key n.numbers.items) xs ys
    short-m.count short-n.count two.1 in
    let four = numbers-cut m.numbers.items n.numbers.items xs ys three.0 short-m.numbers short-n.numbers three.1 in
    (record { type_index = one.0; attribute = two.0; numbers = four.0 }, four.1)

notes-cut : (ms ns : List Note) → length ms ≡ length ns → AllByRecursion IsShortNote ms → AllByRecursion IsShortNote ns → notes_key ms ≡ notes_key ns
    → AreSameNotes ms ns
notes-cut [] [] l a b e = tt
notes-cut [] (n ∷ ns) l a b e = absurd (omega (arith, l))
notes-cut (m ∷ ms) [] l a b e = absurd (omega (arith, l))
notes-cut (m ∷ ms) (n ∷ ns) l a b e =
    let first = note-cut m n (notes_key ms) (notes_key ns) a.0 b.0 e in
    (first.0, notes-cut ms ns (omega (arith, l)) a.1 b.1 first.1)

weak-cut : (v w : Option Weak) (xs ys : List ℕ) → IfSome v IsShortWeak → IfSome w IsShortWeak → weak_key v ++ xs ≡ weak_key w ++ ys → (v ≡ w) × (xs ≡ ys)
weak-cut None None xs ys a b e = (refl, (number-cut 0 0 xs ys (omega arith) (omega arith) e).1)
weak-cut None (Some w) xs ys a b e =
    let its = number_key w.size ++ number_key w.default in
    let no : 0 ≡ 1 = (number-cut 0 1 xs (its ++ ys) (omega arith) (omega arith) (e ∙ append_assoc (number_key 1) its ys)).0 in
    absurd (omega (arith, no))
weak-cut (Some v) None xs ys a b e =
    let its = number_key v.size ++ number_key v.default in
    let no : 1 ≡ 0 = (number-cut 1 0 (its ++ xs) ys (omega arith) (omega arith) (sym (append_assoc (number_key 1) its xs) ∙ e)).0 in
    absurd (omega (arith, no))
weak-cut (Some v) (Some w) xs ys a b e =
    let one = first-cut 1 1 (number_key v.size ++ number_key v.default) (number_key w.size ++ number_key w.default) xs ys (omega arith) (omega arith) e in
    let two = first-cut v.size w.size (number_key v.default) (number_key w.default) xs ys a.0 b.0 one.1 in
    let three = number-cut v.default w.default xs ys a.1 b.1 two.1 in
    ((λ i. Some record { size = two.0 i; default = three.0 i }), three.1)

same-from-keys : (r q : Reference) → IsShortReference r → IsShortReference q → reference_key r ≡ reference_key q → IsSameReference r q
same-from-keys r q short-r short-q e =
    let notes-r = number_key (length r.notes) ++ notes_key r.notes in
    let notes-q = number_key (length q.notes) ++ notes_key q.notes in
    let size = number-cut (length r.name) (length q.name) (r.name ++ (weak_key r.weak ++ notes-r)) (q.name
    ++ (weak_key q.weak ++ notes-q)) short-r.name short-q.name e in
    let name = cut r.name q.name (weak_key r.weak ++ notes-r) (weak_key q.weak ++ notes-q) size.0 size.1 in
    let weak = weak-cut r.weak q.weak notes-r notes-q short-r.weak short-q.weak name.1 in
    let count = number-cut (length r.notes) (length q.notes) (notes_key r.notes) (notes_key q.notes) short-r.count short-q.count weak.1 in
    record { name = name.0; weak = weak.0; notes = notes-cut r.notes q.notes count.0 short-r.notes short-q.notes count.1 }

-- ---- and back

note-keys : (m n : Note) → IsSameNote m n → note_key m ≡ note_key n
note-keys m n s = λ i. number_key (s.type_index i) ++ (number_key (s.attribute i) ++ (number_key (length (s.numbers i)) ++ numbers_key (s.numbers i)))

notes-keys : (ms ns : List Note) → AreSameNotes ms ns → (length ms ≡ length ns) × (notes_key ms ≡ notes_key ns)
notes-keys [] [] s = (refl, refl)
notes-keys [] (n ∷ ns) s = absurd s
notes-keys (m ∷ ms) [] s = absurd s
notes-keys (m ∷ ms) (n ∷ ns) s =
    let rest = notes-keys ms ns s.1 in
    let lengths : length (m ∷ ms) ≡ length (n ∷ ns) = omega (arith, rest.0) in
    (lengths, λ i. note-keys m n s.0 i ++ rest.1 i)

keys-from-same : (r q : Reference) → IsSameReference r q → reference_key r ≡ reference_key q
keys-from-same r q s =
    let notes = notes-keys r.notes q.notes s.notes in
    λ i. number_key (length (s.name i)) ++ (s.name i ++ (weak_key (s.weak i) ++ (number_key (notes.0 i) ++ notes.1 i)))

pub keys-tell : EqualKeysAreEqualReferences
keys-tell r q short-r short-q = (same-from-keys r q short-r short-q, keys-from-same r q)
