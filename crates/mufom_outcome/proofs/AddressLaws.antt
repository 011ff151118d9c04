-- The bytes of an address, and the texts that have them.
use Rattle.std.proofs.Common.{◌≡◌, ℕ, zero, suc, ◌<◌, ◌≤◌, ◌^◌, ◌/◌, ◌%◌, List, [], ◌∷◌, ◌++◌, codes, Result, Ok, Err, OnOk, sym, ap, subst, ◌∙◌}
use Rattle.std.proofs.Common.{arith, append_assoc, lt_of_lt_of_le}
use Rattle.std.specs.Int.{byte_at, bytes_high_first}
use Rattle.mufom_text.specs.Words.{Text}
use native.Mathlib.Nat.{div-eq_of_lt, pow-le-pow_right}

-- a number of 64 bits has no further bytes
pub high-byte : (n place : ℕ) → n < 2 ^ 64 → 8 ≤ place → 0 ≡ byte_at place n
high-byte n zero fits high = absurd (omega (arith, high))
high-byte n (suc i) fits high =
    let below : n < 256 ^ 8 = fits in
    let large : 256 ^ 8 ≤ 256 ^ suc i = pow-le-pow_right {n = 256} (omega arith) {i = 8} {j = suc i} high in
    let none : n / 256 ^ suc i ≡ 0 = div-eq_of_lt {n = n} {m = 256 ^ suc i} (lt_of_lt_of_le below large) in
    sym (ap (λ q. q % 256) none)

-- the bytes from a place down, after those above
pub bytes-down : (done all : List ℕ) (left place n : ℕ) → left ≡ suc place → done ++ bytes_high_first left n ≡ all → (done ++ byte_at place n ∷ [])
    ++ bytes_high_first place n ≡ all
bytes-down done all left place n next so_far =
    append_assoc done (byte_at place n ∷ []) (bytes_high_first place n) ∙ subst (λ (k : ℕ). done ++ bytes_high_first k n ≡ all) next so_far

-- ---- texts that are added one after another

pub on-ok-along : {A E : Type 0} (r : Result A E) (P Q : Type 0) → (P → Q) → OnOk r P → OnOk r Q
on-ok-along (Ok a) P Q along is = along is
on-ok-along (Err e) P Q along is = tt

pub both-added : (old mid new a b whole : Text) → mid ≡ old ++ a → new ≡ mid ++ b → whole ≡ a ++ b → new ≡ old ++ whole
both-added old mid new a b whole first second same = second ∙ ap (λ (t : Text). t ++ b) first ∙ append_assoc old a b ∙ ap (λ (t : Text). old ++ t) (sym same)

pub two-chunks : (a b c d : Text) → a ++ b ++ c ++ d ≡ (a ++ b) ++ (c ++ d)
two-chunks a b c d = simp append_assoc

pub overflow-added : (old t1 t2 t3 t4 t5 t6 n a k s v : Text) → t1 ≡ old ++ (codes "Overflow section " ++ n) → t2 ≡ t1 ++ (codes " at " ++ a) → t3
    ≡ t2 ++ 32 ∷ [] → t4 ≡ t3 ++ k
    → t5 ≡ t4 ++ (codes " " ++ s) → t6 ≡ t5 ++ (codes " value " ++ v)
    → t6 ≡ old ++ (codes "Overflow section " ++ n ++ codes " at " ++ a ++ codes " " ++ k ++ codes " " ++ s ++ codes " value " ++ v)
overflow-added old t1 t2 t3 t4 t5 t6 n a k s v h1 h2 h3 h4 h5 h6 = rw (h6, h5, h4, h3, h2, h1) (simp append_assoc)
