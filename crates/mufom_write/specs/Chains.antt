-- Laws about a count of bytes that are written one after another.
use Rattle.std.proofs.Common.{◌≡◌, ℕ, ◌+◌, List, [], ◌++◌, length, Result, Ok, Err, IsErr, refl, ap, ◌∙◌, length-append, arith}
use Rattle.mufom_host.specs.declared.world.Failed.{Failed}
use Rattle.mufom_write.specs.Writing.{Counts}

pub Counts-nothing : (n : ℕ) → Counts n n [] (Ok tt)
Counts-nothing n = record { done = refl; length = omega arith }

pub Counts-then : (a b c : ℕ) (xs ys all : List ℕ) (r : Result (Unit {0}) Failed) → Counts a b xs (Ok tt) → Counts b c ys r → all ≡ xs ++ ys → Counts a c all r
Counts-then a b c xs ys all r p q same =
    let whole : length all ≡ length xs + length ys = ap length same ∙ length-append xs ys in
    record { done = q.done; length = omega (arith, p.length, q.length, whole) }

pub Counts-stopped : (a b : ℕ) (xs ys all : List ℕ) (e : Failed) (r : Result (Unit {0}) Failed) → Counts a b xs (Err e) → IsErr r → all ≡ xs ++ ys
    → Counts a b all r
Counts-stopped a b xs ys all e r p failed same = let no : Err e ≡ Ok tt = p.done in absurd cc
