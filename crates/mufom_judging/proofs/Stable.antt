-- A position stays the same if more indexes are declared.
use Rattle.std.proofs.Common.{◌≡◌, ℕ, suc, ◌+◌, ◌<◌, ◌≤◌, ◌==◌, ◌||◌, Bool, true, false, true≢false, not, cond, nat_lt, lt-ltb, arith, List, [], ◌∷◌}
use Rattle.std.proofs.Common.{◌++◌, length, Some, None, refl, sym, ap, ◌∙◌}
use Rattle.std.specs.Prelude.{unwrap_or}
use Rattle.std.specs.List.{list_any, position_or_len}
use Rattle.std.proofs.lemmas.Grind.{common_steps}
use Rattle.mufom_module.specs.SpelledRecords.{position_in}

one_step : (here : Bool) (p q n : ℕ) → (here ≡ false → (p ≡ q) × (q < n)) → (cond (not here) (1 + p) 0 ≡ cond (not here) (1 + q) 0)
    × (cond (not here) (1 + q) 0 < suc n)
one_step true p q n h = (refl, omega arith)
one_step false p q n h = let after = h refl in (ap (λ k. 1 + k) after.0, let below = after.1 in omega (arith, below))

or_false : (a b : Bool) → (a || b) ≡ true → a ≡ false → b ≡ true
or_false true b h e = absurd (true≢false e)
or_false false b h e = h

found : (test : ℕ → Bool) (js more : List ℕ) → list_any test js ≡ true → (position_or_len test (js ++ more) ≡ position_or_len test js)
    × (position_or_len test js < length js)
found test [] more h = absurd (true≢false (sym h))
found test (j ∷ js) more h = one_step (test j) (position_or_len test (js ++ more)) (position_or_len test js) (length js)
    (λ e. found test js more (or_false (test j) (list_any test js) h e))

at_place : (p n : ℕ) → p < n → unwrap_or (cond (nat_lt p n) (Some p) None) 0 ≡ p
at_place p n h = ap (λ b. unwrap_or (cond b (Some p) None) 0) (lt-ltb p n h)

longer : (js more : List ℕ) → length js ≤ length (js ++ more)
longer js more = grind (arith, common_steps)

-- the position of an index that is declared, among more indexes
pub position-stays : (js more : List ℕ) (i : ℕ) → list_any (λ j. j == i) js ≡ true → position_in (js ++ more) i ≡ position_in js i
position-stays js more i h =
    let test : ℕ → Bool = λ j. j == i in
    let there = found test js more h in
    let p = position_or_len test js in
    let same = there.0 in
    let below = there.1 in
    let room = longer js more in
    ap (λ k. unwrap_or (cond (nat_lt k (length (js ++ more))) (Some k) None) 0) same
    ∙ at_place p (length (js ++ more)) (omega (arith, below, room)) ∙ sym (at_place p (length js) below)
