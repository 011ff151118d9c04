-- One step of reading numbers after those that were read before.
use Rattle.std.proofs.Common.{◌≡◌, ℕ, suc, ◌+◌, ◌-◌, ◌<◌, ◌≤◌, List, [], ◌∷◌, ◌++◌, length, Some, None, Ok, Err, refl, sym, append_assoc, arith}
use Rattle.std.proofs.lemmas.List.{append-nil}
use Rattle.mufom_records.specs.declared.stop.Stop.{Stop}
use Rattle.mufom_records.specs.Reading.{Reading, ◌>>=◌, optional_number_at, numbers_at}

-- the numbers read before, followed by those that are read now
abbrev pub following : List ℕ → Reading (List ℕ) → Reading (List ℕ)
following xs r = r >>= λ ns. Ok (xs ++ ns.0, ns.1)

joined : (xs : List ℕ) (n : ℕ) (r : Reading (List ℕ)) → following xs (r >>= λ ns. Ok (n ∷ ns.0, ns.1)) ≡ following (xs ++ n ∷ []) r
joined xs n (Ok ns) = let e : xs ++ n ∷ ns.0 ≡ (xs ++ n ∷ []) ++ ns.0 = sym (append_assoc xs (n ∷ []) ns.0) in rw e refl
joined xs n (Err stop) = refl

-- at most `most` numbers are read, and `xs` are those so far: one more follows, or none does, or the reading stops
pub numbers-next : (xs : List ℕ) (most n : ℕ) (input : List ℕ) (at after : ℕ) → length xs < most → optional_number_at input at ≡ Ok (Some n, after)
    → following xs (numbers_at (most - length xs) input at) ≡ following (xs ++ n ∷ []) (numbers_at (most - (length xs + 1)) input after)
numbers-next xs most n input at after room e =
    let k : most - length xs ≡ suc (most - (length xs + 1)) = omega arith in
    rw (k, e) (joined xs n (numbers_at (most - (length xs + 1)) input after))

pub numbers-none : (xs : List ℕ) (most : ℕ) (input : List ℕ) (at after : ℕ) → length xs < most → optional_number_at input at ≡ Ok (None, after)
    → following xs (numbers_at (most - length xs) input at) ≡ Ok (xs, after)
numbers-none xs most input at after room e =
    let k : most - length xs ≡ suc (most - (length xs + 1)) = omega arith in
    rw (k, e, append-nil xs) refl

pub numbers-stop : (xs : List ℕ) (most : ℕ) (input : List ℕ) (at : ℕ) (stop : Stop) → length xs < most → optional_number_at input at ≡ Err stop
    → following xs (numbers_at (most - length xs) input at) ≡ Err stop
numbers-stop xs most input at stop room e =
    let k : most - length xs ≡ suc (most - (length xs + 1)) = omega arith in
    rw (k, e) refl

pub numbers-full : (xs : List ℕ) (most : ℕ) (input : List ℕ) (at : ℕ) → most ≤ length xs → following xs (numbers_at (most - length xs) input at) ≡ Ok (xs, at)
numbers-full xs most input at full = let k : most - length xs ≡ 0 = omega arith in rw (k, append-nil xs) refl

pub numbers-first : (most : ℕ) (input : List ℕ) (at : ℕ) → following [] (numbers_at most input at) ≡ numbers_at most input at
numbers-first most input at = same (numbers_at most input at) where
  same : (r : Reading (List ℕ)) → following [] r ≡ r
  same (Ok ns) = refl
  same (Err stop) = refl
