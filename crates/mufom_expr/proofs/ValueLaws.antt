-- Values of trees: renaming, residues, and when there is no value.
use Rattle.std.proofs.Common.{◌≡◌, ◌⊎◌, ℕ, zero, suc, ◌+◌, ◌-◌, ◌*◌, ◌/◌, ◌%◌, ◌^◌, ◌<◌, ◌≤◌, ◌==◌, ◌||◌, Bool, true, false, Option, Some, None, refl}
use Rattle.std.proofs.Common.{ap, inl, inr, arith}
use Rattle.std.specs.Prelude.{option_map, IfSome, if◌then◌else◌, nat_lt}
use Rattle.std.specs.Int.Bits.{and_lt}
use Rattle.std.proofs.Math.Nat.{mod-lt, div-le_self}
use Rattle.std.proofs.lemmas.Nat.{or_lt, xor_lt}
use Rattle.mufom_expr.specs.declared.token.Letter.{Letter}
use Rattle.mufom_expr.specs.Tree.{Tree, number, variable, one, two, OneOperand, absolute, negated, TwoOperands, plus, minus, divided, times, larger}
use Rattle.mufom_expr.specs.Tree.{smaller, modulo, is_less, is_greater, is_equal, is_unequal, and_bits, or_bits, xor_bits}
use Rattle.mufom_expr.specs.Value.{Environment, value_at, one_value, two_value, both, with_variables, value_through, LacksAValue, divides_by_zero}
use Rattle.mufom_expr.specs.Value.{is_division, is_zero, bit_of}
use Rattle.mufom_expr.proofs.Residues.{bool_below}

-- ---- other variables

pub value_at-renamed : (m : ℕ) (env : Environment) (rename : Letter → ℕ → Letter × ℕ) (t : Tree) → value_at m env (with_variables rename t)
    ≡ value_at m (value_through rename env) t
value_at-renamed m env rename (number n) = refl
value_at-renamed m env rename (variable l p) = refl
value_at-renamed m env rename (one f a) = ap (option_map (one_value m f)) (value_at-renamed m env rename a)
value_at-renamed m env rename (two f a b) =
    let left = value_at-renamed m env rename a in
    let right = value_at-renamed m env rename b in
    λ i. both (two_value m f) (left i) (right i)

-- ---- when there is no value

some_or : {P : Type 0} (v : ℕ) → ◌≡◌ {A = Option ℕ} (Some v) None → P
some_or v e = let no : ◌≡◌ {A = Option ℕ} (Some v) None = e in absurd cc

-- a function of two operands has no value if an operand has none, or if it divides by 0
abbrev divides : TwoOperands → Option ℕ → Bool
divides f y = if is_division f then is_zero y else false

module _ (m : ℕ) where
  lost : (f : TwoOperands) (u v : ℕ) → two_value m f u v ≡ None → divides f (Some v) ≡ true
  lost plus u v e = some_or ((u + v) % m) e
  lost minus u v e = some_or ((u + (m - v)) % m) e
  lost divided u zero e = refl
  lost divided u (suc v) e = some_or (u / suc v) e
  lost times u v e = some_or ((u * v) % m) e
  lost larger u v e = absurd cc
  lost smaller u v e = absurd cc
  lost modulo u zero e = refl
  lost modulo u (suc v) e = some_or (u % suc v) e
  lost is_less u v e = absurd cc
  lost is_greater u v e = absurd cc
  lost is_equal u v e = absurd cc
  lost is_unequal u v e = absurd cc
  lost and_bits u v e = absurd cc
  lost or_bits u v e = absurd cc
  lost xor_bits u v e = absurd cc

  both-none : (f : TwoOperands) (x y : Option ℕ) → both (two_value m f) x y ≡ None → (x ≡ None) ⊎ ((y ≡ None) ⊎ (divides f y ≡ true))
  both-none f None y e = inl refl
  both-none f (Some u) None e = inr (inl refl)
  both-none f (Some u) (Some v) e = inr (inr (lost f u v e))

  none-left : (f : TwoOperands) (x y : Option ℕ) → x ≡ None → both (two_value m f) x y ≡ None
  none-left f x y e = rw e refl

  none-right : (f : TwoOperands) (x y : Option ℕ) → y ≡ None → both (two_value m f) x y ≡ None
  none-right f None y e = refl
  none-right f (Some u) y e = rw e refl

  division-zero : (f : TwoOperands) (y : Option ℕ) → divides f y ≡ true → is_zero y ≡ true
  division-zero divided y e = e
  division-zero modulo y e = e
  division-zero plus y e = absurd cc
  division-zero minus y e = absurd cc
  division-zero times y e = absurd cc
  division-zero larger y e = absurd cc
  division-zero smaller y e = absurd cc
  division-zero is_less y e = absurd cc
  division-zero is_greater y e = absurd cc
  division-zero is_equal y e = absurd cc
  division-zero is_unequal y e = absurd cc
  division-zero and_bits y e = absurd cc
  division-zero or_bits y e = absurd cc
  division-zero xor_bits y e = absurd cc

  by_zero : (f : TwoOperands) (u : ℕ) → is_division f ≡ true → two_value m f u 0 ≡ None
  by_zero divided u e = refl
  by_zero modulo u e = refl
  by_zero plus u e = absurd cc
  by_zero minus u e = absurd cc
  by_zero times u e = absurd cc
  by_zero larger u e = absurd cc
  by_zero smaller u e = absurd cc
  by_zero is_less u e = absurd cc
  by_zero is_greater u e = absurd cc
  by_zero is_equal u e = absurd cc
  by_zero is_unequal u e = absurd cc
  by_zero and_bits u e = absurd cc
  by_zero or_bits u e = absurd cc
  by_zero xor_bits u e = absurd cc

  is_division-divides : (f : TwoOperands) (y : Option ℕ) → divides f y ≡ true → is_division f ≡ true
  is_division-divides f y e = by_test (is_division f) refl e where
    by_test : (r : Bool) → is_division f ≡ r → (if r then is_zero y else false) ≡ true → r ≡ true
    by_test true test h = refl
    by_test false test h = absurd cc

  none-division : (f : TwoOperands) (x y : Option ℕ) → divides f y ≡ true → both (two_value m f) x y ≡ None
  none-division f None y e = refl
  none-division f (Some u) None e = refl
  none-division f (Some u) (Some zero) e = by_zero f u (is_division-divides f (Some 0) e)
  none-division f (Some u) (Some (suc v)) e = let no : false ≡ true = division-zero f (Some (suc v)) e in absurd cc

any_of : (a b c : Bool) → (a || b || c) ≡ true → (a ≡ true) ⊎ ((b ≡ true) ⊎ (c ≡ true))
any_of true b c e = inl refl
any_of false true c e = inr (inl refl)
any_of false false true e = inr (inr refl)
any_of false false false e = absurd cc

first_of : (a b c : Bool) → a ≡ true → (a || b || c) ≡ true
first_of a b c e = rw e refl

second_of : (a b c : Bool) → b ≡ true → (a || b || c) ≡ true
second_of true b c e = refl
second_of false b c e = rw e refl

third_of : (a b c : Bool) → c ≡ true → (a || b || c) ≡ true
third_of true b c e = refl
third_of false true c e = refl
third_of false false c e = e

mapped-none : {X Y : Type 0} (f : X → Y) (o : Option X) → option_map f o ≡ None → o ≡ None
mapped-none f None e = refl
mapped-none {X} {Y} f (Some x) e = let no : ◌≡◌ {A = Option Y} (Some (f x)) None = e in absurd cc

module _ (m : ℕ) (env : Environment) where
  abbrev Lost : Tree → Type 0
  Lost t = LacksAValue env t ⊎ (divides_by_zero (value_at m env) t ≡ true)

  of_left : (f : TwoOperands) (a b : Tree) → Lost a → Lost (two f a b)
  of_left f a b (inl lacks) = inl (inl lacks)
  of_left f a b (inr there) = inr (first_of _ _ _ there)

  of_right : (f : TwoOperands) (a b : Tree) → Lost b → Lost (two f a b)
  of_right f a b (inl lacks) = inl (inr lacks)
  of_right f a b (inr there) = inr (second_of (divides_by_zero (value_at m env) a) _ _ there)

  pub none-lost : (t : Tree) → value_at m env t ≡ None → Lost t
  none-lost (number n) e = some_or (n % m) e
  none-lost (variable l p) e = inl (mapped-none (λ v. v % m) (env l p) e)
  none-lost (one f a) e = none-lost a (mapped-none (one_value m f) (value_at m env a) e)
  none-lost (two f a b) e = by_cause (both-none m f (value_at m env a) (value_at m env b) e) (none-lost a) (none-lost b) where
    by_cause : (value_at m env a ≡ None) ⊎ ((value_at m env b ≡ None) ⊎ (divides f (value_at m env b) ≡ true)) → (value_at m env a ≡ None → Lost a)
        → (value_at m env b ≡ None → Lost b) → Lost (two f a b)
    by_cause (inl none) left right = of_left f a b (left none)
    by_cause (inr (inl none)) left right = of_right f a b (right none)
    by_cause (inr (inr there)) left right = inr (third_of (divides_by_zero (value_at m env) a) (divides_by_zero (value_at m env) b) _ there)

  pub lost-none : (t : Tree) → Lost t → value_at m env t ≡ None
  lost-none (number n) (inl lacks) = absurd lacks
  lost-none (number n) (inr there) = absurd cc
  lost-none (variable l p) (inl lacks) = rw lacks refl
  lost-none (variable l p) (inr there) = absurd cc
  lost-none (one f a) h = rw (lost-none a h) refl
  lost-none (two f a b) (inl (inl lacks)) = none-left m f _ _ (lost-none a (inl lacks))
  lost-none (two f a b) (inl (inr lacks)) = none-right m f _ _ (lost-none b (inl lacks))
  lost-none (two f a b) (inr there) = by_cause (any_of (divides_by_zero (value_at m env) a) (divides_by_zero (value_at m env) b) _ there)
      (lost-none a) (lost-none b) where
        by_cause : (divides_by_zero (value_at m env) a ≡ true) ⊎ ((divides_by_zero (value_at m env) b ≡ true) ⊎ (divides f (value_at m env b) ≡ true))
            → (Lost a → value_at m env a ≡ None) → (Lost b → value_at m env b ≡ None) → value_at m env (two f a b) ≡ None
        by_cause (inl there) left right = none-left m f _ _ (left (inr there))
        by_cause (inr (inl there)) left right = none-right m f _ _ (right (inr there))
        by_cause (inr (inr there)) left right = none-division m f _ _ there

-- ---- residues

positive : (w : ℕ) → 0 < 2 ^ w
positive zero = omega arith
positive (suc w) = omega (arith, positive w)

module _ (w : ℕ) (low : 1 ≤ w) where
  abbrev Residue : Option ℕ → Type 0
  Residue o = IfSome o (λ v. v < 2 ^ w)

  bit_small : (b : Bool) → bit_of b < 2 ^ w
  bit_small true = bool_below true w low
  bit_small false = positive w

  one_small : (f : OneOperand) (o : Option ℕ) → Residue o → Residue (option_map (one_value (2 ^ w) f) o)
  one_small f None h = tt
  one_small absolute (Some a) h = by_test (nat_lt (a + a) (2 ^ w)) where
    by_test : (r : Bool) → (if r then a else (2 ^ w - a) % 2 ^ w) < 2 ^ w
    by_test true = h
    by_test false = mod-lt (2 ^ w - a) (positive w)
  one_small negated (Some a) h = mod-lt (2 ^ w - a) (positive w)

  two_small : (f : TwoOperands) (a b : ℕ) → a < 2 ^ w → b < 2 ^ w → Residue (two_value (2 ^ w) f a b)
  two_small plus a b h k = mod-lt (a + b) (positive w)
  two_small minus a b h k = mod-lt (a + (2 ^ w - b)) (positive w)
  two_small divided a zero h k = tt
  two_small divided a (suc b) h k = omega (arith, h, div-le_self a (suc b))
  two_small times a b h k = mod-lt (a * b) (positive w)
  two_small larger a b h k = omega (arith, h, k)
  two_small smaller a b h k = omega (arith, h, k)
  two_small modulo a zero h k = tt
  two_small modulo a (suc b) h k = omega (arith, k, mod-lt a {m = suc b} (omega arith))
  two_small is_less a b h k = bit_small (nat_lt a b)
  two_small is_greater a b h k = bit_small (nat_lt b a)
  two_small is_equal a b h k = bit_small (a == b)
  two_small is_unequal a b h k = by_test (a == b) where
    by_test : (r : Bool) → (if r then 0 else 1) < 2 ^ w
    by_test true = positive w
    by_test false = bool_below true w low
  two_small and_bits a b h k = and_lt w a b h k
  two_small or_bits a b h k = or_lt w a b h k
  two_small xor_bits a b h k = xor_lt w a b h k

  both_small : (f : TwoOperands) (x y : Option ℕ) → Residue x → Residue y → Residue (both (two_value (2 ^ w) f) x y)
  both_small f None y h k = tt
  both_small f (Some u) None h k = tt
  both_small f (Some u) (Some v) h k = two_small f u v h k

  reduced_small : (o : Option ℕ) → Residue (option_map (λ v. v % 2 ^ w) o)
  reduced_small None = tt
  reduced_small (Some v) = mod-lt v (positive w)

  pub value_small : (env : Environment) (t : Tree) → Residue (value_at (2 ^ w) env t)
  value_small env (number n) = mod-lt n (positive w)
  value_small env (variable l p) = reduced_small (env l p)
  value_small env (one f a) = one_small f _ (value_small env a)
  value_small env (two f a b) = both_small f _ _ (value_small env a) (value_small env b)
