-- Why an expression has no value: it divides by 0, or names a counter or a public that has none.
use Rattle.std.proofs.Common.{◌≡◌, ℕ, zero, suc, ◌+◌, ◌-◌, ◌≤◌, ◌⊎◌, inl, inr, length, Option, Some, None, Bool, true, false, ◌||◌, refl, sym, ◌∙◌, ap, arith}
use Rattle.std.specs.Prelude.{slice_get, option_map, if◌then◌else◌, Contains}
use Rattle.mufom_expr.specs.declared.token.Letter.{Letter}
use Rattle.mufom_expr.specs.declared.token.Letter.TheVariants as letters
use Rattle.mufom_expr.specs.Tree.{Tree, number, variable, one, two}
use Rattle.mufom_expr.specs.Value.{Environment, value_at, variables_of, divides_by_zero, is_division, is_zero, LacksAValue}
use Rattle.mufom_expr.proofs.ValueLaws.{none-lost, lost-none}
use Rattle.mufom_names.specs.declared.name.Reference.{Reference}
use Rattle.mufom_meaning.specs.Flat.{Sited, SitedPublic, first_named}
use Rattle.mufom_meaning.specs.Values.{Setting, Valuation, valuation_of, unresolved_value}
use Rattle.mufom_meaning.specs.Values.{reference_value, valuation_of_reference, environment, value_within, value}
use Rattle.mufom_meaning.specs.Values.{has_zero_divisor}
use Rattle.mufom_meaning.specs.Valued.{IsMentionedIn}
use Rattle.mufom_meaning.proofs.Members.{In, In-left, In-right, In-append, In-Contains, Contains-In}
use Rattle.mufom_meaning.proofs.values.Monotone.{value_within-more}
use Rattle.mufom_meaning.specs.Cycles.{mentioned, mentioned_reference}

-- the value of a public with k steps of names left
abbrev pub valuation_below : Setting → ℕ → Valuation
valuation_below s zero = λ site t. None
valuation_below s (suc k) = λ site t. value_within s k site None t

pub within_is : (s : Setting) (k : ℕ) (site : Sited) (pc : Option ℕ) (t : Tree) → value_within s k site pc t
    ≡ value_at s.modulus (environment s (valuation_below s k) site pc) t
unfolding value_within
within_is s zero site pc t = refl
within_is s (suc k) site pc t = refl

-- more steps keep a value
pub value_within-add : (s : Setting) (d k : ℕ) (site : Sited) (pc : Option ℕ) (t : Tree) (v : ℕ) → value_within s k site pc t ≡ Some v
    → value_within s (d + k) site pc t ≡ Some v
value_within-add s zero k site pc t v e = let same : 0 + k ≡ k = omega arith in ap (λ n. value_within s n site pc t) same ∙ e
value_within-add s (suc d) k site pc t v e =
    let same : suc d + k ≡ suc (d + k) = omega arith in ap (λ n. value_within s n site pc t) same
    ∙ value_within-more s (d + k) site pc t v (value_within-add s d k site pc t v e)

pub value_within-le : (s : Setting) (k n : ℕ) → k ≤ n → (site : Sited) (pc : Option ℕ) (t : Tree) (v : ℕ) → value_within s k site pc t ≡ Some v
    → value_within s n site pc t ≡ Some v
value_within-le s k n le site pc t v e =
    let same : n ≡ (n - k) + k = omega (arith, le) in ap (λ n. value_within s n site pc t) same ∙ value_within-add s (n - k) k site pc t v e

-- a zero divisor stays where values stay
module _ (f g : Tree → Option ℕ) (keeps : (t : Tree) (v : ℕ) → f t ≡ Some v → g t ≡ Some v) where
  zero-keeps : (t : Tree) → is_zero (f t) ≡ true → is_zero (g t) ≡ true
  zero-keeps t e = by_case (f t) refl e where
    by_case : (o : Option ℕ) → f t ≡ o → is_zero o ≡ true → is_zero (g t) ≡ true
    by_case None h e = absurd cc
    by_case (Some zero) h e = ap is_zero (keeps t 0 h)
    by_case (Some (suc n)) h e = absurd cc

  or_keeps : (a b c d : Bool) → (a ≡ true → b ≡ true) → (c ≡ true → d ≡ true) → (a || c) ≡ true → (b || d) ≡ true
  or_keeps true b c d h k e = ap (λ x. x || d) (h refl)
  or_keeps false b c d h k e = either b (k e) where
    either : (b : Bool) → d ≡ true → (b || d) ≡ true
    either true e = refl
    either false e = e

  division-keeps : (b : Bool) (t : Tree) → (if b then is_zero (f t) else false) ≡ true → (if b then is_zero (g t) else false) ≡ true
  division-keeps true t e = zero-keeps t e
  division-keeps false t e = e

  divides_by_zero-keeps : (t : Tree) → divides_by_zero f t ≡ true → divides_by_zero g t ≡ true
  divides_by_zero-keeps (number n) e = e
  divides_by_zero-keeps (variable l n) e = e
  divides_by_zero-keeps (one h a) e = divides_by_zero-keeps a e
  divides_by_zero-keeps (two h a b) e =
      or_keeps (divides_by_zero f a || divides_by_zero f b) (divides_by_zero g a || divides_by_zero g b) (if is_division h then is_zero (f b)
      else false) (if is_division h then is_zero (g b) else false)
      (or_keeps (divides_by_zero f a) (divides_by_zero g a) (divides_by_zero f b) (divides_by_zero g b) (divides_by_zero-keeps a)
      (divides_by_zero-keeps b)) (division-keeps (is_division h) b) e

divides_by_zero-same : (f g : Tree → Option ℕ) → ((t : Tree) → f t ≡ g t) → (t : Tree) → divides_by_zero f t ≡ true → divides_by_zero g t ≡ true
divides_by_zero-same f g same = divides_by_zero-keeps f g (λ t v e. sym (same t) ∙ e)

-- a variable that has no value is in the tree
lacking : (env : Environment) (t : Tree) → LacksAValue env t → (v : Letter × ℕ) × In v (variables_of t) × (env v.0 v.1 ≡ None)
lacking env (number n) h = absurd h
lacking env (variable l n) h = ((l, n), inl refl, h)
lacking env (one f a) h = lacking env a h
lacking env (two f a b) (inl h) = let there = lacking env a h in (there.0, In-left there.0 (variables_of a) (variables_of b) there.1, there.2)
lacking env (two f a b) (inr h) = let there = lacking env b h in (there.0, In-right there.0 (variables_of a) (variables_of b) there.1, there.2)

lacks : (env : Environment) (t : Tree) (v : Letter × ℕ) → In v (variables_of t) → env v.0 v.1 ≡ None → LacksAValue env t
lacks env (number n) v m e = absurd m
lacks env (variable l n) v (inl same) e = ap (λ (v : Letter × ℕ). env v.0 v.1) same ∙ e
lacks env (variable l n) v (inr m) e = absurd m
lacks env (one f a) v m e = lacks env a v m e
lacks env (two f a b) v m e = by_case (In-append v (variables_of a) (variables_of b) m) (lacks env a v) (lacks env b v) where
  by_case : In v (variables_of a) ⊎ In v (variables_of b) → (In v (variables_of a) → env v.0 v.1 ≡ None → LacksAValue env a)
      → (In v (variables_of b) → env v.0 v.1 ≡ None → LacksAValue env b)
      → LacksAValue env a ⊎ LacksAValue env b
  by_case (inl m) left right = inl (left m e)
  by_case (inr m) left right = inr (right m e)

-- An expression's module has all that its variables name: the bases and sections, the publics and the references that it speaks of
-- are there, and a reference that no public meets has a base of its common or a default.
pub record IsWellNamed (s : Setting) (site : Sited) (t : Tree) : Type 0 where
  pub based : (n : ℕ) → In (letters.R, n) (variables_of t) ⊎ In (letters.L, n) (variables_of t) → slice_get s.bases (site.first_section + n) ≡ None → ⊥
  pub sectioned : (n : ℕ) → In (letters.S, n) (variables_of t) → slice_get s.sections (site.first_section + n) ≡ None → ⊥
  pub named : (n : ℕ) → In (letters.I, n) (variables_of t) → slice_get s.publics (site.first_public + n) ≡ None → ⊥
  pub referred : (n : ℕ) → In (letters.X, n) (variables_of t) → slice_get site.parts.names.references n ≡ None → ⊥
  pub met : (n : ℕ) (r : Reference) → slice_get site.parts.names.references n ≡ Some r → first_named s.publics r.name ≡ None → unresolved_value s r ≡ None → ⊥

-- the program counter, which the expression names, has no value, or a public that it mentions has none
abbrev pub IsNoneBy : Setting → Valuation → Sited → Option ℕ → Tree → Type 0
IsNoneBy s valuation site pc t =
    ((n : ℕ) × In (letters.P, n) (variables_of t) × (pc ≡ None)) ⊎ ((q : SitedPublic) × IsMentionedIn s site t q × (valuation q.site q.entry.value ≡ None))

module _ (s : Setting) (valuation : Valuation) (site : Sited) (pc : Option ℕ) (t : Tree) (w : IsWellNamed s site t) where
  mapped : {A B : Type 0} (f : A → B) (o : Option A) → option_map f o ≡ None → o ≡ None
  mapped f None e = refl
  mapped f (Some x) e = absurd cc

  by_public : (n : ℕ) → In (letters.I, n) (variables_of t) → (o : Option SitedPublic) → slice_get s.publics (site.first_public + n) ≡ o
      → valuation_of valuation o ≡ None → IsNoneBy s valuation site pc t
  by_public n m None h e = absurd (w.named n m h)
  by_public n m (Some q) h e = inr (q, ((letters.I, n), In-Contains (letters.I, n) (variables_of t) m, h), e)

  by_name : (n : ℕ) → In (letters.X, n) (variables_of t) → (r : Reference) → slice_get site.parts.names.references n ≡ Some r
      → (o : Option SitedPublic) → first_named s.publics r.name ≡ o → reference_value valuation o (unresolved_value s r) ≡ None → IsNoneBy s valuation site pc t
  by_name n m r h None f e = absurd (w.met n r h f e)
  by_name n m r h (Some q) f e = inr (q, ((letters.X, n), In-Contains (letters.X, n) (variables_of t) m, ap (mentioned_reference s) h ∙ f), e)

  by_reference : (n : ℕ) → In (letters.X, n) (variables_of t) → (o : Option Reference) → slice_get site.parts.names.references n ≡ o
      → valuation_of_reference s valuation o ≡ None → IsNoneBy s valuation site pc t
  by_reference n m None h e = absurd (w.referred n m h)
  by_reference n m (Some r) h e = by_name n m r h (first_named s.publics r.name) refl e

  by_variable : (l : Letter) (n : ℕ) → In (l, n) (variables_of t) → environment s valuation site pc l n ≡ None → IsNoneBy s valuation site pc t
  by_variable letters.R n m e = absurd (w.based n (inl m) e)
  by_variable letters.L n m e = absurd (w.based n (inr m) e)
  by_variable letters.S n m e = absurd (w.sectioned n m (mapped _ (slice_get s.sections (site.first_section + n)) e))
  by_variable letters.P n m e = inl (n, m, e)
  by_variable letters.I n m e = by_public n m (slice_get s.publics (site.first_public + n)) refl e
  by_variable letters.X n m e = by_reference n m (slice_get site.parts.names.references n) refl e

-- with some steps left an expression has no value only for these causes
pub none_cause : (s : Setting) (k : ℕ) (site : Sited) (pc : Option ℕ) (t : Tree) → IsWellNamed s site t → value_within s k site pc t ≡ None
    → IsNoneBy s (valuation_below s k) site pc t ⊎ (divides_by_zero (value_within s k site pc) t ≡ true)
none_cause s k site pc t w e = by_case (none-lost s.modulus (environment s (valuation_below s k) site pc) t (sym (within_is s k site pc t) ∙ e)) where
  by_case : LacksAValue (environment s (valuation_below s k) site pc) t ⊎
      (divides_by_zero (value_at s.modulus (environment s (valuation_below s k) site pc)) t ≡ true)
      → IsNoneBy s (valuation_below s k) site pc t ⊎ (divides_by_zero (value_within s k site pc) t ≡ true)
  by_case (inl h) = let there = lacking (environment s (valuation_below s k) site pc) t h in
      inl (by_variable s (valuation_below s k) site pc t w there.0.0 there.0.1 there.1 there.2)
  by_case (inr h) = inr (divides_by_zero-same (value_at s.modulus (environment s (valuation_below s k) site pc)) (value_within s k site pc)
      (λ part. sym (within_is s k site pc part)) t h)

-- a zero divisor at fewer steps is one at all
pub zero_divisor-le : (s : Setting) (k : ℕ) → k ≤ length s.publics → (site : Sited) (pc : Option ℕ) (t : Tree)
    → divides_by_zero (value_within s k site pc) t ≡ true → has_zero_divisor s site pc t ≡ true
zero_divisor-le s k le site pc = divides_by_zero-keeps (value_within s k site pc) (value_within s (length s.publics) site pc)
    (value_within-le s k (length s.publics) le site pc)

-- The way back.

-- an expression that divides by 0 has no value
pub zero_divisor-none : (s : Setting) (site : Sited) (pc : Option ℕ) (t : Tree) → has_zero_divisor s site pc t ≡ true → value s site pc t ≡ None
zero_divisor-none s site pc t h =
    within_is s (length s.publics) site pc t
    ∙ lost-none s.modulus (environment s (valuation_below s (length s.publics)) site pc) t
    (inr (divides_by_zero-same (value_within s (length s.publics) site pc)
    (value_at s.modulus (environment s (valuation_below s (length s.publics)) site pc)) (within_is s (length s.publics) site pc) t h))

-- a value of a public that there is with fewer steps is there with all
below_none : (s : Setting) (k : ℕ) → k ≤ length s.publics → (site : Sited) (t : Tree) → value s site None t ≡ None → valuation_below s k site t ≡ None
below_none s zero le site t e = refl
below_none s (suc k) le site t e = by_case (value_within s k site None t) refl where
  by_case : (o : Option ℕ) → value_within s k site None t ≡ o → o ≡ None
  by_case None h = refl
  by_case (Some v) h = absurd (let there : value s site None t ≡ Some v = value_within-le s k (length s.publics) (omega (arith, le)) site None t v h in cc)

variable-none : (s : Setting) (site : Sited) (pc : Option ℕ) (t : Tree) (v : Letter × ℕ) → In v (variables_of t)
    → environment s (valuation_below s (length s.publics)) site pc v.0 v.1 ≡ None → value s site pc t ≡ None
variable-none s site pc t v m e =
    within_is s (length s.publics) site pc t ∙ lost-none s.modulus (environment s (valuation_below s (length s.publics)) site pc) t
    (inl (lacks (environment s (valuation_below s (length s.publics)) site pc) t v m e))

module _ (s : Setting) (valuation : Valuation) (site : Sited) (pc : Option ℕ) (q : SitedPublic) (e : valuation q.site q.entry.value ≡ None) where
  reference-none : (r : Option Reference) → mentioned_reference s r ≡ Some q → valuation_of_reference s valuation r ≡ None
  reference-none None h = refl
  reference-none (Some r) h = ap (λ o. reference_value valuation o (unresolved_value s r)) h ∙ e

  mention-none : (l : Letter) (n : ℕ) → mentioned s site l n ≡ Some q → environment s valuation site pc l n ≡ None
  mention-none letters.R n h = absurd cc
  mention-none letters.L n h = absurd cc
  mention-none letters.S n h = absurd cc
  mention-none letters.P n h = absurd cc
  mention-none letters.I n h = ap (valuation_of valuation) h ∙ e
  mention-none letters.X n h = reference-none (slice_get site.parts.names.references n) h

-- an expression that mentions a public without a value has none
pub mentioned-none : (s : Setting) (site : Sited) (pc : Option ℕ) (t : Tree) (q : SitedPublic) → IsMentionedIn s site t q
    → value s q.site None q.entry.value ≡ None → value s site pc t ≡ None
mentioned-none s site pc t q m e =
    let least : length s.publics ≤ length s.publics = omega arith in
    variable-none s site pc t m.0 (Contains-In m.0 (variables_of t) m.1)
    (mention-none s (valuation_below s (length s.publics)) site pc q (below_none s (length s.publics) least q.site q.entry.value e) m.0.0 m.0.1 m.2)

-- an expression that names a counter without a value has none
pub counter-none : (s : Setting) (site : Sited) (pc : Option ℕ) (t : Tree) (n : ℕ) → Contains (variables_of t) (letters.P, n) → pc ≡ None
    → value s site pc t ≡ None
counter-none s site pc t n m e = variable-none s site pc t (letters.P, n) (Contains-In (letters.P, n) (variables_of t) m) e
