-- More steps of names keep a value.
use Rattle.std.proofs.Common.{◌≡◌, ℕ, zero, suc, Option, Some, None, refl, ◌∙◌, ap}
use Rattle.std.specs.Prelude.{option_map, ◌+◌, ◌%◌, slice_get}
use Rattle.mufom_expr.specs.declared.token.Letter.{Letter}
use Rattle.mufom_expr.specs.declared.token.Letter.TheVariants as letters
use Rattle.mufom_expr.specs.Tree.{Tree, number, variable, one, two}
use Rattle.mufom_expr.specs.Value.{Environment, value_at, both, one_value, two_value}
use Rattle.mufom_names.specs.declared.name.Reference.{Reference}
use Rattle.mufom_meaning.specs.Flat.{Sited, SitedPublic, first_named}
use Rattle.mufom_meaning.specs.Values.{Setting, Valuation, valuation_of, unresolved_value, reference_value, valuation_of_reference, environment, value_within}

-- what has a value has it in the other too
abbrev Keeps : Option ℕ → Option ℕ → Type 0
Keeps o u = (v : ℕ) → o ≡ Some v → u ≡ Some v

keeps_map : (f : ℕ → ℕ) (o u : Option ℕ) → Keeps o u → Keeps (option_map f o) (option_map f u)
keeps_map f None u k v e = absurd cc
keeps_map f (Some x) u k v e = ap (option_map f) (k x refl) ∙ e

keeps_both : (f : ℕ → ℕ → Option ℕ) (o u p q : Option ℕ) → Keeps o u → Keeps p q → Keeps (both f o p) (both f u q)
keeps_both f None u p q k l v e = absurd cc
keeps_both f (Some x) u None q k l v e = absurd cc
keeps_both f (Some x) u (Some y) q k l v e = let a = k x refl in let b = l y refl in (λ i. both f (a i) (b i)) ∙ e

value_at-keeps : (m : ℕ) (env other : Environment) → ((l : Letter) (n : ℕ) → Keeps (env l n) (other l n)) → (t : Tree)
    → Keeps (value_at m env t) (value_at m other t)
value_at-keeps m env other k (number n) = λ v e. e
value_at-keeps m env other k (variable l n) = keeps_map (λ v. v % m) (env l n) (other l n) (k l n)
value_at-keeps m env other k (one f a) = keeps_map (one_value m f) (value_at m env a) (value_at m other a) (value_at-keeps m env other k a)
value_at-keeps m env other k (two f a b) =
    keeps_both (two_value m f) (value_at m env a) (value_at m other a) (value_at m env b) (value_at m other b) (value_at-keeps m env other k a)
    (value_at-keeps m env other k b)

module _ (s : Setting) (w v : Valuation) (k : (site : Sited) (t : Tree) → Keeps (w site t) (v site t)) where
  keeps_public : (q : Option SitedPublic) → Keeps (valuation_of w q) (valuation_of v q)
  keeps_public None = λ x e. e
  keeps_public (Some q) = k q.site q.entry.value

  keeps_named : (q : Option SitedPublic) (unresolved : Option ℕ) → Keeps (reference_value w q unresolved) (reference_value v q unresolved)
  keeps_named None unresolved = λ x e. e
  keeps_named (Some q) unresolved = k q.site q.entry.value

  keeps_reference : (r : Option Reference) → Keeps (valuation_of_reference s w r) (valuation_of_reference s v r)
  keeps_reference None = λ x e. e
  keeps_reference (Some r) = keeps_named (first_named s.publics r.name) (unresolved_value s r)

  environment-keeps : (site : Sited) (pc : Option ℕ) (l : Letter) (n : ℕ) → Keeps (environment s w site pc l n) (environment s v site pc l n)
  environment-keeps site pc letters.R n = λ x e. e
  environment-keeps site pc letters.L n = λ x e. e
  environment-keeps site pc letters.S n = λ x e. e
  environment-keeps site pc letters.P n = λ x e. e
  environment-keeps site pc letters.I n = keeps_public (slice_get s.publics (site.first_public + n))
  environment-keeps site pc letters.X n = keeps_reference (slice_get site.parts.names.references n)

-- one more step of names keeps a value
pub value_within-more : (s : Setting) (k : ℕ) (site : Sited) (pc : Option ℕ) (t : Tree) (v : ℕ) → value_within s k site pc t ≡ Some v
    → value_within s (suc k) site pc t ≡ Some v
unfolding value_within
value_within-more s zero site pc t =
    value_at-keeps s.modulus _ _ (environment-keeps s (λ x y. None) (λ x y. value_within s zero x None y) (λ x y v e. absurd cc) site pc) t
value_within-more s (suc k) site pc t =
    value_at-keeps s.modulus _ _
    (environment-keeps s (λ x y. value_within s k x None y) (λ x y. value_within s (suc k) x None y) (λ x y. value_within-more s k x None y) site pc) t
