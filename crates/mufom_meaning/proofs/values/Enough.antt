-- Where names lead in no circle, as many steps of names as there are publics are enough: more give the same value.
use Rattle.std.proofs.Common.{◌≡◌, ℕ, zero, suc, ◌+◌, List, length, Option, Some, None, inl, refl, sym, ◌∙◌, ap, arith}
use Rattle.std.specs.Prelude.{slice_get, option_map, ◌%◌}
use Rattle.mufom_expr.specs.declared.token.Letter.{Letter}
use Rattle.mufom_expr.specs.declared.token.Letter.TheVariants as letters
use Rattle.mufom_expr.specs.Tree.{Tree, number, variable, one, two}
use Rattle.mufom_expr.specs.Value.{Environment, value_at, variables_of, one_value, two_value, both}
use Rattle.mufom_names.specs.declared.name.Reference.{Reference}
use Rattle.mufom_module.specs.declared.module.Parts.{Parts}
use Rattle.mufom_meaning.specs.Bases.{Bases}
use Rattle.mufom_meaning.specs.Flat.{Sited, SitedPublic, first_named, flat_publics}
use Rattle.mufom_meaning.specs.Values.{Setting, setting, Valuation, valuation_of, unresolved_value}
use Rattle.mufom_meaning.specs.Values.{reference_value, valuation_of_reference, environment, value_within, value}
use Rattle.mufom_meaning.specs.Cycles.{mentioned, mentioned_reference, IsOnCycle}
use Rattle.mufom_meaning.specs.Facts.{duplicate}
use Rattle.mufom_meaning.specs.Stands.{LinkFactStands}
use Rattle.mufom_meaning.specs.Valued.{IsMentionedIn}
use Rattle.mufom_meaning.proofs.Members.{In, In-left, In-right, In-Contains}
use Rattle.mufom_meaning.proofs.values.Ends.{EndsWithin, all_end}
use Rattle.mufom_meaning.proofs.values.Causes.{valuation_below, within_is}
use Rattle.mufom_meaning.proofs.values.Named.{single_name, leads_from-bases}

-- a value looks at the variables of its tree alone
pub value_at-agrees_on_variables : (m : ℕ) (env other : Environment) (t : Tree)
    → ((v : Letter × ℕ) → In v (variables_of t) → env v.0 v.1 ≡ other v.0 v.1) → value_at m env t ≡ value_at m other t
value_at-agrees_on_variables m env other (number n) same = refl
value_at-agrees_on_variables m env other (variable l n) same = ap (option_map (λ v. v % m)) (same (l, n) (inl refl))
value_at-agrees_on_variables m env other (one f a) same = ap (option_map (one_value m f)) (value_at-agrees_on_variables m env other a same)
value_at-agrees_on_variables m env other (two f a b) same =
    let left = value_at-agrees_on_variables m env other a (λ v h. same v (In-left v (variables_of a) (variables_of b) h)) in
    let right = value_at-agrees_on_variables m env other b (λ v h. same v (In-right v (variables_of a) (variables_of b) h)) in
    λ i. both (two_value m f) (left i) (right i)

-- the publics that the expression mentions have the same values
module _ (s : Setting) (valuation other : Valuation) (site : Sited) (pc : Option ℕ) (t : Tree)
    (same : (q : SitedPublic) → IsMentionedIn s site t q → valuation q.site q.entry.value ≡ other q.site q.entry.value) where
  same_public : (n : ℕ) → In (letters.I, n) (variables_of t) → (o : Option SitedPublic) → slice_get s.publics (site.first_public + n) ≡ o
      → valuation_of valuation o ≡ valuation_of other o
  same_public n h None e = refl
  same_public n h (Some q) e = same q ((letters.I, n), In-Contains (letters.I, n) (variables_of t) h, e)

  same_name : (n : ℕ) → In (letters.X, n) (variables_of t) → (unresolved : Option ℕ) → (o : Option SitedPublic) → mentioned s site letters.X n ≡ o
      → reference_value valuation o unresolved ≡ reference_value other o unresolved
  same_name n h unresolved None e = refl
  same_name n h unresolved (Some q) e = same q ((letters.X, n), In-Contains (letters.X, n) (variables_of t) h, e)

  same_reference : (n : ℕ) → In (letters.X, n) (variables_of t) → (o : Option Reference) → slice_get site.parts.names.references n ≡ o
      → valuation_of_reference s valuation o ≡ valuation_of_reference s other o
  same_reference n h None e = refl
  same_reference n h (Some r) e = same_name n h (unresolved_value s r) (first_named s.publics r.name) (ap (mentioned_reference s) e)

  same_variable : (l : Letter) (n : ℕ) → In (l, n) (variables_of t) → environment s valuation site pc l n ≡ environment s other site pc l n
  same_variable letters.R n h = refl
  same_variable letters.L n h = refl
  same_variable letters.S n h = refl
  same_variable letters.P n h = refl
  same_variable letters.I n h = same_public n h (slice_get s.publics (site.first_public + n)) refl
  same_variable letters.X n h = same_reference n h (slice_get site.parts.names.references n) refl

  same_value : value_at s.modulus (environment s valuation site pc) t ≡ value_at s.modulus (environment s other site pc) t
  same_value = value_at-agrees_on_variables s.modulus (environment s valuation site pc) (environment s other site pc) t (λ v h. same_variable v.0 v.1 h)

-- from the length of the longest chain of mentions on, more steps give the same
pub value_within-ends : (s : Setting) (k d : ℕ) (site : Sited) (pc : Option ℕ) (t : Tree) → EndsWithin s k site t → value_within s (d + k) site pc t
    ≡ value_within s k site pc t
unfolding value_within
value_within-ends s zero d site pc t ends =
    within_is s (d + 0) site pc t ∙ same_value s (valuation_below s (d + 0)) (valuation_below s 0) site pc t (λ q m. absurd (ends q m))
    ∙ sym (within_is s 0 site pc t)
value_within-ends s (suc k) d site pc t ends =
    let next : d + suc k ≡ suc (d + k) = omega arith in
    ap (λ n. value_within s n site pc t) next
    ∙ same_value s (valuation_below s (suc (d + k))) (valuation_below s (suc k)) site pc t (λ q m. value_within-ends s k d q.site None q.entry.value (ends q m))

-- if no name occurs twice and none leads back to itself, as many steps as there are publics are enough
pub value_is_settled : (ms : List Parts) (bs : Bases) → ((name : List ℕ) → ¬ LinkFactStands ms (duplicate name)) → ((name : List ℕ) → ¬ IsOnCycle ms name)
    → (d : ℕ) (site : Sited) (pc : Option ℕ) (t : Tree) → value_within (setting ms bs) (d + length (flat_publics ms)) site pc t
    ≡ value (setting ms bs) site pc t
value_is_settled ms bs once acyclic d site pc t =
    value_within-ends (setting ms bs) (length (flat_publics ms)) d site pc t
    (all_end (setting ms bs) (single_name ms once) (λ name k h. acyclic name (
      k,
      sym (leads_from-bases ms bs name k (first_named (flat_publics ms) name)) ∙ h,
    )) site t)
