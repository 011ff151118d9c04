-- Once all publics are evaluated, each expression has its value, and the first public that divides by 0 itself is found.
use Rattle.std.proofs.Common.{◌≡◌, ◌≢◌, ℕ, ◌<◌, List, Option, Some, None, Bool, true, false, refl, sym, ◌∙◌, ap}
use Rattle.std.specs.Prelude.{slice_get, option_map, if◌then◌else◌}
use Rattle.std.proofs.lemmas.Option.{slice_get-map}
use Rattle.mufom_expr.specs.Tree.{Tree}
use Rattle.mufom_expr.specs.Value.{divides_by_zero}
use Rattle.mufom_names.specs.declared.name.Public.{Public}
use Rattle.mufom_place.specs.Facts.{first_some}
use Rattle.mufom_meaning.specs.declared.located.Site.TheVariants as sites
use Rattle.mufom_meaning.specs.Facts.{zero_divisor}
use Rattle.mufom_meaning.specs.Flat.{SitedPublic}
use Rattle.mufom_meaning.specs.Values.{value, has_zero_divisor}
use Rattle.mufom_meaning.specs.Walk.{public_fact}
use Rattle.mufom_numbers.proofs.Choices.{mapped_some}
use Rattle.mufom_meaning.proofs.values.Causes.{zero_divisor-none}
use Rattle.mufom_image_values.specs.declared.surroundings.Evaluation.{Evaluation}
use Rattle.mufom_image_values.specs.declared.surroundings.Evaluation.TheVariants as evaluations
use Rattle.mufom_image_values.specs.declared.values.PlacedModule.{PlacedModule}
use Rattle.mufom_image_values.specs.Evaluated.{alone, public_value, IsRight, IsPlaced, valuation_at, AreValues}
use Rattle.mufom_image_values.proofs.PublicLaws.{at_site}
use Rattle.mufom_image_values.proofs.MentionLaws.{sit, flat-alone}
use Rattle.mufom_image_values.proofs.CircleLaws.{none_first, one_first}
use Rattle.mufom_image_values.proofs.Settled.{m, s, known-at, valuation_at-is, values-right}

module _ (placed : PlacedModule) (h : IsPlaced placed) (values : List Evaluation) (v : AreValues placed values) where
  -- an expression has its value
  pub value-is : (counter : Option ℕ) (t : Tree) → valuation_at placed values counter t ≡ value (s placed h) (alone (m placed h)) counter t
  value-is counter t = valuation_at-is placed h values counter t (λ c k. known-at placed h values counter (values-right placed values v) c (v.evaluated c))

  pub divides-is : (counter : Option ℕ) (t : Tree) → divides_by_zero (valuation_at placed values counter) t
      ≡ has_zero_divisor (s placed h) (alone (m placed h)) counter t
  divides-is counter t = λ i. divides_by_zero (λ part. value-is counter part i) t

  -- a public with a value does not divide by 0
  pub no-divisor : (n : ℕ) (p : Public) (evaluation : Evaluation) → slice_get (m placed h).names.publics n ≡ Some p → slice_get values n ≡ Some evaluation
      → evaluation ≢ evaluations.Nothing → has_zero_divisor (s placed h) (alone (m placed h)) None p.value ≡ false
  no-divisor n p evaluation at to other = by_test (has_zero_divisor (s placed h) (alone (m placed h)) None p.value) refl where
    no_value : (evaluation : Evaluation) → slice_get values n ≡ Some evaluation → evaluation ≢ evaluations.Nothing → IsRight (public_value placed p) evaluation
        → value (s placed h) (alone (m placed h)) None p.value ≡ None → ⊥
    no_value evaluations.Waiting to other r none = v.evaluated n to
    no_value evaluations.Nothing to other r none = other refl
    no_value (evaluations.Value x) to other r none = absurd (let clash : Some x ≡ None = sym r ∙ none in cc)

    by_test : (b : Bool) → has_zero_divisor (s placed h) (alone (m placed h)) None p.value ≡ b → b ≡ false
    by_test false e = refl
    by_test true e = absurd (no_value evaluation to other ((values-right placed values v).right n p evaluation at to)
        (zero_divisor-none (s placed h) (alone (m placed h)) None p.value e))

  -- what is found at a public, by whether it divides by 0
  pub fact-none : (p : Public) → has_zero_divisor (s placed h) (alone (m placed h)) None p.value ≡ false → public_fact (s placed h) (sit (m placed h) p) ≡ None
  fact-none p e = ap (λ b. if b then Some (zero_divisor (sites.Public p.name)) else None) e

  fact-some : (p : Public) → has_zero_divisor (s placed h) (alone (m placed h)) None p.value ≡ true → public_fact (s placed h) (sit (m placed h) p)
      ≡ Some (zero_divisor (sites.Public p.name))
  fact-some p e = ap (λ b. if b then Some (zero_divisor (sites.Public p.name)) else None) e

  -- no public of those before a position divides by 0 itself
  abbrev pub NoneBefore : ℕ → Type 0
  NoneBefore n = (j : ℕ) → j < n → (q : Public) → slice_get (m placed h).names.publics j ≡ Some q → public_fact (s placed h) (sit (m placed h) q) ≡ None

  sited_at : (j : ℕ) (q : SitedPublic) → slice_get (at_site (alone (m placed h)) (m placed h).names.publics) j ≡ Some q
      → (p : Public) × (slice_get (m placed h).names.publics j ≡ Some p) × (sit (m placed h) p ≡ q)
  sited_at j q e = mapped_some (sit (m placed h)) (slice_get (m placed h).names.publics j) q
      (sym (slice_get-map (sit (m placed h)) (m placed h).names.publics j) ∙ e)

  pub first-division-none : ((j : ℕ) (q : Public) → slice_get (m placed h).names.publics j ≡ Some q → public_fact (s placed h) (sit (m placed h) q) ≡ None)
      → first_some (public_fact (s placed h)) (s placed h).publics ≡ None
  first-division-none none =
      ap (first_some (public_fact (s placed h))) (flat-alone (m placed h))
      ∙ none_first (public_fact (s placed h)) (at_site (alone (m placed h)) (m placed h).names.publics)
      (λ j q e. let p = sited_at j q e in sym (ap (public_fact (s placed h)) p.2) ∙ none j p.0 p.1)

  pub first-division-some : (n : ℕ) (p : Public) → slice_get (m placed h).names.publics n ≡ Some p → NoneBefore n
      → has_zero_divisor (s placed h) (alone (m placed h)) None p.value ≡ true
      → first_some (public_fact (s placed h)) (s placed h).publics ≡ Some (zero_divisor (sites.Public p.name))
  first-division-some n p at none e =
      ap (first_some (public_fact (s placed h))) (flat-alone (m placed h))
      ∙ one_first (public_fact (s placed h)) (at_site (alone (m placed h)) (m placed h).names.publics) n (sit (m placed h) p)
      (zero_divisor (sites.Public p.name))
      (slice_get-map (sit (m placed h)) (m placed h).names.publics n ∙ ap (option_map (sit (m placed h))) at)
      (fact-some p e)
      (λ j q less f. let own = sited_at j q f in sym (ap (public_fact (s placed h)) own.2) ∙ none j less own.0 own.1)
