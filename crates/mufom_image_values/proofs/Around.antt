-- The code's environment of an expression is that of the definitions, if what the expression mentions is known.
use Rattle.std.proofs.Common.{◌≡◌, ℕ, ◌+◌, List, [], ◌∷◌, Option, Some, None, Bool, true, false, refl, sym, ◌∙◌, ap, append-nil, zero-add, arith}
use Rattle.std.specs.Prelude.{slice_get, option_map, option_and_then, ◌==◌, if◌then◌else◌}
use Rattle.std.specs.Str.{bytes_eq}
use Rattle.std.proofs.lemmas.Option.{slice_get-map}
use Rattle.std.proofs.lemmas.Slice.Eq.{bytes_eq-Decides}
use Rattle.mufom_expr.specs.declared.token.Letter.{Letter}
use Rattle.mufom_expr.specs.declared.token.Letter.TheVariants as letters
use Rattle.mufom_expr.specs.Tree.{Tree, tokens_of}
use Rattle.mufom_expr.specs.Value.{value_at}
use Rattle.mufom_names.specs.declared.name.Weak.{Weak}
use Rattle.mufom_names.specs.declared.name.Reference.{Reference}
use Rattle.mufom_names.specs.Names.{names_of}
use Rattle.mufom_module.specs.declared.module.Parts.{Parts}
use Rattle.mufom_plan.specs.Names.{has_name}
use Rattle.mufom_meaning.specs.Flat.{SitedPublic, first_named, flat_publics, common_names}
use Rattle.mufom_meaning.specs.Values.{Setting, Valuation, valuation_of, default_of, unresolved_value, reference_value, valuation_of_reference, environment}
use Rattle.mufom_meaning.proofs.Members.{In, In-at, passes-In}
use Rattle.mufom_meaning.proofs.values.Enough.{value_at-agrees_on_variables}
use Rattle.mufom_image_values.specs.declared.resolutions.Resolution.TheVariants as resolutions
use Rattle.mufom_image_values.specs.declared.surroundings.Evaluation.{Evaluation}
use Rattle.mufom_image_values.specs.Names.{place_in}
use Rattle.mufom_image_values.specs.Resolutions.{resolution_without, resolution_by, common_list, resolution_of, resolutions_of}
use Rattle.mufom_image_values.specs.Graph.{public_met, public_named, mentions_of}
use Rattle.mufom_image_values.specs.Surroundings.{known_of, valuation_met, valuation_by}
use Rattle.mufom_image_values.specs.Evaluated.{alone, setting_by}
use Rattle.mufom_image_values.proofs.NameLaws.{place-some, place-none}
use Rattle.mufom_image_values.proofs.ResolutionLaws.{distinct-has}
use Rattle.mufom_image_values.proofs.PublicLaws.{at_site, first-some, first-none}
use Rattle.mufom_image_values.proofs.MentionLaws.{flat-alone, met-public, variable-mention}

-- a name that has a position is among the names
has-some : (names : List (List ℕ)) (name : List ℕ) (k : ℕ) → place_in names name ≡ Some k → has_name names name ≡ true
has-some names name k e =
    let there = place-some 0 names name k e in
    passes-In (bytes_eq name) names name (In-at name names there.0 there.2) ((bytes_eq-Decides name name).1 refl)

-- a weak reference of size 0 has its default
default-is : (values : List Evaluation) (commons : List ℕ) (weak : Option Weak) → valuation_met values commons (Some (resolution_without weak))
    ≡ default_of weak
default-is values commons None = refl
default-is values commons (Some weak) = by_size (weak.size == 0) where
  by_size : (b : Bool) → valuation_met values commons (Some (if b then resolutions.Default weak.default else resolutions.Nothing))
      ≡ (if b then Some weak.default else None)
  by_size true = refl
  by_size false = refl

module _ (m : Parts) (bases commons : List ℕ) (valuation : Valuation) (values : List Evaluation) (pc : Option ℕ) where
  abbrev s : Setting
  s = setting_by m bases commons

  -- the public at this position is known
  abbrev pub IsKnown : ℕ → Type 0
  IsKnown c = known_of (slice_get values c) ≡ valuation_of valuation (slice_get (flat_publics (m ∷ [])) c)

  by_public : (r : Reference) (n : ℕ) → place_in (names_of m.names.publics) r.name ≡ Some n → IsKnown n
      → known_of (slice_get values n) ≡ reference_value valuation (first_named s.publics r.name) (unresolved_value s r)
  by_public r n e known =
      let there = first-some (alone m) 0 m.names.publics r.name n e in
      let q = there.2.0 in
      let place : there.0 ≡ n = omega (arith, there.1) in
      let whole = flat-alone m in
      let found : slice_get s.publics n ≡ Some q
      = ap (λ (qs : List SitedPublic). slice_get qs n) whole ∙ ap (slice_get (at_site (alone m) m.names.publics)) (sym place) ∙ there.2.2 in
      let named : first_named s.publics r.name ≡ Some q = ap (λ (qs : List SitedPublic). first_named qs r.name) whole ∙ there.2.1 in
      known ∙ ap (valuation_of valuation) found ∙ sym (ap (λ o. reference_value valuation o (unresolved_value s r)) named)

  -- no public has a name without a position
  unnamed : (r : Reference) → place_in (names_of m.names.publics) r.name ≡ None → first_named s.publics r.name ≡ None
  unnamed r e = ap (λ (qs : List SitedPublic). first_named qs r.name) (flat-alone m) ∙ first-none (alone m) 0 m.names.publics r.name e

  by_common : (r : Reference) (o : Option ℕ) → place_in (common_list m) r.name ≡ o
      → valuation_met values commons (Some (resolution_by None o r.weak)) ≡ unresolved_value s r
  by_common r (Some k) e =
      let among : has_name (common_names (m ∷ [])) r.name ≡ true = sym (distinct-has (common_names (m ∷ [])) r.name) ∙ has-some (common_list m) r.name k e in
      ap (option_and_then (slice_get commons)) (sym e) ∙ sym (ap (λ b. if b then s.common_base r.name else default_of r.weak) among)
  by_common r None e =
      let none : has_name (common_names (m ∷ [])) r.name ≡ false = sym (distinct-has (common_names (m ∷ [])) r.name) ∙ place-none 0 (common_list m) r.name e in
      default-is values commons r.weak ∙ sym (ap (λ b. if b then s.common_base r.name else default_of r.weak) none)

  by_place : (r : Reference) (o : Option ℕ) → place_in (names_of m.names.publics) r.name ≡ o → ((c : ℕ) → o ≡ Some c → IsKnown c)
      → valuation_met values commons (Some (resolution_by o (place_in (common_list m) r.name) r.weak))
      ≡ reference_value valuation (first_named s.publics r.name) (unresolved_value s r)
  by_place r (Some n) e known = by_public r n e (known n refl)
  by_place r None e known = by_common r (place_in (common_list m) r.name) refl
      ∙ sym (ap (λ o. reference_value valuation o (unresolved_value s r)) (unnamed r e))

  by_reference : (o : Option Reference) → ((c : ℕ) → public_met (option_map (resolution_of m) o) ≡ Some c → IsKnown c)
      → valuation_met values commons (option_map (resolution_of m) o) ≡ valuation_of_reference s valuation o
  by_reference None known = refl
  by_reference (Some r) known = by_place r (place_in (names_of m.names.publics) r.name) refl (λ c e. known c (met-public m r ∙ e))

  -- the code and the definitions give a variable the same value, if the public that it mentions is known
  pub valuation_by-is : (l : Letter) (n : ℕ) → ((c : ℕ) → public_named (resolutions_of m) l n ≡ Some c → IsKnown c)
      → valuation_by m.sections bases commons values (resolutions_of m) pc l n ≡ environment s valuation (alone m) pc l n
  valuation_by-is letters.R n known = ap (slice_get bases) (sym (zero-add n))
  valuation_by-is letters.L n known = ap (slice_get bases) (sym (zero-add n))
  valuation_by-is letters.S n known =
      ap (λ k. option_map (λ section. section.size) (slice_get m.sections k)) (sym (zero-add n))
      ∙ ap (λ sections. option_map (λ section. section.size) (slice_get sections (0 + n))) (sym (append-nil m.sections))
  valuation_by-is letters.P n known = refl
  valuation_by-is letters.I n known = known n refl ∙ ap (λ k. valuation_of valuation (slice_get s.publics k)) (sym (zero-add n))
  valuation_by-is letters.X n known =
      ap (valuation_met values commons) (slice_get-map (resolution_of m) m.names.references n)
      ∙ by_reference (slice_get m.names.references n) (λ c e. known c (ap public_met (slice_get-map (resolution_of m) m.names.references n) ∙ e))

  -- and so is an expression, if what it mentions is known
  pub value_by-is : (t : Tree) → ((c : ℕ) → In c (mentions_of (resolutions_of m) (tokens_of t)) → IsKnown c)
      → value_at s.modulus (valuation_by m.sections bases commons values (resolutions_of m) pc) t ≡ value_at s.modulus (environment s valuation (alone m) pc) t
  value_by-is t known =
      value_at-agrees_on_variables s.modulus (valuation_by m.sections bases commons values (resolutions_of m) pc) (environment s valuation (alone m) pc) t
      (λ v h. valuation_by-is v.0 v.1 (λ c e. known c (variable-mention (resolutions_of m) t v c h e)))
