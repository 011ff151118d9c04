-- The value of an expression of a group is the value of the expression that a link puts in its place.
use Rattle.std.proofs.Common.{◌≡◌, ℕ, zero, suc, ◌+◌, List, length, Option, Some, None, Bool, true, false, not, refl, sym, ◌∙◌, ap, add_assoc}
use Rattle.std.specs.Prelude.{◌||◌, slice_get, option_map, if◌then◌else◌}
use Rattle.std.specs.Str.{bytes_eq}
use Rattle.mufom_expr.specs.declared.token.Letter.{Letter}
use Rattle.mufom_expr.specs.declared.token.Letter.TheVariants as letters
use Rattle.mufom_expr.specs.Tree.{Tree, number, variable, one, two}
use Rattle.mufom_expr.specs.Value.{value_at, is_division, is_zero}
use Rattle.mufom_names.specs.declared.name.Reference.{Reference}
use Rattle.mufom_module.specs.declared.module.Parts.{Parts}
use Rattle.mufom_plan.specs.Names.{has_name}
use Rattle.mufom_meaning.specs.Flat.{Sited, SitedPublic, public_names, first_named, flat_references, unresolved_references}
use Rattle.mufom_meaning.specs.Values.{Setting, Valuation, valuation_of, default_of, unresolved_value, reference_value, valuation_of_reference, environment}
use Rattle.mufom_meaning.specs.Values.{value_within, value, has_zero_divisor}
use Rattle.mufom_meaning.specs.Joined.{joined_tree, joined_variable, joined_reference, kept_references, position_of, same_reference}
use Rattle.mufom_meaning.proofs.Paired.{Paired, PairedOption, Paired-get, Paired-find, Paired-length}
use Rattle.mufom_expr.proofs.ValueLaws.{value_at-renamed}
use Rattle.mufom_meaning.proofs.staging.Renamed.{value_at-agrees}
use Rattle.mufom_meaning.proofs.References.{Among, Among-filter, Among-distinct, get-position_of, get-length, same_reference-decides}

-- the place that a module of a group has in a list where the group is at home
abbrev pub shifted : Sited → Sited → Sited
shifted home site = record {
  parts = site.parts;
  first_section = home.first_section + site.first_section;
  first_public = home.first_public + site.first_public;
  first_name = home.first_name + site.first_name;
}

-- each reference of the module is one of the group's
abbrev pub IsOfGroup : List Parts → Sited → Type 0
IsOfGroup ms site = (n : ℕ) (r : Reference) → slice_get site.parts.names.references n ≡ Some r → Among r (flat_references ms)

-- An expression in the list with the link, and the expression in the list with the group that it comes from: it is
-- outside the group and stays, or it is in the group and its variables are renamed.
pub data MovedTree (ms : List Parts) (home : Sited) : Sited → Tree → Sited → Tree → Type 0 where
  stays : (site : Sited) (t : Tree) → MovedTree ms home site t site t
  joins : (site : Sited) (t : Tree) → IsOfGroup ms site → MovedTree ms home home (joined_tree ms site t) (shifted home site) t

pub record MovedPublic (ms : List Parts) (home : Sited) (p q : SitedPublic) : Type 0 where
  pub name : p.entry.name ≡ q.entry.name
  pub notes : p.entry.notes ≡ q.entry.notes
  pub tree : MovedTree ms home p.site p.entry.value q.site q.entry.value

-- the setting with the link, and the setting with the group
pub record AreSettings (ms : List Parts) (home : Sited) (s other : Setting) : Type 0 where
  pub modulus : s.modulus ≡ other.modulus
  pub sections : s.sections ≡ other.sections
  pub bases : s.bases ≡ other.bases
  pub commons : s.commons ≡ other.commons
  pub common_base : s.common_base ≡ other.common_base
  pub publics : Paired (MovedPublic ms home) s.publics other.publics
  pub references : home.parts.names.references ≡ kept_references ms
  -- a name of a public of the group is first met in the group
  pub first : (name : List ℕ) → has_name (public_names ms) name ≡ true → (q : SitedPublic)
      × (slice_get other.publics (home.first_public + position_of (λ public. bytes_eq public name) (public_names ms)) ≡ Some q)
      × (first_named other.publics name ≡ Some q)

module _ (ms : List Parts) (home : Sited) (s other : Setting) (h : AreSettings ms home s other) (w v : Valuation)
    (agree : (site : Sited) (t : Tree) (site' : Sited) (t' : Tree) → MovedTree ms home site t site' t' → w site t ≡ v site' t') where
  agree_of : (p q : Option SitedPublic) → PairedOption (MovedPublic ms home) p q → valuation_of w p ≡ valuation_of v q
  agree_of None None m = refl
  agree_of (Some p) (Some q) m = agree p.site p.entry.value q.site q.entry.value m.tree
  agree_of None (Some q) m = absurd m
  agree_of (Some p) None m = absurd m

  same_public : (n : ℕ) → valuation_of w (slice_get s.publics n) ≡ valuation_of v (slice_get other.publics n)
  same_public n = agree_of _ _ (Paired-get (MovedPublic ms home) s.publics other.publics n h.publics)

  -- without a public a reference has the same value in both lists
  same_unresolved_value : (r : Reference) → unresolved_value s r ≡ unresolved_value other r
  same_unresolved_value r = let names = h.commons in let bases = h.common_base in λ i. if has_name (names i) r.name then bases i r.name else default_of r.weak

  agree_reference : (a b : Option ℕ) → a ≡ b → (p q : Option SitedPublic) → PairedOption (MovedPublic ms home) p q → reference_value w p a
      ≡ reference_value v q b
  agree_reference a b e None None m = e
  agree_reference a b e (Some p) (Some q) m = agree p.site p.entry.value q.site q.entry.value m.tree
  agree_reference a b e None (Some q) m = absurd m
  agree_reference a b e (Some p) None m = absurd m

  pub same_first : (name : List ℕ) → PairedOption (MovedPublic ms home) (first_named s.publics name) (first_named other.publics name)
  same_first name = Paired-find (MovedPublic ms home) (λ q. bytes_eq q.entry.name name) (λ q. bytes_eq q.entry.name name)
      (λ p q m. ap (λ found. bytes_eq found name) m.name) s.publics other.publics h.publics

  same_reference_value : (r : Option Reference) → valuation_of_reference s w r ≡ valuation_of_reference other v r
  same_reference_value None = refl
  same_reference_value (Some r) = agree_reference (unresolved_value s r) (unresolved_value other r) (same_unresolved_value r) _ _ (same_first r.name)

  -- outside the group each variable has the value that it had
  same_outside : (site : Sited) (pc : Option ℕ) (letter : Letter) (n : ℕ) → environment s w site pc letter n ≡ environment other v site pc letter n
  same_outside site pc letters.R n = ap (λ bases. slice_get bases (site.first_section + n)) h.bases
  same_outside site pc letters.L n = ap (λ bases. slice_get bases (site.first_section + n)) h.bases
  same_outside site pc letters.S n = ap (λ sections. option_map (λ section. section.size) (slice_get sections (site.first_section + n))) h.sections
  same_outside site pc letters.P n = refl
  same_outside site pc letters.I n = same_public (site.first_public + n)
  same_outside site pc letters.X n = same_reference_value (slice_get site.parts.names.references n)

  -- a reference of the group among those kept has its name and weak part
  pub kept_reference : (site : Sited) → IsOfGroup ms site → (n : ℕ) (r : Reference) → slice_get site.parts.names.references n ≡ Some r
      → has_name (public_names ms) r.name ≡ false
      → (q : Reference) × (slice_get home.parts.names.references (position_of (same_reference r) (kept_references ms)) ≡ Some q) × (r ≡ q)
  kept_reference site within n r e unresolved =
      let there : Among r (flat_references ms) = within n r e in
      let left : Among r (unresolved_references ms) =
      Among-filter (λ reference. not (has_name (public_names ms) reference.name)) r (ap not unresolved) (flat_references ms) there.0 there.1 in
      let kept : Among r (kept_references ms) = Among-distinct same_reference same_reference-decides r (unresolved_references ms) left.0 left.1 in
      let found = get-position_of (same_reference r) r ((same_reference-decides r r).1 refl) (kept_references ms) kept.0 kept.1 in (
        found.0,
        ap (λ rs. slice_get rs (position_of (same_reference r) (kept_references ms))) h.references
            ∙ found.1,
        (same_reference-decides r found.0).0 found.2,
      )

  -- a reference to a public of the group has the value of the public that the link names
  same_met : (r : Reference) → has_name (public_names ms) r.name ≡ true
      → valuation_of w (slice_get s.publics (home.first_public + position_of (λ public. bytes_eq public r.name) (public_names ms)))
      ≡ valuation_of_reference other v (Some r)
  same_met r met =
      let q = h.first r.name met in
      same_public _ ∙ ap (valuation_of v) q.1 ∙ sym (ap (λ o. reference_value v o (unresolved_value other r)) q.2)

  -- any other reference of the group has the value of the same reference among those kept
  same_unresolved : (r : Reference) (q : Option Reference) → (k : Reference) × (q ≡ Some k) × (r ≡ k) → valuation_of_reference s w q
      ≡ valuation_of_reference other v (Some r)
  same_unresolved r q found =
      ap (valuation_of_reference s w) (found.1 ∙ ap Some (sym found.2)) ∙ same_reference_value (Some r)

  -- a variable as the link has it
  abbrev linked : Option ℕ → Letter × ℕ → Option ℕ
  linked pc v = environment s w home pc v.0 v.1

  same_named : (site : Sited) → IsOfGroup ms site → (pc : Option ℕ) (n : ℕ) (r : Reference) → slice_get site.parts.names.references n ≡ Some r
      → (b : Bool) → has_name (public_names ms) r.name ≡ b
      → linked pc (if b then (letters.I, position_of (λ public. bytes_eq public r.name) (public_names ms))
      else (letters.X, position_of (same_reference r) (kept_references ms)))
      ≡ valuation_of_reference other v (Some r)
  same_named site within pc n r e true met = same_met r met
  same_named site within pc n r e false unresolved = same_unresolved r _ (kept_reference site within n r e unresolved)

  same_reference_variable : (site : Sited) → IsOfGroup ms site → (pc : Option ℕ) (n : ℕ) (r : Option Reference) → slice_get site.parts.names.references n ≡ r
      → linked pc (joined_reference ms r) ≡ valuation_of_reference other v r
  same_reference_variable site within pc n None e =
      ap (λ rs. valuation_of_reference s w (slice_get rs (length (kept_references ms)))) h.references
      ∙ ap (valuation_of_reference s w) (get-length (kept_references ms))
  same_reference_variable site within pc n (Some r) e = same_named site within pc n r e (has_name (public_names ms) r.name) refl

  -- in the group each variable, as the link has it, has the value that it had
  same_inside : (site : Sited) → IsOfGroup ms site → (pc : Option ℕ) (letter : Letter) (n : ℕ)
      → linked pc (joined_variable ms site letter n) ≡ environment other v (shifted home site) pc letter n
  same_inside site within pc letters.R n =
      ap (slice_get s.bases) (sym (add_assoc home.first_section site.first_section n))
      ∙ ap (λ bases. slice_get bases ((home.first_section + site.first_section) + n)) h.bases
  same_inside site within pc letters.L n =
      ap (slice_get s.bases) (sym (add_assoc home.first_section site.first_section n))
      ∙ ap (λ bases. slice_get bases ((home.first_section + site.first_section) + n)) h.bases
  same_inside site within pc letters.S n =
      ap (λ place. option_map (λ section. section.size) (slice_get s.sections place)) (sym (add_assoc home.first_section site.first_section n))
      ∙ ap (λ sections. option_map (λ section. section.size) (slice_get sections ((home.first_section + site.first_section) + n))) h.sections
  same_inside site within pc letters.P n = refl
  same_inside site within pc letters.I n =
      ap (λ place. valuation_of w (slice_get s.publics place)) (sym (add_assoc home.first_public site.first_public n)) ∙ same_public _
  same_inside site within pc letters.X n = same_reference_variable site within pc n (slice_get site.parts.names.references n) refl

  -- one step of names: if the publics agree, the expressions do
  pub same_step : (pc : Option ℕ) (site : Sited) (t : Tree) (site' : Sited) (t' : Tree) → MovedTree ms home site t site' t'
      → value_at s.modulus (environment s w site pc) t ≡ value_at other.modulus (environment other v site' pc) t'
  same_step pc _ _ _ _ (stays site t) =
      value_at-agrees s.modulus _ _ (same_outside site pc) t ∙ ap (λ m. value_at m (environment other v site pc) t) h.modulus
  same_step pc _ _ _ _ (joins site t within) =
      value_at-renamed s.modulus (environment s w home pc) (joined_variable ms site) t
      ∙ value_at-agrees s.modulus _ _ (same_inside site within pc) t
      ∙ ap (λ m. value_at m (environment other v (shifted home site) pc) t) h.modulus

-- with the same number of name steps, an expression has the same value in both lists
pub same_value_within : (ms : List Parts) (home : Sited) (s other : Setting) → AreSettings ms home s other → (k : ℕ) (pc : Option ℕ)
    (site : Sited) (t : Tree) (site' : Sited) (t' : Tree) → MovedTree ms home site t site' t'
    → value_within s k site pc t ≡ value_within other k site' pc t'
unfolding value_within
same_value_within ms home s other h zero pc site t site' t' m =
    same_step ms home s other h (λ x y. None) (λ x y. None) (λ x y x' y' n. refl) pc site t site' t' m
same_value_within ms home s other h (suc k) pc site t site' t' m =
    same_step ms home s other h (λ x y. value_within s k x None y) (λ x y. value_within other k x None y)
    (λ x y x' y' n. same_value_within ms home s other h k None x y x' y' n) pc site t site' t' m

-- and so has its value
pub same_value : (ms : List Parts) (home : Sited) (s other : Setting) → AreSettings ms home s other → (pc : Option ℕ)
    (site : Sited) (t : Tree) (site' : Sited) (t' : Tree) → MovedTree ms home site t site' t'
    → value s site pc t ≡ value other site' pc t'
same_value ms home s other h pc site t site' t' m =
    ap (λ k. value_within s k site pc t) (Paired-length (MovedPublic ms home) s.publics other.publics h.publics)
    ∙ same_value_within ms home s other h (length other.publics) pc site t site' t' m

-- whether a divisor is 0 is the same in both lists
module _ (ms : List Parts) (home : Sited) (s other : Setting) (h : AreSettings ms home s other) (pc : Option ℕ) where
  zero_divisor_outside : (site : Sited) (t : Tree) → has_zero_divisor s site pc t ≡ has_zero_divisor other site pc t
  zero_divisor_outside site (number n) = refl
  zero_divisor_outside site (variable letter n) = refl
  zero_divisor_outside site (one f a) = zero_divisor_outside site a
  zero_divisor_outside site (two f a b) =
      let left = zero_divisor_outside site a in
      let right = zero_divisor_outside site b in
      let divisor = same_value ms home s other h pc site b site b (stays site b) in
      λ i. left i || right i || (if is_division f then is_zero (divisor i) else false)

  zero_divisor_inside : (site : Sited) → IsOfGroup ms site → (t : Tree) → has_zero_divisor s home pc (joined_tree ms site t)
      ≡ has_zero_divisor other (shifted home site) pc t
  zero_divisor_inside site within (number n) = refl
  zero_divisor_inside site within (variable letter n) = refl
  zero_divisor_inside site within (one f a) = zero_divisor_inside site within a
  zero_divisor_inside site within (two f a b) =
      let left = zero_divisor_inside site within a in
      let right = zero_divisor_inside site within b in
      let divisor = same_value ms home s other h pc home (joined_tree ms site b) (shifted home site) b (joins site b within) in
      λ i. left i || right i || (if is_division f then is_zero (divisor i) else false)

  pub same_has_zero_divisor : (site : Sited) (t : Tree) (site' : Sited) (t' : Tree) → MovedTree ms home site t site' t'
      → has_zero_divisor s site pc t ≡ has_zero_divisor other site' pc t'
  same_has_zero_divisor _ _ _ _ (stays site t) = zero_divisor_outside site t
  same_has_zero_divisor _ _ _ _ (joins site t within) = zero_divisor_inside site within t
