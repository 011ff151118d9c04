-- Values, cycles and divisions by 0 without debug items.
use Rattle.std.proofs.Common.{◌≡◌, ℕ, zero, suc, ◌+◌, ◌^◌, List, [], ◌∷◌, ◌++◌, length, map, filter, Option, Some, None, Bool, true, false, ◌||◌, cond}
use Rattle.std.proofs.Common.{refl, sym, ap, ◌∙◌}
use Rattle.std.specs.Prelude.{slice_get}
use Rattle.std.specs.List.{list_any}
use Rattle.std.specs.Str.{bytes_eq}
use Rattle.std.proofs.lemmas.List.{length-map, map-append}
use Rattle.mufom_expr.specs.declared.token.Letter.{Letter}
use Rattle.mufom_expr.specs.declared.token.Letter.TheVariants as letters
use Rattle.mufom_expr.specs.Tree.{Tree}
use Rattle.mufom_expr.specs.Value.{value_at, variables_of, divides_by_zero}
use Rattle.mufom_names.specs.declared.name.Public.{Public}
use Rattle.mufom_names.specs.declared.name.Reference.{Reference}
use Rattle.mufom_module.specs.declared.module.Parts.{Parts}
use Rattle.mufom_meaning.specs.Bases.{Bases, no_bases}
use Rattle.mufom_meaning.specs.Flat.{Sited, SitedPublic, sited, sited_publics, flat_publics, first_named, distinct, is_strong, needs, is_common, common_size}
use Rattle.mufom_meaning.specs.Flat.{same_common, commons, common_names, width}
use Rattle.mufom_meaning.specs.Values.{Setting, setting, Valuation, valuation_of, unresolved_value, reference_value, valuation_of_reference, environment}
use Rattle.mufom_meaning.specs.Values.{value_within, value, has_zero_divisor}
use Rattle.mufom_meaning.specs.Cycles.{mentioned, mentioned_reference, is_or_leads, leads_within, leads_from, is_on_cycle}
use Rattle.mufom_debug_laws.specs.Without.{all_without_debug}
use Rattle.mufom_debug_laws.proofs.Sites.{bare_site, sited-bare, sections-bare, unresolved-bare}

-- a public at the place of its module in a list without debug items
abbrev pub bare_public : SitedPublic → SitedPublic
bare_public q = record { site = bare_site q.site; entry = q.entry }

-- the setting of a list without debug items
abbrev pub bare_setting : Setting → Setting
bare_setting s = record s { publics = map bare_public s.publics }

-- ---- the setting

abbrev at_site : Sited → Public → SitedPublic
at_site site entry = record { site = site; entry = entry }

entries-of : (site : Sited) (entries : List Public) → map (at_site (bare_site site)) entries ≡ map bare_public (map (at_site site) entries)
entries-of site [] = refl
entries-of site (entry ∷ entries) = ap (λ more. at_site (bare_site site) entry ∷ more) (entries-of site entries)

publics-of : (sites : List Sited) → sited_publics (map bare_site sites) ≡ map bare_public (sited_publics sites)
publics-of [] = refl
publics-of (site ∷ sites) = (λ i. entries-of site site.parts.names.publics i ++ publics-of sites i)
    ∙ sym (map-append bare_public (map (at_site site) site.parts.names.publics) (sited_publics sites))

pub publics-bare : (ms : List Parts) → flat_publics (all_without_debug ms) ≡ map bare_public (flat_publics ms)
publics-bare ms = ap sited_publics (sited-bare ms) ∙ publics-of (sited ms)

pub width-bare : (ms : List Parts) → width (all_without_debug ms) ≡ width ms
width-bare [] = refl
width-bare (m ∷ ms) = refl

pub needs-bare : (ms : List Parts) → needs (all_without_debug ms) ≡ needs ms
needs-bare ms = λ i. distinct bytes_eq (map (λ reference. reference.name) (filter is_strong (unresolved-bare ms i)))

pub commons-bare : (ms : List Parts) → commons (all_without_debug ms) ≡ commons ms
commons-bare ms = λ i. distinct same_common (map (λ reference. (reference.name, common_size reference.weak)) (filter is_common (unresolved-bare ms i)))

pub common-names-bare : (ms : List Parts) → common_names (all_without_debug ms) ≡ common_names ms
common-names-bare ms = λ i. map (λ common. common.0) (commons-bare ms i)

pub setting-bare : (ms : List Parts) (bases : Bases) → setting (all_without_debug ms) bases ≡ bare_setting (setting ms bases)
setting-bare ms bases = λ i. record {
  modulus = 2 ^ width-bare ms i;
  sections = sections-bare ms i;
  publics = publics-bare ms i;
  bases = bases.sections;
  commons = common-names-bare ms i;
  common_base = bases.commons;
}

-- ---- publics by position and by name

at-position : {X : Type 0} (f g : Option SitedPublic → X) → f None ≡ g None → ((q : SitedPublic) → f (Some (bare_public q)) ≡ g (Some q))
    → (qs : List SitedPublic) (n : ℕ) → f (slice_get (map bare_public qs) n) ≡ g (slice_get qs n)
at-position f g none some [] n = none
at-position f g none some (q ∷ qs) zero = some q
at-position f g none some (q ∷ qs) (suc n) = at-position f g none some qs n

of-name : {X : Type 0} (f g : Option SitedPublic → X) → f None ≡ g None → ((q : SitedPublic) → f (Some (bare_public q)) ≡ g (Some q))
    → (name : List ℕ) (qs : List SitedPublic) → f (first_named (map bare_public qs) name) ≡ g (first_named qs name)
of-name f g none some name [] = none
of-name f g none some name (q ∷ qs) = by-case (bytes_eq q.entry.name name) (of-name f g none some name qs) where
  by-case : (b : Bool) → f (first_named (map bare_public qs) name) ≡ g (first_named qs name)
      → f (cond b (Some (bare_public q)) (first_named (map bare_public qs) name)) ≡ g (cond b (Some q) (first_named qs name))
  by-case true rest = some q
  by-case false rest = rest

-- ---- values

-- the two valuations agree
abbrev Agree : Valuation → Valuation → Type 0
Agree v w = (site : Sited) (t : Tree) → v (bare_site site) t ≡ w site t

reference-bare : (s : Setting) (v w : Valuation) → Agree v w → (o : Option Reference)
    → valuation_of_reference (bare_setting s) v o ≡ valuation_of_reference s w o
reference-bare s v w same None = refl
reference-bare s v w same (Some r) = of-name (λ o. reference_value v o (unresolved_value s r)) (λ o. reference_value w o (unresolved_value s r)) refl
    (λ q. same q.site q.entry.value) r.name s.publics

environment-bare : (s : Setting) (v w : Valuation) → Agree v w → (site : Sited) (pc : Option ℕ) (letter : Letter) (n : ℕ)
    → environment (bare_setting s) v (bare_site site) pc letter n ≡ environment s w site pc letter n
environment-bare s v w same site pc letters.R n = refl
environment-bare s v w same site pc letters.L n = refl
environment-bare s v w same site pc letters.S n = refl
environment-bare s v w same site pc letters.P n = refl
environment-bare s v w same site pc letters.I n =
    at-position (valuation_of v) (valuation_of w) refl (λ q. same q.site q.entry.value) s.publics (site.first_public + n)
environment-bare s v w same site pc letters.X n = reference-bare s v w same (slice_get site.parts.names.references n)

within-bare : (s : Setting) (k : ℕ) (site : Sited) (pc : Option ℕ) (t : Tree) → value_within (bare_setting s) k (bare_site site) pc t
    ≡ value_within s k site pc t
unfolding value_within
within-bare s zero site pc t =
    λ i. value_at s.modulus (λ letter n. environment-bare s (λ a b. None) (λ a b. None) (λ a b. refl) site pc letter n i) t
within-bare s (suc k) site pc t = λ i. value_at s.modulus (λ letter n. environment-bare s (λ a b. value_within (bare_setting s) k a None b)
    (λ a b. value_within s k a None b) (λ a b. within-bare s k a None b) site pc letter n i) t

pub value-bare : (s : Setting) (site : Sited) (pc : Option ℕ) (t : Tree) → value (bare_setting s) (bare_site site) pc t ≡ value s site pc t
value-bare s site pc t = ap (λ n. value_within (bare_setting s) n (bare_site site) pc t) (length-map s.publics bare_public)
    ∙ within-bare s (length s.publics) site pc t

pub divisor-bare : (s : Setting) (site : Sited) (pc : Option ℕ) (t : Tree) → has_zero_divisor (bare_setting s) (bare_site site) pc t
    ≡ has_zero_divisor s site pc t
divisor-bare s site pc t = λ i. divides_by_zero (λ part. value-bare s site pc part i) t

-- ---- cycles

mention-bare : {X : Type 0} (s : Setting) (f g : Option SitedPublic → X) → f None ≡ g None → ((q : SitedPublic) → f (Some (bare_public q)) ≡ g (Some q))
    → (site : Sited) (letter : Letter) (n : ℕ) → f (mentioned (bare_setting s) (bare_site site) letter n) ≡ g (mentioned s site letter n)
mention-bare s f g none some site letters.R n = none
mention-bare s f g none some site letters.L n = none
mention-bare s f g none some site letters.S n = none
mention-bare s f g none some site letters.P n = none
mention-bare s f g none some site letters.I n = at-position f g none some s.publics (site.first_public + n)
mention-bare s f g none some site letters.X n = by-reference (slice_get site.parts.names.references n) where
  by-reference : (o : Option Reference) → f (mentioned_reference (bare_setting s) o) ≡ g (mentioned_reference s o)
  by-reference None = none
  by-reference (Some r) = of-name f g none some r.name s.publics

leads-bare : (s : Setting) (k : ℕ) (name : List ℕ) (site : Sited) (t : Tree) → leads_within (bare_setting s) k name (bare_site site) t
    ≡ leads_within s k name site t
leads-bare s zero name site t = refl
leads-bare s (suc k) name site t = λ i. list_any (λ v. mention-bare s (is_or_leads (λ a b. leads_within (bare_setting s) k name a b) name)
    (is_or_leads (λ a b. leads_within s k name a b) name) refl
    (λ q j. bytes_eq q.entry.name name || leads-bare s k name q.site q.entry.value j) site v.0 v.1 i) (variables_of t)

pub cycle-bare : (ms : List Parts) (name : List ℕ) → is_on_cycle (all_without_debug ms) name ≡ is_on_cycle ms name
cycle-bare ms name = let s = setting ms no_bases in
    ap (λ (x : Setting). leads_from x (length x.publics) name (first_named x.publics name)) (setting-bare ms no_bases)
    ∙ ap (λ n. leads_from (bare_setting s) n name (first_named (map bare_public s.publics) name)) (length-map s.publics bare_public)
    ∙ of-name (leads_from (bare_setting s) (length s.publics) name) (leads_from s (length s.publics) name) refl
    (λ q. leads-bare s (length s.publics) name q.site q.entry.value) name s.publics
