-- The sections of a location are within the bounds of the types of a module, and so are the addresses in them.
use Rattle.std.proofs.Common.{◌≡◌, ℕ, ◌+◌, ◌^◌, ◌<◌, ◌≤◌, ◌⊎◌, Bool, true, false, ◌||◌, nat_le, nat_lt, max, List, [], ◌∷◌, ◌++◌, map, Option}
use Rattle.std.proofs.Common.{Some, None, refl, sym, ap, subst, inl, inr, arith, append-nil, ltb-false}
use Rattle.std.specs.Prelude.{IfSome, if◌then◌else◌, filter}
use Rattle.std.specs.List.{AllByRecursion, enumerate_from}
use Rattle.std.specs.Str.{bytes_eq}
use Rattle.std.proofs.lemmas.Bool.{leb-false}
use Rattle.mufom_numbers.specs.Spelling.{AreBytes}
use Rattle.mufom_sections.specs.declared.section.Section.{Section}
use Rattle.mufom_names.specs.declared.name.Reference.{Reference}
use Rattle.mufom_names.specs.declared.name.Weak.{Weak}
use Rattle.mufom_module.specs.declared.module.Parts.{Parts}
use Rattle.mufom_module.specs.Made.{IsMadeReference, IsMadeSection, IsMadeWeak, IsNumber}
use Rattle.mufom_place.specs.declared.refusal.PlaceRefusal.TheVariants.{Misfit}
use Rattle.mufom_place.specs.Bases.{numbered, site_with}
use Rattle.mufom_place.specs.Facts.{first_some, misfit_at, misfit_with, ◌or_else◌}
use Rattle.mufom_plan.specs.declared.plan.Plan.{Plan}
use Rattle.mufom_meaning.specs.declared.located.LocatedParts.{LocatedParts}
use Rattle.mufom_meaning.specs.Absolute.{no_regions}
use Rattle.mufom_meaning.specs.Flat.{commons, common_size, flat_references, flat_sections, is_common, same_common, unresolved_references, width}
use Rattle.mufom_meaning.specs.Location.{IsLocation, placed_section}
use Rattle.mufom_meaning.specs.Placed.{base_list, extended_sections, greatest_size, placed_commons}
use Rattle.mufom_meaning.specs.Staging.{AreValid}
use Rattle.mufom_meaning.proofs.Members.{In, In-append, distinct-In, filter-In, map-In}
use Rattle.mufom_meaning.proofs.Placed.{common_reference}
use Rattle.mufom_meaning.proofs.absolute.Sound.{IsSoundLocation}
use Rattle.mufom_bounds.specs.Bounded.{IsBounded}
use Rattle.mufom_bounds.proofs.BoundedLinks.{all-in, flat-all, in-all, unresolved-in}
use Rattle.mufom_bounds.proofs.LocatedValues.{narrow}

-- ---- what is placed fits

pub both-none : {A : Type 0} (o p : Option A) → o or_else p ≡ None → (o ≡ None) × (p ≡ None)
both-none None p is = (refl, is)
both-none (Some x) p is = absurd cc

pub none-there : {A B : Type 0} (f : A → Option B) (xs : List A) → first_some f xs ≡ None → (x : A) → In x xs → f x ≡ None
none-there f [] none x there = absurd there
none-there f (y ∷ ys) none x (inl same) = subst (λ z. f z ≡ None) same (both-none (f y) (first_some f ys) none).0
none-there f (y ∷ ys) none x (inr there) = none-there f ys (both-none (f y) (first_some f ys) none).1 x there

-- a section at a base
pub record Fits (modulus base size : ℕ) : Type 0 where
  pub begins : base < modulus
  pub ends : base + size ≤ modulus

site-fits : (modulus n size base : ℕ) → misfit_with modulus [] n size (record { base = base; region = None }) ≡ None → Fits modulus base size
site-fits modulus n size base none = by (nat_le modulus base) (nat_lt modulus (base + size)) refl refl none where
  by : (a b : Bool) → nat_le modulus base ≡ a → nat_lt modulus (base + size) ≡ b
      → (if a || b || false then Some (Misfit n None) else None) ≡ None → Fits modulus base size
  by false false low high none = record { begins = leb-false modulus base low; ends = ltb-false modulus (base + size) high }
  by false true low high none = absurd cc
  by true b low high none = absurd cc

pub in-numbered : (k : ℕ) (xs : List Section) (t : ℕ × Section) → In t (enumerate_from k xs) → In t.1 xs
in-numbered k [] t there = there
in-numbered k (x ∷ xs) t (inl same) = inl (ap (λ (u : ℕ × Section). u.1) same)
in-numbered k (x ∷ xs) t (inr there) = inr (in-numbered (k + 1) xs t there)

numbered-in : (k : ℕ) (xs : List Section) (x : Section) → In x xs → (n : ℕ) × In (n, x) (enumerate_from k xs)
numbered-in k [] x there = absurd there
numbered-in k (y ∷ ys) x (inl same) = (k, inl (ap (λ (z : Section). (k, z)) same))
numbered-in k (y ∷ ys) x (inr there) = let (n, is) = numbered-in (k + 1) ys x there in (n, inr is)

-- ---- commons

greatest-number : (asked : List (List ℕ × ℕ)) (name : List ℕ) → AllByRecursion (λ pair. IsNumber pair.1) asked → IsNumber (greatest_size asked name)
greatest-number [] name are = omega arith
greatest-number (pair ∷ asked) name are = by (bytes_eq pair.0 name) (greatest-number asked name are.1) where
  by : (b : Bool) → IsNumber (greatest_size asked name) → IsNumber (if b then max pair.1 (greatest_size asked name) else greatest_size asked name)
  by true later = let own = are.0 in omega (arith, own, later)
  by false later = later

size-number : (weak : Option Weak) → IfSome weak IsMadeWeak → IsNumber (common_size weak)
size-number None is = omega arith
size-number (Some weak) is = is.0

-- what the bounds say of a section, but of its base
pub record IsMadeButBase (section : Section) : Type 0 where
  pub name : AreBytes section.name
  pub size : IsNumber section.size
  pub align : IsNumber section.align

-- a section with the name, the size and the alignment of another
pub same-made : (from section : Section) → IsMadeButBase from → from.name ≡ section.name → from.size ≡ section.size → from.align ≡ section.align
    → IsMadeButBase section
same-made from section is name size align = record {
  name = subst AreBytes name is.name;
  size = subst IsNumber size is.size;
  align = subst IsNumber align is.align;
}

module _ (ms : List Parts) (plan : Plan) (are : AllByRecursion IsBounded ms) where
  reference-made : (q : Reference) → In q (flat_references ms) → IsMadeReference q
  reference-made q there =
      in-all IsMadeReference (flat_references ms) (flat-all IsMadeReference (λ n. n.names.references) (λ n is. is.references) ms are) q there

  commons-numbers : AllByRecursion (λ pair. IsNumber pair.1) (commons ms)
  commons-numbers = all-in (λ pair. IsNumber pair.1) (commons ms) (λ pair k.
      let asked = filter is_common (unresolved_references ms) in
      let own = map-In (λ q. (q.name, common_size q.weak)) pair asked
      (distinct-In same_common pair (map (λ (q : Reference). (q.name, common_size q.weak)) asked) k) in
      let made = reference-made own.0 (unresolved-in ms own.0 (filter-In is_common own.0 (unresolved_references ms) own.1)) in
      subst IsNumber (ap (λ (p : List ℕ × ℕ). p.1) own.2) (size-number own.0.weak made.weak))

  own-made : (section : Section) → In section (flat_sections ms) → IsMadeButBase section
  own-made section k =
      let made = in-all IsMadeSection (flat_sections ms) (flat-all IsMadeSection (λ n. n.sections) (λ n is. is.sections) ms are) section k in
      record { name = made.name; size = made.size; align = made.align }

  common-made : (section : Section) → In section (placed_commons ms plan) → IsMadeButBase section
  common-made section k =
      let (q, there, same) = common_reference ms plan section k in
      let made = reference-made q there in
      subst IsMadeButBase (sym same)
      (record { name = made.name; size = greatest-number (commons ms) q.name commons-numbers; align = omega arith })

  -- the sections and commons of the list
  pub source-made : (section : Section) → In section (extended_sections ms plan) → IsMadeButBase section
  source-made section k = by (In-append section (flat_sections ms) (placed_commons ms plan) k) where
    by : In section (flat_sections ms) ⊎ In section (placed_commons ms plan) → IsMadeButBase section
    by (inl k) = own-made section k
    by (inr k) = common-made section k

  -- those of a location without copies
  pub plain-made : (r : LocatedParts) → IsLocation ms plan r → (section : Section) → In section r.sections → IsMadeButBase section
  plain-made r h section k =
      let there = map-In (placed_section (base_list ms plan)) section (enumerate_from 0 (extended_sections ms plan))
      (subst (In section) h.sections k) in
      let made = source-made there.0.1 (in-numbered 0 (extended_sections ms plan) there.0 there.1) in
      same-made there.0.1 section made (ap (λ (x : Section). x.name) there.2) (ap (λ (x : Section). x.size) there.2)
      (ap (λ (x : Section). x.align) there.2)

-- ---- where sections are

module _ (m : Parts) (more : List Parts) (plan : Plan) (v : AreValid (m ∷ more)) (are : AllByRecursion IsBounded (m ∷ more)) (r : LocatedParts)
    (h : IsSoundLocation (m ∷ more) plan r) where
  abbrev ms : List Parts
  ms = m ∷ more

  pub section-fits : (section : Section) → In section r.sections → (base : ℕ) → section.base ≡ Some base → Fits (2 ^ width ms) base section.size
  section-fits section k base at =
      let (n, there) = numbered-in 0 r.sections section k in
      let all = (both-none _ _ (both-none _ _ h.fits).1).0 in
      let same : In (n, section) (numbered (r.sections ++ []))
      = subst (λ (l : List Section). In (n, section) (numbered l)) (sym (append-nil r.sections)) there in
      let none = none-there (misfit_at (2 ^ width ms) no_regions r.sections []) (numbered (r.sections ++ [])) all (n, section) same in
      site-fits (2 ^ width ms) n section.size base
      (subst (λ (o : Option ℕ). misfit_with (2 ^ width ms) [] n section.size (site_with o None) ≡ None) at none)

  section-made : (section : Section) → In section r.sections → IsMadeButBase section → IsMadeSection section
  section-made section k made =
      let own = h.absolute section k in
      let begins = (section-fits section k own.base own.based).begins in
      let most = narrow m more plan v are in
      record {
        name = made.name;
        size = made.size;
        align = made.align;
        base = subst (λ (o : Option ℕ). IfSome o IsNumber) (sym own.based) (let low : own.base < 2 ^ 64 = omega (arith, begins, most) in low);
      }

  pub sections-made : ((section : Section) → In section r.sections → IsMadeButBase section) → AllByRecursion IsMadeSection r.sections
  sections-made each = all-in IsMadeSection r.sections (λ section k. section-made section k (each section k))
