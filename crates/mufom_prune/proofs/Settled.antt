-- As many steps of names as there are publics are enough in any setting: more give the same, also if names form a cycle.
use Rattle.std.proofs.Common.{◌≡◌, ℕ, zero, suc, ◌+◌, ◌-◌, ◌<◌, ◌≤◌, ◌⊎◌, inl, inr, List, [], ◌∷◌, length, Option, Some, None, is_some, Bool, true}
use Rattle.std.proofs.Common.{false, refl, sym, ◌∙◌, ap, subst, true≢false, arith}
use Rattle.std.specs.Prelude.{slice_get, if◌then◌else◌}
use Rattle.mufom_expr.specs.declared.token.Letter.{Letter}
use Rattle.mufom_expr.specs.declared.token.Letter.TheVariants as letters
use Rattle.mufom_expr.specs.Tree.{Tree}
use Rattle.mufom_expr.specs.Value.{value_at}
use Rattle.mufom_names.specs.declared.name.Reference.{Reference}
use Rattle.mufom_meaning.specs.Flat.{Sited, SitedPublic, first_named}
use Rattle.mufom_meaning.specs.Values.{Setting, Valuation, valuation_of, unresolved_value, reference_value, valuation_of_reference, environment, value_within}
use Rattle.mufom_meaning.proofs.facts.Answers.{find_at}
use Rattle.mufom_meaning.proofs.staging.Renamed.{value_at-agrees}
use Rattle.mufom_meaning.proofs.values.Causes.{valuation_below, within_is}
use Rattle.mufom_meaning.proofs.values.Monotone.{value_within-more}

-- how many elements pass
abbrev passing : {A : Type 0} → (A → Bool) → List A → ℕ
passing p [] = 0
passing p (x ∷ xs) = if p x then suc (passing p xs) else passing p xs

passing-le : {A : Type 0} (p : A → Bool) (xs : List A) → passing p xs ≤ length xs
passing-le p [] = omega arith
passing-le p (x ∷ xs) = by_case (p x) (passing-le p xs) where
  by_case : (b : Bool) → passing p xs ≤ length xs → (if b then suc (passing p xs) else passing p xs) ≤ suc (length xs)
  by_case true h = omega arith
  by_case false h = omega arith

abbrev AgreeOn : {A : Type 0} → (A → Bool) → (A → Bool) → List A → Type 0
AgreeOn {A = A} p q xs = (x : A) (i : ℕ) → slice_get xs i ≡ Some x → p x ≡ q x

agree_on_more : {A : Type 0} (p q : A → Bool) (x : A) (xs : List A) → p x ≡ q x → AgreeOn p q xs → AgreeOn p q (x ∷ xs)
agree_on_more p q x xs here rest y zero e = let same : x ≡ y = cc in ap p (sym same) ∙ here ∙ ap q same
agree_on_more p q x xs here rest y (suc i) e = rest y i e

-- a test that passes at least as much passes the same, or more elements
agree_or_more : {A : Type 0} (p q : A → Bool) → ((x : A) → p x ≡ true → q x ≡ true) → (xs : List A) → (AgreeOn p q xs ⊎ (passing p xs < passing q xs))
    × (passing p xs ≤ passing q xs)
agree_or_more p q keeps [] = (inl (λ x i e. absurd cc), omega arith)
agree_or_more p q keeps (x ∷ xs) = let rest = agree_or_more p q keeps xs in by_case (p x) refl (q x) refl rest.0 rest.1 where
  by_case : (b : Bool) → p x ≡ b → (c : Bool) → q x ≡ c → AgreeOn p q xs ⊎ (passing p xs < passing q xs) → passing p xs ≤ passing q xs
      → (AgreeOn p q (x ∷ xs) ⊎ ((if b then suc (passing p xs) else passing p xs) < (if c then suc (passing q xs) else passing q xs)))
      × ((if b then suc (passing p xs) else passing p xs) ≤ (if c then suc (passing q xs) else passing q xs))
  by_case true e true f (inl h) le = (inl (agree_on_more p q x xs (e ∙ sym f) h), omega arith)
  by_case true e true f (inr h) le = (inr (omega arith), omega arith)
  by_case true e false f h le = absurd (let must : q x ≡ true = keeps x e in cc)
  by_case false e true f h le = (inr (omega arith), omega arith)
  by_case false e false f (inl h) le = (inl (agree_on_more p q x xs (e ∙ sym f) h), le)
  by_case false e false f (inr h) le = (inr h, le)

module _ (s : Setting) where
  -- the values of the publics of the setting by both
  abbrev Agree : Valuation → Valuation → Type 0
  Agree valuation other = (q : SitedPublic) (i : ℕ) → slice_get s.publics i ≡ Some q → valuation q.site q.entry.value ≡ other q.site q.entry.value

  module _ (valuation other : Valuation) (agree : Agree valuation other) where
    same_public : (i : ℕ) (o : Option SitedPublic) → slice_get s.publics i ≡ o → valuation_of valuation o ≡ valuation_of other o
    same_public i None e = refl
    same_public i (Some q) e = agree q i e

    same_named : (name : List ℕ) (unresolved : Option ℕ) (o : Option SitedPublic) → first_named s.publics name ≡ o → reference_value valuation o unresolved
        ≡ reference_value other o unresolved
    same_named name unresolved None e = refl
    same_named name unresolved (Some q) e = let there = (find_at _ s.publics q e).0 in agree q there.0 there.1

    same_reference : (o : Option Reference) → valuation_of_reference s valuation o ≡ valuation_of_reference s other o
    same_reference None = refl
    same_reference (Some r) = same_named r.name (unresolved_value s r) (first_named s.publics r.name) refl

    same_environment : (site : Sited) (pc : Option ℕ) (l : Letter) (n : ℕ) → environment s valuation site pc l n ≡ environment s other site pc l n
    same_environment site pc letters.R n = refl
    same_environment site pc letters.L n = refl
    same_environment site pc letters.S n = refl
    same_environment site pc letters.P n = refl
    same_environment site pc letters.I n = same_public (site.first_public + n) (slice_get s.publics (site.first_public + n)) refl
    same_environment site pc letters.X n = same_reference (slice_get site.parts.names.references n)

    same_value : (site : Sited) (pc : Option ℕ) (t : Tree) → value_at s.modulus (environment s valuation site pc) t
        ≡ value_at s.modulus (environment s other site pc) t
    same_value site pc t = value_at-agrees s.modulus (environment s valuation site pc) (environment s other site pc) (same_environment site pc) t

  -- one step more changes no public
  abbrev IsStable : ℕ → Type 0
  IsStable k = Agree (valuation_below s k) (valuation_below s (suc k))

  stable_step : (k : ℕ) → IsStable k → (site : Sited) (pc : Option ℕ) (t : Tree) → value_within s k site pc t ≡ value_within s (suc k) site pc t
  stable_step k h site pc t = within_is s k site pc t ∙ same_value (valuation_below s k) (valuation_below s (suc k)) h site pc t
      ∙ sym (within_is s (suc k) site pc t)

  stays_stable : (d k : ℕ) → IsStable k → IsStable (d + k)
  stays_stable zero k h = let same : k ≡ 0 + k = omega arith in subst IsStable same h
  stays_stable (suc d) k h =
      let before = stays_stable d k h in
      let same : suc (d + k) ≡ suc d + k = omega arith in
      subst IsStable same (λ q i e. stable_step (d + k) before q.site None q.entry.value)

  -- the public has a value with fewer than this many steps
  abbrev has : ℕ → SitedPublic → Bool
  has k q = is_some (valuation_below s k q.site q.entry.value)

  valuation-more : (k : ℕ) (site : Sited) (t : Tree) (v : ℕ) → valuation_below s k site t ≡ Some v → valuation_below s (suc k) site t ≡ Some v
  valuation-more zero site t v e = absurd cc
  valuation-more (suc k) site t v e = value_within-more s k site None t v e

  keeps : (k : ℕ) (q : SitedPublic) → has k q ≡ true → has (suc k) q ≡ true
  keeps k q h = by_case (valuation_below s k q.site q.entry.value) refl h where
    by_case : (o : Option ℕ) → valuation_below s k q.site q.entry.value ≡ o → is_some o ≡ true → has (suc k) q ≡ true
    by_case None e h = absurd (true≢false (sym h))
    by_case (Some v) e h = ap is_some (valuation-more k q.site q.entry.value v e)

  agreed : (k : ℕ) (q : SitedPublic) → has k q ≡ has (suc k) q → valuation_below s k q.site q.entry.value ≡ valuation_below s (suc k) q.site q.entry.value
  agreed k q h = by_case (valuation_below s k q.site q.entry.value) refl (valuation_below s (suc k) q.site q.entry.value) refl h where
    by_case : (o : Option ℕ) → valuation_below s k q.site q.entry.value ≡ o → (u : Option ℕ) → valuation_below s (suc k) q.site q.entry.value ≡ u → is_some o
        ≡ is_some u → o ≡ u
    by_case None e None f h = refl
    by_case None e (Some w) f h = absurd (true≢false (sym h))
    by_case (Some v) e u f h = sym (valuation-more k q.site q.entry.value v e) ∙ f

  stable_or_many : (k : ℕ) → ((j : ℕ) × (j < k) × IsStable j) ⊎ (k ≤ passing (has k) s.publics)
  stable_or_many zero = inr (omega arith)
  stable_or_many (suc k) = by_case (stable_or_many k) where
    by_case : ((j : ℕ) × (j < k) × IsStable j) ⊎ (k ≤ passing (has k) s.publics) → ((j : ℕ) × (j < suc k) × IsStable j)
        ⊎ (suc k ≤ passing (has (suc k)) s.publics)
    by_case (inl h) = let less : h.0 < suc k = omega (arith, h.1) in inl (h.0, less, h.2)
    by_case (inr h) = grown h (agree_or_more (has k) (has (suc k)) (keeps k) s.publics).0 where
      grown : k ≤ passing (has k) s.publics → AgreeOn (has k) (has (suc k)) s.publics ⊎ (passing (has k) s.publics < passing (has (suc k)) s.publics)
          → ((j : ℕ) × (j < suc k) × IsStable j) ⊎ (suc k ≤ passing (has (suc k)) s.publics)
      grown h (inl same) = let less : k < suc k = omega arith in inl (k, less, (λ q i e. agreed k q (same q i e)))
      grown h (inr more) = inr (omega arith)

  stable_early : (j : ℕ) × (j ≤ length s.publics) × IsStable j
  stable_early = by_case (stable_or_many (suc (length s.publics))) where
    by_case : ((j : ℕ) × (j < suc (length s.publics)) × IsStable j) ⊎ (suc (length s.publics) ≤ passing (has (suc (length s.publics))) s.publics)
        → (j : ℕ) × (j ≤ length s.publics) × IsStable j
    by_case (inl h) = let le : h.0 ≤ length s.publics = omega (arith, h.1) in (h.0, le, h.2)
    by_case (inr h) = absurd (omega (arith, passing-le (has (suc (length s.publics))) s.publics))

  settled_at : IsStable (length s.publics)
  settled_at =
      let early = stable_early in
      let rest : (length s.publics - early.0) + early.0 ≡ length s.publics = omega (arith, early.1) in
      subst IsStable rest (stays_stable (length s.publics - early.0) early.0 early.2)

  pub settled : (d : ℕ) (site : Sited) (pc : Option ℕ) (t : Tree) → value_within s (d + length s.publics) site pc t
      ≡ value_within s (length s.publics) site pc t
  settled zero site pc t = let same : 0 + length s.publics ≡ length s.publics = omega arith in ap (λ n. value_within s n site pc t) same
  settled (suc d) site pc t =
      let same : suc d + length s.publics ≡ suc (d + length s.publics) = omega arith in
      ap (λ n. value_within s n site pc t) same
      ∙ sym (stable_step (d + length s.publics) (stays_stable d (length s.publics) settled_at) site pc t)
      ∙ settled d site pc t
