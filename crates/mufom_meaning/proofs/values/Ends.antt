-- Where names lead in no circle, each chain of mentions ends within as many mentions as there are publics.
use Rattle.std.proofs.Common.{◌≡◌, ℕ, zero, suc, ◌+◌, ◌<◌, ◌⊎◌, inl, inr, List, [], ◌∷◌, length, Option, Some, None, Bool, true, false, ◌||◌, refl}
use Rattle.std.proofs.Common.{sym, ◌∙◌, ap, subst, arith, rules, eqb}
use Rattle.std.specs.Prelude.{slice_get, IsTrue}
use Rattle.std.specs.List.{list_any, IsDistinct, AllByRecursion}
use Rattle.std.proofs.lemmas.Map.Steps.{length-le_from_distinct_below}
use Rattle.std.specs.Str.{bytes_eq}
use Rattle.std.proofs.lemmas.Slice.Eq.{bytes_eq-Decides}
use Rattle.mufom_expr.specs.declared.token.Letter.{Letter}
use Rattle.mufom_expr.specs.declared.token.Letter.TheVariants as letters
use Rattle.mufom_expr.specs.Tree.{Tree}
use Rattle.mufom_expr.specs.Value.{variables_of}
use Rattle.mufom_names.specs.declared.name.Reference.{Reference}
use Rattle.mufom_meaning.specs.Flat.{Sited, SitedPublic, first_named}
use Rattle.mufom_meaning.specs.Values.{Setting}
use Rattle.mufom_meaning.specs.Valued.{IsMentionedIn}
use Rattle.mufom_meaning.proofs.facts.Answers.{find_at}
use Rattle.mufom_meaning.proofs.Tests.{either_false}
use Rattle.mufom_meaning.proofs.Members.{Contains-In, passes-In}
use Rattle.mufom_meaning.specs.Stands.{StandsIn}
use Rattle.mufom_meaning.specs.Cycles.{mentioned, mentioned_reference, is_or_leads, leads_within, leads_from}

-- a chain of mentions that ends with the public: one mention, and k before it
abbrev Leads : Setting → ℕ → Sited → Tree → SitedPublic → Type 0
Leads s zero site t q = IsMentionedIn s site t q
Leads s (suc k) site t q = (p : SitedPublic) × IsMentionedIn s site t p × Leads s k p.site p.entry.value q

-- no chain of mentions from the expression is longer than the number
abbrev pub EndsWithin : Setting → ℕ → Sited → Tree → Type 0
EndsWithin s zero site t = (q : SitedPublic) → IsMentionedIn s site t q → ⊥
EndsWithin s (suc k) site t = (q : SitedPublic) → IsMentionedIn s site t q → EndsWithin s k q.site q.entry.value

-- one mention more at the end
leads_on : (s : Setting) (k : ℕ) (site : Sited) (t : Tree) (p q : SitedPublic) → Leads s k site t p → IsMentionedIn s p.site p.entry.value q
    → Leads s (suc k) site t q
leads_on s zero site t p q h m = (p, h, m)
leads_on s (suc k) site t p q h m = (h.0, h.1, leads_on s k h.0.site h.0.entry.value p q h.2 m)

is_it : (leads : Sited → Tree → Bool) (q : SitedPublic) → is_or_leads leads q.entry.name (Some q) ≡ true
is_it leads q = ap (λ b. b || leads q.site q.entry.value) ((bytes_eq-Decides q.entry.name q.entry.name).1 refl)

or_true : (a b : Bool) → b ≡ true → (a || b) ≡ true
or_true true b e = refl
or_true false b e = e

-- such a chain is one of the test
pub leads-within : (s : Setting) (k : ℕ) (site : Sited) (t : Tree) (q : SitedPublic) → Leads s k site t q → leads_within s (suc k) q.entry.name site t ≡ true
leads-within s zero site t q h =
    passes-In (λ v. is_or_leads (λ x y. leads_within s zero q.entry.name x y) q.entry.name (mentioned s site v.0 v.1)) (variables_of t) h.0
    (Contains-In h.0 (variables_of t) h.1) (ap (is_or_leads (λ x y. leads_within s zero q.entry.name x y) q.entry.name) h.2
    ∙ is_it (λ x y. leads_within s zero q.entry.name x y) q)
leads-within s (suc k) site t q h =
    let later = leads-within s k h.0.site h.0.entry.value q h.2 in
    let m = h.1 in
    passes-In (λ v. is_or_leads (λ x y. leads_within s (suc k) q.entry.name x y) q.entry.name (mentioned s site v.0 v.1)) (variables_of t) m.0
    (Contains-In m.0 (variables_of t) m.1) (ap (is_or_leads (λ x y. leads_within s (suc k) q.entry.name x y) q.entry.name) m.2
    ∙ or_true (bytes_eq h.0.entry.name q.entry.name) _ later)

-- what is mentioned is a public of the list
mentioned_public : (s : Setting) (site : Sited) (l : Letter) (n : ℕ) (q : SitedPublic) → mentioned s site l n ≡ Some q → StandsIn q s.publics
mentioned_public s site letters.R n q e = absurd cc
mentioned_public s site letters.L n q e = absurd cc
mentioned_public s site letters.S n q e = absurd cc
mentioned_public s site letters.P n q e = absurd cc
mentioned_public s site letters.I n q e = (site.first_public + n, e)
mentioned_public s site letters.X n q e = by_reference (slice_get site.parts.names.references n) e where
  by_reference : (r : Option Reference) → mentioned_reference s r ≡ Some q → StandsIn q s.publics
  by_reference None e = absurd cc
  by_reference (Some r) e = (find_at (λ p. bytes_eq p.entry.name r.name) s.publics q e).0

pub mentioned-among : (s : Setting) (site : Sited) (t : Tree) (q : SitedPublic) → IsMentionedIn s site t q → StandsIn q s.publics
mentioned-among s site t q m = mentioned_public s site m.0.0 m.0.1 q m.2

apart_from : (i : ℕ) (xs : List ℕ) → list_any (eqb i) xs ≡ false → AllByRecursion (λ y. eqb i y ≡ false) xs
apart_from i [] e = tt
apart_from i (x ∷ xs) e = let two = either_false (eqb i x) (list_any (eqb i) xs) e in (two.0, apart_from i xs two.1)

below_length : {A : Type 0} (xs : List A) (i : ℕ) (x : A) → slice_get xs i ≡ Some x → i < length xs
below_length [] i x e = absurd cc
below_length (y ∷ ys) zero x e = omega arith
below_length (y ∷ ys) (suc i) x e = omega (arith, below_length ys i x e)

module _ (s : Setting) (single : (q : SitedPublic) → StandsIn q s.publics → first_named s.publics q.entry.name ≡ Some q)
    (acyclic : (name : List ℕ) (k : ℕ) → ¬ IsTrue (leads_from s k name (first_named s.publics name))) where
  -- no public leads to itself
  no_circle : (q : SitedPublic) → StandsIn q s.publics → (k : ℕ) → ¬ Leads s k q.site q.entry.value q
  no_circle q a k h = acyclic q.entry.name (suc k) (ap (leads_from s (suc k) q.entry.name) (single q a) ∙ leads-within s k q.site q.entry.value q h)

  -- each of the publics at these places leads to all that the expression mentions
  abbrev LeadTo : List ℕ → Sited → Tree → Type 0
  LeadTo passed site t = (i : ℕ) → list_any (eqb i) passed ≡ true → (q : SitedPublic) → IsMentionedIn s site t q
      → (p : SitedPublic) × (k : ℕ) × (slice_get s.publics i ≡ Some p) × Leads s k p.site p.entry.value q

  abbrev AreBelow : List ℕ → Type 0
  AreBelow passed = (i : ℕ) → list_any (eqb i) passed ≡ true → i < length s.publics

  -- what is mentioned was not passed before
  fresh : (passed : List ℕ) (site : Sited) (t : Tree) → LeadTo passed site t → (q : SitedPublic) → IsMentionedIn s site t q
      → (i : ℕ) → slice_get s.publics i ≡ Some q → list_any (eqb i) passed ≡ false
  fresh passed site t lead q m i e = by_case (list_any (eqb i) passed) refl where
    by_case : (b : Bool) → list_any (eqb i) passed ≡ b → list_any (eqb i) passed ≡ false
    by_case false f = f
    by_case true f =
        let there = lead i f q m in
        let same : there.0 ≡ q = some-same (sym there.2 ∙ e) in
        absurd (no_circle q (i, e) there.1 (subst (λ (p : SitedPublic). Leads s there.1 p.site p.entry.value q) same there.3)) where
          some-same : {A : Type 0} {x y : A} → ◌≡◌ {A = Option A} (Some x) (Some y) → x ≡ y
          some-same e = cc

  passed_more : (i j : ℕ) (passed : List ℕ) → list_any (eqb j) (i ∷ passed) ≡ true → (j ≡ i) ⊎ (list_any (eqb j) passed ≡ true)
  passed_more i j passed e = by_case (eqb j i) refl e where
    by_case : (b : Bool) → eqb j i ≡ b → (b || list_any (eqb j) passed) ≡ true → (j ≡ i) ⊎ (list_any (eqb j) passed ≡ true)
    by_case true f e = let same : j ≡ i = search rules in inl same
    by_case false f e = inr e

  below_more : (i : ℕ) (passed : List ℕ) → i < length s.publics → AreBelow passed → AreBelow (i ∷ passed)
  below_more i passed low h j e = by_case (passed_more i j passed e) where
    by_case : (j ≡ i) ⊎ (list_any (eqb j) passed ≡ true) → j < length s.publics
    by_case (inl same) = omega (arith, same, low)
    by_case (inr f) = h j f

  lead_more : (passed : List ℕ) (site : Sited) (t : Tree) → LeadTo passed site t → (p : SitedPublic) → IsMentionedIn s site t p → (i : ℕ)
      → slice_get s.publics i ≡ Some p
      → LeadTo (i ∷ passed) p.site p.entry.value
  lead_more passed site t lead p m i e j f q n = by_case (passed_more i j passed f) where
    by_case : (j ≡ i) ⊎ (list_any (eqb j) passed ≡ true) → (r : SitedPublic) × (k : ℕ) × (slice_get s.publics j ≡ Some r) × Leads s k r.site r.entry.value q
    by_case (inl same) = (p, 0, ap (slice_get s.publics) same ∙ e, n)
    by_case (inr g) = let there = lead j g p m in (there.0, suc there.1, there.2, leads_on s there.1 there.0.site there.0.entry.value p q there.3 n)

  ends : (left : ℕ) (passed : List ℕ) → length passed + left ≡ length s.publics → IsDistinct eqb passed → AreBelow passed
      → (site : Sited) (t : Tree) → LeadTo passed site t → EndsWithin s left site t
  unfolding IsDistinct
  ends zero passed count apart below site t lead = λ q m.
      let there = mentioned-among s site t q m in
      let new : list_any (eqb there.0) passed ≡ false = fresh passed site t lead q m there.0 there.1 in
      let low : there.0 < length s.publics = below_length s.publics there.0 q there.1 in
      let few = length-le_from_distinct_below (there.0 ∷ passed) (length s.publics) (apart_from there.0 passed new, apart)
      (below_more there.0 passed low below) in
      omega (arith, few, count)
  ends (suc left) passed count apart below site t lead = λ q m.
      let there = mentioned-among s site t q m in
      let new : list_any (eqb there.0) passed ≡ false = fresh passed site t lead q m there.0 there.1 in
      let low : there.0 < length s.publics = below_length s.publics there.0 q there.1 in
      ends left (there.0 ∷ passed) (omega (arith, count)) (apart_from there.0 passed new, apart) (below_more there.0 passed low below) q.site
      q.entry.value (lead_more passed site t lead q m there.0 there.1)

  -- so each chain ends
  pub all_end : (site : Sited) (t : Tree) → EndsWithin s (length s.publics) site t
  unfolding IsDistinct
  all_end site t = ends (length s.publics) [] (omega arith) tt (λ i e. absurd cc) site t (λ i e. absurd cc)
