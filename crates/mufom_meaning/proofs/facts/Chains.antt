-- A chain of mentions that comes back has one that is no longer than the list of publics.
use Rattle.std.proofs.Common.{◌≡◌, ℕ, zero, suc, ◌+◌, ◌-◌, ◌<◌, ◌≤◌, ◌⊎◌, inl, inr, List, [], ◌∷◌, length, Option, Some, None, Bool, true, false}
use Rattle.std.proofs.Common.{◌||◌, refl, sym, ◌∙◌, ap, subst, cond, arith}
use Rattle.std.specs.Prelude.{slice_get, find, if◌then◌else◌}
use Rattle.std.specs.List.{list_any}
use Rattle.std.specs.Str.{bytes_eq}
use Rattle.mufom_expr.specs.declared.token.Letter.{Letter}
use Rattle.mufom_expr.specs.declared.token.Letter.TheVariants as letters
use Rattle.mufom_expr.specs.Tree.{Tree}
use Rattle.mufom_expr.specs.Value.{variables_of}
use Rattle.mufom_names.specs.declared.name.Reference.{Reference}
use Rattle.mufom_meaning.specs.Bases.{no_bases}
use Rattle.mufom_meaning.specs.Flat.{Sited, SitedPublic, first_named}
use Rattle.mufom_meaning.specs.Values.{Setting, setting}
use Rattle.mufom_meaning.specs.Cycles.{mentioned, mentioned_reference, is_or_leads, leads_within, leads_from}
use Rattle.mufom_meaning.specs.FactLaws.{CyclesAreShort}
use Rattle.mufom_meaning.proofs.References.{Among}
use Rattle.mufom_meaning.proofs.facts.Cycles.{list_any-agrees}

-- how many elements pass
abbrev passing : {A : Type 0} → (A → Bool) → List A → ℕ
passing p [] = 0
passing p (x ∷ xs) = if p x then suc (passing p xs) else passing p xs

passing-le : {A : Type 0} (p : A → Bool) (xs : List A) → passing p xs ≤ length xs
passing-le p [] = omega arith
passing-le p (x ∷ xs) = by_case (p x) (passing-le p xs) where
  by_case : (b : Bool) → passing p xs ≤ length xs → (if b then suc (passing p xs) else passing p xs) ≤ suc (length xs)
  by_case true h = omega arith
  by_case false h = omega arith

-- a test that passes at least as much passes the same, or more elements
module _ {A : Type 0} (p q : A → Bool) (keeps : (x : A) → p x ≡ true → q x ≡ true) where
  abbrev AgreeOn : List A → Type 0
  AgreeOn xs = (x : A) (i : ℕ) → slice_get xs i ≡ Some x → p x ≡ q x

  agree_on_more : (x : A) (xs : List A) → p x ≡ q x → AgreeOn xs → AgreeOn (x ∷ xs)
  agree_on_more x xs here rest y zero e = let same : x ≡ y = cc in ap p (sym same) ∙ here ∙ ap q same
  agree_on_more x xs here rest y (suc i) e = rest y i e

  pub agree_or_more : (xs : List A) → AgreeOn xs ⊎ (passing p xs < passing q xs)
  agree_or_more [] = inl (λ x i e. absurd cc)
  agree_or_more (x ∷ xs) = by_case (p x) refl (q x) refl (agree_or_more xs) where
    not_less : (ys : List A) → AgreeOn ys ⊎ (passing p ys < passing q ys) → passing p ys ≤ passing q ys
    not_less ys (inr h) = omega arith
    not_less [] (inl h) = omega arith
    not_less (y ∷ ys) (inl h) =
        let here : p y ≡ q y = h y 0 refl in
        let rest : passing p ys ≤ passing q ys = not_less ys (inl (λ z i e. h z (suc i) e)) in
        same_step (p y) (q y) here rest where
          same_step : (b c : Bool) → b ≡ c → passing p ys ≤ passing q ys
              → (if b then suc (passing p ys) else passing p ys) ≤ (if c then suc (passing q ys) else passing q ys)
          same_step true true e h = omega arith
          same_step false false e h = h
          same_step true false e h = absurd cc
          same_step false true e h = absurd cc

    by_case : (b : Bool) → p x ≡ b → (c : Bool) → q x ≡ c → AgreeOn xs ⊎ (passing p xs < passing q xs)
        → AgreeOn (x ∷ xs) ⊎ ((if b then suc (passing p xs) else passing p xs) < (if c then suc (passing q xs) else passing q xs))
    by_case true e true f (inl h) = inl (agree_on_more x xs (e ∙ sym f) h)
    by_case true e true f (inr h) = inr (omega arith)
    by_case true e false f h = absurd (let must : q x ≡ true = keeps x e in cc)
    by_case false e true f h = let le = not_less xs h in inr (omega arith)
    by_case false e false f (inl h) = inl (agree_on_more x xs (e ∙ sym f) h)
    by_case false e false f (inr h) = inr h

list_any-keeps : {A : Type 0} (p q : A → Bool) → ((x : A) → p x ≡ true → q x ≡ true) → (xs : List A) → list_any p xs ≡ true → list_any q xs ≡ true
list_any-keeps p q keeps [] h = absurd cc
list_any-keeps p q keeps (x ∷ xs) h = by_case (p x) refl h (list_any-keeps p q keeps xs) where
  after : (c : Bool) → list_any q xs ≡ true → (c || list_any q xs) ≡ true
  after true e = refl
  after false e = e

  by_case : (b : Bool) → p x ≡ b → (b || list_any p xs) ≡ true → (list_any p xs ≡ true → list_any q xs ≡ true) → (q x || list_any q xs) ≡ true
  by_case true e h later = ap (λ b. b || list_any q xs) (keeps x e)
  by_case false e h later = after (q x) (later h)

found_among : (test : SitedPublic → Bool) (xs : List SitedPublic) (q : SitedPublic) → find test xs ≡ Some q → Among q xs
found_among test [] q e = absurd cc
found_among test (x ∷ xs) q e = by_case (test x) e (found_among test xs q) where
  by_case : (b : Bool) → cond b (Some x) (find test xs) ≡ Some q → (find test xs ≡ Some q → Among q xs) → Among q (x ∷ xs)
  by_case true e later = (0, e)
  by_case false e later = let found = later e in (suc found.0, found.1)

module _ (s : Setting) (name : List ℕ) where
  abbrev leads : ℕ → SitedPublic → Bool
  leads k q = leads_within s k name q.site q.entry.value

  or_leads-keeps : (f g : Sited → Tree → Bool) → ((site : Sited) (t : Tree) → f site t ≡ true → g site t ≡ true) → (q : Option SitedPublic)
      → is_or_leads f name q ≡ true → is_or_leads g name q ≡ true
  or_leads-keeps f g keeps None h = absurd cc
  or_leads-keeps f g keeps (Some q) h = by_case (bytes_eq q.entry.name name) h where
    by_case : (b : Bool) → (b || f q.site q.entry.value) ≡ true → (b || g q.site q.entry.value) ≡ true
    by_case true e = refl
    by_case false e = keeps q.site q.entry.value e

  -- one more mention keeps a chain
  leads_within-more : (k : ℕ) (site : Sited) (t : Tree) → leads_within s k name site t ≡ true → leads_within s (suc k) name site t ≡ true
  leads_within-more zero site t h = absurd cc
  leads_within-more (suc k) site t h =
      list_any-keeps (λ v. is_or_leads (λ x y. leads_within s k name x y) name (mentioned s site v.0 v.1))
      (λ v. is_or_leads (λ x y. leads_within s (suc k) name x y) name (mentioned s site v.0 v.1))
      (λ v e. or_leads-keeps (λ x y. leads_within s k name x y) (λ x y. leads_within s (suc k) name x y) (leads_within-more k)
      (mentioned s site v.0 v.1) e) (variables_of t) h

  leads_within-add : (d k : ℕ) (site : Sited) (t : Tree) → leads_within s k name site t ≡ true → leads_within s (d + k) name site t ≡ true
  leads_within-add zero k site t h = let same : k ≡ 0 + k = omega arith in ap (λ n. leads_within s n name site t) (sym same) ∙ h
  leads_within-add (suc d) k site t h =
      let more = leads_within-more (d + k) site t (leads_within-add d k site t h) in
      let same : suc d + k ≡ suc (d + k) = omega arith in ap (λ n. leads_within s n name site t) same ∙ more

  -- what is mentioned is a public of the list
  mentioned_among : (site : Sited) (l : Letter) (n : ℕ) (q : SitedPublic) → mentioned s site l n ≡ Some q → Among q s.publics
  mentioned_among site letters.R n q e = absurd cc
  mentioned_among site letters.L n q e = absurd cc
  mentioned_among site letters.S n q e = absurd cc
  mentioned_among site letters.P n q e = absurd cc
  mentioned_among site letters.I n q e = (site.first_public + n, e)
  mentioned_among site letters.X n q e = by_reference (slice_get site.parts.names.references n) e where
    by_reference : (r : Option Reference) → mentioned_reference s r ≡ Some q → Among q s.publics
    by_reference None e = absurd cc
    by_reference (Some r) e = found_among _ s.publics q e

  -- one more mention changes nothing
  abbrev IsStable : ℕ → Type 0
  IsStable k = (q : SitedPublic) (i : ℕ) → slice_get s.publics i ≡ Some q → leads k q ≡ leads (suc k) q

  or_leads-stable : (k : ℕ) → IsStable k → (site : Sited) (l : Letter) (n : ℕ) (o : Option SitedPublic) → mentioned s site l n ≡ o
      → is_or_leads (λ x y. leads_within s k name x y) name o ≡ is_or_leads (λ x y. leads_within s (suc k) name x y) name o
  or_leads-stable k h site l n None e = refl
  or_leads-stable k h site l n (Some q) e =
      let there = mentioned_among site l n q e in ap (λ b. bytes_eq q.entry.name name || b) (h q there.0 there.1)

  stable_step : (k : ℕ) → IsStable k → (site : Sited) (t : Tree) → leads_within s (suc k) name site t ≡ leads_within s (suc (suc k)) name site t
  stable_step k h site t = list_any-agrees _ _ (λ v. or_leads-stable k h site v.0 v.1 (mentioned s site v.0 v.1) refl) (variables_of t)

  stays_stable : (d k : ℕ) → IsStable k → IsStable (d + k)
  stays_stable zero k h = let same : k ≡ 0 + k = omega arith in subst IsStable same h
  stays_stable (suc d) k h =
      let before = stays_stable d k h in
      let same : suc (d + k) ≡ suc d + k = omega arith in
      subst IsStable same (λ q i e. stable_step (d + k) before q.site q.entry.value)

  -- within as many steps as there are publics, and one, the chains stop growing
  stable_or_many : (k : ℕ) → ((j : ℕ) × (j < k) × IsStable j) ⊎ (k ≤ passing (leads k) s.publics)
  stable_or_many zero = inr (omega arith)
  stable_or_many (suc k) = by_case (stable_or_many k) where
    by_case : ((j : ℕ) × (j < k) × IsStable j) ⊎ (k ≤ passing (leads k) s.publics) → ((j : ℕ) × (j < suc k) × IsStable j)
        ⊎ (suc k ≤ passing (leads (suc k)) s.publics)
    by_case (inl h) = let less : h.0 < suc k = omega (arith, h.1) in inl (h.0, less, h.2)
    by_case (inr h) = grown h (agree_or_more (leads k) (leads (suc k)) (λ q e. leads_within-more k q.site q.entry.value e) s.publics) where
      grown : k ≤ passing (leads k) s.publics → AgreeOn (leads k) (leads (suc k)) (λ q e. leads_within-more k q.site q.entry.value e) s.publics
          ⊎ (passing (leads k) s.publics < passing (leads (suc k)) s.publics)
          → ((j : ℕ) × (j < suc k) × IsStable j) ⊎ (suc k ≤ passing (leads (suc k)) s.publics)
      grown h (inl stable) = let less : k < suc k = omega arith in inl (k, less, stable)
      grown h (inr more) = inr (omega arith)

  stable_early : (j : ℕ) × (j ≤ length s.publics) × IsStable j
  stable_early = by_case (stable_or_many (suc (length s.publics))) where
    by_case : ((j : ℕ) × (j < suc (length s.publics)) × IsStable j) ⊎ (suc (length s.publics) ≤ passing (leads (suc (length s.publics))) s.publics)
        → (j : ℕ) × (j ≤ length s.publics) × IsStable j
    by_case (inl h) = let le : h.0 ≤ length s.publics = omega (arith, h.1) in (h.0, le, h.2)
    by_case (inr h) = absurd (omega (arith, passing-le (leads (suc (length s.publics))) s.publics))

  -- from there on nothing changes
  same_later : (d k : ℕ) → IsStable k → (q : SitedPublic) (i : ℕ) → slice_get s.publics i ≡ Some q → leads k q ≡ leads (d + k) q
  same_later zero k h q i e = let same : k ≡ 0 + k = omega arith in ap (λ n. leads n q) same
  same_later (suc d) k h q i e =
      let same : suc (d + k) ≡ suc d + k = omega arith in
      same_later d k h q i e ∙ stays_stable d k h q i e ∙ ap (λ n. leads n q) same

  -- any chain has one of at most as many mentions as there are publics
  pub short_chain : (m : ℕ) (q : SitedPublic) (i : ℕ) → slice_get s.publics i ≡ Some q → leads m q ≡ true → leads (length s.publics) q ≡ true
  short_chain m q i e h =
      let early = stable_early in
      let long : leads (m + early.0) q ≡ true = ap (λ n. leads n q) (commute m early.0) ∙ leads_within-add early.0 m q.site q.entry.value h in
      let here : leads early.0 q ≡ true = same_later m early.0 early.2 q i e ∙ long in
      let rest : (length s.publics - early.0) + early.0 ≡ length s.publics = omega (arith, early.1) in
      ap (λ n. leads n q) (sym rest) ∙ leads_within-add (length s.publics - early.0) early.0 q.site q.entry.value here where
        commute : (a b : ℕ) → a + b ≡ b + a
        commute a b = omega arith

short_cycle : (s : Setting) (name : List ℕ) (m : ℕ) (o : Option SitedPublic) → first_named s.publics name ≡ o → leads_from s m name o ≡ true
    → leads_from s (length s.publics) name o ≡ true
short_cycle s name m None e h = absurd cc
short_cycle s name m (Some q) e h = let there = found_among _ s.publics q e in short_chain s name m q there.0 there.1 h

pub cycles_are_short : CyclesAreShort
cycles_are_short ms name = (
  λ h. short_cycle (setting ms no_bases) name h.0 (first_named (setting ms no_bases).publics name) refl h.1,
  λ h. (length (setting ms no_bases).publics, h),
)
