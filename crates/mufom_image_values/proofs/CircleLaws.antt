-- A public lies on a cycle of names exactly if its position lies on a circle of the graph.
use Rattle.std.proofs.Common.{◌≡◌, ℕ, zero, suc, ◌<◌, ◌⊎◌, inl, inr, List, [], ◌∷◌, length, Option, Some, None, Bool, true, false, ◌||◌, refl, sym}
use Rattle.std.proofs.Common.{◌∙◌, ap, subst, append-nil, arith}
use Rattle.std.specs.Prelude.{slice_get, option_map, option_and_then, if◌then◌else◌, Contains}
use Rattle.std.specs.List.{list_any}
use Rattle.std.specs.Str.{bytes_eq}
use Rattle.std.proofs.lemmas.Option.{slice_get-map, slice_get_within}
use Rattle.std.proofs.lemmas.Slice.Eq.{bytes_eq-Decides}
use Rattle.mufom_expr.specs.declared.token.Letter.{Letter}
use Rattle.mufom_expr.specs.Tree.{tokens_of}
use Rattle.mufom_expr.specs.Value.{variables_of}
use Rattle.mufom_names.specs.declared.name.Public.{Public}
use Rattle.mufom_names.specs.Names.{names_of, AreDistinct}
use Rattle.mufom_module.specs.declared.module.Parts.{Parts}
use Rattle.mufom_module.specs.Defects.{IsValid}
use Rattle.mufom_plan.specs.Names.{has_name}
use Rattle.mufom_place.specs.Facts.{first_some, ◌or_else◌}
use Rattle.mufom_meaning.specs.Bases.{no_bases}
use Rattle.mufom_meaning.specs.Flat.{SitedPublic, first_named, public_names}
use Rattle.mufom_meaning.specs.Values.{Setting, setting}
use Rattle.mufom_meaning.specs.Cycles.{mentioned, is_or_leads, leads_within, leads_from, IsOnCycle, is_on_cycle}
use Rattle.mufom_meaning.specs.Facts.{cycle}
use Rattle.mufom_meaning.specs.LocateAnswer.{cycle_at}
use Rattle.mufom_numbers.proofs.Choices.{mapped_some}
use Rattle.mufom_meaning.proofs.Members.{In, In-at, passes-In, Contains-In, In-Contains}
use Rattle.mufom_meaning.proofs.Tests.{either}
use Rattle.mufom_meaning.proofs.facts.Answers.{first_some_none, find_at}
use Rattle.mufom_meaning.proofs.facts.Chains.{cycles_are_short}
use Rattle.mufom_image_values.specs.Names.{place_in}
use Rattle.mufom_image_values.specs.Resolutions.{resolutions_of}
use Rattle.mufom_image_values.specs.Graph.{edges, mentions_of, IsClosed}
use Rattle.mufom_image_values.specs.declared.graph.Graph.{Graph}
use Rattle.mufom_image_values.specs.Circles.{Leads, IsOnCircle, IsFirstOnCircle}
use Rattle.mufom_image_values.specs.Evaluated.{alone, IsGraph}
use Rattle.mufom_image_values.proofs.NameLaws.{place-some, place-none}
use Rattle.mufom_image_values.proofs.PublicLaws.{at_site}
use Rattle.mufom_image_values.proofs.MentionLaws.{sit, flat-alone, named-public, edges-at, edge-mentions, mention-edge, closed}

-- ---- lists

-- what is at a position below the length
pub there_is : {A : Type 0} (xs : List A) (i : ℕ) → i < length xs → (x : A) × (slice_get xs i ≡ Some x)
there_is [] i less = absurd (omega (arith, less))
there_is (x ∷ xs) zero less = (x, refl)
there_is (x ∷ xs) (suc i) less = there_is xs i (omega (arith, less))

-- an element passes if the test of any does
found : {A : Type 0} (p : A → Bool) (xs : List A) → list_any p xs ≡ true → (x : A) × In x xs × (p x ≡ true)
found p [] e = absurd cc
found {A} p (x ∷ xs) e = by_case (either (p x) (list_any p xs) e) (found p xs) where
  by_case : (p x ≡ true) ⊎ (list_any p xs ≡ true) → (list_any p xs ≡ true → (y : A) × In y xs × (p y ≡ true)) → (y : A) × In y (x ∷ xs) × (p y ≡ true)
  by_case (inl h) later = (x, inl refl, h)
  by_case (inr h) later = let there = later h in (there.0, inr there.1, there.2)

-- if no element gives an answer, none is first
pub none_first : {A B : Type 0} (f : A → Option B) (xs : List A) → ((i : ℕ) (x : A) → slice_get xs i ≡ Some x → f x ≡ None) → first_some f xs ≡ None
none_first f [] none = refl
none_first f (x ∷ xs) none = ap (λ o. o or_else first_some f xs) (none 0 x refl) ∙ none_first f xs (λ i y e. none (suc i) y e)

-- the first that gives an answer is that before which none does
pub one_first : {A B : Type 0} (f : A → Option B) (xs : List A) (i : ℕ) (x : A) (y : B) → slice_get xs i ≡ Some x → f x ≡ Some y
    → ((j : ℕ) (z : A) → j < i → slice_get xs j ≡ Some z → f z ≡ None) → first_some f xs ≡ Some y
one_first f [] i x y e g none = absurd cc
one_first f (z ∷ xs) zero x y e g none = let same : z ≡ x = cc in ap (λ o. o or_else first_some f xs) (ap f same ∙ g)
one_first f (z ∷ xs) (suc i) x y e g none =
    let first : 0 < suc i = omega arith in
    ap (λ o. o or_else first_some f xs) (none 0 z first refl)
    ∙ one_first f xs i x y e g (λ j w less h. none (suc j) w (omega (arith, less)) h)

or_true : (a b : Bool) → b ≡ true → (a || b) ≡ true
or_true true b e = refl
or_true false b e = e

not_apart : (a b : ℕ) → (a < b → ⊥) → (b < a → ⊥) → a ≡ b
not_apart a b low high = grind (arith, low, high)

-- ---- names

module _ (m : Parts) (distinct : AreDistinct (names_of m.names.publics)) where
  named-at : (a : ℕ) (p : Public) → slice_get m.names.publics a ≡ Some p → slice_get (names_of m.names.publics) a ≡ Some p.name
  named-at a p e = slice_get-map (λ (p : Public). p.name) m.names.publics a ∙ ap (option_map (λ (p : Public). p.name)) e

  pub same_place : (a b : ℕ) (name : List ℕ) → slice_get (names_of m.names.publics) a ≡ Some name → slice_get (names_of m.names.publics) b ≡ Some name → a ≡ b
  same_place a b name e f = not_apart a b (λ less. distinct b (a, name, less, e, f)) (λ less. distinct a (b, name, less, f, e))

  -- a public is the first of its name
  pub first-is : (a : ℕ) (p : Public) → slice_get m.names.publics a ≡ Some p → first_named (at_site (alone m) m.names.publics) p.name ≡ Some (sit m p)
  first-is a p e = named-public m p.name ∙ by_place (place_in (names_of m.names.publics) p.name) refl where
    among : has_name (names_of m.names.publics) p.name ≡ true
    among = passes-In (bytes_eq p.name) (names_of m.names.publics) p.name (In-at p.name (names_of m.names.publics) a (named-at a p e))
        ((bytes_eq-Decides p.name p.name).1 refl)

    by_place : (o : Option ℕ) → place_in (names_of m.names.publics) p.name ≡ o → option_and_then (slice_get (at_site (alone m) m.names.publics)) o
        ≡ Some (sit m p)
    by_place None f = absurd (let there : has_name (names_of m.names.publics) p.name ≡ true = among in
        let none : has_name (names_of m.names.publics) p.name ≡ false = place-none 0 (names_of m.names.publics) p.name f in cc)
    by_place (Some k) f =
        let there = place-some 0 (names_of m.names.publics) p.name k f in
        let same = same_place there.0 a p.name there.2 (named-at a p e) in
        let place : k ≡ a = omega (arith, there.1, same) in
        ap (slice_get (at_site (alone m) m.names.publics)) place ∙ slice_get-map (sit m) m.names.publics a ∙ ap (option_map (sit m)) e

-- ---- chains

module _ (m : Parts) (valid : IsValid m) where
  abbrev s : Setting
  s = setting (m ∷ []) no_bases

  abbrev steps : ℕ → List ℕ
  steps = edges (resolutions_of m) m.names.publics

  edge-in : (a c : ℕ) (p : Public) → slice_get m.names.publics a ≡ Some p → Contains (steps a) c → In c (mentions_of (resolutions_of m) (tokens_of p.value))
  edge-in a c p e h = subst (λ (xs : List ℕ). In c xs) (edges-at (resolutions_of m) m.names.publics a p e) (Contains-In c (steps a) h)

  in-edge : (a c : ℕ) (p : Public) → slice_get m.names.publics a ≡ Some p → In c (mentions_of (resolutions_of m) (tokens_of p.value)) → Contains (steps a) c
  in-edge a c p e h = In-Contains c (steps a) (subst (λ (xs : List ℕ). In c xs) (sym (edges-at (resolutions_of m) m.names.publics a p e)) h)

  passes : (k : ℕ) (name : List ℕ) (p q : Public) (c : ℕ) → slice_get m.names.publics c ≡ Some q → In c (mentions_of (resolutions_of m) (tokens_of p.value))
      → (bytes_eq q.name name || leads_within s k name (alone m) q.value) ≡ true → leads_within s (suc k) name (alone m) p.value ≡ true
  passes k name p q c e h test =
      let v = edge-mentions m s (flat-alone m) p.value c q e h in
      let own : Option SitedPublic → Bool = λ o. is_or_leads (λ x y. leads_within s k name x y) name o in
      passes-In (λ (v : Letter × ℕ). own (mentioned s (alone m) v.0 v.1)) (variables_of p.value) v.0 v.1 (ap own v.2 ∙ test)

  -- a chain of positions is one of mentions
  chain-test : (k a b : ℕ) (p q : Public) → slice_get m.names.publics a ≡ Some p → slice_get m.names.publics b ≡ Some q → Leads steps k a b
      → leads_within s (suc k) q.name (alone m) p.value ≡ true
  chain-test zero a b p q at to h =
      passes zero q.name p q b to (edge-in a b p at h)
      (ap (λ c. c || leads_within s zero q.name (alone m) q.value) ((bytes_eq-Decides q.name q.name).1 refl))
  chain-test (suc k) a b p q at to h =
      let next = there_is m.names.publics h.0 (closed m valid a h.0 h.1) in
      passes (suc k) q.name p next.0 h.0 next.1 (edge-in a h.0 p at h.1)
      (or_true (bytes_eq next.0.name q.name) (leads_within s (suc k) q.name (alone m) next.0.value) (chain-test k h.0 b next.0 q next.1 to h.2))

  -- a chain of mentions to a public of a name is one of positions
  abbrev LeadsTo : ℕ → List ℕ → Type 0
  LeadsTo a name = (b : ℕ) × (q : Public) × (k : ℕ) × Leads steps k a b × (slice_get m.names.publics b ≡ Some q) × (q.name ≡ name)

  test-chain : (k : ℕ) (name : List ℕ) (a : ℕ) (p : Public) → slice_get m.names.publics a ≡ Some p → leads_within s k name (alone m) p.value ≡ true
      → LeadsTo a name
  test-chain zero name a p at e = absurd cc
  test-chain (suc k) name a p at e =
      let own : Option SitedPublic → Bool = λ o. is_or_leads (λ x y. leads_within s k name x y) name o in
      let there = found (λ (v : Letter × ℕ). own (mentioned s (alone m) v.0 v.1)) (variables_of p.value) e in
      by_public (λ c r f g. test-chain k name c r f g) there.0 there.1 (mentioned s (alone m) there.0.0 there.0.1) refl there.2 where
        by_edge : ((c : ℕ) (r : Public) → slice_get m.names.publics c ≡ Some r → leads_within s k name (alone m) r.value ≡ true → LeadsTo c name)
            → (c : ℕ) (r : Public) → slice_get m.names.publics c ≡ Some r → Contains (steps a) c
            → (bytes_eq r.name name ≡ true) ⊎ (leads_within s k name (alone m) r.value ≡ true) → LeadsTo a name
        by_edge later c r f h (inl same) = (c, r, 0, h, f, (bytes_eq-Decides r.name name).0 same)
        by_edge later c r f h (inr g) = let there = later c r f g in (there.0, there.1, suc there.2, (c, h, there.3), there.4, there.5)

        by_public : ((c : ℕ) (r : Public) → slice_get m.names.publics c ≡ Some r → leads_within s k name (alone m) r.value ≡ true → LeadsTo c name)
            → (v : Letter × ℕ) → In v (variables_of p.value) → (o : Option SitedPublic) → mentioned s (alone m) v.0 v.1 ≡ o
            → is_or_leads (λ x y. leads_within s k name x y) name o ≡ true → LeadsTo a name
        by_public later v h None f g = absurd cc
        by_public later v h (Some q) f g =
            let edge = mention-edge m s (flat-alone m) p.value v q h f in
            let r = edge.1 in
            let test : (bytes_eq r.name name || leads_within s k name (alone m) r.value) ≡ true
            = ap (λ (q : SitedPublic). is_or_leads (λ x y. leads_within s k name x y) name (Some q)) edge.4 ∙ g in
            by_edge later edge.0 r edge.3 (in-edge a edge.0 p at edge.2) (either (bytes_eq r.name name) (leads_within s k name (alone m) r.value) test)

-- ---- circles

module _ (m : Parts) (valid : IsValid m) (distinct : AreDistinct (names_of m.names.publics)) where
  abbrev at_edges : ℕ → List ℕ
  at_edges = edges (resolutions_of m) m.names.publics

  first-alone : (a : ℕ) (p : Public) → slice_get m.names.publics a ≡ Some p → first_named (s m valid).publics p.name ≡ Some (sit m p)
  first-alone a p e = ap (λ (qs : List SitedPublic). first_named qs p.name) (flat-alone m) ∙ first-is m distinct a p e

  pub cycle-circle : (a : ℕ) (p : Public) → slice_get m.names.publics a ≡ Some p → IsOnCycle (m ∷ []) p.name → IsOnCircle at_edges a
  cycle-circle a p e h =
      let test = sym (ap (leads_from (s m valid) h.0 p.name) (first-alone a p e)) ∙ h.1 in
      let there = test-chain m valid h.0 p.name a p e test in
      let named : slice_get (names_of m.names.publics) there.0 ≡ Some p.name = named-at m distinct there.0 there.1 there.4 ∙ ap Some there.5 in
      let same : there.0 ≡ a = same_place m distinct there.0 a p.name named (named-at m distinct a p e) in
      (there.2, subst (λ b. Leads at_edges there.2 a b) same there.3)

  pub circle-cycle : (a : ℕ) (p : Public) → slice_get m.names.publics a ≡ Some p → IsOnCircle at_edges a → IsOnCycle (m ∷ []) p.name
  circle-cycle a p e h = (suc h.0, ap (leads_from (s m valid) (suc h.0) p.name) (first-alone a p e) ∙ chain-test m valid h.0 a a p p e e h.1)

  on_none : (a : ℕ) (p : Public) → slice_get m.names.publics a ≡ Some p → ¬ IsOnCircle at_edges a → cycle_at (m ∷ []) p.name ≡ None
  on_none a p e none = by_test (is_on_cycle (m ∷ []) p.name) refl where
    by_test : (b : Bool) → is_on_cycle (m ∷ []) p.name ≡ b → (if b then Some (cycle p.name) else None) ≡ None
    by_test false f = refl
    by_test true f = absurd (none (cycle-circle a p e ((cycles_are_short (m ∷ []) p.name).1 f)))

  named : (i : ℕ) (name : List ℕ) → slice_get (names_of m.names.publics) i ≡ Some name → (p : Public) × (slice_get m.names.publics i ≡ Some p) × (p.name ≡ name)
  named i name e = mapped_some (λ (p : Public). p.name) (slice_get m.names.publics i) name (sym (slice_get-map (λ (p : Public). p.name) m.names.publics i) ∙ e)

  not_at : (i : ℕ) (name : List ℕ) → slice_get (names_of m.names.publics) i ≡ Some name → ¬ IsOnCircle at_edges i → cycle_at (m ∷ []) name ≡ None
  not_at i name e none = let p = named i name e in sym (ap (cycle_at (m ∷ [])) p.2) ∙ on_none i p.0 p.1 none

  inside : (i : ℕ) (name : List ℕ) → slice_get (names_of m.names.publics) i ≡ Some name → i < length m.names.publics
  inside i name e = let p = named i name e in slice_get_within m.names.publics i p.0 p.1

  -- the first on a circle is the first cycle that is named
  pub first-cycle-none : ((n : ℕ) → n < length m.names.publics → ¬ IsOnCircle at_edges n) → first_some (cycle_at (m ∷ [])) (public_names (m ∷ [])) ≡ None
  first-cycle-none none =
      ap (first_some (cycle_at (m ∷ []))) (append-nil (names_of m.names.publics))
      ∙ none_first (cycle_at (m ∷ [])) (names_of m.names.publics) (λ i name e. not_at i name e (none i (inside i name e)))

  pub first-cycle-some : (a : ℕ) (p : Public) → slice_get m.names.publics a ≡ Some p → IsOnCircle at_edges a → ((n : ℕ) → n < a → ¬ IsOnCircle at_edges n)
      → first_some (cycle_at (m ∷ [])) (public_names (m ∷ [])) ≡ Some (cycle p.name)
  first-cycle-some a p e h none =
      let test : is_on_cycle (m ∷ []) p.name ≡ true = (cycles_are_short (m ∷ []) p.name).0 (circle-cycle a p e h) in
      ap (first_some (cycle_at (m ∷ []))) (append-nil (names_of m.names.publics))
      ∙ one_first (cycle_at (m ∷ [])) (names_of m.names.publics) a p.name (cycle p.name) (named-at m distinct a p e)
      (ap (λ b. if b then Some (cycle p.name) else None) test)
      (λ j name less f. not_at j name f (none j less))

-- if no cycle is named there is none
pub no_cycle : (m : Parts) → first_some (cycle_at (m ∷ [])) (public_names (m ∷ [])) ≡ None → (name : List ℕ) → ¬ IsOnCycle (m ∷ []) name
no_cycle m none name h = by_first (first_named (setting (m ∷ []) no_bases).publics name) refl h.1 where
  test : is_on_cycle (m ∷ []) name ≡ true
  test = (cycles_are_short (m ∷ []) name).0 h

  by_first : (o : Option SitedPublic) → first_named (setting (m ∷ []) no_bases).publics name ≡ o → leads_from (setting (m ∷ []) no_bases) h.0 name o ≡ true → ⊥
  by_first None f g = cc
  by_first (Some q) f g =
      let there = find_at (λ (q : SitedPublic). bytes_eq q.entry.name name) (setting (m ∷ []) no_bases).publics q f in
      let own : q.entry.name ≡ name = (bytes_eq-Decides q.entry.name name).0 there.1 in
      let spot : slice_get (at_site (alone m) m.names.publics) there.0.0 ≡ Some q =
      ap (λ (qs : List SitedPublic). slice_get qs there.0.0) (sym (flat-alone m)) ∙ there.0.1 in
      let p = mapped_some (sit m) (slice_get m.names.publics there.0.0) q (sym (slice_get-map (sit m) m.names.publics there.0.0) ∙ spot) in
      let its : p.0.name ≡ name = ap (λ (q : SitedPublic). q.entry.name) p.2 ∙ own in
      let at : slice_get (names_of m.names.publics) there.0.0 ≡ Some name
      = slice_get-map (λ (p : Public). p.name) m.names.publics there.0.0 ∙ ap (option_map (λ (p : Public). p.name)) p.1 ∙ ap Some its in
      let whole : slice_get (public_names (m ∷ [])) there.0.0 ≡ Some name =
      ap (λ (names : List (List ℕ)). slice_get names there.0.0) (append-nil (names_of m.names.publics)) ∙ at in
      let without : cycle_at (m ∷ []) name ≡ None = first_some_none (cycle_at (m ∷ [])) (public_names (m ∷ [])) none name there.0.0 whole in
      absurd (let clash : Some (cycle name) ≡ None = sym (ap (λ b. if b then Some (cycle name) else None) test) ∙ without in cc)

-- the first position on a circle, if there is one, has the public whose cycle is named
pub named-first : (graph : Graph) → IsGraph graph → (first : Option ℕ)
    → IsFirstOnCircle (edges graph.resolutions.now graph.parts.now.names.publics) (length graph.parts.now.names.publics) first
    → first_some (cycle_at (graph.parts.now ∷ [])) (public_names (graph.parts.now ∷ []))
    ≡ option_map (λ (p : Public). cycle p.name) (option_and_then (slice_get graph.parts.now.names.publics) first)
named-first graph h None none =
    first-cycle-none graph.parts.now h.valid h.distinct
    (λ n less. subst (λ met. ¬ IsOnCircle (edges met graph.parts.now.names.publics) n) h.resolutions (none n less))
named-first graph h (Some a) first =
    let p = there_is graph.parts.now.names.publics a first.0 in
    first-cycle-some graph.parts.now h.valid h.distinct a p.0 p.1
    (subst (λ met. IsOnCircle (edges met graph.parts.now.names.publics) a) h.resolutions first.1)
    (λ n less. subst (λ met. ¬ IsOnCircle (edges met graph.parts.now.names.publics) n) h.resolutions (first.2 n less))
    ∙ sym (ap (option_map (λ (p : Public). cycle p.name)) p.1)

-- all positions that the graph leads to are those of publics
pub graph-closed : (graph : Graph) → IsGraph graph → IsClosed (edges graph.resolutions.now graph.parts.now.names.publics) (length graph.parts.now.names.publics)
graph-closed graph h = subst (λ met. IsClosed (edges met graph.parts.now.names.publics) (length graph.parts.now.names.publics)) (sym h.resolutions)
    (closed graph.parts.now h.valid)
