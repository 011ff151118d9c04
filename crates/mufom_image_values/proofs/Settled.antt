-- Publics that are evaluated after those that they mention have their values, and in as many rounds as there are publics, and one
-- more, all are evaluated.
use Rattle.std.proofs.Common.{◌≡◌, ◌≢◌, ◌⊎◌, inl, inr, ℕ, zero, suc, ◌<◌, List, [], ◌∷◌, map, length, set, Option, Some, None, refl, sym, ◌∙◌, ap}
use Rattle.std.proofs.Common.{subst, append-nil, arith}
use Rattle.std.specs.Prelude.{slice_get, option_map, Contains}
use Rattle.std.proofs.lemmas.List.{length-map}
use Rattle.std.proofs.lemmas.Option.{slice_get-map, slice_get_within}
use Rattle.mufom_expr.specs.Tree.{Tree, tokens_of}
use Rattle.mufom_expr.specs.Value.{value_at}
use Rattle.mufom_names.specs.declared.name.Public.{Public}
use Rattle.mufom_names.specs.Names.{names_of, RepeatsAt}
use Rattle.mufom_module.specs.declared.module.Parts.{Parts}
use Rattle.mufom_meaning.specs.Flat.{Sited, SitedPublic, flat_publics, first_named}
use Rattle.mufom_meaning.specs.Values.{Setting, Valuation, valuation_of, value}
use Rattle.mufom_meaning.specs.Facts.{duplicate}
use Rattle.mufom_meaning.specs.Stands.{LinkFactStands}
use Rattle.mufom_meaning.specs.Valued.{IsMentionedIn}
use Rattle.mufom_numbers.proofs.Choices.{some_same}
use Rattle.mufom_meaning.proofs.Members.{In, Contains-In, In-Contains}
use Rattle.mufom_meaning.proofs.values.Ends.{EndsWithin, all_end}
use Rattle.mufom_meaning.proofs.values.Named.{single_name, leads_from-bases}
use Rattle.mufom_image_values.specs.declared.surroundings.Evaluation.{Evaluation}
use Rattle.mufom_image_values.specs.declared.surroundings.Evaluation.TheVariants as evaluations
use Rattle.mufom_image_values.specs.declared.values.PlacedModule.{PlacedModule}
use Rattle.mufom_image_values.specs.Resolutions.{resolutions_of}
use Rattle.mufom_image_values.specs.Graph.{edges, mentions_of}
use Rattle.mufom_image_values.specs.Surroundings.{known, known_of, valuation_by}
use Rattle.mufom_image_values.specs.Evaluated.{alone, bases_by, graph_edges, setting_of, public_value, IsRight, AreRight, IsEvaluated, AreEvaluated}
use Rattle.mufom_image_values.specs.Evaluated.{AreKept, IsRound, IsPlaced, valuation_at, AreValues}
use Rattle.mufom_image_values.proofs.MentionLaws.{sit, flat-alone, edges-at, edge-mentions, closed}
use Rattle.mufom_image_values.proofs.CircleLaws.{there_is, no_cycle}
use Rattle.mufom_image_values.proofs.Around.{IsKnown, value_by-is}
use Rattle.mufom_image_values.proofs.Once.{value_from_values}
use Rattle.mufom_image_values.proofs.TokenLoops.{nat_choice}

-- ---- lists with one element changed

pub set-same : {A : Type 0} (xs : List A) (n : ℕ) (x : A) → n < length xs → slice_get (set xs n x) n ≡ Some x
set-same [] n x less = absurd (omega (arith, less))
set-same (y ∷ xs) zero x less = refl
set-same (y ∷ xs) (suc n) x less = set-same xs n x (omega (arith, less))

pub set-other : {A : Type 0} (xs : List A) (n k : ℕ) (x : A) → k ≢ n → slice_get (set xs n x) k ≡ slice_get xs k
set-other [] n k x other = refl
set-other (y ∷ xs) zero zero x other = absurd (other refl)
set-other (y ∷ xs) zero (suc k) x other = refl
set-other (y ∷ xs) (suc n) zero x other = refl
set-other (y ∷ xs) (suc n) (suc k) x other = set-other xs n k x (λ e. other (ap suc e))

pub set-length : {A : Type 0} (xs : List A) (n : ℕ) (x : A) → length (set xs n x) ≡ length xs
set-length [] n x = refl
set-length (y ∷ xs) zero x = refl
set-length (y ∷ xs) (suc n) x = ap suc (set-length xs n x)

-- ---- what is known of a public

pub right-known : (value : Option ℕ) (evaluation : Evaluation) → IsRight value evaluation → evaluation ≢ evaluations.Waiting → known evaluation ≡ value
right-known value evaluations.Waiting h other = absurd (other refl)
right-known value evaluations.Nothing h other = sym h
right-known value (evaluations.Value v) h other = sym h

pub known-right : (value : Option ℕ) (evaluation : Evaluation) → known evaluation ≡ value → IsRight value evaluation
known-right value evaluations.Waiting e = tt
known-right value evaluations.Nothing e = sym e
known-right value (evaluations.Value v) e = sym e

module _ (placed : PlacedModule) (h : IsPlaced placed) where
  abbrev pub m : Parts
  m = placed.graph.parts.now

  abbrev pub s : Setting
  s = setting_of placed

  -- the value of the expression of a public
  abbrev valuation : Valuation
  valuation = λ x y. value s x None y

  once : (name : List ℕ) → ¬ LinkFactStands (m ∷ []) (duplicate name)
  once name f = h.graph.distinct f.0 (subst (λ (names : List (List ℕ)). RepeatsAt names f.0) (append-nil (names_of m.names.publics)) f.2)

  -- an expression has its value, if what it mentions is known
  pub valuation_at-is : (values : List Evaluation) (counter : Option ℕ) (t : Tree)
      → ((c : ℕ) → In c (mentions_of (resolutions_of m) (tokens_of t)) → IsKnown m placed.bases.now placed.commons.now valuation values counter c)
      → valuation_at placed values counter t ≡ value s (alone m) counter t
  valuation_at-is values counter t knows =
      ap (λ met. value_at s.modulus (valuation_by m.sections placed.bases.now placed.commons.now values met counter) t) h.graph.resolutions
      ∙ value_by-is m placed.bases.now placed.commons.now valuation values counter t knows
      ∙ sym (value_from_values (m ∷ []) (bases_by m placed.bases.now placed.commons.now) once (no_cycle m h.acyclic) (alone m) counter t)

  -- a public that was evaluated is known
  pub known-at : (values : List Evaluation) (counter : Option ℕ) → AreRight placed values → (c : ℕ) → IsEvaluated values c
      → IsKnown m placed.bases.now placed.commons.now valuation values counter c
  known-at values counter r c evaluated = by_public (slice_get m.names.publics c) refl (slice_get values c) refl where
    publics : (o : Option Public) → slice_get m.names.publics c ≡ o → slice_get (flat_publics (m ∷ [])) c ≡ option_map (sit m) o
    publics o e = ap (λ (qs : List SitedPublic). slice_get qs c) (flat-alone m) ∙ slice_get-map (sit m) m.names.publics c ∙ ap (option_map (sit m)) e

    by_public : (o : Option Public) → slice_get m.names.publics c ≡ o → (u : Option Evaluation) → slice_get values c ≡ u
        → known_of (slice_get values c) ≡ valuation_of valuation (slice_get (flat_publics (m ∷ [])) c)
    by_public None e None f = ap known_of f ∙ sym (ap (valuation_of valuation) (publics None e))
    by_public (Some p) e (Some evaluation) f =
        ap known_of f
        ∙ right-known (public_value placed p) evaluation (r.right c p evaluation e f) (λ waits. evaluated (f ∙ ap Some waits))
        ∙ sym (ap (valuation_of valuation) (publics (Some p) e))
    by_public None e (Some evaluation) f =
        let inside = slice_get_within values c evaluation f in
        let count = r.count in
        let there = there_is m.names.publics c (omega (arith, inside, count)) in
        absurd (let clash : Some there.0 ≡ None = sym there.1 ∙ e in cc)
    by_public (Some p) e None f =
        let inside = slice_get_within m.names.publics c p e in
        let count = r.count in
        let there = there_is values c (omega (arith, inside, count)) in
        absurd (let clash : Some there.0 ≡ None = sym there.1 ∙ f in cc)

  edges-are : (n : ℕ) → graph_edges placed.graph n ≡ edges (resolutions_of m) m.names.publics n
  edges-are n = ap (λ met. edges met m.names.publics n) h.graph.resolutions

  mention-edge : (n c : ℕ) (p : Public) → slice_get m.names.publics n ≡ Some p → In c (mentions_of (resolutions_of m) (tokens_of p.value))
      → Contains (graph_edges placed.graph n) c
  mention-edge n c p e k =
      In-Contains c (graph_edges placed.graph n) (subst (λ (xs : List ℕ). In c xs) (sym (edges-are n ∙ edges-at (resolutions_of m) m.names.publics n p e)) k)

  edge-mention : (n c : ℕ) (p : Public) → slice_get m.names.publics n ≡ Some p → Contains (graph_edges placed.graph n) c
      → In c (mentions_of (resolutions_of m) (tokens_of p.value))
  edge-mention n c p e k =
      subst (λ (xs : List ℕ). In c xs) (edges-are n ∙ edges-at (resolutions_of m) m.names.publics n p e) (Contains-In c (graph_edges placed.graph n) k)

  -- a public all of whose mentions are evaluated has its value
  pub public-valuation : (values : List Evaluation) → AreRight placed values → (n : ℕ) (p : Public) → slice_get m.names.publics n ≡ Some p
      → AreEvaluated values (graph_edges placed.graph n)
      → valuation_at placed values None p.value ≡ public_value placed p
  public-valuation values r n p e evaluated =
      valuation_at-is values None p.value (λ c k. known-at values None r c (evaluated c (mention-edge n c p e k)))

  -- and may be set to it
  pub set-right : (values : List Evaluation) → AreRight placed values → (n : ℕ) (p : Public) → slice_get m.names.publics n ≡ Some p
      → AreEvaluated values (graph_edges placed.graph n)
      → (evaluation : Evaluation) → known evaluation ≡ valuation_at placed values None p.value → AreRight placed (set values n evaluation)
  set-right values r n p e evaluated evaluation is = record {
    count = set-length values n evaluation ∙ r.count;
    right = λ k q found at f. by_place k q found at f (nat_choice k n);
  }
    where
      inside : n < length values
      inside = let less = slice_get_within m.names.publics n p e in let count = r.count in omega (arith, less, count)

      by_place : (k : ℕ) (q : Public) (found : Evaluation) → slice_get m.names.publics k ≡ Some q → slice_get (set values n evaluation) k ≡ Some found
          → (k ≡ n) ⊎ (k ≢ n) → IsRight (public_value placed q) found
      by_place k q found at f (inr other) = r.right k q found at (sym (set-other values n k evaluation other) ∙ f)
      by_place k q found at f (inl same) =
          let here : ◌≡◌ {A = Option Evaluation} (Some evaluation) (Some found) = sym (set-same values n evaluation inside)
          ∙ ap (slice_get (set values n evaluation)) (sym same) ∙ f in
          let its : evaluation ≡ found = cc in
          let own : ◌≡◌ {A = Option Public} (Some p) (Some q) = sym e ∙ ap (slice_get m.names.publics) (sym same) ∙ at in
          let public : p ≡ q = cc in
          known-right (public_value placed q) found (sym (ap known its) ∙ is ∙ public-valuation values r n p e evaluated ∙ ap (public_value placed) public)

  pub set-evaluated : (values : List Evaluation) (n : ℕ) (evaluation : Evaluation) → evaluation ≢ evaluations.Waiting → IsEvaluated (set values n evaluation) n
  set-evaluated values n evaluation other e =
      let inside : n < length (set values n evaluation) = slice_get_within (set values n evaluation) n evaluations.Waiting e in
      let same : ◌≡◌ {A = Option Evaluation} (Some evaluation) (Some evaluations.Waiting)
      = sym (set-same values n evaluation (omega (arith, inside, set-length values n evaluation))) ∙ e in
      other (some_same evaluation evaluations.Waiting same)

  pub set-kept : (values : List Evaluation) (n : ℕ) (evaluation : Evaluation) → evaluation ≢ evaluations.Waiting → AreKept values (set values n evaluation)
  set-kept values n evaluation other k before = by_place (nat_choice k n) where
    by_place : (k ≡ n) ⊎ (k ≢ n) → IsEvaluated (set values n evaluation) k
    by_place (inr apart) = λ e. before (sym (set-other values n k evaluation apart) ∙ e)
    by_place (inl same) = λ e. set-evaluated values n evaluation other (ap (slice_get (set values n evaluation)) (sym same) ∙ e)

-- ---- rounds

-- no chain of mentions from the expression has the given number of mentions or more
abbrev pub EndsBefore : Setting → ℕ → Sited → Tree → Type 0
EndsBefore s zero site t = ⊥
EndsBefore s (suc k) site t = EndsWithin s k site t

-- the publics whose chains end before are evaluated
abbrev pub HaveSettled : PlacedModule → List Evaluation → ℕ → Type 0
HaveSettled placed values k =
    (n : ℕ) (p : Public) → slice_get placed.graph.parts.now.names.publics n ≡ Some p
    → EndsBefore (setting_of placed) k (alone placed.graph.parts.now) p.value → IsEvaluated values n

-- before the first round nothing is asked
pub settled-first : (placed : PlacedModule) (values : List Evaluation) → HaveSettled placed values 0
settled-first placed values n p e ends = absurd ends

module _ (placed : PlacedModule) (h : IsPlaced placed) where
  pub settled-next : (k : ℕ) (before after : List Evaluation) → HaveSettled placed before k → IsRound placed before after → HaveSettled placed after (suc k)
  settled-next k before after settled round n p e ends = round n (slice_get_within (m placed h).names.publics n p e) (by_count k settled ends) where
    mentions : (c : ℕ) → Contains (graph_edges placed.graph n) c → (q : Public) × (slice_get (m placed h).names.publics c ≡ Some q)
        × IsMentionedIn (s placed h) (alone (m placed h)) p.value (sit (m placed h) q)
    mentions c k =
        let inner = edge-mention placed h n c p e k in
        let less = closed (m placed h) h.graph.valid n c (subst (λ (xs : List ℕ). Contains xs c) (edges-are placed h n) k) in
        let q = there_is (m placed h).names.publics c less in
        let v = edge-mentions (m placed h) (s placed h) (flat-alone (m placed h)) p.value c q.0 q.1 inner in
        (q.0, q.1, (v.0, In-Contains v.0 _ v.1, v.2))

    by_count : (k : ℕ) → HaveSettled placed before k → EndsWithin (s placed h) k (alone (m placed h)) p.value → AreEvaluated before (graph_edges placed.graph n)
    by_count zero settled ends = λ c k. let q = mentions c k in absurd (ends (sit (m placed h) q.0) q.2)
    by_count (suc j) settled ends = λ c k. let q = mentions c k in settled c q.0 q.1 (ends (sit (m placed h) q.0) q.2)

  -- after a round for each public, and one more, all are
  pub all-settled : (values : List Evaluation) → AreRight placed values → HaveSettled placed values (suc (length (m placed h).names.publics))
      → (n : ℕ) → IsEvaluated values n
  all-settled values r settled n e =
      let inside = slice_get_within values n evaluations.Waiting e in
      let count = r.count in
      let p = there_is (m placed h).names.publics n (omega (arith, inside, count)) in
      settled n p.0 p.1 (subst (λ k. EndsWithin (s placed h) k (alone (m placed h)) p.0.value) many (ends p.0.value)) e where
        many : length (s placed h).publics ≡ length (m placed h).names.publics
        many = ap (λ (qs : List SitedPublic). length qs) (flat-alone (m placed h)) ∙ length-map (m placed h).names.publics (sit (m placed h))

        ends : (t : Tree) → EndsWithin (s placed h) (length (s placed h).publics) (alone (m placed h)) t
        ends t =
            all_end (s placed h) (single_name (m placed h ∷ []) (once placed h))
            (λ name k f. no_cycle (m placed h) h.acyclic name (
              k,
              sym (leads_from-bases (m placed h ∷ []) (bases_by (m placed h) placed.bases.now placed.commons.now) name k
                  (first_named (flat_publics (m placed h ∷ [])) name)) ∙ f,
            ))
            (alone (m placed h)) t

-- ---- the values of all

module _ (f : Public → Option ℕ) where
  pub all-values : (publics : List Public) (all : List Evaluation) → length all ≡ length publics
      → ((n : ℕ) (p : Public) (evaluation : Evaluation) → slice_get publics n ≡ Some p → slice_get all n ≡ Some evaluation → known evaluation ≡ f p)
      → map known all ≡ map f publics
  all-values [] [] count same = refl
  all-values [] (e ∷ all) count same = absurd (omega (arith, count))
  all-values (p ∷ publics) [] count same = absurd (omega (arith, count))
  all-values (p ∷ publics) (e ∷ all) count same =
      let first = same 0 p e refl refl in
      let rest = all-values publics all (omega (arith, count)) (λ n q u at to. same (suc n) q u at to) in
      λ i. first i ∷ rest i

pub right-values : (placed : PlacedModule) (values : List Evaluation) → AreRight placed values → ((n : ℕ) → IsEvaluated values n) → AreValues placed values
right-values placed values r evaluated = record {
  values =
      all-values (public_value placed) placed.graph.parts.now.names.publics values r.count
      (λ n p evaluation at to. right-known (public_value placed p) evaluation (r.right n p evaluation at to) (λ waits. evaluated n (to ∙ ap Some waits)));
  evaluated = evaluated;
}

pub values-right : (placed : PlacedModule) (values : List Evaluation) → AreValues placed values → AreRight placed values
values-right placed values v = record {
  count =
      sym (length-map values known)
      ∙ ap (λ (os : List (Option ℕ)). length os) v.values
      ∙ length-map placed.graph.parts.now.names.publics (public_value placed);
  right = λ n p evaluation at to.
      let same : ◌≡◌ {A = Option (Option ℕ)} (Some (known evaluation)) (Some (public_value placed p))
      = sym (slice_get-map known values n ∙ ap (option_map known) to)
      ∙ ap (λ (os : List (Option ℕ)). slice_get os n) v.values
      ∙ slice_get-map (public_value placed) placed.graph.parts.now.names.publics n
      ∙ ap (option_map (public_value placed)) at in
      known-right (public_value placed p) evaluation (some_same (known evaluation) (public_value placed p) same);
}
