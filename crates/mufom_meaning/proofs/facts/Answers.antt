-- What is returned in place of a link or a location is a fact, and facts are returned.
use Rattle.std.proofs.Common.{◌||◌, ◌≡◌, ℕ, zero, suc, ◌<◌, ◌⊎◌, inl, inr, List, [], ◌∷◌, length, Option, Some, None, Bool, true, false, not, ◌&&◌}
use Rattle.std.proofs.Common.{refl, sym, ◌∙◌, ap, cond, arith, rules}
use Rattle.std.specs.Prelude.{slice_get, find, option_map, ◌==◌, if◌then◌else◌}
use Rattle.std.specs.Str.{bytes_eq}
use Rattle.std.proofs.lemmas.Slice.Eq.{bytes_eq-Decides}
use Rattle.mufom_expr.specs.Tree.{Tree}
use Rattle.mufom_module.specs.declared.module.Order.{Order}
use Rattle.mufom_module.specs.declared.module.Order.TheVariants.{Least, Most}
use Rattle.mufom_module.specs.declared.module.Parts.{Parts}
use Rattle.mufom_plan.specs.Names.{has_name}
use Rattle.mufom_place.specs.Facts.{◌or_else◌, first_some}
use Rattle.mufom_meaning.specs.Flat.{public_names, flat_starts}
use Rattle.mufom_meaning.specs.Facts.{descriptor, Descriptor, LinkFact, mismatch, duplicate, duplicate_start}
use Rattle.mufom_meaning.specs.Stands.{StandsIn, LinkFactStands}
use Rattle.mufom_meaning.specs.LinkAnswer.{same_order, same_descriptor, first_mismatch, first_duplicate, two_starts, link_answer}
use Rattle.mufom_numbers.proofs.Choices.{mapped_some, mapped_none}

-- a choice that gives something gives the first, or the first is none and it gives the second
pub or_else_some : {A : Type 0} (o u : Option A) (x : A) → o or_else u ≡ Some x → (o ≡ Some x) ⊎ ((o ≡ None) × (u ≡ Some x))
or_else_some None u x e = inr (refl, e)
or_else_some (Some y) u x e = inl e

pub or_else_none : {A : Type 0} (o u : Option A) → o or_else u ≡ None → (o ≡ None) × (u ≡ None)
or_else_none None u e = (refl, e)
or_else_none (Some y) u e = absurd cc

pub first_some_at : {A B : Type 0} (f : A → Option B) (xs : List A) (b : B) → first_some f xs ≡ Some b → (x : A) × StandsIn x xs × (f x ≡ Some b)
first_some_at f [] b e = absurd cc
first_some_at {A} {B} f (x ∷ xs) b e = by_case (or_else_some (f x) (first_some f xs) b e) (λ h. first_some_at f xs b h) where
  by_case : (f x ≡ Some b) ⊎ ((f x ≡ None) × (first_some f xs ≡ Some b)) → (first_some f xs ≡ Some b → (y : A) × StandsIn y xs × (f y ≡ Some b))
      → (y : A) × StandsIn y (x ∷ xs) × (f y ≡ Some b)
  by_case (inl h) later = (x, (0, refl), h)
  by_case (inr h) later = let found = later h.1 in (found.0, (suc found.1.0, found.1.1), found.2)

pub first_some_none : {A B : Type 0} (f : A → Option B) (xs : List A) → first_some f xs ≡ None → (x : A) (i : ℕ) → slice_get xs i ≡ Some x → f x ≡ None
first_some_none f [] e x i h = absurd cc
first_some_none f (y ∷ ys) e x zero h = let same : y ≡ x = cc in ap f (sym same) ∙ (or_else_none (f y) (first_some f ys) e).0
first_some_none f (y ∷ ys) e x (suc i) h = first_some_none f ys (or_else_none (f y) (first_some f ys) e).1 x i h

-- Links.

same_order-decides : (o p : Order) → (same_order o p ≡ true → o ≡ p) × (o ≡ p → same_order o p ≡ true)
same_order-decides Least Least = (λ e. refl, λ e. refl)
same_order-decides Most Most = (λ e. refl, λ e. refl)
same_order-decides Least Most = (λ e. cc, λ e. cc)
same_order-decides Most Least = (λ e. cc, λ e. cc)

pub numbers : (m n : ℕ) → ((m == n) ≡ true → m ≡ n) × (m ≡ n → (m == n) ≡ true)
numbers m n = ((λ e. search rules), (λ e. search rules))

pub both : (a b : Bool) → (a && b) ≡ true → (a ≡ true) × (b ≡ true)
both true b e = (refl, e)
both false b e = absurd cc

same_descriptor-there : (m n : Parts) → same_descriptor m n ≡ true → descriptor m ≡ descriptor n
same_descriptor-there m n e =
    let two = both (m.maus == n.maus) (same_order m.order n.order) e in
    let a = (numbers m.maus n.maus).0 two.0 in let b = (same_order-decides m.order n.order).0 two.1 in λ i. (a i, b i)

same_descriptor-back : (m n : Parts) → descriptor m ≡ descriptor n → same_descriptor m n ≡ true
same_descriptor-back m n e =
    ap (λ b. b && same_order m.order n.order) ((numbers m.maus n.maus).1 (ap (λ (d : Descriptor). d.0) e))
    ∙ (same_order-decides m.order n.order).1 (ap (λ (d : Descriptor). d.1) e)

pub find_at : {A : Type 0} (p : A → Bool) (xs : List A) (x : A) → find p xs ≡ Some x → StandsIn x xs × (p x ≡ true)
find_at p [] x e = absurd cc
find_at p (y ∷ ys) x e = by_case (p y) refl e (find_at p ys x) where
  by_case : (b : Bool) → p y ≡ b → cond b (Some y) (find p ys) ≡ Some x → (find p ys ≡ Some x → StandsIn x ys × (p x ≡ true)) → StandsIn x (y ∷ ys)
      × (p x ≡ true)
  by_case true h e later = let same : y ≡ x = cc in ((0, e), ap p (sym same) ∙ h)
  by_case false h e later = let found = later e in ((suc found.0.0, found.0.1), found.1)

pub find_none : {A : Type 0} (p : A → Bool) (xs : List A) → find p xs ≡ None → (x : A) (i : ℕ) → slice_get xs i ≡ Some x → p x ≡ false
find_none p [] e x i h = absurd cc
find_none p (y ∷ ys) e x i h = by_case (p y) refl e i h (find_none p ys) where
  by_case : (b : Bool) → p y ≡ b → cond b (Some y) (find p ys) ≡ None → (i : ℕ) → slice_get (y ∷ ys) i ≡ Some x
      → (find p ys ≡ None → (z : _) (k : ℕ) → slice_get ys k ≡ Some z → p z ≡ false) → p x ≡ false
  by_case true f e i h later = absurd cc
  by_case false f e zero h later = let same : y ≡ x = cc in ap p (sym same) ∙ f
  by_case false f e (suc i) h later = later e x i h

pub untrue : (b : Bool) → not b ≡ true → b ≡ false
untrue true e = absurd cc
untrue false e = refl

pub not_false : (b : Bool) → not b ≡ false → b ≡ true
not_false true e = refl
not_false false e = absurd cc

mismatch_sound : (ms : List Parts) (fact : LinkFact) → first_mismatch ms ≡ Some fact → LinkFactStands ms fact
mismatch_sound [] fact e = absurd cc
mismatch_sound (m ∷ ms) fact e = stands fact (mapped_some (λ other. mismatch (descriptor m) (descriptor other))
    (find (λ other. not (same_descriptor m other)) ms) fact e) where
      stands : (fact : LinkFact) → (n : Parts) × (find (λ other. not (same_descriptor m other)) ms ≡ Some n)
          × (mismatch (descriptor m) (descriptor n) ≡ fact) → LinkFactStands (m ∷ ms) fact
      stands (mismatch d f) found =
          let there = find_at (λ other. not (same_descriptor m other)) ms found.0 found.1 in
          let differ : same_descriptor m found.0 ≡ false = untrue (same_descriptor m found.0) there.1 in
          let own : descriptor m ≡ d = cc in let others : descriptor found.0 ≡ f = cc in (
            m,
            found.0,
            (0, refl),
            (suc there.0.0, there.0.1),
            own,
            others,
            λ same. let equal : same_descriptor m found.0 ≡ true = same_descriptor-back m found.0 (own ∙ same ∙ sym others) in cc,
          )
      stands (duplicate s) found = absurd cc
      stands duplicate_start found = absurd cc

mismatch_complete : (ms : List Parts) → first_mismatch ms ≡ None → (d e : Descriptor) → ¬ LinkFactStands ms (mismatch d e)
mismatch_complete [] h d e f = absurd (let at = f.2.1 in cc)
mismatch_complete (m ∷ ms) h d e f =
    let none : find (λ other. not (same_descriptor m other)) ms ≡ None = mapped_none (λ other. mismatch (descriptor m) (descriptor other)) _ h in
    let like_first : (n : Parts) (i : ℕ) → slice_get (m ∷ ms) i ≡ Some n → descriptor m ≡ descriptor n = λ n i at. first_is m ms none n i at in
    f.6 (sym f.4 ∙ sym (like_first f.0 f.2.0 f.2.1) ∙ like_first f.1 f.3.0 f.3.1 ∙ f.5) where
      first_is : (m : Parts) (ms : List Parts) → find (λ other. not (same_descriptor m other)) ms ≡ None → (n : Parts) (i : ℕ) → slice_get (m ∷ ms) i
          ≡ Some n → descriptor m ≡ descriptor n
      first_is m ms none n zero at = let same : m ≡ n = cc in ap descriptor same
      first_is m ms none n (suc i) at = same_descriptor-there m n
          (not_false (same_descriptor m n) (find_none (λ other. not (same_descriptor m other)) ms none n i at))

-- a name that is among the names before, or earlier among these
abbrev StandsEarlier : List (List ℕ) → List (List ℕ) → List ℕ → ℕ → Type 0
StandsEarlier before names s j = (has_name before s ≡ true) ⊎ ((i : ℕ) × (i < j) × (slice_get names i ≡ Some s))

has_name-cons : (x : List ℕ) (xs : List (List ℕ)) (s : List ℕ) → has_name (x ∷ xs) s ≡ true → (x ≡ s) ⊎ (has_name xs s ≡ true)
has_name-cons x xs s h = by_case (bytes_eq s x) refl h where
  by_case : (b : Bool) → bytes_eq s x ≡ b → (b || has_name xs s) ≡ true → (x ≡ s) ⊎ (has_name xs s ≡ true)
  by_case true e h = inl (sym ((bytes_eq-Decides s x).0 e))
  by_case false e h = inr h

duplicate_at : (before names : List (List ℕ)) (s : List ℕ) → first_duplicate before names ≡ Some s → (j : ℕ) × (slice_get names j ≡ Some s)
    × StandsEarlier before names s j
duplicate_at before [] s e = absurd cc
duplicate_at before (name ∷ names) s e = by_case (has_name before name) refl e (duplicate_at (name ∷ before) names s) where
  by_case : (b : Bool) → has_name before name ≡ b → (if b then Some name else first_duplicate (name ∷ before) names) ≡ Some s
      → (first_duplicate (name ∷ before) names ≡ Some s → (j : ℕ) × (slice_get names j ≡ Some s) × StandsEarlier (name ∷ before) names s j)
      → (j : ℕ) × (slice_get (name ∷ names) j ≡ Some s) × StandsEarlier before (name ∷ names) s j
  by_case true h e later = let same : name ≡ s = cc in (0, e, inl (ap (has_name before) (sym same) ∙ h))
  by_case false h e later = let found = later e in (suc found.0, found.1, earlier found.0 found.2) where
    earlier : (j : ℕ) → StandsEarlier (name ∷ before) names s j → StandsEarlier before (name ∷ names) s (suc j)
    earlier j (inl h) = among (has_name-cons name before s h) where
      among : (name ≡ s) ⊎ (has_name before s ≡ true) → StandsEarlier before (name ∷ names) s (suc j)
      among (inl same) = let less : 0 < suc j = omega arith in inr (0, less, ap Some same)
      among (inr h) = inl h
    earlier j (inr h) = let less : suc h.0 < suc j = omega (arith, h.1) in inr (suc h.0, less, h.2)

has_name-head : (x : List ℕ) (xs : List (List ℕ)) → has_name (x ∷ xs) x ≡ true
has_name-head x xs = ap (λ b. b || has_name xs x) ((bytes_eq-Decides x x).1 refl)

has_name-tail : (x : List ℕ) (xs : List (List ℕ)) (s : List ℕ) → has_name (x ∷ xs) s ≡ false → has_name xs s ≡ false
has_name-tail x xs s h = by_case (bytes_eq s x) h where
  by_case : (b : Bool) → (b || has_name xs s) ≡ false → has_name xs s ≡ false
  by_case true e = absurd cc
  by_case false e = e

no_duplicate : (before names : List (List ℕ)) → first_duplicate before names ≡ None → (s : List ℕ) (j : ℕ) → slice_get names j ≡ Some s
    → has_name before s ≡ false
no_duplicate before [] e s j h = absurd cc
no_duplicate before (name ∷ names) e s j h = by_case (has_name before name) refl e j h (no_duplicate (name ∷ before) names) where
  by_case : (b : Bool) → has_name before name ≡ b → (if b then Some name else first_duplicate (name ∷ before) names) ≡ None → (j : ℕ)
      → slice_get (name ∷ names) j ≡ Some s
      → (first_duplicate (name ∷ before) names ≡ None → (t : List ℕ) (k : ℕ) → slice_get names k ≡ Some t → has_name (name ∷ before) t ≡ false)
      → has_name before s ≡ false
  by_case true f e j h later = absurd cc
  by_case false f e zero h later = let same : name ≡ s = cc in ap (has_name before) (sym same) ∙ f
  by_case false f e (suc j) h later = has_name-tail name before s (later e s j h)

pub distinct_places : (before names : List (List ℕ)) → first_duplicate before names ≡ None → (s : List ℕ) (i j : ℕ) → i < j → slice_get names i
    ≡ Some s → slice_get names j ≡ Some s → ⊥
distinct_places before [] e s i j less a b = cc
distinct_places before (name ∷ names) e s i zero less a b = omega arith
distinct_places before (name ∷ names) e s zero (suc j) less a b = by_case (has_name before name) e (no_duplicate (name ∷ before) names) where
  by_case : (b : Bool) → (if b then Some name else first_duplicate (name ∷ before) names) ≡ None
      → (first_duplicate (name ∷ before) names ≡ None → (t : List ℕ) (k : ℕ) → slice_get names k ≡ Some t → has_name (name ∷ before) t ≡ false) → ⊥
  by_case true e later = cc
  by_case false e later =
      let same : name ≡ s = cc in let none = later e s j b in let there : has_name (name ∷ before) s ≡ true = ap (has_name (name ∷ before)) (sym same)
      ∙ has_name-head name before in cc
distinct_places before (name ∷ names) e s (suc i) (suc j) less a b = by_case (has_name before name) e (distinct_places (name ∷ before) names) where
  by_case : (b : Bool) → (if b then Some name else first_duplicate (name ∷ before) names) ≡ None
      → (first_duplicate (name ∷ before) names ≡ None → (t : List ℕ) (k l : ℕ) → k < l → slice_get names k ≡ Some t → slice_get names l ≡ Some t → ⊥) → ⊥
  by_case true e later = cc
  by_case false e later = let smaller : i < j = omega (arith, less) in later e s i j smaller a b

starts_sound : (ts : List Tree) (fact : LinkFact) → two_starts ts ≡ Some fact → (fact ≡ duplicate_start) × (1 < length ts)
starts_sound [] fact e = absurd cc
starts_sound (x ∷ []) fact e = absurd cc
starts_sound (x ∷ y ∷ ts) fact e = let two : 1 < suc (suc (length ts)) = omega arith in (cc, two)

starts_complete : (ts : List Tree) → two_starts ts ≡ None → 1 < length ts → ⊥
starts_complete [] e h = omega arith
starts_complete (x ∷ []) e h = omega arith
starts_complete (x ∷ y ∷ ts) e h = cc

-- what is returned in place of a link holds
pub link_sound : (ms : List Parts) (fact : LinkFact) → link_answer ms ≡ Some fact → LinkFactStands ms fact
link_sound ms fact e = first (or_else_some (first_mismatch ms) _ fact e) where
  starts : (fact : LinkFact) → two_starts (flat_starts ms) ≡ Some fact → LinkFactStands ms fact
  starts (mismatch d f) h = absurd (let same = (starts_sound (flat_starts ms) (mismatch d f) h).0 in cc)
  starts (duplicate s) h = absurd (let same = (starts_sound (flat_starts ms) (duplicate s) h).0 in cc)
  starts duplicate_start h = (starts_sound (flat_starts ms) duplicate_start h).1

  names : (fact : LinkFact) → (s : List ℕ) × (first_duplicate [] (public_names ms) ≡ Some s) × (duplicate s ≡ fact) → LinkFactStands ms fact
  names (mismatch d f) h = absurd (let same = h.2 in cc)
  names duplicate_start h = absurd (let same = h.2 in cc)
  names (duplicate s) h =
      let same : h.0 ≡ s = cc in
      let found = duplicate_at [] (public_names ms) s (h.1 ∙ ap Some same) in
      earlier found.0 found.1 found.2 where
        earlier : (j : ℕ) → slice_get (public_names ms) j ≡ Some s → StandsEarlier [] (public_names ms) s j → LinkFactStands ms (duplicate s)
        earlier j at (inl none) = absurd cc
        earlier j at (inr h) = (j, at, (h.0, s, h.1, h.2, at))

  second : (option_map duplicate (first_duplicate [] (public_names ms)) ≡ Some fact)
      ⊎ ((option_map duplicate (first_duplicate [] (public_names ms)) ≡ None) × (two_starts (flat_starts ms) ≡ Some fact)) → LinkFactStands ms fact
  second (inl h) = names fact (mapped_some duplicate (first_duplicate [] (public_names ms)) fact h)
  second (inr h) = starts fact h.1

  first : (first_mismatch ms ≡ Some fact) ⊎ ((first_mismatch ms ≡ None)
      × ((option_map duplicate (first_duplicate [] (public_names ms)) or_else two_starts (flat_starts ms)) ≡ Some fact)) → LinkFactStands ms fact
  first (inl h) = mismatch_sound ms fact h
  first (inr h) = second (or_else_some _ _ fact h.1)

-- if nothing is returned in place of a link, no link fact holds
pub link_complete : (ms : List Parts) → link_answer ms ≡ None → (fact : LinkFact) → ¬ LinkFactStands ms fact
link_complete ms e (mismatch d f) h = mismatch_complete ms (or_else_none (first_mismatch ms) _ e).0 d f h
link_complete ms e (duplicate s) h =
    let none = mapped_none duplicate (first_duplicate [] (public_names ms)) (or_else_none _ _ (or_else_none (first_mismatch ms) _ e).1).0 in
    distinct_places [] (public_names ms) none h.2.1 h.2.0 h.0 h.2.2 h.2.3 h.2.4
link_complete ms e duplicate_start h = starts_complete (flat_starts ms) (or_else_none _ _ (or_else_none (first_mismatch ms) _ e).1).1 h
