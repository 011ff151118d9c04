-- A search through a graph: what it marks is reached, and at its end the marks are left by no step.
use Rattle.std.proofs.Common.{◌≡◌, ℕ, zero, suc, ◌+◌, ◌<◌, ◌⊎◌, inl, inr, List, [], ◌∷◌, ◌++◌, length, get_or, set, replicate, Bool, true, false}
use Rattle.std.proofs.Common.{refl, sym, ◌∙◌, ap, subst, length-append, arith}
use Rattle.std.specs.Prelude.{Contains, if◌then◌else◌}
use Rattle.mufom_meaning.proofs.Members.{In, In-left, In-right, In-append, In-Contains, Contains-In}
use Rattle.mufom_image_values.specs.Graph.{IsClosed}
use Rattle.mufom_image_values.specs.Circles.{Leads, IsOnCircle, Search, search_of, is_marked, with_position, followed}
use Rattle.mufom_image_values.proofs.GraphLaws.{leads_on, no_return}

-- ---- marks

-- how many positions have no mark
abbrev pub unmarked : List Bool → ℕ
unmarked [] = 0
unmarked (true ∷ marks) = unmarked marks
unmarked (false ∷ marks) = suc (unmarked marks)

unmarked-set : (marks : List Bool) (n : ℕ) → n < length marks → get_or marks n false ≡ false → suc (unmarked (set marks n true)) ≡ unmarked marks
unmarked-set [] n less e = absurd (omega (arith, less))
unmarked-set (true ∷ marks) zero less e = absurd cc
unmarked-set (false ∷ marks) zero less e = refl
unmarked-set (true ∷ marks) (suc n) less e = unmarked-set marks n (omega (arith, less)) e
unmarked-set (false ∷ marks) (suc n) less e = ap suc (unmarked-set marks n (omega (arith, less)) e)

marked-here : (marks : List Bool) (n : ℕ) → n < length marks → get_or (set marks n true) n false ≡ true
marked-here [] n less = absurd (omega (arith, less))
marked-here (b ∷ marks) zero less = refl
marked-here (b ∷ marks) (suc n) less = marked-here marks n (omega (arith, less))

marked-still : (marks : List Bool) (n k : ℕ) → get_or marks k false ≡ true → get_or (set marks n true) k false ≡ true
marked-still [] n k e = e
marked-still (b ∷ marks) zero zero e = refl
marked-still (b ∷ marks) zero (suc k) e = e
marked-still (b ∷ marks) (suc n) zero e = e
marked-still (b ∷ marks) (suc n) (suc k) e = marked-still marks n k e

marked-only : (marks : List Bool) (n k : ℕ) → get_or (set marks n true) k false ≡ true → (get_or marks k false ≡ true) ⊎ (n ≡ k)
marked-only [] n k e = inl e
marked-only (b ∷ marks) zero zero e = inr refl
marked-only (b ∷ marks) zero (suc k) e = inl e
marked-only (b ∷ marks) (suc n) zero e = inl e
marked-only (b ∷ marks) (suc n) (suc k) e = by_case (marked-only marks n k e) where
  by_case : (get_or marks k false ≡ true) ⊎ (n ≡ k) → (get_or marks k false ≡ true) ⊎ (suc n ≡ suc k)
  by_case (inl h) = inl h
  by_case (inr h) = inr (ap suc h)

pub set-marks : (marks : List Bool) (n : ℕ) → length (set marks n true) ≡ length marks
set-marks [] n = refl
set-marks (b ∷ marks) zero = refl
set-marks (b ∷ marks) (suc n) = ap suc (set-marks marks n)

-- no position is marked at first
pub fresh-marks : (n k : ℕ) → get_or (replicate n false) k false ≡ true → ⊥
fresh-marks zero k e = absurd cc
fresh-marks (suc n) zero e = absurd cc
fresh-marks (suc n) (suc k) e = fresh-marks n k e

-- a mark that is there is the same by each default
pub mark-there : (marks : List Bool) (n : ℕ) (b : Bool) → n < length marks → get_or marks n b ≡ get_or marks n false
mark-there [] n b less = absurd (omega (arith, less))
mark-there (m ∷ marks) zero b less = refl
mark-there (m ∷ marks) (suc n) b less = mark-there marks n b (omega (arith, less))

-- ---- one position more

-- what holds after a position that is marked already, and after one that was not
step_cases : (P : Search → Type 0) (s : Search) (n : ℕ) → (is_marked s n ≡ true → P s)
    → (is_marked s n ≡ false → P (search_of (set s.marks n true) (s.pending ++ n ∷ []))) → P (with_position s n)
step_cases P s n same more = by_case (is_marked s n) refl where
  by_case : (b : Bool) → is_marked s n ≡ b → P (if b then s else search_of (set s.marks n true) (s.pending ++ n ∷ []))
  by_case true e = same e
  by_case false e = more e

step-length : (s : Search) (n : ℕ) → length (with_position s n).marks ≡ length s.marks
step-length s n = step_cases (λ t. length t.marks ≡ length s.marks) s n (λ e. refl) (λ e. set-marks s.marks n)

step-keeps : (s : Search) (n k : ℕ) → is_marked s k ≡ true → is_marked (with_position s n) k ≡ true
step-keeps s n k h = step_cases (λ t. is_marked t k ≡ true) s n (λ e. h) (λ e. marked-still s.marks n k h)

step-marks : (s : Search) (n : ℕ) → n < length s.marks → is_marked (with_position s n) n ≡ true
step-marks s n less = step_cases (λ t. is_marked t n ≡ true) s n (λ e. e) (λ e. marked-here s.marks n less)

step-only : (s : Search) (n k : ℕ) → is_marked (with_position s n) k ≡ true → (is_marked s k ≡ true) ⊎ (n ≡ k)
step-only s n k = step_cases (λ t. is_marked t k ≡ true → (is_marked s k ≡ true) ⊎ (n ≡ k)) s n (λ e h. inl h) (λ e h. marked-only s.marks n k h)

step-pending : (s : Search) (n k : ℕ) → In k s.pending → In k (with_position s n).pending
step-pending s n k h = step_cases (λ t. In k t.pending) s n (λ e. h) (λ e. In-left k s.pending (n ∷ []) h)

step-new : (s : Search) (n k : ℕ) → is_marked (with_position s n) k ≡ true → (is_marked s k ≡ true) ⊎ In k (with_position s n).pending
step-new s n k = step_cases (λ t. is_marked t k ≡ true → (is_marked s k ≡ true)
    ⊎ In k t.pending) s n (λ e h. inl h) (λ e h. by_case (marked-only s.marks n k h)) where
      by_case : (is_marked s k ≡ true) ⊎ (n ≡ k) → (is_marked s k ≡ true) ⊎ In k (s.pending ++ n ∷ [])
      by_case (inl h) = inl h
      by_case (inr same) = inr (In-right k s.pending (n ∷ []) (inl same))

step-from : (s : Search) (n k : ℕ) → In k (with_position s n).pending → In k s.pending ⊎ (n ≡ k)
step-from s n k = step_cases (λ t. In k t.pending → In k s.pending ⊎ (n ≡ k)) s n (λ e h. inl h) (λ e h. by_case (In-append k s.pending (n ∷ []) h)) where
  by_case : In k s.pending ⊎ In k (n ∷ []) → In k s.pending ⊎ (n ≡ k)
  by_case (inl h) = inl h
  by_case (inr (inl same)) = inr same
  by_case (inr (inr h)) = absurd h

-- what is left to do: the positions without a mark, and those still to be followed
abbrev pub left : Search → ℕ
left s = unmarked s.marks + length s.pending

step-left : (s : Search) (n : ℕ) → n < length s.marks → left (with_position s n) ≡ left s
step-left s n less = step_cases (λ t. left t ≡ left s) s n (λ e. refl)
    (λ e. omega (arith, unmarked-set s.marks n less e, length-append s.pending (n ∷ [])))

-- ---- some positions more

pub followed-length : (ps : List ℕ) (s : Search) → length (followed ps s).marks ≡ length s.marks
followed-length [] s = refl
followed-length (p ∷ ps) s = followed-length ps (with_position s p) ∙ step-length s p

pub followed-keeps : (ps : List ℕ) (s : Search) (k : ℕ) → is_marked s k ≡ true → is_marked (followed ps s) k ≡ true
followed-keeps [] s k h = h
followed-keeps (p ∷ ps) s k h = followed-keeps ps (with_position s p) k (step-keeps s p k h)

pub followed-marks : (ps : List ℕ) (s : Search) → ((p : ℕ) → In p ps → p < length s.marks) → (k : ℕ) → In k ps → is_marked (followed ps s) k ≡ true
followed-marks [] s within k h = absurd h
followed-marks (p ∷ ps) s within k (inl same) = followed-keeps ps (with_position s p) k
    (subst (λ n. is_marked (with_position s p) n ≡ true) same (step-marks s p (within p (inl refl))))
followed-marks (p ∷ ps) s within k (inr h) =
    followed-marks ps (with_position s p) (λ q i. let less = within q (inr i) in omega (arith, less, step-length s p)) k h

pub followed-only : (ps : List ℕ) (s : Search) (k : ℕ) → is_marked (followed ps s) k ≡ true → (is_marked s k ≡ true) ⊎ In k ps
followed-only [] s k h = inl h
followed-only (p ∷ ps) s k h = by_case (followed-only ps (with_position s p) k h) where
  by_step : (is_marked s k ≡ true) ⊎ (p ≡ k) → (is_marked s k ≡ true) ⊎ In k (p ∷ ps)
  by_step (inl e) = inl e
  by_step (inr same) = inr (inl same)

  by_case : (is_marked (with_position s p) k ≡ true) ⊎ In k ps → (is_marked s k ≡ true) ⊎ In k (p ∷ ps)
  by_case (inl e) = by_step (step-only s p k e)
  by_case (inr i) = inr (inr i)

pub followed-pending : (ps : List ℕ) (s : Search) (k : ℕ) → In k s.pending → In k (followed ps s).pending
followed-pending [] s k h = h
followed-pending (p ∷ ps) s k h = followed-pending ps (with_position s p) k (step-pending s p k h)

pub followed-new : (ps : List ℕ) (s : Search) (k : ℕ) → is_marked (followed ps s) k ≡ true → (is_marked s k ≡ true) ⊎ In k (followed ps s).pending
followed-new [] s k h = inl h
followed-new (p ∷ ps) s k h = by_case (followed-new ps (with_position s p) k h) where
  by_step : (is_marked s k ≡ true) ⊎ In k (with_position s p).pending → (is_marked s k ≡ true) ⊎ In k (followed (p ∷ ps) s).pending
  by_step (inl e) = inl e
  by_step (inr i) = inr (followed-pending ps (with_position s p) k i)

  by_case : (is_marked (with_position s p) k ≡ true) ⊎ In k (followed ps (with_position s p)).pending → (is_marked s k ≡ true)
      ⊎ In k (followed (p ∷ ps) s).pending
  by_case (inl e) = by_step (step-new s p k e)
  by_case (inr i) = inr i

pub followed-from : (ps : List ℕ) (s : Search) (k : ℕ) → In k (followed ps s).pending → In k s.pending ⊎ In k ps
followed-from [] s k h = inl h
followed-from (p ∷ ps) s k h = by_case (followed-from ps (with_position s p) k h) where
  by_step : In k s.pending ⊎ (p ≡ k) → In k s.pending ⊎ In k (p ∷ ps)
  by_step (inl i) = inl i
  by_step (inr same) = inr (inl same)

  by_case : In k (with_position s p).pending ⊎ In k ps → In k s.pending ⊎ In k (p ∷ ps)
  by_case (inl i) = by_step (step-from s p k i)
  by_case (inr i) = inr (inr i)

pub followed-left : (ps : List ℕ) (s : Search) → ((p : ℕ) → In p ps → p < length s.marks) → left (followed ps s) ≡ left s
followed-left [] s within = refl
followed-left (p ∷ ps) s within =
    followed-left ps (with_position s p) (λ q i. let less = within q (inr i) in omega (arith, less, step-length s p)) ∙ step-left s p (within p (inl refl))

pub followed-append : (ps qs : List ℕ) (s : Search) → followed (ps ++ qs) s ≡ followed qs (followed ps s)
followed-append [] qs s = refl
followed-append (p ∷ ps) qs s = followed-append ps qs (with_position s p)

-- ---- the search from a position

module _ (edges : ℕ → List ℕ) (count origin : ℕ) where
  -- What a search knows: what is marked is reached, and all that it leads to is marked too, unless it is still to be followed.
  pub record IsSearching (s : Search) : Type 0 where
    pub size : length s.marks ≡ count
    pub below : (k : ℕ) → In k s.pending → k < count
    pub reached : (k : ℕ) → is_marked s k ≡ true → (j : ℕ) × Leads edges j origin k
    pub first : (k : ℕ) → Contains (edges origin) k → is_marked s k ≡ true
    pub out : (n : ℕ) → is_marked s n ≡ true → In n s.pending ⊎ ((k : ℕ) → Contains (edges n) k → is_marked s k ≡ true)
    pub pending : (n : ℕ) → In n s.pending → is_marked s n ≡ true

module _ (edges : ℕ → List ℕ) (count : ℕ) (closed : IsClosed edges count) (origin : ℕ) where
  within : (n : ℕ) (s : Search) → length s.marks ≡ count → (p : ℕ) → In p (edges n) → p < length s.marks
  within n s size p i = let less = closed n p (In-Contains p (edges n) i) in omega (arith, less, size)

  -- it begins with what the origin leads to
  pub begins : (s : Search) → length s.marks ≡ count → ((k : ℕ) → is_marked s k ≡ true → ⊥) → s.pending ≡ []
      → IsSearching edges count origin (followed (edges origin) s)
  begins s size fresh empty = record {
    size = followed-length (edges origin) s ∙ size;
    below = λ k i. from_edges k (followed-from (edges origin) s k i);
    reached = λ k e. (0, In-Contains k (edges origin) (new k (followed-only (edges origin) s k e)));
    first = λ k h. followed-marks (edges origin) s (within origin s size) k (Contains-In k (edges origin) h);
    out = λ n e. inl (found n (followed-new (edges origin) s n e));
    pending = λ n i. marks n (followed-from (edges origin) s n i);
  }
    where
      none : (k : ℕ) → In k s.pending → ⊥
      none k i = subst (λ (xs : List ℕ). In k xs) empty i

      from_edges : (k : ℕ) → In k s.pending ⊎ In k (edges origin) → k < count
      from_edges k (inl i) = absurd (none k i)
      from_edges k (inr i) = closed origin k (In-Contains k (edges origin) i)

      new : (k : ℕ) → (is_marked s k ≡ true) ⊎ In k (edges origin) → In k (edges origin)
      new k (inl e) = absurd (fresh k e)
      new k (inr i) = i

      found : (n : ℕ) → (is_marked s n ≡ true) ⊎ In n (followed (edges origin) s).pending → In n (followed (edges origin) s).pending
      found n (inl e) = absurd (fresh n e)
      found n (inr i) = i

      marks : (n : ℕ) → In n s.pending ⊎ In n (edges origin) → is_marked (followed (edges origin) s) n ≡ true
      marks n (inl i) = absurd (none n i)
      marks n (inr i) = followed-marks (edges origin) s (within origin s size) n i

  -- it goes on with a position that is still to be followed
  pub searches_on : (marks : List Bool) (rest : List ℕ) (n : ℕ) → IsSearching edges count origin (search_of marks (rest ++ n ∷ []))
      → IsSearching edges count origin (followed (edges n) (search_of marks rest))
  searches_on marks rest n h = record {
    size = followed-length (edges n) t ∙ h.size;
    below = λ k i. from_edges k (followed-from (edges n) t k i);
    reached = λ k e. by_reach k (followed-only (edges n) t k e);
    first = λ k c. followed-keeps (edges n) t k (h.first k c);
    out = λ k e. leaves k (followed-new (edges n) t k e);
    pending = λ k i. marked k (followed-from (edges n) t k i);
  }
    where
      t : Search
      t = search_of marks rest

      own : is_marked t n ≡ true
      own = h.pending n (In-right n rest (n ∷ []) (inl refl))

      from_edges : (k : ℕ) → In k rest ⊎ In k (edges n) → k < count
      from_edges k (inl i) = h.below k (In-left k rest (n ∷ []) i)
      from_edges k (inr i) = closed n k (In-Contains k (edges n) i)

      by_reach : (k : ℕ) → (is_marked t k ≡ true) ⊎ In k (edges n) → (j : ℕ) × Leads edges j origin k
      by_reach k (inl e) = h.reached k e
      by_reach k (inr i) = let there = h.reached n own in (suc there.0, leads_on edges there.0 origin n k there.1 (In-Contains k (edges n) i))

      all : (k : ℕ) → Contains (edges n) k → is_marked (followed (edges n) t) k ≡ true
      all k c = followed-marks (edges n) t (within n t h.size) k (Contains-In k (edges n) c)

      by_place : (k : ℕ) → In k rest ⊎ In k (n ∷ []) → In k (followed (edges n) t).pending
          ⊎ ((c : ℕ) → Contains (edges k) c → is_marked (followed (edges n) t) c ≡ true)
      by_place k (inl i) = inl (followed-pending (edges n) t k i)
      by_place k (inr (inl same)) = inr (subst (λ n'. (c : ℕ) → Contains (edges n') c → is_marked (followed (edges n) t) c ≡ true) same all)
      by_place k (inr (inr i)) = absurd i

      earlier : (k : ℕ) → In k (rest ++ n ∷ []) ⊎ ((c : ℕ) → Contains (edges k) c → is_marked t c ≡ true)
          → In k (followed (edges n) t).pending ⊎ ((c : ℕ) → Contains (edges k) c → is_marked (followed (edges n) t) c ≡ true)
      earlier k (inl i) = by_place k (In-append k rest (n ∷ []) i)
      earlier k (inr known) = inr (λ c m. followed-keeps (edges n) t c (known c m))

      leaves : (k : ℕ) → (is_marked t k ≡ true) ⊎ In k (followed (edges n) t).pending
          → In k (followed (edges n) t).pending ⊎ ((c : ℕ) → Contains (edges k) c → is_marked (followed (edges n) t) c ≡ true)
      leaves k (inl e) = earlier k (h.out k e)
      leaves k (inr i) = inl i

      marked : (k : ℕ) → In k rest ⊎ In k (edges n) → is_marked (followed (edges n) t) k ≡ true
      marked k (inl i) = followed-keeps (edges n) t k (h.pending k (In-left k rest (n ∷ []) i))
      marked k (inr i) = followed-marks (edges n) t (within n t h.size) k i

  -- with less left to do
  pub searches_less : (marks : List Bool) (rest : List ℕ) (n : ℕ) → IsSearching edges count origin (search_of marks (rest ++ n ∷ []))
      → left (followed (edges n) (search_of marks rest)) < left (search_of marks (rest ++ n ∷ []))
  searches_less marks rest n h = omega (
    arith,
    followed-left (edges n) (search_of marks rest) (within n (search_of marks rest) h.size),
    length-append rest (n ∷ []),
  )

  -- at its end the origin is marked exactly if it is led back to
  pub ends_search : (s : Search) → IsSearching edges count origin s → s.pending ≡ [] → (is_marked s origin ≡ true → IsOnCircle edges origin)
      × (IsOnCircle edges origin → is_marked s origin ≡ true)
  ends_search s h empty = (h.reached origin, λ circle. by_mark (is_marked s origin) refl circle) where
    stays : (a b : ℕ) → is_marked s a ≡ true → Contains (edges a) b → is_marked s b ≡ true
    stays a b e c = by_case (h.out a e) where
      by_case : In a s.pending ⊎ ((k : ℕ) → Contains (edges a) k → is_marked s k ≡ true) → is_marked s b ≡ true
      by_case (inl i) = absurd (subst (λ (xs : List ℕ). In a xs) empty i)
      by_case (inr out) = out b c

    by_mark : (b : Bool) → is_marked s origin ≡ b → IsOnCircle edges origin → b ≡ true
    by_mark true e circle = refl
    by_mark false e circle = absurd (no_return edges (λ k. is_marked s k ≡ true) stays origin h.first (λ t. unlike t) circle) where
      unlike : is_marked s origin ≡ true → ⊥
      unlike t = absurd (let clash : true ≡ false = sym t ∙ e in cc)
