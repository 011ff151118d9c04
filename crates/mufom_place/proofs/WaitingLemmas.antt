-- The sections that wait at the entries, section by section.
use Rattle.std.proofs.Common.{◌≡◌, ◌≢◌, ℕ, zero, suc, ◌<◌, List, [], ◌∷◌, ◌++◌, length, map, get_or, Bool, true, false, ◌&&◌, cond, refl, sym, ap}
use Rattle.std.proofs.Common.{◌∙◌, arith, replicate}
use Rattle.std.specs.Prelude.{filter, sum_by}
use Rattle.std.proofs.Math.ListN.{set}
use Rattle.std.proofs.lemmas.List.{append-nil}
use Rattle.mufom_place.specs.declared.placing.Waiting.{Waiting}
use Rattle.mufom_place.specs.Bases.{Numbered, has_no_base, goes_to, stands_for, waiting, waiting_among}
use Rattle.mufom_place.proofs.EntryLaws.{StandsAlone}

-- one more section waits at an entry, if it goes there
abbrev more_waiting : Bool → Numbered → List Waiting
more_waiting true s = waiting s ∷ []
more_waiting false s = []

waiting_among-next : (listed : List (List ℕ)) (entry : List ℕ) (s : Numbered) (prefix : List Numbered) (b : Bool) → goes_to listed entry s ≡ b
    → waiting_among listed (prefix ++ s ∷ []) entry ≡ waiting_among listed prefix entry ++ more_waiting b s
waiting_among-next listed entry s [] b is = ap (λ t. map waiting (cond t (s ∷ []) [])) is ∙ of b where
  of : (b : Bool) → map waiting (cond b (s ∷ []) []) ≡ more_waiting b s
  of true = refl
  of false = refl
waiting_among-next listed entry s (x ∷ prefix) b is = of (goes_to listed entry x) (waiting_among-next listed entry s prefix b is) where
  of : (t : Bool) → waiting_among listed (prefix ++ s ∷ []) entry ≡ waiting_among listed prefix entry ++ more_waiting b s
      → map waiting (cond t (x ∷ filter (goes_to listed entry) (prefix ++ s ∷ [])) (filter (goes_to listed entry) (prefix ++ s ∷ [])))
      ≡ map waiting (cond t (x ∷ filter (goes_to listed entry) prefix) (filter (goes_to listed entry) prefix)) ++ more_waiting b s
  of true later = ap (λ more. waiting x ∷ more) later
  of false later = later

map_same : {A B : Type 0} (f g : A → B) (d : A) (xs : List A) → ((k : ℕ) → k < length xs → g (get_or xs k d) ≡ f (get_or xs k d)) → map g xs ≡ map f xs
map_same f g d [] same = refl
map_same f g d (x ∷ xs) same = let rest = map_same f g d xs (λ k less. same (suc k) (omega (arith, less))) in let here : g x ≡ f x =
    same 0 (omega arith) in λ i. here i ∷ rest i

-- two maps that differ at one place
map_at : {A B : Type 0} (f g : A → B) (d : A) (v : B) (xs : List A) (e : ℕ) → e < length xs → g (get_or xs e d) ≡ v
    → ((k : ℕ) → k < length xs → k ≢ e → g (get_or xs k d) ≡ f (get_or xs k d)) → map g xs ≡ set (map f xs) e v
map_at f g d v [] e less here same = absurd (omega (arith, less))
map_at f g d v (x ∷ xs) zero less here same =
    let rest = map_same f g d xs (λ k within. same (suc k) (omega (arith, within)) (λ equal. omega (arith, equal))) in λ i. here i ∷ rest i
map_at f g d v (x ∷ xs) (suc e) less here same =
    let first : g x ≡ f x = same 0 (omega arith) (λ equal. omega (arith, equal)) in
    let rest = map_at f g d v xs e (omega (arith, less)) here (λ k within differ. same (suc k) (omega (arith, within))
    (λ equal. differ (omega (arith, equal)))) in
    λ i. first i ∷ rest i

-- a section with a base of its own waits nowhere
pub waiting-based : (listed : List (List ℕ)) (prefix : List Numbered) (s : Numbered) → has_no_base s.1 ≡ false
    → map (waiting_among listed prefix) listed ≡ map (waiting_among listed (prefix ++ s ∷ [])) listed
waiting-based listed prefix s based = sym (map_same (waiting_among listed prefix) (waiting_among listed (prefix ++ s ∷ [])) [] listed
    (λ k less. stays (get_or listed k []))) where
      stays : (entry : List ℕ) → waiting_among listed (prefix ++ s ∷ []) entry ≡ waiting_among listed prefix entry
      stays entry = waiting_among-next listed entry s prefix false (ap (λ b. b && stands_for listed entry s.1.name) based)
          ∙ append-nil (waiting_among listed prefix entry)

-- a section without a base waits at the entry that matches its name
pub waiting-added : (listed : List (List ℕ)) (prefix : List Numbered) (s : Numbered) (e : ℕ) → has_no_base s.1 ≡ true → StandsAlone listed s.1.name e
    → map (waiting_among listed (prefix ++ s ∷ [])) listed ≡ set (map (waiting_among listed prefix) listed) e
    (waiting_among listed prefix (get_or listed e []) ++ waiting s ∷ [])
waiting-added listed prefix s e baseless h =
    map_at (waiting_among listed prefix) (waiting_among listed (prefix ++ s ∷ [])) [] (waiting_among listed prefix (get_or listed e [])
    ++ waiting s ∷ []) listed e h.within (added (get_or listed e []) h.stands) (λ k less differ. stays (get_or listed k []) (h.alone k less differ)) where
      added : (entry : List ℕ) → stands_for listed entry s.1.name ≡ true → waiting_among listed (prefix ++ s ∷ []) entry
          ≡ waiting_among listed prefix entry ++ waiting s ∷ []
      added entry stands = waiting_among-next listed entry s prefix true (λ i. baseless i && stands i)

      stays : (entry : List ℕ) → stands_for listed entry s.1.name ≡ false → waiting_among listed (prefix ++ s ∷ []) entry ≡ waiting_among listed prefix entry
      stays entry not_here = waiting_among-next listed entry s prefix false (λ i. baseless i && not_here i) ∙ append-nil (waiting_among listed prefix entry)

-- at first no section waits
pub waiting-none : (listed : List (List ℕ)) (all : List (List ℕ)) → replicate (length all) [] ≡ map (waiting_among listed []) all
waiting-none listed [] = refl
waiting-none listed (entry ∷ all) = ap (λ more. [] ∷ more) (waiting-none listed all)

pub sum_by-none : (listed : List (List ℕ)) (all : List (List ℕ)) → sum_by length (map (waiting_among listed []) all) ≡ 0
sum_by-none listed [] = refl
sum_by-none listed (entry ∷ all) = let later = sum_by-none listed all in omega (arith, later)
