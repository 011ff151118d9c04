-- Tests of all that tokens mention, and of all positions.
use Rattle.std.proofs.Common.{◌≡◌, ◌≢◌, ◌⊎◌, inl, inr, subst, ℕ, zero, suc, ◌+◌, ◌<◌, length, take, get_or, append-nil, arith, List, [], ◌∷◌, Option}
use Rattle.std.proofs.Common.{Some, None, Bool, true, not, ◌&&◌, refl, sym, ap, ◌∙◌}
use Rattle.std.specs.Prelude.{slice_get, Contains, option_to_list, ◌++◌}
use Rattle.std.specs.List.{list_all}
use Rattle.std.proofs.lemmas.List.{take_more}
use Rattle.std.proofs.lemmas.Grind.{flat_map-append}
use Rattle.mufom_expr.specs.declared.token.Token.{Token}
use Rattle.mufom_meaning.proofs.Members.{In, In-Contains, Contains-In, In-left, In-right}
use Rattle.mufom_numbers.proofs.Choices.{some_same, of_lt}
use Rattle.mufom_meaning.proofs.facts.Answers.{both}
use Rattle.mufom_image_values.specs.declared.resolutions.Resolution.{Resolution}
use Rattle.mufom_image_values.specs.declared.surroundings.Evaluation.{Evaluation}
use Rattle.mufom_image_values.specs.declared.surroundings.Evaluation.TheVariants as evaluations
use Rattle.mufom_image_values.specs.Graph.{mentioned_in, mentions_of}
use Rattle.mufom_image_values.specs.Circles.{Search, followed, is_down, leads_down}
use Rattle.mufom_image_values.proofs.SearchLaws.{followed-append}
use Rattle.mufom_image_values.specs.Evaluated.{is_waiting, is_ready, AreEvaluated}

-- a test that passes if nothing is mentioned passes all tokens if it passes all that they mention
pub all-mentions : (met : List Resolution) (q : Option ℕ → Bool) → q None ≡ true → (tokens : List Token)
    → list_all (λ t. q (mentioned_in met t)) tokens ≡ list_all (λ n. q (Some n)) (mentions_of met tokens)
all-mentions met q none [] = refl
all-mentions met q none (t ∷ tokens) = by_case (mentioned_in met t) (all-mentions met q none tokens) where
  by_case : (o : Option ℕ) → list_all (λ t. q (mentioned_in met t)) tokens ≡ list_all (λ n. q (Some n)) (mentions_of met tokens)
      → (q o && list_all (λ t. q (mentioned_in met t)) tokens) ≡ list_all (λ n. q (Some n)) (option_to_list o ++ mentions_of met tokens)
  by_case None rest = ap (λ b. b && list_all (λ t. q (mentioned_in met t)) tokens) none ∙ rest
  by_case (Some n) rest = ap (λ b. q (Some n) && b) rest

all-In : {A : Type 0} (p : A → Bool) (xs : List A) → list_all p xs ≡ true → (x : A) → In x xs → p x ≡ true
all-In p [] e x h = absurd h
all-In p (y ∷ ys) e x (inl same) = ap p (sym same) ∙ (both (p y) (list_all p ys) e).0
all-In p (y ∷ ys) e x (inr h) = all-In p ys (both (p y) (list_all p ys) e).1 x h

In-all : {A : Type 0} (p : A → Bool) (xs : List A) → ((x : A) → In x xs → p x ≡ true) → list_all p xs ≡ true
In-all p [] holds = refl
In-all p (y ∷ ys) holds = ap (λ b. b && list_all p ys) (holds y (inl refl)) ∙ In-all p ys (λ x h. holds x (inr h))

pub all-Contains : (p : ℕ → Bool) (xs : List ℕ) → list_all p xs ≡ true → (x : ℕ) → Contains xs x → p x ≡ true
all-Contains p xs e x h = all-In p xs e x (Contains-In x xs h)

not-waiting : (o : Option Evaluation) → not (is_waiting o) ≡ true → o ≢ Some evaluations.Waiting
not-waiting None e = λ f. absurd cc
not-waiting (Some evaluations.Waiting) e = absurd cc
not-waiting (Some evaluations.Nothing) e = λ f. absurd cc
not-waiting (Some (evaluations.Value v)) e = λ f. absurd cc

waits-not : (o : Option Evaluation) → o ≢ Some evaluations.Waiting → not (is_waiting o) ≡ true
waits-not None other = refl
waits-not (Some evaluations.Waiting) other = absurd (other refl)
waits-not (Some evaluations.Nothing) other = refl
waits-not (Some (evaluations.Value v)) other = refl

-- all positions are ready if all are evaluated
pub ready-evaluated : (values : List Evaluation) (positions : List ℕ) → list_all (λ n. is_ready values (Some n)) positions ≡ true
    → AreEvaluated values positions
ready-evaluated values positions e n h = not-waiting (slice_get values n) (all-Contains (λ n. is_ready values (Some n)) positions e n h)

pub evaluated-ready : (values : List Evaluation) (positions : List ℕ) → AreEvaluated values positions
    → list_all (λ n. is_ready values (Some n)) positions ≡ true
evaluated-ready values positions holds = In-all (λ n. is_ready values (Some n)) positions
    (λ n h. waits-not (slice_get values n) (holds n (In-Contains n positions h)))

-- ---- what tokens mention, one after another

mentions-append : (met : List Resolution) (xs ys : List Token) → mentions_of met (xs ++ ys) ≡ mentions_of met xs ++ mentions_of met ys
mentions-append met xs ys = flat_map-append (λ token. option_to_list (mentioned_in met token)) xs ys

-- a search follows what one token more mentions
pub follow-step : (met : List Resolution) (tokens : List Token) (i : ℕ) (d : Token) (s : Search) (o : Option ℕ) → i < length tokens
    → o ≡ mentioned_in met (get_or tokens i d)
    → followed (mentions_of met (take (i + 1) tokens)) s ≡ followed (option_to_list o) (followed (mentions_of met (take i tokens)) s)
follow-step met tokens i d s o inside found =
    ap (λ ts. followed (mentions_of met ts) s) (take_more tokens i d inside)
    ∙ ap (λ ns. followed ns s) (mentions-append met (take i tokens) (get_or tokens i d ∷ []))
    ∙ followed-append (mentions_of met (take i tokens)) (mentions_of met (get_or tokens i d ∷ [])) s
    ∙ ap (λ ns. followed ns (followed (mentions_of met (take i tokens)) s)) (append-nil (option_to_list (mentioned_in met (get_or tokens i d)))
    ∙ ap option_to_list (sym found))

-- what a token mentions is among what all mention
pub mention-at : (met : List Resolution) (tokens : List Token) (i : ℕ) (d : Token) (n : ℕ) → i < length tokens → Some n ≡ mentioned_in met (get_or tokens i d)
    → Contains (mentions_of met tokens) n
mention-at met tokens i d n inside found = In-Contains n (mentions_of met tokens) (at tokens i inside found) where
  at : (tokens : List Token) (i : ℕ) → i < length tokens → Some n ≡ mentioned_in met (get_or tokens i d) → In n (mentions_of met tokens)
  at [] i inside found = absurd (omega (arith, inside))
  at (t ∷ tokens) zero inside found = In-left n (option_to_list (mentioned_in met t)) (mentions_of met tokens) (own (mentioned_in met t) (sym found)) where
    own : (o : Option ℕ) → o ≡ Some n → In n (option_to_list o)
    own None e = absurd cc
    own (Some k) e = inl (some_same k n e)
  at (t ∷ tokens) (suc i) inside found = In-right n (option_to_list (mentioned_in met t)) (mentions_of met tokens) (at tokens i (omega (arith, inside)) found)

-- ---- positions one after another

-- two numbers are the same, or not
pub nat_choice : (a b : ℕ) → (a ≡ b) ⊎ (a ≢ b)
nat_choice zero zero = inl refl
nat_choice zero (suc b) = inr (λ e. omega (arith, e))
nat_choice (suc a) zero = inr (λ e. omega (arith, e))
nat_choice (suc a) (suc b) = by_case (nat_choice a b) where
  by_case : (a ≡ b) ⊎ (a ≢ b) → (suc a ≡ suc b) ⊎ (suc a ≢ suc b)
  by_case (inl e) = inl (ap suc e)
  by_case (inr other) = inr (λ e. other (omega (arith, e)))

lt-from_other : (m n : ℕ) → m ≢ n → m < n + 1 → m < n
lt-from_other m n other less = grind (arith, other, less)

-- what holds of those below a number and of the number holds of those below the next
pub below_more : (P : ℕ → Type 0) (k : ℕ) → ((n : ℕ) → n < k → P n) → P k → (n : ℕ) → n < k + 1 → P n
below_more P k earlier own n less = by_case (nat_choice n k) where
  by_case : (n ≡ k) ⊎ (n ≢ k) → P n
  by_case (inl same) = subst P (sym same) own
  by_case (inr other) = earlier n (lt-from_other n k other less)

-- if all steps from a position lead strictly down, each leads to a lesser number
pub strictly-down : (number : ℕ → ℕ) (edges : ℕ → List ℕ) (n : ℕ) → leads_down number edges true n ≡ true → (next : ℕ) → Contains (edges n) next
    → number next < number n
strictly-down number edges n e next h = of_lt (number next) (number n) (all-Contains (λ next. is_down number (number n) true (Some next)) (edges n) e next h)
