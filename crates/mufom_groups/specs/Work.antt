-- The results of a part of a run: a value with which the run continues, or an outcome that ends the run before it has an output.
use Rattle.std.specs.Prelude.{◌≡◌, ◌⊎◌}

-- a value, or an end of the run
pub data Reached (S A : Type 0) : Type 0 where
  gives : A → Reached S A
  stops : S → Reached S A

-- A part of a run, as a relation: the results that it can have. It may have none, for example if a file does not exist.
abbrev pub Work : Type 0 → Type 0 → Type 1
Work S A = Reached S A → Type 0

-- one part after another: the second continues with the value of the first, and is left out if the first ends the run
infixl 10 ◌>>=◌
abbrev pub ◌>>=◌ : {S A B : Type 0} → Work S A → (A → Work S B) → Work S B
◌>>=◌ {A = A} first next (gives b) = (a : A) × first (gives a) × next a (gives b)
◌>>=◌ {A = A} first next (stops s) = first (stops s) ⊎ ((a : A) × first (gives a) × next a (stops s))

-- the only result is this value
abbrev pub sure : {S A : Type 0} → A → Work S A
sure a (gives b) = b ≡ a
sure a (stops s) = ⊥

-- the run continues, without a value
abbrev pub goes_on : {S : Type 0} → Work S (Unit {0})
goes_on = sure tt

-- the results are the values for which the fact holds
abbrev pub one_with : {S A : Type 0} → (A → Type 0) → Work S A
one_with P (gives a) = P a
one_with P (stops s) = ⊥

-- the only result is this end
abbrev pub stop_at : {S A : Type 0} → S → Work S A
stop_at t (gives a) = ⊥
stop_at t (stops s) = s ≡ t

-- no result
abbrev pub nowhere : {S A : Type 0} → Work S A
nowhere reached = ⊥

-- the same work, with each end converted
abbrev pub with_stops : {S T A : Type 0} → (S → T) → Work S A → Work T A
with_stops stop work (gives a) = work (gives a)
with_stops {S = S} stop work (stops t) = (s : S) × work (stops s) × (t ≡ stop s)

-- there is at most one result
abbrev pub IsSingle : {S A : Type 0} → Work S A → Type 0
IsSingle {S = S} {A = A} work = (x y : Reached S A) → work x → work y → x ≡ y
