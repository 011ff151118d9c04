-- Chains in a graph that come back: numbers that never rise, and a set that is not left.
use Rattle.std.proofs.Common.{ℕ, zero, suc, ◌<◌, ◌≤◌, arith}
use Rattle.std.specs.Prelude.{List, Contains}
use Rattle.mufom_image_values.specs.Circles.{Leads, IsOnCircle, NeverRises}

-- one step more at the end of a chain
pub leads_on : (edges : ℕ → List ℕ) (k a b c : ℕ) → Leads edges k a b → Contains (edges b) c → Leads edges (suc k) a c
leads_on edges zero a b c h m = (b, h, m)
leads_on edges (suc k) a b c h m = (h.0, h.1, leads_on edges k h.0 b c h.2 m)

module _ (number : ℕ → ℕ) (edges : ℕ → List ℕ) (falls : NeverRises number edges) where
  -- a chain leads to a number that is not greater
  chain_falls : (k a b : ℕ) → Leads edges k a b → number b ≤ number a
  chain_falls zero a b m = falls a b m
  chain_falls (suc k) a b h = let first = falls a h.0 h.1 in let rest = chain_falls k h.0 b h.2 in omega (arith, first, rest)

  back_falls : (a : ℕ) → ((next : ℕ) → Contains (edges a) next → number next < number a) → (k : ℕ) → ¬ Leads edges k a a
  back_falls a strict zero m = let less = strict a m in absurd (omega (arith, less))
  back_falls a strict (suc k) h =
      let less = strict h.0 h.1 in
      let back = chain_falls k h.0 a h.2 in
      absurd (omega (arith, less, back))

  -- from a position whose steps are strictly below it no chain leads back
  pub no_way_back : (a : ℕ) → ((next : ℕ) → Contains (edges a) next → number next < number a) → ¬ IsOnCircle edges a
  no_way_back a strict h = back_falls a strict h.0 h.1

module _ (edges : ℕ → List ℕ) (Marked : ℕ → Type 0) (closed : (a b : ℕ) → Marked a → Contains (edges a) b → Marked b) where
  -- a set that has all that its positions lead to is not left by a chain
  chain_stays : (k a b : ℕ) → Marked a → Leads edges k a b → Marked b
  chain_stays zero a b in_it m = closed a b in_it m
  chain_stays (suc k) a b in_it h = chain_stays k h.0 b (closed a h.0 in_it h.1) h.2

  stays_out : (a : ℕ) → ((b : ℕ) → Contains (edges a) b → Marked b) → ¬ Marked a → (k : ℕ) → ¬ Leads edges k a a
  stays_out a first out zero m = out (first a m)
  stays_out a first out (suc k) h = out (chain_stays k h.0 a (first h.0 h.1) h.2)

  -- a position that is not in the set, and all of whose steps are, is not led back to
  pub no_return : (a : ℕ) → ((b : ℕ) → Contains (edges a) b → Marked b) → ¬ Marked a → ¬ IsOnCircle edges a
  no_return a first out h = stays_out a first out h.0 h.1
