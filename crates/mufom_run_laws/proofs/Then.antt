-- One part of a run after another has a result if each has one.
use Rattle.mufom_groups.specs.Work.{Work, gives, stops, ◌>>=◌}
use Rattle.mufom_outcome.specs.Stop.{Stop}
use Rattle.std.proofs.Common.{inl, inr}
use Rattle.mufom_run_laws.specs.Results.{HasResult}

pub then-result : {A B : Type 0} (first : Work Stop A) (next : A → Work Stop B) → HasResult first → ((a : A) → first (gives a) → HasResult (next a))
    → HasResult (first >>= next)
then-result first next (stops s, is) later = (stops s, inl is)
then-result first next (gives a, is) later = by (later a is) where
  by : HasResult (next a) → HasResult (first >>= next)
  by (gives b, there) = (gives b, (a, is, there))
  by (stops s, there) = (stops s, inr (a, is, there))
