-- Loops that put the entries of a list one after another.
use Rattle.std.proofs.Common.{◌≡◌, ℕ, ◌+◌, ◌<◌, ◌≤◌, List, [], ◌++◌, length, drop, get_or, Result, Ok, Err, IsErr, sym, ap, subst, ◌∙◌}
use Rattle.std.proofs.lemmas.List.{drop_more, drop_all}
use Rattle.mufom_host.specs.declared.world.Failed.{Failed}
use Rattle.mufom_debug.specs.Marks.{joined}
use Rattle.mufom_module.specs.Written.{each_from}
use Rattle.mufom_write.specs.Writing.{LeadsTo}

-- the entries that are left are the next one and the rest
pub each_next : {X : Type 0} (write : ℕ → X → List ℕ) (n : ℕ) (xs : List X) (i : ℕ) (d x : X) → i < length xs → x ≡ get_or xs i d
    → each_from n write (drop i xs) ≡ write n x ++ each_from (n + 1) write (drop (i + 1) xs)
each_next write n xs i d x inside is =
    ap (each_from n write) (drop_more xs i d inside) ∙ ap (λ y. write n y ++ each_from (n + 1) write (drop (i + 1) xs)) (sym is)

pub each_end : {X : Type 0} (write : ℕ → X → List ℕ) (n : ℕ) (xs : List X) (i : ℕ) → length xs ≤ i → each_from n write (drop i xs) ≡ []
each_end write n xs i past = ap (each_from n write) (drop_all i xs past)

module _ {S : Type 0} (takes : S → S → List ℕ → Result (Unit {0}) Failed → Type 0) where
  -- the laws of what an output takes
  abbrev pub Nothing : Type 0
  Nothing = (a : S) → takes a a [] (Ok tt)

  abbrev pub Joins : Type 0
  Joins = (a b c : S) (xs ys all : List ℕ) (r : Result (Unit {0}) Failed) → takes a b xs (Ok tt) → takes b c ys r → all ≡ xs ++ ys → takes a c all r

  abbrev pub Stops : Type 0
  Stops = (a b : S) (xs ys all : List ℕ) (e : Failed) (r : Result (Unit {0}) Failed) → takes a b xs (Err e) → IsErr r → all ≡ xs ++ ys → takes a b all r

  -- at the start nothing is put
  pub leads-start : (a : S) (all : List ℕ) → LeadsTo takes a a all all
  leads-start a all = record { leads = λ s r h. h }

  pub leads-step : Joins → (start now next : S) (bytes after rest all : List ℕ) → rest ≡ bytes ++ after → LeadsTo takes start now rest all
      → takes now next bytes (Ok tt) → LeadsTo takes start next after all
  leads-step joins start now next bytes after rest all split so_far one =
      record { leads = λ s r h. so_far.leads s r (joins now next s bytes after rest r one h split) }

  pub leads-stop : Stops → (start now next : S) (bytes after rest all : List ℕ) (e : Failed) (r : Result (Unit {0}) Failed) → rest ≡ bytes ++ after
      → LeadsTo takes start now rest all
      → takes now next bytes (Err e) → IsErr r → takes start next all r
  leads-stop stops start now next bytes after rest all e r split so_far one failed = so_far.leads next r (stops now next bytes after rest e r one failed split)

  pub leads-end : Nothing → (start now : S) (rest all : List ℕ) → rest ≡ [] → LeadsTo takes start now rest all → takes start now all (Ok tt)
  leads-end nothing start now rest all none so_far = so_far.leads now (Ok tt) (subst (λ (bytes : List ℕ). takes now now bytes (Ok tt)) (sym none) (nothing now))

-- the lists that are left are the next one and the rest
pub joined_next : {X : Type 0} (xs : List (List X)) (i : ℕ) → i < length xs → joined (drop i xs) ≡ get_or xs i [] ++ joined (drop (i + 1) xs)
joined_next xs i inside = ap joined (drop_more xs i [] inside)
