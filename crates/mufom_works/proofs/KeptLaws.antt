-- What is kept of a list: a list without a defect that can be linked, which is what is kept of the link of the list.
use Rattle.std.proofs.Common.{◌≡◌, ◌≢◌, ℕ, zero, suc, ◌<◌, Bool, true, false, List, [], ◌∷◌, map, slice_get, Option, Some, None}
use Rattle.std.proofs.Common.{not, refl, sym, ap, subst, ◌∙◌, arith, inl, inr}
use Rattle.std.specs.List.{find}
use Rattle.std.proofs.lemmas.List.{append-nil}
use Rattle.mufom_names.specs.declared.name.Public.{Public}
use Rattle.mufom_names.specs.Names.{AreDistinct, names_of}
use Rattle.mufom_module.specs.declared.module.Parts.{Parts}
use Rattle.mufom_module.specs.Defects.{IsValid}
use Rattle.mufom_plan.specs.Names.{has_name}
use Rattle.mufom_meaning.specs.Flat.{public_names}
use Rattle.mufom_meaning.specs.Joined.{IsJoined}
use Rattle.mufom_meaning.specs.LinkAnswer.{link_answer}
use Rattle.mufom_meaning.specs.Staging.{AreValid}
use Rattle.mufom_meaning.proofs.facts.Linkable.{no_link_answer_is_linkable}
use Rattle.mufom_meaning.proofs.staging.Staging.{joined_stands_for}
use Rattle.mufom_image.proofs.ReadyLaws.{linkable-alone}
use Rattle.mufom_refusals.specs.declared.prune.PruneRefusal.{PruneRefusal}
use Rattle.mufom_refusals.specs.declared.prune.PruneRefusal.TheVariants as prune
use Rattle.mufom_prune.specs.Pruned.{IsPrunedFor, Remains, new_public, positions_of, remaining, remains, without_others}
use Rattle.mufom_prune.specs.Refusals.{IsRefusalFor}
use Rattle.mufom_prune.proofs.PrunedValid.{pruned_valid}
use Rattle.mufom_groups.specs.Linked.{first_name}
use Rattle.mufom_groups.specs.Work.{Reached, gives, stops}
use Rattle.mufom_outcome.specs.Stop.{Stop, keep_unknown}
use Rattle.mufom_works.specs.Roots.{Roots, first_unknown}
use Rattle.mufom_works.specs.Works.{Kept, kept_of, kept_unless, rest_of}
use Rattle.mufom_works.specs.WorkEnds.{EndsAt, own_kept, own_rest}
use Rattle.mufom_outcome.specs.Outcomes.{outcome_of_prune}

-- ---- the names of what remains

module _ {X : Type 0} where
  -- an element that remains was in the list
  remaining-place : (marks : List Bool) (xs : List X) (k : ℕ) (x : X) → slice_get (remaining marks xs) k ≡ Some x → (n : ℕ) × (slice_get xs n ≡ Some x)
  remaining-place [] xs k x there = absurd cc
  remaining-place (mark ∷ marks) [] k x there = absurd cc
  remaining-place (true ∷ marks) (y ∷ xs) zero x there = (0, there)
  remaining-place (true ∷ marks) (y ∷ xs) (suc k) x there = let (n, is) = remaining-place marks xs k x there in (suc n, is)
  remaining-place (false ∷ marks) (y ∷ xs) k x there = let (n, is) = remaining-place marks xs k x there in (suc n, is)

  -- two of them were there in their order
  remaining-order : (marks : List Bool) (xs : List X) (k l : ℕ) (x y : X) → k < l → slice_get (remaining marks xs) k ≡ Some x
      → slice_get (remaining marks xs) l ≡ Some y
      → (n : ℕ) × (m : ℕ) × (n < m) × (slice_get xs n ≡ Some x) × (slice_get xs m ≡ Some y)
  remaining-order [] xs k l x y less first second = absurd cc
  remaining-order (mark ∷ marks) [] k l x y less first second = absurd cc
  remaining-order (true ∷ marks) (z ∷ xs) k zero x y less first second = absurd (omega (arith, less))
  remaining-order (true ∷ marks) (z ∷ xs) zero (suc l) x y less first second =
      let (m, is) = remaining-place marks xs l y second in (0, suc m, omega arith, first, is)
  remaining-order (true ∷ marks) (z ∷ xs) (suc k) (suc l) x y less first second =
      let (n, m, before, is, later) = remaining-order marks xs k l x y (omega (arith, less)) first second in (suc n, suc m, omega (arith, before), is, later)
  remaining-order (false ∷ marks) (z ∷ xs) k l x y less first second =
      let (n, m, before, is, later) = remaining-order marks xs k l x y less first second in (suc n, suc m, omega (arith, before), is, later)

remaining-distinct : (marks : List Bool) (names : List (List ℕ)) → AreDistinct names → AreDistinct (remaining marks names)
remaining-distinct marks names distinct k (l, name, less, first, second) =
    let (n, m, before, is, later) = remaining-order marks names l k name name less first second in
    distinct m (n, name, before, is, later)

-- renumbering keeps the names
remaining-names : (c : Remains) (marks : List Bool) (publics : List Public)
    → names_of (map (new_public (positions_of c)) (remaining marks publics)) ≡ remaining marks (names_of publics)
remaining-names c [] publics = refl
remaining-names c (mark ∷ marks) [] = refl
remaining-names c (true ∷ marks) (p ∷ publics) = ap (λ (names : List (List ℕ)). p.name ∷ names) (remaining-names c marks publics)
remaining-names c (false ∷ marks) (p ∷ publics) = remaining-names c marks publics

-- no name stands twice among those of what remains
pub pruned-names : (rest M : Parts) (roots : Roots) → IsPrunedFor rest M roots.names roots.stays → AreDistinct (names_of M.names.publics)
    → AreDistinct (names_of rest.names.publics)
pruned-names rest M roots is distinct =
    let c = remains M is.marks in
    subst AreDistinct (sym (ap (λ (m : Parts). names_of m.names.publics) is.is ∙ remaining-names c c.publics M.names.publics))
    (remaining-distinct c.publics (names_of M.names.publics) distinct)

pruned-valid : (rest M : Parts) (roots : Roots) → IsPrunedFor rest M roots.names roots.stays → IsValid M → IsValid rest
pruned-valid rest M roots is valid = subst IsValid (sym is.is) (pruned_valid M roots.names roots.stays is.marks is.kept valid)

-- ---- the link of a list

joined-names : (M : Parts) (flat : List Parts) → AreValid flat → IsJoined M flat (first_name flat) → public_names (M ∷ []) ≡ public_names flat
joined-names M flat valid joined = (joined_stands_for M flat (first_name flat) joined valid).2

joined-distinct : (M : Parts) (flat : List Parts) → AreValid flat → link_answer flat ≡ None → IsJoined M flat (first_name flat)
    → AreDistinct (names_of M.names.publics)
joined-distinct M flat valid links joined =
    subst AreDistinct (append-nil (names_of M.names.publics))
    (subst AreDistinct (sym (joined-names M flat valid joined)) ((no_link_answer_is_linkable flat).0 links).names)

-- ---- what is kept

module _ (roots : Roots) (flat : List Parts) where
  kept-rest : (o : Option (List ℕ)) (kept : Kept) → kept_unless o roots flat (gives kept)
      → (M : Parts) × (rest : Parts) × IsValid M × IsJoined M flat (first_name flat) × IsPrunedFor rest M roots.names roots.stays
      × (kept.modules ≡ rest ∷ [])
  kept-rest (Some name) kept is = absurd is
  kept-rest None kept (M, (valid, joined), (marks, is_kept, same)) = (
    M,
    without_others M (remains M marks),
    valid,
    joined,
    record { marks = marks; kept = is_kept; is = refl },
    ap (λ (k : Kept). k.modules) same,
  )

-- it has no defect
pub kept-valid : (keep : Option Roots) (flat : List Parts) (kept : Kept) → AreValid flat → kept_of keep flat (gives kept) → AreValid kept.modules
kept-valid None flat kept valid is = subst (λ (k : Kept). AreValid k.modules) (sym is) valid
kept-valid (Some roots) flat kept valid is =
    let (M, rest, sound, joined, pruned, same) = kept-rest roots flat (first_unknown flat roots.names) kept is in
    subst AreValid (sym same) (pruned-valid rest M roots pruned sound, tt)

-- it is not empty
pub kept-some : (keep : Option Roots) (flat : List Parts) (kept : Kept) → flat ≢ [] → kept_of keep flat (gives kept) → kept.modules ≢ []
kept-some None flat kept some is = subst (λ (k : Kept). k.modules ≢ []) (sym is) some
kept-some (Some roots) flat kept some is =
    let (M, rest, sound, joined, pruned, same) = kept-rest roots flat (first_unknown flat roots.names) kept is in
    subst (λ (l : List Parts). l ≢ []) (sym same) (λ none. cc)

-- and it can be linked
pub kept-links : (keep : Option Roots) (flat : List Parts) (kept : Kept) → AreValid flat → link_answer flat ≡ None → kept_of keep flat (gives kept)
    → link_answer kept.modules ≡ None
kept-links None flat kept valid links is = subst (λ (k : Kept). link_answer k.modules ≡ None) (sym is) links
kept-links (Some roots) flat kept valid links is =
    let (M, rest, sound, joined, pruned, same) = kept-rest roots flat (first_unknown flat roots.names) kept is in
    subst (λ (l : List Parts). link_answer l ≡ None) (sym same)
    (linkable-alone rest (pruned-names rest M roots pruned (joined-distinct M flat valid links joined)))

-- ---- what is kept of the link of a list for roots

module _ (roots : Roots) (M : Parts) (flat : List Parts) (sound : IsValid M) (joined : IsJoined M flat (first_name flat)) where
  rest-is : (o : Option (List ℕ)) → first_unknown flat roots.names ≡ o → (x : Reached Stop Kept) → own_rest o roots M x → kept_of (Some roots) flat x
  rest-is (Some name) same x is = subst (λ (o : Option (List ℕ)). kept_unless o roots flat x) (sym same) is
  rest-is None same (gives kept) is = subst (λ (o : Option (List ℕ)). kept_unless o roots flat (gives kept)) (sym same) (M, (sound, joined), is)
  rest-is None same (stops s) is = subst (λ (o : Option (List ℕ)). kept_unless o roots flat (stops s)) (sym same) (inr (M, (sound, joined), is))

  -- is what is kept of the list
  pub rest-kept : AreValid flat → (x : Reached Stop Kept) → own_kept (Some roots) M x → kept_of (Some roots) flat x
  rest-kept valid x is =
      let names : public_names (M ∷ []) ≡ public_names flat = joined-names M flat valid joined in
      rest-is (first_unknown flat roots.names) refl x
      (subst (λ (ns : List (List ℕ)). own_rest (find (λ name. not (has_name ns name)) roots.names) roots M x) names is)

-- ---- what is kept of a module for roots

module _ (roots : Roots) (rest M : Parts) (pruned : IsPrunedFor rest M roots.names roots.stays) (known : first_unknown (M ∷ []) roots.names ≡ None) where
  abbrev kept_rest : Kept
  kept_rest = rest_of M (remains M pruned.marks)

  pub rest-own : own_kept (Some roots) M (gives (rest_of M (remains M pruned.marks)))
  rest-own = subst (λ (o : Option (List ℕ)). own_rest o roots M (gives kept_rest)) (sym known) (pruned.marks, pruned.kept, refl)

-- a name that no public has ends it
pub prune-ends : (roots : Roots) (M : Parts) (e : PruneRefusal) → IsRefusalFor M roots.names e → EndsAt (own_kept (Some roots) M) (outcome_of_prune e)
prune-ends roots M prune.NoMemory is = inl refl
prune-ends roots M (prune.Unknown refused) is =
    inr (
      keep_unknown refused,
      tt,
      refl,
      subst (λ (o : Option (List ℕ)). own_rest o roots M (stops (keep_unknown refused))) (sym is) refl,
    )
