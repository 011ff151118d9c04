-- Selection sees a link as it sees the group.
use Rattle.std.proofs.Common.{◌≡◌, ℕ, List, [], ◌∷◌, ◌++◌, map, Bool, true, false, not, ◌&&◌, ◌||◌, refl, sym, ◌∙◌, ap, cond}
use Rattle.std.specs.Prelude.{filter}
use Rattle.std.specs.List.{list_all}
use Rattle.std.specs.Bool.{Decides}
use Rattle.std.proofs.lemmas.List.{map-append}
use Rattle.mufom_names.specs.declared.name.Reference.{Reference}
use Rattle.mufom_module.specs.declared.module.Parts.{Parts}
use Rattle.mufom_plan.specs.Names.{has_name}
use Rattle.mufom_meaning.specs.Flat.{public_names, flat_references, unresolved_references, distinct, is_strong}
use Rattle.mufom_meaning.specs.Joined.{IsJoined, kept_references, same_reference}
use Rattle.mufom_meaning.specs.Selection.{strong_names, provider, is_among, is_provided, is_closed, members_at}
use Rattle.mufom_meaning.specs.StagingLaws.{SelectionAgrees}
use Rattle.mufom_meaning.proofs.References.{same_reference-decides}
use Rattle.mufom_meaning.proofs.Distinct.{filter-append, filter-weaker, differs}
use Rattle.mufom_meaning.proofs.staging.Needs.{same_names, among_all, link_references, group_references}

list_all-append : {A : Type 0} (p : A → Bool) (xs ys : List A) → list_all p (xs ++ ys) ≡ (list_all p xs && list_all p ys)
list_all-append p [] ys = refl
list_all-append p (x ∷ xs) ys = by_case (p x) (list_all-append p xs ys) where
  by_case : (b : Bool) → list_all p (xs ++ ys) ≡ (list_all p xs && list_all p ys) → (b && list_all p (xs ++ ys)) ≡ ((b && list_all p xs) && list_all p ys)
  by_case true e = e
  by_case false e = refl

-- a test of what is made of the elements that are kept
module _ {A B : Type 0} (p : B → Bool) (f : A → B) (keep : A → Bool) where
  abbrev tested : List A → Bool
  tested xs = list_all p (map f (filter keep xs))

  tested-append : (xs ys : List A) → tested (xs ++ ys) ≡ (tested xs && tested ys)
  tested-append xs ys = ap (λ zs. list_all p (map f zs)) (filter-append keep xs ys) ∙ ap (list_all p) (map-append f (filter keep xs) (filter keep ys))
      ∙ list_all-append p _ _

  -- elements that pass can be left out
  tested-filter : (q : A → Bool) → ((y : A) → q y ≡ false → p (f y) ≡ true) → (xs : List A) → tested (filter q xs) ≡ tested xs
  tested-filter q passes [] = refl
  tested-filter q passes (x ∷ xs) = by_case (q x) refl (keep x) refl (tested-filter q passes xs) where
    kept : (ys : List A) (c : Bool) → keep x ≡ c → tested (x ∷ ys) ≡ list_all p (map f (cond c (x ∷ filter keep ys) (filter keep ys)))
    kept ys c e = ap (λ b. list_all p (map f (cond b (x ∷ filter keep ys) (filter keep ys)))) e

    by_case : (b : Bool) → q x ≡ b → (c : Bool) → keep x ≡ c → list_all p (map f (filter keep (filter q xs))) ≡ list_all p (map f (filter keep xs))
        → list_all p (map f (filter keep (cond b (x ∷ filter q xs) (filter q xs)))) ≡ list_all p (map f (cond c (x ∷ filter keep xs) (filter keep xs)))
    by_case true h true k rest = kept (filter q xs) true k ∙ ap (λ b. p (f x) && b) rest
    by_case true h false k rest = kept (filter q xs) false k ∙ rest
    by_case false h true k rest = rest ∙ sym (ap (λ b. b && list_all p (map f (filter keep xs))) (passes x h))
    by_case false h false k rest = rest

  -- and so can those that are equal to one before
  module _ (same : A → A → Bool) (decides : (x y : A) → Decides (same x y) (x ≡ y)) where
    tested-once : (x : A) (xs : List A) → (p (f x) && tested (filter (λ y. not (same x y)) xs)) ≡ (p (f x) && tested xs)
    tested-once x xs = by_case (p (f x)) refl where
      by_case : (b : Bool) → p (f x) ≡ b → (b && list_all p (map f (filter keep (filter (λ y. not (same x y)) xs))))
          ≡ (b && list_all p (map f (filter keep xs)))
      by_case true e = tested-filter (λ y. not (same x y)) (λ y h. equal y h) xs where
        equal : (y : A) → not (same x y) ≡ false → p (f y) ≡ true
        equal y h = from (same x y) refl h where
          from : (c : Bool) → same x y ≡ c → not c ≡ false → p (f y) ≡ true
          from true k h = let alike : x ≡ y = (decides x y).0 k in let here : p (f x) ≡ p (f y) = ap (λ z. p (f z)) alike in cc
          from false k h = absurd cc
      by_case false e = refl

    tested-distinct : (xs : List A) → tested (distinct same xs) ≡ tested xs
    tested-distinct [] = refl
    tested-distinct (x ∷ xs) = by_case (keep x) refl (tested-distinct xs) where
      by_case : (b : Bool) → keep x ≡ b → tested (distinct same xs) ≡ tested xs
          → list_all p (map f (cond b (x ∷ filter keep (filter (λ y. not (same x y)) (distinct same xs)))
          (filter keep (filter (λ y. not (same x y)) (distinct same xs)))))
          ≡ list_all p (map f (cond b (x ∷ filter keep xs) (filter keep xs)))
      by_case true k rest = tested-once x (distinct same xs) ∙ ap (λ b. p (f x) && b) rest
      by_case false k rest = ap (λ ys. list_all p (map f ys)) (filter-weaker keep (λ y. not (same x y)) (differs same decides keep x k)
          (distinct same xs)) ∙ rest

module _ (M : Parts) (ms before after : List Parts) (name : List ℕ) (j : IsJoined M ms name) (members : List Parts) where
  abbrev linked : List Parts
  linked = before ++ (M ∷ after)

  abbrev flat : List Parts
  flat = before ++ (ms ++ after)

  module _ (chosen : List ℕ) where
    abbrev P : List ℕ → Bool
    P = is_provided flat members chosen

    abbrev held : List Reference → Bool
    held rs = list_all P (map (λ r. r.name) (filter is_strong rs))

    held-append : (xs ys : List Reference) → held (xs ++ ys) ≡ (held xs && held ys)
    held-append xs ys = tested-append P (λ r. r.name) is_strong xs ys

    held_around : (xs : List Reference) → held (flat_references before ++ (xs ++ flat_references after))
        ≡ (held (flat_references before) && (held xs && held (flat_references after)))
    held_around xs = held-append (flat_references before) (xs ++ flat_references after)
        ∙ ap (λ b. held (flat_references before) && b) (held-append xs (flat_references after))

    passes_met : (y : Reference) → not (has_name (public_names ms) y.name) ≡ false → P y.name ≡ true
    passes_met y h = from (has_name (public_names ms) y.name) refl h where
      from : (b : Bool) → has_name (public_names ms) y.name ≡ b → not b ≡ false → P y.name ≡ true
      from true e h = ap (λ b. b || is_among (provider members y.name) chosen) (among_all M ms name j before after y.name e)
      from false e h = absurd cc

    group_held : held (kept_references ms) ≡ held (flat_references ms)
    group_held =
        tested-distinct P (λ r. r.name) is_strong same_reference same_reference-decides (unresolved_references ms)
        ∙ tested-filter P (λ r. r.name) is_strong (λ r. not (has_name (public_names ms) r.name)) passes_met (flat_references ms)

    same_held : held (flat_references linked) ≡ held (flat_references flat)
    same_held =
        ap held (link_references M ms name j before after) ∙ held_around (kept_references ms)
        ∙ ap (λ b. held (flat_references before) && (b && held (flat_references after))) group_held
        ∙ sym (held_around (flat_references ms)) ∙ ap held (sym (group_references M ms name j before after))

    same_closed : is_closed linked members chosen ≡ is_closed flat members chosen
    same_closed =
        ap (λ names. list_all (λ s. has_name names s || is_among (provider members s) chosen) (strong_names linked)
        && list_all (λ s. has_name names s || is_among (provider members s) chosen) (strong_names (members_at members chosen)))
        (same_names M ms name j before after)
        ∙ ap (λ b. b && list_all P (strong_names (members_at members chosen))) same_held

-- selection sees a link as it sees the group
pub selection_agrees : SelectionAgrees
selection_agrees M ms before after name members chosen j = (
  λ h. record {
    increasing = h.increasing;
    closed = sym (same_closed M ms before after name j members chosen) ∙ h.closed;
    least = λ other closed n there. h.least other (same_closed M ms before after name j members other ∙ closed) n there;
  },
  λ h. record {
    increasing = h.increasing;
    closed = same_closed M ms before after name j members chosen ∙ h.closed;
    least = λ other closed n there. h.least other (sym (same_closed M ms before after name j members other) ∙ closed) n there;
  },
)
