-- The names of the generated modules: each reference is to a public of the list, so that nothing is undefined.
use Rattle.std.proofs.Common.{◌≡◌, ℕ, zero, suc, ◌+◌, ◌<◌, ◌≤◌, ◌⊎◌, inl, inr, List, [], ◌∷◌, map, Bool, true, false, not, cond, refl, sym, ◌∙◌, ap}
use Rattle.std.proofs.Common.{subst, arith}
use Rattle.std.specs.Prelude.{◌==◌, filter, codes}
use Rattle.std.specs.Str.{bytes_eq}
use Rattle.std.proofs.lemmas.Slice.Eq.{bytes_eq-Decides}
use Rattle.mufom_names.specs.declared.name.Reference.{Reference}
use Rattle.mufom_plan.specs.Names.{has_name}
use Rattle.mufom_meaning.specs.Flat.{SitedPublic, sited_from, sited_publics, public_names, flat_references, unresolved_references, is_strong, distinct, needs}
use Rattle.mufom_meaning.specs.Flat.{is_common, common_size, same_common, commons}
use Rattle.mufom_numbers.proofs.Choices.{equal_numbers}
use Rattle.mufom_meaning.proofs.Members.{In, In-append, passes-In}
use Rattle.mufom_make.specs.Generated.{entry_at, made_modules, modules_from, name_at, references_at}

-- ---- publics

-- each public has the value of an entry
pub entry-value : (count more n d : ℕ) (q : SitedPublic) → In q (sited_publics (sited_from n n d (modules_from count more n)))
    → q.entry.value ≡ (entry_at 0).value
entry-value count zero n d q h = absurd h
entry-value count (suc more) n d q (inl same) = ap (λ (p : SitedPublic). p.entry.value) (sym same)
entry-value count (suc more) n d q (inr h) = entry-value count more (n + 1) (d + 0) q h

-- each module has its public
named-in : (count more n k : ℕ) → n ≤ k → k < n + more → In (name_at (codes "f") k) (public_names (modules_from count more n))
named-in count zero n k low high = absurd (omega (arith, low, high))
named-in count (suc more) n k low high = by_case (n == k) refl (named-in count more (n + 1) k) where
  by_case : (b : Bool) → (n == k) ≡ b
      → (n + 1 ≤ k → k < n + 1 + more → In (name_at (codes "f") k) (public_names (modules_from count more (n + 1))))
      → In (name_at (codes "f") k) (public_names (modules_from count (suc more) n))
  by_case true e later = inl (ap (name_at (codes "f")) (equal_numbers n k e))
  by_case false e later = let above : n + 1 ≤ k = grind (arith, e, low) in inr (later above (omega (arith, high)))

-- ---- references

-- a reference is to the public of a module
record IsToPublic (count : ℕ) (r : Reference) : Type 0 where
  number : ℕ
  within : number < count
  named : r.name ≡ name_at (codes "f") number

to-next : (count n : ℕ) → n < count → (last : Bool) → (n + 1 == count) ≡ last → (r : Reference) → In r (references_at last n) → IsToPublic count r
to-next count n less true e r h = absurd h
to-next count n less false e r (inl same) = record {
  number = n + 1;
  within = grind (arith, less, e);
  named = ap (λ (x : Reference). x.name) (sym same);
}
to-next count n less false e r (inr h) = absurd h

to-public : (count more n : ℕ) → n + more ≡ count → (r : Reference) → In r (flat_references (modules_from count more n)) → IsToPublic count r
to-public count zero n all r h = absurd h
to-public count (suc more) n all r h =
    by_part (In-append r (references_at (n + 1 == count) n) (flat_references (modules_from count more (n + 1))) h)
    (to-public count more (n + 1) (omega (arith, all)) r) where
      by_part : In r (references_at (n + 1 == count) n) ⊎ In r (flat_references (modules_from count more (n + 1)))
          → (In r (flat_references (modules_from count more (n + 1))) → IsToPublic count r) → IsToPublic count r
      by_part (inl own) recursive = to-next count n (omega (arith, all)) (n + 1 == count) refl r own
      by_part (inr later) recursive = recursive later

-- so no reference is unresolved
resolved : (count : ℕ) (r : Reference) → In r (flat_references (made_modules count)) → has_name (public_names (made_modules count)) r.name ≡ true
resolved count r h =
    let to = to-public count count 0 (omega arith) r h in
    let within = to.within in
    let there = named-in count count 0 to.number (omega arith) (omega (arith, within)) in
    let named = subst (λ (name : List ℕ). In name (public_names (made_modules count))) (sym to.named) there in
    passes-In (bytes_eq r.name) (public_names (made_modules count)) r.name named ((bytes_eq-Decides r.name r.name).1 refl)

nothing-left : {A : Type 0} (p : A → Bool) (xs : List A) → ((x : A) → In x xs → p x ≡ false) → filter p xs ≡ []
nothing-left p [] fails = refl
nothing-left p (x ∷ xs) fails =
    ap (λ (b : Bool). cond b (x ∷ filter p xs) (filter p xs)) (fails x (inl refl)) ∙ nothing-left p xs (λ y h. fails y (inr h))

none-unresolved : (count : ℕ) → unresolved_references (made_modules count) ≡ []
none-unresolved count =
    nothing-left (λ (r : Reference). not (has_name (public_names (made_modules count)) r.name)) (flat_references (made_modules count))
    (λ r h. ap not (resolved count r h))

pub nothing-needed : (count : ℕ) → needs (made_modules count) ≡ []
nothing-needed count =
    ap (λ (rs : List Reference). distinct bytes_eq (map (λ (r : Reference). r.name) (filter is_strong rs))) (none-unresolved count)

pub no-commons : (count : ℕ) → commons (made_modules count) ≡ []
no-commons count = ap (λ (rs : List Reference). distinct same_common (map (λ (r : Reference). (r.name, common_size r.weak)) (filter is_common rs)))
    (none-unresolved count)
