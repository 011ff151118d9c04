-- The commons of a module and of what remains of it.
use Rattle.std.proofs.Common.{◌≡◌, ℕ, List, [], ◌∷◌, ◌++◌, map, filter, length, inl, inr, Bool, true, false, not, ◌||◌, ◌&&◌, refl, sym, ap, subst}
use Rattle.std.proofs.Common.{◌∙◌, true≢false, append-nil, arith, rules}
use Rattle.std.specs.Prelude.{◌==◌}
use Rattle.std.specs.List.{list_any}
use Rattle.std.specs.Str.{bytes_eq}
use Rattle.std.proofs.lemmas.Slice.Eq.{bytes_eq-Decides}
use Rattle.mufom_names.specs.declared.name.Reference.{Reference}
use Rattle.mufom_module.specs.declared.module.Parts.{Parts}
use Rattle.mufom_plan.specs.Names.{has_name}
use Rattle.mufom_meaning.specs.Flat.{is_common, common_size, same_common, commons, common_names, unresolved_references, public_names}
use Rattle.mufom_meaning.proofs.Members.{In, In-map, map-In, In-filter, filter-In, distinct-In, In-distinct, passes-In}
use Rattle.mufom_prune.specs.Pruned.{remaining, with_commons}
use Rattle.mufom_prune.proofs.PrunedValid.{filter-passes}

any-In : {A : Type 0} (p : A → Bool) (xs : List A) → list_any p xs ≡ true → (x : A) × In x xs × (p x ≡ true)
any-In p [] e = absurd (true≢false (sym e))
any-In p (x ∷ xs) e = by_case (p x) refl e (any-In p xs) where
  by_case : (b : Bool) → p x ≡ b → (b || list_any p xs) ≡ true → (list_any p xs ≡ true → (y : _) × In y xs × (p y ≡ true)) → (y : _) × In y (x ∷ xs)
      × (p y ≡ true)
  by_case true t e later = (x, inl refl, t)
  by_case false t e later = let rest = later e in (rest.0, inr rest.1, rest.2)

flip : (b : Bool) → not b ≡ true → b ≡ false
flip true e = absurd (true≢false (sym e))
flip false e = refl

-- a common of these references that none of the names meets has the name
pub record HasCommon (references : List Reference) (names : List (List ℕ)) (name : List ℕ) : Type 0 where
  pub reference : Reference
  pub there : In reference references
  pub common : is_common reference ≡ true
  pub unresolved : has_name names reference.name ≡ false
  pub same : name ≡ reference.name

and_true : (a b : Bool) → (a && b) ≡ true → (a ≡ true) × (b ≡ true)
and_true true b e = (refl, e)
and_true false b e = absurd (true≢false (sym e))

same_common-same : (c d : List ℕ × ℕ) → same_common c d ≡ true → c ≡ d
same_common-same c d e =
    let both = and_true (bytes_eq c.0 d.0) (c.1 == d.1) e in
    let names = (bytes_eq-Decides c.0 d.0).0 both.0 in
    let sizes : c.1 ≡ d.1 = let f = both.1 in search rules in
    λ i. (names i, sizes i)

pair_of : Reference → List ℕ × ℕ
pair_of r = (r.name, common_size r.weak)

module _ (m : Parts) (name : List ℕ) where
  abbrev references : List Reference
  references = m.names.references ++ []

  pub to_common : has_name (common_names (m ∷ [])) name ≡ true → HasCommon references (public_names (m ∷ [])) name
  to_common e =
      let found = any-In (bytes_eq name) (common_names (m ∷ [])) e in
      let pair = map-In (λ (c : List ℕ × ℕ). c.0) found.0 (commons (m ∷ [])) found.1 in
      let all = filter is_common (unresolved_references (m ∷ [])) in
      let its = map-In (λ (r : Reference). (r.name, common_size r.weak)) pair.0 all
      (distinct-In same_common pair.0 (map (λ (r : Reference). (r.name, common_size r.weak)) all) pair.1) in
      let unresolved = filter-In is_common its.0 (unresolved_references (m ∷ [])) its.1 in
      record {
        reference = its.0;
        there = filter-In (λ (r : Reference). not (has_name (public_names (m ∷ [])) r.name)) its.0 references unresolved;
        common = filter-passes is_common its.0 (unresolved_references (m ∷ [])) its.1;
        unresolved = flip (has_name (public_names (m ∷ [])) its.0.name)
            (filter-passes (λ (r : Reference). not (has_name (public_names (m ∷ [])) r.name)) its.0 references unresolved);
        same = (bytes_eq-Decides name found.0).0 found.2 ∙ sym (ap (λ (c : List ℕ × ℕ). c.0) its.2 ∙ pair.2);
      }

  pub from_common : HasCommon references (public_names (m ∷ [])) name → has_name (common_names (m ∷ [])) name ≡ true
  from_common h =
      let unresolved = In-filter (λ (r : Reference). not (has_name (public_names (m ∷ [])) r.name)) h.reference (ap not h.unresolved) references h.there in
      let own = In-filter is_common h.reference h.common (unresolved_references (m ∷ [])) unresolved in
      let pair = In-map (λ (r : Reference). (r.name, common_size r.weak)) h.reference (filter is_common (unresolved_references (m ∷ []))) own in
      let one = In-distinct same_common same_common-same (h.reference.name, common_size h.reference.weak)
      (map (λ (r : Reference). (r.name, common_size r.weak)) (filter is_common (unresolved_references (m ∷ [])))) pair in
      passes-In (bytes_eq name) (common_names (m ∷ [])) h.reference.name
      (In-map (λ (c : List ℕ × ℕ). c.0) (h.reference.name, common_size h.reference.weak) (commons (m ∷ [])) one)
      ((bytes_eq-Decides name h.reference.name).1 h.same)

pub same_truth : (a b : Bool) → (a ≡ true → b ≡ true) → (b ≡ true → a ≡ true) → a ≡ b
same_truth true b f g = sym (f refl)
same_truth false true f g = g refl
same_truth false false f g = refl

remaining-In : {X : Type 0} (marks : List Bool) (xs : List X) (x : X) → In x (remaining marks xs) → In x xs
remaining-In [] xs x h = absurd h
remaining-In (mark ∷ marks) [] x h = absurd h
remaining-In (true ∷ marks) (y ∷ xs) x (inl same) = inl same
remaining-In (true ∷ marks) (y ∷ xs) x (inr h) = inr (remaining-In marks xs x h)
remaining-In (false ∷ marks) (y ∷ xs) x h = inr (remaining-In marks xs x h)

-- a common with one of the names remains
common-remains : (names : List (List ℕ)) (marks : List Bool) (references : List Reference) (r : Reference) → length marks ≡ length references
    → In r references → is_common r ≡ true → has_name names r.name ≡ true → In r (remaining (with_commons names marks references) references)
common-remains names [] [] r sized h c n = absurd h
common-remains names [] (x ∷ xs) r sized h c n = absurd (omega (arith, sized))
common-remains names (mark ∷ marks) [] r sized h c n = absurd h
common-remains names (mark ∷ marks) (x ∷ xs) r sized (inl same) c n = by_case (mark || (is_common x && has_name names x.name)) passes where
  both : (a b : Bool) → a ≡ true → b ≡ true → (mark || (a && b)) ≡ true
  both a b e f = ap (λ a. mark || (a && b)) e ∙ ap (λ b. mark || b) f ∙ or_yes mark where
    or_yes : (a : Bool) → (a || true) ≡ true
    or_yes true = refl
    or_yes false = refl

  passes : (mark || (is_common x && has_name names x.name)) ≡ true
  passes = both (is_common x) (has_name names x.name) (ap is_common same ∙ c) (ap (λ (q : Reference). has_name names q.name) same ∙ n)

  by_case : (b : Bool) → b ≡ true → In r (remaining (b ∷ with_commons names marks xs) (x ∷ xs))
  by_case true e = inl same
  by_case false e = absurd (true≢false (sym e))
common-remains names (mark ∷ marks) (x ∷ xs) r sized (inr h) c n =
    by_case (mark || (is_common x && has_name names x.name)) (common-remains names marks xs r (omega (arith, sized)) h c n) where
      by_case : (b : Bool) → In r (remaining (with_commons names marks xs) xs) → In r (remaining (b ∷ with_commons names marks xs) (x ∷ xs))
      by_case true e = inr e
      by_case false e = e

-- What a name that no public has finds among the commons is the same, if a kept reference has it.
pub same_commons : (m M : Parts) (names : List (List ℕ)) (marks : List Bool) (name : List ℕ) → length marks ≡ length m.names.references
    → M.names.references ≡ remaining (with_commons names marks m.names.references) m.names.references → has_name names name ≡ true
    → has_name (public_names (m ∷ [])) name ≡ false → has_name (public_names (M ∷ [])) name ≡ false
    → has_name (common_names (M ∷ [])) name ≡ has_name (common_names (m ∷ [])) name
same_commons m M names marks name sized is kept none none' = same_truth _ _ back forth where
  back : has_name (common_names (M ∷ [])) name ≡ true → has_name (common_names (m ∷ [])) name ≡ true
  back e =
      let h = to_common M name e in
      let there = subst (In h.reference) (append-nil M.names.references ∙ is) h.there in
      from_common m name (record {
        reference = h.reference;
        there = subst (In h.reference) (sym (append-nil m.names.references))
            (remaining-In (with_commons names marks m.names.references) m.names.references h.reference there);
        common = h.common;
        unresolved = ap (has_name (public_names (m ∷ []))) (sym h.same) ∙ none;
        same = h.same;
      })

  forth : has_name (common_names (m ∷ [])) name ≡ true → has_name (common_names (M ∷ [])) name ≡ true
  forth e =
      let h = to_common m name e in
      let there = subst (In h.reference) (append-nil m.names.references) h.there in
      from_common M name (record {
        reference = h.reference;
        there = subst (In h.reference) (sym (append-nil M.names.references ∙ is))
            (common-remains names marks m.names.references h.reference sized there h.common (ap (has_name names) (sym h.same) ∙ kept));
        common = h.common;
        unresolved = ap (has_name (public_names (M ∷ []))) (sym h.same) ∙ none';
        same = h.same;
      })
