-- A link needs the names that its group needs, and asks room for the same commons.
use Rattle.std.proofs.Common.{subst, ◌≡◌, ℕ, ◌+◌, length, List, [], ◌∷◌, ◌++◌, map, Bool, true, false, not, ◌&&◌, refl, sym, subst, ◌∙◌, ap, flat_map}
use Rattle.std.proofs.Common.{rules, append-nil}
use Rattle.std.specs.Prelude.{filter, ◌==◌}
use Rattle.std.specs.List.{list_all}
use Rattle.std.specs.Bool.{Decides}
use Rattle.std.specs.Str.{bytes_eq}
use Rattle.std.proofs.lemmas.Slice.Eq.{bytes_eq-Decides}
use Rattle.std.proofs.lemmas.Grind.{flat_map-append}
use Rattle.std.proofs.lemmas.List.{map-append}
use Rattle.mufom_names.specs.declared.name.Public.{Public}
use Rattle.mufom_names.specs.declared.name.Reference.{Reference}
use Rattle.mufom_debug.specs.Marks.{marks_of}
use Rattle.mufom_module.specs.declared.module.Parts.{Parts}
use Rattle.mufom_plan.specs.Names.{has_name}
use Rattle.mufom_meaning.specs.Flat.{Sited, sited_from, name_count, public_names, flat_references, unresolved_references, distinct, needs, commons}
use Rattle.mufom_meaning.specs.Flat.{is_strong, is_common, common_size, same_common}
use Rattle.mufom_meaning.specs.Joined.{IsJoined, joined_public, kept_references, same_reference}
use Rattle.std.specs.List.{IsDistinct}
use Rattle.mufom_meaning.proofs.References.{same_reference-decides}
use Rattle.mufom_meaning.proofs.Names.{has_name-append_left, has_name-append_right}
use Rattle.mufom_meaning.proofs.Distinct.{filter-append, filter-weaker, filter-distinct, distinct-between, distinct-made, list_all-filter, IsDistinct-distinct}

joined_names : (ms : List Parts) (s p d : ℕ) (xs : List Parts)
    → map (λ entry. entry.name) (flat_map (λ site. map (joined_public ms site) site.parts.names.publics) (sited_from s p d xs)) ≡ public_names xs
joined_names ms s p d [] = refl
joined_names ms s p d (x ∷ xs) =
    let site : Sited = record { parts = x; first_section = s; first_public = p; first_name = d } in
    let rest = joined_names ms (s + length x.sections) (p + length x.names.publics) (d + name_count (marks_of x.debug)) xs in
    map-append (λ entry. entry.name) (map (joined_public ms site) x.names.publics) _
    ∙ ap (λ prefix. prefix ++ map (λ entry. entry.name) (flat_map (λ y. map (joined_public ms y) y.parts.names.publics)
    (sited_from (s + length x.sections) (p + length x.names.publics) (d + name_count (marks_of x.debug)) xs))) (here site x.names.publics)
    ∙ ap (λ back. map (λ entry. entry.name) x.names.publics ++ back) rest where
      here : (site : Sited) (publics : List Public) → map (λ entry. entry.name) (map (joined_public ms site) publics) ≡ map (λ entry. entry.name) publics
      here site [] = refl
      here site (e ∷ es) = ap (λ names. e.name ∷ names) (here site es)

-- what passes
abbrev pub unresolved_by : List (List ℕ) → Reference → Bool
unresolved_by names reference = not (has_name names reference.name)

-- a name that many lack, some lack
lacks : (few many : List (List ℕ)) → ((name : List ℕ) → has_name few name ≡ true → has_name many name ≡ true) → (r : Reference) → unresolved_by many r
    ≡ true → unresolved_by few r ≡ true
lacks few many within r h = by_case (has_name few r.name) refl where
  by_case : (b : Bool) → has_name few r.name ≡ b → not b ≡ true
  by_case true e = absurd (let there : has_name many r.name ≡ true = within r.name e in let clash : not (has_name many r.name) ≡ false = ap not there in cc)
  by_case false e = refl

pub same_common-decides : (c d : List ℕ × ℕ) → Decides (same_common c d) (c ≡ d)
same_common-decides c d = (there, back) where
  both : (a b : Bool) → (a && b) ≡ true → (a ≡ true) × (b ≡ true)
  both true b e = (refl, e)
  both false b e = absurd cc

  numbers : (m n : ℕ) → Decides (m == n) (m ≡ n)
  numbers m n = search rules

  there : same_common c d ≡ true → c ≡ d
  there e =
      let two = both (bytes_eq c.0 d.0) (c.1 == d.1) e in
      let p : c.0 ≡ d.0 = (bytes_eq-Decides c.0 d.0).0 two.0 in
      let q : c.1 ≡ d.1 = (numbers c.1 d.1).0 two.1 in
      λ i. (p i, q i)

  back : c ≡ d → same_common c d ≡ true
  back e = ap (λ b. b && (c.1 == d.1)) ((bytes_eq-Decides c.0 d.0).1 (ap (λ x. x.0) e)) ∙ (numbers c.1 d.1).1 (ap (λ x. x.1) e)

module _ (ms : List Parts) (names : List (List ℕ)) (within : (name : List ℕ) → has_name (public_names ms) name ≡ true → has_name names name
    ≡ true) (prefix back : List Reference) where
  pub kept_unresolved : filter (unresolved_by names) (kept_references ms) ≡ distinct same_reference (filter (unresolved_by names) (flat_references ms))
  kept_unresolved =
      filter-distinct same_reference same_reference-decides (unresolved_by names) (unresolved_references ms)
      ∙ ap (distinct same_reference) (filter-weaker (unresolved_by names) (unresolved_by (public_names ms)) (lacks (public_names ms) names within)
      (flat_references ms))

  module _ {B : Type 0} (alike : B → B → Bool) (reveals : (x y : B) → Decides (alike x y) (x ≡ y)) (keep : Reference → Bool) (f : Reference → B) where
    abbrev made : List Reference → List B
    made rs = map f (filter keep (filter (unresolved_by names) rs))

    made-append : (xs ys : List Reference) → made (xs ++ ys) ≡ made xs ++ made ys
    made-append xs ys =
        ap (λ rs. map f (filter keep rs)) (filter-append (unresolved_by names) xs ys)
        ∙ ap (map f) (filter-append keep (filter (unresolved_by names) xs) (filter (unresolved_by names) ys))
        ∙ map-append f (filter keep (filter (unresolved_by names) xs)) (filter keep (filter (unresolved_by names) ys))

    made_around : (xs : List Reference) → made (prefix ++ (xs ++ back)) ≡ made prefix ++ (made xs ++ made back)
    made_around xs = made-append prefix (xs ++ back) ∙ ap (λ more. made prefix ++ more) (made-append xs back)

    pub same_made : distinct alike (made (prefix ++ (kept_references ms ++ back))) ≡ distinct alike (made (prefix ++ (flat_references ms ++ back)))
    same_made =
        let group : distinct alike (made (kept_references ms)) ≡ distinct alike (made (flat_references ms))
        = ap (λ rs. distinct alike (map f (filter keep rs))) kept_unresolved
        ∙ distinct-made same_reference same_reference-decides alike reveals keep f (filter (unresolved_by names) (flat_references ms)) in
        ap (distinct alike) (made_around (kept_references ms))
        ∙ distinct-between alike reveals (made prefix) (made (kept_references ms)) (made (flat_references ms)) (made back) group
        ∙ ap (distinct alike) (sym (made_around (flat_references ms)))

module _ (M : Parts) (ms : List Parts) (name : List ℕ) (j : IsJoined M ms name) where
  pub own_names : map (λ entry. entry.name) M.names.publics ≡ public_names ms
  own_names = ap (map (λ entry. entry.name)) j.publics ∙ joined_names ms 0 0 0 ms

  pub same_names : (before after : List Parts) → public_names (before ++ (M ∷ after)) ≡ public_names (before ++ (ms ++ after))
  same_names before after =
      flat_map-append _ before (M ∷ after) ∙ ap (λ names. public_names before ++ (names ++ public_names after)) own_names
      ∙ ap (λ more. public_names before ++ more) (sym (flat_map-append _ ms after)) ∙ sym (flat_map-append _ before (ms ++ after))

  module _ (before after : List Parts) where
    abbrev pub all_names : List (List ℕ)
    all_names = public_names (before ++ (ms ++ after))

    pub among_all : (s : List ℕ) → has_name (public_names ms) s ≡ true → has_name all_names s ≡ true
    among_all s h =
        ap (λ names. has_name names s) (flat_map-append _ before (ms ++ after) ∙ ap (λ more. public_names before ++ more) (flat_map-append _ ms after))
        ∙ has_name-append_right (public_names before) (public_names ms
        ++ public_names after) s (has_name-append_left (public_names ms) (public_names after) s h)

    pub link_references : flat_references (before ++ (M ∷ after)) ≡ flat_references before ++ (kept_references ms ++ flat_references after)
    link_references = flat_map-append _ before (M ∷ after) ∙ ap (λ rs. flat_references before ++ (rs ++ flat_references after)) j.references

    pub group_references : flat_references (before ++ (ms ++ after)) ≡ flat_references before ++ (flat_references ms ++ flat_references after)
    group_references = flat_map-append _ before (ms ++ after) ∙ ap (λ more. flat_references before ++ more) (flat_map-append _ ms after)

    pub link_unresolved : unresolved_references (before ++ (M ∷ after)) ≡ filter (unresolved_by all_names) (flat_references before
        ++ (kept_references ms ++ flat_references after))
    link_unresolved =
        ap (λ names. filter (unresolved_by names) (flat_references (before ++ (M ∷ after)))) (same_names before after)
        ∙ ap (filter (unresolved_by all_names)) link_references

    pub same_needs : needs (before ++ (M ∷ after)) ≡ needs (before ++ (ms ++ after))
    same_needs =
        ap (λ rs. distinct bytes_eq (map (λ r. r.name) (filter is_strong rs))) link_unresolved
        ∙ same_made ms all_names among_all (flat_references before) (flat_references after) bytes_eq bytes_eq-Decides is_strong (λ r. r.name)
        ∙ ap (λ rs. distinct bytes_eq (map (λ r. r.name) (filter is_strong (filter (unresolved_by all_names) rs)))) (sym group_references)

    pub same_commons : commons (before ++ (M ∷ after)) ≡ commons (before ++ (ms ++ after))
    same_commons =
        ap (λ rs. distinct same_common (map (λ r. (r.name, common_size r.weak)) (filter is_common rs))) link_unresolved
        ∙ same_made ms all_names among_all (flat_references before) (flat_references after) same_common same_common-decides is_common
        (λ r. (r.name, common_size r.weak))
        ∙ ap (λ rs. distinct same_common (map (λ r. (r.name, common_size r.weak)) (filter is_common (filter (unresolved_by all_names) rs))))
        (sym group_references)

  -- what is left of the references is settled
  pub settled_unresolved : list_all (unresolved_by (public_names (M ∷ []))) M.names.references ≡ true
  settled_unresolved =
      let names : public_names (M ∷ []) ≡ public_names ms = append-nil _ ∙ own_names in
      let all : filter (unresolved_by (public_names ms)) (kept_references ms) ≡ kept_references ms
      = filter-distinct same_reference same_reference-decides (unresolved_by (public_names ms)) (unresolved_references ms)
      ∙ ap (distinct same_reference) (filter-weaker (unresolved_by (public_names ms)) (unresolved_by (public_names ms)) (λ y h. h) (flat_references ms)) in
      ap (λ found. list_all (unresolved_by found) M.names.references) names
      ∙ ap (list_all (unresolved_by (public_names ms))) (j.references ∙ sym all) ∙ list_all-filter (unresolved_by (public_names ms)) (kept_references ms)

  pub settled_apart : IsDistinct same_reference M.names.references
  settled_apart = subst (IsDistinct same_reference) (sym j.references) (IsDistinct-distinct same_reference (unresolved_references ms))

  pub same_own_names : public_names (M ∷ []) ≡ public_names ms
  same_own_names = append-nil _ ∙ own_names
