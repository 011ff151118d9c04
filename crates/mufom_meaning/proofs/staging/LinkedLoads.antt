-- The loads of a link are, step by step, those of its group.
use Rattle.std.proofs.Common.{◌≡◌, ℕ, zero, suc, ◌+◌, List, [], ◌∷◌, ◌++◌, map, length, Option, Some, None, true, refl, sym, ◌∙◌, ap, subst}
use Rattle.std.proofs.Common.{add_assoc, append_assoc, flat_map}
use Rattle.std.specs.Prelude.{IsTrue}
use Rattle.mufom_loads.specs.declared.load.Item.{Item}
use Rattle.mufom_loads.specs.declared.load.Item.TheVariants.{Literal, Field}
use Rattle.mufom_loads.specs.declared.load.Load.{Load}
use Rattle.mufom_loads.specs.declared.load.Load.TheVariants.{SetSection, SetPc, One, Repeat}
use Rattle.mufom_loads.specs.Lengths.{repeated}
use Rattle.mufom_debug.specs.Marks.{marks_of}
use Rattle.mufom_module.specs.declared.module.Parts.{Parts}
use Rattle.mufom_module.specs.Contents.{current_after}
use Rattle.mufom_meaning.proofs.NoDefects.{begin_with_section, loads_begin_with_section}
use Rattle.mufom_meaning.specs.Flat.{Sited, sited, sited_from, name_count}
use Rattle.mufom_meaning.specs.Steps.{Step, counter_step, item_steps, steps_of, steps}
use Rattle.mufom_meaning.specs.Joined.{IsJoined, joined_item, joined_load, joined_tree}
use Rattle.mufom_meaning.specs.Staging.{AreValid}
use Rattle.mufom_meaning.proofs.Paired.{Paired, Paired-append, Paired-same}
use Rattle.mufom_meaning.proofs.staging.Moved.{shifted, IsOfGroup, joins}
use Rattle.mufom_meaning.proofs.staging.MovedSteps.{MovedStep, counters, literals, fields, stays_step}
use Rattle.mufom_meaning.proofs.staging.Groups.{AllSites, are_of_group, home_of, paired_sites}

-- the section that is current after some loads
abbrev after_all : Option ℕ → List Load → Option ℕ
after_all current [] = current
after_all current (load ∷ loads) = after_all (current_after current load) loads

steps_of-append : (site : Sited) (current : Option ℕ) (xs ys : List Load) → steps_of site current (xs ++ ys) ≡ steps_of site current xs
    ++ steps_of site (after_all current xs) ys
steps_of-append site current [] ys = refl
steps_of-append site current (SetSection section ∷ xs) ys = steps_of-append site (Some section) xs ys
steps_of-append site current (SetPc section t ∷ xs) ys = ap (λ rest. counter_step site (site.first_section + section) t ∷ rest)
    (steps_of-append site current xs ys)
steps_of-append site current (One item ∷ xs) ys =
    ap (λ rest. item_steps site current (item ∷ []) ++ rest) (steps_of-append site current xs ys)
    ∙ sym (append_assoc (item_steps site current (item ∷ [])) (steps_of site current xs) (steps_of site (after_all current xs) ys))
steps_of-append site current (Repeat count items ∷ xs) ys =
    ap (λ rest. repeated count (item_steps site current items) ++ rest) (steps_of-append site current xs ys)
    ∙ sym (append_assoc (repeated count (item_steps site current items)) (steps_of site current xs) (steps_of site (after_all current xs) ys))

-- loads that begin with a section do not depend on the current one before them
steps_of-fresh : (site : Sited) (loads : List Load) → begin_with_section loads ≡ true → (current : Option ℕ) → steps_of site current loads
    ≡ steps_of site None loads
steps_of-fresh site [] h current = refl
steps_of-fresh site (SetSection section ∷ loads) h current = refl
steps_of-fresh site (SetPc section t ∷ loads) h current = ap (λ rest. counter_step site (site.first_section + section) t ∷ rest)
    (steps_of-fresh site loads h current)
steps_of-fresh site (One item ∷ loads) h current = absurd cc
steps_of-fresh site (Repeat count items ∷ loads) h current = absurd cc

module _ (ms : List Parts) (home : Sited) where
  begin_with_section-joined : (site : Sited) (loads : List Load) → begin_with_section (map (joined_load ms site) loads) ≡ begin_with_section loads
  begin_with_section-joined site [] = refl
  begin_with_section-joined site (SetSection section ∷ loads) = refl
  begin_with_section-joined site (SetPc section t ∷ loads) = begin_with_section-joined site loads
  begin_with_section-joined site (One item ∷ loads) = refl
  begin_with_section-joined site (Repeat count items ∷ loads) = refl

  abbrev R : Step → Step → Type 0
  R = MovedStep ms home

  shifted_section : (site : Sited) (n : ℕ) → home.first_section + (site.first_section + n) ≡ (home.first_section + site.first_section) + n
  shifted_section site n = sym (add_assoc home.first_section site.first_section n)

  abbrev moved_current : Sited → Option ℕ → Option ℕ
  moved_current site None = None
  moved_current site (Some n) = Some (site.first_section + n)

  paired_items : (site : Sited) → IsOfGroup ms site → (current : Option ℕ) (items : List Item)
      → Paired R (item_steps home (moved_current site current) (map (joined_item ms site) items)) (item_steps (shifted home site) current items)
  paired_items site within None items = tt
  paired_items site within (Some n) [] = tt
  paired_items site within (Some n) (Literal bytes ∷ items) =
      (literals home (shifted home site) _ _ bytes (shifted_section site n), paired_items site within (Some n) items)
  paired_items site within (Some n) (Field kind size t ∷ items) = (
    fields home (shifted home site) _ _ kind size (joined_tree ms site t) t (shifted_section site n) (joins site t within),
    paired_items site within (Some n) items,
  )

  paired_repeated : (n : ℕ) (xs ys : List Step) → Paired R xs ys → Paired R (repeated n xs) (repeated n ys)
  paired_repeated zero xs ys p = tt
  paired_repeated (suc n) xs ys p = Paired-append R xs _ ys _ p (paired_repeated n xs ys p)

  paired_loads : (site : Sited) → IsOfGroup ms site → (current : Option ℕ) (loads : List Load)
      → Paired R (steps_of home (moved_current site current) (map (joined_load ms site) loads)) (steps_of (shifted home site) current loads)
  paired_loads site within current [] = tt
  paired_loads site within current (SetSection n ∷ loads) = paired_loads site within (Some n) loads
  paired_loads site within current (SetPc n t ∷ loads) =
      (counters home (shifted home site) _ _ (joined_tree ms site t) t (shifted_section site n) (joins site t within), paired_loads site within current loads)
  paired_loads site within current (One item ∷ loads) =
      Paired-append R _ _ _ _ (paired_items site within current (item ∷ [])) (paired_loads site within current loads)
  paired_loads site within current (Repeat count items ∷ loads) =
      Paired-append R _ _ _ _ (paired_repeated count _ _ (paired_items site within current items)) (paired_loads site within current loads)

  -- what each module of the group has to keep
  abbrev pub IsLoadedGroup : Sited → Type 0
  IsLoadedGroup site = IsOfGroup ms site × IsTrue (begin_with_section site.parts.loads)

  pub paired_group : (sites : List Sited) → AllSites IsLoadedGroup sites → (current : Option ℕ)
      → Paired R (steps_of home current (flat_map (λ site. map (joined_load ms site) site.parts.loads) sites))
      (flat_map (λ site. steps_of (shifted home site) None site.parts.loads) sites)
  paired_group [] all current = tt
  paired_group (site ∷ sites) all current =
      let prefix : List Load = map (joined_load ms site) site.parts.loads in
      let back : List Load = flat_map (λ x. map (joined_load ms x) x.parts.loads) sites in
      let begins : begin_with_section prefix ≡ true = begin_with_section-joined site site.parts.loads ∙ all.0.1 in
      let split : steps_of home current (prefix ++ back) ≡ steps_of home None prefix ++ steps_of home (after_all current prefix) back
      = steps_of-append home current prefix back ∙ ap (λ steps. steps
      ++ steps_of home (after_all current prefix) back) (steps_of-fresh home prefix begins current) in
      subst (λ steps. Paired R steps (steps_of (shifted home site) None site.parts.loads
      ++ flat_map (λ x. steps_of (shifted home x) None x.parts.loads) sites)) (sym split)
      (Paired-append R _ _ _ _ (paired_loads site all.0.0 None site.parts.loads) (paired_group sites all.1 (after_all current prefix)))

valid_sites : (s p d : ℕ) (xs : List Parts) → AreValid xs → AllSites (λ site. IsTrue (begin_with_section site.parts.loads)) (sited_from s p d xs)
valid_sites s p d [] v = tt
valid_sites s p d (x ∷ xs) v = (
  loads_begin_with_section x v.0,
  valid_sites (s + length x.sections) (p + length x.names.publics) (d + name_count (marks_of x.debug)) xs v.1,
)

AllSites-both : (P Q : Sited → Type 0) (sites : List Sited) → AllSites P sites → AllSites Q sites → AllSites (λ site. P site × Q site) sites
AllSites-both P Q [] p q = tt
AllSites-both P Q (site ∷ sites) p q = ((p.0, q.0), AllSites-both P Q sites p.1 q.1)

module _ (M : Parts) (ms : List Parts) (name : List ℕ) (j : IsJoined M ms name) (v : AreValid ms) (before after : List Parts) where
  pub paired_steps : Paired (MovedStep ms (home_of M before)) (steps (before ++ (M ∷ after))) (steps (before ++ (ms ++ after)))
  paired_steps =
      let R = MovedStep ms (home_of M before) in
      let group = paired_group ms (home_of M before) (sited ms)
      (AllSites-both (IsOfGroup ms) (λ site. IsTrue (begin_with_section site.parts.loads)) (sited ms) (are_of_group 0 0 0 ms) (valid_sites 0 0 0 ms v)) None in
      paired_sites M ms name j before after R (λ site. steps_of site None site.parts.loads) (λ site. steps_of site None site.parts.loads)
      (λ site. Paired-same R (stays_step ms (home_of M before)) (steps_of site None site.parts.loads))
      (subst (λ loads. Paired R (steps_of (home_of M before) None loads)
      (flat_map (λ site. steps_of (shifted (home_of M before) site) None site.parts.loads) (sited ms)))
      (sym j.loads) group)
