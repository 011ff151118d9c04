-- What is kept of a list is within the bounds of its parts if the list is, and weighs no more than the list, with the name of a module.
use Rattle.std.proofs.Common.{ℕ, ◌≤◌, Bool, true, false, List, [], ◌∷◌, map, filter, Option, Some, None, option_map, sym, ap, subst}
use Rattle.std.proofs.Common.{arith}
use Rattle.std.specs.Prelude.{option_to_list}
use Rattle.std.specs.List.{AllByRecursion}
use Rattle.std.proofs.lemmas.List.Sums.{sum_by-cons}
use Rattle.mufom_expr.specs.Tree.{Tree}
use Rattle.mufom_names.specs.declared.name.Public.{Public}
use Rattle.mufom_loads.specs.declared.load.Item.{Item}
use Rattle.mufom_loads.specs.declared.load.Item.TheVariants.{Literal, Field}
use Rattle.mufom_loads.specs.declared.load.Load.{Load}
use Rattle.mufom_loads.specs.declared.load.Load.TheVariants.{SetSection, SetPc, One, Repeat}
use Rattle.mufom_module.specs.declared.module.Parts.{Parts}
use Rattle.mufom_module.specs.Contents.{current_after, placed_from, placed_loads}
use Rattle.mufom_module.specs.Made.{IsMadeReference, IsMadeSection}
use Rattle.mufom_module.specs.Written.{weight}
use Rattle.mufom_meaning.specs.Joined.{IsJoined}
use Rattle.mufom_meaning.specs.Staging.{AreValid}
use Rattle.mufom_meaning.specs.StagingLaws.{total_weight}
use Rattle.mufom_meaning.proofs.Members.{filter-In}
use Rattle.mufom_meaning.proofs.staging.JoinedValid.{joined_is_valid}
use Rattle.mufom_prune.specs.Pruned.{Remains, new_item, new_load, new_public, new_tree, new_variable, positions_of, remaining, remains, stays, without_others}
use Rattle.mufom_prune.proofs.PrunedWeight.{pruned_weighs}
use Rattle.mufom_groups.specs.Groups.{most_weight}
use Rattle.mufom_groups.specs.Linked.{first_name}
use Rattle.mufom_groups.specs.Work.{gives}
use Rattle.mufom_works.specs.Roots.{Roots, first_unknown}
use Rattle.mufom_works.specs.Works.{Kept, kept_of, kept_unless}
use Rattle.mufom_bounds.specs.Bounded.{IsBounded, IsBoundedItem, IsBoundedLoad, IsBoundedPublic, IsBoundedTree}
use Rattle.mufom_bounds.proofs.Bounded.{renamed-tree}
use Rattle.mufom_run_laws.proofs.BoundedInputs.{AreBounded}
use Rattle.mufom_bounds.proofs.BoundedLinks.{all-in, in-all, joined-bounded}
use Rattle.mufom_run_laws.proofs.LinkResults.{first-is}

-- ---- lists

remaining-all : {A : Type 0} (Is : A → Type 0) (marks : List Bool) (xs : List A) → AllByRecursion Is xs → AllByRecursion Is (remaining marks xs)
remaining-all Is [] xs are = tt
remaining-all Is (mark ∷ marks) [] are = tt
remaining-all Is (true ∷ marks) (x ∷ xs) are = (are.0, remaining-all Is marks xs are.1)
remaining-all Is (false ∷ marks) (x ∷ xs) are = remaining-all Is marks xs are.1

mapped-all : {A B : Type 0} (Is : A → Type 0) (Also : B → Type 0) (f : A → B) → ((x : A) → Is x → Also (f x)) → (xs : List A) → AllByRecursion Is xs
    → AllByRecursion Also (map f xs)
mapped-all Is Also f each [] are = tt
mapped-all Is Also f each (x ∷ xs) are = (each x are.0, mapped-all Is Also f each xs are.1)

filtered-all : {A : Type 0} (Is : A → Type 0) (test : A → Bool) (xs : List A) → AllByRecursion Is xs → AllByRecursion Is (filter test xs)
filtered-all Is test xs are = all-in Is (filter test xs) (λ x there. in-all Is xs are x (filter-In test x xs there))

-- ---- what remains of a module

-- a load with the section that is current before it
abbrev IsBoundedPlaced : Option ℕ × Load → Type 0
IsBoundedPlaced p = IsBoundedLoad p.1

placed-all : (current : Option ℕ) (loads : List Load) → AllByRecursion IsBoundedLoad loads → AllByRecursion IsBoundedPlaced (placed_from current loads)
placed-all current [] are = tt
placed-all current (load ∷ loads) are = (are.0, placed-all (current_after current load) loads are.1)

module _ (c : Remains) where
  tree-left : (t : Tree) → IsBoundedTree t → IsBoundedTree (new_tree (positions_of c) t)
  tree-left t is = renamed-tree (new_variable (positions_of c)) t is

  public-left : (p : Public) → IsBoundedPublic p → IsBoundedPublic (new_public (positions_of c) p)
  public-left p is = record { name = is.name; value = tree-left p.value is.value; notes = is.notes }

  item-left : (item : Item) → IsBoundedItem item → IsBoundedItem (new_item (positions_of c) item)
  item-left (Literal bytes) is = is
  item-left (Field kind size t) is = tree-left t is

  load-left : (load : Load) → IsBoundedLoad load → IsBoundedLoad (new_load (positions_of c) load)
  load-left (SetSection section) is = tt
  load-left (SetPc section t) is = tree-left t is
  load-left (One item) is = item-left item is
  load-left (Repeat count items) is =
      (is.0, mapped-all IsBoundedItem IsBoundedItem (new_item (positions_of c)) item-left items is.1)

  start-left : (start : Option Tree) → AllByRecursion IsBoundedTree (option_to_list start)
      → AllByRecursion IsBoundedTree (option_to_list (option_map (new_tree (positions_of c)) start))
  start-left None are = tt
  start-left (Some t) are = (tree-left t are.0, tt)

  left-bounded : (m : Parts) → IsBounded m → IsBounded (without_others m c)
  left-bounded m is = record {
    processor = is.processor;
    name = is.name;
    ext = is.ext;
    env = is.env;
    sections = remaining-all IsMadeSection c.sections m.sections is.sections;
    publics = mapped-all IsBoundedPublic IsBoundedPublic (new_public (positions_of c)) public-left (remaining c.publics m.names.publics)
        (remaining-all IsBoundedPublic c.publics m.names.publics is.publics);
    references = remaining-all IsMadeReference c.references m.names.references is.references;
    debug = tt;
    loads = mapped-all IsBoundedPlaced IsBoundedLoad (λ p. new_load (positions_of c) p.1) (λ p own. load-left p.1 own)
        (filter (stays c.sections) (placed_loads m))
        (filtered-all IsBoundedPlaced (stays c.sections) (placed_loads m) (placed-all None m.loads is.loads));
    start = start-left m.start is.start;
  }

-- ---- what is kept of a list

-- what the modules that are located may be
pub record AreKept (ms : List Parts) : Type 0 where
  pub bounded : AreBounded ms
  pub light : total_weight ms ≤ 671154176

module _ (flat : List Parts) (valid : AreValid flat) (bounded : AreBounded flat) (light : total_weight flat ≤ most_weight) where
  rest-kept : (M : Parts) → IsJoined M flat (first_name flat) → (c : Remains) → AreKept (without_others M c ∷ [])
  rest-kept M joined c =
      let name = first-is flat valid bounded in
      let short = name.short in
      let weighs = (joined_is_valid M flat (first_name flat) joined valid).weighs in
      let less = pruned_weighs M c in
      let sum = sum_by-cons weight (without_others M c) [] in
      record {
        bounded = (left-bounded c M (joined-bounded M flat (first_name flat) joined name.bytes bounded), tt);
        light = omega (arith, short, weighs, less, sum, light);
      }

  unless-kept : (roots : Roots) (o : Option (List ℕ)) (kept : Kept) → kept_unless o roots flat (gives kept) → AreKept kept.modules
  unless-kept roots (Some name) kept is = absurd is
  unless-kept roots None kept (M, (sound, joined), (marks, is_kept, same)) =
      subst AreKept (sym (ap (λ (k : Kept). k.modules) same)) (rest-kept M joined (remains M marks))

  pub kept-bounded : (keep : Option Roots) (kept : Kept) → kept_of keep flat (gives kept) → AreKept kept.modules
  kept-bounded None kept is =
      subst AreKept (sym (ap (λ (k : Kept). k.modules) is)) (record { bounded = bounded; light = omega (arith, light) })
  kept-bounded (Some roots) kept is = unless-kept roots (first_unknown flat roots.names) kept is
