-- The walks over a list with a link and over the flat list have their likes in one another.
use Rattle.std.proofs.Common.{◌≡◌, ℕ, zero, suc, List, [], ◌∷◌, ◌++◌, map, Some, None, refl, sym, ◌∙◌, ap, subst}
use Rattle.std.specs.Prelude.{slice_get, option_to_list, flat_map}
use Rattle.mufom_expr.specs.Tree.{Tree}
use Rattle.mufom_debug.specs.Marks.{marks_of, expressions_of}
use Rattle.mufom_loads.specs.declared.load.Item.{Item}
use Rattle.mufom_loads.specs.declared.load.Item.TheVariants.{Literal, Field}
use Rattle.mufom_module.specs.declared.module.Parts.{Parts}
use Rattle.mufom_meaning.specs.Bases.{Bases}
use Rattle.mufom_meaning.specs.Flat.{Sited, sited, public_names}
use Rattle.mufom_meaning.specs.Values.{Setting, setting}
use Rattle.mufom_meaning.specs.Steps.{Step, counter_step, item_step, steps, counter}
use Rattle.mufom_meaning.specs.Joined.{IsJoined, joined_tree}
use Rattle.mufom_meaning.specs.Stands.{put_back, IsStepAfter}
use Rattle.mufom_meaning.specs.Staging.{AreValid}
use Rattle.mufom_meaning.proofs.Paired.{Paired, Paired-same}
use Rattle.mufom_meaning.proofs.staging.Moved.{shifted, IsOfGroup, MovedTree, stays, joins, MovedPublic, AreSettings, same_value, same_has_zero_divisor}
use Rattle.mufom_meaning.proofs.staging.MovedSteps.{MovedStep, counters, literals, fields, same_counter}
use Rattle.mufom_meaning.proofs.staging.LinkedLoads.{paired_steps}
use Rattle.mufom_meaning.proofs.staging.Groups.{paired_joined, are_of_group, home_of, paired_sites}
use Rattle.mufom_meaning.proofs.staging.Settings.{are_settings}
use Rattle.mufom_meaning.proofs.facts.Agreed.{loaded_agree, group_expressions, valid_middle}
use Rattle.mufom_meaning.proofs.facts.SameWalk.{TreesAgree, ItemsAgree, StepsAgree, Follows}
use Rattle.mufom_names.specs.Names.{AreDistinct}
use Rattle.mufom_meaning.specs.Walk.{SitedTree, start_trees, debug_trees}

module _ {A B : Type 0} (R : A → B → Type 0) where
  -- each element of the first list has a partner at its place in the second
  partner : (xs : List A) (ys : List B) → Paired R xs ys → (n : ℕ) (x : A) → slice_get xs n ≡ Some x → (y : B) × (slice_get ys n ≡ Some y) × R x y
  partner [] [] p n x e = absurd cc
  partner (a ∷ xs) (b ∷ ys) p zero x e = let same : a ≡ x = cc in (b, refl, subst (λ z. R z b) same p.0)
  partner (a ∷ xs) (b ∷ ys) p (suc n) x e = partner xs ys p.1 n x e
  partner [] (b ∷ ys) p n x e = absurd p
  partner (a ∷ xs) [] p n x e = absurd p

  -- the other way round
  abbrev Back : B → A → Type 0
  Back y x = R x y

  Paired-back : (xs : List A) (ys : List B) → Paired R xs ys → Paired Back ys xs
  Paired-back [] [] p = tt
  Paired-back (x ∷ xs) (y ∷ ys) p = (p.0, Paired-back xs ys p.1)
  Paired-back [] (y ∷ ys) p = absurd p
  Paired-back (x ∷ xs) [] p = absurd p

-- a step of the first list with those before it has its partner with those before it
module _ (R : Step → Step → Type 0) where
  record PutBack (earlier more ys : List Step) : Type 0 where
    earlier' : List Step
    more' : List Step
    split : ys ≡ put_back earlier' more'
    before : Paired R earlier earlier'
    after : Paired R more more'

  put_back-paired : (earlier more ys : List Step) → Paired R (put_back earlier more) ys → PutBack earlier more ys
  put_back-paired [] more ys p = record { earlier' = []; more' = ys; split = refl; before = tt; after = p }
  put_back-paired (step ∷ earlier) more ys p = let found = put_back-paired earlier (step ∷ more) ys p in
      by_more found.earlier' found.more' found.split found.before found.after where
        by_more : (earlier' more' : List Step) → ys ≡ put_back earlier' more' → Paired R earlier earlier' → Paired R (step ∷ more) more'
            → PutBack (step ∷ earlier) more ys
        by_more earlier' [] split before after = absurd after
        by_more earlier' (step' ∷ more') split before after = record {
          earlier' = step' ∷ earlier';
          more' = more';
          split = split;
          before =
              (after.0, before);
          after = after.1;
        }

  record StepLike (ns : List Parts) (earlier : List Step) (step : Step) : Type 0 where
    earlier' : List Step
    step' : Step
    there : IsStepAfter ns earlier' step'
    before : Paired R earlier earlier'
    own : R step step'

  step_like : (ms ns : List Parts) → Paired R (steps ms) (steps ns) → (earlier : List Step) (step : Step) → IsStepAfter ms earlier step
      → StepLike ns earlier step
  step_like ms ns p earlier step h = let found = put_back-paired earlier (step ∷ h.0) (steps ns) (subst (λ xs. Paired R xs (steps ns)) h.1 p) in
      by_more found.earlier' found.more' found.split found.before found.after where
        by_more : (earlier' more' : List Step) → steps ns ≡ put_back earlier' more' → Paired R earlier earlier' → Paired R (step ∷ h.0) more'
            → StepLike ns earlier step
        by_more earlier' [] split before after = absurd after
        by_more earlier' (step' ∷ more') split before after = record {
          earlier' = earlier';
          step' = step';
          there = (more', split);
          before = before;
          own = after.0;
        }

-- What agrees one way agrees the other way.
module _ (s u : Setting) where
  trees_back : (site : Sited) (t : Tree) (site' : Sited) (t' : Tree) → TreesAgree s u site t site' t' → TreesAgree u s site' t' site t
  trees_back site t site' t' h = record { same_value = λ pc. sym (h.same_value pc); same_divisor = λ pc. sym (h.same_divisor pc) }

  items_back : (site : Sited) (item : Item) (site' : Sited) (item' : Item) → ItemsAgree s u site item site' item' → ItemsAgree u s site' item' site item
  items_back site (Literal bytes) site' (Literal bytes') h = sym h
  items_back site (Field kind size t) site' (Field kind' size' t') h = (sym h.0, sym h.1, trees_back site t site' t' h.2)
  items_back site (Literal bytes) site' (Field kind size t) h = absurd h
  items_back site (Field kind size t) site' (Literal bytes) h = absurd h

  steps_back : (earlier : List Step) (step : Step) (earlier' : List Step) (step' : Step) → StepsAgree s u earlier step earlier' step'
      → StepsAgree u s earlier' step' earlier step
  steps_back earlier (counter_step site section t) earlier' (counter_step site' section' t') h = (sym h.0, sym h.1, trees_back site t site' t' h.2)
  steps_back earlier (item_step site section item) earlier' (item_step site' section' item') h =
      (sym h.0, sym h.1, sym h.2, items_back site item site' item' h.3)
  steps_back earlier (counter_step site section t) earlier' (item_step site' section' item') h = absurd h
  steps_back earlier (item_step site section item) earlier' (counter_step site' section' t') h = absurd h

module _ (ms : List Parts) (home : Sited) (s other : Setting) (h : AreSettings ms home s other) where
  trees_agree : (site : Sited) (t : Tree) (site' : Sited) (t' : Tree) → MovedTree ms home site t site' t' → TreesAgree s other site t site' t'
  trees_agree site t site' t' m = record {
    same_value = λ pc. same_value ms home s other h pc site t site' t' m;
    same_divisor = λ pc. same_has_zero_divisor ms home s other h pc site t site' t' m;
  }

  steps_agree : (step step' : Step) → MovedStep ms home step step' → (earlier earlier' : List Step) → Paired (MovedStep ms home) earlier earlier'
      → StepsAgree s other earlier step earlier' step'
  steps_agree _ _ (counters site site' section section' t t' e m) earlier earlier' p =
      (e, same_counter ms home s other h earlier earlier' p section ∙ ap (counter other earlier') e, trees_agree site t site' t' m)
  steps_agree _ _ (literals site site' section section' bytes e) earlier earlier' p =
      (e, same_counter ms home s other h earlier earlier' p section ∙ ap (counter other earlier') e, loaded_agree ms home s other h earlier earlier' p, refl)
  steps_agree _ _ (fields site site' section section' kind size t t' e m) earlier earlier' p = (
    e,
    same_counter ms home s other h earlier earlier' p section
        ∙ ap (counter other earlier') e,
    loaded_agree ms home s other h earlier earlier' p,
    (refl, refl, trees_agree site t site' t' m),
  )

module _ (M : Parts) (ms before after : List Parts) (name : List ℕ) (j : IsJoined M ms name) (valid : AreValid (before ++ (ms ++ after)))
    (names : AreDistinct (public_names (before ++ (ms ++ after)))) (placed : Bases) where
  abbrev linked : List Parts
  linked = before ++ (M ∷ after)

  abbrev flat : List Parts
  flat = before ++ (ms ++ after)

  abbrev s : Setting
  s = setting linked placed

  abbrev other : Setting
  other = setting flat placed

  abbrev home : Sited
  home = home_of M before

  settings : AreSettings ms (home_of M before) (setting (before ++ (M ∷ after)) placed) (setting (before ++ (ms ++ after)) placed)
  settings = are_settings M ms name j before after names placed

  abbrev R : Step → Step → Type 0
  R = MovedStep ms home

  all_steps : Paired R (steps linked) (steps flat)
  all_steps = paired_steps M ms name j (valid_middle before ms after valid) before after

  abbrev E : SitedTree → SitedTree → Type 0
  E x y = MovedTree ms home x.0 x.1 y.0 y.1

  paired_trees : (entries : Parts → List Tree) → entries M ≡ flat_map (λ site. map (joined_tree ms site) (entries site.parts)) (sited ms)
      → Paired E (flat_map (λ site. map (λ t. (site, t)) (entries site.parts)) (sited linked))
      (flat_map (λ site. map (λ t. (site, t)) (entries site.parts)) (sited flat))
  paired_trees entries own =
      paired_sites M ms name j before after E (λ site. map (λ t. (site, t)) (entries site.parts)) (λ site. map (λ t. (site, t)) (entries site.parts))
      (λ site. Paired-same E (λ x. stays x.0 x.1) (map (λ t. (site, t)) (entries site.parts)))
      (subst (λ ts. Paired E (map (λ t. (home, t)) ts) (flat_map (λ site. map (λ t. (shifted home site, t)) (entries site.parts)) (sited ms))) (sym own)
      (paired_joined E (λ site. entries site.parts) (joined_tree ms) (λ t. (home, t)) (λ site t. (shifted home site, t)) (IsOfGroup ms)
      (λ site within t. joins site t within) (sited ms) (are_of_group 0 0 0 ms)))

  all_starts : Paired E (start_trees linked) (start_trees flat)
  all_starts = paired_trees (λ m. option_to_list m.start) j.start

  all_debug : Paired E (debug_trees linked) (debug_trees flat)
  all_debug = paired_trees (λ m. expressions_of (marks_of m.debug)) (ap expressions_of j.debug ∙ group_expressions ms (sited ms))

  pub linked_follows : Follows linked flat s other
  linked_follows = record {
    modulus = settings.modulus;
    sections = settings.sections;
    bases = settings.bases;
    publics = λ q at.
        let found = partner (MovedPublic ms home) s.publics other.publics settings.publics at.0 q at.1 in
        let moved = trees_agree ms home s other settings q.site q.entry.value found.0.site found.0.entry.value found.2.tree in
        (found.0, (at.0, found.1), found.2.name, moved.same_divisor None);
    steps = λ earlier step h.
        let like = step_like R linked flat all_steps earlier step h in
        (like.earlier', like.step', like.there, steps_agree ms home s other settings step like.step' like.own earlier like.earlier' like.before);
    starts = λ e at.
        let found = partner E (start_trees linked) (start_trees flat) all_starts at.0 e at.1 in
        (found.0, (at.0, found.1), (trees_agree ms home s other settings e.0 e.1 found.0.0 found.0.1 found.2).same_divisor None);
    debug = λ n e at.
        let found = partner E (debug_trees linked) (debug_trees flat) all_debug n e at in
        (found.0, found.1, (trees_agree ms home s other settings e.0 e.1 found.0.0 found.0.1 found.2).same_divisor None);
  }

  pub flat_follows : Follows flat linked other s
  flat_follows = record {
    modulus = sym settings.modulus;
    sections = sym settings.sections;
    bases = sym settings.bases;
    publics = λ q at.
        let found = partner (Back (MovedPublic ms home)) other.publics s.publics
        (Paired-back (MovedPublic ms home) s.publics other.publics settings.publics) at.0 q at.1 in
        let moved = trees_agree ms home s other settings found.0.site found.0.entry.value q.site q.entry.value found.2.tree in
        (found.0, (at.0, found.1), sym found.2.name, sym (moved.same_divisor None));
    steps = λ earlier step h.
        let like = step_like (Back R) flat linked (Paired-back R (steps linked) (steps flat) all_steps) earlier step h in
        let before = Paired-back (Back R) earlier like.earlier' like.before in (
          like.earlier',
          like.step',
          like.there,
          steps_back s other like.earlier' like.step' earlier step (steps_agree ms home s other settings like.step' step like.own like.earlier' earlier before),
        );
    starts = λ e at.
        let found = partner (Back E) (start_trees flat) (start_trees linked) (Paired-back E (start_trees linked) (start_trees flat) all_starts) at.0 e at.1 in
        (found.0, (at.0, found.1), sym ((trees_agree ms home s other settings found.0.0 found.0.1 e.0 e.1 found.2).same_divisor None));
    debug = λ n e at.
        let found = partner (Back E) (debug_trees flat) (debug_trees linked) (Paired-back E (debug_trees linked) (debug_trees flat) all_debug) n e at in
        (found.0, found.1, sym ((trees_agree ms home s other settings found.0.0 found.0.1 e.0 e.1 found.2).same_divisor None));
  }
