-- Where what a walk meets in one list has its like in another, each fact of the first walk is one of the second.
use Rattle.std.proofs.Common.{◌≡◌, ℕ, ◌+◌, ◌<◌, ◌≤◌, ◌⊎◌, inl, inr, List, length, Option, Some, None, sym, ◌∙◌, ap, subst}
use Rattle.std.specs.Prelude.{slice_get, unwrap_or, option_map, ◌%◌, IsTrue}
use Rattle.mufom_expr.specs.declared.token.FieldKind.{FieldKind}
use Rattle.mufom_expr.specs.Tree.{Tree}
use Rattle.mufom_sections.specs.declared.section.Section.{Section}
use Rattle.mufom_loads.specs.declared.load.Item.{Item}
use Rattle.mufom_loads.specs.declared.load.Item.TheVariants.{Literal, Field}
use Rattle.mufom_module.specs.declared.module.Parts.{Parts}
use Rattle.mufom_meaning.specs.declared.located.Site.{Site}
use Rattle.mufom_meaning.specs.declared.located.Site.TheVariants as sites
use Rattle.mufom_meaning.specs.Flat.{Sited, SitedPublic}
use Rattle.mufom_meaning.specs.Values.{Setting, value, has_zero_divisor}
use Rattle.mufom_meaning.specs.Steps.{Step, counter_step, item_step, counter}
use Rattle.mufom_meaning.specs.Facts.{LocateFact, zero_divisor, load_outside, loaded_twice, overflow, placement, undefined, common_unplaced, cycle, image_limit}
use Rattle.mufom_meaning.specs.Stands.{StandsIn, IsStepAfter, IsLoadedAt, HasZeroDivisor, StandsInWalk}
use Rattle.mufom_loads.specs.Lengths.{byte_count}
use Rattle.mufom_meaning.specs.Walk.{size_at, loaded_addresses, SitedTree, start_trees, debug_trees, base_number}
use Rattle.mufom_meaning.specs.Fields.{fits}

module _ (s u : Setting) where
  -- the expressions have the same value at each counter, and in both or in none a divisor is 0
  pub record TreesAgree (site : Sited) (t : Tree) (site' : Sited) (t' : Tree) : Type 0 where
    pub same_value : (pc : Option ℕ) → value s site pc t ≡ value u site' pc t'
    pub same_divisor : (pc : Option ℕ) → has_zero_divisor s site pc t ≡ has_zero_divisor u site' pc t'

  -- literals of one length, or fields of one kind and size whose expressions agree
  abbrev pub ItemsAgree : Sited → Item → Sited → Item → Type 0
  ItemsAgree site (Literal bytes) site' (Literal bytes') = length bytes ≡ length bytes'
  ItemsAgree site (Field kind size t) site' (Field kind' size' t') = (kind ≡ kind') × (size ≡ size') × TreesAgree site t site' t'
  ItemsAgree site (Literal bytes) site' (Field kind size t) = ⊥
  ItemsAgree site (Field kind size t) site' (Literal bytes) = ⊥

  -- steps at one section, with one counter before them, that do the same after the same was loaded
  abbrev pub StepsAgree : List Step → Step → List Step → Step → Type 0
  StepsAgree earlier (counter_step site section t) earlier' (counter_step site' section' t') =
      (section ≡ section') × (counter s earlier section ≡ counter u earlier' section') × TreesAgree site t site' t'
  StepsAgree earlier (item_step site section item) earlier' (item_step site' section' item') =
      (section ≡ section') × (counter s earlier section ≡ counter u earlier' section') × (loaded_addresses s earlier ≡ loaded_addresses u earlier')
      × ItemsAgree site item site' item'
  StepsAgree earlier (counter_step site section t) earlier' (item_step site' section' item) = ⊥
  StepsAgree earlier (item_step site section item) earlier' (counter_step site' section' t) = ⊥

  -- in both or in none of the two, which hold no counter, a divisor is 0
  abbrev pub EntriesAgree : Sited → Tree → Sited → Tree → Type 0
  EntriesAgree site t site' t' = has_zero_divisor s site None t ≡ has_zero_divisor u site' None t'

-- what the walk meets in the first list has its like in the second
pub record Follows (ms ns : List Parts) (s u : Setting) : Type 0 where
  pub modulus : s.modulus ≡ u.modulus
  pub sections : s.sections ≡ u.sections
  pub bases : s.bases ≡ u.bases
  pub publics : (q : SitedPublic) → StandsIn q s.publics → (r : SitedPublic) × StandsIn r u.publics × (q.entry.name ≡ r.entry.name)
      × EntriesAgree s u q.site q.entry.value r.site r.entry.value
  pub steps : (earlier : List Step) (step : Step) → IsStepAfter ms earlier step → (earlier' : List Step) × (step' : Step)
      × IsStepAfter ns earlier' step' × StepsAgree s u earlier step earlier' step'
  pub starts : (e : SitedTree) → StandsIn e (start_trees ms) → (f : SitedTree) × StandsIn f (start_trees ns) × EntriesAgree s u e.0 e.1 f.0 f.1
  pub debug : (n : ℕ) (e : SitedTree) → slice_get (debug_trees ms) n ≡ Some e → (f : SitedTree) × (slice_get (debug_trees ns) n ≡ Some f)
      × EntriesAgree s u e.0 e.1 f.0 f.1

item_lengths : (s u : Setting) (site : Sited) (item : Item) (site' : Sited) (item' : Item) → ItemsAgree s u site item site' item' → byte_count item
    ≡ byte_count item'
item_lengths s u site (Literal bytes) site' (Literal bytes') same = same
item_lengths s u site (Field kind size t) site' (Field kind' size' t') same = same.1
item_lengths s u site (Literal bytes) site' (Field kind size t) same = absurd same
item_lengths s u site (Field kind size t) site' (Literal bytes) same = absurd same

module _ (ms ns : List Parts) (s u : Setting) (all : Follows ms ns s u) where
  -- an item that is loaded at a counter has its like, which is loaded there at the same counter
  record LoadedLike (earlier : List Step) (site : Sited) (section at : ℕ) (item : Item) : Type 0 where
    earlier' : List Step
    site' : Sited
    item' : Item
    there : IsLoadedAt ns u earlier' site' section at item'
    loaded : loaded_addresses s earlier ≡ loaded_addresses u earlier'
    items : ItemsAgree s u site item site' item'

  loaded_like : (earlier : List Step) (site : Sited) (section at : ℕ) (item : Item) → IsLoadedAt ms s earlier site section at item
      → LoadedLike earlier site section at item
  loaded_like earlier site section at item h = let found = all.steps earlier (item_step site section item) h.0 in by_step found.0 found.1 found.2 found.3 where
    by_step : (earlier' : List Step) (step' : Step) → IsStepAfter ns earlier' step'
        → StepsAgree s u earlier (item_step site section item) earlier' step' → LoadedLike earlier site section at item
    by_step earlier' (counter_step site' section' t) after agree = absurd agree
    by_step earlier' (item_step site' section' item') after agree =
        let there : IsLoadedAt ns u earlier' site' section' at item' = (after, sym agree.1 ∙ h.1) in
        record {
          earlier' = earlier';
          site' = site';
          item' = item';
          there = subst (λ n. IsLoadedAt ns u earlier' site' n at item') (sym agree.0) there;
          loaded = agree.2;
          items = agree.3;
        }

  -- of a field, the like is a field
  record FieldLike (site : Sited) (section at : ℕ) (kind : FieldKind) (t : Tree) (size : ℕ) : Type 0 where
    earlier' : List Step
    site' : Sited
    t' : Tree
    there : IsLoadedAt ns u earlier' site' section at (Field kind size t')
    trees : TreesAgree s u site t site' t'

  field_like : (earlier : List Step) (site : Sited) (section at : ℕ) (kind : FieldKind) (t : Tree) (size : ℕ)
      → IsLoadedAt ms s earlier site section at (Field kind size t) → FieldLike site section at kind t size
  field_like earlier site section at kind t size h = let like = loaded_like earlier site section at (Field kind size t) h in
      by_item like.earlier' like.site' like.item' like.there like.items where
        by_item : (earlier' : List Step) (site' : Sited) (item' : Item) → IsLoadedAt ns u earlier' site' section at item'
            → ItemsAgree s u site (Field kind size t) site' item' → FieldLike site section at kind t size
        by_item earlier' site' (Literal bytes) there same = absurd same
        by_item earlier' site' (Field kind' size' t') there same =
            let back : IsLoadedAt ns u earlier' site' section at (Field kind size t') =
            subst (λ k. IsLoadedAt ns u earlier' site' section at (Field k size t')) (sym same.0)
            (subst (λ n. IsLoadedAt ns u earlier' site' section at (Field kind' n t')) (sym same.1) there) in
            record { earlier' = earlier'; site' = site'; t' = t'; there = back; trees = same.2 }

  zero_divisor_like : (place : Site) → HasZeroDivisor ms s place → HasZeroDivisor ns u place
  zero_divisor_like (sites.Public name) h = let found = all.publics h.0 h.1 in (found.0, found.1, sym found.2 ∙ h.2, sym found.3 ∙ h.3)
  zero_divisor_like (sites.Counter section) h = let found = all.steps h.0 (counter_step h.1 section h.2) h.3 in by_step found.0 found.1 found.2 found.3 where
    by_step : (earlier' : List Step) (step' : Step) → IsStepAfter ns earlier' step' → StepsAgree s u h.0 (counter_step h.1 section h.2) earlier' step'
        → HasZeroDivisor ns u (sites.Counter section)
    by_step earlier' (item_step site' section' item) after agree = absurd agree
    by_step earlier' (counter_step site' section' t') after agree =
        let there : IsTrue (has_zero_divisor u site' (counter u earlier' section') t')
        = ap (λ pc. has_zero_divisor u site' pc t') (sym agree.1) ∙ sym (agree.2.same_divisor (counter s h.0 section)) ∙ h.4 in
        let pair : IsStepAfter ns earlier' (counter_step site' section t') × IsTrue (has_zero_divisor u site' (counter u earlier' section) t')
        = subst (λ n. IsStepAfter ns earlier' (counter_step site' n t')
        × IsTrue (has_zero_divisor u site' (counter u earlier' n) t')) (sym agree.0) (after, there) in
        (earlier', site', t', pair.0, pair.1)
  zero_divisor_like (sites.Field section at) h =
      let like = field_like h.0 h.1 section at h.2 h.3 h.4 h.5 in
      (like.earlier', like.site', h.2, like.t', h.4, like.there, sym (like.trees.same_divisor (Some at)) ∙ h.6)
  zero_divisor_like sites.Start h = let found = all.starts h.0 h.1 in (found.0, found.1, sym found.2 ∙ h.2)
  zero_divisor_like (sites.Debug n) h = let found = all.debug n h.0 h.1 in (found.0, found.1, sym found.2 ∙ h.2)

  same_base : (section : ℕ) → base_number s section ≡ base_number u section
  same_base section = ap (λ (bases : List ℕ). unwrap_or (slice_get bases section) 0) all.bases

  same_size : (section : ℕ) → size_at s section ≡ size_at u section
  same_size section = ap (λ (sections : List Section). unwrap_or (option_map (λ found. found.size) (slice_get sections section)) 0) all.sections

  -- a fact of the one walk is one of the other
  pub walk_fact_like : (fact : LocateFact) → StandsInWalk ms s fact → StandsInWalk ns u fact
  walk_fact_like (zero_divisor place) h = zero_divisor_like place h
  walk_fact_like (load_outside section address) h = let like = loaded_like h.0 h.1 section h.2 h.4 h.5 in
      let inside : h.3 < byte_count like.item' = subst (λ n. h.3 < n) (item_lengths s u h.1 h.4 like.site' like.item' like.items) h.6 in
      let out : (h.2 + h.3 < base_number u section) ⊎ (base_number u section + size_at u section ≤ h.2 + h.3)
      = subst (λ b. (h.2 + h.3 < b) ⊎ (b + size_at u section ≤ h.2 + h.3)) (same_base section)
      (subst (λ n. (h.2 + h.3 < base_number s section) ⊎ (base_number s section + n ≤ h.2 + h.3)) (same_size section) h.7) in
      (like.earlier', like.site', h.2, h.3, like.item', like.there, inside, out, h.8 ∙ ap (λ m. (h.2 + h.3) % m) all.modulus)
  walk_fact_like (loaded_twice address) h = let like = loaded_like h.0 h.1 h.2 h.3 h.5 h.6 in
      let inside : h.4 < byte_count like.item' = subst (λ n. h.4 < n) (item_lengths s u h.1 h.5 like.site' like.item' like.items) h.7 in (
        like.earlier',
        like.site',
        h.2,
        h.3,
        h.4,
        like.item',
        like.there,
        inside,
        h.8
            ∙ ap (λ m. (h.3 + h.4) % m) all.modulus,
        before like.earlier' like.loaded h.9,
      ) where
        before : (earlier' : List Step) → loaded_addresses s h.0 ≡ loaded_addresses u earlier'
            → StandsIn address (loaded_addresses s h.0) ⊎ ((p : ℕ) × (p < h.4) × (address ≡ (h.3 + p) % s.modulus))
            → StandsIn address (loaded_addresses u earlier') ⊎ ((p : ℕ) × (p < h.4) × (address ≡ (h.3 + p) % u.modulus))
        before earlier' same (inl at) = inl (subst (StandsIn address) same at)
        before earlier' same (inr twice) = inr (twice.0, twice.1, twice.2 ∙ ap (λ m. (h.3 + twice.0) % m) all.modulus)
  walk_fact_like (overflow section at kind size v) h =
      let like = field_like h.0 h.1 section at kind h.2 size h.3 in
      (like.earlier', like.site', like.t', like.there, sym (like.trees.same_value (Some at)) ∙ h.4, λ fit. h.5 (ap (λ m. fits m kind size v) all.modulus ∙ fit))
  walk_fact_like (placement refusal) h = absurd h
  walk_fact_like (undefined name) h = absurd h
  walk_fact_like (common_unplaced name) h = absurd h
  walk_fact_like (cycle name) h = absurd h
  walk_fact_like (image_limit count) h = absurd h
