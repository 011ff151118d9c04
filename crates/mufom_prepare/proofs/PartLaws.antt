-- What is located of the modules of a tree, its map, and what keeps the modules from being located.
use Rattle.std.proofs.Common.{◌≡◌, ◌<◌, ℕ, arith, List, [], ◌∷◌, length, Option, None, Some, refl, sym, ap, subst, ◌∙◌}
use Rattle.mufom_names.specs.Names.{AreDistinct, names_of}
use Rattle.mufom_module.specs.declared.module.Parts.{Parts}
use Rattle.mufom_module.specs.Written.{weight}
use Rattle.mufom_plan.specs.declared.plan.Plan.{Plan}
use Rattle.mufom_locating.specs.Light.{weight_limit}
use Rattle.mufom_planned.specs.ReadPlans.{IsReadPlan}
use Rattle.mufom_planned.specs.Planned.{IsPlanned}
use Rattle.mufom_planned.specs.PlanLaws.{HasSoundSymbols}
use Rattle.mufom_meaning.specs.declared.located.LocatedParts.{LocatedParts}
use Rattle.mufom_meaning.specs.Staging.{AreValid}
use Rattle.mufom_words.specs.Sound.{numbers_from}
use Rattle.mufom_words.specs.Tree.{Forest, leaves}
use Rattle.mufom_groups.specs.Linked.{linked_module, members, roots}
use Rattle.mufom_groups.specs.Work.{gives, stops, with_stops}
use Rattle.mufom_origins.specs.declared.origins.Origin.{Origin}
use Rattle.mufom_origins.specs.Origins.{numbered, origins_left, origins_of}
use Rattle.mufom_origins.specs.Places.{with_chosen}
use Rattle.mufom_map.specs.Mapped.{mapped_by, planned_layout}
use Rattle.mufom_prune.specs.declared.pruning.Pruned.{Pruned}
use Rattle.mufom_prune.specs.Marked.{IsPrunedWithMarksFor}
use Rattle.mufom_prune.specs.Pruned.{remains}
use Rattle.mufom_prepare.specs.declared.locating.TracedModule.{TracedModule}
use Rattle.mufom_works.specs.Roots.{Roots, first_unknown, roots_by, roots_with}
use Rattle.mufom_works.specs.Works.{all_of, located, mapped_kept, rest_of}
use Rattle.mufom_works.specs.FlatFiles.{files_with}
use Rattle.mufom_prepare.specs.declared.locating.Location.{Location}
use Rattle.mufom_prepare.specs.declared.locating.Obstacle.{Obstacle}
use Rattle.mufom_prepare.specs.declared.locating.Obstacle.TheVariants as obstacle
use Rattle.mufom_prepare.specs.declared.locating.Places.{Places}
use Rattle.mufom_prepare.specs.Locations.{AreMapped, AreOriginsOf, HasPlaces, HasPlan, IsKeptPart, IsObstacle, IsTracedLink, LocatesPart}
use Rattle.mufom_prepare.specs.Locations.{outcome_of_obstacle, IsUnkept, IsUnlocated, IsUnlocatedPart, shown_of}
use Rattle.mufom_outcome.specs.Outcomes.{outcome_of_link, outcome_of_planned, outcome_of_prune}
use Rattle.mufom_outcome.specs.Stop.{Stop, link_fact}
use Rattle.mufom_works.proofs.KeptLaws.{rest-own}
use Rattle.mufom_works.specs.WorkEnds.{EndsAt, location_of, own_kept}
use Rattle.mufom_works.proofs.EndLaws.{ends-along, is-located, link-ends, locate-ends}
use Rattle.mufom_works.proofs.LocatingLaws.{alike-located, link-unkept, link-unlocated, own-is, unlinked-stops}
use Rattle.mufom_works.proofs.MapLaws.{alike-shown, origins-with}

-- ---- lists that mean the same

-- what is shown of a module that is kept of a whole one is what a map shows of that
pub part-shown : (keep : Option Roots) (whole part : TracedModule) (is : IsKeptPart keep whole part) (plan : Plan) (r : LocatedParts)
    → mapped_by part.origins (planned_layout (part.«module» ∷ []) plan) r ≡ mapped_kept whole.origins plan is.kept r
part-shown keep whole part is plan r = λ i. mapped_by (is.origins i) (planned_layout (sym is.modules i) plan) r

-- what is left of a module for roots, with the origins of what is left, is what is kept of it
pub part-is : (roots : Roots) (whole : TracedModule) (left : Pruned) (origins : List Origin)
    → IsPrunedWithMarksFor left whole.«module» roots.names roots.stays → first_unknown (whole.«module» ∷ []) roots.names ≡ None
    → origins ≡ origins_left left.sections.items left.publics.items whole.origins
    → IsKeptPart (Some roots) whole (record { origins = origins; «module» = left.«module» })
part-is roots whole left origins is known same =
    let c = remains whole.«module» is.pruned.marks in
    record {
      kept = rest_of whole.«module» c;
      keeps = rest-own roots left.«module» whole.«module» is.pruned known;
      modules = ap (λ (m : Parts). m ∷ []) (sym is.pruned.is);
      origins = same ∙ (λ i. origins_left (is.sections i) (is.publics i) whole.origins);
    }

-- without roots that is all of it
pub whole-kept : (whole : TracedModule) → IsKeptPart None whole whole
whole-kept whole = record { kept = all_of (whole.«module» ∷ []); keeps = refl; modules = refl; origins = refl }

pub none-kept : (keep stays : List (List ℕ)) (whole : TracedModule) → keep ≡ [] → IsKeptPart (roots_with keep stays) whole whole
none-kept keep stays whole none = subst (λ (names : List (List ℕ)). IsKeptPart (roots_with names stays) whole whole) (sym none) (whole-kept whole)

pub no-names : (keep : List (List ℕ)) → length keep < 1 → keep ≡ []
no-names [] less = refl
no-names (name ∷ names) less = absurd (omega (arith, less))

-- the origins of the members and roots that are linked are those of the flat list
pub flat-origins : (tree : Forest) → leaves tree ≡ numbers_from 0 (length (leaves tree)) → (ms : List Parts) (places : Places) → HasPlaces tree ms places
    → (origins : List Origin) → origins ≡ with_chosen places.roots places.chosen (origins_of (numbered ms)) → AreOriginsOf tree ms origins
flat-origins tree first ms places has origins same = record {
  flat = files_with tree ms places.chosen;
  files = (places.chosen, has.selected, refl);
  are = same ∙ ap (λ (n : ℕ). with_chosen n places.chosen (origins_of (numbered ms))) has.counted ∙ origins-with tree first ms places.chosen;
}

-- ---- what is located of the modules of a tree

module _ (tree : Forest) (first : leaves tree ≡ numbers_from 0 (length (leaves tree))) (ms : List Parts) (valid : AreValid ms) (keep : Option Roots)
    (plan : Plan) (places : Places) (whole part : TracedModule) (link : IsTracedLink tree ms places whole) (is : IsKeptPart keep whole part) where
  -- the map of what is kept of their link is that of what is kept of the flat list
  pub part-mapped : AreDistinct (names_of part.«module».names.publics) → weight part.«module» < weight_limit → IsReadPlan plan → (m : Location)
      → LocatesPart part plan m → AreMapped tree keep plan ms m
  part-mapped names light sound_plan m at =
      let (list, is_linked, joined) = link.links in
      let own = flat-origins tree first ms places link.has whole.origins link.from in
      let like = own-is tree ms valid whole.«module» link.valid plan keep list is_linked joined is.kept is.keeps in
      let there : located plan (part.«module» ∷ []) (gives m.located) = is-located (part.«module» ∷ []) plan m.located at.located in
      record {
        are_located = record {
          names = subst (λ (x : Location). AreDistinct (names_of x.«module».names.publics)) (sym at.is) names;
          light = subst (λ (x : Location). weight x.«module» < weight_limit) (sym at.is) light;
          sound = subst IsReadPlan (sym (ap (λ (x : Location). x.plan) at.is)) sound_plan;
          located = subst (λ (x : Location). IsPlanned (x.«module» ∷ []) x.plan m.located) (sym at.is) at.located;
        };
        list = list;
        links = is_linked;
        kept = like.kept;
        keeps = like.keeps;
        location = alike-located plan sound_plan.symbols is.kept like.kept like.alike (gives m.located)
            (subst (λ (l : List Parts). located plan l (gives m.located)) (sym is.modules) there);
        flat = own.flat;
        files = own.files;
        shows = ap shown_of at.is ∙ part-shown keep whole part is plan m.located
            ∙ alike-shown whole.origins plan sound_plan.symbols is.kept like.kept like.alike m.located
            (subst (λ (l : List Parts). IsPlanned l plan m.located) (sym is.modules) at.located)
            ∙ ap (λ (origins : List Origin). mapped_kept origins plan like.kept m.located) own.are;
      }

  -- and so is the end of its location
  pub part-unlocated : HasSoundSymbols plan → (s : Stop) → located plan (part.«module» ∷ []) (stops s) → location_of tree keep plan ms (stops s)
  part-unlocated symbols s ends =
      link-unlocated tree ms valid whole.«module» link.valid plan symbols keep link.links is.kept is.keeps s
      (subst (λ (l : List Parts). located plan l (stops s)) (sym is.modules) ends)

-- ---- what keeps modules from being located

-- ends the location of their flat list
pub obstacle-ends : (tree : Forest) → leaves tree ≡ numbers_from 0 (length (leaves tree)) → (ms : List Parts) → AreValid ms → (keep : List (List ℕ))
    (plan : Plan) (o : Obstacle) → IsObstacle tree keep ms o → HasPlan plan o
    → EndsAt (location_of tree (roots_by keep plan) plan ms) (outcome_of_obstacle o)
obstacle-ends tree first ms valid keep plan (obstacle.Unlinked r) is same =
    ends-along (with_stops link_fact (linked_module tree None ms)) (location_of tree (roots_by keep plan) plan ms)
    (unlinked-stops tree ms valid (roots_by keep plan) plan) (outcome_of_link r) (link-ends (linked_module tree None ms) r is)
obstacle-ends tree first ms valid keep plan (obstacle.Unkept r own places) is same =
    let by : IsUnkept tree (roots_by keep plan) ms r places = subst (λ (p : Plan). IsUnkept tree (roots_by keep p) ms r places) same is in
    ends-along (own_kept (roots_by keep plan) by.whole.«module») (location_of tree (roots_by keep plan) plan ms)
    (link-unkept tree ms valid by.whole.«module» by.link.valid plan (roots_by keep plan) by.link.links) (outcome_of_prune r) by.ends
obstacle-ends tree first ms valid keep plan (obstacle.Unlocated r part own places) is same =
    let by : IsUnlocated tree (roots_by keep plan) ms r part plan places
    = subst (λ (p : Plan). IsUnlocated tree (roots_by keep p) ms r part p places) same is in
    ends-along (located plan (part.«module» ∷ [])) (location_of tree (roots_by keep plan) plan ms)
    (part-unlocated tree first ms valid (roots_by keep plan) plan places by.whole part by.link by.kept by.sound.symbols)
    (outcome_of_planned part.«module».maus r)
    (locate-ends (part.«module» ∷ []) plan r by.met)

-- a part that cannot be located is what keeps the modules from having a location
pub unlocated-is : (tree : Forest) (keep : List (List ℕ)) (ms : List Parts) (places : Places) (whole part : TracedModule) (plan : Plan)
    → IsTracedLink tree ms places whole → IsKeptPart (roots_by keep plan) whole part → AreDistinct (names_of part.«module».names.publics)
    → weight part.«module» < weight_limit → IsReadPlan plan → (o : Obstacle) → IsUnlocatedPart part plan places o → IsObstacle tree keep ms o
unlocated-is tree keep ms places whole part plan link kept names light sound (obstacle.Unlocated r own by at) (same, planned, placed, met) =
    let is : IsUnlocated tree (roots_by keep plan) ms r part plan places
    = record { whole = whole; link = link; kept = kept; names = names; light = light; sound = sound; met = met } in
    subst (λ (x : TracedModule). IsUnlocated tree (roots_by keep by) ms r x by at) (sym same)
    (subst (λ (x : Plan). IsUnlocated tree (roots_by keep x) ms r part x at) (sym planned)
    (subst (λ (x : Places). IsUnlocated tree (roots_by keep plan) ms r part plan x) (sym placed) is))
unlocated-is tree keep ms places whole part plan link kept names light sound (obstacle.Unlinked r) never = absurd never
unlocated-is tree keep ms places whole part plan link kept names light sound (obstacle.Unkept r by at) never = absurd never

-- by this plan
pub unlocated-plan : (part : TracedModule) (plan : Plan) (places : Places) (o : Obstacle) → IsUnlocatedPart part plan places o → HasPlan plan o
unlocated-plan part plan places (obstacle.Unlocated r own by at) is = is.1
unlocated-plan part plan places (obstacle.Unlinked r) never = absurd never
unlocated-plan part plan places (obstacle.Unkept r by at) never = absurd never
