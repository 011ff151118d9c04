-- The flat list of a tree with its files, and what is kept of it, in place of the link of the list.
use Rattle.std.proofs.Common.{◌≡◌, ◌++◌, ◌+◌, ℕ, zero, suc, List, [], ◌∷◌, Option, Some, None, length}
use Rattle.std.proofs.Common.{drop, map, option_to_list, slice_get, refl, sym, ap, subst, ◌∙◌, inl, inr, arith}
use Rattle.std.proofs.lemmas.Grind.{flat_map-append}
use Rattle.std.proofs.lemmas.List.{drop-map, map-append}
use Rattle.mufom_host.specs.World.{NamedFile}
use Rattle.mufom_module.specs.declared.module.Parts.{Parts}
use Rattle.mufom_plan.specs.declared.plan.Plan.{Plan}
use Rattle.mufom_meaning.specs.Selection.{members_at}
use Rattle.mufom_meaning.specs.Staging.{AreValid}
use Rattle.mufom_meaning.specs.StagingLaws.{MeansTheSame}
use Rattle.mufom_planned.specs.PlanSymbols.{with_symbols}
use Rattle.mufom_planned.specs.Shown.{shown_list}
use Rattle.mufom_works.specs.Same.{AreSame}
use Rattle.mufom_meaning.proofs.facts.AllAnswers.{answers_are_facts}
use Rattle.mufom_meaning.proofs.facts.LinkFacts.{link_facts_grow}
use Rattle.mufom_words.specs.Sound.{numbers_from}
use Rattle.mufom_words.specs.Tree.{Forest, leaves, tree_of}
use Rattle.mufom_groups.specs.Linked.{first_name, linked, members, roots}
use Rattle.mufom_groups.specs.Work.{gives}
use Rattle.mufom_groups.proofs.GroupsAlike.{linked-flat}
use Rattle.mufom_groups.proofs.RefusedLaws.{numbers-count}
use Rattle.mufom_groups.proofs.Singles.{flat_list-single}
use Rattle.mufom_origins.specs.Origins.{FileModule, modules_of, numbered, origins_of}
use Rattle.mufom_origins.specs.Words.{ModuleFiles}
use Rattle.mufom_origins.specs.Places.{at_positions, with_chosen}
use Rattle.mufom_origins.proofs.FlatLaws.{chosen-map, members-chosen, modules-numbered}
use Rattle.mufom_prepare.specs.declared.locating.TracedModule.{TracedModule}
use Rattle.mufom_works.specs.Roots.{Roots, first_unknown}
use Rattle.mufom_works.specs.Works.{Kept, kept_of, kept_origins}
use Rattle.mufom_meaning.specs.Absolute.{no_regions}
use Rattle.mufom_meaning.specs.Joined.{IsJoined}
use Rattle.mufom_prune.specs.Pruned.{Remains, remains}
use Rattle.mufom_task.specs.declared.task.Inputs.{Inputs}
use Rattle.mufom_prepare.specs.declared.locating.Places.{Places}
use Rattle.mufom_works.specs.FlatFiles.{AreFlatFiles, files_with}
use Rattle.mufom_prepare.specs.Locations.{HasPlaces, IsKeptPart, IsTracedLink}
use Rattle.mufom_explain_modules.specs.Lists.{AreLinkedFlat, IsKeptFlat}
use Rattle.mufom_prepare.specs.Prepared.{AreReadFrom}
use Rattle.mufom_works.specs.HasDetails.{IsModuleBy}
use Rattle.mufom_works.specs.WorkEnds.{EndsAt, own_kept, own_rest}
use Rattle.mufom_outcome.specs.declared.outcome.Outcome.{Outcome}
use Rattle.mufom_works.proofs.EndLaws.{ends-along}
use Rattle.mufom_works.proofs.LocatingLaws.{AreAlike, IsKeptAlike, own-ends, own-is}
use Rattle.mufom_works.proofs.MapLaws.{origins-with}

-- ---- the modules of the flat list

-- the modules at some positions
modules-at : (ms : List Parts) (files : List FileModule) → modules_of files ≡ ms → (positions : List ℕ)
    → modules_of (at_positions files positions) ≡ members_at ms positions
modules-at ms files same positions =
    chosen-map (λ (f : FileModule). f.1) 0 positions files
    ∙ ap (λ (l : List Parts). at_positions l positions) same
    ∙ members-chosen ms positions

pub flat-modules : (tree : Forest) (ms : List Parts) (chosen : List ℕ)
    → modules_of (files_with tree ms chosen) ≡ roots tree ms ++ members_at (members tree ms) chosen
flat-modules tree ms chosen =
    let n = length (leaves tree) in
    let all : modules_of (numbered ms) ≡ ms = modules-numbered 0 ms in
    let first = modules-at ms (numbered ms) all (leaves tree) in
    let rest = modules-at (drop n ms) (drop n (numbered ms))
    (sym (drop-map (λ (f : FileModule). f.1) n (numbered ms)) ∙ ap (λ (l : List Parts). drop n l) all) chosen in
    map-append (λ (f : FileModule). f.1) (at_positions (numbered ms) (leaves tree)) (at_positions (drop n (numbered ms)) chosen)
    ∙ (λ i. first i ++ rest i)

-- ---- the files of the flat list

get-none : {X : Type 0} (n : ℕ) → ◌≡◌ {A = Option X} (slice_get [] n) None
get-none zero = refl
get-none (suc n) = refl

get-after : {X : Type 0} (k n : ℕ) (xs : List X) → slice_get xs (k + n) ≡ slice_get (drop k xs) n
get-after zero n xs = ap (slice_get xs) {x = 0 + n} {y = n} (omega arith)
get-after (suc k) n [] = get-none (suc k + n) ∙ sym (get-none n)
get-after (suc k) n (x ∷ xs) = ap (slice_get (x ∷ xs)) {x = suc k + n} {y = suc (k + n)} (omega arith) ∙ get-after k n xs

positions-after : {X : Type 0} (k : ℕ) (xs : List X) (positions : List ℕ) → at_positions xs (map (λ position. k + position) positions)
    ≡ at_positions (drop k xs) positions
positions-after k xs [] = refl
positions-after k xs (n ∷ positions) = λ i. option_to_list (get-after k n xs i) ++ positions-after k xs positions i

-- the files of the tree, which are the first ones, and those of the members
pub flat-positions : (tree : Forest) (ms : List Parts) (chosen : List ℕ) (count : ℕ) → leaves tree ≡ numbers_from 0 count
    → at_positions (numbered ms) (numbers_from 0 count ++ map (λ position. count + position) chosen) ≡ files_with tree ms chosen
flat-positions tree ms chosen count first =
    let counted : count ≡ length (leaves tree) = sym (ap (λ (l : List ℕ). length l) first ∙ numbers-count 0 count) in
    flat_map-append (λ (n : ℕ). option_to_list (slice_get (numbered ms) n)) (numbers_from 0 count) (map (λ position. count + position) chosen)
    ∙ ap (λ (l : List FileModule). at_positions (numbered ms) (numbers_from 0 count) ++ l) (positions-after count (numbered ms) chosen)
    ∙ (λ i. at_positions (numbered ms) (sym first i) ++ at_positions (drop (counted i) (numbered ms)) chosen)

module _ (tree : Forest) (ms : List Parts) (places : Places) (has : HasPlaces tree ms places) (flat : List FileModule)
    (are : flat ≡ files_with tree ms places.chosen) (list : List Parts) (is_linked : linked tree ms (gives list)) where
  -- they are those that are linked
  pub flat-same : modules_of flat ≡ list
  flat-same =
      flat_list-single tree ms (modules_of flat) list
      (places.chosen, has.selected, ap modules_of are ∙ flat-modules tree ms places.chosen)
      ((linked-flat answers_are_facts link_facts_grow tree ms list).0 is_linked).0

  linked-with : (files : Option (List NamedFile)) (inputs : Inputs) → tree_of inputs.marks ≡ tree → (names : ModuleFiles) (plan : Plan)
      → AreReadFrom files inputs names plan ms → AreLinkedFlat files inputs names plan ms flat
  linked-with files inputs same names plan read = record {
    read = read;
    are = subst (λ (t : Forest). AreFlatFiles t ms flat) (sym same) (places.chosen, has.selected, are);
    links = subst (λ (t : Forest). linked t ms (gives (modules_of flat))) (sym same)
        (subst (λ (l : List Parts). linked tree ms (gives l)) (sym flat-same) is_linked);
  }

-- ---- what is kept

means-itself : (ms : List Parts) → MeansTheSame ms ms
means-itself ms = record {
  same_readings = λ bases. refl;
  same_first = refl;
  same_joined = λ N name. ((λ is. is), (λ is. is));
  same_link_facts = λ fact. ((λ is. is), (λ is. is));
  same_locate_facts = λ plan fact. ((λ is. is), (λ is. is));
  same_link = refl;
  same_locate = λ plan. refl;
  same_location = λ plan r. ((λ is. is), (λ is. is));
  same_members = λ members chosen. ((λ is. is), (λ is. is));
}

same-itself : (ms : List Parts) → AreSame ms ms
same-itself ms = record {
  means = means-itself ms;
  alike = λ plan symbols. record {
    answers = refl;
    locations = λ r. ((λ is. is), (λ is. is));
    meaning = λ none. means-itself (with_symbols ms plan);
    shown = λ none. means-itself (shown_list ms plan);
  };
}

-- ---- the one module that is located

-- what remains for roots is not all
rest-some : (roots : Roots) (M : Parts) (o : Option (List ℕ)) (own : Kept) → own_rest o roots M (gives own) → (c : Remains) × (own.rest ≡ Some c)
rest-some roots M (Some name) own never = absurd never
rest-some roots M None own (marks, is_kept, same) = (remains M marks, ap (λ (k : Kept). k.rest) same)

alike-rest : (own kept : Kept) (c : Remains) («module» : Parts) → own.rest ≡ Some c → own.modules ≡ «module» ∷ [] → AreAlike own kept
    → IsModuleBy kept.rest kept.modules «module»
alike-rest own kept c «module» rest modules (inl same) =
    subst (λ (k : Kept). IsModuleBy k.rest k.modules «module») same (subst (λ (r : Option Remains). IsModuleBy r own.modules «module») (sym rest) modules)
alike-rest own kept c «module» rest modules (inr (none, no_rest, alike)) =
    let both : Some c ≡ None = sym rest ∙ none in absurd cc

-- the module that is kept of the link of a list is the one that is located for what is kept of the list
module-kept : (keep : Option Roots) (M «module» : Parts) (list : List Parts) → IsJoined M list (first_name list) → (own kept : Kept)
    → own_kept keep M (gives own) → own.modules ≡ «module» ∷ [] → kept_of keep list (gives kept) → AreAlike own kept
    → IsModuleBy kept.rest kept.modules «module»
module-kept None M «module» list joined own kept keeps modules all alike =
    let both : (M ∷ []) ≡ («module» ∷ []) = sym (ap (λ (k : Kept). k.modules) keeps) ∙ modules in
    let same : M ≡ «module» = cc in
    subst (λ (k : Kept). IsModuleBy k.rest k.modules «module») (sym all) (subst (λ (m : Parts). IsJoined m list (first_name list)) same joined)
module-kept (Some roots) M «module» list joined own kept keeps modules all alike =
    let (c, rest) = rest-some roots M (first_unknown (M ∷ []) roots.names) own keeps in
    alike-rest own kept c «module» rest modules alike

module _ (tree : Forest) (first : leaves tree ≡ numbers_from 0 (length (leaves tree))) (ms : List Parts) (valid : AreValid ms) (keep : Option Roots)
    (places : Places) (whole : TracedModule) (link : IsTracedLink tree ms places whole) (flat : List FileModule)
    (are : flat ≡ files_with tree ms places.chosen) where
  own-same : modules_of flat ≡ link.links.0
  own-same = flat-same tree ms places link.has flat are link.links.0 link.links.1

  -- their origins are those of the modules that are linked
  origins-flat : whole.origins ≡ origins_of flat
  origins-flat =
      link.from ∙ ap (λ (n : ℕ). with_chosen n places.chosen (origins_of (numbered ms))) link.has.counted
      ∙ origins-with tree first ms places.chosen ∙ ap origins_of (sym are)

  pub told-flat : (files : Option (List NamedFile)) (inputs : Inputs) → tree_of inputs.marks ≡ tree → (names : ModuleFiles) (plan : Plan)
      → AreReadFrom files inputs names plan ms → AreLinkedFlat files inputs names plan ms flat
  told-flat files inputs same names plan read =
      linked-with tree ms places link.has flat are link.links.0 link.links.1 files inputs same names plan read

  -- what is kept of the link is kept of the flat list, or means the same
  pub told-kept : (plan : Plan) (part : TracedModule) → IsKeptPart keep whole part → (kept : Kept) × IsKeptFlat keep flat part.«module» part.origins kept
  told-kept plan part is =
      let (list, is_linked, joined) = link.links in
      let like : IsKeptAlike keep list is.kept = own-is tree ms valid whole.«module» link.valid plan keep list is_linked joined is.kept is.keeps in
      by like where
        means : (kept : Kept) → AreAlike is.kept kept → AreSame (part.«module» ∷ []) kept.modules
        means kept (inl alike) =
            subst (λ (l : List Parts). AreSame (part.«module» ∷ []) l) (sym is.modules ∙ ap (λ (k : Kept). k.modules) alike)
            (same-itself (part.«module» ∷ []))
        means kept (inr (none, no_rest, alike)) = subst (λ (l : List Parts). AreSame l kept.modules) is.modules alike

        rests : (kept : Kept) → AreAlike is.kept kept → is.kept.rest ≡ kept.rest
        rests kept (inl alike) = ap (λ (k : Kept). k.rest) alike
        rests kept (inr (none, no_rest, alike)) = none ∙ sym no_rest

        by : IsKeptAlike keep link.links.0 is.kept → (kept : Kept) × IsKeptFlat keep flat part.«module» part.origins kept
        by like = (
          like.kept,
          record {
            keeps = subst (λ (l : List Parts). kept_of keep l (gives like.kept)) (sym own-same) like.keeps;
            same = means like.kept like.alike;
            module_is = module-kept keep whole.«module» part.«module» link.links.0 link.links.2 is.kept like.kept is.keeps is.modules like.keeps like.alike;
            from = is.origins ∙ (λ i. kept_origins (rests like.kept like.alike i) (origins-flat i));
          },
        )

  -- a name that no public has ends both
  pub told-ends : (answer : Outcome) → EndsAt (own_kept keep whole.«module») answer → EndsAt (kept_of keep (modules_of flat)) answer
  told-ends answer ends =
      let (list, is_linked, joined) = link.links in
      subst (λ (l : List Parts). EndsAt (kept_of keep l) answer) (sym own-same)
      (ends-along (own_kept keep whole.«module») (kept_of keep list)
      (λ s is. own-ends tree ms valid whole.«module» link.valid no_regions keep list is_linked joined s is) answer ends)
