-- A later run over the file of a link ends as a run over the modules that were linked.
use Rattle.std.proofs.Common.{◌≡◌, List, [], ◌∷◌, ◌++◌, ℕ, Option, unwrap_or, refl, sym, subst, ◌∙◌}
use Rattle.mufom_host.specs.World.{HoldBytes, NamedFile}
use Rattle.mufom_words.specs.Tree.{tree_of}
use Rattle.mufom_module.specs.declared.module.Parts.{Parts}
use Rattle.mufom_module.specs.Defects.{IsValid}
use Rattle.mufom_plan.specs.declared.plan.Plan.{Plan}
use Rattle.mufom_meaning.specs.declared.located.LocatedParts.{LocatedParts}
use Rattle.mufom_meaning.specs.Joined.{IsJoined}
use Rattle.mufom_meaning.specs.Staging.{IsStaged, linked, unlinked}
use Rattle.mufom_groups.specs.Linked.{first_name, links}
use Rattle.mufom_groups.specs.Work.{Reached, gives, stops, Work, ◌>>=◌, with_stops}
use Rattle.mufom_origins.specs.declared.origins.Origin.{Origin}
use Rattle.mufom_origins.specs.Origins.{FileModule, origins_of}
use Rattle.mufom_origins.specs.Words.{ModuleFiles}
use Rattle.mufom_outcome.specs.declared.outcome.Outcome.{Outcome}
use Rattle.mufom_outcome.specs.declared.outcome.Outcome.TheVariants as outcome
use Rattle.mufom_outcome.specs.Stop.{Stop, link_fact}
use Rattle.mufom_task.specs.Inputs.{module_files}
use Rattle.mufom_task.specs.declared.task.Product.{Product}
use Rattle.mufom_task.specs.declared.task.Product.TheVariants as product
use Rattle.mufom_task.specs.declared.task.Task.{Task}
use Rattle.mufom_task.specs.declared.task.Task.TheVariants as task
use Rattle.mufom_task.specs.Calls.{Call}
use Rattle.mufom_task.specs.Tasks.{reads_files}
use Rattle.mufom_works.specs.FlatFiles.{AreFlatFiles}
use Rattle.mufom_works.specs.Roots.{Roots, roots_by}
use Rattle.mufom_works.specs.Run.{AnswersFor, PutsOut, outcome_of}
use Rattle.mufom_works.specs.Works.{Kept, Output, kept_of, linked_file, located, locating_kept, product_with, work_of}
use Rattle.mufom_works.proofs.Runs.{of-files, over-files, work_of-single}
use Rattle.mufom_run_laws.specs.RunLaws.{CameByStages, IsSameWork, IsUndisturbed}
use Rattle.mufom_run_laws.proofs.Accepted.{accepted-gives}
use Rattle.mufom_run_laws.proofs.Calm.{CameTo, done-comes}
use Rattle.mufom_run_laws.proofs.Determined.{answers-determined}
use Rattle.mufom_run_laws.proofs.Plain.{plain-answers, plain-run}
use Rattle.mufom_run_laws.proofs.SameWorks.{same-sym, same-trans, same-work, then-same}
use Rattle.mufom_headline.specs.Later.{EndTheSame, LinkedFilesReplaceLists, NamesNoModules, ReplacesInRuns, SameWorksEndTheSame}
use Rattle.mufom_headline.specs.Linking.{AreFlatRuns, link_of_list, location_of_list}
use Rattle.mufom_headline.proofs.LinkedFiles.{file-made, flat-valid}
use Rattle.mufom_headline.proofs.Maps.{flat-files}
use Rattle.mufom_headline.proofs.Staged.{staged-runs-are-flat}

-- ---- runs of tasks whose works are the same

module _ (files others : List NamedFile) (t u : Task) (call other : Call) (its : Outcome) (same : IsSameWork (work_of t files) (work_of u others))
    (answer : (x : Reached Stop Output) → work_of u others x → its ≡ outcome_of x)
    (made : (o : Output) → work_of u others (gives o) → its ≡ outcome.Done → PutsOut o other) where
  ends-same : (result : Outcome) → AnswersFor t call result → IsUndisturbed files call result → EndTheSame call result other its
  ends-same outcome.Done (output, is, puts) calm =
      let comes = over-files call files calm.known (reads_files t) (λ fs. work_of t fs (gives output)) is.cause in
      let there : work_of u others (gives output) = (same (gives output)).0 comes in
      record { same = sym (answer (gives output) there); output = λ done. (output, puts, made output there (answer (gives output) there)) }
  ends-same (outcome.Refused r) (is, nothing) calm =
      let comes = over-files call files calm.known (reads_files t) (λ fs. work_of t fs (stops is.stop)) is.cause in
      let there : work_of u others (stops is.stop) = (same (stops is.stop)).0 comes in
      record { same = is.is ∙ sym (answer (stops is.stop) there); output = λ done. absurd cc }
  ends-same (outcome.Usage f) is calm = absurd is
  ends-same (outcome.ReadFault at) is calm = absurd (calm.none.reads is.0.1)
  ends-same outcome.WriteFault is calm = absurd (calm.none.writes is.0)
  ends-same outcome.NoMemory is calm = absurd (calm.memory refl)

pub same-works-end-the-same : SameWorksEndTheSame
same-works-end-the-same files others t u words its_words c d call other result its same is calm named asks its_is its_calm its_named its_asks =
    ends-same files others t u call other its same
    (λ x comes. answers-determined its_words others other its x its_is its_calm (plain-run its_words d its_named u its_asks others x comes)) made result
    (plain-answers words c named t asks call result is) calm
  where
    bytes : HoldBytes others
    bytes = of-files other others its_calm.known HoldBytes its_calm.revealed.bytes

    -- the output that the work gives is the one that was made
    made : (o : Output) → work_of u others (gives o) → its ≡ outcome.Done → PutsOut o other
    made o comes done =
        let came : CameTo others u other = done-comes others other u its (plain-answers its_words d its_named u its_asks other its its_is) its_calm done in
        let one : gives came.output ≡ gives o = work_of-single others bytes u (gives came.output) (gives o) came.comes comes in
        let is : came.output ≡ o = cc in
        subst (λ (x : Output). PutsOut x other) is came.puts_out

-- ---- the names of modules and files

product-names : (p : Product) → NamesNoModules p → (names its : ModuleFiles) (origins others : List Origin) (plan : Plan) (kept : Kept)
    (r : LocatedParts) → IsSameWork (product_with p names origins plan kept r) (product_with p its others plan kept r)
product-names (product.Absolute out) may names its origins others plan kept r x = ((λ h. h), (λ h. h))
product-names (product.Raw fill out) may names its origins others plan kept r x = ((λ h. h), (λ h. h))
product-names (product.Region name fill out) may names its origins others plan kept r x = ((λ h. h), (λ h. h))
product-names (product.TiTxt out) may names its origins others plan kept r x = ((λ h. h), (λ h. h))
product-names product.Image may names its origins others plan kept r x = ((λ h. h), (λ h. h))
product-names (product.Map at) may names its origins others plan kept r x = absurd may
product-names (product.Hit at) may names its origins others plan kept r x = ((λ h. h), (λ h. h))

module _ (keep : Option Roots) (p : Product) (may : NamesNoModules p) (names its : ModuleFiles) (origins others : List Origin) (plan : Plan)
    (list : List Parts) where
  abbrev after-kept : (names : ModuleFiles) (origins : List Origin) → Kept → Work Stop Output
  after-kept names origins kept = located plan kept.modules >>= λ r. product_with p names origins plan kept r

  kept-names : IsSameWork (locating_kept (product_with p names origins plan) keep plan list) (locating_kept (product_with p its others plan) keep plan list)
  kept-names =
      then-same (kept_of keep list) (kept_of keep list) (after-kept names origins) (after-kept its others) (same-work (kept_of keep list))
      (λ kept. then-same (located plan kept.modules) (located plan kept.modules) (λ r. product_with p names origins plan kept r)
      (λ r. product_with p its others plan kept r) (same-work (located plan kept.modules)) (λ r. product-names p may names its origins others plan kept r))

  location-names : IsSameWork (location_of_list keep p names origins plan list) (location_of_list keep p its others plan list)
  location-names =
      let links-list : Work Stop (Unit {0}) = with_stops link_fact (links (list ∷ [])) in
      then-same links-list links-list (λ u. locating_kept (product_with p names origins plan) keep plan list)
      (λ u. locating_kept (product_with p its others plan) keep plan list) (same-work links-list) (λ u. kept-names)

-- ---- the file of a link

module _ (link : Parts) (list : List Parts) (name : List ℕ) (valid : IsValid link) (joined : IsJoined link list name) where
  replaces : ReplacesInRuns link list
  replaces before after files others inputs other plan descriptor names stays bytes accepts its_bytes its_accepts =
      record { linked = links-same; located = locates-same } where
        leaves : List Parts
        leaves = before ++ (list ++ after)

        came : (ms : List Parts) → IsStaged ms leaves → CameByStages ms leaves
        came ms staged =
            record { staged = staged; valid = flat-valid others other plan leaves its_accepts; descriptor = (link, descriptor); names = names }

        own : (own : List FileModule) × AreFlatFiles (tree_of inputs.marks) accepts.modules own
        own = flat-files (tree_of inputs.marks) accepts.modules (before ++ (link ∷ after)) accepts.is_flat

        its : (own : List FileModule) × AreFlatFiles (tree_of other.marks) its_accepts.modules own
        its = flat-files (tree_of other.marks) its_accepts.modules leaves its_accepts.is_flat

        here : AreFlatRuns files inputs plan own.0 leaves
        here = staged-runs-are-flat files inputs plan (before ++ (link ∷ after)) leaves own.0 bytes accepts own.1
            (came (before ++ (link ∷ after)) (linked leaves before list after link name (unlinked leaves) valid joined stays))

        there : AreFlatRuns others other plan its.0 leaves
        there = staged-runs-are-flat others other plan leaves leaves its.0 its_bytes its_accepts its.1 (came leaves (unlinked leaves))

        links-same : (name : Option (List ℕ)) (out : List ℕ)
            → IsSameWork (work_of (task.Link inputs name out) files) (work_of (task.Link other name out) others)
        links-same name out =
            same-trans (work_of (task.Link inputs name out) files) (link_of_list name out leaves) (work_of (task.Link other name out) others)
            (here.linked name out) (same-sym (work_of (task.Link other name out) others) (link_of_list name out leaves) (there.linked name out))

        locates-same : (keep : List (List ℕ)) (p : Product) → NamesNoModules p
            → IsSameWork (work_of (task.Locate inputs keep p) files) (work_of (task.Locate other keep p) others)
        locates-same keep p may =
            let roots : Option Roots = roots_by keep plan in
            let first : Work Stop Output = location_of_list roots p (module_files files inputs) (origins_of own.0) plan leaves in
            let second : Work Stop Output = location_of_list roots p (module_files others other) (origins_of its.0) plan leaves in
            same-trans (work_of (task.Locate inputs keep p) files) first (work_of (task.Locate other keep p) others) (here.located keep p)
            (same-trans first second (work_of (task.Locate other keep p) others)
            (location-names roots p may (module_files files inputs) (module_files others other) (origins_of own.0) (origins_of its.0) plan leaves)
            (same-sym (work_of (task.Locate other keep p) others) second (there.located keep p)))

pub linked-files-replace-lists : LinkedFilesReplaceLists
linked-files-replace-lists words files call result c inputs name out plan list is calm named asks accepts done =
    let bytes : HoldBytes files = of-files call files calm.known HoldBytes calm.revealed.bytes in
    let came = done-comes files call (task.Link inputs name out) result
    (plain-answers words c named (task.Link inputs name out) asks call result is) calm done in
    let (linkable, (link, joined, (held, put))) = accepted-gives files inputs plan list bytes accepts
    (λ ms plan flat. linked_file name out flat) came.output came.comes in
    record {
      link = link;
      put_out = file-made out call link came.output (held, put) came.puts_out;
      replaces = replaces link list (unwrap_or name (first_name list)) held.valid joined;
    }
