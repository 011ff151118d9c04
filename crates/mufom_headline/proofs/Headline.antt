-- The result of a task that locates is that of locating the flat list, and each list from which that was linked in stages.
use Rattle.std.proofs.Common.{◌≡◌, ◌≤◌, ◌⊎◌, ℕ, List, length, Option, Some, None, refl, sym, subst, ◌∙◌}
use Rattle.std.proofs.Common.{inl, inr}
use Rattle.mufom_host.specs.World.{HoldBytes, NamedFile}
use Rattle.mufom_words.specs.Tree.{tree_of}
use Rattle.mufom_module.specs.declared.module.Parts.{Parts}
use Rattle.mufom_plan.specs.declared.plan.Plan.{Plan}
use Rattle.mufom_meaning.specs.declared.located.LocatedParts.{LocatedParts}
use Rattle.mufom_meaning.specs.Absolute.{absolute_of}
use Rattle.mufom_meaning.specs.Facts.{LinkFact}
use Rattle.mufom_meaning.specs.LinkAnswer.{link_answer}
use Rattle.mufom_meaning.specs.Stands.{LinkFactStands}
use Rattle.mufom_planned.specs.Planned.{IsPlanned, PlanFact, of_list, planned_answer, shared_name}
use Rattle.mufom_planned.specs.PlanLaws.{HasSoundSymbols}
use Rattle.mufom_planned.proofs.Absolute.{planned_located_as_itself}
use Rattle.mufom_planned.proofs.Single.{planned_location_is_single}
use Rattle.mufom_task.proofs.PlanLaws.{plan-sound}
use Rattle.mufom_meaning.specs.Staging.{AreValid}
use Rattle.mufom_meaning.specs.StagingLaws.{total_weight}
use Rattle.mufom_stages.specs.Stages.{named_as}
use Rattle.mufom_stages.proofs.Linked.{lists-link-as-their-leaves}
use Rattle.mufom_words.proofs.Sound.{words-sound}
use Rattle.mufom_write.specs.Raw.{raw_image}
use Rattle.mufom_groups.specs.Groups.{most_weight}
use Rattle.mufom_groups.specs.Work.{Reached, gives, stops, Work}
use Rattle.mufom_groups.proofs.Works.{value-same}
use Rattle.mufom_map.specs.Mapped.{Mapped}
use Rattle.mufom_origins.specs.Words.{ModuleFiles}
use Rattle.mufom_origins.specs.declared.origins.Origin.{Origin}
use Rattle.mufom_origins.specs.Origins.{FileModule, origins_of}
use Rattle.mufom_outcome.specs.declared.outcome.Outcome.{Outcome}
use Rattle.mufom_outcome.specs.declared.outcome.Outcome.TheVariants as outcome
use Rattle.mufom_outcome.specs.declared.outcome.BinRefusal.{BinRefusal}
use Rattle.mufom_outcome.specs.Stop.{Stop, keep_unknown, link_fact, name_shared, locate_fact, bytes_refused}
use Rattle.mufom_task.specs.declared.task.Inputs.{Inputs}
use Rattle.mufom_task.specs.Inputs.{module_files}
use Rattle.mufom_task.specs.declared.task.Product.{Product}
use Rattle.mufom_task.specs.declared.task.Product.TheVariants as product
use Rattle.mufom_task.specs.declared.task.Request.TheVariants as request
use Rattle.mufom_task.specs.declared.task.Task.TheVariants as task
use Rattle.mufom_task.specs.Sound.{IsSoundInputs, IsSoundRequest}
use Rattle.mufom_task.proofs.RequestLaws.{sound-request}
use Rattle.mufom_task.specs.Calls.{Call}
use Rattle.mufom_works.specs.FlatFiles.{AreFlatFiles}
use Rattle.mufom_works.specs.Run.{AnswersFor, MakesFile, PutsOut, outcome_of}
use Rattle.mufom_works.specs.Roots.{Roots, first_unknown, roots_by}
use Rattle.mufom_works.specs.Works.{Kept, Output, kept_of, kept_unless, located, located_unless, locating_kept, mapped_kept, maus_of, producing}
use Rattle.mufom_works.specs.Works.{product_of, product_with, stop_of, work_of}
use Rattle.mufom_works.specs.Works.{bytes_fact, bytes_unless, length_fact, region_fact, region_image, region_named}
use Rattle.mufom_works.proofs.ProductLaws.{bytes-stop, product-never}
use Rattle.mufom_works.proofs.EndLaws.{location-of}
use Rattle.mufom_works.proofs.KeptLaws.{kept-valid}
use Rattle.mufom_works.proofs.Runs.{kept_of-single, of-files}
use Rattle.mufom_run_laws.specs.RunLaws.{Accepts, HasNoFact, IsSameWork, MayPutOut}
use Rattle.mufom_run_laws.proofs.Accepted.{EndsAtFact, accepted-back, accepted-fact, accepted-gives, accepted-stops, no-link-fact}
use Rattle.mufom_run_laws.proofs.Calm.{CameTo, done-comes, never-done}
use Rattle.mufom_run_laws.proofs.Determined.{answers-determined}
use Rattle.mufom_run_laws.proofs.Leaves.{accepted-light}
use Rattle.mufom_run_laws.proofs.LocatingDone.{no-end, no-fact-there}
use Rattle.mufom_run_laws.proofs.Plain.{plain-answers, plain-run}
use Rattle.mufom_headline.specs.Headline.{HasLocated, MayBeWritten, LocatesAll, PutsOutLocation, TheHeadline}
use Rattle.mufom_headline.specs.Linking.{IsRefusedLink}
use Rattle.mufom_headline.proofs.Kept.{kept-means}
use Rattle.mufom_headline.proofs.LinkedFiles.{file-made, flat-valid}
use Rattle.mufom_headline.proofs.Maps.{flat-files, producing-known, producing-linked}

-- ---- what is made of a location

bytes-may : (o : Option BinRefusal) (name bytes : List ℕ) (output : Output) → bytes_unless o name bytes (gives output) → o ≡ None
bytes-may None name bytes output is = refl
bytes-may (Some b) name bytes output is = absurd is

bytes-made : (o : Option BinRefusal) (name bytes : List ℕ) (call : Call) (output : Output) → bytes_unless o name bytes (gives output) → PutsOut output call
    → MakesFile name bytes call
bytes-made (Some b) name bytes call output never puts = absurd never
bytes-made None name bytes call output put puts = subst (λ (x : Output). PutsOut x call) put puts

-- bytes that are refused are the end
bytes-end : (p : Product) (names : ModuleFiles) (shown : Mapped) (r : LocatedParts) (b : BinRefusal) → bytes_fact p shown.regions r ≡ Some b
    → product_of p names shown r (stops (bytes_refused b))
bytes-end (product.Raw fill out) names shown r b some = bytes-stop (length_fact (length (raw_image fill r.runs))) b some out (raw_image fill r.runs)
bytes-end (product.Region name fill out) names shown r b some =
    bytes-stop (region_fact name (region_named shown.regions name)) b some out (region_image fill (region_named shown.regions name) r)
bytes-end (product.Absolute out) names shown r b some = absurd cc
bytes-end (product.TiTxt out) names shown r b some = absurd cc
bytes-end product.Image names shown r b some = absurd cc
bytes-end (product.Map at) names shown r b some = absurd cc
bytes-end (product.Hit at) names shown r b some = absurd cc

-- it may be put out
product-may : (p : Product) (names : ModuleFiles) (shown : Mapped) (r : LocatedParts) (o : Output) → product_of p names shown r (gives o)
    → bytes_fact p shown.regions r ≡ None
product-may (product.Absolute out) names shown r o is = refl
product-may (product.Raw fill out) names shown r o is = bytes-may (length_fact (length (raw_image fill r.runs))) out (raw_image fill r.runs) o is
product-may (product.Region name fill out) names shown r o is =
    bytes-may (region_fact name (region_named shown.regions name)) out (region_image fill (region_named shown.regions name) r) o is
product-may (product.TiTxt out) names shown r o is = refl
product-may product.Image names shown r o is = refl
product-may (product.Map at) names shown r o is = refl
product-may (product.Hit at) names shown r o is = refl

-- and it is the location
product-shown : (p : Product) (names : ModuleFiles) (origins : List Origin) (plan : Plan) (kept : Kept) (r : LocatedParts) (call : Call) (o : Output)
    → product_with p names origins plan kept r (gives o) → PutsOut o call → PutsOutLocation p names origins plan kept r call
product-shown (product.Absolute out) names origins plan kept r call o is puts = file-made out call (absolute_of r) o is puts
product-shown (product.Raw fill out) names origins plan kept r call o is puts =
    bytes-made (length_fact (length (raw_image fill r.runs))) out (raw_image fill r.runs) call o is puts
product-shown (product.Region name fill out) names origins plan kept r call o is puts =
    bytes-made (region_fact name (region_named plan.regions name)) out (region_image fill (region_named plan.regions name) r) call o is puts
product-shown (product.TiTxt out) names origins plan kept r call o is puts = subst (λ (x : Output). PutsOut x call) is puts
product-shown product.Image names origins plan kept r call o is puts = subst (λ (x : Output). PutsOut x call) is puts
product-shown (product.Map at) names origins plan kept r call o is puts = subst (λ (x : Output). PutsOut x call) is puts
product-shown (product.Hit at) names origins plan kept r call o is puts = subst (λ (x : Output). PutsOut x call) is puts

-- ---- one list

module _ (keep : Option Roots) (p : Product) (names : ModuleFiles) (origins : List Origin) (plan : Plan) (list : List Parts) where
  abbrev target : Kept → LocatedParts → Work Stop Output
  target = product_with p names origins plan

  -- the location of what is kept of the list, from which this was put out
  record IsOutputOf (o : Output) : Type 0 where
    kept : Kept
    keeps : kept_of keep list (gives kept)
    location : LocatedParts
    is_location : IsPlanned kept.modules plan location
    puts : target kept location (gives o)

  output-of : (o : Output) → locating_kept target keep plan list (gives o) → IsOutputOf o
  output-of o (kept, is_kept, (r, is_located, puts)) =
      record { kept = kept; keeps = is_kept; location = r; is_location = location-of plan kept.modules r is_located; puts = puts }

  -- where a fact stands, that is the end
  fact-end : (kept : Kept) (f : PlanFact) → kept_of keep list (gives kept) → planned_answer kept.modules plan ≡ Some f
      → locating_kept target keep plan list (stops (stop_of (maus_of kept.modules) f))
  fact-end kept f is_kept some =
      inr (
        kept,
        is_kept,
        inl (subst (λ (o : Option PlanFact). located_unless o plan kept.modules (stops (stop_of (maus_of kept.modules) f)))
            (sym some) refl),
      )

  -- where no public of the list has a name to keep, that is the end
  unknown-end : (roots : Roots) (name : List ℕ) → keep ≡ Some roots → first_unknown list roots.names ≡ Some name
      → locating_kept target keep plan list (stops (keep_unknown name))
  unknown-end roots name given some =
      let ends : kept_unless (first_unknown list roots.names) roots list (stops (keep_unknown name))
      = subst (λ (o : Option (List ℕ)). kept_unless o roots list (stops (keep_unknown name))) (sym some) refl in
      inl (subst (λ (o : Option Roots). kept_of o list (stops (keep_unknown name))) (sym given) ends)

  -- what is kept of the list and its location are known
  one-location : (kept other : Kept) (r q : LocatedParts) → kept_of keep list (gives kept) → kept_of keep list (gives other)
      → IsPlanned kept.modules plan r → IsPlanned other.modules plan q → r ≡ q
  one-location kept other r q is_kept is_other is_r is_q =
      let same : kept ≡ other = value-same kept other (kept_of-single keep list (gives kept) (gives other) is_kept is_other) in
      planned_location_is_single other.modules plan r q (subst (λ (k : Kept). IsPlanned k.modules plan r) same is_r) is_q

  short-there : (o : Output) → locating_kept target keep plan list (gives o) → MayBeWritten keep p plan list
  short-there o puts kept r is_kept is_r =
      let of = output-of o puts in
      subst (λ (q : LocatedParts). MayPutOut p plan q) (one-location of.kept kept of.location r of.keeps is_kept of.is_location is_r)
      (product-may p names (mapped_kept origins plan of.kept of.location) of.location o of.puts)

  -- bytes that are refused are the end
  refused-end : (kept : Kept) (r : LocatedParts) (b : BinRefusal) → kept_of keep list (gives kept) → IsPlanned kept.modules plan r
      → bytes_fact p plan.regions r ≡ Some b → locating_kept target keep plan list (stops (bytes_refused b))
  refused-end kept r b is_kept is_r some =
      let is_located : located plan kept.modules (gives r)
      = subst (λ (o : Option PlanFact). located_unless o plan kept.modules (gives r)) (sym is_r.locates) is_r in
      inr (kept, is_kept, inr (r, is_located, bytes-end p names (mapped_kept origins plan kept r) r b some))

-- ---- a run

module _ (files : List NamedFile) (call : Call) (result : Outcome) (c : Inputs) (keep : List (List ℕ)) (p : Product) (plan : Plan) (flat : List Parts)
    (bytes : HoldBytes files) (accepts : Accepts files c plan flat) (own : List FileModule) (are : AreFlatFiles (tree_of c.marks) accepts.modules own)
    (came : result ≡ outcome.Done → CameTo files (task.Locate c keep p) call)
    (done : ((s : Stop) → work_of (task.Locate c keep p) files (stops s) → ⊥) → result ≡ outcome.Done)
    (answer : (x : Reached Stop Output) → work_of (task.Locate c keep p) files x → result ≡ outcome_of x) where
  abbrev roots : Option Roots
  roots = roots_by keep plan

  symbols : HasSoundSymbols plan
  symbols = (plan-sound files c.plan plan accepts.planned).symbols

  -- what is put out of a flat list of modules
  abbrev outputs : List Parts → Plan → List Parts → Work Stop Output
  outputs ms plan list = locating_kept (producing p (module_files files c) (tree_of c.marks) ms plan) (roots_by keep plan) plan list

  abbrev origins : List Origin
  origins = origins_of own

  abbrev put_out_of : List Parts → Work Stop Output
  put_out_of list = locating_kept (product_with p (module_files files c) (origins_of own) plan) roots plan list

  -- a list of which the same is put out as of the flat list
  module _ (list : List Parts) (valid : AreValid list) (links : link_answer flat ≡ link_answer list)
      (facts : (f : LinkFact) → LinkFactStands flat f → LinkFactStands list f)
      (alike : link_answer flat ≡ None → IsSameWork (outputs accepts.modules plan flat) (put_out_of list)) where
    list-output : (o : Output) → work_of (task.Locate c keep p) files (gives o) → (link_answer list ≡ None) × put_out_of list (gives o)
    list-output o comes =
        let (linkable, puts) = accepted-gives files c plan flat bytes accepts outputs o comes in (sym links ∙ linkable, (alike linkable (gives o)).0 puts)

    none-stops : HasNoFact roots list plan → MayBeWritten roots p plan list → (s : Stop) → work_of (task.Locate c keep p) files (stops s) → ⊥
    none-stops none short s stopped = by (accepted-stops files c plan flat bytes accepts outputs s stopped) where
      by : EndsAtFact flat s ⊎ ((link_answer flat ≡ None) × outputs accepts.modules plan flat (stops s)) → ⊥
      by (inl fact) = no-link-fact flat plan s (links ∙ none.links) fact
      by (inr (linkable, ends)) =
          no-end (product_with p (module_files files c) origins plan) roots plan list
          (λ kept r keeps there s. product-never p (module_files files c) (mapped_kept origins plan kept r) r (short kept r keeps there) s) none s
          ((alike linkable (stops s)).0 ends)

    -- an end of what is put out of the list is the result
    ends-there : (s : Stop) → link_answer list ≡ None → put_out_of list (stops s) → result ≡ outcome_of (stops s)
    ends-there s linkable is =
        answer (stops s) (accepted-back files c plan flat bytes accepts outputs (links ∙ linkable) (stops s)
        ((alike (links ∙ linkable) (stops s)).1 is))

    -- and so is a link fact, where the list cannot be linked
    unlinked-there : (f : LinkFact) → link_answer list ≡ Some f → IsRefusedLink list result
    unlinked-there f some =
        let (g, stands, ends) = accepted-fact files c plan flat bytes accepts outputs f (links ∙ some) in
        (g, facts g stands, answer (stops (link_fact g)) ends)

    has-located : HasLocated roots p (module_files files c) origins plan call result list
    has-located = record {
      done = (
        (λ is. let there = came is in
            let (linkable, puts) = list-output there.output there.comes in (
              no-fact-there (product_with p (module_files files c) origins plan) roots plan list there.output linkable puts,
              short-there roots p (module_files files c) origins plan list there.output puts,
            )),
        (λ (none, short). done (none-stops none short)),
      );
      output = λ is. let there = came is in
          let (linkable, puts) = list-output there.output there.comes in
          let of = output-of roots p (module_files files c) origins plan list there.output puts in
          record {
            kept = of.kept;
            keeps = of.keeps;
            means = kept-means roots list valid linkable of.kept of.keeps;
            location = of.location;
            is_location = of.is_location;
            itself = planned_located_as_itself of.kept.modules plan of.location (kept-valid roots list of.kept valid of.keeps) symbols of.is_location;
            puts_out = product-shown p (module_files files c) origins plan of.kept of.location call there.output of.puts there.puts_out;
          };
      unlinked = unlinked-there;
      unknown = λ given name same linkable some.
          ends-there (keep_unknown name) linkable (unknown-end roots p (module_files files c) origins plan list given name same some);
      refused = λ kept f linkable is_kept some.
          ends-there (locate_fact (maus_of kept.modules) f) linkable
          (fact-end roots p (module_files files c) origins plan list kept (of_list f) is_kept some);
      shared = λ kept name linkable is_kept some.
          ends-there (name_shared name) linkable (fact-end roots p (module_files files c) origins plan list kept (shared_name name) is_kept some);
      unwritten = λ kept r b linkable is_kept is_r some.
          ends-there (bytes_refused b) linkable (refused-end roots p (module_files files c) origins plan list kept r b is_kept is_r some);
    }

  -- the flat list, and each list from which it was linked in stages
  locates-all : total_weight flat ≤ most_weight → LocatesAll files c keep p plan call result accepts.modules flat
  locates-all light = record {
    files = own;
    are_files = are;
    located = has-located flat (flat-valid files c plan flat accepts) refl (λ f stands. stands)
        (λ linkable. producing-known roots p (module_files files c) plan (tree_of c.marks) accepts.modules own are flat);
    staged = λ leaves came.
        let same = (lists-link-as-their-leaves flat leaves came).facts in
        has-located (named_as flat leaves) came.renamed same.answer (λ f stands. (same.facts f).0 stands)
        (λ linkable. producing-linked roots p (module_files files c) plan (tree_of c.marks) accepts.modules own are symbols flat leaves light linkable came);
  }

pub the-headline : TheHeadline
the-headline words call result is files c inputs keep p plan flat calm named asks accepts =
    let bytes : HoldBytes files = of-files call files calm.known HoldBytes calm.revealed.bytes in
    let answers : AnswersFor (task.Locate inputs keep p) call result = plain-answers words c named (task.Locate inputs keep p) asks call result is in
    let own = flat-files (tree_of inputs.marks) accepts.modules flat accepts.is_flat in
    let sound : IsSoundInputs inputs = (let it : IsSoundRequest (request.Run (task.Locate inputs keep p))
    = subst IsSoundRequest asks (sound-request c (words-sound words c named)) in it) in
    locates-all files call result inputs keep p plan flat bytes accepts own.0 own.1 (done-comes files call (task.Locate inputs keep p) result answers calm)
    (never-done files call (task.Locate inputs keep p) result answers calm)
    (λ x comes. answers-determined words files call result x is calm (plain-run words c named (task.Locate inputs keep p) asks files x comes))
    (accepted-light files inputs plan flat bytes sound accepts)
