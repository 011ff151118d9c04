-- Plain runs have a result.
use Rattle.std.proofs.Common.{◌≡◌, ◌≢◌, ℕ, ◌≤◌, List, [], ◌∷◌, length, Option, Some, None, Result, Ok, Err, refl, sym, ap, subst}
use Rattle.std.proofs.Common.{arith, inl, inr}
use Rattle.std.specs.Prelude.{IfSome, flat_map}
use Rattle.mufom_host.specs.World.{HoldBytes, NamedFile}
use Rattle.mufom_numbers.specs.declared.limits.TheConstants.{MOST_MODULES, MOST_STRING_BYTES}
use Rattle.mufom_numbers.specs.Spelling.{AreBytes}
use Rattle.mufom_words.specs.declared.command.Command.{Command}
use Rattle.mufom_words.specs.declared.stop.WordsStop.{WordsStop}
use Rattle.mufom_words.specs.Answer.{answer_of}
use Rattle.mufom_words.specs.Tree.{Forest, tree_of}
use Rattle.mufom_words.proofs.Sound.{words-sound}
use Rattle.mufom_module.specs.declared.module.Parts.{Parts}
use Rattle.mufom_module.specs.Written.{written}
use Rattle.mufom_text.specs.Show.{text_of}
use Rattle.mufom_text.specs.Words.{Text}
use Rattle.mufom_place.specs.Facts.{first_some, ◌or_else◌}
use Rattle.mufom_plan.specs.declared.plan.Plan.{Plan}
use Rattle.mufom_meaning.specs.declared.located.LocatedParts.{LocatedParts}
use Rattle.mufom_meaning.specs.Absolute.{absolute_of}
use Rattle.mufom_meaning.specs.Facts.{LinkFact}
use Rattle.mufom_meaning.specs.LinkAnswer.{link_answer}
use Rattle.mufom_meaning.specs.Staging.{AreValid}
use Rattle.mufom_meaning.proofs.facts.AllAnswers.{answers_are_facts}
use Rattle.mufom_meaning.proofs.facts.LinkFacts.{link_facts_grow}
use Rattle.mufom_meaning.specs.StagingLaws.{total_weight}
use Rattle.mufom_planned.specs.Planned.{PlanFact, planned_answer}
use Rattle.mufom_planned.specs.PlanLaws.{HasSoundSymbols}
use Rattle.mufom_planned.proofs.Exists.{planned_locations_exist}
use Rattle.mufom_make.specs.Generated.{made_modules, made_plan, summary}
use Rattle.mufom_make.proofs.NoFactLaws.{all-located}
use Rattle.mufom_write.specs.Raw.{raw_image}
use Rattle.mufom_groups.specs.Groups.{most_weight}
use Rattle.mufom_groups.specs.Linked.{IsFlatList, linked, links, tree_links}
use Rattle.mufom_groups.specs.Work.{gives, stops, Work, ◌>>=◌, one_with, with_stops}
use Rattle.mufom_groups.proofs.GroupsAlike.{linked-flat}
use Rattle.mufom_groups.proofs.LinkWalk.{links-give, links-stop}
use Rattle.mufom_map.specs.Mapped.{Mapped}
use Rattle.mufom_map.specs.MapText.{view_text}
use Rattle.mufom_text.specs.Image.{image_text}
use Rattle.mufom_titxt.specs.Written.{txt_text}
use Rattle.mufom_addr.specs.AddressHit.{hit_at}
use Rattle.mufom_origins.specs.Origins.{origins_of}
use Rattle.mufom_origins.specs.Words.{ModuleFiles}
use Rattle.mufom_outcome.specs.declared.outcome.BinRefusal.{BinRefusal}
use Rattle.mufom_outcome.specs.Stop.{Stop, bytes_refused, keep_unknown, link_fact, words_refused}
use Rattle.mufom_task.specs.declared.task.Inputs.{Inputs}
use Rattle.mufom_task.specs.declared.task.Product.{Product}
use Rattle.mufom_task.specs.declared.task.Product.TheVariants as product
use Rattle.mufom_task.specs.declared.task.Request.{Request}
use Rattle.mufom_task.specs.declared.task.Request.TheVariants as request
use Rattle.mufom_task.specs.declared.task.Task.{Task}
use Rattle.mufom_task.specs.declared.task.Task.TheVariants as task
use Rattle.mufom_task.specs.Inputs.{module_files, root_count}
use Rattle.mufom_task.specs.Reading.{modules_in, plan_in}
use Rattle.mufom_task.specs.Sound.{IsSoundInputs, IsSoundRequest, IsSoundTask}
use Rattle.mufom_task.specs.Tasks.{inputs_of, request_of}
use Rattle.mufom_task.proofs.PlanLaws.{plan-sound}
use Rattle.mufom_task.proofs.RequestLaws.{sound-request}
use Rattle.mufom_works.specs.FlatFiles.{AreFlatFiles, files_with}
use Rattle.mufom_works.specs.Result.{run_by, work_with}
use Rattle.mufom_works.specs.Roots.{Roots, first_unknown, roots_by}
use Rattle.mufom_works.specs.Text.{check_text, hit_text}
use Rattle.mufom_works.specs.Works.{IsHeld, linked_file, linking}
use Rattle.mufom_works.specs.Works.{Kept, Output, all_of, bytes_unless, form_of, kept_of, kept_unless, length_fact, listing, located, located_unless}
use Rattle.mufom_works.specs.Works.{locating_kept, made, making, mapped_kept, maus_of, printed, prints, producing, product_of}
use Rattle.mufom_works.specs.Works.{product_with, region_fact, region_image}
use Rattle.mufom_works.specs.Works.{region_named, stop_of, work_of}
use Rattle.mufom_works.proofs.EndLaws.{plain-located}
use Rattle.mufom_works.proofs.KeptLaws.{kept-links, kept-some, kept-valid}
use Rattle.mufom_run_laws.specs.Results.{AskPlainly, CanBeRead, HasResult, IsPlainRequest, IsPlainTask, PlainRunsHaveResults}
use Rattle.mufom_run_laws.specs.RunLaws.{Accepts}
use Rattle.mufom_run_laws.proofs.AbsoluteResults.{absolute-held}
use Rattle.mufom_run_laws.proofs.BoundedInputs.{AreBounded, files-bounded, flat-bounded}
use Rattle.mufom_run_laws.proofs.KeptBounded.{kept-bounded}
use Rattle.mufom_run_laws.proofs.KeptExist.{kept-by}
use Rattle.mufom_run_laws.proofs.Leaves.{accepted-light}
use Rattle.mufom_run_laws.proofs.Light.{all-count, flat-some, flat-valid}
use Rattle.mufom_run_laws.proofs.LinkResults.{linked-file-result}
use Rattle.mufom_run_laws.proofs.Members.{files-valid}
use Rattle.mufom_run_laws.proofs.PlanBytes.{plan-bounded, plan-short}
use Rattle.mufom_run_laws.proofs.PlanResults.{plan-result}
use Rattle.mufom_run_laws.proofs.Selections.{flat-lists-exist}
use Rattle.mufom_run_laws.proofs.TextResults.{from-txt-result}
use Rattle.mufom_run_laws.proofs.Then.{then-result}
use Rattle.mufom_run_laws.proofs.Verdicts.{reading-has-a-result}

-- ---- texts of modules

listing-result : (text : List Parts → Text) (files : List NamedFile) (inputs : Inputs) → HasResult (modules_in files inputs)
    → HasResult (listing text files inputs)
listing-result text files inputs read =
    then-result (modules_in files inputs) (λ ms. prints (text ms)) read (λ ms is. (gives (printed (text ms)), refl))

-- ---- links

linked-result : (tree : Forest) (ms : List Parts) → HasResult (with_stops link_fact (linked tree ms))
linked-result tree ms = by (first_some link_answer (tree_links tree ms)) refl where
  lists : List (List Parts)
  lists = tree_links tree ms

  last : first_some link_answer (tree_links tree ms) ≡ None → (flat : List Parts) → IsFlatList tree ms flat → (o : Option LinkFact) → link_answer flat ≡ o
      → HasResult (with_stops link_fact (linked tree ms))
  last before flat is_flat None none = (gives flat, (linked-flat answers_are_facts link_facts_grow tree ms flat).1 (is_flat, none))
  last before flat is_flat (Some f) some =
      let ends : links (flat ∷ []) (stops f) = links-stop (flat ∷ []) f (ap (λ (o : Option LinkFact). o or_else None) some) in
      (stops (link_fact f), (f, inr (tt, links-give lists before, inr (flat, is_flat, inl ends)), refl))

  by : (o : Option LinkFact) → first_some link_answer (tree_links tree ms) ≡ o → HasResult (with_stops link_fact (linked tree ms))
  by (Some f) found = (stops (link_fact f), (f, inl (links-stop lists f found), refl))
  by None none = let (flat, is_flat) = flat-lists-exist tree ms in last none flat is_flat (link_answer flat) refl

-- ---- what is kept, and its location

kept-result : (list : List Parts) → list ≢ [] → AreValid list → total_weight list ≤ most_weight → link_answer list ≡ None
    → (keep : List (List ℕ)) (plan : Plan) → HasResult (kept_of (roots_by keep plan) list)
kept-result list some valid light links [] plan = (gives (all_of list), refl)
kept-result list some valid light links (name ∷ names) plan = by (first_unknown list (name ∷ names)) refl where
  roots : Roots
  roots = record { names = name ∷ names; stays = plan.keep }

  by : (o : Option (List ℕ)) → first_unknown list (name ∷ names) ≡ o → HasResult (kept_of (roots_by (name ∷ names) plan) list)
  by None known = let (kept, is) = kept-by list some valid light links (name ∷ names) plan known in (gives kept, is)
  by (Some unknown) found = (
    stops (keep_unknown unknown),
    subst (λ (o : Option (List ℕ)). kept_unless o roots list (stops (keep_unknown unknown))) (sym found) refl,
  )

located-result : (plan : Plan) (ms : List Parts) → ms ≢ [] → AreValid ms → HasSoundSymbols plan → link_answer ms ≡ None → HasResult (located plan ms)
located-result plan ms some valid symbols links = by (planned_answer ms plan) refl where
  by : (o : Option PlanFact) → planned_answer ms plan ≡ o → HasResult (located plan ms)
  by None none =
      let (r, is) = planned_locations_exist ms plan some valid symbols links none in
      (gives r, subst (λ (o : Option PlanFact). located_unless o plan ms (gives r)) (sym none) is)
  by (Some f) found =
      let end : Stop = stop_of (maus_of ms) f in
      (stops end, subst (λ (o : Option PlanFact). located_unless o plan ms (stops end)) (sym found) refl)

-- ---- what is made of a location

bytes-result : (o : Option BinRefusal) (name bytes : List ℕ) → HasResult (bytes_unless o name bytes)
bytes-result None name bytes = (gives (made name bytes), refl)
bytes-result (Some b) name bytes = (stops (bytes_refused b), refl)

-- Whatever the files of the modules are, and whatever is shown of the location, it can be made of a location of which this holds.
abbrev CanBeMade : Product → (LocatedParts → Type 0) → Type 0
CanBeMade p Holds = (names : ModuleFiles) (shown : Mapped) (r : LocatedParts) → Holds r → HasResult (product_of p names shown r)

-- this holds of each location
abbrev Always : LocatedParts → Type 0
Always r = Unit {0}

raw-result : (fill : ℕ) (out : List ℕ) → CanBeMade (product.Raw fill out) Always
raw-result fill out names shown r is = bytes-result (length_fact (length (raw_image fill r.runs))) out (raw_image fill r.runs)

region-result : (name : List ℕ) (fill : ℕ) (out : List ℕ) → CanBeMade (product.Region name fill out) Always
region-result name fill out names shown r is =
    let region = region_named shown.regions name in bytes-result (region_fact name region) out (region_image fill region r)

-- ---- the work of a link and of a location

module _ (files : List NamedFile) (inputs : Inputs) (bytes : HoldBytes files) (sound : IsSoundInputs inputs) where
  abbrev tree : Forest
  tree = tree_of inputs.marks

  -- The work has a result for each flat list of accepted inputs, if the list can be linked.
  abbrev GoesOn : (List Parts → Plan → List Parts → Work Stop Output) → Type 0
  GoesOn output = (plan : Plan) (flat : List Parts) (accepts : Accepts files inputs plan flat) → link_answer flat ≡ None
      → HasResult (output accepts.modules plan flat)

  linking-result : (output : List Parts → Plan → List Parts → Work Stop Output) → GoesOn output → CanBeRead files inputs
      → HasResult (linking output files inputs)
  linking-result output further read =
      then-result (plan_in files inputs.plan) (λ plan. modules_in files inputs >>= λ ms. with_stops link_fact (linked tree ms) >>= λ flat. output ms plan flat)
      (plan-result files inputs.plan read.plan)
      (λ plan planned. then-result (modules_in files inputs) (λ ms. with_stops link_fact (linked tree ms) >>= λ flat. output ms plan flat)
      (reading-has-a-result files inputs bytes read.exist)
      (λ ms is_read. then-result (with_stops link_fact (linked tree ms)) (λ flat. output ms plan flat) (linked-result tree ms)
      (λ flat is_linked.
      let (is_flat, links) = (linked-flat answers_are_facts link_facts_grow tree ms flat).0 is_linked in
      further plan flat (record { planned = planned; modules = ms; read = is_read; is_flat = is_flat }) links)))

  module _ (plan : Plan) (flat : List Parts) (accepts : Accepts files inputs plan flat) (links : link_answer flat ≡ None) where
    valid : AreValid flat
    valid = flat-valid tree accepts.modules flat accepts.is_flat
        (files-valid inputs.options (root_count inputs) accepts.read.0.0 accepts.modules accepts.read.0.1.modules)

    bounded : AreBounded flat
    bounded = flat-bounded tree accepts.modules flat accepts.is_flat
        (files-bounded inputs.options files bytes (root_count inputs) inputs.files accepts.read.0.0 accepts.modules accepts.read.0.1.bytes
        accepts.read.0.1.modules)

    some : flat ≢ []
    some =
        let count = all-count inputs.options (root_count inputs) files inputs.files accepts.modules bytes accepts.read.0 sound.tree.within in
        let leaf = sound.some in
        flat-some tree accepts.modules flat accepts.is_flat sound.tree.numbered (omega (arith, leaf)) (omega (arith, count, leaf))

    light : total_weight flat ≤ most_weight
    light = accepted-light files inputs plan flat bytes sound accepts

  link-result : (name : Option (List ℕ)) (out : List ℕ) → IfSome name (λ given. length given ≤ MOST_STRING_BYTES) → IfSome name AreBytes
      → CanBeRead files inputs → HasResult (work_of (task.Link inputs name out) files)
  link-result name out short named read =
      linking-result (λ ms plan flat. linked_file name out flat)
      (λ plan flat accepts links.
      linked-file-result flat (some plan flat accepts links) (valid plan flat accepts links) (bounded plan flat accepts links)
      (light plan flat accepts links) links name out short named) read

  module _ (keep : List (List ℕ)) (p : Product) where
    abbrev outputs : List Parts → Plan → List Parts → Work Stop Output
    outputs ms plan flat = locating_kept (producing p (module_files files inputs) tree ms plan) (roots_by keep plan) plan flat

    -- This holds of each location of what is kept of accepted inputs.
    abbrev HoldsOfAll : (LocatedParts → Type 0) → Type 0
    HoldsOfAll Holds = (plan : Plan) (flat : List Parts) (accepts : Accepts files inputs plan flat) → link_answer flat ≡ None → (kept : Kept)
        → kept_of (roots_by keep plan) flat (gives kept) → (r : LocatedParts) → located plan kept.modules (gives r) → Holds r

    module _ (Holds : LocatedParts → Type 0) (can : CanBeMade p Holds) (all : HoldsOfAll Holds) where
      product-result : (plan : Plan) (flat : List Parts) (accepts : Accepts files inputs plan flat) (kept : Kept) (r : LocatedParts) → Holds r
          → HasResult (producing p (module_files files inputs) tree accepts.modules plan kept r)
      product-result plan flat accepts kept r holds =
          let (chosen, selected, same) = accepts.is_flat in
          then-result (one_with (AreFlatFiles tree accepts.modules)) (λ own. product_with p (module_files files inputs) (origins_of own) plan kept r)
          (gives (files_with tree accepts.modules chosen), (chosen, selected, refl))
          (λ own is. can (module_files files inputs) (mapped_kept (origins_of own) plan kept r) r holds)

      outputs-result : GoesOn outputs
      outputs-result plan flat accepts links =
          let output = producing p (module_files files inputs) tree accepts.modules plan in
          let roots = roots_by keep plan in
          let has = some plan flat accepts links in
          let sound_list = valid plan flat accepts links in
          then-result (kept_of roots flat) (λ kept. located plan kept.modules >>= λ r. output kept r)
          (kept-result flat has sound_list (light plan flat accepts links) links keep plan)
          (λ kept is_kept. then-result (located plan kept.modules) (λ r. output kept r)
          (located-result plan kept.modules (kept-some roots flat kept has is_kept) (kept-valid roots flat kept sound_list is_kept)
          (plan-sound files inputs.plan plan accepts.planned).symbols (kept-links roots flat kept sound_list links is_kept))
          (λ r is_located. product-result plan flat accepts kept r (all plan flat accepts links kept is_kept r is_located)))

      locate-with : CanBeRead files inputs → HasResult (work_of (task.Locate inputs keep p) files)
      locate-with read = linking-result outputs outputs-result read

    locate-result : CanBeMade p Always → CanBeRead files inputs → HasResult (work_of (task.Locate inputs keep p) files)
    locate-result can read = locate-with Always can (λ plan flat accepts links kept is_kept r is_located. tt) read

  -- the program can hold the absolute module of the location
  abbrev CanBeHeld : LocatedParts → Type 0
  CanBeHeld r = IsHeld (absolute_of r)

  absolute-result : (keep : List (List ℕ)) (out : List ℕ) → CanBeRead files inputs
      → HasResult (work_of (task.Locate inputs keep (product.Absolute out)) files)
  absolute-result keep out read =
      locate-with keep (product.Absolute out) CanBeHeld (λ names shown r held. (gives (made out (written (absolute_of r))), (held, refl)))
      (λ plan flat accepts links kept is_kept r is_located.
      let roots = roots_by keep plan in
      let sound_list = valid plan flat accepts links in
      absolute-held kept.modules plan r (plan-sound files inputs.plan plan accepts.planned).symbols
      (plan-short files inputs.plan plan bytes accepts.planned) (plan-bounded files inputs.plan plan bytes accepts.planned)
      (kept-valid roots flat kept sound_list is_kept)
      (kept-bounded flat sound_list (bounded plan flat accepts links) (light plan flat accepts links) roots kept is_kept) is_located) read

-- ---- the work of `make`

make-result : (count : ℕ) → 1 ≤ count → count ≤ MOST_MODULES → HasResult (making count)
make-result count some few =
    let (r, is) = all-located count some few in
    (gives (printed (summary count r)), (r, plain-located (made_modules count) (made_plan count) refl (refl, tt) r is, refl))

-- ---- tasks

task-result : (files : List NamedFile) (t : Task) → HoldBytes files → IsSoundTask t → IsPlainTask t → CanBeRead files (inputs_of t)
    → HasResult (work_of t files)
task-result files (task.Show inputs full) bytes sound plain read =
    listing-result (λ ms. flat_map (text_of (form_of full)) ms) files inputs (reading-has-a-result files inputs bytes read.exist)
task-result files (task.Check inputs) bytes sound plain read =
    listing-result check_text files inputs (reading-has-a-result files inputs bytes read.exist)
task-result files (task.Link inputs name out) bytes sound plain read = link-result files inputs bytes sound.0 name out sound.1 plain read
task-result files (task.Locate inputs keep (product.Absolute out)) bytes sound plain read = absolute-result files inputs bytes sound keep out read
task-result files (task.Locate inputs keep (product.Raw fill out)) bytes sound plain read =
    locate-result files inputs bytes sound keep (product.Raw fill out) (raw-result fill out) read
task-result files (task.Locate inputs keep (product.Region name fill out)) bytes sound plain read =
    locate-result files inputs bytes sound keep (product.Region name fill out) (region-result name fill out) read
task-result files (task.Locate inputs keep (product.TiTxt out)) bytes sound plain read =
    locate-result files inputs bytes sound keep (product.TiTxt out) (λ names shown r is. (gives (made out (txt_text r.runs)), refl)) read
task-result files (task.Locate inputs keep product.Image) bytes sound plain read =
    locate-result files inputs bytes sound keep product.Image (λ names shown r is. (gives (printed (image_text r)), refl)) read
task-result files (task.Locate inputs keep (product.Map at)) bytes sound plain read =
    locate-result files inputs bytes sound keep (product.Map at) (λ names shown r is. (gives (printed (view_text names at shown)), refl)) read
task-result files (task.Locate inputs keep (product.Hit at)) bytes sound plain read =
    locate-result files inputs bytes sound keep (product.Hit at)
    (λ names shown r is. (gives (printed (hit_text r.maus (hit_at r.debug at))), refl)) read
task-result files (task.FromTxt inputs maus out) bytes (file, low, high) plain read =
    let one = file.one in from-txt-result files inputs maus out low high (omega (arith, one)) read.exist
task-result files (task.Build inputs out) bytes sound plain read = absurd plain
task-result files (task.Make count) bytes sound plain read = make-result count sound.0 sound.1
task-result files (task.Help text) bytes sound plain read = (gives (printed text), refl)

-- ---- runs

pub plain-runs-have-results : PlainRunsHaveResults
plain-runs-have-results words files bytes asks = by (answer_of words) refl asks where
  of-request : (c : Command) → answer_of words ≡ Ok c → (q : Request) → request_of c ≡ q → IsPlainRequest files q → HasResult (work_with words q files)
  of-request c named (request.Run t) same (plain, read) =
      let sound : IsSoundRequest (request.Run t) = subst IsSoundRequest same (sound-request c (words-sound words c named)) in
      task-result files t bytes sound plain read
  of-request c named request.Explain same never = absurd never

  by : (r : Result Command WordsStop) → answer_of words ≡ r → AskPlainly files r → HasResult (run_by words r files)
  by (Ok c) named plain = of-request c named (request_of c) refl plain
  by (Err s) named plain = (stops (words_refused s), refl)
