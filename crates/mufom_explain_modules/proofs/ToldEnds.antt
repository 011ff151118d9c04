-- How a task that links files ends, by what its parts come to: a link fact, a name that is unknown, a locate fact, or a location.
use Rattle.std.proofs.Common.{◌≡◌, ◌≢◌, ◌⊎◌, ℕ, List, [], ◌∷◌, ◌++◌, Option, Some, None, IfSome, true, refl, sym, ap, subst, ◌∙◌, inl, inr}
use Rattle.mufom_host.specs.World.{NamedFile}
use Rattle.mufom_module.specs.declared.module.Parts.{Parts}
use Rattle.mufom_module.specs.Written.{written}
use Rattle.mufom_plan.specs.declared.plan.Plan.{Plan}
use Rattle.mufom_plan.specs.declared.plan.PlanSymbol.{PlanSymbol}
use Rattle.mufom_explain.specs.Details.{Explained, link_details, locate_details, name_details, shared_details}
use Rattle.mufom_explain.proofs.AlikeLaws.{explained-alike}
use Rattle.mufom_refusals.specs.declared.locate.LocateRefusal.{LocateRefusal}
use Rattle.mufom_refusals.specs.declared.locate.LocateRefusal.TheVariants as locate
use Rattle.mufom_image.specs.Refusals.{IsMet}
use Rattle.mufom_refusals.specs.declared.link.LinkRefusal.{LinkRefusal}
use Rattle.mufom_refusals.specs.declared.link.LinkRefusal.TheVariants as link
use Rattle.mufom_meaning.specs.Facts.{LinkFact, LocateFact, placement, undefined, common_unplaced, cycle, image_limit, zero_divisor, load_outside}
use Rattle.mufom_meaning.specs.Facts.{loaded_twice, overflow}
use Rattle.mufom_meaning.specs.Joined.{HasFirstHeader, IsJoined}
use Rattle.mufom_meaning.specs.Location.{Header, first_header}
use Rattle.mufom_meaning.specs.StagingLaws.{MeansTheSame}
use Rattle.mufom_place.specs.declared.refusal.PlaceRefusal.TheVariants as place_refusal
use Rattle.mufom_planned.specs.PlanLaws.{AreLocatedAlike, HasSoundSymbols}
use Rattle.mufom_planned.specs.PlanSymbols.{first_shared, followed_by, with_symbols}
use Rattle.mufom_planned.specs.Planned.{copied_answer, of_list, planned_answer, shared_name}
use Rattle.mufom_planned.specs.Shown.{placing_fact, shown_if, shown_list}
use Rattle.mufom_planned.proofs.NeverLacks.{planned_never_lacks}
use Rattle.mufom_locating.specs.Refusals.{list_fact}
use Rattle.mufom_words.specs.Tree.{tree_of}
use Rattle.mufom_groups.specs.Groups.{StopsWork}
use Rattle.mufom_groups.specs.Linked.{first_name, linked, linked_module}
use Rattle.mufom_groups.specs.Refusals.{link_refusal}
use Rattle.mufom_groups.specs.Work.{gives, stops}
use Rattle.mufom_origins.specs.declared.origins.Origin.{Origin}
use Rattle.mufom_origins.specs.Origins.{FileModule, modules_of}
use Rattle.mufom_origins.specs.Words.{ModuleFiles}
use Rattle.mufom_outcome.specs.declared.outcome.Outcome.{Outcome}
use Rattle.mufom_outcome.specs.declared.outcome.Outcome.TheVariants as outcome
use Rattle.mufom_outcome.specs.declared.outcome.Refusal.TheVariants as refusal
use Rattle.mufom_outcome.specs.LocateRefusals.{locate_refusal}
use Rattle.mufom_outcome.specs.Stop.{Stop, words_refused, plan_refused, file_refused, past_limit, link_fact, keep_unknown, name_shared, locate_fact}
use Rattle.mufom_outcome.specs.Stop.{bytes_refused, text_refused, listing_refused, too_many_modules}
use Rattle.mufom_task.specs.declared.task.Inputs.{Inputs}
use Rattle.mufom_task.specs.declared.task.Product.{Product}
use Rattle.mufom_task.specs.declared.task.Task.{Task}
use Rattle.mufom_task.specs.declared.task.Task.TheVariants as task
use Rattle.mufom_task.specs.Ends.{stop_outcome}
use Rattle.mufom_task.specs.InputsRead.{inputs_in}
use Rattle.mufom_task.specs.Tasks.{file_of, inputs_of, reads_files}
use Rattle.mufom_task.proofs.InputsLaws.{known-map, over-map}
use Rattle.mufom_prepare.specs.declared.locating.Location.{Location}
use Rattle.mufom_prepare.specs.declared.ready.Ready.{Ready}
use Rattle.mufom_works.specs.HasDetails.{IsModuleWith, IsRefusedFlat, lines_of_link, lines_of_locate, lines_of_name, lines_of_shared, plan_lines}
use Rattle.mufom_works.specs.InputLines.{untried_lines}
use Rattle.mufom_prepare.specs.Locations.{AreMapped, shown_of}
use Rattle.mufom_prepare.specs.Ready.{ready_output}
use Rattle.mufom_prepare.specs.Prepared.{AreReadFrom, AreReadOver, MakesLink}
use Rattle.mufom_explain_modules.specs.Lists.{AreUnkept, AreUnlocated, IsLocatedAs, IsLocatedWith, LinksLists}
use Rattle.mufom_explain_text.specs.Explains.{EndsOver}
use Rattle.mufom_works.specs.Roots.{roots_by}
use Rattle.mufom_works.specs.Works.{kept_of, located, made, product_of, work_of}
use Rattle.mufom_works.specs.WorkEnds.{EndsAt, IsOfModules}
use Rattle.mufom_works.proofs.EndLaws.{is-unlocated, listed, met-listed, unshared-by}
use Rattle.mufom_works.proofs.LocatingLaws.{located-forth}
use Rattle.mufom_prepare.proofs.WorkLaws.{inputs-modules, inputs-planned, link-gives, link-stops, locating-stops, product-comes}
use Rattle.mufom_works.proofs.ProductLaws.{product-place, product-stops}

-- ---- a link fact

fact-stops : (t : Task) (c : Inputs) (name : Option (List ℕ)) → LinksLists t c name → (plan : Plan) (ms : List Parts) (fs : List NamedFile)
    → inputs_in fs c (gives (plan, ms)) → (f : LinkFact) → linked (tree_of c.marks) ms (stops f) → work_of t fs (stops (link_fact f))
fact-stops (task.Link own given out) c name (same, named) plan ms fs is f ends =
    subst (λ (i : Inputs). work_of (task.Link i given out) fs (stops (link_fact f))) (sym same)
    (link-stops c plan ms fs is given out (link_fact f) (f, inl ends, refl))
fact-stops (task.Locate own keep p) c name (same, none) plan ms fs is f ends =
    subst (λ (i : Inputs). work_of (task.Locate i keep p) fs (stops (link_fact f))) (sym same)
    (locating-stops c plan ms fs is keep p (link_fact f) (inl (f, ends, refl)))
fact-stops (task.Show own full) c name never plan ms fs is f ends = absurd never
fact-stops (task.Check own) c name never plan ms fs is f ends = absurd never
fact-stops (task.FromTxt own maus out) c name never plan ms fs is f ends = absurd never
fact-stops (task.Build own out) c name never plan ms fs is f ends = absurd never
fact-stops (task.Make count) c name never plan ms fs is f ends = absurd never
fact-stops (task.Help text) c name never plan ms fs is f ends = absurd never

links-read : (t : Task) (c : Inputs) (name : Option (List ℕ)) → LinksLists t c name → (reads_files t ≡ true) × (inputs_of t ≡ c)
links-read (task.Link own given out) c name (same, named) = (refl, same)
links-read (task.Locate own keep p) c name (same, none) = (refl, same)
links-read (task.Show own full) c name never = absurd never
links-read (task.Check own) c name never = absurd never
links-read (task.FromTxt own maus out) c name never = absurd never
links-read (task.Build own out) c name never = absurd never
links-read (task.Make count) c name never = absurd never
links-read (task.Help text) c name never = absurd never

-- an error in linking that is not due to a lack of memory is that of a link fact
fact-named : (c : Inputs) (name : Option (List ℕ)) (ms : List Parts) (r : LinkRefusal) → r ≢ link.NoMemory
    → StopsWork (linked_module (tree_of c.marks) name ms) r → (f : LinkFact) × (r ≡ link_refusal f) × linked (tree_of c.marks) ms (stops f)
fact-named c name ms link.NoMemory memory why = absurd (memory refl)
fact-named c name ms (link.Mismatch first other) memory (f, is, inl ends) = (f, is, ends)
fact-named c name ms (link.Mismatch first other) memory (f, is, inr (flat, links, never)) = absurd never
fact-named c name ms (link.Duplicate own) memory (f, is, inl ends) = (f, is, ends)
fact-named c name ms (link.Duplicate own) memory (f, is, inr (flat, links, never)) = absurd never
fact-named c name ms link.DuplicateStart memory (f, is, inl ends) = (f, is, ends)
fact-named c name ms link.DuplicateStart memory (f, is, inr (flat, links, never)) = absurd never

module _ (files : Option (List NamedFile)) (t : Task) (c : Inputs) (name : Option (List ℕ)) (links : LinksLists t c name) (names : ModuleFiles)
    (plan : Plan) (ms : List Parts) (read : AreReadFrom files c names plan ms) (flat : List FileModule) (details : List ℕ) where
  abbrev inputs : List NamedFile → Type 0
  inputs fs = AreReadOver fs c names plan ms

  fact-over : (f : LinkFact) → linked (tree_of c.marks) ms (stops f) → IsRefusedFlat c ms f flat → details ≡ link_details names flat (link_refusal f)
      → EndsOver files t (outcome.Refused (refusal.Link (link_refusal f))) details
  fact-over f ends refused are = (
    record {
      stop = link_fact f;
      is = refl;
      of_inputs = tt;
      cause = over-map (links-read t c name links).0 inputs (λ fs. work_of t fs (stops (link_fact f))) files
          (λ fs is. fact-stops t c name links plan ms fs is.read f ends) read;
    },
    tt,
    subst (λ (i : Inputs). IfSome files (λ fs. lines_of_link fs i f (gives details))) (sym (links-read t c name links).1)
        (known-map inputs (λ fs. lines_of_link fs c f (gives details)) files (λ fs is. (
          ms,
          inputs-modules fs c plan ms is.read,
          (flat, refused, are ∙ ap (λ (l : ModuleFiles). link_details l flat (link_refusal f)) is.named),
        )) read),
  )

  pub unlinked-over : (r : LinkRefusal) → r ≢ link.NoMemory → StopsWork (linked_module (tree_of c.marks) name ms) r
      → ((f : LinkFact) → linked (tree_of c.marks) ms (stops f) → IsRefusedFlat c ms f flat) → details ≡ link_details names flat r
      → EndsOver files t (outcome.Refused (refusal.Link r)) details
  unlinked-over r memory why refused are =
      let (f, named, ends) = fact-named c name ms r memory why in
      subst (λ (x : LinkRefusal). EndsOver files t (outcome.Refused (refusal.Link x)) details) (sym named)
      (fact-over f ends (refused f ends) (are ∙ ap (link_details names flat) named))

-- a link is done
pub link-over : (files : Option (List NamedFile)) (c : Inputs) (name : Option (List ℕ)) (out : List ℕ) (names : ModuleFiles) (plan : Plan)
    (ms : List Parts) → AreReadFrom files c names plan ms → (ready : Ready) → MakesLink (tree_of c.marks) name out ms ready
    → EndsOver files (task.Link c name out) outcome.Done (untried_lines (Some out))
link-over files c name out names plan ms read ready makes = (
  (
    made out (written makes.«module»),
    record {
      place = refl;
      cause = known-map (λ fs. AreReadOver fs c names plan ms) (λ fs. work_of (task.Link c name out) fs (gives (made out (written makes.«module»)))) files
          (λ fs is. link-gives c plan ms fs is.read name out makes.«module» makes.links makes.held) read;
    },
  ),
  refl,
)

-- ---- the module that is located, with the plan's symbols

-- without symbols it is the list itself
none-followed : (ms : List Parts) (numbers : PlanSymbol → ℕ) (ps : List PlanSymbol) → ps ≡ [] → followed_by ms numbers ps ≡ ms
none-followed [] numbers ps empty = refl
none-followed (m ∷ ms) numbers ps empty = ap (followed_by (m ∷ ms) numbers) empty

without-symbols : (ms : List Parts) (plan : Plan) → plan.symbols ≡ [] → shown_list ms plan ≡ ms
without-symbols ms plan empty = by (placing_fact ms plan) where
  by : (o : Option LocateFact) → shown_if o ms plan ≡ ms
  by None = none-followed ms _ plan.symbols empty
  by (Some f) = none-followed ms _ plan.symbols empty

-- the first module of a list with symbols is that of the list
first-followed : («module» m : Parts) (ms : List Parts) (numbers : PlanSymbol → ℕ) (ps : List PlanSymbol)
    → HasFirstHeader «module» (followed_by (m ∷ ms) numbers ps) → «module».maus ≡ m.maus
first-followed «module» m ms numbers [] h = h.maus
first-followed «module» m ms numbers (symbol ∷ more) h = h.maus

first-shown : («module» m : Parts) (ms : List Parts) (plan : Plan) → HasFirstHeader «module» (shown_list (m ∷ ms) plan) → «module».maus ≡ m.maus
first-shown «module» m ms plan = by (placing_fact (m ∷ ms) plan) where
  by : (o : Option LocateFact) → HasFirstHeader «module» (shown_if o (m ∷ ms) plan) → «module».maus ≡ m.maus
  by None h = first-followed «module» m ms _ plan.symbols h
  by (Some f) h = first-followed «module» m ms _ plan.symbols h

abbrev name_by : Option Header → List ℕ
name_by None = []
name_by (Some h) = h.1

name_by-first : (ms : List Parts) → first_name ms ≡ name_by (first_header ms)
name_by-first [] = refl
name_by-first (m ∷ ms) = refl

-- a module that means the same as a list has the name of its first module
name-kept : (part : Parts) (ms : List Parts) → MeansTheSame (part ∷ []) ms → part.name ≡ first_name ms
name-kept part ms means = ap name_by means.same_first ∙ sym (name_by-first ms)

-- without symbols, the module itself is located
pub located-alone : (part : Parts) (plan : Plan) → plan.symbols ≡ [] → IsLocatedAs part plan part
located-alone part plan empty = subst (λ (ps : List PlanSymbol). IsLocatedWith ps part plan part) (sym empty) refl

-- with symbols, its link with them
pub located-linked : (part «module» : Parts) (plan : Plan) → plan.symbols ≢ [] → IsJoined «module» (shown_list (part ∷ []) plan) part.name
    → MeansTheSame («module» ∷ []) (shown_list (part ∷ []) plan) → IsLocatedAs part plan «module»
located-linked part «module» plan some joined means = by plan.symbols some where
  by : (ps : List PlanSymbol) → ps ≢ [] → IsLocatedWith ps part plan «module»
  by [] none = absurd (none refl)
  by (symbol ∷ more) other = (joined, means)

-- an error of locating by the plan is about that module
pub met-alone : (part : Parts) (plan : Plan) → plan.symbols ≡ [] → (r : LocateRefusal) → r ≢ locate.NoMemory
    → IsMet (list_fact (planned_answer (part ∷ []) plan)) r → IsMet (copied_answer (part ∷ []) plan) r
met-alone part plan empty r other met =
    subst (λ (l : List Parts). IsMet (copied_answer l plan) r) (none-followed (part ∷ []) _ plan.symbols empty)
    (met-listed (part ∷ []) plan r other met).1

pub met-linked : (part «module» : Parts) (plan : Plan) → copied_answer («module» ∷ []) plan ≡ copied_answer (with_symbols (part ∷ []) plan) plan
    → (r : LocateRefusal) → r ≢ locate.NoMemory → IsMet (list_fact (planned_answer (part ∷ []) plan)) r → IsMet (copied_answer («module» ∷ []) plan) r
met-linked part «module» plan same r other met =
    subst (λ (o : Option LocateFact). IsMet o r) (sym same) (met-listed (part ∷ []) plan r other met).1

-- ---- a location of which nothing is made

-- this is not a write fault
pub unmade-unwritten : (p : Product) (names : ModuleFiles) (m : Location) (answer : Outcome)
    → EndsAt (product_of p names (shown_of m) m.located) answer → answer ≢ outcome.WriteFault
unmade-unwritten p names m answer (inl lacks) = λ same. let both : outcome.NoMemory ≡ outcome.WriteFault = sym lacks ∙ same in cc
unmade-unwritten p names m answer (inr (s, of_modules, shown, ends)) =
    let (refused, fact, is) = product-stops p names (shown_of m) m.located s ends in
    λ same. let both : outcome.Refused (refusal.Bin refused) ≡ outcome.WriteFault = sym (shown ∙ ap stop_outcome is) ∙ same in cc

-- ---- a name that no public has

module _ (files : Option (List NamedFile)) (c : Inputs) (names : ModuleFiles) (keep : List (List ℕ)) (p : Product) (plan : Plan) (ms : List Parts) where
  abbrev t : Task
  t = task.Locate c keep p

  abbrev read_in : List NamedFile → Type 0
  read_in fs = AreReadOver fs c names plan ms

  module _ (flat : List FileModule) where
    pub unknown-over : (name details : List ℕ) → AreUnkept files c names keep plan ms flat name → details ≡ name_details names flat name
        → EndsOver files t (outcome.Refused (refusal.Keep name)) details
    unknown-over name details is are = both is.ends where
      by : (s : Stop) → IsOfModules s → outcome.Refused (refusal.Keep name) ≡ stop_outcome s → kept_of (roots_by keep plan) (modules_of flat) (stops s)
          → EndsOver files t (outcome.Refused (refusal.Keep name)) details
      by (keep_unknown other) of_modules same ends =
          let own : outcome.Refused (refusal.Keep name) ≡ outcome.Refused (refusal.Keep other) = same in
          let equal : name ≡ other = cc in (
            record {
              stop = keep_unknown other;
              is = same;
              of_inputs = tt;
              cause = known-map read_in (λ fs. work_of t fs (stops (keep_unknown other))) files
                  (λ fs there. locating-stops c plan ms fs there.read keep p (keep_unknown other) (inr (modules_of flat, is.linked.links, inl ends)))
                  is.linked.read;
            },
            tt,
            known-map read_in (λ fs. lines_of_name fs c other (gives details)) files
                (λ fs there. (
                  ms,
                  inputs-modules fs c plan ms there.read,
                  (flat, is.linked.are, are ∙ (λ i. name_details (there.named i) flat (equal i))),
                )) is.linked.read,
          )
      by (link_fact f) of_modules same ends = absurd cc
      by (locate_fact maus f) of_modules same ends = absurd cc
      by (bytes_refused b) of_modules same ends = absurd cc
      by (name_shared name) of_modules same ends = absurd cc
      by (text_refused r) of_modules same ends = absurd cc
      by (listing_refused r) of_modules same ends = absurd cc
      by (words_refused w) of_modules same ends = absurd of_modules
      by (plan_refused r) of_modules same ends = absurd of_modules
      by (file_refused n r) of_modules same ends = absurd of_modules
      by (past_limit n) of_modules same ends = absurd of_modules
      by (too_many_modules n) of_modules same ends = absurd of_modules

      both : EndsAt (kept_of (roots_by keep plan) (modules_of flat)) (outcome.Refused (refusal.Keep name))
          → EndsOver files t (outcome.Refused (refusal.Keep name)) details
      both (inl same) = absurd cc
      both (inr (s, of_modules, same, ends)) = by s of_modules same ends

    -- ---- a locate fact

    module _ (part : Parts) (origins : List Origin) where
      -- what a fact against the module that is located is explained by
      abbrev own_explained : Parts → Explained
      own_explained «module» = record {
        names = names;
        flat = flat;
        origins = origins;
        maus = «module».maus;
        modules = «module» ∷ [];
        «module» = «module»;
        own = part;
        plan = plan;
      }

      module _ (is : AreUnlocated files c names keep plan ms flat part origins) (symbols : HasSoundSymbols plan) where
        abbrev alike : AreLocatedAlike (part ∷ []) is.kept.modules plan
        alike = is.keeps.same.alike plan symbols

        -- an end of the location of the part is one of the run
        end-stops : (s : Stop) → located plan (part ∷ []) (stops s) → IfSome files (λ fs. work_of t fs (stops s))
        end-stops s ends = known-map read_in (λ fs. work_of t fs (stops s)) files
            (λ fs there. locating-stops c plan ms fs there.read keep p s
            (inr (
              modules_of flat,
              is.linked.links,
              inr (is.kept, is.keeps.keeps, located-forth (part ∷ []) is.kept.modules plan symbols is.keeps.same (stops s) ends),
            ))) is.linked.read

        -- ---- a name that the plan shares

        pub shared-over : (name : List ℕ) → planned_answer (part ∷ []) plan ≡ Some (shared_name name) → (details : List ℕ)
            → details ≡ shared_details names flat plan name ++ plan_lines c.plan → EndsOver files t (outcome.Refused (refusal.SharedName name)) details
        shared-over name met details are = (
          record {
            stop = name_shared name;
            is = refl;
            of_inputs = tt;
            cause = end-stops (name_shared name) (is-unlocated (part ∷ []) plan (shared_name name) met);
          },
          tt,
          known-map read_in (λ fs. lines_of_shared fs c name (gives details)) files
              (λ fs there. (
                plan,
                inputs-planned fs c plan ms there.read,
                (
                  ms,
                  inputs-modules fs c plan ms there.read,
                  (flat, is.linked.are, are ∙ ap (λ (l : ModuleFiles). shared_details l flat plan name ++ plan_lines c.plan) there.named),
                ),
              )) is.linked.read,
        )

        -- ---- a fact about the list with the plan's symbols

        module _ («module» : Parts) (f : LocateFact) (met : planned_answer (part ∷ []) plan ≡ Some (of_list f)) where
          none-shared : first_shared is.kept.modules plan ≡ None
          none-shared = unshared-by is.kept.modules plan f (sym alike.answers ∙ met)

          -- it is explained as against what is kept of the flat list
          explained-with : (ps : List PlanSymbol) → plan.symbols ≡ ps → IsLocatedWith ps part plan «module» → (r : LocateRefusal)
              → locate_details (own_explained «module») r
              ≡ locate_details (record (own_explained «module») { modules = shown_list is.kept.modules plan }) r
          explained-with [] empty same r =
              subst (λ (o : Parts). locate_details (own_explained o) r
              ≡ locate_details (record (own_explained o) { modules = shown_list is.kept.modules plan }) r) (sym same)
              (explained-alike (own_explained part) (part ∷ []) (shown_list is.kept.modules plan)
              (subst (λ (l : List Parts). MeansTheSame (part ∷ []) l) (sym (without-symbols is.kept.modules plan empty)) is.keeps.same.means) r)
          explained-with (symbol ∷ more) some (joined, means) r =
              explained-alike (own_explained «module») («module» ∷ []) (shown_list (part ∷ []) plan) means r
              ∙ explained-alike (own_explained «module») (shown_list (part ∷ []) plan) (shown_list is.kept.modules plan) (alike.shown none-shared) r

          module-with : (ps : List PlanSymbol) → plan.symbols ≡ ps → IsLocatedWith ps part plan «module» → IsModuleWith ps plan is.kept «module»
          module-with [] empty same = subst (λ (o : Parts). IsModuleWith [] plan is.kept o) (sym same) is.keeps.module_is
          module-with (symbol ∷ more) some (joined, means) =
              subst (λ (n : List ℕ). IsJoined «module» (shown_list is.kept.modules plan) n) (name-kept part is.kept.modules is.keeps.same.means)
              (((alike.shown none-shared).same_joined «module» part.name).0 joined)

          units-with : (ps : List PlanSymbol) → plan.symbols ≡ ps → IsLocatedWith ps part plan «module» → «module».maus ≡ part.maus
          units-with [] empty same = ap (λ (m : Parts). m.maus) same
          units-with (symbol ∷ more) some (joined, means) = first-shown «module» part [] plan joined.header

          pub locate-over : IsLocatedAs part plan «module» → f ≢ placement place_refusal.NoMemory → (details : List ℕ)
              → details ≡ locate_details (own_explained «module») (locate_refusal f)
              → EndsOver files t (outcome.Refused (refusal.Locate (locate_refusal f) «module».maus)) details
          locate-over is_module other details are =
              let units = units-with plan.symbols refl is_module in (
                record {
                  stop = locate_fact part.maus f;
                  is = ap (λ (n : ℕ). outcome.Refused (refusal.Locate (locate_refusal f) n)) units;
                  of_inputs = other;
                  cause = end-stops (locate_fact part.maus f) (is-unlocated (part ∷ []) plan (of_list f) met);
                },
                other,
                known-map read_in (λ fs. lines_of_locate fs c keep part.maus f (gives details)) files
                    (λ fs there. (
                      plan,
                      inputs-planned fs c plan ms there.read,
                      (
                        ms,
                        inputs-modules fs c plan ms there.read,
                        (
                          flat,
                          is.linked.are,
                          (
                            is.kept,
                            is.keeps.keeps,
                            (
                              part,
                              is.keeps.module_is,
                              (
                                «module»,
                                module-with plan.symbols refl is_module,
                                are ∙ explained-with plan.symbols refl is_module (locate_refusal f)
                                    ∙ (λ i. locate_details (record (own_explained «module») {
                                      names = there.named i;
                                      maus = units i;
                                      modules = shown_list is.kept.modules plan;
                                      origins = is.keeps.from i;
                                    }) (locate_refusal f)),
                              ),
                            ),
                          ),
                        ),
                      ),
                    )) is.linked.read,
              )

        -- the error that was returned is that of such a fact
        pub obstacle-over : («module» : Parts) → IsLocatedAs part plan «module» → (r : LocateRefusal) → r ≢ locate.NoMemory
            → IsMet (list_fact (planned_answer (part ∷ []) plan)) r → (details : List ℕ) → details ≡ locate_details (own_explained «module») r
            → EndsOver files t (outcome.Refused (refusal.Locate r «module».maus)) details
        obstacle-over «module» is_module locate.NoMemory memory met details are = absurd (memory refl)
        obstacle-over «module» is_module (locate.Place e) memory met details are =
            locate-over «module» (placement e) (listed (planned_answer (part ∷ []) plan) (placement e) met) is_module
            (λ same. planned_never_lacks (part ∷ []) plan (listed (planned_answer (part ∷ []) plan) (placement e) met
            ∙ ap (λ (f : LocateFact). Some (of_list f)) same)) details are
        obstacle-over «module» is_module (locate.Undefined name) memory met details are =
            locate-over «module» (undefined name) (listed (planned_answer (part ∷ []) plan) (undefined name) met) is_module (λ same. cc) details are
        obstacle-over «module» is_module (locate.CommonUnplaced name) memory met details are =
            locate-over «module» (common_unplaced name) (listed (planned_answer (part ∷ []) plan) (common_unplaced name) met) is_module (λ same. cc) details are
        obstacle-over «module» is_module (locate.Cycle name) memory met details are =
            locate-over «module» (cycle name) (listed (planned_answer (part ∷ []) plan) (cycle name) met) is_module (λ same. cc) details are
        obstacle-over «module» is_module (locate.DivideByZero site) memory met details are =
            locate-over «module» (zero_divisor site) (listed (planned_answer (part ∷ []) plan) (zero_divisor site) met) is_module (λ same. cc) details are
        obstacle-over «module» is_module (locate.Overflow section address kind size value) memory met details are =
            locate-over «module» (overflow section address kind size value)
            (listed (planned_answer (part ∷ []) plan) (overflow section address kind size value) met) is_module (λ same. cc) details are
        obstacle-over «module» is_module (locate.LoadOutside section address) memory met details are =
            locate-over «module» (load_outside section address) (listed (planned_answer (part ∷ []) plan) (load_outside section address) met) is_module
            (λ same. cc) details are
        obstacle-over «module» is_module (locate.LoadedTwice address) memory met details are =
            locate-over «module» (loaded_twice address) (listed (planned_answer (part ∷ []) plan) (loaded_twice address) met) is_module (λ same. cc) details are
        obstacle-over «module» is_module (locate.ImageLimit count) memory met details are =
            locate-over «module» (image_limit count) (listed (planned_answer (part ∷ []) plan) (image_limit count) met) is_module (λ same. cc) details are

  -- ---- a location

  module _ (read : AreReadFrom files c names plan ms) (m : Location) (are : AreMapped (tree_of c.marks) (roots_by keep plan) plan ms m) where
    -- what is made of it
    pub product-over : (ready : Ready) → product_of p names (shown_of m) m.located (gives (ready_output ready))
        → EndsOver files t outcome.Done (untried_lines (file_of p))
    product-over ready puts = (
      (
        ready_output ready,
        record {
          place = product-place p names (shown_of m) m.located (ready_output ready) puts;
          cause = known-map read_in (λ fs. work_of t fs (gives (ready_output ready))) files
              (λ fs there. product-comes c plan ms fs there.read keep p names there.named m are (gives (ready_output ready)) puts) read;
        },
      ),
      refl,
    )

    -- or why nothing is
    pub unmade-over : (answer : Outcome) → EndsAt (product_of p names (shown_of m) m.located) answer → (answer ≡ outcome.NoMemory) ⊎ EndsOver files t answer []
    unmade-over answer (inl lacks) = inl lacks
    unmade-over answer (inr (s, of_modules, shown, ends)) =
        let (refused, fact, same) = product-stops p names (shown_of m) m.located s ends in
        let long : product_of p names (shown_of m) m.located (stops (bytes_refused refused))
        = subst (λ (x : Stop). product_of p names (shown_of m) m.located (stops x)) same ends in
        inr (subst (λ (o : Outcome). EndsOver files t o []) (sym (shown ∙ ap stop_outcome same)) (
          record {
            stop = bytes_refused refused;
            is = refl;
            of_inputs = tt;
            cause = known-map read_in (λ fs. work_of t fs (stops (bytes_refused refused))) files
                (λ fs there. product-comes c plan ms fs there.read keep p names there.named m are (stops (bytes_refused refused)) long) read;
          },
          tt,
          refl,
        ))
