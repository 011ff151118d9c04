-- A list that was linked in stages is put out as the list that the stages began with.
use Rattle.std.proofs.Common.{◌≡◌, ◌↔◌, ℕ, inl, inr, map, not, List, [], ◌∷◌, Option, Some, None, unwrap_or, refl, sym, ap, subst, ◌∙◌}
use Rattle.std.specs.List.{find}
use Rattle.mufom_host.specs.World.{HoldBytes, NamedFile}
use Rattle.mufom_words.specs.Tree.{tree_of}
use Rattle.mufom_module.specs.declared.module.Parts.{Parts}
use Rattle.mufom_plan.specs.declared.plan.Plan.{Plan}
use Rattle.mufom_meaning.specs.declared.located.LocatedParts.{LocatedParts}
use Rattle.mufom_meaning.specs.Joined.{IsJoined}
use Rattle.mufom_meaning.specs.Location.{Header, first_header}
use Rattle.mufom_meaning.specs.Bases.{Bases}
use Rattle.mufom_meaning.specs.Flat.{SitedPublic, public_names}
use Rattle.mufom_meaning.specs.Readings.{PublicReading, Readings, public_reading, readings}
use Rattle.mufom_meaning.specs.Values.{Setting, setting}
use Rattle.mufom_meaning.proofs.Names.{names_of-sited_publics}
use Rattle.mufom_meaning.proofs.Unfolding.{readings-publics}
use Rattle.mufom_plan.specs.Names.{has_name}
use Rattle.mufom_meaning.specs.StagingLaws.{MeansTheSame}
use Rattle.mufom_planned.specs.PlanLaws.{HasSoundSymbols}
use Rattle.mufom_task.proofs.PlanLaws.{plan-sound}
use Rattle.mufom_works.specs.Same.{AreSame}
use Rattle.mufom_groups.specs.Linked.{first_name, joined, linked}
use Rattle.mufom_groups.specs.Work.{gives, stops, Work, ◌>>=◌, one_with, stop_at, sure, with_stops}
use Rattle.mufom_groups.proofs.Singles.{linked-single}
use Rattle.mufom_groups.proofs.Works.{stops-single, sure-single}
use Rattle.mufom_outcome.specs.Stop.{Stop, keep_unknown, link_fact}
use Rattle.mufom_origins.specs.declared.origins.Origin.{Origin}
use Rattle.mufom_origins.specs.Origins.{FileModule, origins_of}
use Rattle.mufom_map.specs.Mapped.{Mapped}
use Rattle.mufom_origins.specs.Words.{ModuleFiles}
use Rattle.mufom_task.specs.declared.task.Inputs.{Inputs}
use Rattle.mufom_task.specs.Inputs.{module_files}
use Rattle.mufom_task.specs.declared.task.Product.{Product}
use Rattle.mufom_task.specs.declared.task.Task.TheVariants as task
use Rattle.mufom_task.specs.Reading.{plan_in, modules_in}
use Rattle.mufom_works.specs.FlatFiles.{AreFlatFiles}
use Rattle.mufom_works.specs.Roots.{Roots, first_unknown, roots_by}
use Rattle.mufom_works.specs.Works.{Kept, Output, all_of, writes_module, kept_of, kept_unless, linked_file, linking, located, locating_kept, producing}
use Rattle.mufom_works.specs.Works.{product_of, product_with, rest_of_link, work_of}
use Rattle.mufom_works.proofs.EndLaws.{location-of}
use Rattle.mufom_works.proofs.LocatingLaws.{located-back, located-forth, staged-same}
use Rattle.mufom_works.proofs.MapLaws.{flat-files-single, same-map}
use Rattle.mufom_works.proofs.Runs.{modules_in-single, plan_in-single}
use Rattle.mufom_run_laws.specs.RunLaws.{CameByStages, IsSameWork, LeadsTo, PutOutAlike, RunsOfStages, StagesMakeNoDifference}
use Rattle.mufom_run_laws.proofs.SameWorks.{same-sym, same-trans, same-work, then-known, then-same, then-same-where}

-- the name of the first module, by its header
abbrev name_by : Option Header → List ℕ
name_by None = []
name_by (Some h) = h.1

first_name-header : (ms : List Parts) → first_name ms ≡ name_by (first_header ms)
first_name-header [] = refl
first_name-header (m ∷ ms) = refl

-- the names of the publics, by what they mean wherever the sections stand
abbrev no_bases : Bases
no_bases = record { sections = []; commons = λ (name : List ℕ). None }

names-of-readings : (s : Setting) (publics : List SitedPublic) → map (λ (p : PublicReading). p.name) (map (public_reading s) publics)
    ≡ map (λ (q : SitedPublic). q.entry.name) publics
names-of-readings s [] = refl
names-of-readings s (q ∷ publics) = ap (λ (names : List (List ℕ)). q.entry.name ∷ names) (names-of-readings s publics)

names-read : (ms : List Parts) → map (λ (p : PublicReading). p.name) (readings ms no_bases).publics ≡ public_names ms
names-read ms =
    ap (map (λ (p : PublicReading). p.name)) (readings-publics ms no_bases)
    ∙ names-of-readings (setting ms no_bases) (setting ms no_bases).publics ∙ names_of-sited_publics 0 0 0 ms

pub lists-same : (ms leaves : List Parts) → CameByStages ms leaves → AreSame ms leaves
lists-same ms leaves came = staged-same came.descriptor.0 ms leaves came.staged came.valid came.descriptor.1 came.names

pub means-same : (ms leaves : List Parts) → CameByStages ms leaves → MeansTheSame ms leaves
means-same ms leaves came = (lists-same ms leaves came).means

module _ (plan : Plan) (symbols : HasSoundSymbols plan) (ms leaves : List Parts) (same : AreSame ms leaves) where
  abbrev means : MeansTheSame ms leaves
  means = same.means

  first-same : first_name ms ≡ first_name leaves
  first-same = first_name-header ms ∙ ap name_by means.same_first ∙ sym (first_name-header leaves)

  joined-forth : (name : Option (List ℕ)) (M : Parts)
      → IsJoined M ms (unwrap_or name (first_name ms)) ↔ IsJoined M leaves (unwrap_or name (first_name leaves))
  joined-forth name M =
      subst (λ (first : List ℕ). IsJoined M ms (unwrap_or name (first_name ms)) ↔ IsJoined M leaves (unwrap_or name first)) first-same
      (means.same_joined M (unwrap_or name (first_name ms)))

  joined-same : (name : Option (List ℕ)) → IsSameWork (with_stops link_fact (joined name ms)) (with_stops link_fact (joined name leaves))
  joined-same name (gives M) = joined-forth name M
  joined-same name (stops s) = ((λ (f, never, is). absurd never), (λ (f, never, is). absurd never))

  located-same : IsSameWork (located plan ms) (located plan leaves)
  located-same x = (located-forth ms leaves plan symbols same x, located-back ms leaves plan symbols same x)

  names-same : public_names ms ≡ public_names leaves
  names-same = sym (names-read ms) ∙ ap (λ (r : Readings). map (λ (p : PublicReading). p.name) r.publics) (means.same_readings no_bases) ∙ names-read leaves

  -- the link of one is the link of the other
  link-same : (M : Parts) → IsJoined M ms (first_name ms) ↔ IsJoined M leaves (first_name leaves)
  link-same M = subst (λ (name : List ℕ). IsJoined M ms (first_name ms) ↔ IsJoined M leaves name) first-same (means.same_joined M (first_name ms))

  rest-same : (roots : Roots) → IsSameWork (rest_of_link roots ms) (rest_of_link roots leaves)
  rest-same roots (gives kept) = (
    (λ (M, (sound, joined), rest). (M, (sound, (link-same M).0 joined), rest)),
    (λ (M, (sound, joined), rest). (M, (sound, (link-same M).1 joined), rest)),
  )
  rest-same roots (stops s) = (
    (λ ends. absurd (never ms roots s ends)),
    (λ ends. absurd (never leaves roots s ends)),
  ) where
    never : (list : List Parts) (roots : Roots) (s : Stop) → rest_of_link roots list (stops s) → ⊥
    never list roots s (inl none) = none
    never list roots s (inr (M, is, inl none)) = none
    never list roots s (inr (M, is, inr (marks, is_kept, none))) = none

  kept-same : (roots : Roots) → IsSameWork (kept_of (Some roots) ms) (kept_of (Some roots) leaves)
  kept-same roots =
      subst (λ (names : List (List ℕ)). IsSameWork (kept_of (Some roots) ms)
      (kept_unless (find (λ name. not (has_name names name)) roots.names) roots leaves)) names-same (by (first_unknown ms roots.names)) where
        by : (o : Option (List ℕ)) → IsSameWork (kept_unless o roots ms) (kept_unless o roots leaves)
        by (Some name) = same-work (stop_at (keep_unknown name))
        by None = rest-same roots

  -- what is made of what is kept of one, and of the location of that, is what is made of the other
  module _ (output : Kept → LocatedParts → Work Stop Output)
      (each : (r : LocatedParts) → located plan ms (gives r) → IsSameWork (output (all_of ms) r) (output (all_of leaves) r)) where
    abbrev next : Kept → Work Stop Output
    next kept = located plan kept.modules >>= λ r. output kept r

    pub of_kept : (keep : Option Roots) → IsSameWork (locating_kept output keep plan ms) (locating_kept output keep plan leaves)
    of_kept None =
        let here : IsSameWork (sure (all_of ms) >>= next) (next (all_of ms)) = then-known (sure (all_of ms)) next (all_of ms) (sure-single (all_of ms)) refl in
        let there : IsSameWork (sure (all_of leaves) >>= next) (next (all_of leaves))
        = then-known (sure (all_of leaves)) next (all_of leaves) (sure-single (all_of leaves)) refl in
        same-trans (sure (all_of ms) >>= next) (next (all_of ms)) (sure (all_of leaves) >>= next) here
        (same-trans (next (all_of ms)) (next (all_of leaves)) (sure (all_of leaves) >>= next)
        (then-same-where (located plan ms) (located plan leaves) (λ r. output (all_of ms) r) (λ r. output (all_of leaves) r) located-same each)
        (same-sym (sure (all_of leaves) >>= next) (next (all_of leaves)) there))
    of_kept (Some roots) =
        then-same (kept_of (Some roots) ms) (kept_of (Some roots) leaves) next next (kept-same roots) (λ kept. same-work (next kept))

  -- whatever is made of the location of the whole list, with these origins
  product-same : (p : Product) (names : ModuleFiles) (origins : List Origin) (r : LocatedParts) → located plan ms (gives r)
      → IsSameWork (product_with p names origins plan (all_of ms) r) (product_with p names origins plan (all_of leaves) r)
  product-same p names origins r there =
      subst (λ (shown : Mapped). IsSameWork (product_with p names origins plan (all_of ms) r) (product_of p names shown r))
      (same-map ms leaves same origins plan symbols r (location-of plan ms r there)) (same-work (product_with p names origins plan (all_of ms) r))

  pub put_out-alike : PutOutAlike plan ms leaves
  put_out-alike = record {
    linked = λ name out. then-same (with_stops link_fact (joined name ms)) (with_stops link_fact (joined name leaves)) (λ M. writes_module out M)
        (λ M. writes_module out M) (joined-same name) (λ M. same-work (writes_module out M));
    located = λ keep p names origins. of_kept (product_with p names origins plan) (product-same p names origins) keep;
  }

-- A list that earlier runs linked in stages is put out as the list that the stages began with.
pub stages-alike : StagesMakeNoDifference
stages-alike plan ms leaves symbols came = put_out-alike plan symbols ms leaves (lists-same ms leaves came)

-- the work of a task that links files is what is put out of its flat list
pub linking-known : (output : List Parts → Plan → List Parts → Work Stop Output) (files : List NamedFile) (c : Inputs) (plan : Plan) (flat : List Parts)
    → HoldBytes files → (leads : LeadsTo files c plan flat) → IsSameWork (linking output files c) (output leads.modules plan flat)
linking-known output files c plan flat bytes leads =
    let ms : List Parts = leads.modules in
    let links : List Parts → Work Stop (List Parts) = λ ms. with_stops link_fact (linked (tree_of c.marks) ms) in
    let tail : List Parts → Work Stop Output = λ ms. links ms >>= λ flat. output ms plan flat in
    same-trans (linking output files c) (modules_in files c >>= tail) (output ms plan flat)
    (then-known (plan_in files c.plan) (λ plan. modules_in files c >>= λ ms. with_stops link_fact (linked (tree_of c.marks) ms) >>= λ flat. output ms
    plan flat) plan (plan_in-single files c.plan) leads.planned)
    (same-trans (modules_in files c >>= tail) (tail ms) (output ms plan flat)
    (then-known (modules_in files c) tail ms (modules_in-single files bytes c) leads.read)
    (then-known (links ms) (λ flat. output ms plan flat) flat
    (stops-single link_fact (linked (tree_of c.marks) ms) (linked-single (tree_of c.marks) ms)) leads.linked))

-- what is made of a location is the same where it is for each location of what is kept
locating-each : (keep : Option Roots) (plan : Plan) (ms : List Parts) (output other : Kept → LocatedParts → Work Stop Output)
    → ((kept : Kept) (r : LocatedParts) → IsSameWork (output kept r) (other kept r))
    → IsSameWork (locating_kept output keep plan ms) (locating_kept other keep plan ms)
locating-each keep plan ms output other each =
    then-same (kept_of keep ms) (kept_of keep ms) (λ kept. located plan kept.modules >>= λ r. output kept r) (λ kept. located plan kept.modules
    >>= λ r. other kept r) (same-work (kept_of keep ms))
    (λ kept. then-same (located plan kept.modules) (located plan kept.modules) (λ r. output kept r) (λ r. other kept r)
    (same-work (located plan kept.modules)) (each kept))

-- A task whose files were linked in stages has what is put out of the list that the stages began with.
module _ (files : List NamedFile) (c : Inputs) (plan : Plan) (flat leaves : List Parts) (own : List FileModule) (bytes : HoldBytes files)
    (leads : LeadsTo files c plan flat) (are : AreFlatFiles (tree_of c.marks) leads.modules own) (came : CameByStages flat leaves) where
  alike : PutOutAlike plan flat leaves
  alike = put_out-alike plan (plan-sound files c.plan plan leads.planned).symbols flat leaves (lists-same flat leaves came)

  link-of-stages : (name : Option (List ℕ)) (out : List ℕ) → IsSameWork (work_of (task.Link c name out) files) (linked_file name out leaves)
  link-of-stages name out =
      same-trans (work_of (task.Link c name out) files) (linked_file name out flat) (linked_file name out leaves)
      (linking-known (λ ms plan flat. linked_file name out flat) files c plan flat bytes leads) (alike.linked name out)

  module _ (keep : List (List ℕ)) (p : Product) where
    abbrev roots : Option Roots
    roots = roots_by keep plan

    abbrev names : ModuleFiles
    names = module_files files c

    -- the modules of the flat list are those of its files
    own-product : (kept : Kept) (r : LocatedParts)
        → IsSameWork (producing p names (tree_of c.marks) leads.modules plan kept r) (product_with p names (origins_of own) plan kept r)
    own-product kept r =
        then-known (one_with (AreFlatFiles (tree_of c.marks) leads.modules)) (λ flat. product_with p names (origins_of flat) plan kept r) own
        (flat-files-single (tree_of c.marks) leads.modules) are

    locate-of-stages : IsSameWork (work_of (task.Locate c keep p) files) (locating_kept (product_with p names (origins_of own) plan) roots plan leaves)
    locate-of-stages =
        let here : Work Stop Output = locating_kept (producing p names (tree_of c.marks) leads.modules plan) roots plan flat in
        let there : Work Stop Output = locating_kept (product_with p names (origins_of own) plan) roots plan flat in
        same-trans (work_of (task.Locate c keep p) files) here (locating_kept (product_with p names (origins_of own) plan) roots plan leaves)
        (linking-known (λ ms plan flat. locating_kept (producing p names (tree_of c.marks) ms plan)
        (roots_by keep plan) plan flat) files c plan flat bytes leads)
        (same-trans here there (locating_kept (product_with p names (origins_of own) plan) roots plan leaves)
        (locating-each roots plan flat (producing p names (tree_of c.marks) leads.modules plan) (product_with p names (origins_of own) plan) own-product)
        (alike.located roots p names (origins_of own)))

pub runs-of-stages : RunsOfStages
runs-of-stages files c plan flat leaves own bytes leads are came = record {
  linked = link-of-stages files c plan flat leaves own bytes leads are came;
  located = locate-of-stages files c plan flat leaves own bytes leads are came;
}
