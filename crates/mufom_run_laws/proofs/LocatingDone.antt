-- Locating accepted files is done exactly where no fact stands against their flat list.
use Rattle.std.proofs.Common.{◌≡◌, ◌⊎◌, ℕ, List, Option, None, sym, subst, inl, inr}
use Rattle.mufom_host.specs.World.{HoldBytes, NamedFile}
use Rattle.mufom_origins.specs.Origins.{origins_of}
use Rattle.mufom_module.specs.declared.module.Parts.{Parts}
use Rattle.mufom_plan.specs.declared.plan.Plan.{Plan}
use Rattle.mufom_words.specs.Tree.{tree_of}
use Rattle.mufom_meaning.specs.declared.located.LocatedParts.{LocatedParts}
use Rattle.mufom_meaning.specs.LinkAnswer.{link_answer}
use Rattle.mufom_planned.specs.Planned.{IsPlanned, PlanFact, planned_answer}
use Rattle.mufom_groups.specs.Work.{gives, stops, Work}
use Rattle.mufom_groups.proofs.Works.{value-same}
use Rattle.mufom_outcome.specs.Stop.{Stop}
use Rattle.mufom_task.specs.declared.task.Inputs.{Inputs}
use Rattle.mufom_task.specs.Inputs.{module_files}
use Rattle.mufom_task.specs.declared.task.Product.{Product}
use Rattle.mufom_task.specs.declared.task.Task.TheVariants as task
use Rattle.mufom_works.specs.Roots.{Roots, roots_by}
use Rattle.mufom_works.specs.Works.{Kept, Output, kept_of, located_unless, locating_kept, mapped_kept, producing, work_of}
use Rattle.mufom_works.proofs.EndLaws.{location-of}
use Rattle.mufom_works.proofs.ProductLaws.{product-never}
use Rattle.mufom_works.proofs.Runs.{kept_of-single, of-files}
use Rattle.mufom_run_laws.specs.RunLaws.{Accepts, HasNoFact, LocatingIsDone, MayPutOut}
use Rattle.mufom_run_laws.proofs.Accepted.{EndsAtFact, accepted-gives, accepted-stops, no-link-fact}
use Rattle.mufom_run_laws.proofs.Calm.{done-comes, never-done}
use Rattle.mufom_run_laws.proofs.Plain.{plain-answers}

-- ---- what is put out of a list

module _ (output : Kept → LocatedParts → Work Stop Output) (keep : Option Roots) (plan : Plan) (list : List Parts) where
  -- no fact stands against a list of which there is an output
  pub no-fact-there : (o : Output) → link_answer list ≡ None → locating_kept output keep plan list (gives o) → HasNoFact keep list plan
  no-fact-there o links (kept, is_kept, (r, is_located, puts)) =
      record { links = links; kept = kept; keeps = is_kept; locates = (location-of plan kept.modules r is_located).locates }

  -- where no fact stands, the work comes to no end, unless the output of a location does
  pub no-end : ((kept : Kept) (r : LocatedParts) → kept_of keep list (gives kept) → IsPlanned kept.modules plan r → (s : Stop)
      → output kept r (stops s) → ⊥)
      → HasNoFact keep list plan
      → (s : Stop) → locating_kept output keep plan list (stops s) → ⊥
  no-end never none s (inl ends) =
      let same : stops s ≡ gives none.kept = kept_of-single keep list (stops s) (gives none.kept) ends none.keeps in absurd cc
  no-end never none s (inr (kept, is_kept, inl ends)) =
      let same : kept ≡ none.kept = value-same kept none.kept (kept_of-single keep list (gives kept) (gives none.kept) is_kept none.keeps) in
      let locates : planned_answer kept.modules plan ≡ None = subst (λ (k : Kept). planned_answer k.modules plan ≡ None) (sym same) none.locates in
      subst (λ (o : Option PlanFact). located_unless o plan kept.modules (stops s)) locates ends
  no-end never none s (inr (kept, is_kept, inr (r, is_located, ends))) = never kept r is_kept (location-of plan kept.modules r is_located) s ends

-- ---- the work of a task that locates

module _ (files : List NamedFile) (c : Inputs) (keep : List (List ℕ)) (p : Product) (plan : Plan) (flat : List Parts) (bytes : HoldBytes files)
    (accepts : Accepts files c plan flat) where
  abbrev work : List Parts → Plan → List Parts → Work Stop Output
  work ms plan flat = locating_kept (producing p (module_files files c) (tree_of c.marks) ms plan) (roots_by keep plan) plan flat

  -- no fact stands where there is an output
  exact-there : (o : Output) → work_of (task.Locate c keep p) files (gives o) → HasNoFact (roots_by keep plan) flat plan
  exact-there o is =
      let (links, is_put) = accepted-gives files c plan flat bytes accepts work o is in
      no-fact-there (producing p (module_files files c) (tree_of c.marks) accepts.modules plan) (roots_by keep plan) plan flat o links is_put

  -- and where none stands the work has no end
  exact-back : ((kept : Kept) (r : LocatedParts) → kept_of (roots_by keep plan) flat (gives kept) → IsPlanned kept.modules plan r
      → MayPutOut p plan r)
      → HasNoFact (roots_by keep plan) flat plan → (s : Stop) → work_of (task.Locate c keep p) files (stops s) → ⊥
  exact-back may none s ends = by (accepted-stops files c plan flat bytes accepts work s ends) where
    never : (kept : Kept) (r : LocatedParts) → kept_of (roots_by keep plan) flat (gives kept) → IsPlanned kept.modules plan r → (s : Stop)
        → producing p (module_files files c) (tree_of c.marks) accepts.modules plan kept r (stops s) → ⊥
    never kept r keeps there s (inl nothing) = nothing
    never kept r keeps there s (inr (own, are, ends)) =
        product-never p (module_files files c) (mapped_kept (origins_of own) plan kept r) r (may kept r keeps there) s ends

    by : EndsAtFact flat s ⊎ ((link_answer flat ≡ None) × work accepts.modules plan flat (stops s)) → ⊥
    by (inl fact) = no-link-fact flat plan s none.links fact
    by (inr (links, ends)) =
        no-end (producing p (module_files files c) (tree_of c.marks) accepts.modules plan) (roots_by keep plan) plan flat never none s ends

-- Locating is done exactly where no fact stands against the flat list.
pub locating-done : LocatingIsDone
locating-done words files call result c inputs keep p plan flat is calm named asks accepts may =
    let bytes : HoldBytes files = of-files call files calm.known HoldBytes calm.revealed.bytes in
    let answer = plain-answers words c named (task.Locate inputs keep p) asks call result is in (
      (λ done. let came = done-comes files call (task.Locate inputs keep p) result answer calm done in
          exact-there files inputs keep p plan flat bytes accepts came.output came.comes),
      (λ none. never-done files call (task.Locate inputs keep p) result answer calm
          (exact-back files inputs keep p plan flat bytes accepts may none)),
    )
