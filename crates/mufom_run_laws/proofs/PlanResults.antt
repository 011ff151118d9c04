-- Reading a plan has a result: each plan that a text states is one that the program can hold.
use Rattle.std.proofs.Common.{◌≡◌, ℕ, ◌≤◌, Bool, true, false, not, nat_lt, List, length, Option, Some, None, Result, Ok, Err, IfSome, IsSome, refl}
use Rattle.std.proofs.Common.{sym, arith, true≢false}
use Rattle.toml.specs.Data.{Members}
use Rattle.mufom_host.specs.World.{NamedFile, file_named}
use Rattle.mufom_plan.specs.declared.plan.Plan.{Plan}
use Rattle.mufom_plan.specs.declared.refusal.PlanRefusal.{PlanRefusal}
use Rattle.mufom_plan.specs.declared.refusal.PlanRefusal.TheVariants.{Syntax, TooLong}
use Rattle.mufom_plan.specs.Document.{document_of}
use Rattle.mufom_plan.specs.PlanText.{◌>>=◌, or_refuse, plan_of_document, plan_of_text, unless}
use Rattle.mufom_plan.proofs.PlanLemmas.{plan_of_document-sound}
use Rattle.mufom_meaning.specs.Absolute.{no_regions}
use Rattle.mufom_planned.specs.ReadPlans.{IsReadPlan}
use Rattle.mufom_groups.specs.Work.{gives, stops}
use Rattle.mufom_outcome.specs.Stop.{plan_refused}
use Rattle.mufom_task.specs.Reading.{file_in, plan_by, plan_in}
use Rattle.mufom_run_laws.specs.Results.{HasResult}
use Rattle.mufom_bounds.proofs.PlanSizes.{text-within}
use Rattle.mufom_run_laws.proofs.Then.{then-result}

-- the program can hold the plan that bytes state
is-read : (bytes : List ℕ) (plan : Plan) → plan_of_text bytes ≡ Ok plan → IsReadPlan plan
is-read bytes plan is = by_length (not (nat_lt 65536 (length bytes))) is where
  by_document : (o : Option Members) → or_refuse Syntax o >>= plan_of_document ≡ Ok plan → IsReadPlan plan
  by_document None never = absurd cc
  by_document (Some document) stated =
      let sound = plan_of_document-sound document plan stated in
      let within = text-within bytes plan is in
      let regions : length plan.regions ≤ 65536 = within.regions in
      record {
        placed = record { names = sound.regions.distinct; regions = omega (arith, regions); common = sound.regions.common };
        symbols = record { distinct = sound.symbols; short = within.names };
        loads = sound.loads;
      }

  by_length : (short : Bool) → unless short TooLong (or_refuse Syntax (document_of bytes) >>= plan_of_document) ≡ Ok plan → IsReadPlan plan
  by_length true stated = by_document (document_of bytes) stated
  by_length false never = absurd cc

stated-result : (bytes : List ℕ) (r : Result Plan PlanRefusal) → plan_of_text bytes ≡ r → HasResult (plan_by r)
stated-result bytes (Ok plan) is = (gives plan, (is-read bytes plan is, refl))
stated-result bytes (Err r) is = (stops (plan_refused r), refl)

pub plan-result : (files : List NamedFile) (name : Option (List ℕ)) → IfSome name (λ n. IsSome (file_named n files)) → HasResult (plan_in files name)
plan-result files None exists = (gives no_regions, refl)
plan-result files (Some name) exists = by (file_named name files) refl exists where
  by : (o : Option (List ℕ)) → file_named name files ≡ o → IsSome o → HasResult (plan_in files (Some name))
  by None there is = absurd (true≢false (sym is))
  by (Some bytes) there is =
      then-result (file_in files name) (λ text. plan_by (plan_of_text text)) (gives bytes, there)
      (λ text is_text. stated-result text (plan_of_text text) refl)
