use Rattle.std.proofs.lemmas.Result.{IfOk-weaker}
use Rattle.toml.specs.View.{table_view}
use Rattle.mufom_plan.proofs.PlanLemmas.{plan_of_document-sound}
use Rattle.mufom_plan.proofs.read.read_plan.Goals as goal

pub returns-clause-distinct : goal.returns-clause-distinct
returns-clause-distinct c = IfOk-weaker c.plan.result _ _ (λ plan
    is. (plan_of_document-sound (table_view c.in_ok-document.document) plan is).regions.distinct) c.plan.ensures.ok

pub returns-clause-common : goal.returns-clause-common
returns-clause-common c = IfOk-weaker c.plan.result _ _ (λ plan
    is. (plan_of_document-sound (table_view c.in_ok-document.document) plan is).regions.common) c.plan.ensures.ok

pub returns-clause-loads : goal.returns-clause-loads
returns-clause-loads c = IfOk-weaker c.plan.result _ _ (λ plan is. (plan_of_document-sound (table_view c.in_ok-document.document) plan is).loads)
    c.plan.ensures.ok

pub returns-clause-symbols : goal.returns-clause-symbols
returns-clause-symbols c = IfOk-weaker c.plan.result _ _ (λ plan is. (plan_of_document-sound (table_view c.in_ok-document.document) plan is).symbols)
    c.plan.ensures.ok
