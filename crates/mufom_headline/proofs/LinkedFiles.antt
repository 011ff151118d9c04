-- The result of `link` is that of linking its flat list, and each list from which that was linked in stages.
use Rattle.std.proofs.Common.{◌≡◌, ℕ, List, None, Option, Some, unwrap_or, refl, sym, subst, ◌∙◌}
use Rattle.mufom_host.specs.World.{HoldBytes, NamedFile}
use Rattle.mufom_words.specs.Tree.{tree_of}
use Rattle.mufom_module.specs.declared.module.Parts.{Parts}
use Rattle.mufom_plan.specs.declared.plan.Plan.{Plan}
use Rattle.mufom_meaning.specs.Facts.{LinkFact}
use Rattle.mufom_meaning.specs.LinkAnswer.{link_answer}
use Rattle.mufom_meaning.specs.Stands.{LinkFactStands}
use Rattle.mufom_meaning.specs.Staging.{AreValid}
use Rattle.mufom_meaning.proofs.staging.Staging.{joined_stands_for}
use Rattle.mufom_stages.specs.Stages.{named_as}
use Rattle.mufom_stages.proofs.Linked.{lists-link-as-their-leaves}
use Rattle.mufom_words.proofs.Sound.{words-sound}
use Rattle.mufom_groups.specs.Linked.{first_name}
use Rattle.mufom_groups.specs.Work.{gives, stops}
use Rattle.mufom_outcome.specs.Stop.{link_fact}
use Rattle.mufom_task.specs.declared.task.Inputs.{Inputs}
use Rattle.mufom_task.specs.declared.task.Request.TheVariants as request
use Rattle.mufom_task.specs.declared.task.Task.TheVariants as task
use Rattle.mufom_task.specs.Sound.{IsSoundInputs, IsSoundRequest}
use Rattle.mufom_task.proofs.RequestLaws.{sound-request}
use Rattle.mufom_task.specs.Calls.{Call}
use Rattle.mufom_task.specs.Inputs.{root_count}
use Rattle.mufom_works.specs.Works.{Output, linked_file, writes_module}
use Rattle.mufom_works.specs.Run.{PutsOut}
use Rattle.mufom_works.proofs.Runs.{of-files}
use Rattle.mufom_run_laws.specs.RunLaws.{Accepts, IsSameWork}
use Rattle.mufom_run_laws.proofs.Accepted.{accepted-fact, accepted-gives}
use Rattle.mufom_run_laws.proofs.Calm.{done-comes}
use Rattle.mufom_run_laws.proofs.Determined.{answers-determined}
use Rattle.mufom_run_laws.proofs.Leaves.{accepted-light, links-alike}
use Rattle.mufom_run_laws.proofs.Light.{flat-valid as its-valid}
use Rattle.mufom_run_laws.proofs.Members.{files-valid}
use Rattle.mufom_run_laws.proofs.Plain.{plain-answers, plain-run}
use Rattle.mufom_run_laws.proofs.SameWorks.{same-work}
use Rattle.mufom_task.proofs.PlanLaws.{plan-sound}
use Rattle.mufom_headline.specs.Linking.{HasLinked, IsLinkPutOut, IsRefusedLink, LinksArePutOut}
use Rattle.mufom_headline.specs.ReadBack.{IsPutInFile}
use Rattle.mufom_headline.proofs.Linking.{linking-is-done}
use Rattle.mufom_headline.proofs.ReadBack.{held-read-back}

-- the modules of accepted files have no defect
pub flat-valid : (files : List NamedFile) (c : Inputs) (plan : Plan) (flat : List Parts) → Accepts files c plan flat → AreValid flat
flat-valid files c plan flat accepts =
    let ((contents, all), few) = accepts.read in
    its-valid (tree_of c.marks) accepts.modules flat accepts.is_flat
    (files-valid c.options (root_count c) contents accepts.modules all.modules)

-- ---- what is put out

-- a module that was written is in the file with this name
pub file-made : (out : List ℕ) (call : Call) (m : Parts) (o : Output) → writes_module out m (gives o) → PutsOut o call → IsPutInFile out m call
file-made out call m o (held, is) puts = record { made = subst (λ (x : Output). PutsOut x call) is puts; read_back = held-read-back m held }

module _ (name : Option (List ℕ)) (out : List ℕ) (list : List Parts) (valid : AreValid list) (call : Call) where
  link-put-out : (o : Output) → linked_file name out list (gives o) → PutsOut o call → IsLinkPutOut name out list call
  link-put-out o (link, joined, is) puts = record {
    link = link;
    joined = joined;
    stands = (joined_stands_for link list (unwrap_or name (first_name list)) joined valid).0;
    put_out = file-made out call link o is puts;
  }

pub links-are-put-out : LinksArePutOut
links-are-put-out words call result is files c inputs name out plan flat calm named asks accepts = record {
  linked = has-linked flat refl (λ f stands. stands) (λ none. same-work (linked_file name out flat)) (flat-valid files inputs plan flat accepts);
  staged = λ leaves came.
      let same = (lists-link-as-their-leaves flat leaves came).facts in
      has-linked (named_as flat leaves) same.answer (λ f stands. (same.facts f).0 stands)
      (λ none. (links-alike plan flat leaves (plan-sound files inputs.plan plan accepts.planned).symbols
      (accepted-light files inputs plan flat bytes sound accepts) none came).linked name out) came.renamed;
} where
  bytes : HoldBytes files
  bytes = of-files call files calm.known HoldBytes calm.revealed.bytes

  sound : IsSoundInputs inputs
  sound =
      let it : IsSoundRequest (request.Run (task.Link inputs name out)) = subst IsSoundRequest asks (sound-request c (words-sound words c named)) in it.0

  -- where the flat list cannot be linked, a link fact that stands against it is the result
  refused-there : (f : LinkFact) → link_answer flat ≡ Some f → IsRefusedLink flat result
  refused-there f some =
      let (g, stands, ends) = accepted-fact files inputs plan flat bytes accepts (λ ms plan flat. linked_file name out flat) f some in (
        g,
        stands,
        answers-determined words files call result (stops (link_fact g)) is calm
            (plain-run words c named (task.Link inputs name out) asks files (stops (link_fact g)) ends),
      )

  has-linked : (list : List Parts) → link_answer flat ≡ link_answer list → ((f : LinkFact) → LinkFactStands flat f → LinkFactStands list f)
      → (link_answer flat ≡ None → IsSameWork (linked_file name out flat) (linked_file name out list)) → AreValid list → HasLinked name out call result list
  has-linked list same facts alike valid =
      let exactly = linking-is-done words files call result c inputs name out plan flat is calm named asks accepts in
      record {
        done = ((λ done. sym same ∙ exactly.0 done), (λ none. exactly.1 (same ∙ none)));
        output = λ done.
            let came = done-comes files call (task.Link inputs name out) result
            (plain-answers words c named (task.Link inputs name out) asks call result is) calm done in
            let (linkable, puts) = accepted-gives files inputs plan flat bytes accepts (λ ms plan flat. linked_file name out flat) came.output came.comes in
            link-put-out name out list valid call came.output ((alike linkable (gives came.output)).0 puts) came.puts_out;
        refused = λ f some. let (g, stands, ends) = refused-there f (same ∙ some) in (g, facts g stands, ends);
      }
