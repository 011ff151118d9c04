-- The work of a task that links files, where its inputs are accepted.
use Rattle.std.proofs.Common.{◌≡◌, ◌⊎◌, List, [], ◌∷◌, Option, Some, None, refl, ap, subst, inl, inr}
use Rattle.mufom_host.specs.World.{HoldBytes, NamedFile}
use Rattle.mufom_words.specs.Tree.{tree_of}
use Rattle.mufom_module.specs.declared.module.Parts.{Parts}
use Rattle.mufom_place.specs.Facts.{first_some, ◌or_else◌}
use Rattle.mufom_plan.specs.declared.plan.Plan.{Plan}
use Rattle.mufom_meaning.specs.Facts.{LinkFact}
use Rattle.mufom_meaning.specs.LinkAnswer.{link_answer}
use Rattle.mufom_meaning.specs.Stands.{LinkFactStands}
use Rattle.mufom_meaning.proofs.facts.AllAnswers.{answers_are_facts}
use Rattle.mufom_meaning.proofs.facts.LinkFacts.{link_facts_grow}
use Rattle.mufom_groups.specs.Linked.{linked, links, tree_links}
use Rattle.mufom_groups.specs.Work.{Reached, gives, stops, Work, ◌>>=◌, with_stops}
use Rattle.mufom_groups.proofs.GroupsAlike.{linked-flat, links-stand}
use Rattle.mufom_groups.proofs.LinkWalk.{links-give, links-stop}
use Rattle.mufom_groups.proofs.Singles.{flat_list-single}
use Rattle.mufom_outcome.specs.Stop.{Stop, link_fact}
use Rattle.mufom_works.specs.Works.{Output, linking}
use Rattle.mufom_task.specs.declared.task.Inputs.{Inputs}
use Rattle.mufom_task.specs.Reading.{modules_in, plan_in}
use Rattle.mufom_run_laws.specs.RunLaws.{Accepts, IsSameWork}
use Rattle.mufom_works.proofs.Runs.{modules_in-single, plan_in-single}
use Rattle.mufom_run_laws.proofs.SameWorks.{same-trans, then-known}

-- a link fact that stands against the list ends the work
abbrev pub EndsAtFact : List Parts → Stop → Type 0
EndsAtFact flat s = (f : LinkFact) × LinkFactStands flat f × (s ≡ link_fact f)

-- none stands where the list can be linked
pub no-link-fact : (flat : List Parts) (plan : Plan) (s : Stop) → link_answer flat ≡ None → EndsAtFact flat s → ⊥
no-link-fact flat plan s none (f, stands, same) = (answers_are_facts flat plan).link_complete none f stands

module _ (files : List NamedFile) (c : Inputs) (plan : Plan) (flat : List Parts) (bytes : HoldBytes files) (accepts : Accepts files c plan flat) where
  module _ (output : List Parts → Plan → List Parts → Work Stop Output) where
    -- what is put out of the modules and of a flat list of them
    abbrev puts : List Parts → Work Stop Output
    puts list = output accepts.modules plan list

    -- the work is that of the links and what follows them
    pub after-inputs : IsSameWork (linking output files c) (with_stops link_fact (linked (tree_of c.marks) accepts.modules) >>= puts)
    after-inputs =
        let rest : List Parts → Work Stop Output = λ ms. with_stops link_fact (linked (tree_of c.marks) ms) >>= λ flat. output ms plan flat in
        same-trans (linking output files c) (modules_in files c >>= rest) (rest accepts.modules)
        (then-known (plan_in files c.plan) (λ plan. modules_in files c >>= λ ms. with_stops link_fact (linked (tree_of c.marks) ms) >>= λ flat. output
        ms plan flat) plan (plan_in-single files c.plan) accepts.planned)
        (then-known (modules_in files c) rest accepts.modules (modules_in-single files bytes c) accepts.read)

    -- an output is that of the flat list, which can be linked
    pub accepted-gives : (o : Output) → linking output files c (gives o) → (link_answer flat ≡ None) × puts flat (gives o)
    accepted-gives o is =
        let (other, is_linked, is_put) = (after-inputs (gives o)).0 is in
        let (is_flat, none) = (linked-flat answers_are_facts link_facts_grow (tree_of c.marks) accepts.modules other).0 is_linked in
        let same : other ≡ flat = flat_list-single (tree_of c.marks) accepts.modules other flat is_flat accepts.is_flat in (
          subst (λ (l : List Parts). link_answer l ≡ None) same none,
          subst (λ (l : List Parts). puts l (gives o)) same is_put,
        )

    -- an end is a link fact against the flat list, or that of what is put out of it
    pub accepted-stops : (s : Stop) → linking output files c (stops s) → EndsAtFact flat s ⊎ ((link_answer flat ≡ None) × puts flat (stops s))
    accepted-stops s is = by ((after-inputs (stops s)).0 is) where
      by : (with_stops link_fact (linked (tree_of c.marks) accepts.modules) >>= puts) (stops s)
          → EndsAtFact flat s ⊎ ((link_answer flat ≡ None) × puts flat (stops s))
      by (inl (f, ends, same)) =
          inl (f, links-stand answers_are_facts link_facts_grow (tree_of c.marks) accepts.modules flat f accepts.is_flat ends, same)
      by (inr (other, is_linked, ends)) =
          let (is_flat, none) = (linked-flat answers_are_facts link_facts_grow (tree_of c.marks) accepts.modules other).0 is_linked in
          let same : other ≡ flat = flat_list-single (tree_of c.marks) accepts.modules other flat is_flat accepts.is_flat in
          inr (
            subst (λ (l : List Parts). link_answer l ≡ None) same none,
            subst (λ (l : List Parts). puts l (stops s)) same ends,
          )

    -- what is put out of a flat list that can be linked is what the work comes to
    pub accepted-back : link_answer flat ≡ None → (x : Reached Stop Output) → puts flat x → linking output files c x
    accepted-back none x is = (after-inputs x).1 (by x is) where
      is_linked : linked (tree_of c.marks) accepts.modules (gives flat)
      is_linked = (linked-flat answers_are_facts link_facts_grow (tree_of c.marks) accepts.modules flat).1 (accepts.is_flat, none)

      by : (x : Reached Stop Output) → puts flat x → (with_stops link_fact (linked (tree_of c.marks) accepts.modules) >>= puts) x
      by (gives o) is = (flat, is_linked, is)
      by (stops s) is = inr (flat, is_linked, is)

    -- where the flat list cannot be linked, a link fact that stands against it is an end
    pub accepted-fact : (f : LinkFact) → link_answer flat ≡ Some f → (g : LinkFact) × LinkFactStands flat g × linking output files c (stops (link_fact g))
    accepted-fact f some = by (first_some link_answer lists) refl where
      lists : List (List Parts)
      lists = tree_links (tree_of c.marks) accepts.modules

      ends : (g : LinkFact) → linked (tree_of c.marks) accepts.modules (stops g)
          → (h : LinkFact) × LinkFactStands flat h × linking output files c (stops (link_fact h))
      ends g is = (
        g,
        links-stand answers_are_facts link_facts_grow (tree_of c.marks) accepts.modules flat g accepts.is_flat is,
        (after-inputs (stops (link_fact g))).1 (inl (g, is, refl)),
      )

      by : (o : Option LinkFact) → first_some link_answer lists ≡ o → (h : LinkFact) × LinkFactStands flat h × linking output files c (stops (link_fact h))
      by (Some g) found = ends g (inl (links-stop lists g found))
      by None none =
          let last : links (flat ∷ []) (stops f) = links-stop (flat ∷ []) f (ap (λ (o : Option LinkFact). o or_else None) some) in
          ends f (inr (tt, links-give lists none, inr (flat, accepts.is_flat, inl last)))
