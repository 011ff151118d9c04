-- If a task's files were linked in stages, its work has the same result as over the list that the stages began with.
use Rattle.std.proofs.Common.{◌≡◌, ℕ, List, [], ◌∷◌, Option, Some, None, refl, sym, ap, subst, ◌∙◌, inl, inr}
use Rattle.mufom_words.specs.Tree.{tree_of}
use Rattle.mufom_module.specs.declared.module.Parts.{Parts}
use Rattle.mufom_place.specs.Facts.{first_some, ◌or_else◌}
use Rattle.mufom_plan.specs.declared.plan.Plan.{Plan}
use Rattle.mufom_meaning.specs.Absolute.{no_regions}
use Rattle.mufom_meaning.specs.Facts.{LinkFact, mismatch, duplicate, duplicate_start}
use Rattle.mufom_meaning.specs.LinkAnswer.{link_answer}
use Rattle.mufom_meaning.specs.Stands.{LinkFactStands}
use Rattle.mufom_meaning.specs.StagingLaws.{MeansTheSame}
use Rattle.mufom_meaning.proofs.facts.AllAnswers.{answers_are_facts}
use Rattle.mufom_meaning.proofs.facts.LinkFacts.{link_facts_grow, one_descriptor}
use Rattle.mufom_planned.specs.PlanLaws.{HasSoundSymbols}
use Rattle.mufom_task.proofs.PlanLaws.{plan-sound}
use Rattle.mufom_groups.specs.Linked.{IsFlatList, linked, links, tree_links, unless_fact}
use Rattle.mufom_groups.specs.Work.{Reached, gives, stops, Work, ◌>>=◌, with_stops}
use Rattle.mufom_groups.proofs.GroupsAlike.{linked-flat, links-stand}
use Rattle.mufom_groups.proofs.LinkWalk.{links-give, links-stop}
use Rattle.mufom_groups.proofs.Singles.{flat_list-single}
use Rattle.mufom_outcome.specs.Stop.{Stop, link_fact}
use Rattle.mufom_host.specs.World.{HoldBytes, NamedFile}
use Rattle.mufom_origins.specs.Origins.{FileModule, origins_of}
use Rattle.mufom_task.specs.declared.task.Inputs.{Inputs}
use Rattle.mufom_task.specs.Inputs.{module_files}
use Rattle.mufom_task.specs.declared.task.Product.{Product}
use Rattle.mufom_task.specs.declared.task.Task.TheVariants as task
use Rattle.mufom_works.specs.FlatFiles.{AreFlatFiles}
use Rattle.mufom_works.specs.Roots.{roots_by}
use Rattle.mufom_works.specs.Works.{Output, linked_file, linking, locating_kept, producing, product_with, work_of}
use Rattle.mufom_run_laws.specs.RunLaws.{Accepts, CameByStages, IsSameWork}
use Rattle.mufom_run_laws.proofs.Accepted.{after-inputs}
use Rattle.mufom_run_laws.proofs.SameWorks.{same-trans}
use Rattle.mufom_run_laws.proofs.StageLaws.{lists-same, means-same, put_out-alike}
use Rattle.mufom_headline.specs.Linking.{StagedRunsAreFlat, after_link, link_of_list, location_of_list}
use Rattle.mufom_headline.proofs.Maps.{producing-staged}

-- ---- the link facts of a list of one descriptor with distinct names

only-starts : (ms leaves : List Parts) → CameByStages ms leaves → (f : LinkFact) → LinkFactStands leaves f → f ≡ duplicate_start
only-starts ms leaves came (mismatch d e) stands = absurd (one_descriptor came.descriptor.0 leaves came.descriptor.1 d e stands)
only-starts ms leaves came (duplicate name) stands = absurd (came.names stands.0 stands.2)
only-starts ms leaves came duplicate_start stands = refl

answer-stands : (ms : List Parts) (f : LinkFact) → link_answer ms ≡ Some f → LinkFactStands ms f
answer-stands ms f same = (answers_are_facts ms no_regions).link_sound f same

-- ---- one list alone

alone-none : (ms : List Parts) → link_answer ms ≡ None → first_some link_answer (ms ∷ []) ≡ None
alone-none ms none = ap (λ (o : Option LinkFact). o or_else None) none

alone-some : (ms : List Parts) (f : LinkFact) → link_answer ms ≡ Some f → first_some link_answer (ms ∷ []) ≡ Some f
alone-some ms f some = ap (λ (o : Option LinkFact). o or_else None) some

none-alone : (ms : List Parts) → links (ms ∷ []) (gives tt) → link_answer ms ≡ None
none-alone ms is = by (link_answer ms) is where
  by : (o : Option LinkFact) → unless_fact (o or_else None) (gives tt) → o ≡ None
  by None is = refl
  by (Some f) is = absurd is

some-alone : (ms : List Parts) (f : LinkFact) → links (ms ∷ []) (stops f) → link_answer ms ≡ Some f
some-alone ms f is = by (link_answer ms) is where
  by : (o : Option LinkFact) → unless_fact (o or_else None) (stops f) → o ≡ Some f
  by None is = absurd is
  by (Some g) is = ap (λ (h : LinkFact). Some h) (sym is)

-- ---- the links

module _ (c : Inputs) (ms flat leaves : List Parts) (is_flat : IsFlatList (tree_of c.marks) ms flat) (came : CameByStages flat leaves) where
  means : MeansTheSame flat leaves
  means = means-same flat leaves came

  -- a fact that ends the links is the one that is answered for the leaves
  fact-there : (f : LinkFact) → linked (tree_of c.marks) ms (stops f) → link_answer leaves ≡ Some f
  fact-there f is = by (link_answer leaves) refl where
    stands : LinkFactStands leaves f
    stands = (means.same_link_facts f).0 (links-stand answers_are_facts link_facts_grow (tree_of c.marks) ms flat f is_flat is)

    by : (o : Option LinkFact) → link_answer leaves ≡ o → link_answer leaves ≡ Some f
    by None none = absurd ((answers_are_facts leaves no_regions).link_complete none f stands)
    by (Some g) some =
        some ∙ ap (λ (h : LinkFact). Some h) (only-starts flat leaves came g (answer-stands leaves g some) ∙ sym (only-starts flat leaves came f stands))

  -- and the other way round
  fact-back : (f : LinkFact) → link_answer leaves ≡ Some f → linked (tree_of c.marks) ms (stops f)
  fact-back f some = by (first_some link_answer (tree_links (tree_of c.marks) ms)) refl where
    by : (o : Option LinkFact) → first_some link_answer (tree_links (tree_of c.marks) ms) ≡ o → linked (tree_of c.marks) ms (stops f)
    by None none =
        let last : links (flat ∷ []) (stops f) = links-stop (flat ∷ []) f (alone-some flat f (means.same_link ∙ some)) in
        inr (tt, links-give (tree_links (tree_of c.marks) ms) none, inr (flat, is_flat, inl last))
    by (Some g) found =
        let ends : linked (tree_of c.marks) ms (stops g) = inl (links-stop (tree_links (tree_of c.marks) ms) g found) in
        let same : Some g ≡ Some f = sym (fact-there g ends) ∙ some in
        let is : g ≡ f = cc in
        subst (λ (h : LinkFact). linked (tree_of c.marks) ms (stops h)) is ends

  -- what is put out of the flat list is this, of the leaves
  module _ (output : List Parts → Work Stop Output) (other : Work Stop Output) (alike : IsSameWork (output flat) other) where
    abbrev after-links : Work Stop Output
    after-links = with_stops link_fact (linked (tree_of c.marks) ms) >>= output

    there : (x : Reached Stop Output) → after-links x → after_link leaves other x
    there (gives o) (list, is_linked, puts) =
        let (is_list, none) = (linked-flat answers_are_facts link_facts_grow (tree_of c.marks) ms list).0 is_linked in
        let same : list ≡ flat = flat_list-single (tree_of c.marks) ms list flat is_list is_flat in
        let linkable : link_answer flat ≡ None = subst (λ (l : List Parts). link_answer l ≡ None) same none in (
          tt,
          links-give (leaves ∷ []) (alone-none leaves (sym means.same_link ∙ linkable)),
          (alike (gives o)).0 (subst (λ (l : List Parts). output l (gives o)) same puts),
        )
    there (stops s) (inl (f, ends, same)) = inl (f, links-stop (leaves ∷ []) f (alone-some leaves f (fact-there f ends)), same)
    there (stops s) (inr (list, is_linked, ends)) =
        let (is_list, none) = (linked-flat answers_are_facts link_facts_grow (tree_of c.marks) ms list).0 is_linked in
        let same : list ≡ flat = flat_list-single (tree_of c.marks) ms list flat is_list is_flat in
        let linkable : link_answer flat ≡ None = subst (λ (l : List Parts). link_answer l ≡ None) same none in
        inr (
          tt,
          links-give (leaves ∷ []) (alone-none leaves (sym means.same_link ∙ linkable)),
          (alike (stops s)).0 (subst (λ (l : List Parts). output l (stops s)) same ends),
        )

    back : (x : Reached Stop Output) → after_link leaves other x → after-links x
    back (gives o) (u, is_linked, puts) =
        let linkable : link_answer flat ≡ None = means.same_link ∙ none-alone leaves is_linked in
        (flat, (linked-flat answers_are_facts link_facts_grow (tree_of c.marks) ms flat).1 (is_flat, linkable), (alike (gives o)).1 puts)
    back (stops s) (inl (f, ends, same)) = inl (f, fact-back f (some-alone leaves f ends), same)
    back (stops s) (inr (u, is_linked, ends)) =
        let linkable : link_answer flat ≡ None = means.same_link ∙ none-alone leaves is_linked in
        inr (flat, (linked-flat answers_are_facts link_facts_grow (tree_of c.marks) ms flat).1 (is_flat, linkable), (alike (stops s)).1 ends)

    links-same : IsSameWork after-links (after_link leaves other)
    links-same x = (there x, back x)

-- ---- the work of a task

module _ (files : List NamedFile) (c : Inputs) (plan : Plan) (flat leaves : List Parts) (own : List FileModule) (bytes : HoldBytes files)
    (accepts : Accepts files c plan flat) (are : AreFlatFiles (tree_of c.marks) accepts.modules own) (came : CameByStages flat leaves) where
  symbols : HasSoundSymbols plan
  symbols = (plan-sound files c.plan plan accepts.planned).symbols

  -- what is put out of the flat list is this, of the leaves
  by-linking : (output : List Parts → Plan → List Parts → Work Stop Output) (other : Work Stop Output)
      → IsSameWork (output accepts.modules plan flat) other → IsSameWork (linking output files c) (after_link leaves other)
  by-linking output other same =
      same-trans (linking output files c) (with_stops link_fact (linked (tree_of c.marks) accepts.modules) >>= λ list. output accepts.modules plan list)
      (after_link leaves other) (after-inputs files c plan flat bytes accepts output)
      (links-same c accepts.modules flat leaves accepts.is_flat came (λ list. output accepts.modules plan list) other same)

  staged-link : (name : Option (List ℕ)) (out : List ℕ) → IsSameWork (work_of (task.Link c name out) files) (link_of_list name out leaves)
  staged-link name out =
      by-linking (λ ms plan flat. linked_file name out flat) (linked_file name out leaves)
      ((put_out-alike plan symbols flat leaves (lists-same flat leaves came)).linked name out)

  staged-location : (keep : List (List ℕ)) (p : Product)
      → IsSameWork (work_of (task.Locate c keep p) files)
      (location_of_list (roots_by keep plan) p (module_files files c) (origins_of own) plan leaves)
  staged-location keep p =
      by-linking (λ ms plan flat. locating_kept (producing p (module_files files c) (tree_of c.marks) ms plan) (roots_by keep plan) plan flat)
      (locating_kept (product_with p (module_files files c) (origins_of own) plan) (roots_by keep plan) plan leaves)
      (producing-staged (roots_by keep plan) p (module_files files c) plan (tree_of c.marks) accepts.modules own are symbols flat leaves came)

pub staged-runs-are-flat : StagedRunsAreFlat
staged-runs-are-flat files c plan flat leaves own bytes accepts are came = record {
  linked = staged-link files c plan flat leaves own bytes accepts are came;
  located = staged-location files c plan flat leaves own bytes accepts are came;
}
