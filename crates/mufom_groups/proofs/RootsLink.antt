-- The link of the modules of a tree, after its groups were linked.
use Rattle.std.proofs.Common.{◌≡◌, ◌⊎◌, ℕ, ◌≤◌, ◌<◌, List, [], ◌∷◌, ◌++◌, length, map, Option, Some, None, inl, inr, sym, ◌∙◌, ap, subst, arith}
use Rattle.mufom_module.specs.declared.module.Parts.{Parts}
use Rattle.mufom_place.specs.Facts.{first_some, ◌or_else◌}
use Rattle.mufom_refusals.specs.declared.link.LinkRefusal.{LinkRefusal}
use Rattle.mufom_refusals.specs.declared.link.LinkRefusal.TheVariants.{Mismatch, Duplicate, DuplicateStart, NoMemory}
use Rattle.mufom_link.specs.Refusals.{IsRefusalOf}
use Rattle.mufom_meaning.specs.Facts.{LinkFact}
use Rattle.mufom_meaning.specs.LinkAnswer.{link_answer}
use Rattle.mufom_meaning.specs.Selection.{members_at}
use Rattle.mufom_meaning.specs.Staging.{AreValid}
use Rattle.mufom_meaning.specs.StagingLaws.{total_weight}
use Rattle.mufom_words.specs.declared.command.Mark.{Mark}
use Rattle.mufom_words.specs.Tree.{Forest, groups, leaves, tree_of}
use Rattle.mufom_groups.specs.Groups.{AreInPlaceOf, AreRootsLinked, IsInPlaceOf, IsLinkedFrom, StopsWork, elements, most_weight}
use Rattle.mufom_groups.specs.Linked.{links, roots, tree_links, unless_fact}
use Rattle.mufom_groups.specs.Work.{Work, stops}
use Rattle.mufom_groups.proofs.GroupWalk.{files-of-elements, files_in}
use Rattle.mufom_groups.proofs.LinkSteps.{link-placed, own-answer}
use Rattle.mufom_groups.proofs.Stages.{in-place-valid, link-alone}
use Rattle.mufom_groups.proofs.LinkWalk.{IsFactOf, first-after, first-found, first-none, links-stop, placed-length, refusal-fact, stops-by}

-- ---- ends of the work

first-before : (lists more : List (List Parts)) (f : LinkFact) → first_some link_answer lists ≡ Some f → first_some link_answer (lists ++ more) ≡ Some f
first-before [] more f found = absurd cc
first-before (list ∷ lists) more f found = by_case (link_answer list) found (first-before lists more f) where
  by_case : (o : Option LinkFact) → o or_else first_some link_answer lists ≡ Some f
      → (first_some link_answer lists ≡ Some f → first_some link_answer (lists ++ more) ≡ Some f)
      → o or_else first_some link_answer (lists ++ more) ≡ Some f
  by_case None found later = later found
  by_case (Some g) found later = found

pub links-found : (lists : List (List Parts)) (f : LinkFact) → links lists (stops f) → first_some link_answer lists ≡ Some f
links-found lists f ends = by_case (first_some link_answer lists) ends where
  by_case : (o : Option LinkFact) → unless_fact o (stops f) → o ≡ Some f
  by_case None ends = absurd ends
  by_case (Some g) ends = ap (λ (h : LinkFact). Some h) (sym ends)

pub stops-map : {A B : Type 0} (work : Work LinkFact A) (other : Work LinkFact B) → ((f : LinkFact) → work (stops f) → other (stops f))
    → (e : LinkRefusal) → StopsWork work e → StopsWork other e
stops-map work other leads NoMemory is = tt
stops-map work other leads (Mismatch first second) (f, is, ends) = (f, is, leads f ends)
stops-map work other leads (Duplicate name) (f, is, ends) = (f, is, leads f ends)
stops-map work other leads DuplicateStart (f, is, ends) = (f, is, leads f ends)

pub refused-stops : {A : Type 0} (work : Work LinkFact A) (ms : List Parts) (e : LinkRefusal)
    → ((f : LinkFact) → link_answer ms ≡ Some f → work (stops f)) → IsRefusalOf ms e → StopsWork work e
refused-stops work ms e leads refused = by (refusal-fact ms e refused) where
  by : (e ≡ NoMemory) ⊎ IsFactOf ms e → StopsWork work e
  by (inl none) = subst (λ (x : LinkRefusal). StopsWork work x) (sym none) tt
  by (inr fact) = subst (λ (x : LinkRefusal). StopsWork work x) (sym fact.is) (stops-by work fact.fact (leads fact.fact fact.answer))

-- a link fact stands against a group
pub groups-refused : (tree : Forest) (rs : List Parts) (e : LinkRefusal) → StopsWork (links (map (members_at rs) (groups tree))) e
    → StopsWork (links (tree_links tree rs)) e
groups-refused tree rs e refused = stops-map (links (map (members_at rs) (groups tree))) (links (tree_links tree rs)) leads e refused where
  leads : (f : LinkFact) → links (map (members_at rs) (groups tree)) (stops f) → links (tree_links tree rs) (stops f)
  leads f ends =
      links-stop (tree_links tree rs) f (first-before (map (members_at rs) (groups tree)) (roots tree rs ∷ []) f
      (links-found (map (members_at rs) (groups tree)) f ends))

-- ---- after the groups were linked

module _ (marks : List Mark) (rs linked : List Parts) (valid : AreValid rs)
    (placed : AreInPlaceOf linked (map (members_at rs) (elements (tree_of marks)))) where
  same-roots : members_at rs (files_in (elements (tree_of marks))) ≡ roots (tree_of marks) rs
  same-roots = ap (members_at rs) (files-of-elements (tree_of marks))

  roots-answer : link_answer linked ≡ link_answer (roots (tree_of marks) rs)
  roots-answer = own-answer rs linked (elements (tree_of marks)) 0 valid placed ∙ ap link_answer same-roots

  -- there is a module where the tree has a file
  pub some-linked : 1 ≤ length (leaves (tree_of marks)) → 0 < length linked
  some-linked some = by (elements (tree_of marks)) (files-of-elements (tree_of marks)) (placed-length rs linked (elements (tree_of marks)) placed) where
    by : (parts : List (List ℕ)) → files_in parts ≡ leaves (tree_of marks) → length linked ≡ length parts → 0 < length linked
    by [] same size = let none = ap (λ (l : List ℕ). length l) same in absurd (omega (arith, none, some))
    by (part ∷ parts) same size = omega (arith, size)

  module _ (no_fact : first_some link_answer (map (members_at rs) (groups (tree_of marks))) ≡ None) where
    -- a link fact stands against the roots
    pub roots-refused : (e : LinkRefusal) → IsRefusalOf linked e → StopsWork (links (tree_links (tree_of marks) rs)) e
    roots-refused e refused = refused-stops (links (tree_links (tree_of marks) rs)) linked e leads refused where
      leads : (f : LinkFact) → link_answer linked ≡ Some f → links (tree_links (tree_of marks) rs) (stops f)
      leads f found =
          let own : link_answer (roots (tree_of marks) rs) ≡ Some f = sym roots-answer ∙ found in
          links-stop (tree_links (tree_of marks) rs) f
          (first-after (map (members_at rs) (groups (tree_of marks))) (roots (tree_of marks) rs ∷ []) no_fact ∙ first-found (roots (tree_of marks) rs) [] f own)

    pub roots-linked : (new : List Parts) → total_weight linked ≤ total_weight rs → total_weight rs ≤ most_weight → IsLinkedFrom 0 linked new
        → AreRootsLinked marks rs new
    roots-linked new lighter light is = record {
      link = is.link;
      new_list = is.new_list;
      own = link-alone is.link linked (in-place-valid linked (map (members_at rs) (elements (tree_of marks))) placed) all-placed.valid is.linkable is.joined;
      in_place = subst (λ (l : List Parts). IsInPlaceOf is.link l) same-roots all-placed;
      linkable =
          first-after (map (members_at rs) (groups (tree_of marks))) (roots (tree_of marks) rs ∷ []) no_fact
          ∙ first-none (roots (tree_of marks) rs) [] (sym roots-answer ∙ is.linkable);
      light = let own = is.light in omega (arith, own, lighter);
    } where
      all-placed : IsInPlaceOf is.link (members_at rs (files_in (elements (tree_of marks))))
      all-placed = link-placed rs linked (elements (tree_of marks)) 0 valid placed new (omega (arith, lighter, light)) is
