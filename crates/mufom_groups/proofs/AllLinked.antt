-- The parts of the link of the modules of a tree, as the calls that do them answer.
use Rattle.std.proofs.Common.{◌≡◌, ℕ, ◌+◌, ◌≤◌, ◌<◌, ◌^◌, List, [], ◌∷◌, ◌++◌, length, take, drop, Option, None, Result, Ok, Err, IfOk, IfErr, unwrap_or, sym}
use Rattle.std.proofs.Common.{◌∙◌, ap, subst, arith}
use Rattle.mufom_module.specs.declared.module.Parts.{Parts}
use Rattle.mufom_module.specs.Written.{weight}
use Rattle.mufom_refusals.specs.declared.link.LinkRefusal.{LinkRefusal}
use Rattle.mufom_link.specs.Refusals.{IsRefusalOf}
use Rattle.mufom_meaning.specs.Joined.{IsJoined}
use Rattle.mufom_meaning.specs.LinkAnswer.{link_answer}
use Rattle.mufom_meaning.specs.Selection.{IsSelected, members_at}
use Rattle.mufom_meaning.specs.Staging.{AreValid}
use Rattle.mufom_meaning.specs.StagingLaws.{total_weight}
use Rattle.mufom_words.specs.declared.command.Mark.{Mark}
use Rattle.mufom_words.specs.Sound.{HasTree, numbers_from}
use Rattle.mufom_words.specs.Tree.{leaves, tree_of}
use Rattle.mufom_groups.specs.Groups.{AreRootsLinked, BeginsWithLink, HasSelected, IsOwnLink, StopsWork, most_weight}
use Rattle.mufom_groups.specs.Linked.{first_name, linked_module, links, members, roots, tree_links}
use Rattle.mufom_groups.specs.Work.{gives}
use Rattle.mufom_groups.proofs.LinkWalk.{weight-append, weight-split}
use Rattle.mufom_groups.proofs.WholeLink.{first-refused, flat-linked, flat-refused, selected-flat}

module _ (own : List Mark) (given : Option (List ℕ)) (ms : List Parts) (tree : HasTree own (length ms)) (valid : AreValid ms) (k : ℕ) (count : k ≡ length (leaves (tree_of own))) where
  numbered : leaves (tree_of own) ≡ numbers_from 0 k
  numbered = tree.numbered ∙ ap (numbers_from 0) (sym count)

  pub first-stop : (marks : List Mark) (rs : List Parts) → marks ≡ own → rs ≡ take k ms → (e : LinkRefusal)
      → StopsWork (links (tree_links (tree_of marks) rs)) e → StopsWork (linked_module (tree_of own) given ms) e
  first-stop marks rs is_marks is_roots e refused =
      first-refused own given ms valid k numbered e
      (subst (λ (l : List Parts). StopsWork (links (tree_links (tree_of own) l)) e) is_roots
      (subst (λ (l : List Mark). StopsWork (links (tree_links (tree_of l) rs)) e) is_marks refused))

  module _ (marks : List Mark) (rs others two flat read : List Parts) (is_marks : marks ≡ own) (is_roots : rs ≡ take k ms) (is_members : others
      ≡ drop k ms) (first : AreRootsLinked marks rs two)
      (has : HasSelected two others flat) (same : read ≡ flat) where
    own-first : AreRootsLinked own (take k ms) two
    own-first = subst (λ (l : List Parts). AreRootsLinked own l two) is_roots (subst (λ (l : List Mark). AreRootsLinked l rs two) is_marks first)

    own-has : HasSelected two (members (tree_of own) ms) flat
    own-has = subst (λ (n : ℕ). HasSelected two (drop n ms) flat) count (subst (λ (l : List Parts). HasSelected two l flat) is_members has)

    pub all-linked : (result : Result Parts LinkRefusal) → IfOk result (λ M. IsJoined M read (unwrap_or given (first_name read)))
        → IfOk result (λ _. link_answer read ≡ None)
        → IfOk result (λ M. linked_module (tree_of own) given ms (gives M))
    all-linked (Ok M) j none =
        flat-linked own given ms valid k numbered two flat own-first own-has M (ap link_answer (sym same)
        ∙ none) (subst (λ (l : List Parts). IsJoined M l (unwrap_or given (first_name l))) same j)
    all-linked (Err e) j none = tt

    -- the members at these positions are the ones that the roots need
    pub chosen-there : (chosen : List ℕ) → has.chosen ≡ chosen → IsSelected (roots (tree_of own) ms) (members (tree_of own) ms) chosen
    chosen-there chosen is =
        let there = subst (λ (l : List ℕ). IsSelected two others l) is has.selected in
        let among = subst (λ (n : ℕ). IsSelected two (drop n ms) chosen) count (subst (λ (l : List Parts). IsSelected two l chosen) is_members there) in
        selected-flat own given ms valid k numbered two flat own-first own-has chosen among

    pub all-refused : (result : Result Parts LinkRefusal) → IfErr result (λ e. IsRefusalOf read e) → IfErr result (λ e. StopsWork (linked_module (tree_of own) given ms) e)
    all-refused (Ok M) refused = tt
    all-refused (Err e) refused = flat-refused own given ms valid k numbered two flat own-first own-has e (subst (λ (l : List Parts). IsRefusalOf l e) same refused)

-- the flat list is no heavier than the modules
pub flat-light : (ms : List Parts) → total_weight ms ≤ most_weight → (k : ℕ) (marks : List Mark) (rs others two flat read : List Parts) → rs
    ≡ take k ms → others ≡ drop k ms → AreRootsLinked marks rs two → HasSelected two others flat → read ≡ flat
    → total_weight read ≤ most_weight
flat-light ms light k marks rs others two flat read is_roots is_members first has same =
    let split = weight-split k ms in
    let roots = ap total_weight is_roots in
    let rest = ap total_weight is_members in
    let all = ap total_weight same in
    let one = ap total_weight first.new_list in
    let sum = weight-append (first.link ∷ []) [] in
    let own = first.light in
    let flat_light = has.light in
    omega (arith, light, split, roots, rest, all, one, sum, own, flat_light)

-- the flat list begins with the link of the roots
pub begins-with-link : (marks : List Mark) (rs others two flat : List Parts) → AreRootsLinked marks rs two → HasSelected two others flat → BeginsWithLink flat
begins-with-link marks rs others two flat first has = record {
  first = first.link;
  others = members_at others has.chosen;
  list = has.flat_list ∙ ap (λ (l : List Parts). l ++ members_at others has.chosen) first.new_list;
  own = first.own;
}

-- alone it is its own link
module _ (flat : List Parts) (M : Parts) (begins : BeginsWithLink flat) (one : flat ≡ M ∷ []) where
  own-link : IsOwnLink M
  own-link =
      let list = begins.list in
      let same : begins.first ≡ M = cc in
      subst IsOwnLink same begins.own

  pub joined-alone : IsJoined M flat (first_name flat)
  joined-alone = subst (λ (l : List Parts). IsJoined M l (first_name l)) (sym one) own-link.joined

  pub linkable-alone : link_answer flat ≡ None
  linkable-alone = ap link_answer one ∙ own-link.linkable

  pub light-alone : total_weight flat ≤ most_weight → weight M < most_weight + 2 ^ 16
  light-alone light = let same : total_weight flat ≡ 0 + weight M = ap total_weight one in omega (arith, light, same)
