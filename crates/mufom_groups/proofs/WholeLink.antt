-- The link of the modules of a tree, from its roots to the selected members.
use Rattle.std.proofs.Common.{◌≡◌, ℕ, zero, suc, ◌+◌, ◌≤◌, ◌<◌, List, [], ◌∷◌, ◌++◌, length, map, take, Option, Some, None, unwrap_or, inl, inr, refl, sym}
use Rattle.std.proofs.Common.{◌∙◌, ap, subst, append-nil, arith}
use Rattle.std.specs.Prelude.{slice_get}
use Rattle.std.proofs.lemmas.List.{length-take-le, map-append}
use Rattle.mufom_module.specs.declared.module.Parts.{Parts}
use Rattle.mufom_place.specs.Facts.{first_some}
use Rattle.mufom_refusals.specs.declared.link.LinkRefusal.{LinkRefusal}
use Rattle.mufom_link.specs.Refusals.{IsRefusalOf}
use Rattle.mufom_meaning.specs.Facts.{LinkFact}
use Rattle.mufom_meaning.specs.Joined.{IsJoined}
use Rattle.mufom_meaning.specs.LinkAnswer.{link_answer}
use Rattle.mufom_meaning.specs.Selection.{IsSelected, members_at, member_at}
use Rattle.mufom_meaning.specs.Staging.{AreValid}
use Rattle.mufom_meaning.specs.StagingLaws.{IsLinkOrItself, a_link, itself}
use Rattle.mufom_meaning.proofs.staging.Selected.{selection_agrees}
use Rattle.mufom_words.specs.declared.command.Mark.{Mark}
use Rattle.mufom_words.specs.Sound.{HasTree, numbers_from}
use Rattle.mufom_words.specs.Tree.{Forest, empty, file, group, groups, leaves, tree_of}
use Rattle.mufom_groups.specs.Work.{gives, stops}
use Rattle.mufom_groups.specs.Groups.{AreInPlaceOf, AreRootsLinked, HasSelected, IsInPlaceOf, StopsWork, files_of}
use Rattle.mufom_groups.specs.Linked.{IsFlatList, first_name, linked_module, links, members, roots, tree_links}
use Rattle.mufom_groups.proofs.LinkWalk.{first-found, first-none, links-give, links-stop, valid-append, valid-drop, valid-members}
use Rattle.mufom_groups.proofs.GroupWalk.{all-files}
use Rattle.mufom_groups.proofs.RootsLink.{refused-stops, stops-map}
use Rattle.mufom_groups.proofs.Stages.{all_of, all-alone, alone-in-place, each-alone, first-of-all, joined-of-all, same-answer}

-- ---- the modules of the tree are the first

-- each number is before this one
abbrev pub Below : ℕ → List ℕ → Type 0
Below k [] = Unit {0}
Below k (n ∷ ns) = (n < k) × Below k ns

below-left : (k : ℕ) (xs ys : List ℕ) → Below k (xs ++ ys) → Below k xs
below-left k [] ys below = tt
below-left k (x ∷ xs) ys below = (below.0, below-left k xs ys below.1)

below-right : (k : ℕ) (xs ys : List ℕ) → Below k (xs ++ ys) → Below k ys
below-right k [] ys below = below
below-right k (x ∷ xs) ys below = below-right k xs ys below.1

below-numbers : (n count k : ℕ) → n + count ≤ k → Below k (numbers_from n count)
below-numbers n zero k within = tt
below-numbers n (suc count) k within = (omega (arith, within), below-numbers (suc n) count k (omega (arith, within)))

member-of-take : (k n : ℕ) (ms : List Parts) → n < k → slice_get (take k ms) n ≡ slice_get ms n
member-of-take zero n ms less = absurd (omega (arith, less))
member-of-take (suc k) n [] less = refl
member-of-take (suc k) zero (m ∷ ms) less = refl
member-of-take (suc k) (suc n) (m ∷ ms) less = member-of-take k n ms (omega (arith, less))

members-of-take : (k : ℕ) (ns : List ℕ) (ms : List Parts) → Below k ns → members_at (take k ms) ns ≡ members_at ms ns
members-of-take k [] ms below = refl
members-of-take k (n ∷ ns) ms below = λ i. member_at (member-of-take k n ms below.0 i) ++ members-of-take k ns ms below.1 i

groups-of-take : (k : ℕ) (ms : List Parts) (tree : Forest) → Below k (leaves tree) → map (members_at (take k ms)) (groups tree)
    ≡ map (members_at ms) (groups tree)
groups-of-take k ms empty below = refl
groups-of-take k ms (file n more) below = groups-of-take k ms more below.1
groups-of-take k ms (group inner more) below =
    map-append (members_at (take k ms)) (groups inner) (leaves inner ∷ groups more)
    ∙ (λ i. groups-of-take k ms inner (below-left k (leaves inner) (leaves more) below) i
    ++ members-of-take k (leaves inner) ms (below-left k (leaves inner) (leaves more) below) i ∷ groups-of-take k ms more
    (below-right k (leaves inner) (leaves more) below) i)
    ∙ sym (map-append (members_at ms) (groups inner) (leaves inner ∷ groups more))

-- ---- the members

pub selected-there : (R : Parts) (own : List Parts) (others : List Parts) (chosen : List ℕ) → IsLinkOrItself R own → IsSelected (R ∷ []) others chosen
    → IsSelected own others chosen
selected-there _ _ others chosen (itself m) is = is
selected-there _ _ others chosen (a_link R own name j none) is =
    subst (λ (l : List Parts). IsSelected l others chosen) (append-nil own) ((selection_agrees R own [] [] name others chosen j).0 is)

-- ---- how many files the tree has

pub files-of-marks : (own : List Mark) (size : ℕ) → HasTree own size → files_of own ≡ leaves (tree_of own)
files-of-marks own size tree = ap files_of (sym tree.spelled) ∙ all-files (tree_of own)

pub roots-numbered : (own : List Mark) (ms rs : List Parts) (count : ℕ) → HasTree own (length ms) → count
    ≡ length (leaves (tree_of own)) → rs ≡ take count ms
    → leaves (tree_of own) ≡ numbers_from 0 (length rs)
roots-numbered own ms rs count tree is_count is_roots =
    let within = tree.within in
    let all = length-take-le count ms (omega (arith, within, is_count)) in
    let same : length (leaves (tree_of own)) ≡ length rs = sym is_count ∙ sym all ∙ sym (ap (λ (l : List Parts). length l) is_roots) in
    tree.numbered ∙ ap (numbers_from 0) same

-- ---- the parts of the work, one after another

module _ (own : List Mark) (given : Option (List ℕ)) (ms : List Parts) (valid : AreValid ms) (k : ℕ) (numbered : leaves (tree_of own) ≡ numbers_from 0 k) where
  below : Below k (leaves (tree_of own))
  below = subst (Below k) (sym numbered) (below-numbers 0 k k (omega arith))

  same-roots : roots (tree_of own) (take k ms) ≡ roots (tree_of own) ms
  same-roots = members-of-take k (leaves (tree_of own)) ms below

  same-links : tree_links (tree_of own) (take k ms) ≡ tree_links (tree_of own) ms
  same-links = λ i. groups-of-take k ms (tree_of own) below i ++ same-roots i ∷ []

  -- a link fact stands against a list before that of the members
  pub first-refused : (e : LinkRefusal) → StopsWork (links (tree_links (tree_of own) (take k ms))) e → StopsWork (linked_module (tree_of own) given ms) e
  first-refused e refused = stops-map (links (tree_links (tree_of own) (take k ms))) (linked_module (tree_of own) given ms)
      (λ f ends. inl (inl (subst (λ (lists : List (List Parts)). links lists (stops f)) same-links ends))) e refused

  -- the roots were linked, and members selected for them
  module _ (two flat : List Parts) (first : AreRootsLinked own (take k ms) two) (has : HasSelected two (members (tree_of own) ms) flat) where
    roots-link : IsInPlaceOf first.link (roots (tree_of own) ms)
    roots-link = subst (λ (l : List Parts). IsInPlaceOf first.link l) same-roots first.in_place

    members-valid : AreValid (members_at (members (tree_of own) ms) has.chosen)
    members-valid = valid-members (members (tree_of own) ms) has.chosen (valid-drop (length (leaves (tree_of own))) ms valid)

    -- what the list of the roots' link and the members stands for
    flat-placed : AreInPlaceOf flat (roots (tree_of own) ms ∷ each-alone (members_at (members (tree_of own) ms) has.chosen))
    flat-placed =
        let same : flat ≡ first.link ∷ members_at (members (tree_of own) ms) has.chosen
        = has.flat_list ∙ ap (λ (l : List Parts). l ++ members_at (members (tree_of own) ms) has.chosen) first.new_list in
        subst (λ (l : List Parts). AreInPlaceOf l (roots (tree_of own) ms ∷ each-alone (members_at (members (tree_of own) ms) has.chosen))) (sym same)
        (roots-link, alone-in-place (members_at (members (tree_of own) ms) has.chosen) members-valid)

    flat-all : all_of (roots (tree_of own) ms ∷ each-alone (members_at (members (tree_of own) ms) has.chosen)) ≡ roots (tree_of own) ms
        ++ members_at (members (tree_of own) ms) has.chosen
    flat-all = ap (λ (l : List Parts). roots (tree_of own) ms ++ l) (all-alone (members_at (members (tree_of own) ms) has.chosen))

    flat-valid : AreValid (all_of (roots (tree_of own) ms ∷ each-alone (members_at (members (tree_of own) ms) has.chosen)))
    flat-valid = subst AreValid (sym flat-all)
        (valid-append (roots (tree_of own) ms) (members_at (members (tree_of own) ms) has.chosen)
        (valid-members ms (leaves (tree_of own)) valid) members-valid)

    -- what is selected for the link of the roots is selected for the roots
    pub selected-flat : (chosen : List ℕ) → IsSelected two (members (tree_of own) ms) chosen
        → IsSelected (roots (tree_of own) ms) (members (tree_of own) ms) chosen
    selected-flat chosen selected = selected-there first.link (roots (tree_of own) ms) (members (tree_of own) ms) chosen roots-link.link
        (subst (λ (l : List Parts). IsSelected l (members (tree_of own) ms) chosen) first.new_list selected)

    is-flat : IsFlatList (tree_of own) ms (roots (tree_of own) ms ++ members_at (members (tree_of own) ms) has.chosen)
    is-flat = (
      has.chosen,
      selected-flat has.chosen has.selected,
      refl,
    )

    -- the links before that of the flat list
    first-links : links (tree_links (tree_of own) ms) (gives tt)
    first-links = links-give (tree_links (tree_of own) ms) (ap (first_some link_answer) (sym same-links) ∙ first.linkable)

    flat-answer : link_answer flat ≡ link_answer (roots (tree_of own) ms ++ members_at (members (tree_of own) ms) has.chosen)
    flat-answer = same-answer flat (roots (tree_of own) ms ∷ each-alone (members_at (members (tree_of own) ms) has.chosen)) flat-placed
        ∙ ap link_answer flat-all

    -- a link fact stands against the flat list
    pub flat-refused : (e : LinkRefusal) → IsRefusalOf flat e → StopsWork (linked_module (tree_of own) given ms) e
    flat-refused e refused = refused-stops (linked_module (tree_of own) given ms) flat e leads refused where
      leads : (f : LinkFact) → link_answer flat ≡ Some f → linked_module (tree_of own) given ms (stops f)
      leads f found =
          let list : List Parts = roots (tree_of own) ms ++ members_at (members (tree_of own) ms) has.chosen in
          let own : link_answer list ≡ Some f = sym flat-answer ∙ found in
          inl (inr (tt, first-links, inr (list, is-flat, inl (links-stop (list ∷ []) f (first-found list [] f own)))))

    -- the flat list is linked
    pub flat-linked : (N : Parts) → link_answer flat ≡ None → IsJoined N flat (unwrap_or given (first_name flat)) → linked_module (tree_of own) given ms (gives N)
    flat-linked N none j =
        let list : List Parts = roots (tree_of own) ms ++ members_at (members (tree_of own) ms) has.chosen in
        let parts : List (List Parts) = roots (tree_of own) ms ∷ each-alone (members_at (members (tree_of own) ms) has.chosen) in
        let own : link_answer list ≡ None = sym flat-answer ∙ none in
        let first_same : first_name flat ≡ first_name list = first-of-all flat parts flat-placed N flat-valid none ∙ ap first_name flat-all in
        let all : IsJoined N list (unwrap_or given (first_name flat))
        = subst (λ (l : List Parts). IsJoined N l (unwrap_or given (first_name flat))) flat-all
        (joined-of-all flat parts flat-placed N flat-valid none (unwrap_or given (first_name flat)) j) in (
          list,
          (tt, first-links, (list, is-flat, (tt, links-give (list ∷ []) (first-none list [] own), refl))),
          subst (λ (name : List ℕ). IsJoined N list (unwrap_or given name)) first_same all,
        )
