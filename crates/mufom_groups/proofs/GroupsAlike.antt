-- The list that links lead to is the flat list, exactly where no link fact stands against that. So groups make no difference.
use Rattle.std.proofs.Common.{◌≡◌, ◌⊎◌, ℕ, List, [], ◌∷◌, ◌++◌, map, length, drop, Option, Some, None, refl, sym, ap, subst, ◌∙◌, inl, inr}
use Rattle.std.specs.Prelude.{slice_get}
use Rattle.std.proofs.lemmas.List.{append_assoc, append-nil, map-append}
use Rattle.std.proofs.lemmas.Grind.{flat_map-append}
use Rattle.mufom_words.specs.Tree.{Forest, empty, file, group, leaves, groups}
use Rattle.mufom_module.specs.declared.module.Parts.{Parts}
use Rattle.mufom_place.specs.Facts.{first_some, ◌or_else◌}
use Rattle.mufom_meaning.specs.Facts.{LinkFact}
use Rattle.mufom_meaning.specs.FactLaws.{AllAnswersAreFacts, LinkFactsGrow}
use Rattle.mufom_meaning.specs.LinkAnswer.{link_answer}
use Rattle.mufom_meaning.specs.Stands.{LinkFactStands}
use Rattle.mufom_meaning.specs.Absolute.{no_regions}
use Rattle.mufom_meaning.specs.Selection.{members_at, member_at, IsSelected}
use Rattle.mufom_groups.specs.Work.{gives, stops}
use Rattle.mufom_groups.specs.Linked.{roots, members, IsFlatList, joined, tree_links, unless_fact, links, linked, linked_module}
use Rattle.mufom_groups.specs.Laws.{EndAlike, GroupsMakeNoDifference, LinkFactsStand, LinkedIsFlat, StopsAtFact}
use Rattle.mufom_groups.proofs.Singles.{flat_list-single}

-- ---- parts of a list

-- a list stands in another, its elements next to one another
record IsPart {A : Type 0} (part whole : List A) : Type 0 where
  before : List A
  after : List A
  split : whole ≡ before ++ (part ++ after)

part-self : {A : Type 0} (xs : List A) → IsPart xs xs
part-self xs = record { before = []; after = []; split = sym (append-nil xs) }

part-prefix : {A : Type 0} (xs ys : List A) → IsPart xs (xs ++ ys)
part-prefix xs ys = record { before = []; after = ys; split = refl }

part-suffix : {A : Type 0} (xs ys : List A) → IsPart ys (xs ++ ys)
part-suffix xs ys = record { before = xs; after = []; split = ap (λ (l : List _). xs ++ l) (sym (append-nil ys)) }

part-trans : {A : Type 0} (part middle whole : List A) → IsPart part middle → IsPart middle whole → IsPart part whole
part-trans part middle whole inner outer = record {
  before = outer.before ++ inner.before;
  after = inner.after ++ outer.after;
  split = outer.split ∙ (ap (λ (l : List _). outer.before ++ (l ++ outer.after)) inner.split
      ∙ (ap (λ (l : List _). outer.before ++ l) (append_assoc inner.before (part ++ inner.after) outer.after
      ∙ ap (λ (l : List _). inner.before ++ l) (append_assoc part inner.after outer.after))
      ∙ sym (append_assoc outer.before inner.before (part ++ (inner.after ++ outer.after)))));
}

-- the modules with these numbers, in two parts
members_at-append : (ms : List Parts) (xs ys : List ℕ) → members_at ms (xs ++ ys) ≡ members_at ms xs ++ members_at ms ys
members_at-append ms xs ys = flat_map-append (λ n. member_at (slice_get ms n)) xs ys

-- the modules of two parts are parts of those of both
prefix_modules : (ms whole : List Parts) (xs ys : List ℕ) → IsPart (members_at ms (xs ++ ys)) whole → IsPart (members_at ms xs) whole
prefix_modules ms whole xs ys is =
    part-trans (members_at ms xs) (members_at ms (xs ++ ys)) whole
    (subst (λ (l : List Parts). IsPart (members_at ms xs) l) (sym (members_at-append ms xs ys)) (part-prefix (members_at ms xs) (members_at ms ys))) is

suffix_modules : (ms whole : List Parts) (xs ys : List ℕ) → IsPart (members_at ms (xs ++ ys)) whole → IsPart (members_at ms ys) whole
suffix_modules ms whole xs ys is =
    part-trans (members_at ms ys) (members_at ms (xs ++ ys)) whole
    (subst (λ (l : List Parts). IsPart (members_at ms ys) l) (sym (members_at-append ms xs ys)) (part-suffix (members_at ms xs) (members_at ms ys))) is

-- ---- the facts of parts

first-none : (ms : List Parts) (more : List (List Parts)) → link_answer ms ≡ None → first_some link_answer (ms ∷ more) ≡ first_some link_answer more
first-none ms more none = ap (λ (o : Option LinkFact). o or_else first_some link_answer more) none

-- where nothing is answered for some lists, nothing is for the last of them
last-none : (lists : List (List Parts)) (ms : List Parts) → first_some link_answer (lists ++ ms ∷ []) ≡ None → link_answer ms ≡ None
last-none [] ms none = answer (link_answer ms) none where
  answer : (o : Option LinkFact) → o or_else None ≡ None → o ≡ None
  answer None same = refl
  answer (Some f) same = absurd cc
last-none (list ∷ lists) ms none = last-none lists ms (answer (link_answer list) (first_some link_answer (lists ++ ms ∷ [])) none) where
  answer : (o p : Option LinkFact) → o or_else p ≡ None → p ≡ None
  answer None p same = same
  answer (Some f) p same = absurd cc

module _ (facts : AllAnswersAreFacts) (grow : LinkFactsGrow) where
  none_of_part : (part whole : List Parts) → IsPart part whole → link_answer whole ≡ None → link_answer part ≡ None
  none_of_part part whole is none = answer (link_answer part) refl where
    answer : (o : Option LinkFact) → link_answer part ≡ o → link_answer part ≡ None
    answer None same = same
    answer (Some f) same =
        let stands : LinkFactStands part f = (facts part no_regions).link_sound f same in
        let grown : LinkFactStands (is.before ++ (part ++ is.after)) f = grow is.before part is.after f stands in
        let against : LinkFactStands whole f = subst (λ (l : List Parts). LinkFactStands l f) (sym is.split) grown in
        absurd ((facts whole no_regions).link_complete none f against)

  module _ (ms whole : List Parts) (none : link_answer whole ≡ None) where
    -- nothing is answered for the groups of a tree whose modules are a part of a list for which nothing is
    none_of_groups : (tree : Forest) (more : List (List Parts)) → IsPart (members_at ms (leaves tree)) whole
        → first_some link_answer (map (members_at ms) (groups tree) ++ more) ≡ first_some link_answer more
    none_of_groups empty more is = refl
    none_of_groups (file n rest) more is = none_of_groups rest more (suffix_modules ms whole (n ∷ []) (leaves rest) is)
    none_of_groups (group inner rest) more is =
        let own : List Parts = members_at ms (leaves inner) in
        let following : List (List Parts) = map (members_at ms) (groups rest) ++ more in
        let inner_part : IsPart own whole = prefix_modules ms whole (leaves inner) (leaves rest) is in
        let rest_part : IsPart (members_at ms (leaves rest)) whole = suffix_modules ms whole (leaves inner) (leaves rest) is in
        let split : map (members_at ms) (groups inner ++ leaves inner ∷ groups rest) ++ more ≡ map (members_at ms) (groups inner) ++ own ∷ following
        = ap (λ (l : List (List Parts)). l ++ more) (map-append (members_at ms) (groups inner) (leaves inner ∷ groups rest))
        ∙ append_assoc (map (members_at ms) (groups inner)) (own ∷ map (members_at ms) (groups rest)) more in
        ap (λ (l : List (List Parts)). first_some link_answer l) split ∙ (none_of_groups inner (own ∷ following) inner_part
        ∙ (first-none own following (none_of_part own whole inner_part none) ∙ none_of_groups rest more rest_part))

  -- nothing is answered for the links of a tree exactly where nothing is for all of its modules
  none_of_links : (tree : Forest) (ms : List Parts) → link_answer (roots tree ms) ≡ None → first_some link_answer (tree_links tree ms) ≡ None
  none_of_links tree ms none = none_of_groups ms (roots tree ms) none tree (roots tree ms ∷ []) (part-self (roots tree ms)) ∙ first-none (roots tree ms) [] none

  none_of_roots : (tree : Forest) (ms flat : List Parts) → IsFlatList tree ms flat → link_answer flat ≡ None → link_answer (roots tree ms) ≡ None
  none_of_roots tree ms flat (chosen, is_chosen, is_flat) none =
      none_of_part (roots tree ms) flat (subst (λ (l : List Parts). IsPart (roots tree ms) l) (sym is_flat)
      (part-prefix (roots tree ms) (members_at (members tree ms) chosen))) none

  -- ---- links

  links-give : (lists : List (List Parts)) → first_some link_answer lists ≡ None → links lists (gives tt)
  links-give lists none = subst (λ (o : Option LinkFact). unless_fact o (gives tt)) (sym none) refl

  links-none : (lists : List (List Parts)) (u : Unit {0}) → links lists (gives u) → first_some link_answer lists ≡ None
  links-none lists u is = answer (first_some link_answer lists) refl is where
    answer : (o : Option LinkFact) → first_some link_answer lists ≡ o → unless_fact o (gives u) → first_some link_answer lists ≡ None
    answer None same is = same
    answer (Some f) same is = absurd is

  links-stop : (lists : List (List Parts)) (f : LinkFact) → first_some link_answer lists ≡ Some f → links lists (stops f)
  links-stop lists f same = subst (λ (o : Option LinkFact). unless_fact o (stops f)) (sym same) refl

  links-fact : (lists : List (List Parts)) (f : LinkFact) → links lists (stops f) → first_some link_answer lists ≡ Some f
  links-fact lists f is = answer (first_some link_answer lists) is where
    answer : (o : Option LinkFact) → unless_fact o (stops f) → o ≡ Some f
    answer None is = absurd is
    answer (Some g) is = ap (λ (h : LinkFact). Some h) (sym is)

  pub linked-flat : LinkedIsFlat
  linked-flat tree ms flat = (there, back) where
    there : linked tree ms (gives flat) → IsFlatList tree ms flat × (link_answer flat ≡ None)
    there (u, first, (other, is_flat, (v, second, same))) = (
      subst (λ (l : List Parts). IsFlatList tree ms l) (sym same) is_flat,
      subst (λ (l : List Parts). link_answer l ≡ None) (sym same) (last-none [] other (links-none (other ∷ []) v second)),
    )

    back : IsFlatList tree ms flat × (link_answer flat ≡ None) → linked tree ms (gives flat)
    back (is_flat, none) = (
      tt,
      links-give (tree_links tree ms) (none_of_links tree ms (none_of_roots tree ms flat is_flat none)),
      (flat, is_flat, (tt, links-give (flat ∷ []) (first-none flat [] none), refl)),
    )

  -- ---- the fact that ends the links

  -- what is answered for a part stands against the whole
  part_fact : (part whole : List Parts) (f : LinkFact) → IsPart part whole → link_answer part ≡ Some f → LinkFactStands whole f
  part_fact part whole f is same =
      subst (λ (l : List Parts). LinkFactStands l f) (sym is.split) (grow is.before part is.after f ((facts part no_regions).link_sound f same))

  -- the first answer is that for the first list, or that for the others
  first_of : (list : List Parts) (more : List (List Parts)) (f : LinkFact) → first_some link_answer (list ∷ more) ≡ Some f
      → (link_answer list ≡ Some f) ⊎ (first_some link_answer more ≡ Some f)
  first_of list more f found = answer (link_answer list) found where
    answer : (o : Option LinkFact) → o or_else first_some link_answer more ≡ Some f → (o ≡ Some f) ⊎ (first_some link_answer more ≡ Some f)
    answer None same = inr same
    answer (Some g) same = inl same

  module _ (ms whole : List Parts) (f : LinkFact) where
    groups_fact : (tree : Forest) (more : List (List Parts)) → IsPart (members_at ms (leaves tree)) whole
        → first_some link_answer (map (members_at ms) (groups tree) ++ more) ≡ Some f
        → LinkFactStands whole f ⊎ (first_some link_answer more ≡ Some f)
    groups_fact empty more is found = inr found
    groups_fact (file n rest) more is found = groups_fact rest more (suffix_modules ms whole (n ∷ []) (leaves rest) is) found
    groups_fact (group inner rest) more is found = outer (groups_fact inner (own ∷ following) inner_part
        (sym (ap (λ (l : List (List Parts)). first_some link_answer l) split) ∙ found)) (groups_fact rest more rest_part) where
          own : List Parts
          own = members_at ms (leaves inner)

          following : List (List Parts)
          following = map (members_at ms) (groups rest) ++ more

          inner_part : IsPart own whole
          inner_part = prefix_modules ms whole (leaves inner) (leaves rest) is

          rest_part : IsPart (members_at ms (leaves rest)) whole
          rest_part = suffix_modules ms whole (leaves inner) (leaves rest) is

          split : map (members_at ms) (groups inner ++ leaves inner ∷ groups rest) ++ more ≡ map (members_at ms) (groups inner) ++ own ∷ following
          split = ap (λ (l : List (List Parts)). l ++ more) (map-append (members_at ms) (groups inner) (leaves inner ∷ groups rest))
              ∙ append_assoc (map (members_at ms) (groups inner)) (own ∷ map (members_at ms) (groups rest)) more

          middle : (link_answer own ≡ Some f) ⊎ (first_some link_answer following ≡ Some f)
              → (first_some link_answer following ≡ Some f → LinkFactStands whole f ⊎ (first_some link_answer more ≡ Some f)) → LinkFactStands whole f
              ⊎ (first_some link_answer more ≡ Some f)
          middle (inl same) next = inl (part_fact own whole f inner_part same)
          middle (inr later) next = next later

          outer : LinkFactStands whole f ⊎ (first_some link_answer (own ∷ following) ≡ Some f)
              → (first_some link_answer following ≡ Some f → LinkFactStands whole f ⊎ (first_some link_answer more ≡ Some f)) → LinkFactStands whole f
              ⊎ (first_some link_answer more ≡ Some f)
          outer (inl stands) next = inl stands
          outer (inr later) next = middle (first_of own following f later) next

  -- the fact of one list is the answer for it
  only_of : (list : List Parts) (f : LinkFact) → first_some link_answer (list ∷ []) ≡ Some f → link_answer list ≡ Some f
  only_of list f found = answer (first_of list [] f found) where
    answer : (link_answer list ≡ Some f) ⊎ (first_some link_answer [] ≡ Some f) → link_answer list ≡ Some f
    answer (inl same) = same
    answer (inr never) = absurd cc

  -- A link fact that ends the links stands against the flat list too.
  pub links-stand : LinkFactsStand
  links-stand tree ms flat f (chosen, is_chosen, is_flat) is = by is where
    own_flat : IsFlatList tree ms flat
    own_flat = (chosen, is_chosen, is_flat)

    roots_part : IsPart (roots tree ms) flat
    roots_part = subst (λ (l : List Parts). IsPart (roots tree ms) l) (sym is_flat) (part-prefix (roots tree ms) (members_at (members tree ms) chosen))

    of_tree : LinkFactStands flat f ⊎ (first_some link_answer (roots tree ms ∷ []) ≡ Some f) → LinkFactStands flat f
    of_tree (inl stands) = stands
    of_tree (inr found) = part_fact (roots tree ms) flat f roots_part (only_of (roots tree ms) f found)

    by : linked tree ms (stops f) → LinkFactStands flat f
    by (inl first) = of_tree (groups_fact ms flat f tree (roots tree ms ∷ []) roots_part (links-fact (tree_links tree ms) f first))
    by (inr (u, first, inl nothing)) = absurd nothing
    by (inr (u, first, inr (other, is_other, inl second))) =
        let same_list : other ≡ flat = flat_list-single tree ms other flat is_other own_flat in
        subst (λ (l : List Parts). LinkFactStands l f) same_list ((facts other no_regions).link_sound f (only_of other f (links-fact (other ∷ []) f second)))
    by (inr (u, first, inr (other, is_other, inr (v, second, nothing)))) = absurd nothing

  -- ---- other groups

  module _ (tree other : Forest) (same : leaves tree ≡ leaves other) (ms : List Parts) where
    flat_there : (flat : List Parts) → IsFlatList tree ms flat → IsFlatList other ms flat
    flat_there flat is = subst (λ (l : List ℕ). (chosen : List ℕ) × IsSelected (members_at ms l) (drop (length l) ms) chosen
        × (flat ≡ members_at ms l ++ members_at (drop (length l) ms) chosen)) same is

    values_there : (flat : List Parts) → linked tree ms (gives flat) → linked other ms (gives flat)
    values_there flat is = let (is_flat, none) = (linked-flat tree ms flat).0 is in (linked-flat other ms flat).1 (flat_there flat is_flat, none)

    -- a link fact of the other tree, where one of its links has one
    stops_there : (f : LinkFact) → linked tree ms (stops f) → StopsAtFact (linked other ms)
    stops_there f is = answer (first_some link_answer (tree_links other ms)) refl where
      later : first_some link_answer (tree_links other ms) ≡ None → linked tree ms (stops f) → StopsAtFact (linked other ms)
      later none (inl first) =
          let none_roots : link_answer (roots other ms) ≡ None = last-none (map (members_at ms) (groups other)) (roots other ms) none in
          let none_tree : link_answer (roots tree ms) ≡ None = subst (λ (l : List ℕ). link_answer (members_at ms l) ≡ None) (sym same) none_roots in
          let found = links-fact (tree_links tree ms) f first in
          let no : first_some link_answer (tree_links tree ms) ≡ None = none_of_links tree ms none_tree in absurd cc
      later none (inr (u, first, inl nothing)) = absurd nothing
      later none (inr (u, first, inr (flat, is_flat, inl second))) =
          (f, inr (tt, links-give (tree_links other ms) none, inr (flat, flat_there flat is_flat, inl second)))
      later none (inr (u, first, inr (flat, is_flat, inr (v, second, nothing)))) = absurd nothing

      answer : (o : Option LinkFact) → first_some link_answer (tree_links other ms) ≡ o → StopsAtFact (linked other ms)
      answer None none = later none is
      answer (Some g) found = (g, inl (links-stop (tree_links other ms) g found))

  linked-alike : (tree other : Forest) → leaves tree ≡ leaves other → (ms : List Parts) → EndAlike (linked tree ms) (linked other ms)
  linked-alike tree other same ms = record {
    values = λ flat. (values_there tree other same ms flat, values_there other tree (sym same) ms flat);
    facts = ((λ (f, is). stops_there tree other same ms f is), (λ (f, is). stops_there other tree (sym same) ms f is));
  }

  module _ (name : Option (List ℕ)) (ms : List Parts) where
    joined_there : (tree other : Forest) → EndAlike (linked tree ms) (linked other ms) → (M : Parts)
        → linked_module tree name ms (gives M) → linked_module other name ms (gives M)
    joined_there tree other flats M (flat, is, j) = (flat, (flats.values flat).0 is, j)

    joined_back : (tree other : Forest) → EndAlike (linked tree ms) (linked other ms) → (M : Parts)
        → linked_module other name ms (gives M) → linked_module tree name ms (gives M)
    joined_back tree other flats M (flat, is, j) = (flat, (flats.values flat).1 is, j)

    facts_there : (tree other : Forest) → EndAlike (linked tree ms) (linked other ms) → StopsAtFact (linked_module tree name ms)
        → StopsAtFact (linked_module other name ms)
    facts_there tree other flats (f, inl is) = let (g, found) = flats.facts.0 (f, is) in (g, inl found)
    facts_there tree other flats (f, inr (flat, is, never)) = absurd never

    facts_back : (tree other : Forest) → EndAlike (linked tree ms) (linked other ms) → StopsAtFact (linked_module other name ms)
        → StopsAtFact (linked_module tree name ms)
    facts_back tree other flats (f, inl is) = let (g, found) = flats.facts.1 (f, is) in (g, inl found)
    facts_back tree other flats (f, inr (flat, is, never)) = absurd never

    modules-alike : (tree other : Forest) → EndAlike (linked tree ms) (linked other ms)
        → EndAlike (linked_module tree name ms) (linked_module other name ms)
    modules-alike tree other flats = record {
      values = λ M. (joined_there tree other flats M, joined_back tree other flats M);
      facts = (facts_there tree other flats, facts_back tree other flats);
    }

  -- Trees that differ in their groups come to the same module, and a link fact for both or neither.
  pub groups-alike : GroupsMakeNoDifference
  groups-alike tree other name same ms = modules-alike name ms tree other (linked-alike tree other same ms)
