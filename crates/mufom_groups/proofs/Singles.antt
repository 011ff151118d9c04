-- The link of modules comes to one module, or to one link fact, at most.
use Rattle.std.proofs.Common.{◌≡◌, ℕ, List, [], ◌∷◌, ◌++◌, Option, Some, None, unwrap_or, sym, ap, ◌∙◌}
use Rattle.mufom_words.specs.Tree.{Forest}
use Rattle.mufom_module.specs.declared.module.Parts.{Parts}
use Rattle.mufom_place.specs.Facts.{first_some}
use Rattle.mufom_meaning.specs.Facts.{LinkFact}
use Rattle.mufom_meaning.specs.Joined.{IsJoined}
use Rattle.mufom_meaning.specs.LinkAnswer.{link_answer}
use Rattle.mufom_meaning.specs.Selection.{members_at}
use Rattle.mufom_meaning.proofs.locations.SelectionSingle.{selection_is_single}
use Rattle.mufom_meaning.proofs.staging.JoinedSingle.{joined_is_single}
use Rattle.mufom_groups.specs.Linked.{roots, members, IsFlatList, first_name, joined, tree_links, unless_fact, links, linked, linked_module}
use Rattle.mufom_groups.specs.Work.{◌>>=◌, sure, one_with, IsSingle}
use Rattle.mufom_groups.proofs.Works.{sure-single, stop_at-single, one_with-single, then-single}

unless_fact-single : (o : Option LinkFact) → IsSingle (unless_fact o)
unless_fact-single None = sure-single tt
unless_fact-single (Some f) = stop_at-single f

links-single : (lists : List (List Parts)) → IsSingle (links lists)
links-single lists = unless_fact-single (first_some link_answer lists)

pub flat_list-single : (tree : Forest) (ms flat other : List Parts) → IsFlatList tree ms flat → IsFlatList tree ms other → flat ≡ other
flat_list-single tree ms flat other (chosen, is_chosen, is_flat) (again, is_again, is_other) =
    let same : chosen ≡ again = selection_is_single (roots tree ms) (members tree ms) chosen again is_chosen is_again in
    is_flat ∙ (ap (λ (l : List ℕ). roots tree ms ++ members_at (members tree ms) l) same ∙ sym is_other)

pub linked-single : (tree : Forest) (ms : List Parts) → IsSingle (linked tree ms)
linked-single tree ms =
    then-single (links (tree_links tree ms)) (λ _. one_with (IsFlatList tree ms) >>= λ flat. links (flat ∷ []) >>= λ _. sure flat)
    (links-single (tree_links tree ms)) λ _.
    then-single (one_with (IsFlatList tree ms)) (λ flat. links (flat ∷ []) >>= λ _. sure flat)
    (one_with-single (IsFlatList tree ms) (flat_list-single tree ms)) λ flat.
    then-single (links (flat ∷ [])) (λ _. sure flat) (links-single (flat ∷ [])) λ _. sure-single flat

pub joined-single : (name : Option (List ℕ)) (ms : List Parts) → IsSingle (joined name ms)
joined-single name ms = one_with-single (λ M. IsJoined M ms (unwrap_or name (first_name ms))) (λ M N. joined_is_single M N ms (unwrap_or name (first_name ms)))

pub linked_module-single : (tree : Forest) (name : Option (List ℕ)) (ms : List Parts) → IsSingle (linked_module tree name ms)
linked_module-single tree name ms = then-single (linked tree ms) (λ flat. joined name flat) (linked-single tree ms)
    (λ flat. joined-single name flat)
