-- The module into which modules are linked stands for their flat list.
use Rattle.std.proofs.Common.{length, unwrap_or, sym, subst}
use Rattle.mufom_words.specs.Tree.{leaves}
use Rattle.mufom_meaning.specs.Selection.{members_at}
use Rattle.mufom_meaning.specs.Staging.{AreValid}
use Rattle.mufom_meaning.proofs.facts.AllAnswers.{answers_are_facts}
use Rattle.mufom_meaning.proofs.facts.LinkFacts.{link_facts_grow}
use Rattle.mufom_meaning.proofs.staging.Staging.{joined_stands_for}
use Rattle.mufom_groups.specs.Laws.{LinksStandForFlat}
use Rattle.mufom_groups.specs.Linked.{first_name, members, roots}
use Rattle.mufom_groups.proofs.GroupsAlike.{linked-flat}
use Rattle.mufom_groups.proofs.LinkWalk.{valid-append, valid-drop, valid-members}

pub links-stand-for-flat : LinksStandForFlat
links-stand-for-flat tree name ms M valid (flat, is, j) =
    let is_flat = ((linked-flat answers_are_facts link_facts_grow tree ms flat).0 is).0 in
    let flat_valid : AreValid flat = subst AreValid (sym is_flat.2)
    (valid-append (roots tree ms) (members_at (members tree ms) is_flat.0) (valid-members ms (leaves tree) valid)
    (valid-members (members tree ms) is_flat.0 (valid-drop (length (leaves tree)) ms valid))) in
    let stands = joined_stands_for M flat (unwrap_or name (first_name flat)) j flat_valid in
    record { flat = flat; is_flat = is_flat; stands = stands.0; settled = stands.3 }
