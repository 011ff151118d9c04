use Rattle.std.proofs.Common.{List, ap, arith, length, map, subst, sym, ℕ, ◌++◌, ◌+◌, ◌<◌, ◌^◌, ◌∙◌, ◌≡◌, ◌≤◌}
use Rattle.mufom_works.proofs.EndLaws.{if-ok-map}
use Rattle.mufom_explain_modules.proofs.KeptFlat.{flat-positions}
use Rattle.mufom_works.specs.FlatFiles.{files_with}
use Rattle.mufom_explain.specs.Flat.{flat_of}
use Rattle.mufom_groups.proofs.RefusedLaws.{numbers-count}
use Rattle.mufom_groups.proofs.SelectedLaws.{selected-after, selected-few}
use Rattle.mufom_groups.specs.Linked.{members, roots}
use Rattle.mufom_origins.specs.Origins.{numbered}
use Rattle.mufom_origins.specs.Places.{at_positions}
use Rattle.mufom_words.specs.Sound.{numbers_from}
use Rattle.mufom_words.specs.Tree.{leaves, tree_of}
use Rattle.std.proofs.lemmas.List.{length-append, length-drop, length-map}
use Rattle.std.specs.Prelude.{All}
use Rattle.mufom_explain_modules.proofs.explain_modules.flat_list.Goals as goal

pub flat_places-requires-clause-members : goal.flat_places-requires-clause-members
flat_places-requires-clause-members c =
    let tree = tree_of c.args.inputs.now.marks in let ms = c.args.modules.now in let linkable = c.requires.linkable in let places = c.args.places.now in
    let size = length-drop (length (leaves tree)) ms in
    subst (All (λ position. places.roots + position < 2 ^ 32)) (sym c.as_slice.ensures)
    (selected-after (roots tree ms) (members tree ms) places.chosen c.requires.places.selected places.roots (2 ^ 32)
    (omega (arith, size, c.requires.places.counted, linkable.few, linkable.count.within)))

pub returns-clause-flat : goal.returns-clause-flat
returns-clause-flat c =
    let tree = tree_of c.args.inputs.now.marks in let ms = c.args.modules.now in let places = c.args.places.now in
    let first : leaves tree ≡ numbers_from 0 places.roots
    = c.requires.linkable.sound.tree.numbered ∙ ap (λ (n : ℕ). numbers_from 0 n) (sym c.requires.places.counted) in
    let files = c.as_slice-2.ensures
    ∙ c.in_ok-places.ensures ∙ ap (λ (l : List ℕ). numbers_from 0 places.roots ++ map (λ position. places.roots + position) l) c.as_slice.ensures in
    if-ok-map c.flat_modules.result (λ flat. flat_of flat.items ≡ at_positions (numbered ms) c.as_slice-2.result.now)
    (λ flat. flat_of flat.items ≡ files_with tree ms places.chosen)
    (λ flat is. is ∙ ap (at_positions (numbered ms)) files ∙ flat-positions tree ms places.chosen places.roots first) c.flat_modules.ensures.flat

pub returns-clause-few : goal.returns-clause-few
returns-clause-few c =
    let tree = tree_of c.args.inputs.now.marks in let ms = c.args.modules.now in let linkable = c.requires.linkable in let places = c.args.places.now in
    let own = ap (λ (l : List ℕ). length l) c.as_slice-2.ensures in
    let files = ap (λ (l : List ℕ). length l) c.in_ok-places.ensures in
    let chosen = ap (λ (l : List ℕ). length l) c.as_slice.ensures in
    let sum = length-append (numbers_from 0 places.roots) (map (λ position. places.roots + position) c.as_slice.result.now) in
    let first = numbers-count 0 places.roots in
    let second = length-map c.as_slice.result.now (λ (position : ℕ). places.roots + position) in
    let few = selected-few (roots tree ms) (members tree ms) places.chosen c.requires.places.selected in
    let size = length-drop (length (leaves tree)) ms in
    if-ok-map c.flat_modules.result (λ flat. length flat.items ≤ length c.as_slice-2.result.now) (λ flat. length flat.items < 2 ^ 32)
    (λ flat is. omega (
      arith,
      is,
      own,
      files,
      chosen,
      sum,
      first,
      second,
      few,
      size,
      c.requires.places.counted,
      linkable.few,
      linkable.count.within,
    )) c.flat_modules.ensures.count
