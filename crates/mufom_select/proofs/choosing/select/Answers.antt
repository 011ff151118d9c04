use Rattle.std.proofs.Common.{◌≡◌, ◌∷◌, [], ◌++◌, ◌∙◌, eqb-true, ℕ, zero, suc, ap, sym, subst, length, take, replicate, false, refl, append-nil, arith}
use Rattle.std.proofs.lemmas.List.{drop_all, take_all, length-replicate}
use Rattle.std.proofs.lemmas.Result.{IfOk-weaker}
use Rattle.mufom_meaning.specs.Selection.{IsSelected}
use Rattle.mufom_select.specs.Choice.{choice, positions_from}
use Rattle.mufom_select.specs.Underway.{count}
use Rattle.mufom_select.proofs.Chosen.{chosen-selected, none-selected}
use Rattle.mufom_select.proofs.choosing.select.Goals as goal

none-marked : (n : ℕ) → count (replicate n false) ≡ 0
none-marked zero = refl
none-marked (suc n) = none-marked n

pub choose_all-requires-clause-start : goal.choose_all-requires-clause-start
choose_all-requires-clause-start c =
    let n = length c.args.members.now in
    let marks : c.deref_mut.result.now ≡ replicate n false = c.deref_mut.ensures.value ∙ c.in_ok-marks.ensures.items_if_clones_equal (λ y e. e) in
    record {
      sized = ap length marks ∙ length-replicate n false;
      empty = c.new-order.ensures;
      unmarked = ap count marks ∙ none-marked n;
    }

pub returns : goal.returns
returns c =
    let roots = c.args.roots.now in
    let members = c.args.members.now in
    let n = length members in
    let marks = c.choose_all.new.marks in
    let order = c.choose_all.new.order in
    let items = c.in_ok-marks.marks.items in
    let len = c.in_ok-marks.marks.len in
    let underway = c.in_ok-choose_all.ensures in
    let sized : length marks ≡ n = underway.one.sized in
    let all : length items ≡ n = ap length (c.in_ok-marks.ensures.items_if_clones_equal (λ y e. e)) ∙ length-replicate n false in
    let vec : len ≡ n = c.in_ok-marks.ensures.len in
    let whole : c.deref.result.now ≡ marks =
    c.deref.ensures.value
    ∙ ap (λ xs. take len (marks ++ xs)) (drop_all (length marks) items (omega (arith, sized, all)))
    ∙ ap (take len) (append-nil marks)
    ∙ take_all len marks (omega (arith, sized, vec)) in
    IfOk-weaker c.positions.result (λ positions. positions ≡ positions_from 0 c.deref.result.now) (λ chosen. IsSelected (roots ∷ []) members chosen)
    (λ chosen e. subst (IsSelected (roots ∷ []) members) (sym (e ∙ ap (positions_from 0) whole))
    (chosen-selected (roots ∷ []) members (choice marks order) underway))
    c.positions.ensures

pub returns-then-is_empty : goal.returns-then-is_empty
returns-then-is_empty c = none-selected (c.args.roots.now ∷ []) c.args.members.now c.new.result
    (eqb-true (length c.args.members.now) 0 (sym c.is_empty.ensures ∙ c.if-is_empty.true)) c.new.ensures
