use Rattle.std.proofs.Common.{◌≡◌, ◌++◌, ◌∙◌, ℕ, zero, suc, ap, sym, subst, length, take, replicate, false, refl, append-nil, arith}
use Rattle.std.proofs.lemmas.List.{drop_all, take_all, length-replicate}
use Rattle.mufom_select.specs.Choice.{choice}
use Rattle.mufom_select.specs.Underway.{count}
use Rattle.mufom_prune.specs.Reached.{IsReached}
use Rattle.mufom_prune.proofs.Reaching.{reached}
use Rattle.mufom_prune.proofs.reach.reach.Goals as goal

none-marked : (n : ℕ) → count (replicate n false) ≡ 0
none-marked zero = refl
none-marked (suc n) = none-marked n

pub follow-requires-clause-start : goal.follow-requires-clause-start
follow-requires-clause-start c =
    let n = length c.args.needs.now in
    let marks : c.deref_mut.result.now ≡ replicate n false = c.deref_mut.ensures.value ∙ c.in_ok-marks.ensures.items_if_clones_equal (λ y e. e) in
    record {
      sized = ap length marks ∙ length-replicate n false;
      empty = c.new-order.ensures;
      unmarked = ap count marks ∙ none-marked n;
    }

pub returns : goal.returns
returns c =
    let n = length c.args.needs.now in
    let marks = c.follow.new.marks in
    let items = c.in_ok-marks.marks.items in
    let len = c.in_ok-marks.marks.len in
    let underway = c.in_ok-follow.ensures in
    let sized : length marks ≡ n = underway.one.sized in
    let all : length items ≡ n = ap length (c.in_ok-marks.ensures.items_if_clones_equal (λ y e. e)) ∙ length-replicate n false in
    let vec : len ≡ n = c.in_ok-marks.ensures.len in
    let whole =
    ap (λ xs. take len (marks ++ xs)) (drop_all (length marks) items (omega (arith, sized, all)))
    ∙ ap (take len) (append-nil marks)
    ∙ take_all len marks (omega (arith, sized, vec)) in
    subst (IsReached c.args.needs.now c.args.roots.now) (sym whole) (reached c.args.needs.now c.args.roots.now (choice marks c.follow.new.order) underway)
