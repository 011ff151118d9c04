use Rattle.std.proofs.Common.{◌≡◌, ◌+◌, ◌-◌, ◌++◌, ◌∷◌, [], ℕ, List, suc, ap, ◌∙◌, sym, append_assoc, append-nil, subst, arith}
use Rattle.mufom_map.specs.Room.{cell_sign, signs_from}
use Rattle.mufom_map.specs.Shown.{section_extents}
use Rattle.mufom_map.proofs.regions.signs.Goals as goal

pub loop-cell-preserved : goal.loop-cell-preserved
unfolding signs_from
loop-cell-preserved g c =
    let region = c.args.region.now in let extents = section_extents c.args.room.now.sections.now in
    let count = c.args.count in let cell = c.loop-cell.cell in
    let done = c.loop-cell.invariant.0 in
    let one = cell_sign region extents cell in
    let test = c.loop-cell-test.true in
    let left : count - cell ≡ suc (count - (cell + 1)) = omega (arith, test) in
    let put = rw c.cell_sign.ensures at c.put.ensures in (
      done ++ one ∷ [],
      g.met.K.Output.joins _ _ _ done (one ∷ []) c.loop-cell.invariant.1 put,
      c.loop-cell.invariant.2 ∙ ap (λ n. done ++ signs_from region extents n cell) left
          ∙ sym (append_assoc done (one ∷ []) (signs_from region extents (count - (cell + 1)) (cell + 1))),
    )

pub returns : goal.returns
unfolding signs_from
returns g c =
    let region = c.args.region.now in let extents = section_extents c.args.room.now.sections.now in
    let count = c.args.count in let cell = c.loop-cell.cell in
    let done = c.loop-cell.invariant.0 in
    let test = c.loop-cell-test.false in
    let left : count - cell ≡ 0 = omega (arith, test) in
    let all : signs_from region extents count 0 ≡ done =
    c.loop-cell.invariant.2 ∙ ap (λ n. done ++ signs_from region extents n cell) left ∙ append-nil done in
    subst (λ (text : List ℕ). g.K.Output.takes c.args.out.now c.loop-cell.out text) (sym all) c.loop-cell.invariant.1
