use Rattle.std.proofs.Common.{ℕ, List, ◌+◌, ◌++◌, ap, arith, drop, replicate, subst, sym}
use Rattle.std.proofs.lemmas.List.{drop_all}
use Rattle.mufom_meaning.specs.declared.located.Run.{Run}
use Rattle.mufom_write.specs.Range.{next_after, part_within, range_from, range_image, space_before}
use Rattle.mufom_write.specs.Writing.{LeadsTo}
use Rattle.mufom_write.proofs.Loops.{leads-start, leads-step, leads-stop}
use Rattle.mufom_write.proofs.RangeLaws.{range-whole, range_next}
use Rattle.mufom_write.proofs.range.put_range.Goals as goal

pub loop-place-init : goal.loop-place-init
loop-place-init g c =
    let from : ℕ = c.args.from in let count : ℕ = c.args.count in let runs : List Run = c.args.runs.now in
    record {
      low = omega arith;
      within = omega arith;
      leads = subst (λ (all : List ℕ). LeadsTo g.K.Output.takes c.args.out.now c.args.out.now (range_from c.args.fill (from + count) from runs) all)
          (range-whole c.args.fill from count runs c.requires)
          (leads-start g.K.Output.takes c.args.out.now (range_from c.args.fill (from + count) from runs));
    }

pub loop-place-preserved : goal.loop-place-preserved
loop-place-preserved g c =
    let fill : ℕ = c.args.fill in let i : ℕ = c.loop-place.place in let at : ℕ = c.loop-place.at in
    let runs : List Run = c.args.runs.now in let run : Run = c.index-runs-place.result in let end : ℕ = c.args.from + c.args.count in
    let next = range_next fill end at runs i run run c.loop-place-test.true c.index-runs-place.is in
    let low = c.loop-place.invariant.low in let later = c.next_after-at.ensures.later in
    record {
      low = omega (arith, low, later);
      within = c.next_after-at.ensures.within;
      leads = subst (λ (n : ℕ). LeadsTo g.K.Output.takes c.args.out.now c.put_part.new.out (range_from fill end n (drop (i + 1) runs))
          (range_image fill c.args.from c.args.count runs))
          (sym c.next_after-at.ensures.next)
          (leads-step g.K.Output.takes g.met.K.Output.joins _ _ _ (replicate (space_before end at run) fill ++ part_within end at run)
          (range_from fill end (next_after end at run) (drop (i + 1) runs)) _ _ next c.loop-place.invariant.leads c.in_ok-put_part.ensures);
    }

pub returns-in_err-put_part : goal.returns-in_err-put_part
returns-in_err-put_part g c =
    let fill : ℕ = c.args.fill in let i : ℕ = c.loop-place.place in let at : ℕ = c.loop-place.at in
    let runs : List Run = c.args.runs.now in let run : Run = c.index-runs-place.result in let end : ℕ = c.args.from + c.args.count in
    let next = range_next fill end at runs i run run c.loop-place-test.true c.index-runs-place.is in
    leads-stop g.K.Output.takes g.met.K.Output.stops _ _ _ (replicate (space_before end at run) fill ++ part_within end at run)
    (range_from fill end (next_after end at run) (drop (i + 1) runs)) _ _ _ _ next c.loop-place.invariant.leads c.in_err-put_part.ensures
    c.from_residual.ensures.0

pub returns : goal.returns
returns g c =
    let fill : ℕ = c.args.fill in let at : ℕ = c.loop-place.at in let runs : List Run = c.args.runs.now in let end : ℕ = c.args.from + c.args.count in
    let none = ap (range_from fill end at) (drop_all c.loop-place.place runs (let past = c.loop-place-test.false in omega (arith, past))) in
    c.loop-place.invariant.leads.leads _ _
    (subst (λ (bytes : List ℕ). g.K.Output.takes c.loop-place.out c.gap.new.out bytes c.gap.result) (sym none) c.gap.ensures)
