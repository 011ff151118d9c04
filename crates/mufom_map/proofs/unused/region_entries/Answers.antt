use Rattle.std.proofs.Common.{◌<◌, ◌≤◌, ℕ, List, length, get_or, ap, subst, ◌∙◌, arith}
use Rattle.mufom_text.proofs.Loops.{flat-step, flat-end}
use Rattle.mufom_map.specs.UnusedLine.{missing_line}
use Rattle.mufom_map.proofs.UnusedLaws.{missing-text}
use Rattle.mufom_map.proofs.unused.region_entries.Goals as goal

pub loop-entry-preserved : goal.loop-entry-preserved
loop-entry-preserved g c =
    let names = c.args.names.now in let k = c.args.position in let entries = c.args.region.now.sections in let i = c.loop-entry.entry-index in
    let items = c.as_slice-entry-items.ensures in
    let less : i < length entries = let long = ap length items in let test = c.loop-entry-test.true in omega (arith, long, test) in
    let entry = c.entry-item.result in
    flat-step g.K.Output.takes g.met.K.Output.joins (missing_line names k) entries i entry entry _ _ _
    less (c.entry-item.is ∙ ap (λ (es : List (List ℕ)). get_or es i entry) items) c.loop-entry.invariant c.entry_line.ensures

pub returns : goal.returns
returns g c =
    let names = c.args.names.now in let k = c.args.position in let entries = c.args.region.now.sections in
    let past : length entries ≤ c.loop-entry.entry-index =
    let long = ap length c.as_slice-entry-items.ensures in let test = c.loop-entry-test.false in omega (arith, long, test) in
    subst (λ (t : List ℕ). g.K.Output.takes c.args.out.now c.loop-entry.out t) (missing-text names k entries)
    (flat-end g.K.Output.takes g.met.K.Output.joins (missing_line names k) entries c.loop-entry.entry-index _ _ past c.loop-entry.invariant)
