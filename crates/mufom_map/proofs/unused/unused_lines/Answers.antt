use Rattle.std.proofs.Common.{◌≡◌, ℕ, take, sym, ap, ◌∙◌, subst, arith}
use Rattle.std.proofs.lemmas.List.{take_all}
use Rattle.mufom_plan.specs.declared.plan.Region.{Region}
use Rattle.mufom_text.specs.Words.{Text, each}
use Rattle.mufom_text.proofs.Loops.{each-step}
use Rattle.mufom_map.specs.MapText.{unused_lines}
use Rattle.mufom_map.specs.Unused.{missing_entries}
use Rattle.mufom_map.proofs.UnusedLaws.{each-map}
use Rattle.mufom_map.proofs.unused.unused_lines.Goals as goal

pub loop-position-preserved : goal.loop-position-preserved
loop-position-preserved g c =
    let write : ℕ → Region → Text = λ k r. unused_lines k (missing_entries c.args.names.now r) in
    each-step g.K.Output.takes g.met.K.Output.joins write c.args.regions.now c.loop-position.position
    c.index-regions-position.result c.index-regions-position.result _ _ _
    c.loop-position-test.true c.index-regions-position.is c.loop-position.invariant c.region_entries.ensures

pub returns : goal.returns
returns g c =
    let write : ℕ → Region → Text = λ k r. unused_lines k (missing_entries c.args.names.now r) in
    let end = c.loop-position-test.false in
    let all : take c.loop-position.position c.args.regions.now ≡ c.args.regions.now
    = take_all c.loop-position.position c.args.regions.now (omega (arith, end)) in
    subst (λ (t : Text). g.K.Output.takes c.args.out.now c.loop-position.out t)
    (ap (each write) all ∙ sym (each-map (missing_entries c.args.names.now) unused_lines c.args.regions.now)) c.loop-position.invariant
