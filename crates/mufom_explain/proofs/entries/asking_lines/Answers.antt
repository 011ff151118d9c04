use Rattle.std.proofs.Common.{◌≡◌, ℕ, take, sym, ap, ◌∙◌, subst, arith}
use Rattle.std.proofs.lemmas.List.{take_all}
use Rattle.mufom_text.specs.Words.{Text, each}
use Rattle.mufom_text.proofs.Loops.{each-step}
use Rattle.mufom_explain.specs.declared.modules.FlatModule.{FlatModule}
use Rattle.mufom_explain.specs.Flat.{file_module}
use Rattle.mufom_explain.specs.Lines.{asking_line}
use Rattle.mufom_explain.proofs.LineLaws.{each-map}
use Rattle.mufom_origins.specs.Words.{all_files}
use Rattle.mufom_explain.proofs.entries.asking_lines.Goals as goal

pub loop-position-preserved : goal.loop-position-preserved
loop-position-preserved g c =
    let write : ℕ → FlatModule → Text = λ j m. asking_line (all_files c.args.names.now) c.args.name.now j (file_module m) in
    each-step g.K.Output.takes g.met.K.Output.joins write c.args.flat.now c.loop-position.position
    c.index-flat-position.result c.index-flat-position.result _ _ _
    c.loop-position-test.true c.index-flat-position.is c.loop-position.invariant c.asking_line.ensures

pub returns : goal.returns
returns g c =
    let write : ℕ → FlatModule → Text = λ j m. asking_line (all_files c.args.names.now) c.args.name.now j (file_module m) in
    let end = c.loop-position-test.false in
    let all : take c.loop-position.position c.args.flat.now ≡ c.args.flat.now = take_all c.loop-position.position c.args.flat.now (omega (arith, end)) in
    subst (λ (t : Text). g.K.Output.takes c.args.out.now c.loop-position.out t)
    (ap (each write) all ∙ sym (each-map file_module (asking_line (all_files c.args.names.now) c.args.name.now) c.args.flat.now)) c.loop-position.invariant
