use Rattle.std.proofs.Common.{◌≡◌, ℕ, take, sym, ap, ◌∙◌, subst, arith}
use Rattle.std.proofs.lemmas.List.{take_all}
use Rattle.mufom_text.specs.Words.{Text, each}
use Rattle.mufom_text.proofs.Loops.{each-step}
use Rattle.mufom_explain.specs.declared.modules.FlatModule.{FlatModule}
use Rattle.mufom_explain.specs.Flat.{file_module, wanted_names}
use Rattle.mufom_explain.specs.Mentions.{named_line}
use Rattle.mufom_explain.proofs.LineLaws.{each-map}
use Rattle.mufom_origins.specs.Words.{all_files}
use Rattle.mufom_explain.proofs.mentions.Mentions.module_lines.Goals as goal

pub loop-position-preserved : goal.loop-position-preserved
loop-position-preserved g c =
    let self = c.args.self.now in
    let write : ℕ → FlatModule → Text = λ j m. named_line (all_files c.args.names.now) (wanted_names self.wanted) j (file_module m) in
    each-step g.K.Output.takes g.met.K.Output.joins write self.flat.now c.loop-position.position
    c.index-self-position.result c.index-self-position.result _ _ _
    c.loop-position-test.true c.index-self-position.is c.loop-position.invariant
    (subst (λ (m : FlatModule). g.K.Output.takes c.loop-position.out c.named_line.new.out (write c.loop-position.position m)) (sym c.index-self-position.is)
    c.named_line.ensures)

pub returns : goal.returns
returns g c =
    let self = c.args.self.now in
    let flat = self.flat.now in let names = all_files c.args.names.now in let wanted = wanted_names self.wanted in
    let write : ℕ → FlatModule → Text = λ j m. named_line names wanted j (file_module m) in
    let end = c.loop-position-test.false in
    let all : take c.loop-position.position flat ≡ flat = take_all c.loop-position.position flat (omega (arith, end)) in
    subst (λ (t : Text). g.K.Output.takes c.args.out.now c.loop-position.out t)
    (ap (each write) all ∙ sym (each-map file_module (named_line names wanted) flat)) c.loop-position.invariant
