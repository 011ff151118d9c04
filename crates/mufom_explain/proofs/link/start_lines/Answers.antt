use Rattle.std.proofs.Common.{◌∙◌, List, ℕ, take, sym, subst, arith}
use Rattle.std.specs.Prelude.{filter}
use Rattle.std.proofs.lemmas.List.{take_all}
use Rattle.mufom_origins.specs.Origins.{FileModule}
use Rattle.mufom_explain.specs.Details.{has_start, listed}
use Rattle.mufom_explain.specs.Explained.{start_line}
use Rattle.mufom_explain.specs.Flat.{file_module}
use Rattle.mufom_explain.proofs.LinkLaws.{numbered, numbered-length, start-left, start-text}
use Rattle.mufom_origins.specs.Words.{all_files}
use Rattle.mufom_explain.proofs.link.start_lines.Goals as goal

pub loop-position-preserved : goal.loop-position-preserved
loop-position-preserved g c =
    let flat = c.args.flat.now in let names = all_files c.args.names.now in
    let i = c.loop-position.position in let left = c.loop-position.left in let f = c.index-flat-position.result in
    let inside = c.loop-position-test.true in let is = c.index-flat-position.is in
    let text = start-text names flat i left f inside is c.loop-position.invariant.1 in (
      subst (λ (t : List ℕ). g.K.Output.takes c.args.out.now c.start_line-left.new.out t) (sym text)
          (g.met.K.Output.joins _ _ _ (listed names (take 2 (filter has_start (take i (numbered flat))))) (start_line names left (i, file_module f))
          c.loop-position.invariant.0 c.start_line-left.ensures.put),
      c.start_line-left.ensures.left ∙ start-left names flat i left f inside is c.loop-position.invariant.1,
    )

pub returns : goal.returns
returns g c =
    let flat = c.args.flat.now in let names = all_files c.args.names.now in
    let past = c.loop-position-test.false in
    let long = numbered-length flat in
    let all = take_all c.loop-position.position (numbered flat) (omega (arith, past, long)) in
    subst (λ (ps : List (ℕ × FileModule)). g.K.Output.takes c.args.out.now c.loop-position.out (listed names (take 2 (filter has_start ps)))) all
    c.loop-position.invariant.0
