use Rattle.std.proofs.Common.{List, map, ℕ}
use Rattle.std.specs.String.{string_bytes}
use Rattle.mufom_task.specs.Calls.{Call, call_of}
use Rattle.mufom.proofs.proved_run.Goals as goal

pub returns : goal.returns
returns g c =
    let words : List (List ℕ) = map (λ word. string_bytes word) c.args.words.now in
    let call : Call = call_of g.H.World.meaning g.H.World.faults c.args.host.now c.run-outcome.new.host in
    let run = c.run-outcome.ensures in
    record {
      run = run;
      locates = c.the_headline.ensures words call c.run-outcome.result run.answers;
      links = c.links_are_put_out.ensures words call c.run-outcome.result run.answers;
    }
