use Rattle.std.proofs.Common.{map, sym}
use Rattle.std.specs.String.{string_bytes}
use Rattle.mufom_explain_text.proofs.ExplainReading.{lacking-all}
use Rattle.mufom_command.proofs.explain.explain.Goals as goal

pub explain_request-requires-clause-asks : goal.explain_request-requires-clause-asks
explain_request-requires-clause-asks g c = record {
  command = c.in-Ok.command;
  given = c.in-Ok.ensures.ok;
  is = sym c.in-Ok-request_of.ensures.is;
}

pub returns-in-Err-request_of : goal.returns-in-Err-request_of
returns-in-Err-request_of g c =
    lacking-all (map (λ word. string_bytes word) c.args.words.now) (g.H.World.meaning c.args.host.now) (g.H.World.faults c.args.host.now)
