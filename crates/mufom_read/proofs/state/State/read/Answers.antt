use Rattle.std.proofs.Common.{◌-◌, ◌++◌, ◌∙◌, List, ℕ, length, take, nat_lt, sym, ap, subst}
use Rattle.mufom_module.specs.Grammar.{file_limit}
use Rattle.mufom_numbers.specs.Spelling.{AreBytes}
use Rattle.mufom_read.proofs.feeding.Chunks.{known-taken, known-stopped, rest-bytes}
use Rattle.mufom_read.proofs.state.State.read.Goals as goal

pub take_chunk-requires-clause-bytes : goal.take_chunk-requires-clause-bytes
take_chunk-requires-clause-bytes c =
    subst (λ (l : List ℕ). AreBytes (c.args.self.now.rest.items ++ l)) (sym c.at_most.ensures)
    (rest-bytes c.args.self.now c.requires.known.0 c.args.chunk.now _ c.requires.known.1 c.requires.known.2 c.type_inv.chunk)

pub returns-in-Ok-clause-known : goal.returns-in-Ok-clause-known
returns-in-Ok-clause-known c = λ stream bytes is.
    known-taken c.args.self.now c.take_chunk.new.self stream c.args.chunk.now c.at_most.result.now _ c.final_stop.result is bytes
    (c.at_most.ensures ∙ ap (λ n. take (file_limit - n) c.args.chunk.now) c.len-room.ensures)
    (ap (λ n. nat_lt (file_limit - n) (length c.args.chunk.now)) c.len-room.ensures) c.take_chunk.ensures.options c.in-Ok.ensures.taken
    c.final_stop.ensures

pub returns-in-Err-clause-known : goal.returns-in-Err-clause-known
returns-in-Err-clause-known c = λ stream bytes is.
    known-stopped c.args.self.now c.take_chunk.new.self stream c.args.chunk.now c.at_most.result.now c.in-Err.stop is bytes
    (c.at_most.ensures ∙ ap (λ n. take (file_limit - n) c.args.chunk.now) c.len-room.ensures) c.take_chunk.ensures.options c.in-Err.ensures.taken
