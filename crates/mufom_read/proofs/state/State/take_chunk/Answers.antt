use Rattle.std.proofs.Common.{◌∙◌, ◌++◌, List, ℕ, length, sym, ap, subst, arith, length-drop}
use Rattle.std.specs.Prelude.{vec_len}
use Rattle.mufom_read.specs.Reader.{HasTakenChunk}
use Rattle.mufom_read.proofs.feeding.Complete.{whole-no-step, none-pending, some-pending, some-waiting, completed-gone, gone-fits, goes-on-directly}
use Rattle.mufom_read.proofs.feeding.Complete.{chunk-pending}
use Rattle.mufom_read.proofs.state.State.take_chunk.Goals as goal

pub returns-then-is_empty-clause-taken : goal.returns-then-is_empty-clause-taken
returns-then-is_empty-clause-taken c = λ before is stopped.
    let it = c.args.self.now in
    let none = none-pending it.rest.items (vec_len it.rest) (omega (arith, it.rest.ok.0)) (sym c.is_empty.ensures ∙ c.if-is_empty.true) in
    subst (λ (l : List ℕ). HasTakenChunk it.options before (l ++ c.args.chunk.now) c.take_directly.new.self c.take_directly.result) (sym none)
    (c.take_directly.ensures.taken before is (whole-no-step it.options before it.rest.items stopped))

pub take_directly-requires-then-is_empty-2-clause-known : goal.take_directly-requires-then-is_empty-2-clause-known
take_directly-requires-then-is_empty-2-clause-known c =
    let it = c.args.self.now in
    let some = some-pending it.rest.items (vec_len it.rest) (omega (arith, it.rest.ok.0)) (sym c.is_empty.ensures ∙ c.if-is_empty.false) in
    let after = c.complete.new.self.rest in
    let none = none-pending after.items (vec_len after) (omega (arith, after.ok.0)) (sym c.is_empty-2.ensures ∙ c.if-is_empty-2.true) in
    let before = c.requires.known.0 in
    let want = some-waiting it.options before it.rest.items some c.requires.known.2 in
    let gone = completed-gone it.options before it.rest.items c.args.chunk.now c.in_ok-used.used c.complete.new.self some none
    (c.in_ok-used.ensures.completed before c.requires.known.1 want) in
    (before ++ gone.steps, gone.is, gone.whole)

pub take_directly-requires-then-is_empty-2-clause-fits : goal.take_directly-requires-then-is_empty-2-clause-fits
take_directly-requires-then-is_empty-2-clause-fits c =
    let it = c.args.self.now in
    let some = some-pending it.rest.items (vec_len it.rest) (omega (arith, it.rest.ok.0)) (sym c.is_empty.ensures ∙ c.if-is_empty.false) in
    let after = c.complete.new.self.rest in
    let none = none-pending after.items (vec_len after) (omega (arith, after.ok.0)) (sym c.is_empty-2.ensures ∙ c.if-is_empty-2.true) in
    let before = c.requires.known.0 in
    let want = some-waiting it.options before it.rest.items some c.requires.known.2 in
    let gone = completed-gone it.options before it.rest.items c.args.chunk.now c.in_ok-used.used c.complete.new.self some none
    (c.in_ok-used.ensures.completed before c.requires.known.1 want) in
    let size = gone-fits it.options before it.rest.items c.args.chunk.now c.in_ok-used.used it.prefix c.complete.new.self.prefix c.requires.known.1 gone in
    omega (arith, size, ap length c.after.ensures, length-drop c.in_ok-used.used c.args.chunk.now, c.in_ok-used.ensures.within, c.requires.fits)

pub returns-then-is_empty-2-clause-taken : goal.returns-then-is_empty-2-clause-taken
returns-then-is_empty-2-clause-taken c = λ before is stopped.
    let it = c.args.self.now in
    let some = some-pending it.rest.items (vec_len it.rest) (omega (arith, it.rest.ok.0)) (sym c.is_empty.ensures ∙ c.if-is_empty.false) in
    let after = c.complete.new.self.rest in
    let none = none-pending after.items (vec_len after) (omega (arith, after.ok.0)) (sym c.is_empty-2.ensures ∙ c.if-is_empty-2.true) in
    let want = some-waiting it.options before it.rest.items some stopped in
    let gone = completed-gone it.options before it.rest.items c.args.chunk.now c.in_ok-used.used c.complete.new.self some none
    (c.in_ok-used.ensures.completed before is want) in
    goes-on-directly it.options c.complete.new.self.options before it.rest.items c.args.chunk.now c.after.result.now c.in_ok-used.used
    c.complete.new.self.prefix c.take_directly-then-is_empty-2.new.self c.take_directly-then-is_empty-2.result
    c.complete.ensures.options c.after.ensures gone c.take_directly-then-is_empty-2.ensures.taken

pub returns-clause-taken : goal.returns-clause-taken
returns-clause-taken c = λ before is stopped.
    let it = c.args.self.now in
    let some = some-pending it.rest.items (vec_len it.rest) (omega (arith, it.rest.ok.0)) (sym c.is_empty.ensures ∙ c.if-is_empty.false) in
    let after = c.complete.new.self.rest in
    let left = some-pending after.items (vec_len after) (omega (arith, after.ok.0)) (sym c.is_empty-2.ensures ∙ c.if-is_empty-2.false) in
    let want = some-waiting it.options before it.rest.items some stopped in
    chunk-pending it.options before it.rest.items c.args.chunk.now c.in_ok-used.used c.complete.new.self left
    (c.in_ok-used.ensures.completed before is want)
