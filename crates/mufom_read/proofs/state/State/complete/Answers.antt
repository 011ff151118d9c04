use Rattle.std.proofs.Common.{◌+◌, ◌∙◌, length, ap, arith, length-drop}
use Rattle.mufom_read.specs.declared.prefix.Next.TheVariants as next
use Rattle.mufom_read.proofs.feeding.Complete.{added-here, advanced-there, waiting-still, whole-waiting, took-reaches, took-within, took-completed}
use Rattle.mufom_read.proofs.feeding.Complete.{refused-completed}
use Rattle.mufom_read.proofs.state.State.complete.Goals as goal

pub overflow_sub-result : goal.overflow_sub-result
overflow_sub-result c =
    let it = c.args.self.now in
    let before = c.requires.known.0 in
    let is = c.requires.known.1 in
    let want = c.requires.known.2 in
    let waited = c.loop-used.invariant.waited before is want in
    let done = advanced-there it.options before it.rest.items c.args.chunk.now c.after.result.now c.deref.result.now c.loop-used.used
    c.in-Ok.added c.loop-used.self c.double_pending.new.self c.advance.new.self (next.Took c.in-Ok-Took.count)
    want waited c.loop-used.invariant.flag c.double_pending.ensures.prefix c.double_pending.ensures.options c.after.ensures
    c.in-Ok.ensures.added.2 c.deref.ensures.value (rw c.in-Ok-Took.field-0-is at c.in-Ok-Took.ensures) in
    omega (
      arith,
      took-reaches it.options before it.rest.items c.args.chunk.now (c.loop-used.used + c.in-Ok.added) c.in-Ok-Took.count
          c.advance.new.self c.requires.bytes want done,
      c.len-pending.ensures,
    )

pub returns-in-Ok-Took-clause-completed : goal.returns-in-Ok-Took-clause-completed
returns-in-Ok-Took-clause-completed c = λ before is want.
    let it = c.args.self.now in
    let now = c.double_pending.new.self in
    let waited = c.loop-used.invariant.waited before is want in
    let done = advanced-there it.options before it.rest.items c.args.chunk.now c.after.result.now c.deref.result.now c.loop-used.used
    c.in-Ok.added c.loop-used.self c.double_pending.new.self c.advance.new.self (next.Took c.in-Ok-Took.count)
    want waited c.loop-used.invariant.flag c.double_pending.ensures.prefix c.double_pending.ensures.options c.after.ensures
    c.in-Ok.ensures.added.2 c.deref.ensures.value (rw c.in-Ok-Took.field-0-is at c.in-Ok-Took.ensures) in
    took-completed it.options before it.rest.items c.args.chunk.now (c.loop-used.used + c.in-Ok.added) c.in-Ok-Took.count c.len-pending.result
    (record { alloc = now.alloc; options = now.options; prefix = c.advance.new.self; rest = c.clear.new.self; stop = now.stop })
    c.requires.bytes want (omega (arith, c.len-pending.ensures)) c.clear.ensures.items done

pub returns-in-Ok-Took-clause-within : goal.returns-in-Ok-Took-clause-within
returns-in-Ok-Took-clause-within c =
    let it = c.args.self.now in
    let before = c.requires.known.0 in
    let is = c.requires.known.1 in
    let want = c.requires.known.2 in
    let waited = c.loop-used.invariant.waited before is want in
    let done = advanced-there it.options before it.rest.items c.args.chunk.now c.after.result.now c.deref.result.now c.loop-used.used
    c.in-Ok.added c.loop-used.self c.double_pending.new.self c.advance.new.self (next.Took c.in-Ok-Took.count)
    want waited c.loop-used.invariant.flag c.double_pending.ensures.prefix c.double_pending.ensures.options c.after.ensures
    c.in-Ok.ensures.added.2 c.deref.ensures.value (rw c.in-Ok-Took.field-0-is at c.in-Ok-Took.ensures) in
    omega (
      arith,
      took-within it.options before it.rest.items c.args.chunk.now (c.loop-used.used + c.in-Ok.added) c.in-Ok-Took.count
          c.advance.new.self done,
      c.len-pending.ensures,
    )

pub loop-used-preserved : goal.loop-used-preserved
loop-used-preserved c = record {
  within = omega (arith, c.in-Ok.ensures.added.1, ap length c.after.ensures, length-drop c.loop-used.used c.args.chunk.now, c.loop-used.invariant.within);
  flag = c.double_pending.ensures.options ∙ c.loop-used.invariant.flag;
  waited = λ before is want.
      let it = c.args.self.now in
      let waited = c.loop-used.invariant.waited before is want in
      let done = advanced-there it.options before it.rest.items c.args.chunk.now c.after.result.now c.deref.result.now c.loop-used.used
      c.in-Ok.added c.loop-used.self c.double_pending.new.self c.advance.new.self next.More
      want waited c.loop-used.invariant.flag c.double_pending.ensures.prefix c.double_pending.ensures.options c.after.ensures
      c.in-Ok.ensures.added.2 c.deref.ensures.value (rw c.in-Ok-More.field-0-is at c.in-Ok-More.ensures) in
      record {
        kept = done.0;
        rest = added-here it.rest.items c.args.chunk.now c.loop-used.self.rest.items c.after.result.now c.double_pending.new.self.rest.items
            c.loop-used.used c.in-Ok.added waited.rest c.after.ensures c.in-Ok.ensures.added.2;
        waits = waiting-still it.options before _ c.advance.new.self want.unended (whole-waiting it.options before it.rest.items want) done;
      };
}

pub returns-in-Ok-Refused-clause-completed : goal.returns-in-Ok-Refused-clause-completed
returns-in-Ok-Refused-clause-completed c = λ before is want.
    let it = c.args.self.now in
    let now = c.double_pending.new.self in
    let waited = c.loop-used.invariant.waited before is want in
    let done = advanced-there it.options before it.rest.items c.args.chunk.now c.after.result.now c.deref.result.now c.loop-used.used
    c.in-Ok.added c.loop-used.self c.double_pending.new.self c.advance.new.self (next.Refused c.in-Ok-Refused.refusal)
    want waited c.loop-used.invariant.flag c.double_pending.ensures.prefix c.double_pending.ensures.options c.after.ensures
    c.in-Ok.ensures.added.2 c.deref.ensures.value (rw c.in-Ok-Refused.field-0-is at c.in-Ok-Refused.ensures) in
    refused-completed it.options before it.rest.items c.args.chunk.now (c.loop-used.used + c.in-Ok.added) c.in-Ok-Refused.refusal
    (record { alloc = now.alloc; options = now.options; prefix = c.advance.new.self; rest = now.rest; stop = now.stop }) c.requires.bytes done
