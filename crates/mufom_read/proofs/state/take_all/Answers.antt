use Rattle.std.proofs.Common.{◌≡◌, ◌++◌, ◌∙◌, sym, ap, arith, length, length-drop, List}
use Rattle.mufom_judging.specs.Prefixes.{Step}
use Rattle.mufom_read.specs.PrefixOfCode.{IsPrefixOf}
use Rattle.mufom_read.proofs.stepping.PrefixLaws.{size-append}
use Rattle.mufom_read.proofs.stepping.Take.{gone-none, gone-more, all-ended, all-wanting, all-refused}
use Rattle.mufom_read.proofs.state.take_all.Goals as goal

pub loop-alloc-init : goal.loop-alloc-init
loop-alloc-init c = λ before is whole. gone-none c.args.options before c.args.rest.now c.args.prefix.now is whole

pub advance-requires-clause-known : goal.advance-requires-clause-known
advance-requires-clause-known c =
    let gone = c.loop-alloc.invariant c.requires.known.0 c.requires.known.1 c.requires.known.2 in
    let unended = sym (c.is_ended.ensures.prefix (c.requires.known.0 ++ gone.steps) gone.is) ∙ c.loop-alloc-test.true in
    (c.requires.known.0 ++ gone.steps, gone.is, unended, gone.whole unended)

pub advance-requires-clause-fits : goal.advance-requires-clause-fits
advance-requires-clause-fits c =
    let gone = c.loop-alloc.invariant c.requires.known.0 c.requires.known.1 c.requires.known.2 in
    let left : length c.after.result.now ≡ _ = ap length c.after.ensures ∙ length-drop c.loop-alloc.taken c.args.rest.now in
    omega (arith, left, gone.is.size, size-append c.requires.known.0 gone.steps, c.requires.known.1.size, gone.size, gone.within, c.requires.fits)

pub overflow_add-taken : goal.overflow_add-taken
overflow_add-taken c =
    let step = rw c.in-Ok-Took.field-0-is at c.in-Ok-Took.ensures in
    let gone = gone-more c.args.options c.requires.known.0 c.args.rest.now c.after.result.now c.loop-alloc.prefix c.advance.new.self
    c.loop-alloc.taken c.in-Ok-Took.count
    (c.loop-alloc.invariant c.requires.known.0 c.requires.known.1 c.requires.known.2) c.after.ensures step
    (λ prefix is. sym (c.is_ended.ensures.prefix prefix is) ∙ c.loop-alloc-test.true) in
    omega (arith, gone.within, c.requires.fits)

pub loop-alloc-smaller : goal.loop-alloc-smaller
loop-alloc-smaller c =
    let step = rw c.in-Ok-Took.field-0-is at c.in-Ok-Took.ensures in
    let before = c.loop-alloc.invariant c.requires.known.0 c.requires.known.1 c.requires.known.2 in
    let unended = λ (prefix : List Step) (is : IsPrefixOf c.loop-alloc.prefix prefix). sym (c.is_ended.ensures.prefix prefix is) ∙ c.loop-alloc-test.true in
    let gone = gone-more c.args.options c.requires.known.0 c.args.rest.now c.after.result.now c.loop-alloc.prefix c.advance.new.self
    c.loop-alloc.taken c.in-Ok-Took.count before c.after.ensures step unended in
    let open_ = unended (c.requires.known.0 ++ before.steps) before.is in
    let some = (step (c.requires.known.0 ++ before.steps) before.is open_ (before.whole open_)).4 in
    omega (arith, gone.within, some)

pub loop-alloc-preserved : goal.loop-alloc-preserved
loop-alloc-preserved c = λ before is whole.
    let step = rw c.in-Ok-Took.field-0-is at c.in-Ok-Took.ensures in
    gone-more c.args.options before c.args.rest.now c.after.result.now c.loop-alloc.prefix c.advance.new.self c.loop-alloc.taken c.in-Ok-Took.count
    (c.loop-alloc.invariant before is whole) c.after.ensures step (λ prefix its. sym (c.is_ended.ensures.prefix prefix its) ∙ c.loop-alloc-test.true)

pub returns-in-Ok-More : goal.returns-in-Ok-More
returns-in-Ok-More c = λ before is whole.
    let step = rw c.in-Ok-More.field-0-is at c.in-Ok-More.ensures in
    all-wanting c.args.options before c.args.rest.now c.after.result.now c.loop-alloc.prefix c.advance.new.self c.loop-alloc.taken
    (c.loop-alloc.invariant before is whole) c.after.ensures step (λ prefix its. sym (c.is_ended.ensures.prefix prefix its) ∙ c.loop-alloc-test.true)

pub returns-in-Ok-Refused : goal.returns-in-Ok-Refused
returns-in-Ok-Refused c = λ before is whole.
    let step = rw c.in-Ok-Refused.field-0-is at c.in-Ok-Refused.ensures in
    all-refused c.args.options before c.args.rest.now c.after.result.now c.loop-alloc.prefix c.advance.new.self c.loop-alloc.taken c.in-Ok-Refused.refusal
    (c.loop-alloc.invariant before is whole) c.after.ensures step (λ prefix its. sym (c.is_ended.ensures.prefix prefix its) ∙ c.loop-alloc-test.true)

pub returns : goal.returns
returns c = λ before is whole.
    all-ended c.args.options before c.args.rest.now c.loop-alloc.prefix c.loop-alloc.taken (c.loop-alloc.invariant before is whole)
    (λ prefix its. sym (c.is_ended.ensures.prefix prefix its) ∙ c.loop-alloc-test.false)
