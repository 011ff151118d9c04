use Rattle.std.proofs.Common.{◌≡◌, ◌+◌, ◌∙◌, true, false, Option, Ok, Err, length, sym, ap, subst, arith, length-drop}
use Rattle.mufom_read.specs.declared.prefix.Prefix.{Prefix}
use Rattle.mufom_read.specs.declared.refusal.ReadStop.{ReadStop}
use Rattle.mufom_read.specs.declared.state.State.{State}
use Rattle.mufom_read.specs.Built.{IsWhole}
use Rattle.mufom_judging.specs.Prefixes.{size_of, is_ended}
use Rattle.mufom_read.specs.PrefixOfCode.{IsPrefixOf}
use Rattle.mufom_judging.specs.Judging.{IsModule}
use Rattle.mufom_read.specs.Reader.{IsReading, Knows, HasRead}
use Rattle.mufom_read.proofs.feeding.Finish.{is-whole, finish-stopped, finish-cut, finish-whole, finish-file}
use Rattle.mufom_judging.proofs.weighing.Files.{modules_weigh}
use Rattle.mufom_read.proofs.reader.Reader.finish.Goals as goal

pub returns-in-Some-clause-refused : goal.returns-in-Some-clause-refused
returns-in-Some-clause-refused c = λ place reason stream has memory.
    let stopped = ap (λ (s : State). s.stop) (sym c.self.view_is) ∙ c.in-Some.is in
    finish-stopped c.args.self stream c.in-Some.stop place reason has.0 (subst (λ (o : Option ReadStop). Knows c.args.self stream o) stopped has.1) memory

pub returns-then-not-is_ended-clause-refused : goal.returns-then-not-is_ended-clause-refused
returns-then-not-is_ended-clause-refused c = λ place reason stream has memory.
    let it = c.args.self in
    let going = ap (λ (s : State). s.stop) (sym c.self.view_is) ∙ c.in_default.is in
    let is : IsReading it stream = subst (λ (o : Option ReadStop). Knows it stream o) going has.1 in
    let kept = subst (λ (s : State). IsPrefixOf s.prefix is.prefix) (sym c.self.view_is) is.kept in
    let unended : is_ended is.prefix ≡ false = sym (c.is_ended.ensures.prefix is.prefix kept) ∙ c.if-not-is_ended.true in
    let count = c.len.ensures ∙ ap (λ (s : State). s.prefix.size + length s.rest.items) c.self.view_is in
    let all : c.len.result ≡ length stream = omega (arith, count, is.kept.size, ap length is.rest, length-drop (size_of is.prefix) stream, is.inside) in
    finish-cut it stream is c.refused.result c.len.result place reason unended c.refused.ensures all

pub module_of-requires : goal.module_of-requires
module_of-requires c =
    let it = c.self.inside.state in
    let stream = c.self.invariant.0 in
    let has = c.self.invariant.1 in
    let is : IsReading it stream = subst (λ (o : Option ReadStop). Knows it stream o) c.in_default.is has.1 in
    let ended : is_ended is.prefix ≡ true = sym (c.is_ended.ensures.prefix is.prefix is.kept) ∙ c.if-not-is_ended.false in (
      it.options,
      is.prefix,
      stream,
      subst (λ (f : Prefix). IsWhole it.options f is.prefix stream) (sym c.into_prefix.ensures) (is-whole it stream is has.0 ended),
    )

pub returns-in-Ok-clause-ok : goal.returns-in-Ok-clause-ok
returns-in-Ok-clause-ok c = λ stream given_.
    let it = c.self.inside.state in
    let has = subst (λ (s : State). HasRead s stream) (sym c.self.view_is) given_ in
    let is : IsReading it stream = subst (λ (o : Option ReadStop). Knows it stream o) c.in_default.is has.1 in
    let ended : is_ended is.prefix ≡ true = sym (c.is_ended.ensures.prefix is.prefix is.kept) ∙ c.if-not-is_ended.false in
    let whole = subst (λ (f : Prefix). IsWhole it.options f is.prefix stream) (sym c.into_prefix.ensures) (is-whole it stream is has.0 ended) in
    subst (λ (s : State). IsModule s.options stream c.in-Ok.module) c.self.view_is (c.in-Ok.ensures it.options is.prefix stream whole)

pub returns-in-Ok-clause-refused : goal.returns-in-Ok-clause-refused
returns-in-Ok-clause-refused c = λ place reason stream has memory.
    let it = c.args.self in
    let going = ap (λ (s : State). s.stop) (sym c.self.view_is) ∙ c.in_default.is in
    let is : IsReading it stream = subst (λ (o : Option ReadStop). Knows it stream o) going has.1 in
    let kept = subst (λ (s : State). IsPrefixOf s.prefix is.prefix) (sym c.self.view_is) is.kept in
    let ended : is_ended is.prefix ≡ true = sym (c.is_ended.ensures.prefix is.prefix kept) ∙ c.if-not-is_ended.false in
    finish-whole it stream is c.in-Ok.module place reason ended

pub returns-in-Some-clause-module : goal.returns-in-Some-clause-module
returns-in-Some-clause-module c = λ stream m has is memory.
    finish-file c.args.self.options stream m (Err c.in-Some.stop) has.0 tt
    (λ place reason. (returns-in-Some-clause-refused c place reason stream has memory).0) is memory

pub returns-then-not-is_ended-clause-module : goal.returns-then-not-is_ended-clause-module
returns-then-not-is_ended-clause-module c = λ stream m has is memory.
    finish-file c.args.self.options stream m (Err c.refused.result) has.0 tt
    (λ place reason. (returns-then-not-is_ended-clause-refused c place reason stream has memory).0) is memory

pub returns-in-Ok-clause-module : goal.returns-in-Ok-clause-module
returns-in-Ok-clause-module c = λ stream m has is memory.
    finish-file c.args.self.options stream m (Ok c.in-Ok.module) has.0 (returns-in-Ok-clause-ok c stream has)
    (λ place reason. (returns-in-Ok-clause-refused c place reason stream has memory).0) is memory

pub returns-in-Ok-clause-weighs : goal.returns-in-Ok-clause-weighs
returns-in-Ok-clause-weighs c = λ stream has. modules_weigh c.args.self.options stream c.in-Ok.module has.0 (returns-in-Ok-clause-ok c stream has)
