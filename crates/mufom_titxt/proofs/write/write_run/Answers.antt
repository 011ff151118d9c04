use Rattle.std.proofs.Common.{◌≡◌, ◌++◌, drop, length, List, ℕ, Ok, Err, sym, ◌∙◌, ap, subst, arith}
use Rattle.mufom_host.specs.World.{WritesAll}
use Rattle.mufom_titxt.specs.Written.{byte_lines, run_text}
use Rattle.mufom_titxt.proofs.WriteLaws.{lines_part, part_written, part_failed}
use Rattle.mufom_titxt.proofs.write.write_run.Goals as goal

pub returns-in-Err-clause-bytes : goal.returns-in-Err-clause-bytes
returns-in-Err-clause-bytes g c =
    let passed : List ℕ = c.loop-rest.invariant.2.0 in
    let page : List ℕ = c.loop-rest.page in
    let rest : List ℕ = c.loop-rest.rest.now in
    let part : List ℕ = c.split_at.result.0.now in
    let after : List ℕ = c.split_at.result.1.now in
    let total : List ℕ = run_text c.args.address c.args.bytes.now in
    let old = g.K.World.meaning c.args.sink.now in
    let mid = g.K.World.meaning c.loop-rest.sink in
    let new = g.K.World.meaning c.write_all.new.sink in
    let lines : byte_lines 0 rest ≡ byte_lines 0 part ++ byte_lines 0 after = lines_part c.min.result rest c.min.ensures
    ∙ (ap (λ p. byte_lines 0 p ++ byte_lines 0 (drop c.min.result rest)) (sym c.split_at.ensures.front)
    ∙ ap (λ p. byte_lines 0 part ++ byte_lines 0 p) (sym c.split_at.ensures.back)) in
    let whole : passed ++ (page ++ (byte_lines 0 part ++ byte_lines 0 after)) ≡ total
    = ap (λ l. passed ++ (page ++ l)) (sym lines) ∙ c.loop-rest.invariant.2.2 in
    let P : List ℕ → Type 0 = λ text. WritesAll mid.making new.making (Err c.in-Err.field-0) text in
    part_failed old mid new (g.K.World.faults c.args.sink.now) (g.K.World.faults c.loop-rest.sink) (g.K.World.faults c.write_all.new.sink)
    passed page (byte_lines 0 part) (byte_lines 0 after) total whole c.loop-rest.invariant.2.1 c.in-Err.field-0
    (subst P (c.as_slice.ensures ∙ c.push_lines.ensures) c.in-Err.ensures.bytes)

pub loop-rest-preserved : goal.loop-rest-preserved
loop-rest-preserved g c =
    let passed : List ℕ = c.loop-rest.invariant.2.0 in
    let page : List ℕ = c.loop-rest.page in
    let rest : List ℕ = c.loop-rest.rest.now in
    let part : List ℕ = c.split_at.result.0.now in
    let after : List ℕ = c.split_at.result.1.now in
    let total : List ℕ = run_text c.args.address c.args.bytes.now in
    let old = g.K.World.meaning c.args.sink.now in
    let mid = g.K.World.meaning c.loop-rest.sink in
    let new = g.K.World.meaning c.write_all.new.sink in
    let lines : byte_lines 0 rest ≡ byte_lines 0 part ++ byte_lines 0 after = lines_part c.min.result rest c.min.ensures
    ∙ (ap (λ p. byte_lines 0 p ++ byte_lines 0 (drop c.min.result rest)) (sym c.split_at.ensures.front)
    ∙ ap (λ p. byte_lines 0 part ++ byte_lines 0 p) (sym c.split_at.ensures.back)) in
    let whole : passed ++ (page ++ (byte_lines 0 part ++ byte_lines 0 after)) ≡ total
    = ap (λ l. passed ++ (page ++ l)) (sym lines) ∙ c.loop-rest.invariant.2.2 in
    let P : List ℕ → Type 0 = λ text. WritesAll mid.making new.making (Ok tt) text in
    let more = part_written old mid new (g.K.World.faults c.args.sink.now) (g.K.World.faults c.loop-rest.sink) (g.K.World.faults c.write_all.new.sink)
    passed page (byte_lines 0 part) (byte_lines 0 after) total whole c.loop-rest.invariant.2.1
    (subst P (c.as_slice.ensures ∙ c.push_lines.ensures) c.in_default.ensures.bytes)
    c.in_default.ensures.stays c.in_default.ensures.cause c.in_default.ensures.counts in
    let none : length c.clear.new.self ≡ 0 = ap (length {A = ℕ}) c.clear.ensures in (
      omega (arith, none),
      λ end. c.clear.ensures,
      (
        more.0,
        more.1,
        ap (λ l. more.0 ++ (l ++ byte_lines 0 after)) c.clear.ensures ∙ more.2,
      ),
    )
