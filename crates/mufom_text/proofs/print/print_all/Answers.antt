use Rattle.std.proofs.Common.{rules, ◌≡◌, [], false, ap, sym, take}
use Rattle.mufom_host.specs.World.{Grows, HasCause}
use Rattle.mufom_text.proofs.Finished.{moved, all_printed}
use Rattle.mufom_text.proofs.print.print_all.Goals as goal

pub returns-clause-grows : goal.returns-clause-grows
returns-clause-grows g c =
    let first = c.new-page.result in
    let then = c.fill.new.page in
    let last = c.finish-printed.new.self in
    let nothing : take first.used first.room.items ≡ [] = ap (λ n. take n first.room.items) c.new-page.ensures.empty in
    let held_none : last.has_failed ≡ false → take last.used last.room.items ≡ [] =
    λ fine. ap (λ n. take n last.room.items) (c.finish-printed.ensures.empty fine) in
    let printed = all_printed (g.H.World.meaning first.host.now) (g.H.World.meaning then.host.now) (g.H.World.meaning last.host.now)
    (g.H.World.faults first.host.now) (g.H.World.faults then.host.now) (g.H.World.faults last.host.now)
    (take first.used first.room.items) (take then.used then.room.items) (take last.used last.room.items) (g.T.Lines.text c.args.lines.now)
    first.has_failed then.has_failed last.has_failed c.finish-printed.result
    nothing c.new-page.ensures.fine c.fill.ensures.puts c.finish-printed.ensures.puts c.finish-printed.ensures.answer held_none in
    let from_here = moved (λ h. Grows (g.H.World.meaning h).out (g.H.World.meaning last.host.now).out c.finish-printed.result
    (g.T.Lines.text c.args.lines.now)) first.host.now c.args.host.now (sym c.new-page.ensures.host) printed.grows in
    moved (λ h. Grows (g.H.World.meaning c.args.host.now).out (g.H.World.meaning h).out c.finish-printed.result (g.T.Lines.text c.args.lines.now))
    last.host.now _ (search rules) from_here

pub returns-clause-cause : goal.returns-clause-cause
returns-clause-cause g c =
    let first = c.new-page.result in
    let then = c.fill.new.page in
    let last = c.finish-printed.new.self in
    let nothing : take first.used first.room.items ≡ [] = ap (λ n. take n first.room.items) c.new-page.ensures.empty in
    let held_none : last.has_failed ≡ false → take last.used last.room.items ≡ [] =
    λ fine. ap (λ n. take n last.room.items) (c.finish-printed.ensures.empty fine) in
    let printed = all_printed (g.H.World.meaning first.host.now) (g.H.World.meaning then.host.now) (g.H.World.meaning last.host.now)
    (g.H.World.faults first.host.now) (g.H.World.faults then.host.now) (g.H.World.faults last.host.now)
    (take first.used first.room.items) (take then.used then.room.items) (take last.used last.room.items) (g.T.Lines.text c.args.lines.now)
    first.has_failed then.has_failed last.has_failed c.finish-printed.result
    nothing c.new-page.ensures.fine c.fill.ensures.puts c.finish-printed.ensures.puts c.finish-printed.ensures.answer held_none in
    let from_here = moved (λ h. HasCause (g.H.World.faults h).writes (g.H.World.faults last.host.now).writes c.finish-printed.result) first.host.now
    c.args.host.now (sym c.new-page.ensures.host) printed.cause in
    moved (λ h. HasCause (g.H.World.faults c.args.host.now).writes (g.H.World.faults h).writes c.finish-printed.result) last.host.now _ (search rules) from_here
