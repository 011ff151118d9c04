use Rattle.std.proofs.Common.{◌≡◌, ◌-◌, ℕ, List, length, take, drop, arith, length-drop}
use Rattle.std.proofs.Math.Seq.{take-add}
use Rattle.std.proofs.lemmas.List.{take_all, take-append-drop}
use Rattle.mufom_host.proofs.Composing.{later-Rose, MakingGrowsByPrefix-trans, KeepsAllButMaking-trans, KeepsAllButWrites-trans}
use Rattle.mufom_host.proofs.Spanning.{AfterWrites-write}
use Rattle.mufom_host.proofs.world.write_all.Goals as goal

-- the chunk that is passed on is what is not written yet
rest : (bytes : List ℕ) (n : ℕ) → take (length bytes - n) (drop n bytes) ≡ drop n bytes
rest bytes n = take_all (length bytes - n) (drop n bytes) (rw length-drop (omega arith))

pub loop-written-preserved : goal.loop-written-preserved
loop-written-preserved g c =
    let written = c.loop-written.written in
    let bytes = c.args.bytes.now in
    let bound = rw rest at c.in-Ok.ensures.bound in
    let left = rw length-drop at bound in (
      omega (arith, left, c.loop-written-test.true),
      rw take-add (AfterWrites-write _ _ _ _ _ _ (take written bytes) c.in-Ok.count (drop written bytes) c.loop-written.invariant.1
          (rw rest at c.in-Ok.ensures.bytes) c.in-Ok.ensures.stays c.in-Ok.ensures.cause c.in-Ok.ensures.counts),
    )

pub returns-in-Err : goal.returns-in-Err
returns-in-Err g c =
    let written = c.loop-written.written in
    let bytes = c.args.bytes.now in
    let so_far = c.loop-written.invariant.1 in
    let old = g.S.World.meaning c.args.sink.now in
    let mid = g.S.World.meaning c.loop-written.sink in
    let new = g.S.World.meaning c.write.new.self in
    let before = g.S.World.faults c.args.sink.now in
    let between = g.S.World.faults c.loop-written.sink in
    let now = g.S.World.faults c.write.new.self in
    record {
      bytes = rw take-append-drop at (MakingGrowsByPrefix-trans old.making mid.making new.making (take written bytes) (drop written bytes)
          so_far.added (rw rest at c.in-Err.ensures.bytes));
      stays = KeepsAllButMaking-trans old mid new so_far.stays c.in-Err.ensures.stays;
      cause = record {
        later = omega (arith, so_far.later, c.in-Err.ensures.cause.later);
        failed =
            later-Rose before.writes between.writes now.writes so_far.later c.in-Err.ensures.cause.failed;
      };
      counts = KeepsAllButWrites-trans before between now so_far.counts c.in-Err.ensures.counts;
    }
