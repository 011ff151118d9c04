use Rattle.std.proofs.Common.{◌≡◌, ◌+◌, ◌≤◌, ◌-◌, ℕ, List, arith, length, take, drop, length-drop}
use Rattle.std.proofs.Math.Seq.{take-add}
use Rattle.std.proofs.lemmas.List.{take_all}
use Rattle.mufom_host.proofs.Composing.{GrowsBy-trans}
use Rattle.mufom_host.proofs.streams.pass_on.Goals as goal

-- the bytes that are passed on are those not written yet
rest : (bytes : List ℕ) (n : ℕ) → take (length bytes - n) (drop n bytes) ≡ drop n bytes
rest bytes n = take_all (length bytes - n) (drop n bytes) (rw length-drop (omega arith))

pub loop-turn-preserved : goal.loop-turn-preserved
loop-turn-preserved g c =
    let so_far = c.loop-turn.invariant in
    let old = g.W.Write.contents c.args.writer.now in
    let mid = g.W.Write.contents c.loop-turn.writer in
    let new = g.W.Write.contents c.write_some.new.writer in
    let bytes = c.args.bytes.now in
    let written = c.loop-turn.written in
    let bound = rw rest at c.in-Ok.ensures.bound in
    let left = rw length-drop at bound in
    record {
      within = omega (arith, so_far.within, left);
      added = rw take-add (GrowsBy-trans old mid new (take written bytes) (take c.in-Ok.count (drop written bytes)) so_far.added
          (rw rest at c.in-Ok.ensures.written));
    }
