use Rattle.std.proofs.Common.{◌≡◌, ◌<◌, ◌*◌, ◌∙◌, arith, ap}
use Rattle.std.specs.Prelude.{◌^◌}
use Rattle.std.proofs.Math.Nat.{mod-eq_of_lt}
use Rattle.std.proofs.Math.Pow.{pow-lt}
use Rattle.mufom_image_bytes.proofs.Rooms.{bytes_power}
use Rattle.mufom_image_bytes.proofs.field.room.Goals as goal

pub returns : goal.returns
returns c =
    let few : 8 * c.args.size < 128 = omega (arith, c.requires) in
    let less : 2 ^ (8 * c.args.size) < 2 ^ 128 = pow-lt few in
    let once : 1 * 2 ^ (8 * c.args.size) ≡ 2 ^ (8 * c.args.size) = omega arith in
    ap (λ n. Prim.Native.Nat.◌%◌ n 340282366920938463463374607431768211456) once ∙ mod-eq_of_lt less ∙ bytes_power c.args.size
