use Rattle.std.proofs.Common.{◌≡◌, ◌<◌, ◌≤◌, ◌*◌, ◌∙◌, arith, ap}
use Rattle.std.specs.Prelude.{◌^◌}
use Rattle.std.proofs.Math.Nat.{mod-eq_of_lt, pow-le-pow_right}
use Rattle.std.proofs.Math.Pow.{pow-lt}
use Rattle.mufom_image_bytes.proofs.Rooms.{bytes_power}
use Rattle.mufom_image_bytes.proofs.field.field_number.Goals as goal

pub overflow_cast-result : goal.overflow_cast-result
overflow_cast-result c =
    let low : 0 < 2 = omega arith in
    let few : 8 * c.args.size ≤ 64 = omega (arith, c.requires.size) in
    let room : 2 ^ (8 * c.args.size) ≤ 2 ^ 64 = pow-le-pow_right low few in
    let less : c.args.width < 128 = omega (arith, c.requires.width) in
    let small : 2 ^ c.args.width < 2 ^ 128 = pow-lt less in
    let once : 1 * 2 ^ c.args.width ≡ 2 ^ c.args.width = omega arith in
    let modulus = ap (λ n. Prim.Native.Nat.◌%◌ n 340282366920938463463374607431768211456) once ∙ mod-eq_of_lt small in
    omega (arith, room, modulus, c.room.ensures, bytes_power c.args.size, c.requires.residue)
