use Rattle.std.proofs.Common.{arith}
use Rattle.mufom_map.proofs.PointLaws.{used-sums}
use Rattle.mufom_map.proofs.room.Room.used.Goals as goal

pub overflow_sub-result : goal.overflow_sub-result
overflow_sub-result c =
    let self = c.args.self.now in let from = c.args.from in let to = c.args.to in
    let sums = used-sums from to c.requires.order 0 self.sections.now in
    let a = self.starts_are to in let b = self.ends_are from in let d = self.ends_are to in let e = self.starts_are from in
    let p = c.sum_above.ensures.value in let q = c.sum_above-2.ensures.value in
    let r = c.sum_above-3.ensures.value in let s = c.sum_above-4.ensures.value in
    omega (arith, sums, a, b, d, e, p, q, r, s)

pub returns : goal.returns
returns c =
    let self = c.args.self.now in let from = c.args.from in let to = c.args.to in
    let sums = used-sums from to c.requires.order 0 self.sections.now in
    let a = self.starts_are to in let b = self.ends_are from in let d = self.ends_are to in let e = self.starts_are from in
    let p = c.sum_above.ensures.value in let q = c.sum_above-2.ensures.value in
    let r = c.sum_above-3.ensures.value in let s = c.sum_above-4.ensures.value in
    omega (arith, sums, a, b, d, e, p, q, r, s)
