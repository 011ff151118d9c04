use Rattle.std.proofs.Common.{◌<◌, length, sym, arith}
use Rattle.std.proofs.lemmas.Option.{slice_get-get_or, slice_get_within}
use Rattle.mufom_image_values.proofs.DivisionLaws.{no-divisor}
use Rattle.mufom_image_values.proofs.Settled.{values-right}
use Rattle.mufom_image_values.proofs.values.PlacedModule.has_division.Goals as goal

pub returns-else-has_no_value : goal.returns-else-has_no_value
returns-else-has_no_value c =
    let placed = c.args.self.now in
    let values = c.args.values.now in
    let n = c.args.position in
    let p = c.args.public.now in
    let count = (values-right placed values c.requires.values).count in
    let there = slice_get_within placed.graph.parts.now.names.publics n p c.requires.there in
    let inside : n < length values = omega (arith, count, there) in
    let fails = c.if-has_no_value.false in
    sym (no-divisor placed c.requires.placed values c.requires.values n p _ c.requires.there (slice_get-get_or values n _ inside)
    (λ e. absurd (let passes = c.has_no_value.ensures.1 e in cc)))
