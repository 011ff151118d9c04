use Rattle.std.proofs.Common.{◌≡◌, ◌-◌, Some, None, cond, refl, ◌∙◌, sym, ap, arith, option_map, eq-eqb}
use Rattle.mufom_judging.specs.Prefixes.{size_of, part_among, parts_in_order, part_at}
use Rattle.mufom_judging.specs.Faults.{whole_fault, ended_fault}
use Rattle.mufom_read.specs.PartsOfCode.{as_part, as_extent}
use Rattle.mufom_read.specs.PrefixOfCode.{is_inside}
use Rattle.mufom_read.proofs.stepping.LocationMoves.{inside-whole}
use Rattle.mufom_read.proofs.prefix.Prefix.ended_fault.Goals as goal

pub returns-then-is_inside : goal.returns-then-is_inside
returns-then-is_inside c = λ prefix is.
    sym (inside-whole prefix is.ordered (sym (λ j. is_inside (is.location j) (is.size j)) ∙ sym c.is_inside.ensures ∙ c.if-is_inside.true))

pub returns-then-extent-self : goal.returns-then-extent-self
returns-then-extent-self c = λ prefix is.
    let e = c.in-Some.extent in
    let at : size_of prefix - 1 ≡ c.saturating_sub.result = omega (arith, c.saturating_sub.ensures, is.size) in
    let found : part_at prefix (size_of prefix - 1) ≡ Some (as_extent e) =
    (λ k. part_among parts_in_order (sym (c.as_slice.ensures ∙ is.offsets) k) (at k)) ∙ sym c.part_at.ensures ∙ ap (option_map as_extent) c.in-Some.is in
    c.whole_fault.ensures c.args.self.now prefix is refl refl
    ∙ sym (ap (ended_fault prefix) found ∙ ap (λ b. cond b (whole_fault (as_part e.part) prefix) None)
    (eq-eqb e.to (size_of prefix) (c.if-extent-self.true ∙ is.size)))
