use Rattle.std.proofs.Common.{◌≡◌, ◌∷◌, ℕ, List, ap, sym, subst, ◌∙◌, arith}
use Rattle.mufom_build_text.specs.Reads.{IsNameFront}
use Rattle.mufom_build_text.proofs.Fronts.{name_more}
use Rattle.mufom_build_text.proofs.Lists.{empty}
use Rattle.mufom_build_text.proofs.Names.{all_name_left, name_begun, less_name_left, name_ended, no_name_left, no_text_left}
use Rattle.mufom_build_text.proofs.spelled.split_name.Goals as goal

pub loop-first-init : goal.loop-first-init
loop-first-init c = record {
  front = name_begun c.new-name.result.items c.args.text.now c.new-name.ensures.items;
  left = all_name_left c.new-name.result.items c.args.text.now c.new-name.ensures.items;
  within = omega arith;
}

pub loop-first-preserved : goal.loop-first-preserved
loop-first-preserved c =
    let (front, is, spelled) = c.in-Some-split_name_byte.ensures.front in
    record {
      front = subst (λ (bytes : List ℕ). IsNameFront bytes c.args.text.now c.in-Some-split_name_byte.next.now) (sym c.in_ok-push.ensures.items)
          (name_more c.loop-first.name.items c.in-Some-split_name_byte.byte _ c.loop-first.rest.now _ front c.loop-first.invariant.front is spelled);
      left = less_name_left c.loop-first.name.items _ c.in-Some-split_name_byte.byte c.in-Some.first.now c.args.text.now c.loop-first.rest.now
          c.in-Some.after.now c.in-Some-split_name_byte.next.now c.loop-first.invariant.left c.in_ok-push.ensures.items
          c.in-Some.ensures.cases.0 c.if-first-eq34.false (front, is, spelled);
      within = omega (arith, c.in-Some-split_name_byte.ensures.within);
    }

pub returns-then-first-eq34-clause-takes : goal.returns-then-first-eq34-clause-takes
returns-then-first-eq34-clause-takes c = λ bytes inside rest is spelled.
    name_ended c.loop-first.name.items bytes c.args.text.now c.loop-first.rest.now c.in-Some.after.now inside rest c.loop-first.invariant.left
    (c.in-Some.ensures.cases.0 ∙ ap (λ b. b ∷ c.in-Some.after.now) c.if-first-eq34.true) is spelled

pub returns-in_default-split_name_byte-clause-takes : goal.returns-in_default-split_name_byte-clause-takes
returns-in_default-split_name_byte-clause-takes c = λ bytes inside rest is spelled.
    no_name_left c.loop-first.name.items bytes c.args.text.now c.loop-first.rest.now inside rest c.loop-first.invariant.left
    (λ after e. let both : c.in-Some.first.now ∷ c.in-Some.after.now ≡ 0x22 ∷ after = sym c.in-Some.ensures.cases.0 ∙ e in
    c.if-first-eq34.false cc)
    (λ b front after e here. c.in_default-split_name_byte.ensures.takes b front after e here) is spelled

pub returns-clause-takes : goal.returns-clause-takes
returns-clause-takes c = λ bytes inside rest is spelled.
    no_text_left c.loop-first.name.items bytes c.args.text.now c.loop-first.rest.now inside rest c.loop-first.invariant.left
    (empty c.loop-first.rest.now c.in_default.ensures.cases) is spelled
