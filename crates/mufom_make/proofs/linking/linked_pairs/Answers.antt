use Rattle.std.proofs.Common.{◌≡◌, ℕ, ◌-◌, ◌<◌, ◌≤◌, ◌++◌, List, sym, ap, subst, arith}
use Rattle.mufom_module.specs.declared.module.Parts.{Parts}
use Rattle.mufom_meaning.specs.Staging.{IsStaged, unlinked}
use Rattle.mufom_meaning.specs.StagingLaws.{total_weight}
use Rattle.mufom_make.specs.Generated.{made_modules, modules_from}
use Rattle.mufom_make.proofs.LinkLaws.{one-pair, pair-light, pair-some}
use Rattle.mufom_make.proofs.linking.linked_pairs.Goals as goal

pub loop-first-init : goal.loop-first-init
loop-first-init c =
    let none = c.in_ok-pairs.ensures.items in
    let all : c.args.count - 0 ≡ c.args.count = omega arith in
    let weighs = ap total_weight none in
    record {
      within = omega arith;
      some = λ past. absurd (omega (arith, past));
      staged = subst (λ (ms : List Parts). IsStaged (ms ++ modules_from c.args.count (c.args.count - 0) 0) (made_modules c.args.count)) (sym none)
          (subst (λ (k : ℕ). IsStaged (modules_from c.args.count k 0) (made_modules c.args.count)) (sym all) (unlinked (made_modules c.args.count)));
      light = omega (arith, weighs);
    }

pub loop-first-preserved : goal.loop-first-preserved
loop-first-preserved c =
    let count = c.args.count in
    let first = c.loop-first.first in
    let end = c.min-end.result in
    let pairs = c.loop-first.pairs.items in
    let more = c.push.new.self.items in
    let M = c.in_ok-linked_between.field-0 in
    let least = c.min-end.ensures in
    let past = c.loop-first-test.true in
    let less : first < end = omega (arith, least, past) in
    let within : end ≤ count = omega (arith, least) in
    let pushed = c.in_ok-push.ensures.items in
    let link = c.in_ok-linked_between.ensures in
    record {
      within = within;
      some = λ _. pair-some pairs more M pushed;
      staged = one-pair count first end pairs more M less within c.requires.few pushed link c.loop-first.invariant.staged;
      light = pair-light count first end pairs more M less pushed link c.loop-first.invariant.light;
    }
