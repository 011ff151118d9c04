use Rattle.std.proofs.Common.{◌≡◌, ◌+◌, ◌++◌, ap, sym, ◌∙◌, length, length-append, drop, arith}
use Rattle.std.specs.Prelude.{option_to_list}
use Rattle.std.proofs.lemmas.List.{at_drop_more}
use Rattle.mufom_module.specs.declared.module.Parts.{Parts}
use Rattle.mufom_meaning.specs.Flat.{flat_starts}
use Rattle.mufom_link.proofs.facts.start_count.Goals as goal

pub loop-module-preserved : goal.loop-module-preserved
loop-module-preserved c =
    let xs = c.args.list.now in
    let i = c.loop-module.module-index in
    let x = c.module-item.result in
    let rest = flat_starts (drop (i + 1) xs) in
    let next : length (flat_starts (drop i xs)) ≡ length (option_to_list x.start ++ rest) =
    at_drop_more (λ ms. length (flat_starts ms)) xs i x c.loop-module-test.true
    ∙ ap (λ (m : Parts). length (option_to_list m.start ++ rest)) (sym c.module-item.is) in
    let split = length-append (option_to_list x.start) rest in
    let own = c.own_starts-count.ensures.value in
    let few = c.own_starts-count.ensures.few in
    (omega (arith, next, split, own, c.loop-module.invariant.0), omega (arith, few, c.loop-module.invariant.1))
