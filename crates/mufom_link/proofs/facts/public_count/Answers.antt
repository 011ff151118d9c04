use Rattle.std.proofs.Common.{◌≡◌, ◌+◌, ◌++◌, ap, sym, ◌∙◌, drop, length, length-append, arith}
use Rattle.std.proofs.lemmas.List.{at_drop_more, length-map}
use Rattle.mufom_names.specs.declared.name.Public.{Public}
use Rattle.mufom_names.specs.Names.{names_of}
use Rattle.mufom_module.specs.declared.module.Parts.{Parts}
use Rattle.mufom_meaning.specs.Flat.{public_names}
use Rattle.mufom_link.proofs.facts.public_count.Goals as goal

pub overflow_add-count : goal.overflow_add-count
overflow_add-count c =
    let modules = c.args.list.now in
    let i = c.loop-module.module-index in
    let m = c.module-item.result in
    let rest = public_names (drop (i + 1) modules) in
    let left : length (public_names (drop i modules)) ≡ length (names_of m.names.publics ++ rest) =
    at_drop_more (λ ms. length (public_names ms)) modules i m c.loop-module-test.true
    ∙ ap (λ (q : Parts). length (names_of q.names.publics ++ rest)) (sym c.module-item.is) in
    let split = length-append (names_of m.names.publics) rest in
    let many = length-map m.names.publics (λ (p : Public). p.name) in
    let own = c.len-count.ensures ∙ ap (λ (q : Parts). length q.names.publics) c.parts.ensures.same in
    omega (arith, left, split, many, own, c.loop-module.invariant, c.requires)

pub loop-module-preserved : goal.loop-module-preserved
loop-module-preserved c =
    let modules = c.args.list.now in
    let i = c.loop-module.module-index in
    let m = c.module-item.result in
    let rest = public_names (drop (i + 1) modules) in
    let left : length (public_names (drop i modules)) ≡ length (names_of m.names.publics ++ rest) =
    at_drop_more (λ ms. length (public_names ms)) modules i m c.loop-module-test.true
    ∙ ap (λ (q : Parts). length (names_of q.names.publics ++ rest)) (sym c.module-item.is) in
    let split = length-append (names_of m.names.publics) rest in
    let many = length-map m.names.publics (λ (p : Public). p.name) in
    let own = c.len-count.ensures ∙ ap (λ (q : Parts). length q.names.publics) c.parts.ensures.same in
    omega (arith, left, split, many, own, c.loop-module.invariant)
