use Rattle.std.proofs.Common.{◌≡◌, ◌∙◌, ◌++◌, ◌-◌, ◌+◌, List, Option, Some, true, false, ℕ, sym, ap}
use Rattle.std.specs.Prelude.{is_some, option_map}
use Rattle.mufom_loads.specs.Lengths.{repeated}
use Rattle.mufom_module.specs.declared.module.Parts.{Parts}
use Rattle.mufom_meaning.specs.Steps.{Step, item_steps}
use Rattle.mufom_meaning.specs.Values.{Setting}
use Rattle.mufom_image_values.specs.Evaluated.{alone, setting_of}
use Rattle.mufom_field_values.specs.Walk.{found_from}
use Rattle.mufom_field_values.proofs.WalkLaws.{copies-next, or_else-none, or_else-some, repeated-still}
use Rattle.mufom_field_values.proofs.search.Search.take_copies.Goals as goal

pub returns-then-is_some : goal.returns-then-is_some
returns-then-is_some c more =
    let s : Setting = setting_of c.args.self.now.placed.now in let m : Parts = c.args.self.now.placed.now.graph.parts.now in
    let n = c.args.self.now.section in let a = c.args.self.now.address in
    let steps : List Step = item_steps (alone m) (Some n) c.args.items.now in
    let next = c.take_all-found.new.counter in let k : ℕ = c.args.count - (c.loop-taken.taken + 1) in
    let some : is_some c.take_all-found.result ≡ true = sym c.is_some.ensures ∙ c.if-is_some.true in
    c.loop-taken.invariant more
    ∙ copies-next s m n a c.loop-taken.counter next (option_map (λ value. value.now) c.take_all-found.result) steps c.take_all-found.ensures c.args.count
    c.loop-taken.taken c.loop-taken-test.true more
    ∙ or_else-some (λ value. value.now) c.take_all-found.result (found_from s n a next (repeated k steps ++ more)) (found_from s n a next more) some

pub returns-then-is_same : goal.returns-then-is_same
returns-then-is_same c more =
    let s : Setting = setting_of c.args.self.now.placed.now in let m : Parts = c.args.self.now.placed.now.graph.parts.now in
    let n = c.args.self.now.section in let a = c.args.self.now.address in
    let steps : List Step = item_steps (alone m) (Some n) c.args.items.now in
    let now = c.loop-taken.counter in let next = c.take_all-found.new.counter in
    let none : is_some c.take_all-found.result ≡ false = sym c.is_some.ensures ∙ c.if-is_some.false in
    let same : next ≡ now = c.is_same.ensures.0 c.if-is_same.true in
    c.loop-taken.invariant more
    ∙ repeated-still s m n a now steps (λ rest. c.take_all-found.ensures rest
    ∙ or_else-none (λ value. value.now) c.take_all-found.result (found_from s n a next rest) none ∙ ap (λ (o : Option ℕ). found_from s n a o rest) same)
    (c.args.count - c.loop-taken.taken) more
    ∙ ap (λ (o : Option ℕ). found_from s n a o more) (sym same)

pub loop-taken-preserved : goal.loop-taken-preserved
loop-taken-preserved c more =
    let s : Setting = setting_of c.args.self.now.placed.now in let m : Parts = c.args.self.now.placed.now.graph.parts.now in
    let n = c.args.self.now.section in let a = c.args.self.now.address in
    let steps : List Step = item_steps (alone m) (Some n) c.args.items.now in
    let next = c.take_all-found.new.counter in let k : ℕ = c.args.count - (c.loop-taken.taken + 1) in
    let none : is_some c.take_all-found.result ≡ false = sym c.is_some.ensures ∙ c.if-is_some.false in
    c.loop-taken.invariant more
    ∙ copies-next s m n a c.loop-taken.counter next (option_map (λ value. value.now) c.take_all-found.result) steps c.take_all-found.ensures c.args.count
    c.loop-taken.taken c.loop-taken-test.true more
    ∙ or_else-none (λ value. value.now) c.take_all-found.result (found_from s n a next (repeated k steps ++ more)) none
