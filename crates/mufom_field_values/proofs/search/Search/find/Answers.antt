use Rattle.std.proofs.Common.{◌≡◌, ◌∙◌, ◌∷◌, [], ◌+◌, ℕ, List, Option, drop, true, false, sym, ap}
use Rattle.std.specs.Prelude.{is_some}
use Rattle.std.proofs.lemmas.List.{drop_all}
use Rattle.mufom_loads.specs.declared.load.Load.{Load}
use Rattle.mufom_module.specs.Contents.{current_after}
use Rattle.mufom_module.specs.declared.module.Parts.{Parts}
use Rattle.mufom_meaning.specs.Steps.{Step, steps_of}
use Rattle.mufom_meaning.specs.Values.{Setting}
use Rattle.mufom_image_values.specs.Evaluated.{alone, setting_of}
use Rattle.mufom_field_values.specs.Fields.{shown_loads}
use Rattle.mufom_field_values.specs.Walk.{found_from}
use Rattle.mufom_field_values.proofs.WalkLaws.{or_else-done, or_else-none, shown-next, shown-none, steps-next}
use Rattle.mufom_field_values.proofs.search.Search.find.Goals as goal

pub returns-then-is_some : goal.returns-then-is_some
returns-then-is_some c =
    let s : Setting = setting_of c.args.self.now.placed.now in let m : Parts = c.args.self.now.placed.now.graph.parts.now in
    let n = c.args.self.now.section in let a = c.args.self.now.address in
    let loads : List Load = c.args.loads.now in let own : List Load = c.args.own.now in let i : ℕ = c.loop-place.place in
    let load : Load = c.shown_load-load.result.now in let current = c.loop-place.current in
    let rest : List Load = shown_loads (drop (i + 1) loads) (drop (i + 1) own) in
    let next : List Step = steps_of (alone m) (current_after current load) rest in
    let split : shown_loads (drop i loads) (drop i own) ≡ load ∷ rest
    = shown-next loads own i c.index-loads-place.result c.index-own-place.result c.loop-place-test.true c.index-loads-place.is c.if-place-own.false
    c.index-own-place.is
    ∙ ap (λ (x : Load). x ∷ rest) (sym c.shown_load-load.ensures) in
    let some : is_some c.take_load-found.result ≡ true = sym c.is_some.ensures ∙ c.if-is_some.true in
    sym (c.loop-place.invariant
    ∙ ap (λ (ls : List Load). found_from s n a c.loop-place.counter (steps_of (alone m) current ls)) split
    ∙ ap (found_from s n a c.loop-place.counter) (steps-next (alone m) current load rest)
    ∙ c.take_load-found.ensures next
    ∙ or_else-done (λ value. value.now) c.take_load-found.result (found_from s n a c.take_load-found.new.counter next) some)

pub loop-place-preserved : goal.loop-place-preserved
loop-place-preserved c =
    let s : Setting = setting_of c.args.self.now.placed.now in let m : Parts = c.args.self.now.placed.now.graph.parts.now in
    let n = c.args.self.now.section in let a = c.args.self.now.address in
    let loads : List Load = c.args.loads.now in let own : List Load = c.args.own.now in let i : ℕ = c.loop-place.place in
    let load : Load = c.shown_load-load.result.now in let current = c.loop-place.current in
    let rest : List Load = shown_loads (drop (i + 1) loads) (drop (i + 1) own) in
    let next : List Step = steps_of (alone m) (current_after current load) rest in
    let split : shown_loads (drop i loads) (drop i own) ≡ load ∷ rest
    = shown-next loads own i c.index-loads-place.result c.index-own-place.result c.loop-place-test.true c.index-loads-place.is c.if-place-own.false
    c.index-own-place.is
    ∙ ap (λ (x : Load). x ∷ rest) (sym c.shown_load-load.ensures) in
    let none : is_some c.take_load-found.result ≡ false = sym c.is_some.ensures ∙ c.if-is_some.false in
    c.loop-place.invariant
    ∙ ap (λ (ls : List Load). found_from s n a c.loop-place.counter (steps_of (alone m) current ls)) split
    ∙ ap (found_from s n a c.loop-place.counter) (steps-next (alone m) current load rest)
    ∙ c.take_load-found.ensures next
    ∙ or_else-none (λ value. value.now) c.take_load-found.result (found_from s n a c.take_load-found.new.counter next) none
    ∙ ap (λ (o : Option ℕ). found_from s n a c.take_load-found.new.counter (steps_of (alone m) o rest)) (sym c.current_after-current.ensures)

-- the loads of one of the two have ended
pub returns-then-place-own : goal.returns-then-place-own
returns-then-place-own c =
    let s : Setting = setting_of c.args.self.now.placed.now in let m : Parts = c.args.self.now.placed.now.graph.parts.now in
    let loads : List Load = c.args.loads.now in let own : List Load = c.args.own.now in let i : ℕ = c.loop-place.place in
    let ended : shown_loads (drop i loads) (drop i own) ≡ []
    = ap (shown_loads (drop i loads)) (drop_all i own c.if-place-own.true) ∙ shown-none (drop i loads) in
    sym (c.loop-place.invariant
    ∙ ap (λ (ls : List Load). found_from s c.args.self.now.section c.args.self.now.address c.loop-place.counter (steps_of (alone m) c.loop-place.current ls)) ended)

pub returns : goal.returns
returns c =
    let s : Setting = setting_of c.args.self.now.placed.now in let m : Parts = c.args.self.now.placed.now.graph.parts.now in
    let loads : List Load = c.args.loads.now in let own : List Load = c.args.own.now in let i : ℕ = c.loop-place.place in
    let ended : shown_loads (drop i loads) (drop i own) ≡ [] = ap (λ (ls : List Load). shown_loads ls (drop i own)) (drop_all i loads c.loop-place-test.false) in
    sym (c.loop-place.invariant
    ∙ ap (λ (ls : List Load). found_from s c.args.self.now.section c.args.self.now.address c.loop-place.counter (steps_of (alone m) c.loop-place.current ls)) ended)
