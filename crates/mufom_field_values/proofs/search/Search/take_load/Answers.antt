use Rattle.std.proofs.Common.{◌≡◌, ◌∙◌, ◌++◌, true, false, sym, subst}
use Rattle.mufom_loads.specs.declared.load.Load.{Load}
use Rattle.mufom_module.specs.declared.module.Parts.{Parts}
use Rattle.mufom_meaning.specs.Values.{Setting}
use Rattle.mufom_image_values.specs.Evaluated.{alone, setting_of}
use Rattle.mufom_field_values.specs.Walk.{found_from, load_steps}
use Rattle.mufom_field_values.proofs.WalkLaws.{repeat-passes}
use Rattle.mufom_field_values.proofs.search.Search.take_load.Goals as goal

pub returns-then-not-is_own-2 : goal.returns-then-not-is_own-2
returns-then-not-is_own-2 c more =
    let s : Setting = setting_of c.args.self.now.placed.now in let m : Parts = c.args.self.now.placed.now.graph.parts.now in
    let n = c.args.self.now.section in let a = c.args.self.now.address in let start = c.args.counter.now in
    subst (λ (l : Load). found_from s n a start (load_steps (alone m) c.args.current l ++ more) ≡ found_from s n a start more) (sym c.in-Repeat.is)
    (repeat-passes s m n a start c.args.current
    (λ same. absurd (let both : true ≡ false = sym (c.is_own-in-Repeat.ensures.1 same) ∙ c.if-not-is_own-2.true in cc))
    c.in-Repeat.count c.in-Repeat.items more)
