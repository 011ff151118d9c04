use Rattle.std.proofs.Common.{◌≡◌, ◌∙◌, ◌^◌, ℕ, sym, ap}
use Rattle.mufom_module.specs.declared.module.Parts.{Parts}
use Rattle.mufom_place.specs.Facts.{◌or_else◌}
use Rattle.mufom_meaning.specs.Values.{Setting}
use Rattle.mufom_image_values.specs.Evaluated.{setting_of}
use Rattle.mufom_field_values.specs.Walk.{after_item, found_from}
use Rattle.mufom_field_values.proofs.WalkLaws.{take-one}
use Rattle.mufom_field_values.proofs.search.Search.take.Goals as goal

pub returns : goal.returns
returns c more =
    let s : Setting = setting_of c.args.self.now.placed.now in let m : Parts = c.args.self.now.placed.now.graph.parts.now in
    let n = c.args.self.now.section in let a = c.args.self.now.address in
    let start = c.args.counter.now in let item = c.args.item.now in
    let here = c.field_here-found.ensures in
    let next : c.after_item.result ≡ after_item s.modulus item start = c.after_item.ensures ∙ ap (λ (w : ℕ). after_item (2 ^ w) item start) c.width.ensures.width in
    take-one s m n a start item more ∙ (λ i. sym here i or_else found_from s n a (sym next i) more)
