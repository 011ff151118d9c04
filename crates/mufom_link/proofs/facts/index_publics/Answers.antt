use Rattle.std.proofs.Common.{◌≡◌, ◌+◌, ◌++◌, [], ap, sym, ◌∙◌, drop, length, length-append, rules, arith}
use Rattle.std.proofs.lemmas.List.{at_drop_more, length-map}
use Rattle.mufom_names.specs.declared.name.Public.{Public}
use Rattle.mufom_names.specs.Names.{names_of}
use Rattle.mufom_module.specs.declared.module.Parts.{Parts}
use Rattle.mufom_meaning.specs.Flat.{public_names}
use Rattle.mufom_link.specs.Publics.{indexed, IsRefusedName}
use Rattle.mufom_link.proofs.PublicsLaws.{indexed-append, refused-later, refused-same}
use Rattle.mufom_link.proofs.facts.index_publics.Goals as goal

pub returns-in_err-add_publics : goal.returns-in_err-add_publics
returns-in_err-add_publics c =
    let modules = c.args.list.now in
    let i = c.loop-module.module-index in
    let m = c.module-item.result in
    let index = c.loop-module.index in
    let first = c.loop-module.first in
    let e = c.in_err-add_publics.field-0.0 in
    let own = names_of c.as_slice-publics.result.now in
    let rest = public_names (drop (i + 1) modules) in
    let names = c.as_slice-publics.ensures ∙ ap (λ (q : Parts). q.names.publics) c.parts.ensures.same in
    let left : public_names (drop i modules) ≡ own ++ rest =
    at_drop_more public_names modules i m c.loop-module-test.true
    ∙ ap (λ (q : Parts). names_of q.names.publics ++ rest) (sym c.module-item.is) ∙ ap (λ ps. names_of ps ++ rest) (sym names) in
    let same : indexed index first (own ++ rest) ≡ indexed [] 0 (public_names modules) = ap (indexed index first) (sym left) ∙ c.loop-module.invariant.0 in
    let refused : IsRefusedName [] 0 (public_names modules) e =
    refused-same index [] first 0 (own ++ rest) (public_names modules) e same (refused-later index first own rest e c.in_err-add_publics.ensures) in
    search (rules, refused)

pub loop-module-preserved : goal.loop-module-preserved
loop-module-preserved c =
    let modules = c.args.list.now in
    let i = c.loop-module.module-index in
    let m = c.module-item.result in
    let index = c.loop-module.index in
    let first = c.loop-module.first in
    let new = c.add_publics.new.index in
    let slice = c.as_slice-publics.result.now in
    let own = names_of slice in
    let rest = public_names (drop (i + 1) modules) in
    let names = c.as_slice-publics.ensures ∙ ap (λ (q : Parts). q.names.publics) c.parts.ensures.same in
    let left : public_names (drop i modules) ≡ own ++ rest =
    at_drop_more public_names modules i m c.loop-module-test.true
    ∙ ap (λ (q : Parts). names_of q.names.publics ++ rest) (sym c.module-item.is) ∙ ap (λ ps. names_of ps ++ rest) (sym names) in
    let many : length own ≡ length slice = length-map slice (λ (p : Public). p.name) in
    let whole = ap length left in
    let split = length-append own rest in (
      ap (λ k. indexed new (first + k) rest) (sym many)
          ∙ sym (indexed-append index first own rest new c.in_ok-add_publics.ensures)
          ∙ ap (indexed index first) (sym left)
          ∙ c.loop-module.invariant.0,
      omega (arith, many, whole, split, c.loop-module.invariant.1),
    )
