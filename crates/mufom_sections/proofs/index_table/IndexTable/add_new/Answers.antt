use Rattle.std.proofs.Common.{◌≡◌, ◌++◌, [], ◌∙◌, false, ap, refl, nat_eq}
use Rattle.std.specs.List.{list_any}
use Rattle.mufom_sections.proofs.TableLemmas.{lacks_both, row_grows, others_grow, one_more, others_lack, is_nothing, list_any-flipped}
use Rattle.mufom_sections.proofs.index_table.IndexTable.add_new.Goals as goal

pub invariant_of-self : goal.invariant_of-self
invariant_of-self c =
    let k = c.args.index in
    let row = c.self.inside.row in
    let others = c.self.inside.others in
    let nothing : others ≡ [] = is_nothing others c.is_empty.result c.is_empty.ensures c.if-is_empty.true in
    let absent : list_any (nat_eq k) others ≡ false = ap (list_any (nat_eq k)) nothing in
    one_more k (row ++ others) (c.in-Some.longer ++ others) (row_grows row c.in-Some.longer others k nothing c.in-Some.ensures.longer)
    (rw c.self.view_is c.requires.few) c.self.invariant.1 (lacks_both k row others (row ++ others) c.in-Some.ensures.added absent refl)

pub add-requires-clause-new : goal.add-requires-clause-new
add-requires-clause-new c =
    let lacks = list_any-flipped c.args.index c.args.self.now ∙ c.requires.new in
    others_lack c.args.index c.self.inside.row c.self.inside.others c.args.self.now lacks c.self.view_is

pub invariant_of-self-2 : goal.invariant_of-self-2
invariant_of-self-2 c =
    let k = c.args.index in
    let row = c.self.inside.row in
    let others = c.self.inside.others in
    one_more k (row ++ others) (row ++ c.add.new.self) (others_grow row c.add.new.self others k c.in_ok-place.ensures.added)
    (rw c.self.view_is c.requires.few) c.self.invariant.1 (ap (list_any (nat_eq k)) c.self.view_is ∙ list_any-flipped k c.args.self.now ∙ c.requires.new)
