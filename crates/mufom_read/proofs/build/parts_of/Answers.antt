use Rattle.std.proofs.Common.{refl}
use Rattle.mufom_read.proofs.ended.Built.{header-whole, the-parts}
use Rattle.mufom_read.proofs.build.parts_of.Goals as goal

pub whole_header-names-requires : goal.whole_header-names-requires
whole_header-names-requires c =
    let m = c.requires.0 in
    (record { processor = m.processor; name = m.name }, record { maus = m.maus; order = m.order }, header-whole c.args.prefix m c.requires.1)

pub returns : goal.returns
returns c = λ m stated.
    the-parts c.args.prefix m _ c.whole_header-names.result.0 c.whole_header-names.result.1 stated c.whole_header-names.ensures refl refl refl refl
    c.from_vec.ensures c.from_vec-2.ensures c.into_list-sections.ensures
    c.into_placed-publics.ensures c.from_vec-3.ensures c.into_items-items.ensures c.in_ok-loads.ensures refl
