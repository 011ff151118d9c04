use Rattle.std.proofs.Common.{refl}
use Rattle.mufom_origins.specs.Origins.{modules_of, origins_of}
use Rattle.mufom_planned.specs.Layout.{whole_list}
use Rattle.mufom_map.specs.MapText.{extent_of}
use Rattle.mufom_map.specs.Mapped.{MappedSection, mapped, planned_layout}
use Rattle.mufom_map.proofs.OrderLaws.{by_key-in_order, rising-sections}
use Rattle.mufom_map.proofs.laws.sections_are_in_order.Goals as goal

pub returns : goal.returns
returns c files plan r =
    let l = planned_layout (modules_of files) plan in
    by_key-in_order (λ (s : MappedSection). s.base) extent_of (λ s. refl) (mapped files plan r).sections
    (rising-sections (origins_of files) l 0 (whole_list l))
