use Rattle.std.proofs.Common.{sym, subst, ◌∙◌, false}
use Rattle.std.specs.Prelude.{All, slice_index_or}
use Rattle.std.proofs.lemmas.List.Elements.{All-filter}
use Rattle.mufom_place.specs.declared.placing.Placing.{Placing}
use Rattle.mufom_place.specs.Packing.{IsLow}
use Rattle.mufom_place.proofs.copied.region_copies.Goals as goal

pub filled_to-requires : goal.filled_to-requires
filled_to-requires c =
    let has = λ (p : Placing). slice_index_or c.args.has_bytes.now p.section false in
    let low = subst (All IsLow) (sym c.as_slice.ensures) c.in_ok-placings.ensures.low in
    record { low = subst (All IsLow) (sym (c.as_slice-2.ensures ∙ c.in_ok-loaded.ensures)) (All-filter has IsLow c.as_slice.result.now low) }
