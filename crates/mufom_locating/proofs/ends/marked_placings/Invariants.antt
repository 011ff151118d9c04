use Rattle.std.proofs.Common.{◌≡◌, take, false}
use Rattle.std.specs.Prelude.{filter, slice_index_or}
use Rattle.mufom_place.specs.declared.placing.Placing.{Placing}
use Rattle.mufom_locating.proofs.ends.marked_placings.Given as goal

abbrev pub invariant-loop-placing : goal.invariant-loop-placing
invariant-loop-placing l = l.list ≡ filter (λ (p : Placing). slice_index_or l.marks p.section false) (take l.placing-index l.placings)
