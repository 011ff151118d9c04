use Rattle.std.proofs.Common.{◌∙◌, ap, sym, map, Some}
use Rattle.std.specs.Prelude.{option_map}
use Rattle.toml.specs.View.{view}
use Rattle.mufom_plan.specs.Document.{list_of}
use Rattle.mufom_plan.proofs.DocumentLemmas.{list_of-items_of}
use Rattle.mufom_plan_faults.proofs.keys.items_of.Goals as goal

pub returns : goal.returns
returns c =
    let values = c.in_ok-as_array.field-0.now.items in
    rw c.in_ok-value.was (ap Some (ap (map view) c.as_slice.ensures.value ∙ sym (list_of-items_of (map view values)))
    ∙ ap (option_map list_of) c.in_ok-as_array.ensures)
