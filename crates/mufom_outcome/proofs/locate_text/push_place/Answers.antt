use Rattle.std.proofs.Common.{◌++◌, codes, ap, ◌∙◌}
use Rattle.std.specs.Fmt.{decimal}
use Rattle.mufom_outcome.specs.Complaint.{place_text}
use Rattle.mufom_outcome.proofs.AddressLaws.{both-added, on-ok-along, two-chunks}
use Rattle.mufom_outcome.proofs.locate_text.push_place.Goals as goal

pub returns-in_ok-push_number-in-Overlap : goal.returns-in_ok-push_number-in-Overlap
returns-in_ok-push_number-in-Overlap c =
    let first = decimal c.in-Overlap.first in let other = decimal c.in-Overlap.other in
    on-ok-along c.push_number-in-Overlap-2.result _ _
    (λ is. both-added c.args.text.now.items c.push_number-in-Overlap.new.text.items c.push_number-in-Overlap-2.new.text.items
    (codes "Overlap section " ++ first) (codes " section " ++ other) (place_text c.args.refusal)
    c.in_ok-push_number-in-Overlap.ensures is (ap place_text c.in-Overlap.is ∙ two-chunks (codes "Overlap section ") first (codes " section ") other))
    c.push_number-in-Overlap-2.ensures
