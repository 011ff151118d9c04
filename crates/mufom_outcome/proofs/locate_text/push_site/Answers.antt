use Rattle.std.proofs.Common.{◌++◌, codes, ap, ◌∙◌}
use Rattle.std.specs.Fmt.{decimal}
use Rattle.mufom_text.specs.Image.{address}
use Rattle.mufom_outcome.specs.Complaint.{site_text}
use Rattle.mufom_outcome.proofs.AddressLaws.{both-added, on-ok-along, two-chunks}
use Rattle.mufom_outcome.proofs.locate_text.push_site.Goals as goal

pub returns-in_ok-push_at-in-Field : goal.returns-in_ok-push_at-in-Field
returns-in_ok-push_at-in-Field c =
    let at = address c.args.maus c.in-Field.address in let section = decimal c.in-Field.section in
    on-ok-along c.push_number-in-Field.result _ _
    (λ is. both-added c.args.text.now.items c.push_at.new.text.items c.push_number-in-Field.new.text.items (codes "field at "
    ++ at) (codes " in section " ++ section) (site_text c.args.maus c.args.site.now)
    c.in_ok-push_at-in-Field.ensures is (ap (site_text c.args.maus) c.in-Field.is ∙ two-chunks (codes "field at ") at (codes " in section ") section))
    c.push_number-in-Field.ensures
