use Rattle.std.proofs.Common.{◌++◌, codes, sym, ap, ◌∙◌}
use Rattle.std.specs.Fmt.{decimal}
use Rattle.mufom_text.specs.Image.{address}
use Rattle.mufom_text.specs.Show.{kind_text}
use Rattle.mufom_text.specs.Words.{Text}
use Rattle.mufom_outcome.specs.Complaint.{locate_text}
use Rattle.mufom_outcome.proofs.AddressLaws.{both-added, on-ok-along, overflow-added, two-chunks}
use Rattle.mufom_outcome.proofs.locate_text.push_locate.Goals as goal

pub returns-in_ok-push_number-in-LoadOutside : goal.returns-in_ok-push_number-in-LoadOutside
returns-in_ok-push_number-in-LoadOutside c =
    let section = decimal c.in-LoadOutside.section in let at = address c.args.maus c.in-LoadOutside.address in
    on-ok-along c.push_at-in-LoadOutside.result _ _
    (λ is. both-added c.args.text.now.items c.push_number-in-LoadOutside.new.text.items c.push_at-in-LoadOutside.new.text.items
    (codes "LoadOutside section " ++ section) (codes " at " ++ at) (locate_text c.args.maus c.args.refusal.now)
    c.in_ok-push_number-in-LoadOutside.ensures is (ap (locate_text c.args.maus) c.in-LoadOutside.is
    ∙ two-chunks (codes "LoadOutside section ") section (codes " at ") at))
    c.push_at-in-LoadOutside.ensures

pub returns-in_ok-push_number-in-Overflow-2 : goal.returns-in_ok-push_number-in-Overflow-2
returns-in_ok-push_number-in-Overflow-2 c =
    let maus = c.args.maus in let old = c.args.text.now.items in
    let t3 = c.push.new.self.items in let t4 = c.extend_from_slice-in-Overflow.new.self.items in
    let kind = c.in_ok-extend_from_slice-in-Overflow.ensures.items ∙ ap (λ (t : Text). t3 ++ t) (c.as_bytes.ensures.value ∙ c.kind_name.ensures) in
    let size = c.in_ok-push_number-in-Overflow-2.ensures ∙ ap (λ n. t4 ++ (codes " " ++ decimal n)) c.from.ensures in
    on-ok-along c.push_at-in-Overflow.result _ _
    (λ is. overflow-added old c.push_number.new.text.items c.push_at.new.text.items t3 t4 c.push_number-in-Overflow.new.text.items
    c.push_at-in-Overflow.new.text.items
    (decimal c.in-Overflow.section) (address maus c.in-Overflow.address) (kind_text c.in-Overflow.kind) (decimal c.in-Overflow.size)
    (address maus c.in-Overflow.value)
    c.in_ok-push_number-in-Overflow.ensures c.in_ok-push_at-in-Overflow.ensures c.in_ok-push-in-Overflow.ensures.items kind size is
    ∙ ap (λ (t : Text). old ++ t) (sym (ap (locate_text maus) c.in-Overflow.is)))
    c.push_at-in-Overflow.ensures
