use Rattle.std.proofs.Common.{List, ℕ, ◌++◌, map, ap, sym, ◌∙◌, append_assoc, take, Bor}
use Rattle.mufom_debug.specs.Marks.{marks_of, marks_of_item}
use Rattle.mufom_text.specs.Image.{names_of}
use Rattle.mufom_text.proofs.AddressLaws.{names-more}
use Rattle.mufom_text.proofs.addresses.+naming.Goals as goal

pub push_names-loop-item-preserved : goal.push_names-loop-item-preserved
push_names-loop-item-preserved t c =
    let items = c.args.items.now in
    let i = c.loop-item.item-index in
    let item = c.item-item.result in
    let start = map (λ (name : Bor (List ℕ)). name.now) c.args.names.now.items in
    let before = names_of (marks_of (take i items)) in
    let own = names_of (marks_of_item item) in
    c.in_ok-push_names_in.ensures ∙ ap (λ all. all ++ own) c.loop-item.invariant ∙ append_assoc start before own
    ∙ ap (λ all. start ++ all) (sym (names-more items i item c.loop-item-test.true c.item-item.is))
