use Rattle.std.proofs.Common.{List, ℕ, ◌++◌, map, ap, sym, ◌∙◌, append_assoc, take, Bor}
use Rattle.mufom_text.specs.Addresses.{all_seen}
use Rattle.mufom_text.specs.Image.{addresses_of, addresses_of_item}
use Rattle.mufom_text.proofs.AddressLaws.{addresses-more}
use Rattle.mufom_text.proofs.addresses.+addressing.Goals as goal

pub push_addresses-loop-item-preserved : goal.push_addresses-loop-item-preserved
push_addresses-loop-item-preserved t c =
    let names = map (λ (name : Bor (List ℕ)). name.now) c.args.names.now in
    let items = c.args.items.now in
    let i = c.loop-item.item-index in
    let item = c.item-item.result in
    let start = all_seen c.args.addresses.now.items in
    let before = addresses_of names (take i items) in
    let own = addresses_of_item names item in
    c.in_ok-push_addresses_in.ensures ∙ ap (λ all. all ++ own) c.loop-item.invariant ∙ append_assoc start before own
    ∙ ap (λ all. start ++ all) (sym (addresses-more names items i item c.loop-item-test.true c.item-item.is))
