use Rattle.std.proofs.Common.{◌≡◌, ◌++◌, map, take}
use Rattle.mufom_text.specs.Addresses.{all_seen}
use Rattle.mufom_text.specs.Image.{addresses_of}
use Rattle.mufom_text.proofs.addresses.+addressing.Given as goal

abbrev pub invariant-push_addresses-loop-item : goal.invariant-push_addresses-loop-item
invariant-push_addresses-loop-item l = all_seen l.addresses.items ≡ all_seen l.fn.addresses.items
    ++ addresses_of (map (λ name. name.now) l.names) (take l.item-index l.items)
