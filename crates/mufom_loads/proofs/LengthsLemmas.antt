-- The product of a repeat is the sum over its copies.
use Rattle.std.proofs.Common.{◌≡◌, ℕ, zero, suc, ◌+◌, ◌*◌, List, [], ◌∷◌, refl, sym, ◌∙◌, arith}
use Rattle.std.proofs.lemmas.List.Sums.{sum_by-append, sum_by-cons}
use Rattle.mufom_loads.specs.declared.load.Item.{Item}
use Rattle.mufom_loads.specs.declared.load.Load.{Load}
use Rattle.mufom_loads.specs.declared.load.Load.TheVariants.{SetSection, SetPc, One, Repeat}
use Rattle.mufom_loads.specs.Lengths.{byte_count, lengths_of, repeated, copies_of, item_copies, length_loaded, lengths_loaded}

lengths_of-repeated : (n : ℕ) (items : List Item) → lengths_of (repeated n items) ≡ n * lengths_of items
lengths_of-repeated zero items = omega arith
lengths_of-repeated (suc n) items =
    let rest = lengths_of-repeated n items in
    let split = sum_by-append byte_count items (repeated n items) in
    grind (arith, rest, split)

lengths_of-copies_of : (load : Load) → lengths_of (copies_of load) ≡ length_loaded load
lengths_of-copies_of (SetSection section) = refl
lengths_of-copies_of (SetPc section value) = refl
lengths_of-copies_of (One item) = omega arith
lengths_of-copies_of (Repeat count items) = lengths_of-repeated count items

pub lengths_of-item_copies : (loads : List Load) → lengths_of (item_copies loads) ≡ lengths_loaded loads
lengths_of-item_copies [] = refl
lengths_of-item_copies (load ∷ loads) =
    let own = lengths_of-copies_of load in
    let rest = lengths_of-item_copies loads in
    sum_by-append byte_count (copies_of load) (item_copies loads)
    ∙ (λ i. own i + rest i)
    ∙ sym (sum_by-cons length_loaded load loads)
