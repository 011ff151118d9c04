-- The bytes that items load are at most their weight.
use Rattle.std.proofs.Common.{◌≡◌, ℕ, ◌≤◌, ◌==◌, Bool, true, false, ◌||◌, List, [], ◌∷◌, sum_by, refl, arith, rules}
use Rattle.std.specs.Prelude.{nat_lt}
use Rattle.std.specs.List.{list_any}
use Rattle.std.proofs.lemmas.List.Sums.{sum_by-cons}
use Rattle.mufom_loads.specs.declared.load.Item.{Item}
use Rattle.mufom_loads.specs.declared.load.Item.TheVariants.{Literal, Field}
use Rattle.mufom_loads.specs.declared.load.Load.{Load}
use Rattle.mufom_loads.specs.declared.load.Load.TheVariants.{SetSection, SetPc, One, Repeat}
use Rattle.mufom_loads.specs.Lengths.{byte_count, lengths_of, length_once, lengths_once}
use Rattle.mufom_module.specs.declared.module.Parts.{Parts}
use Rattle.mufom_module.specs.Contents.{any_item}
use Rattle.mufom_module.specs.Defects.{has_bad_size, IsValid}
use Rattle.mufom_module.specs.Written.{weight}
use Rattle.mufom_module.specs.Weights.{item_weight, items_weight, load_weight}
use Rattle.mufom_module.proofs.Valid.{fields_fit}
use Rattle.mufom_module.proofs.WeightLaws.{weight-sum}

neither : (a b : Bool) → (a || b) ≡ false → (a ≡ false) × (b ≡ false)
neither true b h = absurd cc
neither false b h = (refl, h)

at_most : (n : ℕ) → nat_lt 8 n ≡ false → n ≤ 8
at_most n h = search rules

item-weight : (item : Item) → has_bad_size item ≡ false → byte_count item ≤ item_weight item
item-weight (Literal bytes) h = omega arith
item-weight (Field kind size value) h = let few = at_most size (neither (size == 0) (nat_lt 8 size) h).1 in omega (arith, few)

items-weight : (items : List Item) → list_any has_bad_size items ≡ false → lengths_of items ≤ items_weight items
items-weight [] h = omega arith
items-weight (item ∷ items) h =
    let both = neither (has_bad_size item) (list_any has_bad_size items) h in
    let first = item-weight item both.0 in let rest = items-weight items both.1 in
    let lengths = sum_by-cons byte_count item items in let weights = sum_by-cons item_weight item items in
    omega (arith, first, rest, lengths, weights)

load-weight : (load : Load) → any_item has_bad_size load ≡ false → length_once load ≤ load_weight load
load-weight (SetSection section) h = omega arith
load-weight (SetPc section value) h = omega arith
load-weight (One item) h = let own = item-weight item h in omega (arith, own)
load-weight (Repeat count items) h = let own = items-weight items h in omega (arith, own)

loads-weight : (loads : List Load) → list_any (any_item has_bad_size) loads ≡ false → lengths_once loads ≤ sum_by load_weight loads
loads-weight [] h = omega arith
loads-weight (load ∷ loads) h =
    let both = neither (any_item has_bad_size load) (list_any (any_item has_bad_size) loads) h in
    let first = load-weight load both.0 in let rest = loads-weight loads both.1 in
    let lengths = sum_by-cons length_once load loads in let weights = sum_by-cons load_weight load loads in
    omega (arith, first, rest, lengths, weights)

pub items_within_the_weight : (m : Parts) → IsValid m → lengths_once m.loads ≤ weight m
items_within_the_weight m valid =
    let own = loads-weight m.loads (fields_fit m valid) in
    let whole = weight-sum m in
    omega (arith, own, whole)
