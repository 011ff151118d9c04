use Rattle.std.proofs.Common.{◌≡◌, ℕ, ◌+◌, ◌-◌, ◌<◌, ◌^◌, Some, sym, ◌∙◌, ap, arith}
use Rattle.std.specs.Prelude.{slice_get}
use Rattle.std.proofs.lemmas.List.Sorted.{Contains-permutation, IsPermutation-sym}
use Rattle.mufom_meaning.proofs.Members.{In-Contains, Contains-In, In-at}
use Rattle.mufom_image_bytes.specs.Chunks.{addresses_of}
use Rattle.mufom_image_bytes.proofs.SharedLaws.{all_apart, byte_there, byte_address, double_at}
use Rattle.mufom_image_bytes.proofs.doubles.first_double.Goals as goal

pub returns-then-not-shares-clause-double : goal.returns-then-not-shares-clause-double
returns-then-not-shares-clause-double c = λ loaded h.
    all_apart loaded c.args.chunks.now c.args.count h.0 h.1 (sym c.shares.ensures ∙ c.if-not-shares.true)

pub returns-clause-double : goal.returns-clause-double
returns-clause-double c = λ loaded h.
    let permuted = h.0 in
    let tiles = h.1 in
    let below = h.2 in
    let chunks = c.args.chunks.now in
    let number = c.first_shared-number.result in
    let within = c.first_shared-number.ensures.within in
    let there = byte_there 0 c.args.count loaded tiles number (omega arith) within in
    let found = c.address_of.ensures there.0 (Contains-permutation loaded chunks there.0 permuted (In-Contains there.0 loaded there.1)) there.2 in
    let member = Contains-In found.0 loaded (Contains-permutation chunks loaded found.0 (IsPermutation-sym loaded chunks permuted) found.1) in
    let at = byte_address 0 c.args.count loaded tiles found.0 member number found.2 in
    let a : ℕ = found.0.address + (number - found.0.start) in
    let here : number - 0 ≡ number = omega arith in
    let place : slice_get (addresses_of loaded) number ≡ Some a = ap (slice_get (addresses_of loaded)) (sym here) ∙ at in
    let low : a < 2 ^ 64 = below a (In-Contains a (addresses_of loaded) (In-at a (addresses_of loaded) number place)) in
    let same = found.3 low in
    double_at loaded chunks c.args.count permuted tiles number c.address_of.result c.requires c.first_shared-number.ensures.before
    c.first_shared-number.ensures.shares
    (place ∙ ap Some (sym same))
