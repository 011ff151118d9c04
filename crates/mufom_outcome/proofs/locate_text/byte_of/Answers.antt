use Rattle.std.proofs.Common.{◌≡◌, List, ℕ, length, sym, ap, arith}
use Rattle.std.proofs.lemmas.Bool.{ltb-false}
use Rattle.mufom_outcome.proofs.AddressLaws.{high-byte}
use Rattle.mufom_outcome.proofs.locate_text.byte_of.Goals as goal

pub returns-in-None : goal.returns-in-None
returns-in-None c =
    let size : length c.to_le_bytes.result ≡ 8 = ap (λ (l : List ℕ). length l) c.to_le_bytes.ensures in
    let past = ltb-false c.args.place (length c.to_le_bytes.result) (sym c.in-None.ensures.lookup.0) in
    high-byte c.args.number c.args.place c.ranges.number.fits (omega (arith, size, past))
