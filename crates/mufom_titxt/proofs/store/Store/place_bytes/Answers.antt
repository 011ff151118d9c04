use Rattle.std.proofs.Common.{◌≡◌, ◌+◌, ◌≤◌, ◌++◌, ℕ, length, Option, Some, None, is_some, false, sym, ◌∙◌, ap, arith, refl}
use Rattle.mufom_image_bytes.specs.Loaded.{loaded_cells}
use Rattle.mufom_titxt.specs.Reading.{open_cells, hits_after}
use Rattle.mufom_titxt.proofs.ShortLaws.{open_cells-whole, open_fault-none, unwatched}
use Rattle.mufom_titxt.proofs.store.Store.place_bytes.Goals as goal

-- no address is watched
no_address : (o : Option ℕ) → is_some o ≡ false → o ≡ None
no_address None h = refl
no_address (Some a) h = absurd (cc h)

pub returns-clause-cells : goal.returns-clause-cells
returns-clause-cells c =
    let within : c.args.from + length c.args.bytes.now ≤ c.args.modulus = omega (arith, c.if-from-modulus.false, c.if-modulus-from.false) in
    c.in_ok-add.ensures.cells ∙ ap (λ cells. loaded_cells c.args.self.now.loaded ++ cells)
    (sym (open_cells-whole c.args.modulus c.args.from c.args.bytes.now within))

pub returns-clause-hits : goal.returns-clause-hits
returns-clause-hits c =
    let none = no_address c.args.self.now.watched (sym c.is_some.ensures ∙ c.if-is_some.false) in
    sym (ap (λ w. hits_after w c.args.self.now.hits (open_cells c.args.modulus c.args.from c.args.bytes.now)) none
    ∙ unwatched c.args.self.now.hits (open_cells c.args.modulus c.args.from c.args.bytes.now))

pub returns-clause-fault : goal.returns-clause-fault
returns-clause-fault c =
    let within : c.args.from + length c.args.bytes.now ≤ c.args.modulus = omega (arith, c.if-from-modulus.false, c.if-modulus-from.false) in
    sym (open_fault-none c.args.modulus c.args.from c.args.bytes.now within)
