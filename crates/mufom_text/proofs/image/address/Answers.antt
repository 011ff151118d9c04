use Rattle.std.proofs.Common.{ℕ, List, subst, ap, ◌∙◌, ◌-◌, drop}
use Rattle.mufom_text.specs.Words.{hex_bytes}
use Rattle.mufom_text.proofs.DigitLaws.{address-digits}
use Rattle.mufom_text.proofs.image.address.Goals as goal

pub returns : goal.returns
returns g c =
    let digits = ap hex_bytes (c.last_units.ensures ∙ ap (drop (8 - c.args.maus)) c.to_be_bytes.ensures)
    ∙ address-digits c.args.maus c.args.at c.requires.few in
    subst (λ (text : List ℕ). g.K.Output.takes c.args.out.now c.hex_bytes.new.out text) digits c.hex_bytes.ensures
