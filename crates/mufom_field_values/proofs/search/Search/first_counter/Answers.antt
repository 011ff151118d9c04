use Rattle.std.proofs.Common.{◌≡◌, ◌∙◌, ◌^◌, ℕ, Some, None, sym, ap}
use Rattle.std.specs.Prelude.{◌%◌, option_map, slice_get}
use Rattle.mufom_meaning.specs.Values.{Setting}
use Rattle.mufom_meaning.proofs.Unfolding.{counter-none}
use Rattle.mufom_image_values.specs.Evaluated.{setting_of}
use Rattle.mufom_field_values.proofs.search.Search.first_counter.Goals as goal

pub returns-in-Some : goal.returns-in-Some
returns-in-Some c =
    let s : Setting = setting_of c.args.self.now.placed.now in let n = c.args.self.now.section in
    let base : ℕ = c.in-Some.base in
    let there : slice_get s.bases n ≡ Some base = sym c.base_at.ensures ∙ c.in-Some.is in
    let at : c.residue.result ≡ base % s.modulus = c.residue.ensures ∙ ap (λ (w : ℕ). base % 2 ^ w) c.width.ensures.width in
    ap Some at ∙ sym (counter-none s n ∙ ap (option_map (λ (b : ℕ). b % s.modulus)) there)

pub returns-in-None : goal.returns-in-None
returns-in-None c =
    let s : Setting = setting_of c.args.self.now.placed.now in let n = c.args.self.now.section in
    let there : slice_get s.bases n ≡ None = sym c.base_at.ensures ∙ c.in-None.is in
    sym (counter-none s n ∙ ap (option_map (λ (b : ℕ). b % s.modulus)) there)
