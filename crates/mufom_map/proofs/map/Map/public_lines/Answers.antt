use Rattle.std.proofs.Common.{◌≡◌, ◌≤◌, ℕ, List, [], length, get_or, map, refl, sym, ap, subst, ◌∙◌, arith}
use Rattle.std.specs.Prelude.{option_map}
use Rattle.mufom_meaning.specs.declared.located.PublicValue.{PublicValue}
use Rattle.mufom_origins.specs.declared.origins.Origin.{Origin}
use Rattle.mufom_origins.specs.declared.origins.Place.{Place}
use Rattle.mufom_text.proofs.Loops.{flat-step, flat-end}
use Rattle.mufom_map.specs.Mapped.{MappedPublic, mapped_public}
use Rattle.mufom_origins.specs.Places.{module_in}
use Rattle.mufom_map.specs.MapText.{public_line}
use Rattle.mufom_map.proofs.OrderedLaws.{element-at, inside, key-at, long, made-in-order, number-inside, ordered}
use Rattle.mufom_map.proofs.map.Map.public_lines.Goals as goal

abbrev key : ℕ × PublicValue → ℕ
key p = p.1.value

abbrev none : ℕ × PublicValue
none = (0, record { name = []; value = 0; notes = [] })

pub bounds-publics-position : goal.bounds-publics-position
bounds-publics-position g c =
    let self = c.args.self.now in let publics = self.entries.publics.now in let i = c.loop-position.position-index in
    let items = c.as_slice-position-items.result.now in
    let are = c.as_slice-position-items.ensures.value ∙ self.publics_ordered in
    let within = number-inside key publics items are i c.loop-position-test.true none in
    let number = ap (λ (k : ℕ × ℕ). k.1) (key-at key publics items are i c.loop-position-test.true none (0, 0)) in
    omega (arith, within, number)

pub loop-position-preserved : goal.loop-position-preserved
loop-position-preserved g c =
    let self = c.args.self.now in let publics = self.entries.publics.now in let i = c.loop-position.position-index in
    let origins = self.entries.origins.now in
    let items = c.as_slice-position-items.result.now in
    let are = c.as_slice-position-items.ensures.value ∙ self.publics_ordered in
    let less = c.loop-position-test.true in
    let all = ordered key publics in
    let its = get_or all i none in
    let number = ap (λ (k : ℕ × ℕ). k.1) (key-at key publics items are i less none (0, 0)) in
    let public = c.index-publics-position.is ∙ ap (λ (k : ℕ). get_or publics k c.index-publics-position.result) number
    ∙ element-at key publics items are i less none c.index-publics-position.result in
    let counts = map (λ (o : Origin). o.publics) origins in
    let origin = c.module_of-origin.ensures ∙ ap (option_map (λ (p : Place). p.«module»)) c.public.ensures ∙ ap (module_in counts) number in
    let row : ◌≡◌ {A = MappedPublic} _ (mapped_public origins its) = λ j. record {
      name = (public j).name;
      value = (public j).value;
      origin = origin j;
    } in
    let line = subst (λ (r : MappedPublic). g.K.Output.takes c.loop-position.out c.public_line.new.out (public_line self.entries.maus r)) row c.public_line.ensures in
    flat-step g.K.Output.takes g.met.K.Output.joins (λ p. public_line self.entries.maus (mapped_public origins p)) all i none its _ _ _
    (inside key publics items are i less none) refl c.loop-position.invariant line

pub returns : goal.returns
returns g c =
    let self = c.args.self.now in let publics = self.entries.publics.now in let i = c.loop-position.position-index in
    let origins = self.entries.origins.now in
    let items = c.as_slice-position-items.result.now in
    let are = c.as_slice-position-items.ensures.value ∙ self.publics_ordered in
    let all = ordered key publics in
    let past : length all ≤ i = let count = long key publics items are in let end = c.loop-position-test.false in omega (arith, count, end) in
    let so_far = flat-end g.K.Output.takes g.met.K.Output.joins (λ p. public_line self.entries.maus (mapped_public origins p)) all i _ _ past
    c.loop-position.invariant in
    let text = made-in-order key publics (λ (p : MappedPublic). p.value) (mapped_public origins) (public_line self.entries.maus) in
    subst (λ (t : List ℕ). g.K.Output.takes c.args.out.now c.loop-position.out t) (sym text) so_far
