use Rattle.std.proofs.Common.{◌≤◌, ℕ, List, [], length, get_or, None, false, refl, ap, subst, sym, ◌∙◌, arith}
use Rattle.mufom_sections.specs.declared.section.Section.{Section}
use Rattle.mufom_text.proofs.Loops.{flat-step, flat-end}
use Rattle.mufom_map.specs.Mapped.{MappedSection}
use Rattle.mufom_map.specs.MapText.{section_line}
use Rattle.mufom_map.specs.Shown.{base_of, shown_section}
use Rattle.mufom_map.proofs.OrderedLaws.{element-at, inside, key-at, long, made-in-order, number-inside, ordered}
use Rattle.mufom_map.proofs.map.Map.section_lines.Goals as goal

abbrev key : ℕ × Section → ℕ
key s = base_of s.1

abbrev none : ℕ × Section
none = (0, record { name = []; absolute = false; purpose = None; size = 0; align = 0; base = None })

pub bounds-sections-number : goal.bounds-sections-number
bounds-sections-number g c =
    let self = c.args.self.now in let sections = self.entries.sections.now in let i = c.loop-number.number-index in
    let items = c.as_slice-number-items.result.now in
    let are = c.as_slice-number-items.ensures.value ∙ self.sections_ordered in
    let within = number-inside key sections items are i c.loop-number-test.true none in
    let number = ap (λ (k : ℕ × ℕ). k.1) (key-at key sections items are i c.loop-number-test.true none (0, 0)) in
    omega (arith, within, number)

pub loop-number-preserved : goal.loop-number-preserved
loop-number-preserved g c =
    let self = c.args.self.now in let e = self.entries in let sections = e.sections.now in let i = c.loop-number.number-index in
    let items = c.as_slice-number-items.result.now in
    let are = c.as_slice-number-items.ensures.value ∙ self.sections_ordered in
    let less = c.loop-number-test.true in
    let all = ordered key sections in
    let its = get_or all i none in
    let number = ap (λ (k : ℕ × ℕ). k.1) (key-at key sections items are i less none (0, 0)) in
    let section = c.index-sections-number.is ∙ ap (λ (k : ℕ). get_or sections k c.index-sections-number.result) number
    ∙ element-at key sections items are i less none c.index-sections-number.result in
    let line = subst (λ (s : ℕ × Section). g.K.Output.takes c.loop-number.out c.section_line.new.out
    (section_line e.maus (shown_section e.origins.now e.section_regions.items e.first_copy s))) (λ j. (number j, section j)) c.section_line.ensures in
    flat-step g.K.Output.takes g.met.K.Output.joins
    (λ s. section_line e.maus (shown_section e.origins.now e.section_regions.items e.first_copy s)) all i none its _ _ _
    (inside key sections items are i less none) refl c.loop-number.invariant line

pub returns : goal.returns
returns g c =
    let self = c.args.self.now in let e = self.entries in let sections = e.sections.now in let i = c.loop-number.number-index in
    let made = shown_section e.origins.now e.section_regions.items e.first_copy in
    let items = c.as_slice-number-items.result.now in
    let are = c.as_slice-number-items.ensures.value ∙ self.sections_ordered in
    let all = ordered key sections in
    let past : length all ≤ i = let count = long key sections items are in let end = c.loop-number-test.false in omega (arith, count, end) in
    let so_far = flat-end g.K.Output.takes g.met.K.Output.joins (λ s. section_line e.maus (made s)) all i _ _ past
    c.loop-number.invariant in
    let text = made-in-order key sections (λ (s : MappedSection). s.base) made (section_line e.maus) in
    subst (λ (t : List ℕ). g.K.Output.takes c.args.out.now c.loop-number.out t) (sym text) so_far
