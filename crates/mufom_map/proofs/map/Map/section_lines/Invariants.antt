use Rattle.std.proofs.Common.{ℕ, take, flat_map}
use Rattle.mufom_sections.specs.declared.section.Section.{Section}
use Rattle.mufom_map.specs.MapText.{section_line}
use Rattle.mufom_map.specs.Shown.{base_of, shown_section}
use Rattle.mufom_map.proofs.OrderedLaws.{ordered}
use Rattle.mufom_map.proofs.map.Map.section_lines.Given as goal

abbrev pub invariant-loop-number : goal.invariant-loop-number
invariant-loop-number g l = g.K.Output.takes l.fn.out l.out
    (flat_map (λ s. section_line l.self.entries.maus (shown_section l.self.entries.origins.now l.self.entries.section_regions.items l.self.entries.first_copy s))
    (take l.number-index (ordered (λ (s : ℕ × Section). base_of s.1) l.self.entries.sections.now)))
