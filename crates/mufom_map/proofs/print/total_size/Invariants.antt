use Rattle.std.proofs.Common.{◌≡◌, ◌≤◌, ◌*◌, take, sum_by}
use Rattle.mufom_sections.specs.declared.section.Section.{Section}
use Rattle.mufom_map.proofs.print.total_size.Given as goal

abbrev pub invariant-loop-section : goal.invariant-loop-section
invariant-loop-section l = record {
  so_far : l.total ≡ sum_by (λ (s : Section). s.size) (take l.section-index l.sections);
  low : l.total ≤ l.section-index * 18446744073709551615;
}
