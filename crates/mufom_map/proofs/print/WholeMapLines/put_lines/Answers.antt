use Rattle.std.proofs.Common.{◌∙◌, ap, sym}
use Rattle.mufom_map.specs.Shown.{section_extents}
use Rattle.mufom_map.proofs.ShownLaws.{shown-extents}
use Rattle.mufom_map.proofs.print.WholeMapLines.put_lines.Goals as goal

pub returns : goal.returns
returns g c = let l = g.met.K.Output in
    let self = c.args.self.now.map in
    let e = self.entries in
    let extents = shown-extents e.origins.now e.section_regions.items e.first_copy e.sections.now ∙ ap section_extents (sym self.same_sections) in
    l.joins _ _ _ _ _ (rw c.as_slice.ensures at c.module_lines.ensures) (l.joins _ _ _ _ _ (rw (← extents) at c.region_lines.ensures)
    (l.joins _ _ _ _ _ c.unused_lines.ensures (l.joins _ _ _ _ _ c.section_lines.ensures (l.joins _ _ _ _ _ c.public_lines.ensures
    (l.joins _ _ _ _ _ (rw c.start.ensures at c.start_line.ensures) c.total_line.ensures)))))
