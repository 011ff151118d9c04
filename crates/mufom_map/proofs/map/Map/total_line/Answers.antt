use Rattle.mufom_map.proofs.ShownLaws.{shown-count, shown-sizes}
use Rattle.mufom_map.proofs.map.Map.total_line.Goals as goal

pub returns : goal.returns
returns g c = let l = g.met.K.Output in
    let self = c.args.self.now in
    let e = self.entries in
    let count = shown-count e.origins.now e.section_regions.items e.first_copy e.sections.now in
    let size = shown-sizes e.origins.now e.section_regions.items e.first_copy e.sections.now in
    rw (count, size) (l.joins _ _ _ _ _ (l.joins _ _ _ _ _ c.counted.ensures (l.joins _ _ _ _ _ (rw c.total_size.ensures at c.counted-2.ensures)
    (rw c.loaded_bytes.ensures at c.counted-3.ensures))) c.put.ensures)
