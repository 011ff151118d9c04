use Rattle.std.proofs.Common.{◌≡◌, ◌+◌, ◌≤◌, ◌++◌, length, map, option_map}
use Rattle.mufom_image_bytes.specs.Loaded.{loaded_cells, IsTiled}
use Rattle.mufom_titxt.specs.Lines.{line_of, lines_of}
use Rattle.mufom_titxt.specs.Scans.{lines_later, bytes_left}
use Rattle.mufom_titxt.specs.Reading.{stated, cells_read, stop_read}
use Rattle.mufom_titxt.proofs.reading.Reading.read_lines.Given as goal

abbrev pub invariant-loop-left : goal.invariant-loop-left
invariant-loop-left l = record {
  tiled : IsTiled l.self.store.loaded;
  cells : loaded_cells l.self.store.loaded ++ cells_read l.modulus (stated l.self) (map line_of (lines_later (option_map (λ t. t.now) l.left)))
      ≡ loaded_cells l.fn.self.store.loaded ++ cells_read l.modulus (stated l.fn.self) (map line_of (lines_of l.text));
  stop : stop_read l.modulus l.count (stated l.self) (map line_of (lines_later (option_map (λ t. t.now) l.left)))
      ≡ stop_read l.modulus 0 (stated l.fn.self) (map line_of (lines_of l.text));
  count : l.count + bytes_left (option_map (λ t. t.now) l.left) ≤ length l.text + 1;
}

abbrev pub decreases-loop-left : goal.decreases-loop-left
decreases-loop-left l = bytes_left (option_map (λ t. t.now) l.left)
