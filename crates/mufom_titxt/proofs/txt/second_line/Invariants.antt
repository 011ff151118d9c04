use Rattle.std.proofs.Common.{◌≡◌, ◌+◌, ◌≤◌, length, map, option_map, Some}
use Rattle.mufom_image_bytes.specs.Loaded.{IsTiled}
use Rattle.mufom_titxt.specs.Lines.{line_of, lines_of}
use Rattle.mufom_titxt.specs.Scans.{lines_later, bytes_left}
use Rattle.mufom_titxt.specs.Texts.{nothing_stated}
use Rattle.mufom_titxt.specs.Reading.{stated, places_read, second_line}
use Rattle.mufom_titxt.proofs.txt.second_line.Given as goal

abbrev pub invariant-loop-left : goal.invariant-loop-left
invariant-loop-left l = record {
  tiled : IsTiled l.reading.store.loaded;
  watched : l.reading.store.watched ≡ Some l.address;
  hits : l.reading.store.hits ≤ 1;
  line : second_line l.address l.reading.store.hits (places_read l.modulus l.count (stated l.reading)
      (map line_of (lines_later (option_map (λ t. t.now) l.left))))
      ≡ second_line l.address 0 (places_read l.modulus 0 nothing_stated (map line_of (lines_of l.text)));
  count : l.count + bytes_left (option_map (λ t. t.now) l.left) ≤ length l.text + 1;
}

abbrev pub decreases-loop-left : goal.decreases-loop-left
decreases-loop-left l = bytes_left (option_map (λ t. t.now) l.left)
