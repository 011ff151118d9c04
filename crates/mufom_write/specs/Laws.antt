-- A law about raw images.
use Rattle.std.specs.Prelude.{◌≡◌, ℕ, List, length}
use Rattle.mufom_meaning.specs.declared.located.Run.{Run}
use Rattle.mufom_meaning.specs.AddressMap.{AreApart}
use Rattle.mufom_write.specs.Range.{range_image}
use Rattle.mufom_write.specs.Raw.{first_address, raw_image}

-- A raw image has one byte for each address from the first that is loaded: byte i is the byte that is loaded at the first address plus i, or `fill` if
-- none is.
abbrev pub RawImagesAreRanges : Type 0
RawImagesAreRanges =
    (fill : ℕ) (runs : List Run) → AreApart 0 runs → raw_image fill runs ≡ range_image fill (first_address runs) (length (raw_image fill runs)) runs
