-- Worked locations: hand-made modules, located, and the modules that their locations are written as.
use Rattle.std.proofs.Common.{◌≡◌, ℕ, List, [], ◌∷◌, ◌++◌, append-nil, subst, sym, Some, None, true, false, refl, arith}
use Rattle.std.specs.Prelude.{codes, Contains}
use Rattle.mufom_expr.specs.declared.token.FieldKind.TheVariants.{Signed, Either}
use Rattle.mufom_expr.specs.declared.token.Letter.TheVariants.{P, R, X}
use Rattle.mufom_expr.specs.Tree.{number, variable, two, plus, minus}
use Rattle.mufom_sections.specs.declared.section.Section.{Section}
use Rattle.mufom_sections.specs.declared.section.Purpose.TheVariants as purposes
use Rattle.mufom_loads.specs.declared.load.Item.TheVariants.{Literal, Field}
use Rattle.mufom_loads.specs.declared.load.Load.TheVariants.{SetSection, SetPc, One}
use Rattle.mufom_module.specs.declared.module.Order.TheVariants.{Most}
use Rattle.mufom_module.specs.declared.module.Parts.{Parts}
use Rattle.mufom_meaning.specs.Readings.{readings}
use Rattle.mufom_meaning.specs.Values.{value_within}
use Rattle.mufom_meaning.specs.Steps.{counter}
use Rattle.mufom_meaning.specs.LocateAnswer.{locate_answer}
use Rattle.mufom_meaning.specs.declared.located.LocatedParts.{LocatedParts}
use Rattle.mufom_meaning.specs.AddressMap.{Cell, cells_from, AreRunsOf}
use Rattle.mufom_meaning.specs.Facts.{mismatch, duplicate_start}
use Rattle.mufom_meaning.specs.LinkAnswer.{link_answer}
use Rattle.mufom_meaning.specs.Location.{IsLocation}
use Rattle.mufom_meaning.specs.Absolute.{absolute_of, no_regions}
use Rattle.mufom_meaning.proofs.rows.Built.{a_module, absolute_at, public_of, strong, region_at, plan_of, image_of}

-- cells that are one row
one_row : (address byte : ℕ) (bytes : List ℕ) → AreRunsOf (cells_from address (byte ∷ bytes)) (record { address = address; bytes = byte ∷ bytes } ∷ [])
one_row address byte bytes = record { apart = (omega arith, omega arith, tt); same = λ cell. (λ h. same h, λ h. back h) } where
  same : {cell : Cell} → Contains (cells_from address (byte ∷ bytes)) cell → Contains (cells_from address (byte ∷ bytes) ++ []) cell
  same {cell} h = subst (λ cells. Contains cells cell) (sym (append-nil (cells_from address (byte ∷ bytes)))) h

  back : {cell : Cell} → Contains (cells_from address (byte ∷ bytes) ++ []) cell → Contains (cells_from address (byte ∷ bytes)) cell
  back {cell} h = subst (λ cells. Contains cells cell) (append-nil (cells_from address (byte ∷ bytes))) h

-- A small absolute module is located as itself, and is what its location is written as.
abbrev small : Parts
small = record (a_module (record (absolute_at 4096 4) { name = codes "code"; purpose = Some purposes.Code; align = 2 } ∷ []) [] []
    (SetSection 0 ∷ SetPc 0 (number 4096) ∷ One (Literal (0x4E ∷ 0x71 ∷ 0x4E ∷ 0x75 ∷ [])) ∷ [])) { name = codes "A"; start = Some (number 4096) }

abbrev small_located : LocatedParts
small_located = record {
  processor = codes "68000";
  name = codes "A";
  maus = 4;
  order = Most;
  sections = small.sections;
  publics = [];
  runs = record { address = 4096; bytes = 0x4E ∷ 0x71 ∷ 0x4E ∷ 0x75 ∷ [] } ∷ [];
  start = Some 4096;
  debug = [];
}

small_is_located : IsLocation (small ∷ []) no_regions small_located
unfolding locate_answer counter value_within readings
small_is_located = record {
  links = refl;
  locates = refl;
  first = refl;
  sections = refl;
  publics = refl;
  start = refl;
  debug = refl;
  rows = one_row 4096 0x4E (0x71 ∷ 0x4E ∷ 0x75 ∷ []);
}

small_is_written : absolute_of small_located ≡ small
small_is_written = refl

-- Nothing in a module.
abbrev empty : Parts
empty = a_module [] [] [] []

abbrev empty_located : LocatedParts
empty_located = record small_located { name = codes "a"; sections = []; runs = []; start = None }

empty_is_written : absolute_of empty_located ≡ empty
empty_is_written = refl

-- A row of loaded bytes over two sections is loaded section by section, and a section without bytes is not made the current one.
abbrev three_sections : LocatedParts
three_sections = record small_located { sections = absolute_at 4096 2 ∷ absolute_at 64 8 ∷ absolute_at 4098 2 ∷ [] }

loaded_by_sections : (absolute_of three_sections).loads
    ≡ SetSection 0 ∷ SetPc 0 (number 4096) ∷ One (Literal (0x4E ∷ 0x71 ∷ [])) ∷ SetSection 2 ∷ SetPc 2 (number 4098) ∷ One (Literal (0x4E ∷ 0x75 ∷ [])) ∷ []
loaded_by_sections = refl

-- A program and its library, which share a section's name.
abbrev text_of : ℕ → Section
text_of size = record { name = codes ".text"; absolute = false; purpose = Some purposes.Code; size = size; align = 2; base = None }

abbrev program : Parts
program = record (a_module (text_of 12 ∷ []) (public_of (codes "main") (two plus (variable R 0) (number 4)) ∷ []) (strong (codes "exit") ∷ [])
    (SetSection 0 ∷ SetPc 0 (variable R 0) ∷ One (Literal (0x4E ∷ 0x71 ∷ 0x4E ∷ 0x71 ∷ [])) ∷ One (Field Either 4 (two plus (variable R 0) (number 4)))
    ∷ One (Field Signed 4 (two minus (variable X 0) (variable P 0))) ∷ [])) { name = codes "prog"; start = Some (two plus (variable R 0) (number 4)) }

abbrev library : Parts
library = record (a_module (record (text_of 2) { align = 1 } ∷ []) (public_of (codes "exit") (variable R 0) ∷ []) []
    (SetSection 0 ∷ One (Literal (0x4E ∷ 0x75 ∷ [])) ∷ [])) { name = codes "lib" }

abbrev both_located : LocatedParts
both_located = record {
  processor = codes "68000";
  name = codes "prog";
  maus = 4;
  order = Most;
  sections = record (text_of 12) { absolute = true; base = Some 8192 } ∷ record (text_of 2) { align = 1; absolute = true; base = Some 8204 } ∷ [];
  publics = record { name = codes "main"; value = 8196; notes = [] } ∷ record { name = codes "exit"; value = 8204; notes = [] } ∷ [];
  runs = record { address = 8192; bytes = 0x4E ∷ 0x71 ∷ 0x4E ∷ 0x71 ∷ 0x00 ∷ 0x00 ∷ 0x20 ∷ 0x04 ∷ 0x00 ∷ 0x00 ∷ 0x00 ∷ 0x04 ∷ 0x4E ∷ 0x75 ∷ [] } ∷ [];
  start = Some 8196;
  debug = [];
}

both_are_located : IsLocation (program ∷ library ∷ []) (plan_of (region_at 8192 256 (codes ".text" ∷ []) ∷ [])) both_located
unfolding locate_answer counter value_within readings
both_are_located = record {
  links = refl;
  locates = refl;
  first = refl;
  sections = refl;
  publics = refl;
  start = refl;
  debug = refl;
  rows = one_row 8192 0x4E (0x71 ∷ 0x4E ∷ 0x71 ∷ 0x00 ∷ 0x00 ∷ 0x20 ∷ 0x04 ∷ 0x00 ∷ 0x00 ∷ 0x00 ∷ 0x04 ∷ 0x4E ∷ 0x75 ∷ []);
}

-- Sums wrap at the end of the address space.
wrapped : image_of (a_module (absolute_at 4 4 ∷ []) [] [] (SetSection 0 ∷ One
    (Field Either 4 (two plus (number 4294967292) (variable R 0))) ∷ []) ∷ []) no_regions
    ≡ (4, 0) ∷ (5, 0) ∷ (6, 0) ∷ (7, 0) ∷ []
unfolding readings counter value_within
wrapped = refl

-- Two widths, and two starts.
two_widths : link_answer (empty ∷ record empty { maus = 2 } ∷ []) ≡ Some (mismatch (4, Most) (2, Most))
two_widths = refl

two_starts_found : link_answer (small ∷ small ∷ []) ≡ Some duplicate_start
two_starts_found = refl
