-- Texts of a small module, with and without liberties, and what is wrong with others.
use Rattle.std.proofs.Common.{◌≡◌, true, [], ◌∷◌, ◌++◌, Some, None, codes, refl}
use Rattle.std.specs.Fmt.{digits}
use Rattle.hex.specs.Hex.{encode_with}
use Rattle.mufom_expr.specs.Tree.{number, variable, two, minus}
use Rattle.mufom_expr.specs.declared.token.Letter.TheVariants as letters
use Rattle.mufom_expr.specs.declared.token.FieldKind.TheVariants.{Either}
use Rattle.mufom_debug.specs.declared.item.BlockHead.TheVariants as heads
use Rattle.mufom_debug.specs.Marks.{block_begin, block_end, name_mark}
use Rattle.mufom_module.specs.declared.module.Order.TheVariants as orders
use Rattle.mufom_module.specs.declared.module.Parts.{Parts}
use Rattle.mufom_text.specs.Show.{listing_text}
use Rattle.mufom_text.specs.Words.{Text}
use Rattle.mufom_loads.specs.declared.load.Item.TheVariants as items
use Rattle.mufom_loads.specs.declared.load.Load.TheVariants as loads
use Rattle.mufom_sections.specs.declared.section.Purpose.TheVariants as purposes
use Rattle.mufom_refusals.specs.declared.build.BuildReason.TheVariants as reasons
use Rattle.mufom_build_text.specs.Pieces.{exact, loose, figure, position, count, expression, block, value_pieces, MOST_BYTE}
use Rattle.mufom_build_text.specs.Places.{SpellsLines}
use Rattle.mufom_build.specs.Lines.{listing_lines, mark_lines, load_lines, raw_lines}
use Rattle.mufom_build_text.specs.Errors.{piece_error}
use Rattle.mufom_build.specs.Refusals.{text_lines, last_line}
use Rattle.mufom_build.proofs.Matching.{found, lines_in}

abbrev small : Parts
small = record {
  processor = codes "68000";
  name = codes "A";
  maus = 4;
  order = orders.Most;
  ext = [];
  env = [];
  sections = record { name = codes "code"; absolute = true; purpose = Some purposes.Code; size = 4; align = 2; base = Some 4096 } ∷ [];
  names = record { publics = []; references = [] };
  debug = [];
  loads = loads.SetSection 0 ∷ loads.SetPc 0 (number 4096) ∷ loads.One (items.Literal (0x4E ∷ 0x71 ∷ 0x4E ∷ 0x75 ∷ [])) ∷ [];
  start = Some (number 4096);
}

-- as it is printed
printed : SpellsLines exact (listing_lines small) (listing_text small)
unfolding digits encode_with
printed = found (lines_in exact (listing_lines small) (listing_text small)) refl

-- a line of spaces, more spaces, a byte of a name by its digits, a leading zero, digits of either case, no byte 0A at the end
abbrev untidy : Text
untidy = codes "\n  \n  module   \"\\x41\" processor \"6800\\x30\" maus 004 order M  \n section 0 \"code\" ASP  size 4 align 2 base 4096\n\n"
    ++ codes "select 0\ncounter 0 =  4096\nbytes 4 4e714E75\n  start = 04096"

written : SpellsLines exact (listing_lines small) untidy
written = found (lines_in exact (listing_lines small) untidy) refl

-- the listing with a first line, a position of its section and a count of its bytes
abbrev changed : Text → Text → Text → Text
changed word place length = word ++ (codes " \"A\" processor \"68000\" maus 4 order M\nsection " ++ (place
    ++ (codes " \"code\" ASP size 4 align 2 base 4096\nselect 0\ncounter 0 = 4096\nbytes " ++ (length ++ codes " 4E714E75\nstart = 4096\n"))))

-- another position, and another count of bytes, leave the shape of a listing, and are no listing of the module
misnumbered : SpellsLines loose (listing_lines small) (changed (codes "module") (codes "1") (codes "3"))
misnumbered = found (lines_in loose (listing_lines small) (changed (codes "module") (codes "1") (codes "3"))) refl

not_exact : lines_in exact (listing_lines small) (changed (codes "module") (codes "1") (codes "4")) ≡ None
not_exact = refl

misspelled : lines_in loose (listing_lines small) (changed (codes "modul") (codes "0") (codes "4")) ≡ None
misspelled = refl

-- ---- blocks, repeats and parts that are not read

-- an expression at the end of a block, a repeat of nothing, and a repeat whose end is not indented
blocks : SpellsLines exact (mark_lines 0 0 (block_begin heads.Module (0x6D ∷ []) ∷ name_mark (0x61 ∷ []) ∷ block_end (Some (number 7)) ∷ []))
    (codes "block 03 \"m\"\nname 0 \"a\"\n end  = 7 \n")
blocks = found (lines_in exact (mark_lines 0 0 (block_begin heads.Module (0x6D ∷ []) ∷ name_mark (0x61 ∷ []) ∷ block_end (Some (number 7)) ∷ []))
    (codes "block 03 \"m\"\nname 0 \"a\"\n end  = 7 \n")) refl

repeats : SpellsLines exact (load_lines (loads.Repeat 2 (items.Literal [] ∷ items.Field Either 4 (variable letters.X 0) ∷ []))
    ++ load_lines (loads.Repeat 0 [])) (codes "repeat 2\n  bytes 0\n  field either 4 = X0\nend\nrepeat 0\nend\n")
repeats = found (lines_in exact (load_lines (loads.Repeat 2 (items.Literal [] ∷ items.Field Either 4 (variable letters.X 0) ∷ []))
    ++ load_lines (loads.Repeat 0 [])) (codes "repeat 2\n  bytes 0\n  field either 4 = X0\nend\nrepeat 0\nend\n")) refl

unended : lines_in exact (load_lines (loads.Repeat 0 [])) (codes "repeat 0\n") ≡ None
unended = refl

no_raw_bytes : raw_lines (codes "extension") [] ≡ []
no_raw_bytes = refl

raw_bytes : SpellsLines exact (raw_lines (codes "extension") (0x20 ∷ 0xAF ∷ [])) (codes "extension 20aF")
raw_bytes = found (lines_in exact (raw_lines (codes "extension") (0x20 ∷ 0xAF ∷ [])) (codes "extension 20aF")) refl

-- ---- expressions

right_operand : SpellsLines exact (value_pieces (two minus (number 1) (two minus (number 2) (number 3))) ∷ []) (codes "(1 - (2  - 3))")
right_operand = found (lines_in exact (value_pieces (two minus (number 1) (two minus (number 2) (number 3))) ∷ []) (codes "(1 - (2  - 3))")) refl

left_operand : lines_in exact (value_pieces (two minus (two minus (number 1) (number 2)) (number 3)) ∷ []) (codes "(1 - (2 - 3))") ≡ None
left_operand = refl

-- a space where a listing has none
spaced : lines_in exact (value_pieces (two minus (number 1) (number 2)) ∷ []) (codes "( 1 - 2)") ≡ None
spaced = refl

-- ---- errors, and lines

too_great : piece_error (figure MOST_BYTE 256) (codes "256") ≡ Some reasons.TooGreat
too_great = refl

wrong_position : piece_error (position 0) (codes "1") ≡ Some reasons.Position
wrong_position = refl

great_position : piece_error (position 0) (codes "4294967296") ≡ Some reasons.TooGreat
great_position = refl

right_position : piece_error (position 7) (codes "007") ≡ None
right_position = refl

wrong_count : piece_error (count 4) (codes "3") ≡ Some reasons.Count
wrong_count = refl

long_and_deep : piece_error (expression 256) [] ∷ piece_error (expression 255) [] ∷ piece_error (block 33) [] ∷ piece_error (block 32) [] ∷ []
    ≡ Some reasons.TooLong ∷ None ∷ Some reasons.Deep ∷ None ∷ []
long_and_deep = refl

lines_of_texts : text_lines (codes "a\n\nb") ∷ text_lines (codes "a\n") ∷ text_lines [] ∷ []
    ≡ (codes "a" ∷ [] ∷ codes "b" ∷ []) ∷ (codes "a" ∷ []) ∷ [] ∷ []
lines_of_texts = refl

last_lines : last_line (codes "a\n\nb") ∷ last_line (codes "a\n") ∷ last_line [] ∷ [] ≡ 3 ∷ 1 ∷ 1 ∷ []
last_lines = refl
