-- The text of a small module, from its parts, and the lines of debug items in blocks.
use Rattle.std.proofs.Common.{◌≡◌, true, [], ◌∷◌, ◌++◌, Some, None, codes, refl}
use Rattle.std.specs.Fmt.{digits}
use Rattle.hex.specs.Hex.{encode_with}
use Rattle.mufom_expr.specs.Tree.{number, variable, two, minus}
use Rattle.mufom_expr.specs.declared.token.Letter.TheVariants as letters
use Rattle.mufom_debug.specs.declared.item.BlockHead.TheVariants as heads
use Rattle.mufom_debug.specs.Marks.{block_begin, block_end, name_mark, value_mark}
use Rattle.mufom_module.specs.declared.module.Order.TheVariants as orders
use Rattle.mufom_module.specs.declared.module.Parts.{Parts}
use Rattle.mufom_text.specs.Words.{quoted, line}
use Rattle.mufom_text.specs.Show.{mark_lines, item_text, module_text}
use Rattle.mufom_loads.specs.declared.load.Item.TheVariants as items
use Rattle.mufom_loads.specs.declared.load.Load.TheVariants as loads
use Rattle.mufom_sections.specs.declared.section.Purpose.TheVariants as purposes

abbrev small : Parts
small = record {
  processor = codes "68000";
  name = codes "A";
  maus = 4;
  order = orders.Most;
  ext = [];
  env = [];
  sections = record { name = codes "code"; absolute = true; purpose = Some purposes.Code; size = 4; align = 2; base = Some 4096 } ∷ [];
  names = record { publics = []; references = [] };
  debug = [];
  loads = loads.SetSection 0 ∷ loads.SetPc 0 (number 4096) ∷ loads.One (items.Literal (0x4E ∷ 0x71 ∷ 0x4E ∷ 0x75 ∷ [])) ∷ [];
  start = Some (number 4096);
}

whole : module_text small ≡ line (codes "module \"A\" processor \"68000\" maus 4 order M")
    ++ line (codes "section 0 \"code\" ASP size 4 align 2 base 4096")
    ++ line (codes "select 0") ++ line (codes "counter 0 = 4096") ++ line (codes "bytes 4 4E714E75") ++ line (codes "start = 4096")
unfolding digits encode_with
whole = refl

-- blank, tilde, quote, backslash, 7F and 00
odd_bytes : quoted (0x20 ∷ 0x7E ∷ 0x22 ∷ 0x5C ∷ 0x7F ∷ 0x00 ∷ []) ≡ codes "\" ~\\x22\\x5C\\x7F\\x00\""
unfolding encode_with
odd_bytes = refl

no_bytes : item_text (items.Literal []) ≡ codes "bytes 0"
no_bytes = refl

-- a block in a block: names count through all of them, and an end is as deep as its start
blocks : mark_lines 0 0 (block_begin heads.Module (0x6D ∷ []) ∷ name_mark (0x61 ∷ []) ∷ block_begin (heads.Local 1 2 (variable letters.R 0))
    (0x66 ∷ []) ∷ name_mark (0x62 ∷ [])
    ∷ value_mark 1 (two minus (number 9) (number 4)) ∷ block_end (Some (number 7)) ∷ block_end None ∷ name_mark (0x63 ∷ []) ∷ [])
    ≡ line (codes "block 3 \"m\"") ++ line (codes "  name 0 \"a\"") ++ line (codes "  block 6 \"f\" stack 1 type 2 offset R0")
    ++ line (codes "    name 1 \"b\"")
    ++ line (codes "    value 1 = (9 - 4)") ++ line (codes "  end = 7") ++ line (codes "end") ++ line (codes "name 2 \"c\"")
unfolding digits
blocks = refl
