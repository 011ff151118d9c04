-- A module without parts: the 78 bytes of its header and its end are its file.
use Rattle.std.proofs.Common.{ℕ, List, [], ◌∷◌, None, refl, inl, inr}
use Rattle.mufom_module.specs.declared.module.Order.TheVariants as orders
use Rattle.mufom_module.specs.declared.module.Parts.{Parts}
use Rattle.mufom_module.specs.Written.{weight}
use Rattle.mufom_module.specs.Defects.{IsValid}
use Rattle.mufom_module.specs.Grammar.{FileParts, SpellsModule}
use Rattle.mufom_module.proofs.WorkedFile.{begin_of, lettered_descriptor, offsets_from, spells, with_debug}

abbrev empty : Parts
empty = record {
  processor = 0x36 ∷ 0x38 ∷ 0x30 ∷ 0x30 ∷ 0x30 ∷ [];
  name = 0x41 ∷ [];
  maus = 4;
  order = orders.Most;
  ext = [];
  env = [];
  sections = [];
  names = record { publics = []; references = [] };
  debug = [];
  loads = [];
  start = None;
}

empty_is_valid : IsValid empty
unfolding weight
empty_is_valid = refl

abbrev empty_bytes : List ℕ
empty_bytes =
    0xE0 ∷ 0x05 ∷ 0x36 ∷ 0x38 ∷ 0x30 ∷ 0x30 ∷ 0x30 ∷ 0x01 ∷ 0x41 ∷ 0xEC ∷ 0x08 ∷ 0x04 ∷ 0xCD ∷ 0xE2 ∷ 0xD7 ∷ 0x00 ∷ 0x84 ∷ 0x00 ∷ 0x00 ∷ 0x00 ∷ 0x00 ∷
    0xE2 ∷ 0xD7 ∷ 0x01 ∷ 0x84 ∷ 0x00 ∷ 0x00 ∷ 0x00 ∷ 0x00 ∷ 0xE2 ∷ 0xD7 ∷ 0x02 ∷ 0x84 ∷ 0x00 ∷ 0x00 ∷ 0x00 ∷ 0x00 ∷ 0xE2 ∷ 0xD7 ∷ 0x03 ∷ 0x84 ∷
    0x00 ∷ 0x00 ∷ 0x00 ∷ 0x00 ∷ 0xE2 ∷ 0xD7 ∷ 0x04 ∷ 0x84 ∷ 0x00 ∷ 0x00 ∷ 0x00 ∷ 0x00 ∷ 0xE2 ∷ 0xD7 ∷ 0x05 ∷ 0x84 ∷ 0x00 ∷ 0x00 ∷ 0x00 ∷ 0x00 ∷
    0xE2 ∷ 0xD7 ∷ 0x06 ∷ 0x84 ∷ 0x00 ∷ 0x00 ∷ 0x00 ∷ 0x00 ∷ 0xE2 ∷ 0xD7 ∷ 0x07 ∷ 0x84 ∷ 0x00 ∷ 0x00 ∷ 0x00 ∷ 0x4D ∷ 0xE1 ∷ []

abbrev empty_file : FileParts
empty_file = record {
  begin = begin_of (0x41 ∷ []);
  descriptor = lettered_descriptor;
  offsets = offsets_from 0 (0 ∷ 0 ∷ 0 ∷ 0 ∷ 0 ∷ 0 ∷ 0 ∷ 77 ∷ []);
  extension = [];
  environment = [];
  sections = [];
  externals = [];
  debug = [];
  skipped = [];
  loads = [];
  trailer = [];
}

empty_spells : SpellsModule empty empty_bytes with_debug
empty_spells = spells empty empty_bytes with_debug empty_file empty_is_valid
    (inr (refl, refl), (inr (refl, refl), (inr (refl, refl), (inr (refl, refl), (inr (refl, refl), (inr (refl, refl), (inr (refl, refl), refl)))))))
    (refl, refl, refl, refl, (refl, refl, refl), (refl, refl, refl), (refl, refl, refl), (refl, refl, refl), (refl, refl, refl), refl)
    (refl, refl, refl)
    ((refl, refl), (refl, refl, inl refl), refl, refl, refl, refl, refl, refl, refl, refl)
