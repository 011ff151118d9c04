-- Two generated modules, computed: nothing keeps them from being linked and located, and these are their bytes.
use Rattle.std.proofs.Common.{◌≡◌, ◌^◌, List, [], ◌∷◌, None, refl}
use Rattle.std.specs.Prelude.{ℕ, codes, sum}
use Rattle.std.specs.Fmt.{digits}
use Rattle.mufom_module.specs.declared.module.Order.TheVariants.{Most}
use Rattle.mufom_meaning.specs.declared.located.LocatedParts.{LocatedParts}
use Rattle.mufom_meaning.specs.AddressMap.{address_map, cells_from}
use Rattle.mufom_meaning.specs.LinkAnswer.{link_answer}
use Rattle.mufom_meaning.specs.LocateAnswer.{locate_answer}
use Rattle.mufom_meaning.specs.Placed.{planned_bases}
use Rattle.mufom_meaning.specs.Readings.{readings}
use Rattle.mufom_meaning.specs.Steps.{counter}
use Rattle.mufom_meaning.specs.Values.{value_within}
use Rattle.mufom_make.specs.Generated.{made_modules, made_plan, summary}

two_link : link_answer (made_modules 2) ≡ None
unfolding digits
two_link = refl

two_locate : locate_answer (made_modules 2) (made_plan 2) ≡ None
unfolding locate_answer digits counter value_within
two_locate = refl

-- the address of f1, the number, the address of the program counter, and the repeated bytes
abbrev two_bytes : List ℕ
two_bytes = 0x00 ∷ 0x00 ∷ 0x10 ∷ 0x14 ∷ 0x00 ∷ 0x00 ∷ 0x00 ∷ 0x00 ∷ 0x00 ∷ 0x00 ∷ 0x10 ∷ 0x08 ∷ 0x00 ∷ 0x00 ∷ 0x00 ∷ 0x00
    ∷ 0x00 ∷ 0x00 ∷ 0x00 ∷ 0x00 ∷ 0x00 ∷ 0x00 ∷ 0x00 ∷ 0x01 ∷ 0x00 ∷ 0x00 ∷ 0x10 ∷ 0x18 ∷ 0x01 ∷ 0x00 ∷ 0x01 ∷ 0x00 ∷ []

two_cells : address_map Most (2 ^ 32) (readings (made_modules 2) (planned_bases (made_modules 2) (made_plan 2))).steps ≡ cells_from 4096 two_bytes
unfolding readings digits counter value_within
two_cells = refl

two_sum : sum two_bytes ≡ 103
two_sum = refl

abbrev two_located : LocatedParts
two_located = record {
  processor = codes "MADE";
  name = codes "m0";
  maus = 4;
  order = Most;
  sections = [];
  publics = record { name = codes "f0"; value = 0x1004; notes = [] } ∷ record { name = codes "f1"; value = 0x1014; notes = [] } ∷ [];
  runs = record { address = 4096; bytes = two_bytes } ∷ [];
  start = None;
  debug = [];
}

two_lines : summary 2 two_located ≡ codes "modules 2\npublics 2\nbytes 32\nsum 103\n"
unfolding digits
two_lines = refl
