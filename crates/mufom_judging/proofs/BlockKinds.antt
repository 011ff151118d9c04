-- The kinds of the debug blocks that are open after records, and the rules for blocks by these alone.
use Rattle.std.proofs.Common.{◌≡◌, ℕ, ◌==◌, ◌&&◌, ◌||◌, nat_le, Bool, true, false, List, [], ◌∷◌, ◌++◌, length, map, is_none, is_some, refl, sym, ap, ◌∙◌}
use Rattle.std.specs.List.{list_all}
use Rattle.std.proofs.lemmas.Bool.{and_parts, both_ways}
use Rattle.std.proofs.lemmas.List.{length-map}
use Rattle.mufom_records.specs.declared.record.Record.{Record}
use Rattle.mufom_records.specs.declared.record.Record.TheVariants as r
use Rattle.mufom_module.specs.SpelledRecords.{SpelledRecord}
use Rattle.mufom_module.specs.RecordParts.{Part, section_part, external_part, number_of, part_of, stands_in}
use Rattle.mufom_judging.specs.Prefixes.{Step, raw, read, records_of, offset_records_of}
use Rattle.mufom_judging.specs.Faults.{OpenBlock, opened_after, open_from, open_blocks, ends_badly, is_too_deep}

-- ---- kinds

-- the kinds of the blocks that are open after a record, if blocks of these kinds were open before it; the innermost is first
abbrev pub kinds_after : List ℕ → Record → List ℕ
kinds_after kinds (r.BlockBegin kind n name block) = kind ∷ kinds
kinds_after [] (r.BlockEnd value) = []
kinds_after (innermost ∷ kinds) (r.BlockEnd value) = kinds
kinds_after kinds _ = kinds

abbrev pub kinds_from : List ℕ → List SpelledRecord → List ℕ
kinds_from kinds [] = kinds
kinds_from kinds (p ∷ records) = kinds_from (kinds_after kinds p.row) records

-- the kinds of the blocks that are open after records
abbrev pub open_kinds : List SpelledRecord → List ℕ
open_kinds records = kinds_from [] records

-- an end with no open block, or with an expression after a kind that has none
abbrev pub ends_badly_in : List ℕ → Record → Bool
ends_badly_in [] (r.BlockEnd value) = true
ends_badly_in (innermost ∷ kinds) (r.BlockEnd value) = is_some value && ((innermost == 3) || (innermost == 5))
ends_badly_in kinds _ = false

-- the 33rd open block
abbrev pub is_too_deep_in : List ℕ → Record → Bool
is_too_deep_in kinds (r.BlockBegin kind n name block) = nat_le 32 (length kinds)
is_too_deep_in kinds _ = false

-- the kinds of open blocks
abbrev pub kinds_of : List OpenBlock → List ℕ
kinds_of blocks = map (λ (b : OpenBlock). b.1) blocks

-- ---- blocks by their kinds

kinds-after : (blocks : List OpenBlock) (start : ℕ) (row : Record) → kinds_of (opened_after blocks start row) ≡ kinds_after (kinds_of blocks) row
kinds-after blocks start (r.BlockBegin kind n name block) = refl
kinds-after [] start (r.BlockEnd value) = refl
kinds-after (b ∷ blocks) start (r.BlockEnd value) = refl
kinds-after blocks start row = refl

kinds-open_from : (blocks : List OpenBlock) (prefix : List Step) → kinds_of (open_from blocks (offset_records_of prefix))
    ≡ kinds_from (kinds_of blocks) (records_of prefix)
kinds-open_from blocks [] = refl
kinds-open_from blocks (raw b ∷ prefix) = kinds-open_from blocks prefix
kinds-open_from blocks (read start p ∷ prefix) = kinds-open_from (opened_after blocks start p.row) prefix
    ∙ ap (λ (k : List ℕ). kinds_from k (records_of prefix)) (kinds-after blocks start p.row)

-- the kinds of the blocks that are open after a prefix
pub kinds-open : (prefix : List Step) → kinds_of (open_blocks (offset_records_of prefix)) ≡ open_kinds (records_of prefix)
kinds-open prefix = kinds-open_from [] prefix

ends-by-kinds : (blocks : List OpenBlock) (row : Record) → ends_badly blocks row ≡ ends_badly_in (kinds_of blocks) row
ends-by-kinds [] (r.BlockEnd value) = refl
ends-by-kinds [] row = refl
ends-by-kinds (b ∷ blocks) (r.BlockEnd value) = refl
ends-by-kinds (b ∷ blocks) row = refl

deep-by-kinds : (blocks : List OpenBlock) (row : Record) → is_too_deep blocks row ≡ is_too_deep_in (kinds_of blocks) row
deep-by-kinds blocks (r.BlockBegin kind n name block) = ap (λ (k : ℕ). nat_le 32 k) (sym (length-map blocks (λ (b : OpenBlock). b.1)))
deep-by-kinds blocks row = refl

-- the rules for blocks after a prefix
pub ends-kinds : (prefix : List Step) (row : Record) → ends_badly (open_blocks (offset_records_of prefix)) row
    ≡ ends_badly_in (open_kinds (records_of prefix)) row
ends-kinds prefix row = ends-by-kinds (open_blocks (offset_records_of prefix)) row ∙ ap (λ (k : List ℕ). ends_badly_in k row) (kinds-open prefix)

pub deep-kinds : (prefix : List Step) (row : Record) → is_too_deep (open_blocks (offset_records_of prefix)) row
    ≡ is_too_deep_in (open_kinds (records_of prefix)) row
deep-kinds prefix row = deep-by-kinds (open_blocks (offset_records_of prefix)) row ∙ ap (λ (k : List ℕ). is_too_deep_in k row) (kinds-open prefix)

-- ---- more records

pub kinds-append : (kinds : List ℕ) (a b : List SpelledRecord) → kinds_from kinds (a ++ b) ≡ kinds_from (kinds_from kinds a) b
kinds-append kinds [] b = refl
kinds-append kinds (p ∷ a) b = kinds-append (kinds_after kinds p.row) a b

pub kinds-next : (before : List SpelledRecord) (p : SpelledRecord) → open_kinds (before ++ p ∷ []) ≡ kinds_after (open_kinds before) p.row
kinds-next before p = kinds-append [] before (p ∷ [])

-- a record of another part begins and ends no block
kind-other : (part : Part) (kinds : List ℕ) (row : Record) → (number_of part == 4) ≡ false → stands_in part row ≡ true → kinds_after kinds row ≡ kinds
kind-other part kinds (r.BlockBegin kind n name block) other own = absurd (both_ways (number_of part == 4) other own)
kind-other part kinds (r.BlockEnd value) other own = absurd (both_ways (number_of part == 4) other own)
kind-other part kinds row other own = refl

pub kinds-other : (part : Part) (kinds : List ℕ) (records : List SpelledRecord) → (number_of part == 4) ≡ false
    → list_all (λ p. stands_in part p.row) records ≡ true → kinds_from kinds records ≡ kinds
kinds-other part kinds [] other own = refl
kinds-other part kinds (p ∷ records) other own =
    let both = and_parts (stands_in part p.row) _ own in
    ap (λ (k : List ℕ). kinds_from k records) (kind-other part kinds p.row other both.0) ∙ kinds-other part kinds records other both.1

kind-silent : (kinds : List ℕ) (row : Record) → is_none (part_of row) ≡ true → kinds_after kinds row ≡ kinds
kind-silent kinds (r.ModuleBegin a b) h = refl
kind-silent kinds (r.Descriptor a b c) h = refl
kind-silent kinds (r.Offset a b) h = refl
kind-silent kinds row h = cc

-- the header opens no block
pub kinds-silent : (kinds : List ℕ) (header : List SpelledRecord) → list_all (λ p. is_none (part_of p.row)) header ≡ true → kinds_from kinds header ≡ kinds
kinds-silent kinds [] h = refl
kinds-silent kinds (p ∷ header) h =
    let both = and_parts (is_none (part_of p.row)) _ h in
    ap (λ (k : List ℕ). kinds_from k header) (kind-silent kinds p.row both.0) ∙ kinds-silent kinds header both.1

-- before the debug part none is open
pub none_before : (header sections externals : List SpelledRecord) → list_all (λ p. is_none (part_of p.row)) header ≡ true
    → list_all (λ p. stands_in section_part p.row) sections ≡ true
    → list_all (λ p. stands_in external_part p.row) externals ≡ true → open_kinds ((header ++ sections) ++ externals) ≡ []
none_before header sections externals silent own_sections own_externals =
    kinds-append [] (header ++ sections) externals
    ∙ ap (λ (k : List ℕ). kinds_from k externals) (kinds-append [] header sections
    ∙ ap (λ (k : List ℕ). kinds_from k sections) (kinds-silent [] header silent) ∙ kinds-other section_part [] sections refl own_sections)
    ∙ kinds-other external_part [] externals refl own_externals

-- nor does a record of another part end one
ends-other : (part : Part) (kinds : List ℕ) (row : Record) → (number_of part == 4) ≡ false → stands_in part row ≡ true → ends_badly_in kinds row ≡ false
ends-other part kinds (r.BlockEnd value) other own = absurd (both_ways (number_of part == 4) other own)
ends-other part [] row other own = refl
ends-other part (kind ∷ kinds) row other own = refl

deep-other : (part : Part) (kinds : List ℕ) (row : Record) → (number_of part == 4) ≡ false → stands_in part row ≡ true → is_too_deep_in kinds row ≡ false
deep-other part kinds (r.BlockBegin kind n name block) other own = absurd (both_ways (number_of part == 4) other own)
deep-other part kinds row other own = refl

-- ---- records that keep to the rules for blocks

-- none of these records ends a block badly or begins one too deep, if blocks of these kinds are open before them
abbrev pub NestFrom : List ℕ → List SpelledRecord → Type 0
NestFrom kinds [] = Unit {0}
NestFrom kinds (p ∷ records) = (ends_badly_in kinds p.row ≡ false) × (is_too_deep_in kinds p.row ≡ false) × NestFrom (kinds_after kinds p.row) records

-- records of another part keep to them
pub nest-other : (part : Part) (kinds : List ℕ) (records : List SpelledRecord) → (number_of part == 4) ≡ false
    → list_all (λ p. stands_in part p.row) records ≡ true → NestFrom kinds records
nest-other part kinds [] other own = tt
nest-other part kinds (p ∷ records) other own =
    let both = and_parts (stands_in part p.row) _ own in
    (ends-other part kinds p.row other both.0, deep-other part kinds p.row other both.0, nest-other part (kinds_after kinds p.row) records other both.1)
