-- Seven parts after a header, and the record after them, make the parts of a file.
use Rattle.std.proofs.Common.{◌≡◌, ◌⊎◌, ℕ, ◌+◌, Bool, true, false, ◌&&◌, List, [], ◌∷◌, ◌++◌, length, drop, Option, None, is_none, refl, sym, ap}
use Rattle.std.proofs.Common.{subst, ◌∙◌, arith, append_assoc, append-nil, filter_map, cond, inr, Some, inl, length-append, ◌≤◌}
use Rattle.std.specs.List.{list_all, AllByRecursion}
use Rattle.mufom_records.specs.declared.record.Mode.TheVariants as mode
use Rattle.mufom_records.specs.Fields.{first_of}
use Rattle.mufom_records.specs.Layouts.{IsWholeRecord}
use Rattle.mufom_module.specs.SpelledRecords.{SpelledRecord, bytes_of}
use Rattle.mufom_module.specs.RecordParts.{Part, extension_part, environment_part, section_part, external_part, debug_part, data_part, trailer_part}
use Rattle.mufom_module.specs.RecordParts.{end_part, part_of, stands_in}
use Rattle.mufom_module.specs.Grammar.{FileParts, debug_bytes, parts_of, module_end, from_trailer, from_loads, from_debug, from_externals}
use Rattle.mufom_module.specs.Grammar.{from_sections, after_header, AreOfModes, header_modes, AreWhole, offsets_in, StandAt}
use Rattle.mufom_judging.specs.Prefixes.{Step, read, prefix_bytes, size_of, records_of, offsets_of, first_present, parts_in_order, is_raw, is_ended}
use Rattle.mufom_judging.specs.Faults.{lacks_base, whole_fault, is_bad_descriptor}
use Rattle.mufom_judging.proofs.BlockKinds.{open_kinds, none_before}
use Rattle.mufom_judging.proofs.ended.Walk.{bytes-append, size-append, records-append, IsWalk}
use Rattle.mufom_judging.proofs.ended.Rows.{IsBegin, IsDescriptor, begin_row, descriptor_row, end_bytes}
use Rattle.mufom_judging.proofs.ended.Header.{offsets-append, InOrder, HeaderRun, header_run}
use Rattle.mufom_judging.proofs.ended.Parts.{KeptFrom, own_of, no_offset}
use Rattle.mufom_judging.proofs.ended.Chunks.{Chunk, EndsThere, Chunks, chunks_of, is_end}
use Rattle.mufom_judging.proofs.ended.Sliced.{ReadPart, raw_records, read_records, DebugPart, skipped_of, debug_records, debug_closed, IsGiven}
use Rattle.mufom_judging.proofs.ended.Sliced.{all_based, all_given, Sliced, stands_of}
use Rattle.mufom_records.specs.declared.options.ReadOptions.{ReadOptions}
use Rattle.mufom_judging.proofs.ended.Seen.{seen_later, not_zero_offset, part_seen}
use Rattle.mufom_module.specs.Grammar.{ends_before_debug, debug_offset, seen_from_debug, seen_from_externals}

-- the place of a part, or none if it is empty
abbrev Stands : ℕ → List Step → List Step → Type 0
Stands w before own = ((w ≡ size_of before) × (w ≡ 0 → ⊥)) ⊎ ((w ≡ 0) × (own ≡ []))

-- a part that is not read as records, after a prefix
record RawChunk (w : ℕ) (before own later steps : List Step) : Type 0 where
  split : steps ≡ own ++ later
  none : records_of own ≡ []
  stands : Stands w before own
  offsets : offsets_of own ≡ []

-- a part that is read as records
record ReadChunk (options : ReadOptions) (all : List ℕ) (part : Part) (w : ℕ) (before own later steps : List Step) : Type 0 where
  split : steps ≡ own ++ later
  is_read : ReadPart options part (records_of before) own (seen_later options all (size_of (before ++ own)) (prefix_bytes later))
  stands : Stands w before own
  offsets : offsets_of own ≡ []

raw_chunk : (options : ReadOptions) (all : List ℕ) (part : Part) (w to : ℕ) (before steps : List Step) → is_raw options.debug part ≡ true
    → (c : Chunk options all part w to before steps) → RawChunk w before c.cut.own c.cut.later steps
raw_chunk options all part w to before steps is c = record {
  split = c.cut.split;
  none = raw_records options part (records_of before) c.cut.own (seen_later options all to (prefix_bytes c.cut.later)) is c.cut.is_own;
  stands = c.stands;
  offsets = c.cut.offsets;
}

read_chunk : (options : ReadOptions) (all : List ℕ) (part : Part) (w to : ℕ) (before steps : List Step) → is_raw options.debug part ≡ false
    → (c : Chunk options all part w to before steps) → ReadChunk options all part w before c.cut.own c.cut.later steps
read_chunk options all part w to before steps is c = record {
  split = c.cut.split;
  is_read = subst (λ (n : ℕ). ReadPart options part (records_of before) c.cut.own (seen_later options all n (prefix_bytes c.cut.later))) (sym c.cut.size)
      (read_records options part (records_of before) c.cut.own (seen_later options all to (prefix_bytes c.cut.later)) is c.cut.is_own);
  stands = c.stands;
  offsets = c.cut.offsets;
}

-- the debug part
record DebugChunk (options : ReadOptions) (all : List ℕ) (w : ℕ) (before own later steps : List Step) : Type 0 where
  split : steps ≡ own ++ later
  is_debug : DebugPart options options.debug (records_of before) own (seen_later options all (size_of (before ++ own)) (prefix_bytes later))
      (skipped_of options.debug own)
  stands : Stands w before own
  offsets : offsets_of own ≡ []

debug_chunk : (options : ReadOptions) (all : List ℕ) (w to : ℕ) (before steps : List Step) → (c : Chunk options all debug_part w to before steps)
    → DebugChunk options all w before c.cut.own c.cut.later steps
debug_chunk options all w to before steps c = record {
  split = c.cut.split;
  is_debug = subst (λ (n : ℕ). DebugPart options options.debug (records_of before) c.cut.own (seen_later options all n (prefix_bytes c.cut.later))
      (skipped_of options.debug c.cut.own)) (sym c.cut.size)
      (debug_records options (records_of before) c.cut.own (seen_later options all to (prefix_bytes c.cut.later)) c.cut.is_own);
  stands = c.stands;
  offsets = c.cut.offsets;
}

-- the header
record HeaderFacts (before later : List Step) (begin descriptor : SpelledRecord) (offsets : List SpelledRecord) : Type 0 where
  records : records_of before ≡ begin ∷ descriptor ∷ offsets
  bytes : bytes_of (begin ∷ descriptor ∷ offsets) ≡ prefix_bytes before
  modes : AreOfModes header_modes (begin ∷ descriptor ∷ offsets) (prefix_bytes later)
  silent : list_all (λ p. is_none (part_of p.row)) (begin ∷ descriptor ∷ offsets) ≡ true
  begins : IsBegin begin.row
  describes : IsDescriptor descriptor.row
  no_bad : is_bad_descriptor descriptor.row ≡ false

-- the parts of the file
abbrev file_of : ReadOptions → SpelledRecord → SpelledRecord → List SpelledRecord → List Step → List Step → List Step → List Step → List Step → List Step
    → List Step → FileParts
file_of options begin descriptor offsets o0 o1 o2 o3 o4 o5 o6 = record {
  begin = begin;
  descriptor = descriptor;
  offsets = offsets;
  extension = prefix_bytes o0;
  environment = prefix_bytes o1;
  sections = records_of o2;
  externals = records_of o3;
  debug = records_of o4;
  skipped = skipped_of options.debug o4;
  loads = records_of o5;
  trailer = records_of o6;
}

chain : (own later steps : List Step) (x y : List ℕ) → steps ≡ own ++ later → x ≡ prefix_bytes own → prefix_bytes later ≡ y → prefix_bytes steps ≡ x ++ y
chain own later steps x y split its after = ap prefix_bytes split ∙ bytes-append own later ∙ (λ i. sym its i ++ after i)

pub grown : (before own : List Step) (ps qs : List SpelledRecord) → records_of before ≡ ps → records_of own ≡ qs → records_of (before ++ own) ≡ ps ++ qs
grown before own ps qs a b = records-append before own ∙ (λ i. a i ++ b i)

pub same_records : (before own : List Step) (ps : List SpelledRecord) → records_of before ≡ ps → records_of own ≡ [] → records_of (before ++ own) ≡ ps
same_records before own ps a b = grown before own ps [] a b ∙ append-nil ps

longer : (before own : List Step) (n : ℕ) (x : List ℕ) → size_of before ≡ n → x ≡ prefix_bytes own → size_of (before ++ own) ≡ n + length x
longer before own n x a b = size-append before own ∙ (λ i. a i + length (sym b i))

shifted : (prefix before own later steps : List Step) → prefix ≡ before ++ steps → steps ≡ own ++ later → prefix ≡ (before ++ own) ++ later
shifted prefix before own later steps a b = a ∙ ap (λ l. before ++ l) b ∙ sym (append_assoc before own later)

same_offsets : (before own : List Step) (ws : List ℕ) → offsets_of before ≡ ws → offsets_of own ≡ [] → offsets_of (before ++ own) ≡ ws
same_offsets before own ws a b = offsets-append before own ∙ (λ i. a i ++ b i) ∙ append-nil ws

here_or_none : (w n : ℕ) (before own : List Step) (x : List ℕ) → size_of before ≡ n → x ≡ prefix_bytes own → Stands w before own → (w ≡ n)
    ⊎ ((w ≡ 0) × (x ≡ []))
here_or_none w n before own x e its h = subst (λ (k : ℕ). (w ≡ k) ⊎ ((w ≡ 0) × (x ≡ []))) e (stands_of w (size_of before) own x (sym its) h)

one_head : (a b : ℕ) → a ∷ [] ≡ b ∷ [] → a ≡ b
one_head a b h = cc

end_bytes_of : (before steps : List Step) (ws : List ℕ) (last : EndsThere before ws steps) → prefix_bytes steps ≡ module_end
end_bytes_of before steps ws last =
    ap prefix_bytes last.is_last ∙ append-nil last.spelled.bytes
    ∙ (end_bytes last.spelled.row last.spelled.bytes None (is_end last.spelled.row last.own) last.is_whole).1

no_end_offset : (start : ℕ) (p : SpelledRecord) → stands_in end_part p.row ≡ true → offsets_of (read start p ∷ []) ≡ []
no_end_offset start p own = ap (λ (o : Option ℕ). filter_map (λ (y : Option ℕ). y) (o ∷ [])) (no_offset end_part p.row own)

header_offsets : (begin descriptor : SpelledRecord) (offs : List SpelledRecord) → IsBegin begin.row → IsDescriptor descriptor.row
    → offsets_in (begin ∷ descriptor ∷ offs) ≡ offsets_in offs
header_offsets begin descriptor offs first second = (λ i. offsets_in
    (record { row = first.2 i; bytes = begin.bytes } ∷ record { row = second.3 i; bytes = descriptor.bytes } ∷ offs))

header_silent : (begin descriptor : SpelledRecord) (offs : List SpelledRecord) → IsBegin begin.row → IsDescriptor descriptor.row
    → list_all (λ p. is_none (part_of p.row)) offs ≡ true → list_all (λ p. is_none (part_of p.row)) (begin ∷ descriptor ∷ offs) ≡ true
header_silent begin descriptor offs first second rest =
    (λ i. is_none (part_of (first.2 i)) && (is_none (part_of (second.3 i)) && list_all (λ p. is_none (part_of p.row)) offs)) ∙ rest

-- ---- what the records of the parts see

-- W4 is the offset at which the external part ends, if it is not 0
abbrev Stood : List ℕ → ℕ → Type 0
Stood ws n = (debug_offset ws ≡ n) ⊎ (debug_offset ws ≡ 0)

stood_there : (options : ReadOptions) (ws : List ℕ) (n : ℕ) → Stood ws n → ends_before_debug options ws ≡ true → debug_offset ws ≡ n
stood_there options ws n (inl here) ends = here
stood_there options ws n (inr none) ends = absurd (not_zero_offset options ws ends none)

first_same : (own a b : List ℕ) → (length own ≡ 0 → ⊥) → first_of (own ++ a) None ≡ first_of (own ++ b) None
first_same [] a b some = absurd (some refl)
first_same (x ∷ own) a b some = refl

empty_ends : (own after : List ℕ) → length own ≡ 0 → after ≡ module_end → first_of (own ++ after) None ≡ Some 0xE1
empty_ends [] after none same = ap (λ (l : List ℕ). first_of l None) same
empty_ends (x ∷ own) after none same = absurd (omega (arith, none))

seen_is : (options : ReadOptions) (f : FileParts) (ws : List ℕ) → offsets_in f.offsets ≡ ws → (t : Bool) → ends_before_debug options ws ≡ t
    → seen_from_debug options f ≡ cond t module_end (from_debug f)
seen_is options f ws values t is = ap (λ (vs : List ℕ). cond (ends_before_debug options vs) module_end (from_debug f)) values
    ∙ ap (λ (b : Bool). cond b module_end (from_debug f)) is

externals_seen : (options : ReadOptions) (f : FileParts) (ws : List ℕ) (here : ℕ) (real : List ℕ) → offsets_in f.offsets ≡ ws → real ≡ from_debug f
    → Stood ws here → AreWhole options false f.externals (seen_later options ws here real) → AreWhole options false f.externals (seen_from_debug options f)
externals_seen options f ws here real values same stood are =
    part_seen options f.externals ws here real (seen_from_debug options f) are
    (λ ends there. inr (ap (λ (l : List ℕ). first_of l None) (seen_is options f ws values true ends)))
    (λ open_. elim open_ [
      | inl no_ ↦ ap (λ (l : List ℕ). first_of l None) (same ∙ sym (seen_is options f ws values false no_))
      | inr away ↦ absurd (away.1 (sym (stood_there options ws here stood away.0)))
    ])

sections_seen : (options : ReadOptions) (f : FileParts) (ws : List ℕ) (here next : ℕ) (real : List ℕ) → offsets_in f.offsets ≡ ws → real ≡ from_externals f
    → next ≡ here + length (bytes_of f.externals) → Stood ws next → AreWhole options false f.sections (seen_later options ws here real)
    → AreWhole options false f.sections (seen_from_externals options f)
sections_seen options f ws here next real values same longer stood are =
    part_seen options f.sections ws here real (seen_from_externals options f) are
    (λ ends there. inr (empty_ends (bytes_of f.externals) (seen_from_debug options f) (omega (arith, longer, there, stood_there options ws next stood ends))
    (seen_is options f ws values true ends)))
    (λ open_. elim open_ [
      | inl no_ ↦ ap (λ (l : List ℕ). first_of l None) (same ∙ ap (λ (l : List ℕ). bytes_of f.externals ++ l) (sym (seen_is options f ws values false no_)))
      | inr away ↦ ap (λ (l : List ℕ). first_of l None) same
          ∙ first_same (bytes_of f.externals) (from_debug f) (seen_from_debug options f)
          (λ none. away.1 (omega (arith, longer, none, stood_there options ws next stood away.0)))
    ])

-- the debug part and those after it see what is there
later_seen : (options : ReadOptions) (ws : List ℕ) (records : List SpelledRecord) (start here : ℕ) (real target : List ℕ) → real ≡ target
    → start + length (bytes_of records) ≤ here → Stood ws start → AreWhole options false records (seen_later options ws here real)
    → AreWhole options false records target
later_seen options ws records start here real target same longer stood are =
    part_seen options records ws here real target are
    (λ ends there. inl (omega (arith, longer, there, stood_there options ws start stood ends)))
    (λ open_. ap (λ (l : List ℕ). first_of l None) same)

-- ---- all together

slice_from : (options : ReadOptions) (prefix b0 l : List Step) (begin descriptor : SpelledRecord) (offs : List SpelledRecord) (w0 w1 w2 w3 w4 w5 w6 w7 : ℕ)
    (o0 o1 o2 o3 o4 o5 o6 l0 l1 l2 l3 l4 l5 l6 : List Step) → prefix ≡ b0 ++ l → HeaderFacts b0 l begin descriptor offs → offsets_in offs
    ≡ w0 ∷ w1 ∷ w2 ∷ w3 ∷ w4 ∷ w5 ∷ w6 ∷ w7 ∷ []
    → RawChunk w0 b0 o0 l0 l
    → RawChunk w1 (b0 ++ o0) o1 l1 l0
    → ReadChunk options (w0 ∷ w1 ∷ w2 ∷ w3 ∷ w4 ∷ w5 ∷ w6 ∷ w7 ∷ []) section_part w2 ((b0 ++ o0) ++ o1) o2 l2 l1
    → ReadChunk options (w0 ∷ w1 ∷ w2 ∷ w3 ∷ w4 ∷ w5 ∷ w6 ∷ w7 ∷ []) external_part w3 (((b0 ++ o0) ++ o1) ++ o2) o3 l3 l2
    → DebugChunk options (w0 ∷ w1 ∷ w2 ∷ w3 ∷ w4 ∷ w5 ∷ w6 ∷ w7 ∷ []) w4 ((((b0 ++ o0) ++ o1) ++ o2) ++ o3) o4 l4 l3
    → ReadChunk options (w0 ∷ w1 ∷ w2 ∷ w3 ∷ w4 ∷ w5 ∷ w6 ∷ w7 ∷ []) data_part w5 (((((b0 ++ o0) ++ o1) ++ o2) ++ o3) ++ o4) o5 l5 l4
    → ReadChunk options (w0 ∷ w1 ∷ w2 ∷ w3 ∷ w4 ∷ w5 ∷ w6 ∷ w7 ∷ []) trailer_part w6 ((((((b0 ++ o0) ++ o1) ++ o2) ++ o3) ++ o4) ++ o5) o6 l6 l5
    → ((o2 ≡ []) ⊎ (whole_fault section_part (((b0 ++ o0) ++ o1) ++ o2) ≡ None))
    → ((o3 ≡ []) ⊎ (whole_fault external_part ((((b0 ++ o0) ++ o1) ++ o2) ++ o3) ≡ None))
    → ((o4 ≡ []) ⊎ (whole_fault debug_part (((((b0 ++ o0) ++ o1) ++ o2) ++ o3) ++ o4) ≡ None))
    → EndsThere (((((((b0 ++ o0) ++ o1) ++ o2) ++ o3) ++ o4) ++ o5) ++ o6) (w7 ∷ []) l6 → Sliced options prefix
slice_from options prefix b0 l begin descriptor offs w0 w1 w2 w3 w4 w5 w6 w7 o0 o1 o2 o3 o4 o5 o6 l0 l1 l2 l3 l4 l5 l6 whole h values c0 c1 c2 c3
    c4 c5 c6 based given closed last =
    let f = file_of options begin descriptor offs o0 o1 o2 o3 o4 o5 o6 in
    let header = begin ∷ descriptor ∷ offs in
    let t : prefix_bytes l5 ≡ from_trailer f = chain o6 l6 l5 (bytes_of f.trailer) module_end c6.split c6.is_read.bytes
    (end_bytes_of (((((((b0 ++ o0) ++ o1) ++ o2) ++ o3) ++ o4) ++ o5) ++ o6) l6 (w7 ∷ []) last) in
    let d5 : prefix_bytes l4 ≡ from_loads f = chain o5 l5 l4 (bytes_of f.loads) (from_trailer f) c5.split c5.is_read.bytes t in
    let d4 : prefix_bytes l3 ≡ from_debug f = chain o4 l4 l3 (debug_bytes f) (from_loads f) c4.split c4.is_debug.bytes d5 in
    let d3 : prefix_bytes l2 ≡ from_externals f = chain o3 l3 l2 (bytes_of f.externals) (from_debug f) c3.split c3.is_read.bytes d4 in
    let d2 : prefix_bytes l1 ≡ from_sections f = chain o2 l2 l1 (bytes_of f.sections) (from_externals f) c2.split c2.is_read.bytes d3 in
    let d1 : prefix_bytes l0 ≡ f.environment ++ from_sections f = chain o1 l1 l0 f.environment (from_sections f) c1.split refl d2 in
    let d0 : prefix_bytes l ≡ after_header f = chain o0 l0 l f.extension (f.environment ++ from_sections f) c0.split refl d1 in
    let p1 : records_of (b0 ++ o0) ≡ header = same_records b0 o0 header h.records c0.none in
    let p2 : records_of ((b0 ++ o0) ++ o1) ≡ header = same_records (b0 ++ o0) o1 header p1 c1.none in
    let p3 : records_of (((b0 ++ o0) ++ o1) ++ o2) ≡ header ++ f.sections = grown ((b0 ++ o0) ++ o1) o2 header f.sections p2 refl in
    let p4 : records_of ((((b0 ++ o0) ++ o1) ++ o2) ++ o3) ≡ (header ++ f.sections) ++ f.externals =
    grown (((b0 ++ o0) ++ o1) ++ o2) o3 (header ++ f.sections) f.externals p3 refl in
    let p5 : records_of (((((b0 ++ o0) ++ o1) ++ o2) ++ o3) ++ o4) ≡ ((header ++ f.sections) ++ f.externals) ++ f.debug =
    grown ((((b0 ++ o0) ++ o1) ++ o2) ++ o3) o4 ((header ++ f.sections) ++ f.externals) f.debug p4 refl in
    let p6 : records_of ((((((b0 ++ o0) ++ o1) ++ o2) ++ o3) ++ o4) ++ o5) ≡ (((header ++ f.sections) ++ f.externals) ++ f.debug) ++ f.loads =
    grown (((((b0 ++ o0) ++ o1) ++ o2) ++ o3) ++ o4) o5 (((header ++ f.sections) ++ f.externals) ++ f.debug) f.loads p5 refl in
    let p7 : records_of (((((((b0 ++ o0) ++ o1) ++ o2) ++ o3) ++ o4) ++ o5) ++ o6) ≡ ((((header ++ f.sections) ++ f.externals) ++ f.debug) ++ f.loads)
    ++ f.trailer = grown ((((((b0 ++ o0) ++ o1) ++ o2) ++ o3) ++ o4) ++ o5) o6 ((((header ++ f.sections) ++ f.externals) ++ f.debug)
    ++ f.loads) f.trailer p6 refl in
    let n0 = length (bytes_of header) in
    let e0 : size_of b0 ≡ n0 = sym (ap length h.bytes) in
    let e1 : size_of (b0 ++ o0) ≡ (n0 + length (f.extension)) = longer b0 o0 n0 (f.extension) e0 refl in
    let e2 : size_of ((b0 ++ o0) ++ o1) ≡ ((n0 + length (f.extension)) + length (f.environment)) =
    longer (b0 ++ o0) o1 (n0 + length (f.extension)) (f.environment) e1 refl in
    let e3 : size_of (((b0 ++ o0) ++ o1) ++ o2) ≡ (((n0 + length (f.extension)) + length (f.environment)) + length (bytes_of f.sections)) =
    longer ((b0 ++ o0) ++ o1) o2 ((n0 + length (f.extension)) + length (f.environment)) (bytes_of f.sections) e2 c2.is_read.bytes in
    let e4 : size_of ((((b0 ++ o0) ++ o1) ++ o2) ++ o3) ≡ ((((n0 + length (f.extension)) + length (f.environment)) + length
    (bytes_of f.sections)) + length (bytes_of f.externals)) =
    longer (((b0 ++ o0) ++ o1) ++ o2) o3 (((n0 + length (f.extension)) + length (f.environment)) + length (bytes_of f.sections))
    (bytes_of f.externals) e3 c3.is_read.bytes in
    let e5 : size_of (((((b0 ++ o0) ++ o1) ++ o2) ++ o3) ++ o4)
    ≡ (((((n0 + length (f.extension)) + length (f.environment)) + length (bytes_of f.sections)) + length (bytes_of f.externals)) + length
    (debug_bytes f)) = longer ((((b0 ++ o0) ++ o1) ++ o2) ++ o3) o4
    ((((n0 + length (f.extension)) + length (f.environment)) + length (bytes_of f.sections)) + length (bytes_of f.externals)) (debug_bytes f) e4
    c4.is_debug.bytes in
    let e6 : size_of ((((((b0 ++ o0) ++ o1) ++ o2) ++ o3) ++ o4) ++ o5)
    ≡ ((((((n0 + length (f.extension)) + length (f.environment)) + length (bytes_of f.sections)) + length (bytes_of f.externals)) + length
    (debug_bytes f)) + length (bytes_of f.loads)) = longer (((((b0 ++ o0) ++ o1) ++ o2) ++ o3)
    ++ o4) o5 (((((n0 + length (f.extension)) + length (f.environment)) + length (bytes_of f.sections)) + length (bytes_of f.externals)) + length
    (debug_bytes f)) (bytes_of f.loads) e5 c5.is_read.bytes in
    let e7 : size_of (((((((b0 ++ o0) ++ o1) ++ o2) ++ o3) ++ o4) ++ o5) ++ o6)
    ≡ ((((((n0 + length (f.extension)) + length (f.environment)) + length (bytes_of f.sections)) + length (bytes_of f.externals)) + length
    (debug_bytes f)) + length (bytes_of f.loads)) + length (bytes_of f.trailer) =
    longer ((((((b0 ++ o0) ++ o1) ++ o2) ++ o3) ++ o4) ++ o5) o6
    ((((((n0 + length (f.extension)) + length (f.environment)) + length (bytes_of f.sections)) + length (bytes_of f.externals)) + length
    (debug_bytes f)) + length (bytes_of f.loads)) (bytes_of f.trailer) e6 c6.is_read.bytes in
    let g0 = shifted prefix b0 o0 l0 l whole c0.split in
    let g1 = shifted prefix (b0 ++ o0) o1 l1 l0 g0 c1.split in
    let g2 = shifted prefix ((b0 ++ o0) ++ o1) o2 l2 l1 g1 c2.split in
    let g3 = shifted prefix (((b0 ++ o0) ++ o1) ++ o2) o3 l3 l2 g2 c3.split in
    let g4 = shifted prefix ((((b0 ++ o0) ++ o1) ++ o2) ++ o3) o4 l4 l3 g3 c4.split in
    let g5 = shifted prefix (((((b0 ++ o0) ++ o1) ++ o2) ++ o3) ++ o4) o5 l5 l4 g4 c5.split in
    let g6 = shifted prefix ((((((b0 ++ o0) ++ o1) ++ o2) ++ o3) ++ o4) ++ o5) o6 l6 l5 g5 c6.split in
    let a1 = same_offsets b0 o0 (offsets_in offs) (ap offsets_in h.records ∙ header_offsets begin descriptor offs h.begins h.describes) c0.offsets in
    let a2 = same_offsets (b0 ++ o0) o1 (offsets_in offs) a1 c1.offsets in
    let a3 = same_offsets ((b0 ++ o0) ++ o1) o2 (offsets_in offs) a2 c2.offsets in
    let a4 = same_offsets (((b0 ++ o0) ++ o1) ++ o2) o3 (offsets_in offs) a3 c3.offsets in
    let a5 = same_offsets ((((b0 ++ o0) ++ o1) ++ o2) ++ o3) o4 (offsets_in offs) a4 c4.offsets in
    let a6 = same_offsets (((((b0 ++ o0) ++ o1) ++ o2) ++ o3) ++ o4) o5 (offsets_in offs) a5 c5.offsets in
    let a7 = same_offsets ((((((b0 ++ o0) ++ o1) ++ o2) ++ o3) ++ o4) ++ o5) o6 (offsets_in offs) a6 c6.offsets in
    let it = read (size_of (((((((b0 ++ o0) ++ o1) ++ o2) ++ o3) ++ o4) ++ o5) ++ o6)) last.spelled in
    let ws = w0 ∷ w1 ∷ w2 ∷ w3 ∷ w4 ∷ w5 ∷ w6 ∷ w7 ∷ [] in
    let stood : (w4 ≡ size_of ((((b0 ++ o0) ++ o1) ++ o2) ++ o3)) ⊎ (w4 ≡ 0) = elim c4.stands [ inl here ↦ inl here.0 | inr none ↦ inr none.0 ] in
    record {
      f = f;
      end = last.spelled;
      bytes = ap prefix_bytes whole ∙ bytes-append b0 l ∙ (λ i. sym h.bytes i ++ d0 i);
      header = subst (λ (k : List ℕ). AreOfModes header_modes header k) d0 h.modes;
      stand = subst (λ (ws : List ℕ). StandAt ws n0 (parts_of f)) (sym values) (
        here_or_none w0 n0 b0 o0 (f.extension) e0 refl c0.stands,
        (
          here_or_none w1 (n0 + length (f.extension)) (b0 ++ o0) o1 (f.environment) e1 refl c1.stands,
          (
            here_or_none w2 ((n0 + length (f.extension)) + length (f.environment)) ((b0 ++ o0)
                ++ o1) o2 (bytes_of f.sections) e2 c2.is_read.bytes c2.stands,
            (
              here_or_none w3 (((n0 + length (f.extension)) + length (f.environment)) + length (bytes_of f.sections)) (((b0 ++ o0) ++ o1)
                  ++ o2) o3 (bytes_of f.externals) e3 c3.is_read.bytes c3.stands,
              (
                here_or_none w4 ((((n0 + length (f.extension)) + length (f.environment)) + length (bytes_of f.sections)) + length (bytes_of f.externals))
                    ((((b0 ++ o0) ++ o1) ++ o2) ++ o3) o4 (debug_bytes f) e4 c4.is_debug.bytes c4.stands,
                (
                  here_or_none w5 (((((n0 + length (f.extension)) + length (f.environment)) + length (bytes_of f.sections)) + length
                      (bytes_of f.externals)) + length (debug_bytes f)) (((((b0 ++ o0) ++ o1) ++ o2) ++ o3)
                      ++ o4) o5 (bytes_of f.loads) e5 c5.is_read.bytes c5.stands,
                  (
                    here_or_none w6 ((((((n0 + length (f.extension)) + length (f.environment)) + length (bytes_of f.sections)) + length
                        (bytes_of f.externals)) + length (debug_bytes f)) + length (bytes_of f.loads)) ((((((b0 ++ o0) ++ o1) ++ o2) ++ o3) ++ o4)
                        ++ o5) o6 (bytes_of f.trailer) e6 c6.is_read.bytes c6.stands,
                    ap (λ (k : ℕ). k ∷ []) (one_head w7 (size_of (((((((b0 ++ o0) ++ o1) ++ o2) ++ o3) ++ o4) ++ o5) ++ o6)) last.offset ∙ e7),
                  ),
                ),
              ),
            ),
          ),
        ),
      );
      sections = sections_seen options f ws (size_of (((b0 ++ o0) ++ o1) ++ o2)) (size_of ((((b0 ++ o0) ++ o1) ++ o2) ++ o3)) (prefix_bytes l2) values d3
          (omega (arith, e3, e4)) stood c2.is_read.are_whole;
      externals = externals_seen options f ws (size_of ((((b0 ++ o0) ++ o1) ++ o2) ++ o3)) (prefix_bytes l3) values d4 stood c3.is_read.are_whole;
      loads = later_seen options ws f.loads (size_of ((((b0 ++ o0) ++ o1) ++ o2) ++ o3)) (size_of ((((((b0 ++ o0) ++ o1) ++ o2) ++ o3) ++ o4) ++ o5))
          (prefix_bytes l5)
          (from_trailer f) t (omega (arith, e4, e6)) stood c5.is_read.are_whole;
      trailer = later_seen options ws f.trailer (size_of ((((b0 ++ o0) ++ o1) ++ o2) ++ o3))
          (size_of (((((((b0 ++ o0) ++ o1) ++ o2) ++ o3) ++ o4) ++ o5) ++ o6))
          (prefix_bytes l6) module_end (end_bytes_of (((((((b0 ++ o0) ++ o1) ++ o2) ++ o3) ++ o4) ++ o5) ++ o6) l6 (w7 ∷ []) last)
          (omega (arith, e4, e7)) stood
          c6.is_read.are_whole;
      debug = later_seen options ws f.debug (size_of ((((b0 ++ o0) ++ o1) ++ o2) ++ o3)) (size_of (((((b0 ++ o0) ++ o1) ++ o2) ++ o3) ++ o4)) (prefix_bytes l4)
          (from_loads f) d5 (omega (arith, e4, e5, length-append (bytes_of f.debug) f.skipped)) stood c4.is_debug.are_whole;
      debug_read = c4.is_debug.read;
      keep_sections = subst (λ (k : List SpelledRecord). KeptFrom section_part k f.sections) p2 c2.is_read.keeps;
      keep_externals = subst (λ (k : List SpelledRecord). KeptFrom external_part k f.externals) p3 c3.is_read.keeps;
      keep_debug = subst (λ (k : List SpelledRecord). KeptFrom debug_part k f.debug) p4 c4.is_debug.keeps;
      keep_loads = subst (λ (k : List SpelledRecord). KeptFrom data_part k f.loads) p5 c5.is_read.keeps;
      keep_trailer = subst (λ (k : List SpelledRecord). KeptFrom trailer_part k f.trailer) p6 c6.is_read.keeps;
      based = subst (λ (k : List SpelledRecord). AllByRecursion (λ p. lacks_base k p.row ≡ false) f.sections) p3 (all_based ((b0 ++ o0) ++ o1) o2 based);
      given = subst (λ (k : List SpelledRecord). AllByRecursion (IsGiven k) f.externals) p4 (all_given (((b0 ++ o0) ++ o1) ++ o2) o3 given);
      closed = subst (λ (k : List SpelledRecord). open_kinds k ≡ []) p5 (debug_closed ((((b0 ++ o0) ++ o1) ++ o2) ++ o3) o4
          (ap (λ (k : List SpelledRecord). open_kinds k) p4
          ∙ none_before header f.sections f.externals h.silent (own_of section_part _ f.sections c2.is_read.keeps)
          (own_of external_part _ f.externals c3.is_read.keeps)) closed);
      silent = h.silent;
      begins = h.begins;
      describes = h.describes;
      no_bad = h.no_bad;
      ends = last.own;
      records = ap records_of (g6 ∙ ap (λ k. (((((((b0 ++ o0) ++ o1) ++ o2) ++ o3) ++ o4) ++ o5) ++ o6) ++ k) last.is_last)
          ∙ records-append (((((((b0 ++ o0) ++ o1) ++ o2) ++ o3) ++ o4) ++ o5) ++ o6) (it ∷ []) ∙ ap (λ k. k ++ last.spelled ∷ []) p7;
      offsets = ap offsets_of (g6 ∙ ap (λ k. (((((((b0 ++ o0) ++ o1) ++ o2) ++ o3) ++ o4) ++ o5) ++ o6) ++ k) last.is_last)
          ∙ same_offsets (((((((b0 ++ o0) ++ o1) ++ o2) ++ o3) ++ o4) ++ o5)
          ++ o6) (it ∷ []) (offsets_in offs) a7 (no_end_offset (size_of (((((((b0 ++ o0) ++ o1) ++ o2) ++ o3) ++ o4) ++ o5) ++ o6)) last.spelled last.own);
    }

-- ---- an ended prefix

header_facts : (options : ReadOptions) (prefix : List Step) (h : HeaderRun options prefix)
    → HeaderFacts (read 0 h.begin ∷ read (length h.begin.bytes) h.descriptor ∷ h.rest.own) h.rest.later h.begin h.descriptor (records_of h.rest.own)
header_facts options prefix h =
    let offs = records_of h.rest.own in
    let after = prefix_bytes h.rest.later in
    let first = begin_row h.begin.row h.begin.bytes (first_of (prefix_bytes (read (length h.begin.bytes) h.descriptor ∷ drop 2 prefix)) None) h.begins in
    let second = descriptor_row h.descriptor.row h.descriptor.bytes (first_of (prefix_bytes (drop 2 prefix)) None) h.describes in
    let rest : prefix_bytes (drop 2 prefix) ≡ bytes_of offs ++ after = ap prefix_bytes h.rest.split ∙ bytes-append h.rest.own h.rest.later
    ∙ ap (λ l. l ++ after) (sym h.rest.bytes) in
    let more : prefix_bytes (read (length h.begin.bytes) h.descriptor ∷ drop 2 prefix) ≡ (h.descriptor.bytes ++ bytes_of offs) ++ after =
    ap (λ l. h.descriptor.bytes ++ l) rest ∙ sym (append_assoc h.descriptor.bytes (bytes_of offs) after) in
    record {
      records = refl;
      bytes = ap (λ l. h.begin.bytes ++ (h.descriptor.bytes ++ l)) h.rest.bytes;
      modes = (
        subst (λ (l : List ℕ). IsWholeRecord mode.Begin h.begin.row h.begin.bytes (first_of l None)) more h.begins,
        (subst (λ (l : List ℕ). IsWholeRecord mode.Descriptor h.descriptor.row h.descriptor.bytes (first_of l None)) rest h.describes, h.rest.modes),
      );
      silent = header_silent h.begin h.descriptor offs first second h.rest.silent;
      begins = first;
      describes = second;
      no_bad = h.no_bad;
    }

slice_chunks : (options : ReadOptions) (prefix b0 l : List Step) (begin descriptor : SpelledRecord) (offs : List SpelledRecord)
    (w0 w1 w2 w3 w4 w5 w6 w7 : ℕ) → prefix ≡ b0 ++ l → HeaderFacts b0 l begin descriptor offs
    → offsets_in offs ≡ w0 ∷ w1 ∷ w2 ∷ w3 ∷ w4 ∷ w5 ∷ w6 ∷ w7 ∷ []
    → Chunks options (w0 ∷ w1 ∷ w2 ∷ w3 ∷ w4 ∷ w5 ∷ w6 ∷ w7 ∷ []) parts_in_order (w0 ∷ w1 ∷ w2 ∷ w3 ∷ w4 ∷ w5 ∷ w6 ∷ w7 ∷ []) b0 l → Sliced options prefix
slice_chunks options prefix b0 l begin descriptor offs w0 w1 w2 w3 w4 w5 w6 w7 whole h values all =
    let ws = w0 ∷ w1 ∷ w2 ∷ w3 ∷ w4 ∷ w5 ∷ w6 ∷ w7 ∷ [] in
    let c0 = all.0 in
    let c1 = all.1.0 in
    let c2 = all.1.1.0 in
    let c3 = all.1.1.1.0 in
    let c4 = all.1.1.1.1.0 in
    let c5 = all.1.1.1.1.1.0 in
    let c6 = all.1.1.1.1.1.1.0 in
    slice_from options prefix b0 l begin descriptor offs w0 w1 w2 w3 w4 w5 w6 w7 c0.cut.own c1.cut.own c2.cut.own c3.cut.own c4.cut.own c5.cut.own
    c6.cut.own
    c0.cut.later c1.cut.later c2.cut.later c3.cut.later c4.cut.later c5.cut.later c6.cut.later whole h values
    (raw_chunk options ws extension_part w0 _ _ _ refl c0) (raw_chunk options ws environment_part w1 _ _ _ refl c1)
    (read_chunk options ws section_part w2 _ _ _ refl c2) (read_chunk options ws external_part w3 _ _ _ refl c3)
    (debug_chunk options ws w4 _ _ _ c4)
    (read_chunk options ws data_part w5 _ _ _ refl c5) (read_chunk options ws trailer_part w6 _ _ _ refl c6)
    c2.faultless c3.faultless c4.faultless all.1.1.1.1.1.1.1

slice_by : (options : ReadOptions) (prefix : List Step) (h : HeaderRun options prefix) (offsets : List ℕ) → h.rest.offsets ≡ offsets → length offsets
    ≡ 8 → Sliced options prefix
slice_by options prefix h (w0 ∷ w1 ∷ w2 ∷ w3 ∷ w4 ∷ w5 ∷ w6 ∷ w7 ∷ []) same count =
    let b0 = read 0 h.begin ∷ read (length h.begin.bytes) h.descriptor ∷ h.rest.own in
    let offsets = w0 ∷ w1 ∷ w2 ∷ w3 ∷ w4 ∷ w5 ∷ w6 ∷ w7 ∷ [] in
    let facts = header_facts options prefix h in
    let order : InOrder [] offsets = subst (λ (ws : List ℕ). InOrder [] ws) same h.rest.in_order in
    let values : offsets_in (records_of h.rest.own) ≡ offsets = h.rest.values ∙ same in
    let are : offsets_of b0 ≡ offsets = header_offsets h.begin h.descriptor (records_of h.rest.own) facts.begins facts.describes ∙ values in
    let size : size_of b0 ≡ first_present offsets = sym (h.rest.gap (omega arith) (ap length same)) ∙ ap first_present same in
    slice_chunks options prefix b0 h.rest.later h.begin h.descriptor (records_of h.rest.own) w0 w1 w2 w3 w4 w5 w6 w7
    (h.split ∙ ap (λ l. read 0 h.begin ∷ read (length h.begin.bytes) h.descriptor ∷ l) h.rest.split) facts values
    (chunks_of options offsets b0 h.rest.later refl order size (omega (arith, h.rest.count)) are h.rest.unended h.rest.ends h.rest.walk)
slice_by options prefix h offsets same count = absurd (omega arith)

pub sliced_of : (options : ReadOptions) (prefix : List Step) → is_ended prefix ≡ true → IsWalk options [] prefix → Sliced options prefix
sliced_of options prefix ends walk = let h = header_run options prefix ends walk in slice_by options prefix h h.rest.offsets refl h.rest.many
