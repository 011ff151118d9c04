-- What the records of a file state weighs at most ten times the file.
use Rattle.std.proofs.Common.{◌≡◌, ℕ, ◌+◌, ◌*◌, ◌≤◌, false, List, [], ◌∷◌, ◌++◌, length, sum_by, Option, ap, ◌∙◌, arith, length-append}
use Rattle.std.proofs.lemmas.List.Sums.{sum_by-cons}
use Rattle.mufom_records.specs.declared.record.Mode.{Mode}
use Rattle.mufom_records.specs.declared.record.Mode.TheVariants as mode
use Rattle.mufom_records.specs.declared.record.Record.{Record}
use Rattle.mufom_records.specs.declared.record.Record.TheVariants as r
use Rattle.mufom_records.specs.Layouts.{IsWholeRecord}
use Rattle.mufom_debug.specs.Marks.{marks_of}
use Rattle.mufom_module.specs.declared.module.Parts.{Parts}
use Rattle.mufom_module.specs.SpelledRecords.{SpelledRecord, bytes_of, section, public, reference}
use Rattle.mufom_module.specs.Written.{weight}
use Rattle.mufom_module.specs.Weights.{section_weight, public_weight, reference_weight, marks_weight, load_weight, start_weight}
use Rattle.mufom_module.specs.Grammar.{FileParts, header_of, after_header, from_sections, from_externals, from_debug, debug_bytes, from_loads}
use Rattle.mufom_module.specs.Grammar.{from_trailer, module_end, AreOfModes, header_modes, AreWhole, NamesModule, indexes_of, seen_from_externals}
use Rattle.mufom_module.proofs.WeightLaws.{weight-sum}
use Rattle.mufom_judging.specs.Laws.{FilesWeighTenfold, ModulesWeighTenfold}
use Rattle.mufom_judging.proofs.weighing.Records.{cost, begin_paid, descriptor_paid, offset_paid}
use Rattle.mufom_judging.proofs.weighing.Sums.{costs, costs_paid}
use Rattle.mufom_judging.proofs.weighing.Entries.{follow_split, new_in, sections_below}
use Rattle.mufom_judging.proofs.weighing.Names.{names_below}
use Rattle.mufom_judging.proofs.weighing.Loads.{marks_below, loads_below, starts_below}
use Rattle.mufom_records.specs.declared.options.ReadOptions.{ReadOptions}
use Rattle.mufom_module.specs.Grammar.{seen_from_debug}

-- ---- the header

-- what is written for a record of the header, except the first
abbrev header_weight : Mode → ℕ
header_weight mode.Begin = 0
header_weight mode.Descriptor = 20
header_weight (mode.Offset k) = 16
header_weight mode.Body = 0
header_weight mode.Items = 0
header_weight mode.GnuItems = 0

mode_paid : (m : Mode) (p : SpelledRecord) (next : Option ℕ) → IsWholeRecord m p.row p.bytes next → header_weight m ≤ 10 * length p.bytes
mode_paid mode.Begin p next is = omega arith
mode_paid mode.Descriptor p next is = descriptor_paid p next is
mode_paid (mode.Offset k) p next is = offset_paid k p next is
mode_paid mode.Body p next is = omega arith
mode_paid mode.Items p next is = omega arith
mode_paid mode.GnuItems p next is = omega arith

modes_paid : (modes : List Mode) (records : List SpelledRecord) (after : List ℕ) → AreOfModes modes records after
    → sum_by header_weight modes ≤ 10 * length (bytes_of records)
modes_paid [] [] after are = omega arith
modes_paid [] (p ∷ records) after are = absurd are
modes_paid (m ∷ modes) [] after are = absurd are
modes_paid (m ∷ modes) (p ∷ records) after are =
    let own = mode_paid m p _ are.0 in
    let rest = modes_paid modes records after are.1 in
    let sum = sum_by-cons header_weight m modes in
    let parts = length-append p.bytes (bytes_of records) in
    omega (arith, own, rest, sum, parts)

begin_weight : (m : Parts) (p : SpelledRecord) (row : Record) → NamesModule m p row → 7 + length m.processor + length m.name ≡ cost p row
begin_weight m p (r.ModuleBegin processor name) names = let a = ap length names.0 in let b = ap length names.1 in omega (arith, a, b)
begin_weight m p row names = absurd names

-- AD, and the offsets
abbrev after_begin : List Mode
after_begin = mode.Descriptor ∷ mode.Offset 0 ∷ mode.Offset 1 ∷ mode.Offset 2 ∷ mode.Offset 3 ∷ mode.Offset 4 ∷ mode.Offset 5 ∷ mode.Offset
    6 ∷ mode.Offset 7 ∷ []

header_below : (m : Parts) (f : FileParts) (after : List ℕ) → AreOfModes header_modes (header_of f) after → NamesModule m f.begin f.begin.row
    → 155 + length m.processor + length m.name ≤ 10 * length (bytes_of (header_of f))
header_below m f after are names =
    let begin = begin_paid f.begin _ are.0 in
    let its = begin_weight m f.begin f.begin.row names in
    let rest = modes_paid after_begin (f.descriptor ∷ f.offsets) after are.1 in
    let parts = length-append f.begin.bytes (bytes_of (f.descriptor ∷ f.offsets)) in
    omega (arith, begin, its, rest, parts)

-- ---- the bytes

file_length : (f : FileParts) → length (bytes_of (header_of f) ++ after_header f) ≡ length (bytes_of (header_of f)) + length f.extension + length f.environment
    + length (bytes_of f.sections) + length (bytes_of f.externals) + length (bytes_of f.debug) + length f.skipped + length (bytes_of f.loads) + length
    (bytes_of f.trailer) + 1
file_length f =
    let a = length-append (bytes_of (header_of f)) (after_header f) in
    let b = length-append f.extension (f.environment ++ from_sections f) in
    let c = length-append f.environment (from_sections f) in
    let d = length-append (bytes_of f.sections) (from_externals f) in
    let e = length-append (bytes_of f.externals) (from_debug f) in
    let g = length-append (debug_bytes f) (from_loads f) in
    let h = length-append (bytes_of f.debug) f.skipped in
    let i = length-append (bytes_of f.loads) (from_trailer f) in
    let j = length-append (bytes_of f.trailer) module_end in
    omega (arith, a, b, c, d, e, g, h, i, j)

-- ---- the file

part_paid : (options : ReadOptions) (records : List SpelledRecord) (after : List ℕ) (w : ℕ) → AreWhole options false records after → w ≤ costs records
    → w ≤ 10 * length (bytes_of records)
part_paid options records after w are below = let paid = costs_paid options false records after are in omega (arith, paid, below)

total : (w p n x e s u r d l t all header sections externals debug skipped loads trailer : ℕ) → w ≡ 156 + p + n + x + e + s + u + r + d + l + t
    → all ≡ header + x + e + sections + externals + debug + skipped + loads + trailer + 1 → 155 + p + n ≤ 10 * header → s ≤ 10 * sections
    → u + r ≤ 10 * externals → d ≤ 10 * debug
    → l ≤ 10 * loads → t ≤ 10 * trailer → w ≤ 10 * all
total w p n x e s u r d l t all header sections externals debug skipped loads trailer a b c f g h i j = omega arith

pub files_weigh : FilesWeighTenfold
files_weigh options bytes f m are cut names states =
    let ix = indexes_of f in
    let first = follow_split [] f.sections (f.externals ++ (f.debug ++ (f.loads ++ f.trailer))) names.follow in
    let second = follow_split f.sections f.externals (f.debug ++ (f.loads ++ f.trailer)) first.1 in
    let sections = ap (sum_by section_weight) states.sections in
    let publics = ap (sum_by public_weight) states.publics in
    let references = ap (sum_by reference_weight) states.references in
    let debug = ap marks_weight states.debug in
    let loads = ap (sum_by load_weight) states.loads in
    let s = sections_below f.sections (new_in section [] f.sections first.0) in
    let n = names_below ix f.externals (new_in public f.sections f.externals second.0) (new_in reference f.sections f.externals second.0) names.valued in
    let d = marks_below ix f.debug in
    let l = loads_below ix m.maus f.loads in
    let t = starts_below ix f.trailer m.start states.start in
    total (weight m) (length m.processor) (length m.name) (length f.extension) (length f.environment) (sum_by section_weight m.sections)
    (sum_by public_weight m.names.publics) (sum_by reference_weight m.names.references)
    (marks_weight (marks_of m.debug)) (sum_by load_weight m.loads) (start_weight m.start) (length bytes) (length (bytes_of (header_of f)))
    (length (bytes_of f.sections)) (length (bytes_of f.externals)) (length (bytes_of f.debug)) (length f.skipped) (length (bytes_of f.loads))
    (length (bytes_of f.trailer))
    (weight-sum m ∙ (λ i. 156 + length m.processor + length m.name + length (states.extension i) + length (states.environment i) + sum_by
    section_weight m.sections + sum_by public_weight m.names.publics
    + sum_by reference_weight m.names.references + marks_weight (marks_of m.debug) + sum_by load_weight m.loads + start_weight m.start))
    (ap length cut.all ∙ file_length f)
    (header_below m f (after_header f) cut.header states.begin)
    (part_paid options f.sections (seen_from_externals options f) _ cut.sections.are_whole (omega (arith, sections, s)))
    (part_paid options f.externals (seen_from_debug options f) _ cut.externals.are_whole (omega (arith, publics, references, n)))
    (part_paid options f.debug (from_loads f) _ cut.debug.are_whole (omega (arith, debug, d)))
    (part_paid options f.loads (from_trailer f) _ cut.loads.are_whole (omega (arith, loads, l)))
    (part_paid options f.trailer module_end _ cut.trailer.are_whole t)

pub modules_weigh : ModulesWeighTenfold
modules_weigh options bytes m are (f, cut, names, states, valid) = files_weigh options bytes f m are cut names states
