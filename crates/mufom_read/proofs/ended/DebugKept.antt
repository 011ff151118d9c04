-- The debug items that are kept of an ended prefix are those of the module.
use Rattle.std.proofs.Common.{◌≡◌, ℕ, List, [], ◌∷◌, ◌++◌, map, refl, sym, ap, ◌∙◌}
use Rattle.mufom_debug.specs.Marks.{DebugMark, joined, marks_of}
use Rattle.mufom_debug.specs.declared.item.DebugItem.{DebugItem}
use Rattle.mufom_debug.proofs.Rebuilt.{same_items}
use Rattle.mufom_module.specs.SpelledRecords.{SpelledRecord}
use Rattle.mufom_module.specs.Gathered.{marks}
use Rattle.mufom_module.specs.RecordParts.{data_part, trailer_part, end_part}
use Rattle.mufom_module.specs.Grammar.{header_of}
use Rattle.mufom_read.specs.declared.prefix.Prefix.{Prefix}
use Rattle.mufom_read.specs.declared.debug.OpenBlock as code
use Rattle.mufom_judging.specs.Prefixes.{Step, records_of}
use Rattle.mufom_judging.specs.Faults.{OpenBlock}
use Rattle.mufom_read.specs.DebugSoFar.{opened, marks_to_block, marks_so_far}
use Rattle.mufom_read.specs.PrefixOfCode.{IsPrefixOf}
use Rattle.mufom_judging.specs.Stated.{indexes_in}
use Rattle.mufom_judging.proofs.BlockKinds.{kinds_from, open_kinds, kinds_of, kinds-open, kinds-append, kinds-other}
use Rattle.mufom_read.proofs.so_far.DebugSteps.{stacked-none, marks-whole}
use Rattle.mufom_judging.proofs.ended.Sliced.{Sliced}
use Rattle.mufom_judging.proofs.ended.Stated.{stated_by, sorted, is_stated}
use Rattle.mufom_judging.proofs.ended.Gathered.{end_alone}
use Rattle.mufom_read.proofs.stepping.PrefixLaws.{records-placed}
use Rattle.mufom_records.specs.declared.options.ReadOptions.{ReadOptions}

-- no block is open after an ended prefix
pub all-closed : (options : ReadOptions) (prefix : List Step) (s : Sliced options prefix) → open_kinds (records_of prefix) ≡ []
all-closed options prefix s =
    let are = sorted options prefix s in
    let before = ((header_of s.f ++ s.f.sections) ++ s.f.externals) ++ s.f.debug in
    ap (λ (l : List SpelledRecord). open_kinds l) s.records
    ∙ kinds-append [] ((before ++ s.f.loads) ++ s.f.trailer) (s.end ∷ [])
    ∙ ap (λ (k : List ℕ). kinds_from k (s.end ∷ []))
    (kinds-append [] (before ++ s.f.loads) s.f.trailer
    ∙ ap (λ (k : List ℕ). kinds_from k s.f.trailer)
    (kinds-append [] before s.f.loads ∙ ap (λ (k : List ℕ). kinds_from k s.f.loads) s.closed ∙ kinds-other data_part [] s.f.loads refl are.loads)
    ∙ kinds-other trailer_part [] s.f.trailer refl are.trailer)
    ∙ kinds-other end_part [] (s.end ∷ []) refl (end_alone s.end s.ends)

same_marks : (a b : List DebugItem) (all : List DebugMark) → marks_of a ≡ all → marks_of b ≡ all → a ≡ b
same_marks a b all first second = same_items a b (first ∙ sym second)

-- the debug items that are kept are those of the module
pub debug-kept : (options : ReadOptions) (f : Prefix) (prefix : List Step) → IsPrefixOf f prefix → (s : Sliced options prefix)
    → (stated_by options prefix s).debug ≡ f.contents.debug.items
debug-kept options f prefix is s =
    let all = records_of prefix in
    let opened_none : kinds_of (opened f.contents.debug) ≡ [] = ap (λ (l : List OpenBlock). kinds_of l) is.contents.debug.blocks ∙ kinds-open prefix
    ∙ all-closed options prefix s in
    let none : f.contents.debug.blocks ≡ [] = stacked-none f.contents.debug.blocks (no_kinds (opened f.contents.debug) opened_none) in
    let kept : marks_of f.contents.debug.items ≡ marks (indexes_in all) all =
    ap (λ (l : List code.OpenBlock). joined (map marks_to_block l) ++ marks_of f.contents.debug.items) (sym none)
    ∙ is.contents.debug.marks ∙ ap marks_so_far (sym (records-placed prefix)) ∙ marks-whole all is.follow in
    same_marks (stated_by options prefix s).debug f.contents.debug.items (marks (indexes_in all) all) (is_stated options prefix s).debug kept
  where
    no_kinds : (blocks : List OpenBlock) → kinds_of blocks ≡ [] → blocks ≡ []
    no_kinds [] h = refl
    no_kinds (b ∷ blocks) h = cc
