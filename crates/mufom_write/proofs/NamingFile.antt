-- A written form declares each index once, and names none that is not declared.
use Rattle.std.proofs.Common.{◌≡◌, false, [], ◌++◌}
use Rattle.std.specs.List.{list_any}
use Rattle.mufom_debug.specs.Marks.{marks_of}
use Rattle.mufom_module.specs.declared.module.Parts.{Parts}
use Rattle.mufom_module.specs.Contents.{placed_loads}
use Rattle.mufom_module.specs.SpelledRecords.{start_address, is_assigned}
use Rattle.mufom_module.specs.Grammar.{HasNames}
use Rattle.mufom_module.specs.Defects.{loads_nowhere}
use Rattle.mufom_write.proofs.Laying.{records_from}
use Rattle.mufom_write.proofs.SectionRecords.{section_records}
use Rattle.mufom_write.proofs.NameRecords.{external_records}
use Rattle.mufom_write.proofs.DebugRecords.{mark_records}
use Rattle.mufom_write.proofs.LoadRecords.{loads_records, start_records}
use Rattle.mufom_write.proofs.CutFile.{IsFittingModule, file_of}
use Rattle.mufom_write.proofs.Fitting.{IsInside}
use Rattle.mufom_write.proofs.Naming.{follow-append, unstated-append, section_part-follows}
use Rattle.mufom_write.proofs.Known.{declare-after, plain-unstated}
use Rattle.mufom_write.proofs.NamingNames.{external_part-follows, prefix-declares, prefix-no_debug_names, prefix-no_start, values-known, values-stated}
use Rattle.mufom_write.proofs.NamingDebug.{debug_part-follows, declare-after_marks, marks-unstated}
use Rattle.mufom_write.proofs.NamingLoads.{loads-plain, data_part-follows, trailer-follows}

pub has-names : (m : Parts) → IsFittingModule m → IsInside m → list_any loads_nowhere (placed_loads m) ≡ false → HasNames (file_of m)
has-names m fits its placed =
    let s = records_from 0 section_records m.sections in
    let e = external_records m.names.publics m.names.references in
    let d = mark_records 0 (marks_of m.debug) in
    let l = loads_records m.loads in
    let t = start_records m.start in
    let entries = prefix-declares m in
    let after_debug = declare-after_marks m (s ++ e) 0 (marks_of m.debug) entries in
    let after_loads = declare-after m ((s ++ e) ++ d) l after_debug (loads-plain m.loads) in
    let unstated : is_assigned ((s ++ e) ++ d) start_address ≡ false =
    unstated-append (s ++ e) d start_address (prefix-no_start m) (marks-unstated 0 (marks_of m.debug) start_address) in
    record {
      follow = follow-append [] s (e ++ (d ++ (l ++ t))) (section_part-follows m.sections)
          (follow-append s e (d ++ (l ++ t)) (external_part-follows m.sections m.names.publics m.names.references)
          (follow-append (s ++ e) d (l ++ t) (debug_part-follows m (s
          ++ e) (marks_of m.debug) entries (prefix-no_debug_names m) fits.debug its.marks its.declared)
          (follow-append ((s ++ e) ++ d) l t (data_part-follows m ((s ++ e) ++ d) after_debug fits.loads its.places placed)
          (trailer-follows m (((s ++ e) ++ d) ++ l) m.start after_loads
          (unstated-append ((s ++ e) ++ d) l start_address unstated (plain-unstated l start_address (loads-plain m.loads))) fits.start its.start))));
      values = values-known m fits.publics its.values;
      valued = values-stated m.names.publics m.names.references;
    }
