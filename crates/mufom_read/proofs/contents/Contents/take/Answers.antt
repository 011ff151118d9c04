use Rattle.std.proofs.Common.{Some, ◌∙◌, sym, ap, option_map, is_some}
use Rattle.mufom_module.specs.SpelledRecords.{positioned}
use Rattle.mufom_module.specs.RecordParts.{is_this_part, section_part, external_part, debug_part, data_part, trailer_part}
use Rattle.mufom_read.specs.PartsOfCode.{as_part}
use Rattle.mufom_module.specs.Gathered.{references_of}
use Rattle.mufom_read.specs.Kept.{record_of_seen, indexes_by}
use Rattle.mufom_read.specs.NamesSoFar.{records_in}
use Rattle.mufom_read.proofs.so_far.PublicLaws.{on_ok, on_ok_both, records-more}
use Rattle.mufom_read.proofs.so_far.Contents.{names-same, layout-same, sections-same, publics-same, references-same, debug-same, loads-same}
use Rattle.mufom_read.proofs.so_far.Contents.{start-same, names-taken, layout-taken, debug-taken, loads-taken, start-taken, sections-before}
use Rattle.mufom_read.proofs.so_far.Contents.{publics-before, references-before}
use Rattle.mufom_read.proofs.contents.Contents.take.Goals as goal

pub returns-in-None : goal.returns-in-None
returns-in-None c = on_ok _ _ c.take.result (λ header. λ all before.
    let old = c.args.self.now in
    let t = c.args.tables.now in
    let start = c.args.seen.now.start in
    let p = record_of_seen c.args.seen.now in
    let part = sym c.part_of.ensures ∙ ap (option_map as_part) c.in-None.is in
    record {
      names = names-taken old t all start p before c.take.new.self header;
      layout = layout-taken old t all start p before c.take.new.self header;
      sections = sections-same old t all start p before (ap (is_this_part section_part) part);
      publics = publics-same old t all start p before (ap (is_this_part external_part) part);
      references = references-same old t all start p before (ap (is_this_part external_part) part);
      debug = debug-same old t all start p before (ap (is_this_part debug_part) part);
      loads = loads-same old t all start p before (ap (is_this_part data_part) part);
      start = start-same old t all start p before (ap (is_this_part trailer_part) part);
    }) c.take.ensures

pub returns-in-Some-Section : goal.returns-in-Some-Section
returns-in-Some-Section c = on_ok _ _ c.take-in-Some-Section.result (λ sections. λ all before.
    let old = c.args.self.now in
    let t = c.args.tables.now in
    let start = c.args.seen.now.start in
    let p = record_of_seen c.args.seen.now in
    let part = sym c.part_of.ensures ∙ ap (option_map as_part) (c.in-Some-Section.is ∙ ap (λ v. Some v) c.in-Some-Section.field-0-is) in
    record {
      names = names-same old t all start p before (ap is_some part);
      layout = layout-same old t all start p before (ap is_some part);
      sections = sections all (sections-before old t all start p before);
      publics = publics-same old t all start p before (ap (is_this_part external_part) part);
      references = references-same old t all start p before (ap (is_this_part external_part) part);
      debug = debug-same old t all start p before (ap (is_this_part debug_part) part);
      loads = loads-same old t all start p before (ap (is_this_part data_part) part);
      start = start-same old t all start p before (ap (is_this_part trailer_part) part);
    }) c.take-in-Some-Section.ensures

pub returns-in_ok-take-in-Some-External : goal.returns-in_ok-take-in-Some-External
returns-in_ok-take-in-Some-External c = on_ok _ _ c.take-in-Some-External-2.result (λ references. λ all before.
    let old = c.args.self.now in
    let t = c.args.tables.now in
    let start = c.args.seen.now.start in
    let p = record_of_seen c.args.seen.now in
    let part = sym c.part_of.ensures ∙ ap (option_map as_part) (c.in-Some-External.is ∙ ap (λ v. Some v) c.in-Some-External.field-0-is) in
    record {
      names = names-same old t all start p before (ap is_some part);
      layout = layout-same old t all start p before (ap is_some part);
      sections = sections-same old t all start p before (ap (is_this_part section_part) part);
      publics = c.in_ok-take-in-Some-External.ensures all (publics-before old t all start p before);
      references = references (records_in all) (references-before old t all start p before) ∙ ap references_of (sym (records-more all (start, p)));
      debug = debug-same old t all start p before (ap (is_this_part debug_part) part);
      loads = loads-same old t all start p before (ap (is_this_part data_part) part);
      start = start-same old t all start p before (ap (is_this_part trailer_part) part);
    }) c.take-in-Some-External-2.ensures

pub returns-in-Some-Debug : goal.returns-in-Some-Debug
returns-in-Some-Debug c = on_ok_both _ _ _ c.take-in-Some-Debug.result (λ marks blocks. λ all before.
    let old = c.args.self.now in
    let t = c.args.tables.now in
    let start = c.args.seen.now.start in
    let p = record_of_seen c.args.seen.now in
    let part = sym c.part_of.ensures ∙ ap (option_map as_part) (c.in-Some-Debug.is ∙ ap (λ v. Some v) c.in-Some-Debug.field-0-is) in
    record {
      names = names-same old t all start p before (ap is_some part);
      layout = layout-same old t all start p before (ap is_some part);
      sections = sections-same old t all start p before (ap (is_this_part section_part) part);
      publics = publics-same old t all start p before (ap (is_this_part external_part) part);
      references = references-same old t all start p before (ap (is_this_part external_part) part);
      debug = debug-taken old t all start p before c.take-in-Some-Debug.new.self marks blocks;
      loads = loads-same old t all start p before (ap (is_this_part data_part) part);
      start = start-same old t all start p before (ap (is_this_part trailer_part) part);
    }) c.take-in-Some-Debug.ensures.marks c.take-in-Some-Debug.ensures.blocks

pub returns-in-Some-Data : goal.returns-in-Some-Data
returns-in-Some-Data c = on_ok _ _ c.take-in-Some-Data.result (λ loads. λ all before.
    let old = c.args.self.now in
    let t = c.args.tables.now in
    let start = c.args.seen.now.start in
    let p = record_of_seen c.args.seen.now in
    let part = sym c.part_of.ensures ∙ ap (option_map as_part) (c.in-Some-Data.is ∙ ap (λ v. Some v) c.in-Some-Data.field-0-is) in
    record {
      names = names-same old t all start p before (ap is_some part);
      layout = layout-same old t all start p before (ap is_some part);
      sections = sections-same old t all start p before (ap (is_this_part section_part) part);
      publics = publics-same old t all start p before (ap (is_this_part external_part) part);
      references = references-same old t all start p before (ap (is_this_part external_part) part);
      debug = debug-same old t all start p before (ap (is_this_part debug_part) part);
      loads = loads-taken old t all start p before c.take-in-Some-Data.new.self c.maus-maus.result (ap (is_this_part data_part) part) c.maus-maus.ensures loads;
      start = start-same old t all start p before (ap (is_this_part trailer_part) part);
    }) c.take-in-Some-Data.ensures

pub returns-in-Some-Trailer : goal.returns-in-Some-Trailer
returns-in-Some-Trailer c = λ all before.
    let old = c.args.self.now in
    let t = c.args.tables.now in
    let start = c.args.seen.now.start in
    let p = record_of_seen c.args.seen.now in
    let part = sym c.part_of.ensures ∙ ap (option_map as_part) (c.in-Some-Trailer.is ∙ ap (λ v. Some v) c.in-Some-Trailer.field-0-is) in
    record {
      names = names-same old t all start p before (ap is_some part);
      layout = layout-same old t all start p before (ap is_some part);
      sections = sections-same old t all start p before (ap (is_this_part section_part) part);
      publics = publics-same old t all start p before (ap (is_this_part external_part) part);
      references = references-same old t all start p before (ap (is_this_part external_part) part);
      debug = debug-same old t all start p before (ap (is_this_part debug_part) part);
      loads = loads-same old t all start p before (ap (is_this_part data_part) part);
      start = start-taken old t all start p before c.renamed.result (ap (is_this_part trailer_part) part) (c.renamed.ensures
          ∙ ap (option_map (positioned (indexes_by t))) c.requires.tree);
    }

pub returns-in-Some-End : goal.returns-in-Some-End
returns-in-Some-End c = λ all before.
    let old = c.args.self.now in
    let t = c.args.tables.now in
    let start = c.args.seen.now.start in
    let p = record_of_seen c.args.seen.now in
    let part = sym c.part_of.ensures ∙ ap (option_map as_part) (c.in-Some-End.is ∙ ap (λ v. Some v) c.in-Some-End.field-0-is) in
    record {
      names = names-same old t all start p before (ap is_some part);
      layout = layout-same old t all start p before (ap is_some part);
      sections = sections-same old t all start p before (ap (is_this_part section_part) part);
      publics = publics-same old t all start p before (ap (is_this_part external_part) part);
      references = references-same old t all start p before (ap (is_this_part external_part) part);
      debug = debug-same old t all start p before (ap (is_this_part debug_part) part);
      loads = loads-same old t all start p before (ap (is_this_part data_part) part);
      start = start-same old t all start p before (ap (is_this_part trailer_part) part);
    }
