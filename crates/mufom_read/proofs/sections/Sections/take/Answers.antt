use Rattle.std.proofs.Common.{None, refl}
use Rattle.mufom_records.specs.declared.record.Record.TheVariants as r
use Rattle.mufom_read.specs.Kept.{record_of_seen}
use Rattle.mufom_read.proofs.so_far.PublicLaws.{on_ok_both}
use Rattle.mufom_read.proofs.so_far.SectionLaws.{section-within, section-named, type-taken, size-taken, align-taken, base-taken, no-section-row, others-taken}
use Rattle.mufom_read.proofs.sections.Sections.take.Goals as goal

pub returns-in_ok-copy_text-in-SectionType : goal.returns-in_ok-copy_text-in-SectionType
returns-in_ok-copy_text-in-SectionType c = on_ok_both _ _ _ c.add.result (λ list starts. λ all before.
    type-taken c.args.self.now c.add.new.self c.args.table.now all c.args.seen.now.start (record_of_seen c.args.seen.now) before
    c.in-SectionType.field-0 c.in-SectionType.absolute c.in-SectionType.letter c.in-SectionType.name _ _ _ _ c.in-SectionType.is
    (λ k. record {
      name = c.in_ok-copy_text-in-SectionType.ensures k;
      absolute = c.in-SectionType.absolute;
      purpose = c.optional_purpose.ensures k;
      size = 0;
      align = 1;
      base = None;
    }) list starts) c.add.ensures.list c.add.ensures.starts

pub declared_position-position-requires : goal.declared_position-position-requires
declared_position-position-requires c =
    section-named c.args.self.now c.args.self.now c.args.table.now c.requires.known.0 c.args.seen.now.start (record_of_seen c.args.seen.now) c.requires.known.1
    (r.SectionSize c.in-SectionSize.index c.in-SectionSize.size) c.in-SectionSize.index c.in-SectionSize.is refl

pub set_size-requires : goal.set_size-requires
set_size-requires c =
    section-within c.args.self.now c.args.self.now c.args.table.now c.requires.known.0 c.args.seen.now.start (record_of_seen c.args.seen.now)
    c.requires.known.1 c.declared_position-position.result c.declared_position-position.ensures.within

pub returns-in-SectionSize : goal.returns-in-SectionSize
returns-in-SectionSize c = λ all before.
    let at = c.declared_position-position in
    size-taken c.args.self.now (record c.args.self.now { list = c.set_size.new.sections }) c.args.table.now all c.args.seen.now.start
    (record_of_seen c.args.seen.now) before
    c.in-SectionSize.index c.in-SectionSize.size at.result c.in-SectionSize.is at.ensures.there at.ensures.distinct at.ensures.within c.set_size.ensures refl

pub declared_position-position-requires-in-Alignment : goal.declared_position-position-requires-in-Alignment
declared_position-position-requires-in-Alignment c =
    section-named c.args.self.now c.args.self.now c.args.table.now c.requires.known.0 c.args.seen.now.start (record_of_seen c.args.seen.now) c.requires.known.1
    (r.Alignment c.in-Alignment.index c.in-Alignment.align c.in-Alignment.field-2) c.in-Alignment.index c.in-Alignment.is refl

pub set_align-requires : goal.set_align-requires
set_align-requires c =
    section-within c.args.self.now c.args.self.now c.args.table.now c.requires.known.0 c.args.seen.now.start (record_of_seen c.args.seen.now)
    c.requires.known.1 c.declared_position-position-in-Alignment.result c.declared_position-position-in-Alignment.ensures.within

pub returns-in-Alignment : goal.returns-in-Alignment
returns-in-Alignment c = λ all before.
    let at = c.declared_position-position-in-Alignment in
    align-taken c.args.self.now (record c.args.self.now { list = c.set_align.new.sections }) c.args.table.now all c.args.seen.now.start
    (record_of_seen c.args.seen.now) before
    c.in-Alignment.index c.in-Alignment.align c.in-Alignment.field-2 at.result c.in-Alignment.is at.ensures.there at.ensures.distinct
    at.ensures.within c.set_align.ensures refl

pub declared_position-position-requires-in-SectionBase : goal.declared_position-position-requires-in-SectionBase
declared_position-position-requires-in-SectionBase c =
    section-named c.args.self.now c.args.self.now c.args.table.now c.requires.known.0 c.args.seen.now.start (record_of_seen c.args.seen.now) c.requires.known.1
    (r.SectionBase c.in-SectionBase.index c.in-SectionBase.base) c.in-SectionBase.index c.in-SectionBase.is refl

pub set_base-requires : goal.set_base-requires
set_base-requires c =
    section-within c.args.self.now c.args.self.now c.args.table.now c.requires.known.0 c.args.seen.now.start (record_of_seen c.args.seen.now)
    c.requires.known.1 c.declared_position-position-in-SectionBase.result c.declared_position-position-in-SectionBase.ensures.within

pub returns-in-SectionBase : goal.returns-in-SectionBase
returns-in-SectionBase c = λ all before.
    let at = c.declared_position-position-in-SectionBase in
    base-taken c.args.self.now (record c.args.self.now { list = c.set_base.new.sections }) c.args.table.now all c.args.seen.now.start
    (record_of_seen c.args.seen.now) before
    c.in-SectionBase.index c.in-SectionBase.base at.result c.in-SectionBase.is at.ensures.there at.ensures.distinct at.ensures.within c.set_base.ensures refl

pub returns-in_default : goal.returns-in_default
returns-in_default c = λ all before.
    let other = no-section-row c.args.seen.now.row.now c.in_default.not-SectionType c.in_default.not-SectionSize c.in_default.not-Alignment
    c.in_default.not-SectionBase in
    others-taken c.args.self.now c.args.self.now c.args.table.now all c.args.seen.now.start (record_of_seen c.args.seen.now) before other refl
