use Rattle.std.proofs.Common.{sym, ap, refl, ◌∙◌}
use Rattle.std.specs.Prelude.{option_map}
use Rattle.mufom_records.specs.Parts.{expression_of}
use Rattle.mufom_module.specs.SpelledRecords.{is_public_value, tree_in}
use Rattle.mufom_read.specs.Kept.{record_of_seen}
use Rattle.mufom_read.proofs.so_far.PublicLaws.{on_ok, on_ok_both, list-within, marks-within, value-named, note-named, name-taken, value-taken}
use Rattle.mufom_read.proofs.so_far.PublicLaws.{note-taken, no-public-row, other-taken}
use Rattle.mufom_read.proofs.publics.Publics.take.Goals as goal

pub returns-in_ok-name-in-PublicName : goal.returns-in_ok-name-in-PublicName
returns-in_ok-name-in-PublicName c = on_ok_both _ _ _ c.add.result (λ list marks. λ all before.
    name-taken c.args.self.now c.add.new.self c.args.table.now all c.args.seen.now.start (record_of_seen c.args.seen.now) before
    c.in-PublicName.field-0 c.in-PublicName.name _ c.in-PublicName.is c.in_ok-name-in-PublicName.ensures list marks) c.add.ensures.list c.add.ensures.marks

pub declared_position-position-requires : goal.declared_position-position-requires
declared_position-position-requires c =
    value-named c.args.self.now c.args.self.now c.args.table.now c.requires.known.0 c.args.seen.now.start (record_of_seen c.args.seen.now)
    c.requires.known.1 c.in-PublicValue.index c.in-PublicValue.field-1 c.in-PublicValue.is

pub stated-requires : goal.stated-requires
stated-requires c =
    let p = record_of_seen c.args.seen.now in (
      tree_in p c.in-PublicValue.field-1,
      c.requires.value (ap is_public_value c.in-PublicValue.is)
          ∙ ap (λ row. option_map (tree_in p) (expression_of row)) c.in-PublicValue.is,
    )

pub give-requires-clause-list : goal.give-requires-clause-list
give-requires-clause-list c =
    list-within c.args.self.now c.args.self.now c.args.table.now c.requires.known.0 c.args.seen.now.start (record_of_seen c.args.seen.now)
    c.requires.known.1 c.declared_position-position.result c.declared_position-position.ensures.within

pub give-requires-clause-marks : goal.give-requires-clause-marks
give-requires-clause-marks c =
    marks-within c.args.self.now c.args.self.now c.args.table.now c.requires.known.0 c.args.seen.now.start (record_of_seen c.args.seen.now)
    c.requires.known.1 c.declared_position-position.result c.declared_position-position.ensures.within

pub returns-in-PublicValue : goal.returns-in-PublicValue
returns-in-PublicValue c = λ all before.
    let p = record_of_seen c.args.seen.now in
    value-taken c.args.self.now c.give.new.self c.args.table.now all c.args.seen.now.start p before c.in-PublicValue.index c.in-PublicValue.field-1
    c.stated.result c.declared_position-position.result c.in-PublicValue.is
    (sym (c.requires.value (ap is_public_value c.in-PublicValue.is))
    ∙ c.stated.ensures) c.declared_position-position.ensures.there c.declared_position-position.ensures.distinct c.declared_position-position.ensures.within
    c.give.ensures.list c.give.ensures.marks

pub declared_position-position-requires-in-PublicNote : goal.declared_position-position-requires-in-PublicNote
declared_position-position-requires-in-PublicNote c =
    note-named c.args.self.now c.args.self.now c.args.table.now c.requires.known.0 c.args.seen.now.start (record_of_seen c.args.seen.now) c.requires.known.1
    c.in-PublicNote.index c.in-PublicNote.type_index c.in-PublicNote.attribute c.in-PublicNote.numbers c.in-PublicNote.is

pub push_note-requires : goal.push_note-requires
push_note-requires c =
    list-within c.args.self.now c.args.self.now c.args.table.now c.requires.known.0 c.args.seen.now.start (record_of_seen c.args.seen.now)
    c.requires.known.1 c.declared_position-position-in-PublicNote.result c.declared_position-position-in-PublicNote.ensures.within

pub returns-in_ok-note-in-PublicNote : goal.returns-in_ok-note-in-PublicNote
returns-in_ok-note-in-PublicNote c = on_ok _ _ c.push_note.result (λ list. λ all before.
    let at = c.declared_position-position-in-PublicNote in
    note-taken c.args.self.now (record c.args.self.now { list = c.push_note.new.publics }) c.args.table.now all c.args.seen.now.start
    (record_of_seen c.args.seen.now) before
    c.in-PublicNote.index c.in-PublicNote.type_index c.in-PublicNote.attribute c.in-PublicNote.numbers _ at.result c.in-PublicNote.is
    c.in_ok-note-in-PublicNote.ensures
    at.ensures.there at.ensures.distinct at.ensures.within list refl) c.push_note.ensures

pub returns-in_default : goal.returns-in_default
returns-in_default c = λ all before.
    let other = no-public-row c.args.seen.now.row.now c.in_default.not-PublicName c.in_default.not-PublicValue c.in_default.not-PublicNote in
    other-taken c.args.self.now c.args.self.now c.args.table.now all c.args.seen.now.start (record_of_seen c.args.seen.now) before other refl
