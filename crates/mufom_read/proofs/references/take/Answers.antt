use Rattle.std.proofs.Common.{refl}
use Rattle.mufom_names.specs.declared.name.Weak.{Weak}
use Rattle.mufom_read.specs.Kept.{record_of_seen}
use Rattle.mufom_read.proofs.so_far.PublicLaws.{on_ok, reference-within, weak-named, reference-note-named, reference-taken, weak-taken}
use Rattle.mufom_read.proofs.so_far.PublicLaws.{reference-note-taken, no-reference-row, other-reference-taken}
use Rattle.mufom_read.proofs.references.take.Goals as goal

pub returns-in_ok-name-in-ReferenceName : goal.returns-in_ok-name-in-ReferenceName
returns-in_ok-name-in-ReferenceName c = on_ok _ _ c.add.result (λ list. λ ps before.
    reference-taken c.args.references.now.items c.add.new.references.items c.args.table.now ps (record_of_seen c.args.seen.now) before
    c.in-ReferenceName.field-0 c.in-ReferenceName.name _ c.in-ReferenceName.is c.in_ok-name-in-ReferenceName.ensures list) c.add.ensures

pub declared_position-position-requires : goal.declared_position-position-requires
declared_position-position-requires c =
    weak-named c.args.references.now.items c.args.references.now.items c.args.table.now c.requires.known.0 (record_of_seen c.args.seen.now) c.requires.known.1
    c.in-WeakReference.index c.in-WeakReference.size c.in-WeakReference.default c.in-WeakReference.is

pub set_weak-requires : goal.set_weak-requires
set_weak-requires c =
    reference-within c.args.references.now.items c.args.references.now.items c.args.table.now c.requires.known.0 (record_of_seen c.args.seen.now)
    c.requires.known.1 c.declared_position-position.result c.declared_position-position.ensures.within

pub returns-in-WeakReference : goal.returns-in-WeakReference
returns-in-WeakReference c = λ ps before.
    let weak : Weak = record { size = c.in-WeakReference.size; default = c.unwrap_or.result } in
    weak-taken c.args.references.now.items c.set_weak.new.references.items c.args.table.now ps (record_of_seen c.args.seen.now) before
    c.in-WeakReference.index c.in-WeakReference.size c.in-WeakReference.default weak c.declared_position-position.result c.in-WeakReference.is
    (λ k. record { size = c.in-WeakReference.size; default = c.unwrap_or.ensures k })
    c.declared_position-position.ensures.there c.declared_position-position.ensures.distinct c.declared_position-position.ensures.within c.set_weak.ensures

pub declared_position-position-requires-in-ReferenceNote : goal.declared_position-position-requires-in-ReferenceNote
declared_position-position-requires-in-ReferenceNote c =
    reference-note-named c.args.references.now.items c.args.references.now.items c.args.table.now c.requires.known.0 (record_of_seen c.args.seen.now)
    c.requires.known.1
    c.in-ReferenceNote.index c.in-ReferenceNote.type_index c.in-ReferenceNote.attribute c.in-ReferenceNote.numbers c.in-ReferenceNote.is

pub push_note-requires : goal.push_note-requires
push_note-requires c =
    reference-within c.args.references.now.items c.args.references.now.items c.args.table.now c.requires.known.0 (record_of_seen c.args.seen.now)
    c.requires.known.1
    c.declared_position-position-in-ReferenceNote.result c.declared_position-position-in-ReferenceNote.ensures.within

pub returns-in_ok-note-in-ReferenceNote : goal.returns-in_ok-note-in-ReferenceNote
returns-in_ok-note-in-ReferenceNote c = on_ok _ _ c.push_note.result (λ list. λ ps before.
    let at = c.declared_position-position-in-ReferenceNote in
    reference-note-taken c.args.references.now.items c.push_note.new.references.items c.args.table.now ps (record_of_seen c.args.seen.now) before
    c.in-ReferenceNote.index c.in-ReferenceNote.type_index c.in-ReferenceNote.attribute c.in-ReferenceNote.numbers _ at.result c.in-ReferenceNote.is
    c.in_ok-note-in-ReferenceNote.ensures
    at.ensures.there at.ensures.distinct at.ensures.within list) c.push_note.ensures

pub returns-in_default : goal.returns-in_default
returns-in_default c = λ ps before.
    let other = no-reference-row c.args.seen.now.row.now c.in_default.not-ReferenceName c.in_default.not-WeakReference c.in_default.not-ReferenceNote in
    other-reference-taken c.args.references.now.items c.args.references.now.items c.args.table.now ps (record_of_seen c.args.seen.now) before other refl
