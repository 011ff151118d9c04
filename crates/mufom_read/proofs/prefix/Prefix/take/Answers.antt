use Rattle.std.proofs.Common.{◌≡◌, ◌∙◌, refl, ap, sym, subst, arith, List, [], ◌∷◌, ◌++◌, None, option_map}
use Rattle.mufom_read.specs.declared.prefix.Prefix.{Prefix}
use Rattle.mufom_judging.specs.Prefixes.{read, size_of, offset_records_of}
use Rattle.mufom_judging.specs.Faults.{record_fault, OpenBlock, ends_badly}
use Rattle.mufom_read.specs.Kept.{is_new, record_of_seen, as_fault}
use Rattle.mufom_read.specs.PrefixOfCode.{IsPrefixOf, as_location}
use Rattle.mufom_read.proofs.stepping.Add.{addable, follows-at, room}
use Rattle.mufom_read.proofs.stepping.PrefixLaws.{next-of, prefix-add}
use Rattle.mufom_read.proofs.stepping.PartBytes.{record-bytes}
use Rattle.mufom_read.proofs.prefix.Prefix.take.Goals as goal

pub add-requires-clause-room : goal.add-requires-clause-room
add-requires-clause-room c = room c.args.self.now c.requires.known.0 c.requires.known.1 (omega (arith, c.requires.fits))

pub add-requires-clause-new : goal.add-requires-clause-new
add-requires-clause-new c =
    let prefix = c.requires.known.0 in
    let is = c.requires.known.1 in
    let clean = sym (c.record_fault.ensures prefix is (sym (c.as_ref.ensures.value ∙ c.in_ok-tree.ensures))) ∙ ap (option_map as_fault) c.in-None.is in
    ap (λ t. is_new t c.args.next.now.row.now) is.tables ∙ (addable prefix c.args.place c.args.self.now.size (record_of_seen c.args.next.now)
    c.requires.placed clean).new

pub add-requires-clause-kind : goal.add-requires-clause-kind
add-requires-clause-kind c =
    let prefix = c.requires.known.0 in
    let is = c.requires.known.1 in
    let clean = sym (c.record_fault.ensures prefix is (sym (c.as_ref.ensures.value ∙ c.in_ok-tree.ensures))) ∙ ap (option_map as_fault) c.in-None.is in
    (addable prefix c.args.place c.args.self.now.size (record_of_seen c.args.next.now) c.requires.placed clean).kind

pub add-requires-clause-nested : goal.add-requires-clause-nested
add-requires-clause-nested c =
    let prefix = c.requires.known.0 in
    let is = c.requires.known.1 in
    let clean = sym (c.record_fault.ensures prefix is (sym (c.as_ref.ensures.value ∙ c.in_ok-tree.ensures))) ∙ ap (option_map as_fault) c.in-None.is in
    ap (λ (bs : List OpenBlock). ends_badly bs c.args.next.now.row.now) is.contents.debug.blocks
    ∙ (addable prefix c.args.place c.args.self.now.size (record_of_seen c.args.next.now) c.requires.placed clean).nested

pub add-requires-clause-known : goal.add-requires-clause-known
add-requires-clause-known c =
    let prefix = c.requires.known.0 in
    let is = c.requires.known.1 in
    let p = record_of_seen c.args.next.now in
    let clean = sym (c.record_fault.ensures prefix is (sym (c.as_ref.ensures.value ∙ c.in_ok-tree.ensures))) ∙ ap (option_map as_fault) c.in-None.is in
    (offset_records_of prefix, next-of c.args.self.now prefix p is (follows-at prefix c.args.place c.args.self.now.size p c.requires.placed clean))

pub returns-in_ok-add-in-None : goal.returns-in_ok-add-in-None
returns-in_ok-add-in-None c = λ prefix is at.
    let p = record_of_seen c.args.next.now in
    let clean = sym (c.record_fault.ensures prefix is (sym (c.as_ref.ensures.value ∙ c.in_ok-tree.ensures))) ∙ ap (option_map as_fault) c.in-None.is in
    let fits = addable prefix c.args.place c.args.self.now.size p c.requires.placed clean in
    let follows = follows-at prefix c.args.place c.args.self.now.size p c.requires.placed clean in
    let next = next-of c.args.self.now prefix p is follows in
    let here : record_fault prefix (as_location c.args.place) (size_of prefix) p ≡ None =
    ap (λ n. record_fault prefix (as_location c.args.place) n p) (sym is.size) ∙ clean in (
      refl,
      ap (λ pl. record_fault prefix pl (size_of prefix) p) (sym at) ∙ here,
      subst (λ (f : Prefix). IsPrefixOf f (prefix ++ read (size_of prefix) p ∷ [])) (sym c.in_ok-add-in-None.ensures.added)
          (prefix-add c.args.self.now prefix c.args.next.now.start p c.add.new.self is c.requires.some c.requires.start c.in_ok-add-in-None.ensures.location
          (c.in_ok-add-in-None.ensures.contents (offset_records_of prefix) next) fits follows
          (record-bytes prefix c.args.place p is.count is.begun (fits.ordered is.ordered) c.requires.placed at here)),
    )
