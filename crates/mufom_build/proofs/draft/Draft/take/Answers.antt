use Rattle.std.proofs.Common.{ap, refl}
use Rattle.mufom_build.specs.Drafts.{IsPut}
use Rattle.mufom_build.specs.Rows.{item_row}
use Rattle.mufom_build.specs.Shown.{shown}
use Rattle.mufom_build.proofs.Drafts.{taken, item_is_put}
use Rattle.mufom_build.proofs.draft.Draft.take.Goals as goal

pub returns-in_ok-take_section-in-Section : goal.returns-in_ok-take_section-in-Section
returns-in_ok-take_section-in-Section c = taken c.args.self.now _ c.args.row _ c.requires.kept c.requires.may (ap shown c.in-Section.is)
    c.in_ok-take_section-in-Section.ensures

pub returns-in_ok-take_public-in-Public : goal.returns-in_ok-take_public-in-Public
returns-in_ok-take_public-in-Public c = taken c.args.self.now _ c.args.row _ c.requires.kept c.requires.may (ap shown c.in-Public.is)
    c.in_ok-take_public-in-Public.ensures

pub returns-in_ok-take_reference-in-Reference : goal.returns-in_ok-take_reference-in-Reference
returns-in_ok-take_reference-in-Reference c = taken c.args.self.now _ c.args.row _ c.requires.kept c.requires.may (ap shown c.in-Reference.is)
    c.in_ok-take_reference-in-Reference.ensures

pub returns-in_ok-take_note-in-Note : goal.returns-in_ok-take_note-in-Note
returns-in_ok-take_note-in-Note c = taken c.args.self.now _ c.args.row _ c.requires.kept c.requires.may (ap shown c.in-Note.is)
    c.in_ok-take_note-in-Note.ensures

pub returns-in_ok-take_debug_note-in-DebugNote : goal.returns-in_ok-take_debug_note-in-DebugNote
returns-in_ok-take_debug_note-in-DebugNote c = taken c.args.self.now _ c.args.row _ c.requires.kept c.requires.may (ap shown c.in-DebugNote.is)
    c.in_ok-take_debug_note-in-DebugNote.ensures

pub returns-in_ok-take_block-in-Block : goal.returns-in_ok-take_block-in-Block
returns-in_ok-take_block-in-Block c = taken c.args.self.now _ c.args.row _ c.requires.kept c.requires.may (ap shown c.in-Block.is)
    c.in_ok-take_block-in-Block.ensures

pub returns-in_ok-take_end-in-End : goal.returns-in_ok-take_end-in-End
returns-in_ok-take_end-in-End c = taken c.args.self.now _ c.args.row _ c.requires.kept c.requires.may (ap shown c.in-End.is)
    c.in_ok-take_end-in-End.ensures

pub returns-in_ok-take_name-in-Name : goal.returns-in_ok-take_name-in-Name
returns-in_ok-take_name-in-Name c = taken c.args.self.now _ c.args.row _ c.requires.kept c.requires.may (ap shown c.in-Name.is)
    c.in_ok-take_name-in-Name.ensures

pub returns-in_ok-take_value-in-Value : goal.returns-in_ok-take_value-in-Value
returns-in_ok-take_value-in-Value c = taken c.args.self.now _ c.args.row _ c.requires.kept c.requires.may (ap shown c.in-Value.is)
    c.in_ok-take_value-in-Value.ensures

pub returns-in_ok-take_load-in-Select : goal.returns-in_ok-take_load-in-Select
returns-in_ok-take_load-in-Select c = taken c.args.self.now _ c.args.row _ c.requires.kept c.requires.may (ap shown c.in-Select.is) (record {
  sketch = c.in_ok-take_load-in-Select.ensures.sketch;
  outline = c.in_ok-take_load-in-Select.ensures.outline;
})

pub returns-in_ok-take_load-in-Counter : goal.returns-in_ok-take_load-in-Counter
returns-in_ok-take_load-in-Counter c = taken c.args.self.now _ c.args.row _ c.requires.kept c.requires.may (ap shown c.in-Counter.is) (record {
  sketch = c.in_ok-take_load-in-Counter.ensures.sketch;
  outline = c.in_ok-take_load-in-Counter.ensures.outline;
})

pub returns-in_ok-take_item-in-Item : goal.returns-in_ok-take_item-in-Item
returns-in_ok-take_item-in-Item c = taken c.args.self.now _ c.args.row _ c.requires.kept c.requires.may (ap shown c.in-Item.is) (record {
  sketch = item_is_put c.args.self.now c.take_item.new.self c.in-Item.item c.in_ok-take_item-in-Item.ensures.sketch;
  outline = c.in_ok-take_item-in-Item.ensures.outline;
})

pub returns-in-Repeat : goal.returns-in-Repeat
returns-in-Repeat c = taken c.args.self.now _ c.args.row _ c.requires.kept c.requires.may (ap shown c.in-Repeat.is)
    c.take_repeat.ensures

pub returns-in-Start : goal.returns-in-Start
returns-in-Start c = taken c.args.self.now _ c.args.row _ c.requires.kept c.requires.may (ap shown c.in-Start.is) (record {
  sketch = refl;
  outline = c.requires.kept.outline;
})
