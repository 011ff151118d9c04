use Rattle.std.proofs.Common.{◌≡◌, length, get_or, ap, sym, ◌∙◌, arith}
use Rattle.mufom_outcome.specs.declared.outcome.Outcome.TheVariants as outcome
use Rattle.mufom_origins.specs.Words.{all_files, own_files}
use Rattle.mufom_task.proofs.InputLaws.{all_read, files_stop, have_read_more, names_before, names_more, names_split, stop_opens}
use Rattle.mufom_task.proofs.NameLaws.{files-listed}
use Rattle.mufom_task.proofs.inputs.read_files.Goals as goal

pub returns-in-Err-clause-stops : goal.returns-in-Err-clause-stops
returns-in-Err-clause-stops g c =
    let names = c.args.names.now in let i = c.loop-number.number in let d = c.index-names-number.result in
    let name = c.as_str-name.result.now in let inside = c.loop-number-test.true in
    let is : name ≡ get_or names i name = c.as_str-name.ensures ∙ c.index-names-number.is ∙ ap (get_or names i) (sym c.as_str-name.ensures) in
    files_stop c.args.options c.args.roots names i name c.loop-number.modules (all_files c.loop-number.files) c.loop-number.room
    (g.H.World.meaning c.args.host.now) (g.H.World.meaning c.loop-number.host) (g.H.World.meaning c.read_file.new.host)
    (g.H.World.faults c.args.host.now) (g.H.World.faults c.loop-number.host) (g.H.World.faults c.read_file.new.host) c.loop-number.invariant
    (names_more names i name inside is) (names_before names i name inside is) c.read_file.ensures.only.0 c.read_file.ensures.only.1
    c.read_file.ensures.only.2
    c.in-Err.stop (names_split names i name inside is) c.in-Err.ensures.stops

pub returns-in-Err-clause-opened : goal.returns-in-Err-clause-opened
returns-in-Err-clause-opened g c =
    let names = c.args.names.now in let i = c.loop-number.number in let d = c.index-names-number.result in
    let name = c.as_str-name.result.now in let inside = c.loop-number-test.true in
    let is : name ≡ get_or names i name = c.as_str-name.ensures ∙ c.index-names-number.is ∙ ap (get_or names i) (sym c.as_str-name.ensures) in
    stop_opens c.args.options c.args.roots names i name c.loop-number.modules (all_files c.loop-number.files) c.loop-number.room
    (g.H.World.meaning c.args.host.now) (g.H.World.meaning c.loop-number.host) (g.H.World.meaning c.read_file.new.host)
    (g.H.World.faults c.args.host.now) (g.H.World.faults c.loop-number.host) (g.H.World.faults c.read_file.new.host) c.loop-number.invariant
    (names_more names i name inside is) (names_before names i name inside is) c.read_file.ensures.only.0 c.read_file.ensures.only.1
    c.read_file.ensures.only.2
    c.in-Err.stop inside c.in-Err.ensures.stops c.read_file.ensures.opened

pub returns-in-Err-add_file-clause-opened : goal.returns-in-Err-add_file-clause-opened
returns-in-Err-add_file-clause-opened g c =
    let names = c.args.names.now in let i = c.loop-number.number in let d = c.index-names-number.result in
    let name = c.as_str-name.result.now in let inside = c.loop-number-test.true in
    let is : name ≡ get_or names i name = c.as_str-name.ensures ∙ c.index-names-number.is ∙ ap (get_or names i) (sym c.as_str-name.ensures) in
    stop_opens c.args.options c.args.roots names i name c.loop-number.modules (all_files c.loop-number.files) c.loop-number.room
    (g.H.World.meaning c.args.host.now) (g.H.World.meaning c.loop-number.host) (g.H.World.meaning c.read_file.new.host)
    (g.H.World.faults c.args.host.now) (g.H.World.faults c.loop-number.host) (g.H.World.faults c.read_file.new.host) c.loop-number.invariant
    (names_more names i name inside is) (names_before names i name inside is) c.read_file.ensures.only.0 c.read_file.ensures.only.1
    c.read_file.ensures.only.2
    outcome.NoMemory inside tt c.read_file.ensures.opened

pub loop-number-preserved : goal.loop-number-preserved
loop-number-preserved g c =
    let names = c.args.names.now in let i = c.loop-number.number in let d = c.index-names-number.result in
    let name = c.as_str-name.result.now in let inside = c.loop-number-test.true in
    let is : name ≡ get_or names i name = c.as_str-name.ensures ∙ c.index-names-number.is ∙ ap (get_or names i) (sym c.as_str-name.ensures) in
    let read = c.in-Ok.read in
    rw (c.in-Ok-add_file.ensures.modules, c.in-Ok-add_file.ensures.files, c.saturating_sub-room.ensures)
    (have_read_more c.args.options c.args.roots names i name c.loop-number.modules (all_files c.loop-number.files) c.loop-number.room
    (g.H.World.meaning c.args.host.now) (g.H.World.meaning c.loop-number.host) (g.H.World.meaning c.read_file.new.host)
    (g.H.World.faults c.args.host.now) (g.H.World.faults c.loop-number.host) (g.H.World.faults c.read_file.new.host) c.loop-number.invariant
    (names_more names i name inside is) (names_before names i name inside is) c.read_file.ensures.only.0 c.read_file.ensures.only.1
    c.read_file.ensures.only.2
    read (own_files (record { number = i; name = name; listing = read.listing; modules = length read.modules }))
    (λ members named many. files-listed i name read.listing members read.modules named many) c.in-Ok-add_file.ensures.valid
    c.in-Ok.ensures.weighs c.in-Ok.ensures.one c.in-Ok.ensures.read c.in-Ok.ensures.opens inside)

pub returns-clause-read : goal.returns-clause-read
returns-clause-read g c =
    (all_read c.args.options c.args.roots c.args.names.now c.loop-number.number c.loop-number.modules (all_files c.loop-number.files) c.loop-number.room
    (g.H.World.meaning c.args.host.now) (g.H.World.meaning c.loop-number.host) (g.H.World.faults c.args.host.now) (g.H.World.faults c.loop-number.host)
    c.loop-number.invariant (omega (arith, c.loop-number-test.false))).come

pub returns-clause-files : goal.returns-clause-files
returns-clause-files g c =
    (all_read c.args.options c.args.roots c.args.names.now c.loop-number.number c.loop-number.modules (all_files c.loop-number.files) c.loop-number.room
    (g.H.World.meaning c.args.host.now) (g.H.World.meaning c.loop-number.host) (g.H.World.faults c.args.host.now) (g.H.World.faults c.loop-number.host)
    c.loop-number.invariant (omega (arith, c.loop-number-test.false))).files

pub returns-clause-count : goal.returns-clause-count
returns-clause-count g c =
    (all_read c.args.options c.args.roots c.args.names.now c.loop-number.number c.loop-number.modules (all_files c.loop-number.files) c.loop-number.room
    (g.H.World.meaning c.args.host.now) (g.H.World.meaning c.loop-number.host) (g.H.World.faults c.args.host.now) (g.H.World.faults c.loop-number.host)
    c.loop-number.invariant (omega (arith, c.loop-number-test.false))).count

pub returns-clause-all : goal.returns-clause-all
returns-clause-all g c =
    (all_read c.args.options c.args.roots c.args.names.now c.loop-number.number c.loop-number.modules (all_files c.loop-number.files) c.loop-number.room
    (g.H.World.meaning c.args.host.now) (g.H.World.meaning c.loop-number.host) (g.H.World.faults c.args.host.now) (g.H.World.faults c.loop-number.host)
    c.loop-number.invariant (omega (arith, c.loop-number-test.false))).opened

pub returns-clause-light : goal.returns-clause-light
returns-clause-light g c =
    (all_read c.args.options c.args.roots c.args.names.now c.loop-number.number c.loop-number.modules (all_files c.loop-number.files) c.loop-number.room
    (g.H.World.meaning c.args.host.now) (g.H.World.meaning c.loop-number.host) (g.H.World.faults c.args.host.now) (g.H.World.faults c.loop-number.host)
    c.loop-number.invariant (omega (arith, c.loop-number-test.false))).light
