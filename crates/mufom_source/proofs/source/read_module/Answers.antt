use Rattle.std.proofs.Common.{◌∙◌, ap, subst, refl, Err}
use Rattle.std.proofs.lemmas.Result.{err_from_is_err_and}
use Rattle.mufom_source.specs.declared.source.SourceStop.TheVariants as stop
use Rattle.mufom_source.specs.Source.{ReadsModule, ReadsNoFurther}
use Rattle.mufom_source.proofs.Feeding.{stopped-reads, stopped-refused, stopped-past, asked-stopped, asked-module, asked-ok, asked-refused}
use Rattle.mufom_source.proofs.Feeding.{asked-past, same-stop, stop-no-fault, none-further}
use Rattle.mufom_source.proofs.source.read_module.Goals as goal
use Rattle.mufom_records.specs.declared.options.ReadOptions.{ReadOptions}

pub returns-in_default-new-clause-limit : goal.returns-in_default-new-clause-limit
returns-in_default-new-clause-limit g c =
    let before = (g.S.World.meaning c.args.source.now).left in
    stopped-past c.args.options c.args.limit before before _ stop.NoMemory refl tt

pub returns-in_err-length-clause-reads : goal.returns-in_err-length-clause-reads
returns-in_err-length-clause-reads g c =
    let before = (g.S.World.meaning c.args.source.now).left in
    let after = (g.S.World.meaning c.read_all.new.source).left in
    let p = err_from_is_err_and c.from_residual.result c.from_residual.ensures.1 in
    let flag = c.read_all.ensures.options ∙ c.in-Ok-new.ensures.options in
    stopped-reads c.args.options c.args.limit before after c.from_residual.result c.in_err-length.field-0.0 (p.1 ∙ ap Err p.2)
    (subst (λ (d : ReadOptions). ReadsModule d c.args.limit before after (Err c.in_err-length.field-0.0)) flag c.in_err-length.ensures.read)

pub returns-in_err-length-clause-refused : goal.returns-in_err-length-clause-refused
returns-in_err-length-clause-refused g c = λ place reason.
    let before = (g.S.World.meaning c.args.source.now).left in
    let after = (g.S.World.meaning c.read_all.new.source).left in
    let p = err_from_is_err_and c.from_residual.result c.from_residual.ensures.1 in
    let flag = c.read_all.ensures.options ∙ c.in-Ok-new.ensures.options in
    stopped-refused c.args.options c.args.limit before after c.from_residual.result c.in_err-length.field-0.0 (p.1 ∙ ap Err p.2)
    (subst (λ (d : ReadOptions). ReadsModule d c.args.limit before after (Err c.in_err-length.field-0.0)) flag c.in_err-length.ensures.read) place reason

pub returns-in_err-length-clause-limit : goal.returns-in_err-length-clause-limit
returns-in_err-length-clause-limit g c =
    let before = (g.S.World.meaning c.args.source.now).left in
    let after = (g.S.World.meaning c.read_all.new.source).left in
    let p = err_from_is_err_and c.from_residual.result c.from_residual.ensures.1 in
    let flag = c.read_all.ensures.options ∙ c.in-Ok-new.ensures.options in
    stopped-past c.args.options c.args.limit before after c.from_residual.result c.in_err-length.field-0.0 (p.1 ∙ ap Err p.2)
    (subst (λ (d : ReadOptions). ReadsModule d c.args.limit before after (Err c.in_err-length.field-0.0)) flag c.in_err-length.ensures.read)

pub returns-in_err-length-clause-fault : goal.returns-in_err-length-clause-fault
returns-in_err-length-clause-fault g c = λ fault.
    let p = err_from_is_err_and c.from_residual.result c.from_residual.ensures.1 in
    c.in_err-length.ensures.fault (ap Err (same-stop c.from_residual.result c.in_err-length.field-0.0 stop.Fault (p.1 ∙ ap Err p.2) fault))

pub returns-in_err-module-clause-reads : goal.returns-in_err-module-clause-reads
returns-in_err-module-clause-reads g c =
    let before = (g.S.World.meaning c.args.source.now).left in
    let after = (g.S.World.meaning c.read_all.new.source).left in
    let p = err_from_is_err_and c.from_residual-in_err-module.result c.from_residual-in_err-module.ensures.1 in
    let flag = c.read_all.ensures.options ∙ c.in-Ok-new.ensures.options in
    stopped-reads c.args.options c.args.limit before after c.from_residual-in_err-module.result p.0 p.1
    (asked-stopped c.args.limit c.in_ok-length.length c.args.options before after c.read_all.new.reader c.in_err-module.field-0.0 p.0 flag p.2
    c.in_ok-length.ensures.read c.in_err-module.ensures.refused)

pub returns-in_err-module-clause-refused : goal.returns-in_err-module-clause-refused
returns-in_err-module-clause-refused g c = λ place reason.
    let before = (g.S.World.meaning c.args.source.now).left in
    let after = (g.S.World.meaning c.read_all.new.source).left in
    let p = err_from_is_err_and c.from_residual-in_err-module.result c.from_residual-in_err-module.ensures.1 in
    let flag = c.read_all.ensures.options ∙ c.in-Ok-new.ensures.options in
    stopped-refused c.args.options c.args.limit before after c.from_residual-in_err-module.result p.0 p.1
    (asked-stopped c.args.limit c.in_ok-length.length c.args.options before after c.read_all.new.reader c.in_err-module.field-0.0 p.0 flag p.2
    c.in_ok-length.ensures.read c.in_err-module.ensures.refused) place reason

pub returns-in_err-module-clause-limit : goal.returns-in_err-module-clause-limit
returns-in_err-module-clause-limit g c =
    let before = (g.S.World.meaning c.args.source.now).left in
    let after = (g.S.World.meaning c.read_all.new.source).left in
    let p = err_from_is_err_and c.from_residual-in_err-module.result c.from_residual-in_err-module.ensures.1 in
    let flag = c.read_all.ensures.options ∙ c.in-Ok-new.ensures.options in
    stopped-past c.args.options c.args.limit before after c.from_residual-in_err-module.result p.0 p.1
    (asked-stopped c.args.limit c.in_ok-length.length c.args.options before after c.read_all.new.reader c.in_err-module.field-0.0 p.0 flag p.2
    c.in_ok-length.ensures.read c.in_err-module.ensures.refused)

pub returns-in_err-module-clause-fault : goal.returns-in_err-module-clause-fault
returns-in_err-module-clause-fault g c = λ fault.
    let p = err_from_is_err_and c.from_residual-in_err-module.result c.from_residual-in_err-module.ensures.1 in
    absurd (stop-no-fault c.in_err-module.field-0.0 p.0 p.2 (same-stop c.from_residual-in_err-module.result p.0 stop.Fault p.1 fault))

pub returns-clause-reads : goal.returns-clause-reads
returns-clause-reads g c =
    let before = (g.S.World.meaning c.args.source.now).left in
    let after = (g.S.World.meaning c.read_all.new.source).left in
    asked-module c.args.limit c.in_ok-length.length c.args.options before after c.read_all.new.reader c.in_ok-module.module
    (c.read_all.ensures.options ∙ c.in-Ok-new.ensures.options) c.in_ok-length.ensures.read c.in_ok-module.ensures.ok

pub returns-clause-ok : goal.returns-clause-ok
returns-clause-ok g c =
    let before = (g.S.World.meaning c.args.source.now).left in
    let after = (g.S.World.meaning c.read_all.new.source).left in
    asked-ok c.args.limit c.in_ok-length.length c.args.options before after c.read_all.new.reader c.in_ok-module.module
    (c.read_all.ensures.options ∙ c.in-Ok-new.ensures.options) c.in_ok-length.ensures.read c.in_ok-module.ensures.ok

pub returns-clause-refused : goal.returns-clause-refused
returns-clause-refused g c = λ place reason.
    let before = (g.S.World.meaning c.args.source.now).left in
    let after = (g.S.World.meaning c.read_all.new.source).left in
    asked-refused c.args.limit c.in_ok-length.length c.args.options before after c.read_all.new.reader c.in_ok-module.module
    (c.read_all.ensures.options ∙ c.in-Ok-new.ensures.options) c.in_ok-length.ensures.read c.in_ok-module.ensures.ok place reason

pub returns-clause-limit : goal.returns-clause-limit
returns-clause-limit g c =
    let before = (g.S.World.meaning c.args.source.now).left in
    let after = (g.S.World.meaning c.read_all.new.source).left in
    asked-past c.args.limit c.in_ok-length.length c.args.options before after c.read_all.new.reader c.in_ok-module.module
    (c.read_all.ensures.options ∙ c.in-Ok-new.ensures.options) c.in_ok-length.ensures.read c.in_ok-module.ensures.ok

pub returns-in_err-length-clause-further : goal.returns-in_err-length-clause-further
returns-in_err-length-clause-further g c =
    let before = (g.S.World.meaning c.args.source.now).left in
    let after = (g.S.World.meaning c.read_all.new.source).left in
    subst (λ (d : ReadOptions). ReadsNoFurther d c.args.limit before after) c.in-Ok-new.ensures.options c.read_all.ensures.further

pub returns-in_err-module-clause-further : goal.returns-in_err-module-clause-further
returns-in_err-module-clause-further g c =
    let before = (g.S.World.meaning c.args.source.now).left in
    let after = (g.S.World.meaning c.read_all.new.source).left in
    subst (λ (d : ReadOptions). ReadsNoFurther d c.args.limit before after) c.in-Ok-new.ensures.options c.read_all.ensures.further

pub returns-clause-further : goal.returns-clause-further
returns-clause-further g c =
    let before = (g.S.World.meaning c.args.source.now).left in
    let after = (g.S.World.meaning c.read_all.new.source).left in
    subst (λ (d : ReadOptions). ReadsNoFurther d c.args.limit before after) c.in-Ok-new.ensures.options c.read_all.ensures.further

pub returns-in_default-clause-further : goal.returns-in_default-clause-further
returns-in_default-clause-further g c = none-further c.args.options c.args.limit (g.S.World.meaning c.args.source.now).left

pub returns-in_default-new-clause-further : goal.returns-in_default-new-clause-further
returns-in_default-new-clause-further g c = none-further c.args.options c.args.limit (g.S.World.meaning c.args.source.now).left

pub read_all-requires-clause-buffer : goal.read_all-requires-clause-buffer
read_all-requires-clause-buffer g c = c.deref_mut.ensures.len ∙ c.in-Ok.ensures.len
