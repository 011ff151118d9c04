use Rattle.std.proofs.Common.{◌∙◌, sym, ap, subst, arith, ℕ, Result, Err}
use Rattle.std.proofs.lemmas.Result.{err_from_is_err_and}
use Rattle.mufom_source.specs.declared.source.SourceStop.{SourceStop}
use Rattle.mufom_read.specs.Reader.{options_of}
use Rattle.mufom_source.specs.Source.{ReadsAtMost, HasReadAll}
use Rattle.mufom_source.proofs.Feeding.{come-none, come-on, come-stopped, come-end, come-further}
use Rattle.mufom_source.proofs.source.read_all.Goals as goal

pub returns-in_err-count-clause-read : goal.returns-in_err-count-clause-read
returns-in_err-count-clause-read g c =
    let before = (g.S.World.meaning c.args.source.now).left in
    let between = (g.S.World.meaning c.loop-count.source).left in
    let after = (g.S.World.meaning c.read_chunk.new.source).left in
    let come = c.loop-count.invariant in
    let p = err_from_is_err_and c.from_residual.result c.from_residual.ensures.1 in
    subst (λ (r : Result ℕ SourceStop). HasReadAll c.args.limit before after c.read_chunk.new.reader r) (sym (p.1 ∙ ap Err p.2))
    (come-stopped c.args.limit c.loop-count.length c.read_chunk.new.reader before between after come.bytes c.in_err-count.field-0.0 come.count
    come.within come.after.taken (c.in_err-count.ensures.read come.bytes come.read))

pub returns-then-count-eq0-clause-read : goal.returns-then-count-eq0-clause-read
returns-then-count-eq0-clause-read g c =
    let before = (g.S.World.meaning c.args.source.now).left in
    let between = (g.S.World.meaning c.loop-count.source).left in
    let after = (g.S.World.meaning c.read_chunk.new.source).left in
    let come = c.loop-count.invariant in
    come-end c.args.limit c.loop-count.length c.in_ok-count.count c.read_chunk.new.reader before between after come.bytes come.count come.within
    come.after.taken (omega (arith, c.if-count-eq0.true)) (c.in_ok-count.ensures.read come.bytes come.read)

pub loop-count-preserved : goal.loop-count-preserved
loop-count-preserved g c =
    let come = c.loop-count.invariant in
    come-on c.args.limit c.loop-count.length (options_of c.args.reader.now) c.loop-count.reader c.read_chunk.new.reader
    (g.S.World.meaning c.args.source.now) (g.S.World.meaning c.loop-count.source) (g.S.World.meaning c.read_chunk.new.source)
    (g.S.World.faults c.args.source.now) (g.S.World.faults c.loop-count.source) (g.S.World.faults c.read_chunk.new.source)
    c.in_ok-count.count come (c.in_ok-count.ensures.read come.bytes come.read) c.read_chunk.ensures.options c.read_chunk.ensures.only.0
    c.read_chunk.ensures.only.1 c.read_chunk.ensures.only.2

pub loop-count-init : goal.loop-count-init
loop-count-init g c = come-none c.args.limit c.args.reader.now (g.S.World.meaning c.args.source.now) (g.S.World.faults c.args.source.now) c.requires.begins

pub returns-in_err-count-clause-further : goal.returns-in_err-count-clause-further
returns-in_err-count-clause-further g c =
    let before = (g.S.World.meaning c.args.source.now).left in
    let between = (g.S.World.meaning c.loop-count.source).left in
    let after = (g.S.World.meaning c.read_chunk.new.source).left in
    let come = c.loop-count.invariant in
    come-further c.args.limit c.loop-count.length (options_of c.args.reader.now) before between after come.bytes come.count come.within
    come.unrefused come.after.taken
    (subst (λ (n : ℕ). ReadsAtMost n between after) (c.loop-count.auto.buffer ∙ c.requires.buffer) c.read_chunk.ensures.taken)

pub returns-then-count-eq0-clause-further : goal.returns-then-count-eq0-clause-further
returns-then-count-eq0-clause-further g c =
    let before = (g.S.World.meaning c.args.source.now).left in
    let between = (g.S.World.meaning c.loop-count.source).left in
    let after = (g.S.World.meaning c.read_chunk.new.source).left in
    let come = c.loop-count.invariant in
    come-further c.args.limit c.loop-count.length (options_of c.args.reader.now) before between after come.bytes come.count come.within
    come.unrefused come.after.taken
    (subst (λ (n : ℕ). ReadsAtMost n between after) (c.loop-count.auto.buffer ∙ c.requires.buffer) c.read_chunk.ensures.taken)
