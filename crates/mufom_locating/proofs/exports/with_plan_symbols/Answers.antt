use Rattle.std.proofs.Common.{[], ◌∷◌, ap, not}
use Rattle.mufom_planned.specs.Layout.{layout}
use Rattle.mufom_planned.specs.Planned.{layout_fact}
use Rattle.mufom_locating.proofs.ExportLaws.{met-some, shown-named, shown-placed}
use Rattle.mufom_locating.proofs.exports.with_plan_symbols.Goals as goal

pub returns-in-Err : goal.returns-in-Err
returns-in-Err c =
    let m = c.args.module.now in
    let plan = c.args.plan.now in
    let N = c.in_ok-named.named in
    let is = c.in_ok-named.ensures in
    let met = met-some (layout_fact (N ∷ []) (layout (N ∷ []) plan)) c.in-Err.refusal (c.is_memory.ensures (ap not c.if-is_memory.false)) c.in-Err.ensures.refused in
    let shown = shown-named m is.source plan c.requires.plan.symbols c.requires.some N is met.0 met.1 in
    record { joined = shown.joined; means = shown.means; names = shown.names; answers = shown.answers }

pub returns-clause-joined : goal.returns-clause-joined
returns-clause-joined c =
    let is = c.in_ok-named.ensures in
    let shown = shown-placed c.args.module.now is.source c.args.plan.now c.requires.plan.symbols c.requires.some c.in_ok-named.named is c.in-Ok.placed
    c.in-Ok.ensures.placed c.in_ok-values.values.items c.in_ok-values.ensures c.deref.result.now c.deref.ensures.value c.in_ok-linked.field-0
    c.in_ok-linked.ensures in
    shown.joined

pub returns-clause-means : goal.returns-clause-means
returns-clause-means c =
    let is = c.in_ok-named.ensures in
    let shown = shown-placed c.args.module.now is.source c.args.plan.now c.requires.plan.symbols c.requires.some c.in_ok-named.named is c.in-Ok.placed
    c.in-Ok.ensures.placed c.in_ok-values.values.items c.in_ok-values.ensures c.deref.result.now c.deref.ensures.value c.in_ok-linked.field-0
    c.in_ok-linked.ensures in
    shown.means

pub returns-clause-names : goal.returns-clause-names
returns-clause-names c =
    let is = c.in_ok-named.ensures in
    let shown = shown-placed c.args.module.now is.source c.args.plan.now c.requires.plan.symbols c.requires.some c.in_ok-named.named is c.in-Ok.placed
    c.in-Ok.ensures.placed c.in_ok-values.values.items c.in_ok-values.ensures c.deref.result.now c.deref.ensures.value c.in_ok-linked.field-0
    c.in_ok-linked.ensures in
    shown.names

pub returns-clause-answers : goal.returns-clause-answers
returns-clause-answers c =
    let is = c.in_ok-named.ensures in
    let shown = shown-placed c.args.module.now is.source c.args.plan.now c.requires.plan.symbols c.requires.some c.in_ok-named.named is c.in-Ok.placed
    c.in-Ok.ensures.placed c.in_ok-values.values.items c.in_ok-values.ensures c.deref.result.now c.deref.ensures.value c.in_ok-linked.field-0
    c.in_ok-linked.ensures in
    shown.answers
