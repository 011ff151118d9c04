use Rattle.std.proofs.Common.{◌≡◌, List, [], Some, Err, sym, ap, subst, ◌∙◌}
use Rattle.std.specs.Prelude.{is_some}
use Rattle.mufom_refusals.specs.declared.build.BuildRefusal.TheVariants as refusals
use Rattle.mufom_build.specs.Begun.{Begun}
use Rattle.mufom_build.specs.Drafts.{draft_rows, state_of}
use Rattle.mufom_build.specs.Rows.{Row}
use Rattle.mufom_build.proofs.Whole.{built, has_defect, first_here, missing_rows, refusal_is}
use Rattle.mufom_build.proofs.module.build.Goals as goal

pub returns-in-Err-clause-refused : goal.returns-in-Err-clause-refused
returns-in-Err-clause-refused c = λ line column reason e.
    let begun = first_here c.args.text.now c.new-cursor.result c.pass_blanks.new.self c.new-cursor.ensures c.pass_blanks.ensures.blanks
    c.pass_blanks.ensures.past c.pass_blanks.ensures.error in
    let stop = c.refusal_of.ensures.at line column reason (refusal_is c.refusal_of.result (refusals.At line column reason) e) in
    c.in-Err.ensures.refused c.args.text.now line column reason begun (ap Err stop)

pub returns-in_default-clause-refused : goal.returns-in_default-clause-refused
returns-in_default-clause-refused c = λ line column reason e.
    let begun = first_here c.args.text.now c.new-cursor.result c.pass_blanks.new.self c.new-cursor.ensures c.pass_blanks.ensures.blanks
    c.pass_blanks.ensures.past c.pass_blanks.ensures.error in
    let stop = c.refusal_of-in_default.ensures.at line column reason (refusal_is c.refusal_of-in_default.result (refusals.At line column reason) e) in
    missing_rows c.args.text.now (draft_rows c.in-Ok.draft) (state_of c.in-Ok.draft) c.read_rows.new.cursor line column reason c.in-Ok.ensures.kept.far
    (c.in-Ok.ensures.begun c.args.text.now begun) c.in-Ok.ensures.end (sym c.finish.ensures.some ∙ ap is_some c.in_default.is)
    (sym c.bad_line.ensures ∙ stop)

pub returns-in-Ok-assemble-clause-built : goal.returns-in-Ok-assemble-clause-built
returns-in-Ok-assemble-clause-built c =
    let begun = first_here c.args.text.now c.new-cursor.result c.pass_blanks.new.self c.new-cursor.ensures c.pass_blanks.ensures.blanks
    c.pass_blanks.ensures.past c.pass_blanks.ensures.error in
    let all = subst (λ (l : List Row). Begun c.args.text.now l c.read_rows.new.cursor) (sym c.in-Some.ensures.rows)
    (c.in-Ok.ensures.begun c.args.text.now begun) in
    built c.args.text.now c.read_rows.new.cursor c.in-Some.parts c.in-Ok-assemble.module all c.in-Ok.ensures.end c.in-Ok-assemble.ensures.same
    c.in-Ok-assemble.ensures.valid c.in-Ok-assemble.ensures.made

pub returns-clause-defect : goal.returns-clause-defect
returns-clause-defect c = λ d e.
    let begun = first_here c.args.text.now c.new-cursor.result c.pass_blanks.new.self c.new-cursor.ensures c.pass_blanks.ensures.blanks
    c.pass_blanks.ensures.past c.pass_blanks.ensures.error in
    let all = subst (λ (l : List Row). Begun c.args.text.now l c.read_rows.new.cursor) (sym c.in-Some.ensures.rows)
    (c.in-Ok.ensures.begun c.args.text.now begun) in
    let same : c.in-Err-assemble.defect ≡ d = cc in
    has_defect c.args.text.now c.read_rows.new.cursor c.in-Some.parts d all c.in-Ok.ensures.end
    (c.in-Err-assemble.ensures.first ∙ ap Some same)
