use Rattle.std.proofs.Common.{◌≡◌, ◌∙◌, ◌++◌, ◌∷◌, [], sym, ap, subst, true, Some}
use Rattle.mufom_records.specs.declared.options.ReadOptions.{ReadOptions}
use Rattle.mufom_judging.specs.Judging.{IsModule}
use Rattle.mufom_archive.specs.Names.{is_member}
use Rattle.mufom_members.proofs.Taking.{early_by, early_small, going_answered, late_by, late_small, on_ok, taken_early, taken_late, taken_module, taken_more}
use Rattle.mufom_members.proofs.gathered.Gathered.take.Goals as goal

pub refuse-requires-clause-small : goal.refuse-requires-clause-small
refuse-requires-clause-small c =
    let member : is_member c.args.entry.now.label ≡ true = sym c.is_member.ensures ∙ c.if-not-is_member.false in
    let begun = c.in_ok-reader.ensures.begun c.requires.begun.0 (c.requires.begun.1.0 member) in
    early_small c.args.self.now.options _ c.in-Err.stop
    (early_by c.args.self.now.options c.feed.new.self _ c.in-Err.stop (c.in-Err.ensures.read c.requires.begun.0 begun.0)
    (c.in-Err.ensures.options ∙ begun.1) c.in-Err.ensures.answer)

pub returns-in-Err-clause-taken : goal.returns-in-Err-clause-taken
returns-in-Err-clause-taken c = on_ok c.refuse.result c.refuse.ensures.refusal (λ moved contents is.
    let member : is_member c.args.entry.now.label ≡ true = sym c.is_member.ensures ∙ c.if-not-is_member.false in
    let begun = c.in_ok-reader.ensures.begun contents (is.0 member) in
    taken_early c.args.self.now.options c.args.entry.now member _ c.args.complete c.args.self.now.modules _ _ _ c.in-Err.stop
    (c.refuse.ensures.modules ∙ c.in_ok-reader.ensures.modules)
    (early_by c.args.self.now.options c.feed.new.self _ c.in-Err.stop (c.in-Err.ensures.read contents begun.0)
    (c.in-Err.ensures.options ∙ begun.1) c.in-Err.ensures.answer) moved)

pub returns-then-not-complete-clause-taken : goal.returns-then-not-complete-clause-taken
returns-then-not-complete-clause-taken c = λ contents is.
    let member : is_member c.args.entry.now.label ≡ true = sym c.is_member.ensures ∙ c.if-not-is_member.false in
    let begun = c.in_ok-reader.ensures.begun contents (is.0 member) in
    taken_more c.args.self.now.options c.args.entry.now member _ c.args.complete c.args.self.now.modules _ (Some c.feed.new.self) _
    (c.in_ok-reader.ensures.refusal ∙ c.requires.sound) c.in_ok-reader.ensures.modules c.if-not-complete.true
    (c.in-Ok.ensures.read contents begun.0, c.in-Ok.ensures.options ∙ begun.1, going_answered _ _ c.in-Ok.ensures.answer)

pub refuse-requires-in-Err-finish-clause-small : goal.refuse-requires-in-Err-finish-clause-small
refuse-requires-in-Err-finish-clause-small c =
    let member : is_member c.args.entry.now.label ≡ true = sym c.is_member.ensures ∙ c.if-not-is_member.false in
    let begun = c.in_ok-reader.ensures.begun c.requires.begun.0 (c.requires.begun.1.0 member) in
    late_small c.args.self.now.options _ c.in-Err-finish.stop
    (late_by c.args.self.now.options c.feed.new.self _ c.in-Err-finish.stop (c.in-Ok.ensures.read c.requires.begun.0 begun.0)
    (c.in-Ok.ensures.options ∙ begun.1) c.in-Err-finish.ensures.refused)

pub returns-in_ok-push-in-Ok-finish-clause-taken : goal.returns-in_ok-push-in-Ok-finish-clause-taken
returns-in_ok-push-in-Ok-finish-clause-taken c = λ contents is.
    let member : is_member c.args.entry.now.label ≡ true = sym c.is_member.ensures ∙ c.if-not-is_member.false in
    let begun = c.in_ok-reader.ensures.begun contents (is.0 member) in
    let m = c.in-Ok-finish.module in
    taken_module c.args.self.now.options c.args.entry.now member (contents ++ c.args.part.now) c.args.complete c.args.self.now.modules c.push.new.self _ _ m
    (c.in_ok-reader.ensures.refusal ∙ c.requires.sound) c.in_ok-reader.ensures.reader c.if-not-complete.false
    (c.in_ok-push-in-Ok-finish.ensures.ok ∙ ap (λ l. l ++ m ∷ []) c.in_ok-reader.ensures.modules) (
      subst (λ (d : ReadOptions). IsModule d (contents ++ c.args.part.now) m) (c.in-Ok.ensures.options ∙ begun.1)
          (c.in-Ok-finish.ensures.ok (contents ++ c.args.part.now) (c.in-Ok.ensures.read contents begun.0)),
      c.in-Ok-finish.ensures.weighs (contents ++ c.args.part.now) (c.in-Ok.ensures.read contents begun.0),
    )

pub returns-in-Err-finish-clause-taken : goal.returns-in-Err-finish-clause-taken
returns-in-Err-finish-clause-taken c = on_ok c.refuse-in-Err-finish.result c.refuse-in-Err-finish.ensures.refusal (λ moved contents is.
    let member : is_member c.args.entry.now.label ≡ true = sym c.is_member.ensures ∙ c.if-not-is_member.false in
    let begun = c.in_ok-reader.ensures.begun contents (is.0 member) in
    taken_late c.args.self.now.options c.args.entry.now member _ c.args.complete c.args.self.now.modules _ _ _ c.in-Err-finish.stop
    (c.refuse-in-Err-finish.ensures.modules ∙ c.in_ok-reader.ensures.modules) c.if-not-complete.false
    (late_by c.args.self.now.options c.feed.new.self _ c.in-Err-finish.stop (c.in-Ok.ensures.read contents begun.0)
    (c.in-Ok.ensures.options ∙ begun.1) c.in-Err-finish.ensures.refused) moved)
