use Rattle.std.proofs.Common.{◌≡◌, ◌∙◌, ◌++◌, ◌∷◌, [], length, ap, sym, if◌then◌else◌, option_to_list, rules}
use Rattle.mufom_names.specs.Index.{position_of, with_entry}
use Rattle.mufom_names.specs.declared.index_key.NameKey.{NameKey}
use Rattle.mufom_names.proofs.IndexLemmas.{borrowed, seen, absent, is_kept, found-at, added-new, added-old, was-new, was-there, last-off}
use Rattle.mufom_names.proofs.name_index.NameIndex.add.Goals as goal

pub returns-in-Ok-default-true-clause-answer : goal.returns-in-Ok-default-true-clause-answer
returns-in-Ok-default-true-clause-answer c =
    let keys = c.self.inside.names.keys in
    let positions = c.self.inside.positions.items in
    let arm = c.in-Ok-default-true in
    let new = was-new (is_kept borrowed c.args.name.now keys) arm.field-0-1 arm.ensures.added arm.field-0-1-test in
    sym (absent borrowed c.args.name.now keys positions new)
    ∙ ap (λ entries. position_of entries c.args.name.now) c.self.view_is

pub returns-in-Ok-default-true-clause-after : goal.returns-in-Ok-default-true-clause-after
returns-in-Ok-default-true-clause-after c =
    let keys = c.self.inside.names.keys in
    let positions = c.self.inside.positions.items in
    let key : NameKey = record { bytes = c.args.name } in
    let arm = c.in-Ok-default-true in
    let new = was-new (is_kept borrowed c.args.name.now keys) arm.field-0-1 arm.ensures.added arm.field-0-1-test in
    let more : c.insert_full.new.self.keys ≡ keys ++ key ∷ [] = arm.ensures.keys ∙ ap (λ b. if b then keys else keys ++ key ∷ []) new in
    ap (λ ks. seen borrowed ks c.push.new.self.items) more
    ∙ ap (seen borrowed (keys ++ key ∷ [])) c.in_ok-push.ensures.items
    ∙ added-new borrowed keys positions key c.args.position c.self.invariant.0 new
    ∙ ap (λ entries. with_entry entries c.args.name.now c.args.position) c.self.view_is

pub returns-in-Ok-default-false-clause-answer : goal.returns-in-Ok-default-false-clause-answer
returns-in-Ok-default-false-clause-answer c =
    let keys = c.self.inside.names.keys in
    let positions = c.self.inside.positions.items in
    let key : NameKey = record { bytes = c.args.name } in
    let arm = c.in-Ok-default-false in
    let old = was-there (is_kept borrowed c.args.name.now keys) arm.field-0-1 arm.ensures.added arm.field-0-1-test in
    let same : c.insert_full.new.self.keys ≡ keys = arm.ensures.keys ∙ ap (λ b. if b then keys else keys ++ key ∷ []) old in
    let short : length c.pop.new.self.items ≡ length positions = search rules in
    let popped = last-off positions c.pop.new.self.items (option_to_list c.pop.result) c.args.position (sym c.in_ok-push.ensures.items
    ∙ c.pop.ensures.items) short in
    found-at borrowed c.args.name.now keys positions arm.slot c.index.result.now c.self.invariant.0 old
    arm.ensures.index (rw (← same) arm.ensures.within) (rw (← popped) c.index.ensures)
    ∙ ap (λ entries. position_of entries c.args.name.now) c.self.view_is

pub returns-in-Ok-default-false-clause-after : goal.returns-in-Ok-default-false-clause-after
returns-in-Ok-default-false-clause-after c =
    let keys = c.self.inside.names.keys in
    let positions = c.self.inside.positions.items in
    let key : NameKey = record { bytes = c.args.name } in
    let arm = c.in-Ok-default-false in
    let old = was-there (is_kept borrowed c.args.name.now keys) arm.field-0-1 arm.ensures.added arm.field-0-1-test in
    let same : c.insert_full.new.self.keys ≡ keys = arm.ensures.keys ∙ ap (λ b. if b then keys else keys ++ key ∷ []) old in
    let short : length c.pop.new.self.items ≡ length positions = search rules in
    let popped = last-off positions c.pop.new.self.items (option_to_list c.pop.result) c.args.position (sym c.in_ok-push.ensures.items
    ∙ c.pop.ensures.items) short in
    let its = found-at borrowed c.args.name.now keys positions arm.slot c.index.result.now c.self.invariant.0 old
    arm.ensures.index (rw (← same) arm.ensures.within) (rw (← popped) c.index.ensures) in
    ap (λ ks. seen borrowed ks c.pop.new.self.items) same
    ∙ ap (seen borrowed keys) popped
    ∙ added-old (seen borrowed keys positions) c.args.name.now c.index.result.now c.args.position its
    ∙ ap (λ entries. with_entry entries c.args.name.now c.args.position) c.self.view_is
