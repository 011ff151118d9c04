use Rattle.std.proofs.Common.{◌≡◌, ◌∙◌, ◌++◌, ◌∷◌, [], length, ap, sym, if◌then◌else◌, option_to_list, rules}
use Rattle.mufom_names.specs.Index.{position_of, with_entry}
use Rattle.mufom_names.specs.declared.index_key.OwnedKey.{OwnedKey}
use Rattle.mufom_names.proofs.IndexLemmas.{own, seen, absent, is_kept, found-at, added-new, added-old, was-new, was-there, last-off}
use Rattle.mufom_names.proofs.key_index.KeyIndex.add.Goals as goal
use Rattle.mufom_names.proofs.key_index.KeyIndex.add.Goals.{in-Ok-default-true, in-Ok-default-false, in-Err}

pub returns-clause-answer : goal.returns-clause-answer
returns-clause-answer c =
    let keys = c.self.inside.keys.keys in
    let positions = c.self.inside.positions.items in
    let key = c.args.key.items in
    let owned : OwnedKey = record { bytes = c.args.key } in
    elim c.match-insert_full.branch [
      | in-Ok-default-true w ↦
          let new = was-new (is_kept own key keys) w.in-Ok-default-true.field-0-1 w.in-Ok-default-true.ensures.added w.in-Ok-default-true.field-0-1-test in
          rw w.result-is (sym (absent own key keys positions new)
          ∙ ap (λ entries. position_of entries key) c.self.view_is)
      | in-Ok-default-false w ↦
          let old = was-there (is_kept own key keys) w.in-Ok-default-false.field-0-1 w.in-Ok-default-false.ensures.added w.in-Ok-default-false.field-0-1-test in
          let same : c.insert_full.new.self.keys ≡ keys = w.in-Ok-default-false.ensures.keys ∙ ap (λ b. if b then keys else keys ++ owned ∷ []) old in
          let short : length w.pop.new.self.items ≡ length positions = search rules in
          let popped = last-off positions w.pop.new.self.items (option_to_list w.pop.result) c.args.position (sym c.in_ok-push.ensures.items
          ∙ w.pop.ensures.items) short in
          rw w.result-is (found-at own key keys positions w.in-Ok-default-false.slot w.index.result.now c.self.invariant.0 old
          w.in-Ok-default-false.ensures.index (rw (← same) w.in-Ok-default-false.ensures.within)
          (rw (← popped) w.index.ensures)
          ∙ ap (λ entries. position_of entries key) c.self.view_is)
      | in-Err w ↦ rw w.result-is tt
    ]

pub returns-clause-after : goal.returns-clause-after
returns-clause-after c =
    let keys = c.self.inside.keys.keys in
    let positions = c.self.inside.positions.items in
    let key = c.args.key.items in
    let owned : OwnedKey = record { bytes = c.args.key } in
    elim c.match-insert_full.branch [
      | in-Ok-default-true w ↦
          let new = was-new (is_kept own key keys) w.in-Ok-default-true.field-0-1 w.in-Ok-default-true.ensures.added w.in-Ok-default-true.field-0-1-test in
          let more : c.insert_full.new.self.keys ≡ keys ++ owned ∷ [] = w.in-Ok-default-true.ensures.keys
          ∙ ap (λ b. if b then keys else keys ++ owned ∷ []) new in
          rw w.result-is (w.self-is
          ∙ ap (λ ks. seen own ks c.push.new.self.items) more
          ∙ ap (seen own (keys ++ owned ∷ [])) c.in_ok-push.ensures.items
          ∙ added-new own keys positions owned c.args.position c.self.invariant.0 new
          ∙ ap (λ entries. with_entry entries key c.args.position) c.self.view_is)
      | in-Ok-default-false w ↦
          let old = was-there (is_kept own key keys) w.in-Ok-default-false.field-0-1 w.in-Ok-default-false.ensures.added w.in-Ok-default-false.field-0-1-test in
          let same : c.insert_full.new.self.keys ≡ keys = w.in-Ok-default-false.ensures.keys ∙ ap (λ b. if b then keys else keys ++ owned ∷ []) old in
          let short : length w.pop.new.self.items ≡ length positions = search rules in
          let popped = last-off positions w.pop.new.self.items (option_to_list w.pop.result) c.args.position (sym c.in_ok-push.ensures.items
          ∙ w.pop.ensures.items) short in
          let its = found-at own key keys positions w.in-Ok-default-false.slot w.index.result.now c.self.invariant.0 old
          w.in-Ok-default-false.ensures.index (rw (← same) w.in-Ok-default-false.ensures.within) (rw (← popped) w.index.ensures) in
          rw w.result-is (w.self-is
          ∙ ap (λ ks. seen own ks w.pop.new.self.items) same
          ∙ ap (seen own keys) popped
          ∙ added-old (seen own keys positions) key w.index.result.now c.args.position its
          ∙ ap (λ entries. with_entry entries key c.args.position) c.self.view_is)
      | in-Err w ↦ rw w.result-is tt
    ]
