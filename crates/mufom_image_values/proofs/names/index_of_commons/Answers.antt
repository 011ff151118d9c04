use Rattle.std.proofs.Common.{◌≡◌, ◌∙◌, ℕ, List, [], take, length, if◌then◌else◌, ap, sym, arith}
use Rattle.mufom_names.specs.Index.{Entry, keys_of, numbered_from}
use Rattle.mufom_names.proofs.PositionLaws.{keys-numbered}
use Rattle.mufom_image_values.specs.Names.{with_name, asked_after}
use Rattle.mufom_image_values.proofs.NameLaws.{asked-step, with_name-few}
use Rattle.mufom_image_values.proofs.names.index_of_commons.Goals.{then-asks+in_ok-count, else-asks}
use Rattle.mufom_image_values.proofs.names.index_of_commons.Goals as goal

keys-are : (index : List Entry) (names : List (List ℕ)) → index ≡ numbered_from 0 names → keys_of index ≡ names
keys-are index names e = ap keys_of e ∙ keys-numbered 0 names

pub add_name-requires-clause-numbered : goal.add_name-requires-clause-numbered
add_name-requires-clause-numbered c =
    let names = asked_after c.args.publics.now [] (take c.loop-reference.reference-index c.args.references.now) in
    c.loop-reference.invariant.0 ∙ ap (numbered_from 0) (sym (keys-are c.loop-reference.index names c.loop-reference.invariant.0))

pub add_name-requires-clause-count : goal.add_name-requires-clause-count
add_name-requires-clause-count c =
    let names = asked_after c.args.publics.now [] (take c.loop-reference.reference-index c.args.references.now) in
    c.loop-reference.invariant.1 ∙ ap length (sym (keys-are c.loop-reference.index names c.loop-reference.invariant.0))

pub loop-reference-preserved : goal.loop-reference-preserved
loop-reference-preserved c =
    let names = asked_after c.args.publics.now [] (take c.loop-reference.reference-index c.args.references.now) in
    let r = c.reference-item.result in
    let keys = keys-are c.loop-reference.index names c.loop-reference.invariant.0 in
    let step = asked-step c.args.publics.now c.args.references.now c.loop-reference.reference-index r c.loop-reference-test.true (sym c.reference-item.is) in
    elim c.if-asks.branch [
      | then-asks+in_ok-count w ↦
          let all = step ∙ ap (λ b. if b then with_name names r.name else names) (sym c.asks.ensures ∙ w.if-asks.true) in
          let key = w.as_slice.ensures in
          let count = w.count-is ∙ w.in_ok-count.ensures.count
          ∙ ap (λ ns. length (with_name ns w.as_slice.result.now)) keys
          ∙ ap (λ name. length (with_name names name)) key in (
            w.index-is ∙ w.in_ok-count.ensures.index
                ∙ ap (λ ns. numbered_from 0 (with_name ns w.as_slice.result.now)) keys
                ∙ ap (λ name. numbered_from 0 (with_name names name)) key
                ∙ sym (ap (numbered_from 0) all),
            count ∙ sym (ap length all),
            omega (arith, count, with_name-few names r.name, c.loop-reference.invariant.1, c.loop-reference.invariant.2),
          )
      | else-asks w ↦
          let all = step ∙ ap (λ b. if b then with_name names r.name else names) (sym c.asks.ensures ∙ w.if-asks.false) in (
            w.index-is ∙ c.loop-reference.invariant.0 ∙ sym (ap (numbered_from 0) all),
            w.count-is ∙ c.loop-reference.invariant.1 ∙ sym (ap length all),
            omega (arith, w.count-is, c.loop-reference.invariant.2),
          )
    ]
