use Rattle.std.proofs.Common.{rules, ◌≡◌, ◌∙◌, ◌==◌, ◌<◌, [], ◌∷◌, refl, sym, true, false, arith}
use Rattle.std.proofs.lemmas.List.{length-append}
use Rattle.mufom_numbers.proofs.SpellingLaws.{are_bytes}
use Rattle.mufom_expr.specs.TokenAt.{begins_token}
use Rattle.mufom_records.specs.Reading.{sizes_from, no_tokens, tokens_from, expression_end}
use Rattle.mufom_records.proofs.Tokens.{tokens-byte, tokens-last, tokens-stop, tokens-got}
use Rattle.mufom_records.proofs.Sizes.{first-closes, sizes-last, sizes-got}
use Rattle.mufom_records.proofs.SizedLaws.{sized-part-of, byte-passed, token-passed}
use Rattle.mufom_records.proofs.KeptTokens.{kept-next, kept-last, sized-tokens-of}
use Rattle.mufom_records.proofs.expression.sized_expression.Goals as goal

pub loop-b-init : goal.loop-b-init
loop-b-init c = let new = c.new-so_far.ensures in record {
  begun = rw new (omega arith);
  order = rw new (omega arith);
  within = c.requires;
  few = rw new (omega arith);
  count = rw c.clear.ensures refl;
  same = rw new refl;
  says = rw new refl;
  kept = rw c.clear.ensures refl;
}

pub returns-in_err-b-clause-exact : goal.returns-in_err-b-clause-exact
returns-in_err-b-clause-exact c =
    let e = sym c.loop-b.invariant.same
    ∙ tokens-byte c.loop-b.room c.loop-b.so_far.terms c.loop-b.at c.args.input.now _ (sym c.in_err-b.ensures.exact) in
    let passed = byte-passed c.args.input.now c.loop-b.at c.args.start (sizes_from 255 (no_tokens c.args.start) c.args.input.now c.args.start) _
    (sym c.in_err-b.ensures.exact) in
    rw (e, passed) (search rules)

pub returns-then-not-begins_token-clause-exact : goal.returns-then-not-begins_token-clause-exact
returns-then-not-begins_token-clause-exact c =
    let input = c.args.input.now in
    let s = c.loop-b.so_far in
    let room = c.loop-b.room in
    let at = c.loop-b.at in
    let ends : begins_token c.in_ok-b.b ≡ false = search rules in
    let first = sym c.in_ok-b.ensures.exact in
    let all : tokens_from 255 0 input c.args.start ≡ expression_end (room == 255) s.terms at =
    sym c.loop-b.invariant.same ∙ tokens-last room s.terms at input c.in_ok-b.b c.in_ok-b.field-0-1 first ends in
    let says : sizes_from 255 (no_tokens c.args.start) input c.args.start ≡ s = sym c.loop-b.invariant.says
    ∙ sizes-last room s input at c.in_ok-b.b c.in_ok-b.field-0-1 first ends in
    rw (all, says) (c.sized_end.ensures.exact input (first-closes input at c.in_ok-b.b c.in_ok-b.field-0-1 first))

pub returns-then-not-begins_token-clause-part : goal.returns-then-not-begins_token-clause-part
returns-then-not-begins_token-clause-part c =
    let fits = are_bytes c.args.input.now (λ i. omega (arith, c.type_inv.input i)) in
    sized-part-of c.args.input.now c.args.start fits c.sized_end.result (returns-then-not-begins_token-clause-exact c) c.requires

pub returns-then-not-begins_token-clause-tokens : goal.returns-then-not-begins_token-clause-tokens
returns-then-not-begins_token-clause-tokens c =
    let fits = are_bytes c.args.input.now (λ i. omega (arith, c.type_inv.input i)) in
    let ends : begins_token c.in_ok-b.b ≡ false = search rules in
    let all = kept-last c.loop-b.room c.args.input.now c.loop-b.at c.in_ok-b.b c.in_ok-b.field-0-1 c.loop-b.tokens _
    (sym c.in_ok-b.ensures.exact) ends c.loop-b.invariant.kept in
    sized-tokens-of c.args.input.now c.args.start fits c.sized_end.result (returns-then-not-begins_token-clause-exact c) c.loop-b.tokens _ all
    c.sized_end.ensures.tokens

pub returns-in_err-after-clause-exact : goal.returns-in_err-after-clause-exact
returns-in_err-after-clause-exact c =
    let begins : begins_token c.in_ok-b.b ≡ true = search rules in
    let e = sym c.loop-b.invariant.same
    ∙ tokens-stop c.loop-b.room c.loop-b.so_far.terms c.loop-b.at c.args.input.now c.in_ok-b.b c.in_ok-b.field-0-1 _ (sym c.in_ok-b.ensures.exact) begins
    (sym c.in_err-after.ensures.exact) in
    let fits = are_bytes c.args.input.now (λ i. omega (arith, c.type_inv.input i)) in
    let passed = token-passed c.loop-b.room c.loop-b.so_far.terms c.loop-b.at c.args.input.now c.args.start
    (sizes_from 255 (no_tokens c.args.start) c.args.input.now c.args.start) _ fits (sym c.in_err-after.ensures.exact) in
    rw (e, passed) (search rules)

pub loop-b-preserved : goal.loop-b-preserved
loop-b-preserved c =
    let input = c.args.input.now in
    let s = c.loop-b.so_far in
    let begins : begins_token c.in_ok-b.b ≡ true = search rules in
    let got = c.in_ok-after.ensures.token in
    let some : 0 < c.loop-b.room = search rules in
    let left = c.in_ok-after.ensures.left in
    let e = tokens-got c.loop-b.room s.terms c.loop-b.at input c.in_ok-b.b c.in_ok-b.field-0-1 _ c.in_ok-after.after
    (search rules) (sym c.in_ok-b.ensures.exact) begins (sym c.in_ok-after.ensures.exact) in
    let f = sizes-got c.loop-b.room s input c.loop-b.at c.in_ok-b.b c.in_ok-b.field-0-1 c.in_ok-after.token got.0 c.in_ok-after.after (search rules)
    (sym c.in_ok-b.ensures.exact) begins got.1 got.2 in
    let with_is = c.with-so_far.ensures in
    record {
      begun = rw with_is (omega (arith, c.loop-b.invariant.begun, c.loop-b.invariant.order));
      order = rw with_is (omega (arith, got.2));
      within = search rules;
      few = rw with_is (omega (arith, c.loop-b.invariant.few, some));
      count = rw c.push.ensures (omega (arith, some, c.loop-b.invariant.count, length-append c.loop-b.tokens (c.in_ok-after.token ∷ [])));
      same = rw (with_is, ← left) (sym e ∙ c.loop-b.invariant.same);
      says = rw with_is (sym f ∙ c.loop-b.invariant.says);
      kept = rw c.push.ensures (kept-next c.loop-b.room input c.loop-b.at got.0 c.in_ok-after.after c.in_ok-after.token c.loop-b.tokens _
          some got.1 got.2 c.loop-b.invariant.kept);
    }
