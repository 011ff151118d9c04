use Rattle.std.proofs.Common.{rules, ◌≡◌, ◌<◌, sym, ◌∙◌, true, false, [], ◌∷◌, arith}
use Rattle.std.proofs.lemmas.List.{length-append}
use Rattle.mufom_expr.specs.TokenAt.{begins_token}
use Rattle.mufom_records.proofs.Tokens.{tokens-byte, tokens-last, tokens-stop, tokens-got}
use Rattle.mufom_records.proofs.KeptTokens.{in_any_case, kept-next, kept-last}
use Rattle.mufom_records.proofs.expression.read_tokens.Goals as goal

pub returns-in_err-b-clause-exact : goal.returns-in_err-b-clause-exact
returns-in_err-b-clause-exact c =
    let e = sym c.loop-b.invariant.same ∙ tokens-byte c.loop-b.room c.loop-b.terms c.loop-b.at c.args.input.now _ (sym c.in_err-b.ensures.exact) in
    rw e (search rules)

pub returns-then-not-begins_token-clause-exact : goal.returns-then-not-begins_token-clause-exact
returns-then-not-begins_token-clause-exact c =
    let ends : begins_token c.in_ok-b.b ≡ false = search rules in
    c.end_of.ensures.exact ∙ sym (tokens-last c.loop-b.room c.loop-b.terms c.loop-b.at c.args.input.now c.in_ok-b.b c.in_ok-b.field-0-1
    (sym c.in_ok-b.ensures.exact) ends)
    ∙ c.loop-b.invariant.same

pub returns-then-not-begins_token-clause-tokens : goal.returns-then-not-begins_token-clause-tokens
returns-then-not-begins_token-clause-tokens c =
    let ends : begins_token c.in_ok-b.b ≡ false = search rules in
    in_any_case c.end_of.result _ (kept-last c.loop-b.room c.args.input.now c.loop-b.at c.in_ok-b.b c.in_ok-b.field-0-1 c.loop-b.tokens _
    (sym c.in_ok-b.ensures.exact) ends c.loop-b.invariant.kept)

pub returns-in_err-left-clause-exact : goal.returns-in_err-left-clause-exact
returns-in_err-left-clause-exact c =
    let begins : begins_token c.in_ok-b.b ≡ true = search rules in
    let e = sym c.loop-b.invariant.same
    ∙ tokens-stop c.loop-b.room c.loop-b.terms c.loop-b.at c.args.input.now c.in_ok-b.b c.in_ok-b.field-0-1 _ (sym c.in_ok-b.ensures.exact) begins
    (sym c.in_err-left.ensures.exact) in
    rw e (search rules)

pub loop-b-preserved : goal.loop-b-preserved
loop-b-preserved c =
    let begins : begins_token c.in_ok-b.b ≡ true = search rules in
    let some : 0 < c.loop-b.room = search rules in
    let got = c.in_ok-left.ensures.token in
    let e = tokens-got c.loop-b.room c.loop-b.terms c.loop-b.at c.args.input.now c.in_ok-b.b c.in_ok-b.field-0-1 c.in_ok-left.left c.in_ok-left.after
    some (sym c.in_ok-b.ensures.exact) begins (sym c.in_ok-left.ensures.exact) in
    record {
      begun = search rules;
      within = search rules;
      few = search rules;
      count = rw c.push.ensures (omega (arith, some, c.loop-b.invariant.count, length-append c.loop-b.tokens (c.in_ok-left.token ∷ [])));
      same = sym e ∙ c.loop-b.invariant.same;
      kept = rw c.push.ensures (kept-next c.loop-b.room c.args.input.now c.loop-b.at got.0 c.in_ok-left.after c.in_ok-left.token c.loop-b.tokens _
          some got.1 got.2 c.loop-b.invariant.kept);
    }
