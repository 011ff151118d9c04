use Rattle.std.proofs.Common.{◌≡◌, ℕ, ◌+◌, ◌<◌, List, [], ◌∷◌, ◌++◌, length, take, drop, get_or, rules, sym, ap, subst, ◌∙◌, arith, length-drop}
use Rattle.std.specs.Prelude.{slice_set}
use Rattle.std.specs.List.{AllByRecursion}
use Rattle.std.proofs.lemmas.List.{take_more, take_more_set, drop-set-lt, drop_more, map-append}
use Rattle.std.proofs.lemmas.Grind.{drop_more_same}
use Rattle.mufom_expr.specs.declared.token.Token.{Token}
use Rattle.mufom_expr.specs.declared.token.Token.TheVariants.{Number}
use Rattle.mufom_expr.specs.declared.token.Letter.{Letter}
use Rattle.mufom_expr.specs.Tree.{IsInRange}
use Rattle.mufom_expr.specs.Renamed.{renamed_token, renamed_tokens}
use Rattle.mufom_expr.proofs.TermsLemmas.{in_range-push}
use Rattle.mufom_expr.proofs.postfix.rename_all.Goals as goal

-- one more token is renamed
renamed_more : (f : Letter → ℕ → Letter × ℕ) (before now : List Token) (i : ℕ) (made : Token) → i < length now
    → take i now ≡ renamed_tokens f (take i before) → drop i now ≡ drop i before → made ≡ renamed_token f (get_or now i (Number 0))
    → take (i + 1) (slice_set now i made) ≡ renamed_tokens f (take (i + 1) before)
renamed_more f before now i made within taken dropped is =
    let longer : i < length before = omega (arith, length-drop i now, length-drop i before, ap length dropped) in
    let same : get_or now i (Number 0) ≡ get_or before i (Number 0) =
    let here = drop_more now i (Number 0) within in let there = drop_more before i (Number 0) longer in cc in
    let passed = take_more before i (Number 0) longer in
    take_more_set now i made within
    ∙ ap (λ (ts : List Token). ts ++ made ∷ []) taken
    ∙ ap (λ (t : Token). renamed_tokens f (take i before) ++ t ∷ []) (is ∙ ap (renamed_token f) same)
    ∙ sym (ap (renamed_tokens f) passed ∙ map-append (renamed_token f) (take i before) (get_or before i (Number 0) ∷ []))

pub loop-token-preserved : goal.loop-token-preserved
loop-token-preserved g c =
    let f = g.M.VarMap.meaning c.args.map.now in
    let now = c.loop-token.token-items in
    let i = c.loop-token.token-index in
    let within : i < length now = search rules in
    let rest : drop (i + 1) (slice_set now i c.renamed.result) ≡ drop (i + 1) c.args.tokens.items =
    drop-set-lt (i + 1) now i c.renamed.result (omega arith) ∙ drop_more_same now c.args.tokens.items i c.loop-token.invariant.1 in (
      renamed_more f c.args.tokens.items now i c.renamed.result within c.loop-token.invariant.0 c.loop-token.invariant.1 c.renamed.ensures.value,
      rest,
      subst (λ (ts : List Token). AllByRecursion IsInRange ts) (sym (take_more_set now i c.renamed.result within))
          (in_range-push (take i now) c.renamed.result c.loop-token.invariant.2 c.renamed.ensures.range),
    )
