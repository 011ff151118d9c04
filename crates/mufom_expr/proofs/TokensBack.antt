-- Tokens of trees, and trees of spelled bytes.
use Rattle.std.proofs.Common.{◌≡◌, ℕ, List, [], ◌∷◌, ◌++◌, length, drop, Option, Some, refl, sym, ap, subst, ◌∙◌, arith}
use Rattle.std.specs.Prelude.{option_map}
use Rattle.std.proofs.lemmas.List.{drop_at}
use Rattle.mufom_numbers.specs.declared.taken.Taken.{Taken}
use Rattle.mufom_numbers.specs.declared.taken.Taken.TheVariants.{Got, More}
use Rattle.mufom_expr.specs.declared.token.Token.{Token}
use Rattle.mufom_expr.specs.Tree.{Tree, tokens_of}
use Rattle.mufom_expr.specs.Terms.{after_token, terms_after, the_term, leaves, FindsTooFew}
use Rattle.mufom_expr.specs.TreeCode.{the_term-tokens_of}
use Rattle.mufom_expr.specs.Spelled.{SpellsToken, SpellsTokens, SpellsTree}
use Rattle.mufom_expr.specs.TokenAt.{token_at}
use Rattle.mufom_expr.proofs.TermsLemmas.{LeaveOneTerm-tokens_of}
use Rattle.mufom_expr.proofs.Leaves.{terms_after-append}
use Rattle.mufom_expr.proofs.Running.{step_some, enough}
use Rattle.mufom_expr.proofs.TokenLaws.{token_at-spelling}

pub leaves-tokens_of : (t : Tree) → leaves (tokens_of t) ≡ Some 1
leaves-tokens_of t = ap (option_map length) (LeaveOneTerm-tokens_of t)

pub finds_enough : (t : Tree) (prefix back : List Token) (token : Token) → tokens_of t ≡ prefix ++ token ∷ back → FindsTooFew prefix token → ⊥
finds_enough t prefix back token same (n, count, few) =
    let whole = ap (λ ts. terms_after ts []) (sym same) ∙ LeaveOneTerm-tokens_of t in
    let first = step_some (terms_after (token ∷ back)) (terms_after prefix []) (the_term (tokens_of t) ∷ [])
    (sym (terms_after-append prefix (token ∷ back) []) ∙ whole) in
    let next = step_some (terms_after back) (after_token token first.0) (the_term (tokens_of t) ∷ []) first.2 in
    let counts : ◌≡◌ {A = Option ℕ} (Some (length first.0)) (Some n) = sym (ap (option_map length) first.1) ∙ count in
    let known : length first.0 ≡ n = cc in
    omega (arith, few, known, enough token first.0 next.0 next.1)

got_same : (t u : Token) (n k : ℕ) → ◌≡◌ {A = Taken Token} (Got t n) (Got u k) → t ≡ u
got_same t u n k e = cc

got_length : (t u : Token) (n k : ℕ) → ◌≡◌ {A = Taken Token} (Got t n) (Got u k) → n ≡ k
got_length t u n k e = cc

-- each token is spelled by at least one byte
no_empty : (t : Token) (prefix back : List ℕ) → SpellsToken t prefix → [] ≡ prefix ++ back → ⊥
no_empty t prefix back spells e =
    let no : ◌≡◌ {A = Taken Token} More (Got t (length prefix)) = ap token_at e ∙ token_at-spelling t prefix back spells in cc

spells_once : (ts us : List Token) (bytes : List ℕ) → SpellsTokens ts bytes → SpellsTokens us bytes → ts ≡ us
spells_once [] [] bytes none none' = refl
spells_once [] (u ∷ us) bytes none (prefix, back, spells, rest, e) = absurd (no_empty u prefix back spells (sym none ∙ e))
spells_once (t ∷ ts) [] bytes (prefix, back, spells, rest, e) none = absurd (no_empty t prefix back spells (sym none ∙ e))
spells_once (t ∷ ts) (u ∷ us) bytes (prefix, back, spells, rest, e) (front', back', spells', rest', e') =
    let left = ap token_at e ∙ token_at-spelling t prefix back spells in
    let right = ap token_at e' ∙ token_at-spelling u front' back' spells' in
    let same : t ≡ u = got_same t u (length prefix) (length front') (sym left ∙ right) in
    let count : length prefix ≡ length front' = got_length t u (length prefix) (length front') (sym left ∙ right) in
    let after : back ≡ back' = sym (drop_at prefix back (length prefix) refl) ∙ ap (drop (length prefix)) (sym e ∙ e')
    ∙ drop_at front' back' (length prefix) (sym count) in
    let later : ts ≡ us = spells_once ts us back rest (subst (SpellsTokens us) (sym after) rest') in
    λ i. same i ∷ later i

pub one_tree : (s t : Tree) (bytes : List ℕ) → SpellsTree s bytes → SpellsTree t bytes → s ≡ t
one_tree s t bytes h k = sym (the_term-tokens_of s) ∙ ap the_term (spells_once (tokens_of s) (tokens_of t) bytes h.1 k.1) ∙ the_term-tokens_of t
