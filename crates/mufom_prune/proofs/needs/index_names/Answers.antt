use Rattle.std.proofs.Common.{◌≡◌, ◌∷◌, ◌+◌, ◌++◌, [], ◌||◌, ◌∙◌, List, ap, arith, drop, if◌then◌else◌, sym, ℕ}
use Rattle.std.specs.Str.{bytes_eq}
use Rattle.std.proofs.lemmas.List.{drop_more}
use Rattle.mufom_plan.specs.Names.{has_name}
use Rattle.mufom_prune.proofs.NameSets.{drop-past, name-added, or-false}
use Rattle.mufom_prune.proofs.needs.index_names.Goals as goal

pub loop-name-preserved : goal.loop-name-preserved
loop-name-preserved c = λ key.
    let index : List (List ℕ) = c.loop-name.index in
    let names : List (List ℕ) = c.args.names.now in
    let i : ℕ = c.loop-name.name-index in
    let item : List ℕ = c.name-item.result in
    let known : List ℕ = c.as_slice.result.now in
    let rest = has_name (drop (i + 1) names) key in
    let here : drop i names ≡ item ∷ drop (i + 1) names = drop_more names i item c.loop-name-test.true
    ∙ ap (λ (n : List ℕ). n ∷ drop (i + 1) names) (sym c.name-item.is) in
    ap (λ (next : List (List ℕ)). has_name next key || rest) (c.in_ok-_added.ensures.after
    ∙ ap (λ b. if b then index ++ known ∷ [] else index) c.in_ok-_added.ensures.added)
    ∙ name-added index known key rest
    ∙ ap (λ (n : List ℕ). has_name index key || (bytes_eq key n || rest)) c.as_slice.ensures
    ∙ ap (λ (l : List (List ℕ)). has_name index key || has_name l key) (sym here)
    ∙ c.loop-name.invariant key

pub returns : goal.returns
returns c = λ name.
    let index : List (List ℕ) = c.loop-name.index in
    let names : List (List ℕ) = c.args.names.now in
    sym (or-false (has_name index name))
    ∙ ap (λ (l : List (List ℕ)). has_name index name || has_name l name) (sym (drop-past names c.loop-name.name-index (omega (arith, c.loop-name-test.false))))
    ∙ c.loop-name.invariant name
