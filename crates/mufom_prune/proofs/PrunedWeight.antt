-- What remains of a module weighs no more than the module.
use Rattle.std.proofs.Common.{◌≡◌, ℕ, ◌+◌, ◌≤◌, List, [], ◌∷◌, filter, length, Option, Some, None, Bool, true, false, refl, sym, ◌∙◌, ap, arith, sum_by}
use Rattle.std.specs.Prelude.{option_map}
use Rattle.std.proofs.lemmas.List.Sums.{sum_by-cons}
use Rattle.mufom_expr.specs.declared.token.Letter.{Letter}
use Rattle.mufom_expr.specs.declared.token.Token.{Token}
use Rattle.mufom_expr.specs.declared.token.Token.TheVariants.{Number, Var, Fun}
use Rattle.mufom_expr.specs.Tree.{Tree, tokens_of}
use Rattle.mufom_expr.specs.Renamed.{renamed_token}
use Rattle.mufom_expr.specs.Value.{with_variables}
use Rattle.mufom_expr.proofs.TermsLemmas.{renamed_tokens-tokens_of}
use Rattle.mufom_names.specs.declared.name.Public.{Public}
use Rattle.mufom_loads.specs.declared.load.Item.{Item}
use Rattle.mufom_loads.specs.declared.load.Item.TheVariants.{Literal, Field}
use Rattle.mufom_loads.specs.declared.load.Load.{Load}
use Rattle.mufom_loads.specs.declared.load.Load.TheVariants.{SetSection, SetPc, One, Repeat}
use Rattle.mufom_module.specs.declared.module.Parts.{Parts}
use Rattle.mufom_module.specs.Contents.{placed_from, placed_loads, current_after}
use Rattle.mufom_module.specs.Written.{weight}
use Rattle.mufom_module.specs.Weights.{token_weight, expression_weight, section_weight, public_weight, notes_weight, reference_weight, item_weight}
use Rattle.mufom_module.specs.Weights.{load_weight, start_weight}
use Rattle.mufom_module.proofs.WeightLaws.{weight-sum}
use Rattle.mufom_meaning.proofs.staging.JoinedWeight.{sum_by-mapped, filter-lighter}
use Rattle.mufom_prune.specs.declared.positions.NewPositions.{NewPositions}
use Rattle.mufom_prune.specs.Pruned.{Remains, remaining, positions_of, new_variable, new_tree, new_public, new_item, new_load, stays, without_others}

token-renamed : (rename : Letter → ℕ → Letter × ℕ) (t : Token) → token_weight (renamed_token rename t) ≡ token_weight t
token-renamed rename (Number n) = refl
token-renamed rename (Var letter place) = refl
token-renamed rename (Fun f) = refl

expression-renamed : (rename : Letter → ℕ → Letter × ℕ) (t : Tree) → expression_weight (with_variables rename t) ≡ expression_weight t
expression-renamed rename t =
    ap (λ (ts : List Token). sum_by token_weight ts) (sym (renamed_tokens-tokens_of rename t))
    ∙ sum_by-mapped token_weight token_weight (renamed_token rename) (token-renamed rename) (tokens_of t)

remaining-lighter : {X : Type 0} (w : X → ℕ) (marks : List Bool) (xs : List X) → sum_by w (remaining marks xs) ≤ sum_by w xs
remaining-lighter w [] xs = omega arith
remaining-lighter w (mark ∷ marks) [] = omega arith
remaining-lighter w (true ∷ marks) (x ∷ xs) = let a = sum_by-cons w x (remaining marks xs) in let b = sum_by-cons w x xs in let rest =
    remaining-lighter w marks xs in omega (arith, a, b, rest)
remaining-lighter w (false ∷ marks) (x ∷ xs) = let b = sum_by-cons w x xs in let rest = remaining-lighter w marks xs in omega (arith, b, rest)

module _ (new : NewPositions) where
  public-new : (p : Public) → public_weight (new_public new p) ≡ public_weight p
  public-new p = ap (λ n. 24 + length p.name + notes_weight p.notes + n) (expression-renamed (new_variable new) p.value)

  item-new : (item : Item) → item_weight (new_item new item) ≡ item_weight item
  item-new (Literal bytes) = refl
  item-new (Field kind size t) = ap (λ n. 12 + n) (expression-renamed (new_variable new) t)

  load-new : (load : Load) → load_weight (new_load new load) ≡ load_weight load
  load-new (SetSection section) = refl
  load-new (SetPc section t) = ap (λ n. 11 + n) (expression-renamed (new_variable new) t)
  load-new (One item) = ap (λ n. 1 + n) (item-new item)
  load-new (Repeat count items) = ap (λ n. 11 + n) (sum_by-mapped item_weight item_weight (new_item new) item-new items)

  start-new : (start : Option Tree) → start_weight (option_map (new_tree new) start) ≡ start_weight start
  start-new None = refl
  start-new (Some t) = ap (λ n. 4 + n) (expression-renamed (new_variable new) t)

placed-weight : (current : Option ℕ) (loads : List Load) → sum_by (λ (p : Option ℕ × Load). load_weight p.1) (placed_from current loads)
    ≡ sum_by load_weight loads
placed-weight current [] = refl
placed-weight current (load ∷ loads) =
    let rest = placed-weight (current_after current load) loads in
    let a = sum_by-cons (λ (p : Option ℕ × Load). load_weight p.1) (current, load) (placed_from (current_after current load) loads) in
    let b = sum_by-cons load_weight load loads in
    omega (arith, rest, a, b)

pub pruned_weighs : (m : Parts) (c : Remains) → weight (without_others m c) ≤ weight m
pruned_weighs m c =
    let new = positions_of c in
    let placed = placed_loads m in
    let own = weight-sum (without_others m c) in
    let whole = weight-sum m in
    let sections = remaining-lighter section_weight c.sections m.sections in
    let publics = remaining-lighter public_weight c.publics m.names.publics in
    let publics' = sum_by-mapped public_weight public_weight (new_public new) (public-new new) (remaining c.publics m.names.publics) in
    let references = remaining-lighter reference_weight c.references m.names.references in
    let loads = filter-lighter (λ (p : Option ℕ × Load). load_weight p.1) (stays c.sections) placed in
    let loads' = sum_by-mapped load_weight (λ (p : Option ℕ × Load). load_weight p.1) (λ (p : Option ℕ × Load). new_load new p.1)
    (λ p. load-new new p.1) (filter (stays c.sections) placed) in
    let loads'' = placed-weight None m.loads in
    let start = start-new new m.start in
    omega (arith, own, whole, sections, publics, publics', references, loads, loads', loads'', start)
