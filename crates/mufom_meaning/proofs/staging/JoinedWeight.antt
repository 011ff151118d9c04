-- What a partial link weighs.
use Rattle.std.proofs.Common.{◌≡◌, ℕ, ◌+◌, ◌≤◌, List, [], ◌∷◌, map, filter, flat_map, length, Option, Some, None, Bool, true, false, not, cond, refl}
use Rattle.std.proofs.Common.{sym, ◌∙◌, ap, arith, sum_by}
use Rattle.std.specs.Prelude.{option_to_list}
use Rattle.std.proofs.lemmas.List.Sums.{sum_by-append, sum_by-cons}
use Rattle.mufom_expr.specs.declared.token.Letter.{Letter}
use Rattle.mufom_expr.specs.declared.token.Token.{Token}
use Rattle.mufom_expr.specs.declared.token.Token.TheVariants.{Number, Var, Fun}
use Rattle.mufom_expr.specs.Tree.{Tree, tokens_of}
use Rattle.mufom_expr.specs.Renamed.{renamed_token}
use Rattle.mufom_expr.specs.Value.{with_variables}
use Rattle.mufom_expr.proofs.TermsLemmas.{renamed_tokens-tokens_of}
use Rattle.mufom_names.specs.declared.name.Public.{Public}
use Rattle.mufom_loads.specs.declared.load.Item.{Item}
use Rattle.mufom_loads.specs.declared.load.Item.TheVariants.{Literal, Field}
use Rattle.mufom_loads.specs.declared.load.Load.{Load}
use Rattle.mufom_loads.specs.declared.load.Load.TheVariants.{SetSection, SetPc, One, Repeat}
use Rattle.mufom_debug.specs.declared.item.BlockHead.{BlockHead}
use Rattle.mufom_debug.specs.declared.item.BlockHead.TheVariants as heads
use Rattle.mufom_debug.specs.Marks.{DebugMark, block_begin, block_end, name_mark, note_mark, value_mark, marks_of}
use Rattle.mufom_module.specs.declared.module.Parts.{Parts}
use Rattle.mufom_module.specs.Written.{weight}
use Rattle.mufom_module.specs.Weights.{token_weight, expression_weight, section_weight, public_weight, notes_weight, reference_weight, head_weight}
use Rattle.mufom_module.specs.Weights.{mark_weight, item_weight, load_weight, start_weight, frame_weight}
use Rattle.mufom_module.proofs.WeightLaws.{weight-sum}
use Rattle.mufom_meaning.specs.Flat.{Sited, sited_from, name_count, flat_references, unresolved_references, public_names, distinct}
use Rattle.mufom_meaning.specs.Joined.{joined_variable, joined_tree, joined_public, joined_item, joined_load, joined_head, joined_mark}
use Rattle.mufom_meaning.specs.Joined.{kept_references, same_reference, HasHeaderOf, HasFirstHeader, IsJoined}
use Rattle.mufom_meaning.specs.StagingLaws.{total_weight, first_name_length}
use Rattle.mufom_plan.specs.Names.{has_name}

-- ---- entries of a link weigh what they weighed

token-renamed : (rename : Letter → ℕ → Letter × ℕ) (t : Token) → token_weight (renamed_token rename t) ≡ token_weight t
token-renamed rename (Number n) = refl
token-renamed rename (Var letter place) = refl
token-renamed rename (Fun f) = refl

pub sum_by-mapped : {X Y : Type 0} (w : Y → ℕ) (v : X → ℕ) (f : X → Y) → ((x : X) → w (f x) ≡ v x) → (xs : List X) → sum_by w (map f xs) ≡ sum_by v xs
sum_by-mapped w v f same [] = refl
sum_by-mapped w v f same (x ∷ xs) =
    sum_by-cons w (f x) (map f xs) ∙ (λ i. same x i + sum_by-mapped w v f same xs i) ∙ sym (sum_by-cons v x xs)

expression-renamed : (rename : Letter → ℕ → Letter × ℕ) (t : Tree) → expression_weight (with_variables rename t) ≡ expression_weight t
expression-renamed rename t =
    ap (λ (ts : List Token). sum_by token_weight ts) (sym (renamed_tokens-tokens_of rename t))
    ∙ sum_by-mapped token_weight token_weight (renamed_token rename) (token-renamed rename) (tokens_of t)

module _ (ms : List Parts) where
  public-joined : (site : Sited) (p : Public) → public_weight (joined_public ms site p) ≡ public_weight p
  public-joined site p = ap (λ n. 24 + length p.name + notes_weight p.notes + n) (expression-renamed (joined_variable ms site) p.value)

  item-joined : (site : Sited) (item : Item) → item_weight (joined_item ms site item) ≡ item_weight item
  item-joined site (Literal bytes) = refl
  item-joined site (Field kind size t) = ap (λ n. 12 + n) (expression-renamed (joined_variable ms site) t)

  load-joined : (site : Sited) (load : Load) → load_weight (joined_load ms site load) ≡ load_weight load
  load-joined site (SetSection section) = refl
  load-joined site (SetPc section t) = ap (λ n. 11 + n) (expression-renamed (joined_variable ms site) t)
  load-joined site (One item) = ap (λ n. 1 + n) (item-joined site item)
  load-joined site (Repeat count items) = ap (λ n. 11 + n) (sum_by-mapped item_weight item_weight (joined_item ms site) (item-joined site) items)

  head-joined : (site : Sited) (head : BlockHead) → head_weight (joined_head ms site head) ≡ head_weight head
  head-joined site heads.Module = refl
  head-joined site (heads.Global stack type_index offset) = ap (λ n. 18 + n) (expression-renamed (joined_variable ms site) offset)
  head-joined site (heads.Source numbers) = refl
  head-joined site (heads.Local stack type_index offset) = ap (λ n. 18 + n) (expression-renamed (joined_variable ms site) offset)
  head-joined site (heads.Section section_type section offset) = ap (λ n. 18 + n) (expression-renamed (joined_variable ms site) offset)

  mark-joined : (site : Sited) (mark : DebugMark) → mark_weight (joined_mark ms site mark) ≡ mark_weight mark
  mark-joined site (block_begin head name) = ap (λ n. 22 + length name + n) (head-joined site head)
  mark-joined site (block_end None) = refl
  mark-joined site (block_end (Some t)) = ap (λ n. 1 + n) (expression-renamed (joined_variable ms site) t)
  mark-joined site (name_mark name) = refl
  mark-joined site (note_mark name note) = refl
  mark-joined site (value_mark name t) = ap (λ n. 11 + n) (expression-renamed (joined_variable ms site) t)

-- ---- lists of entries

-- the weight of the entries of all modules together, if a link has them one after another
sum-sited : {X : Type 0} (w : X → ℕ) (own : Parts → List X) (into : Sited → X → X) → ((site : Sited) (x : X) → w (into site x) ≡ w x)
    → (s p d : ℕ) (ms : List Parts) → sum_by w (flat_map (λ site. map (into site) (own site.parts)) (sited_from s p d ms)) ≡ sum_by (λ m. sum_by w (own m)) ms
sum-sited w own into same s p d [] = refl
sum-sited w own into same s p d (m ∷ ms) =
    let site : Sited = record { parts = m; first_section = s; first_public = p; first_name = d } in
    let rest = sited_from (s + length m.sections) (p + length m.names.publics) (d + name_count (marks_of m.debug)) ms in
    let first = sum_by-mapped w w (into site) (same site) (own m) in
    let later = sum-sited w own into same (s + length m.sections) (p + length m.names.publics) (d + name_count (marks_of m.debug)) ms in
    sum_by-append w (map (into site) (own m)) (flat_map (λ site. map (into site) (own site.parts)) rest)
    ∙ (λ i. first i + later i) ∙ sym (sum_by-cons (λ (n : Parts). sum_by w (own n)) m ms)

-- the same of entries that stay as they are
pub sum-flat : {X : Type 0} (w : X → ℕ) (own : Parts → List X) (ms : List Parts) → sum_by w (flat_map own ms) ≡ sum_by (λ m. sum_by w (own m)) ms
sum-flat w own [] = refl
sum-flat w own (m ∷ ms) =
    sum_by-append w (own m) (flat_map own ms) ∙ ap (λ n. sum_by w (own m) + n) (sum-flat w own ms) ∙ sym (sum_by-cons (λ (n : Parts). sum_by w (own n)) m ms)

-- a list of which some elements are left out weighs no more
pub filter-lighter : {X : Type 0} (w : X → ℕ) (keep : X → Bool) (xs : List X) → sum_by w (filter keep xs) ≤ sum_by w xs
filter-lighter w keep [] = omega arith
filter-lighter w keep (x ∷ xs) = by_case (keep x) (filter-lighter w keep xs) where
  by_case : (b : Bool) → sum_by w (filter keep xs) ≤ sum_by w xs → sum_by w (cond b (x ∷ filter keep xs) (filter keep xs)) ≤ sum_by w (x ∷ xs)
  by_case true rest = let a = sum_by-cons w x (filter keep xs) in let b = sum_by-cons w x xs in omega (arith, a, b, rest)
  by_case false rest = let b = sum_by-cons w x xs in omega (arith, b, rest)

pub distinct-lighter : {X : Type 0} (w : X → ℕ) (same : X → X → Bool) (xs : List X) → sum_by w (distinct same xs) ≤ sum_by w xs
distinct-lighter w same [] = omega arith
distinct-lighter w same (x ∷ xs) =
    let a = sum_by-cons w x (filter (λ y. not (same x y)) (distinct same xs)) in
    let b = sum_by-cons w x xs in
    let c = filter-lighter w (λ y. not (same x y)) (distinct same xs) in
    let rest = distinct-lighter w same xs in
    omega (arith, a, b, c, rest)

kept-lighter : (ms : List Parts) → sum_by reference_weight (kept_references ms) ≤ sum_by (λ m. sum_by reference_weight m.names.references) ms
kept-lighter ms =
    let a = distinct-lighter reference_weight same_reference (unresolved_references ms) in
    let b = filter-lighter reference_weight (λ reference. not (has_name (public_names ms) reference.name)) (flat_references ms) in
    let c = sum-flat reference_weight (λ m. m.names.references) ms in
    omega (arith, a, b, c)

-- ---- the whole

abbrev pub start_sum : Option Tree → ℕ
start_sum start = sum_by (λ t. 4 + expression_weight t) (option_to_list start)

pub start-sum : (start : Option Tree) → start_weight start ≡ start_sum start
start-sum None = refl
start-sum (Some t) = omega (arith, sum_by-cons (λ (u : Tree). 4 + expression_weight u) t [])

first_frame : (M m : Parts) (name : List ℕ) → M.name ≡ name → HasHeaderOf M m → frame_weight M + length m.name ≡ frame_weight m + length name
first_frame M m name named h =
    let a : length M.processor ≡ length m.processor = ap length h.processor in
    let b : length M.ext ≡ length m.ext = ap length h.ext in
    let c : length M.env ≡ length m.env = ap length h.env in
    let d : length M.name ≡ length name = ap length named in
    omega (arith, a, b, c, d)

frames : (M : Parts) (ms : List Parts) (name : List ℕ) → M.name ≡ name → HasFirstHeader M ms
    → frame_weight M + first_name_length ms ≤ sum_by frame_weight ms + length name
frames M [] name named h = absurd h
frames M (m ∷ ms) name named h = let a = first_frame M m name named h in let b = sum_by-cons frame_weight m ms in omega (arith, a, b)

-- what modules weigh together, list by list
pub split_weights : (ms : List Parts)
    → total_weight ms ≡ sum_by frame_weight ms + sum_by (λ m. sum_by section_weight m.sections) ms + sum_by (λ m. sum_by public_weight m.names.publics) ms
    + sum_by (λ m. sum_by reference_weight m.names.references) ms + sum_by (λ m. sum_by mark_weight (marks_of m.debug)) ms
    + sum_by (λ m. sum_by load_weight m.loads) ms + sum_by (λ m. sum_by (λ t. 4 + expression_weight t) (option_to_list m.start)) ms
split_weights [] = refl
split_weights (m ∷ ms) =
    let rest = split_weights ms in
    let whole = sum_by-cons weight m ms in
    let own = weight-sum m in
    let start = start-sum m.start in
    let a = sum_by-cons frame_weight m ms in
    let b = sum_by-cons (λ (n : Parts). sum_by section_weight n.sections) m ms in
    let c = sum_by-cons (λ (n : Parts). sum_by public_weight n.names.publics) m ms in
    let d = sum_by-cons (λ (n : Parts). sum_by reference_weight n.names.references) m ms in
    let e = sum_by-cons (λ (n : Parts). sum_by mark_weight (marks_of n.debug)) m ms in
    let f = sum_by-cons (λ (n : Parts). sum_by load_weight n.loads) m ms in
    let g = sum_by-cons (λ (n : Parts). sum_by (λ t. 4 + expression_weight t) (option_to_list n.start)) m ms in
    omega (arith, rest, whole, own, start, a, b, c, d, e, f, g)

-- a link weighs no more than its list, with its name in place of the first module's
pub joined_weighs : (M : Parts) (ms : List Parts) (name : List ℕ) → IsJoined M ms name → weight M + first_name_length ms ≤ total_weight ms + length name
joined_weighs M ms name j =
    let all = split_weights ms in
    let own = weight-sum M in
    let frame = frames M ms name j.named j.header in
    let a : sum_by section_weight M.sections ≡ sum_by (λ m. sum_by section_weight m.sections) ms = ap (sum_by section_weight) j.sections
    ∙ sum-flat section_weight (λ m. m.sections) ms in
    let b : sum_by public_weight M.names.publics ≡ sum_by (λ m. sum_by public_weight m.names.publics) ms =
    ap (sum_by public_weight) j.publics ∙ sum-sited public_weight (λ m. m.names.publics) (joined_public ms) (public-joined ms) 0 0 0 ms in
    let c0 : sum_by reference_weight M.names.references ≡ sum_by reference_weight (kept_references ms) = ap (sum_by reference_weight) j.references in
    let c = kept-lighter ms in
    let d : sum_by mark_weight (marks_of M.debug) ≡ sum_by (λ m. sum_by mark_weight (marks_of m.debug)) ms =
    ap (sum_by mark_weight) j.debug ∙ sum-sited mark_weight (λ m. marks_of m.debug) (joined_mark ms) (mark-joined ms) 0 0 0 ms in
    let e : sum_by load_weight M.loads ≡ sum_by (λ m. sum_by load_weight m.loads) ms =
    ap (sum_by load_weight) j.loads ∙ sum-sited load_weight (λ m. m.loads) (joined_load ms) (load-joined ms) 0 0 0 ms in
    let start = start-sum M.start in
    let f : start_sum M.start ≡ sum_by (λ m. sum_by (λ t. 4 + expression_weight t) (option_to_list m.start)) ms =
    ap (sum_by (λ (t : Tree). 4 + expression_weight t)) j.start
    ∙ sum-sited (λ (t : Tree). 4 + expression_weight t) (λ m. option_to_list m.start) (joined_tree ms)
    (λ site t. ap (λ n. 4 + n) (expression-renamed (joined_variable ms site) t)) 0 0 0 ms in
    omega (arith, all, own, frame, a, b, c0, c, d, e, start, f)
