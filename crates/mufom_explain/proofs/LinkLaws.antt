-- Modules with their positions, looked at one after another.
use Rattle.std.proofs.Common.{◌≡◌, ℕ, suc, ◌+◌, ◌-◌, ◌<◌, ◌≤◌, List, [], ◌∷◌, ◌++◌, length}
use Rattle.std.proofs.Common.{take, get_or, Some, None, Bool, true, false, cond, ◌&&◌, refl, sym, ap, ◌∙◌}
use Rattle.std.proofs.Common.{append-nil, arith, if◌then◌else◌, length-append}
use Rattle.std.specs.Prelude.{filter, nat_lt, option_to_list, slice_get}
use Rattle.std.specs.List.{enumerate_from}
use Rattle.std.proofs.lemmas.List.{get_or-map, length-map}
use Rattle.std.proofs.lemmas.List.Elements.{filter_more}
use Rattle.std.proofs.lemmas.List.FromFn.{get_or-enumerate_from, length-enumerate_from}
use Rattle.std.proofs.lemmas.Option.{slice_get-get_or, slice_get_within}
use Rattle.mufom_origins.specs.Origins.{FileModule}
use Rattle.mufom_numbers.proofs.Choices.{some_same}
use Rattle.mufom_image_values.proofs.CommonLaws.{find-first, find-never}
use Rattle.mufom_image_values.proofs.TokenLoops.{below_more}
use Rattle.mufom_explain.specs.declared.modules.FlatModule.{FlatModule}
use Rattle.mufom_explain.specs.Details.{differs_from, first_line, has_start, listed, other_line}
use Rattle.mufom_explain.specs.Explained.{left_after, start_line}
use Rattle.mufom_explain.specs.Flat.{file_module, flat_of}
use Rattle.mufom_explain.specs.Lines.{ModuleFiles, module_line}

abbrev pub numbered : List FlatModule → List (ℕ × FileModule)
numbered flat = enumerate_from 0 (flat_of flat)

pub numbered-length : (flat : List FlatModule) → length (numbered flat) ≡ length flat
numbered-length flat = length-enumerate_from 0 (flat_of flat) ∙ length-map flat file_module

pub numbered-get : (flat : List FlatModule) (i : ℕ) (f : FlatModule) → i < length flat → f ≡ get_or flat i f
    → (d : ℕ × FileModule) → get_or (numbered flat) i d ≡ (i, file_module f)
numbered-get flat i f inside is d =
    let long = length-map flat file_module in
    let first : 0 + i ≡ i = omega arith in
    get_or-enumerate_from 0 (flat_of flat) i d (omega (arith, long, inside))
    ∙ (λ j. (first j, get_or-map file_module flat i f d.1 inside j))
    ∙ ap (λ (g : FlatModule). (i, file_module g)) (sym is)

-- the module at a position, with it
pub numbered-at : (flat : List FlatModule) (i : ℕ) (f : FlatModule) → i < length flat → f ≡ get_or flat i f
    → slice_get (numbered flat) i ≡ Some (i, file_module f)
numbered-at flat i f inside is =
    let long = numbered-length flat in
    slice_get-get_or (numbered flat) i (i, file_module f) (omega (arith, long, inside))
    ∙ ap Some (numbered-get flat i f inside is (i, file_module f))

-- ---- the first module, and the first with another descriptor

pub first-there : (names : ModuleFiles) (flat : List FlatModule) (f : FlatModule) → slice_get flat 0 ≡ Some f
    → first_line names (flat_of flat) ≡ module_line names 0 (file_module f)
first-there names [] f e = absurd cc
first-there names (g ∷ flat) f e =
    let same : g ≡ f = cc in
    append-nil (module_line names 0 (file_module g)) ∙ ap (λ (h : FlatModule). module_line names 0 (file_module h)) same

pub first-nowhere : (names : ModuleFiles) (flat : List FlatModule) → slice_get flat 0 ≡ None → first_line names (flat_of flat) ≡ []
first-nowhere names [] e = refl
first-nowhere names (g ∷ flat) e = absurd cc

-- no module before this position has another descriptor
abbrev pub NoneBefore : List FlatModule → ℕ → Type 0
NoneBefore flat i = (j : ℕ) → j < i → (p : ℕ × FileModule) → slice_get (numbered flat) j ≡ Some p → differs_from (flat_of flat) p ≡ false

pub none-more : (flat : List FlatModule) (i : ℕ) (f : FlatModule) → i < length flat → f ≡ get_or flat i f
    → differs_from (flat_of flat) (i, file_module f) ≡ false → NoneBefore flat i → NoneBefore flat (i + 1)
none-more flat i f inside is fails before =
    below_more (λ j. (p : ℕ × FileModule) → slice_get (numbered flat) j ≡ Some p → differs_from (flat_of flat) p ≡ false) i before
    (λ p e. ap (differs_from (flat_of flat)) (some_same p (i, file_module f) (sym e ∙ numbered-at flat i f inside is)) ∙ fails)

pub other-there : (names : ModuleFiles) (flat : List FlatModule) (i : ℕ) (f : FlatModule) → i < length flat → f ≡ get_or flat i f
    → differs_from (flat_of flat) (i, file_module f) ≡ true → NoneBefore flat i → other_line names (flat_of flat) ≡ module_line names i (file_module f)
other-there names flat i f inside is differs before =
    ap (λ o. listed names (option_to_list o))
    (find-first (differs_from (flat_of flat)) (numbered flat) i (i, file_module f) (numbered-at flat i f inside is) differs
    (λ j p less e. before j less p e))
    ∙ append-nil (module_line names i (file_module f))

pub other-nowhere : (names : ModuleFiles) (flat : List FlatModule) (i : ℕ) → length flat ≤ i → NoneBefore flat i → other_line names (flat_of flat) ≡ []
other-nowhere names flat i past before =
    let long = numbered-length flat in
    ap (λ o. listed names (option_to_list o))
    (find-never (differs_from (flat_of flat)) (numbered flat)
    (λ j p e. let inside = slice_get_within (numbered flat) j p e in before j (omega (arith, inside, long, past)) p e))

-- ---- modules with a start

module _ (names : ModuleFiles) where
  none-left : (kept : List (ℕ × FileModule)) (b : Bool) → 2 ≤ length kept → (nat_lt 0 (2 - length kept) && b) ≡ false
  none-left kept b many = let e : 2 - length kept ≡ 0 = omega (arith, many) in ap (λ n. nat_lt 0 n && b) e

  next-line : (kept : List (ℕ × FileModule)) (p : ℕ × FileModule) (b : Bool)
      → listed names (take 2 (kept ++ cond b (p ∷ []) []))
      ≡ listed names (take 2 kept) ++ (if nat_lt 0 (2 - length kept) && b then module_line names p.0 p.1 else [])
  next-line [] p true = append-nil (module_line names p.0 p.1)
  next-line [] p false = refl
  next-line (k ∷ []) p true =
      ap (λ t. module_line names k.0 k.1 ++ t) (append-nil (module_line names p.0 p.1))
      ∙ ap (λ t. t ++ module_line names p.0 p.1) (sym (append-nil (module_line names k.0 k.1)))
  next-line (k ∷ []) p false = sym (append-nil (module_line names k.0 k.1 ++ []))
  next-line (k ∷ l ∷ more) p b =
      let many : 2 ≤ suc (suc (length more)) = omega arith in
      sym (ap (λ c. listed names (k ∷ l ∷ []) ++ (if c then module_line names p.0 p.1 else [])) (none-left (k ∷ l ∷ more) b many)
      ∙ append-nil (listed names (k ∷ l ∷ [])))

  next-left : (kept : List (ℕ × FileModule)) (p : ℕ × FileModule) (b : Bool)
      → (if nat_lt 0 (2 - length kept) && b then (2 - length kept) - 1 else 2 - length kept) ≡ 2 - length (kept ++ cond b (p ∷ []) [])
  next-left [] p true = refl
  next-left [] p false = refl
  next-left (k ∷ []) p true = refl
  next-left (k ∷ []) p false = refl
  next-left (k ∷ l ∷ more) p b =
      let many : 2 ≤ suc (suc (length more)) = omega arith in
      let now : 2 - suc (suc (length more)) ≡ 0 = omega arith in
      let long = length-append more (cond b (p ∷ []) []) in
      let later : 2 - suc (suc (length (more ++ cond b (p ∷ []) []))) ≡ 0 = omega arith in
      ap (λ c. if c then (2 - suc (suc (length more))) - 1 else 2 - suc (suc (length more))) (none-left (k ∷ l ∷ more) b many) ∙ now ∙ sym later

  -- one module more
  starts-more : (flat : List FlatModule) (i : ℕ) (f : FlatModule) → i < length flat → f ≡ get_or flat i f
      → filter has_start (take (i + 1) (numbered flat))
      ≡ filter has_start (take i (numbered flat)) ++ cond (has_start (i, file_module f)) ((i, file_module f) ∷ []) []
  starts-more flat i f inside is =
      let long = numbered-length flat in
      let at = numbered-get flat i f inside is (i, file_module f) in
      filter_more has_start (numbered flat) i (i, file_module f) (omega (arith, long, inside))
      ∙ ap (λ p. filter has_start (take i (numbered flat)) ++ cond (has_start p) (p ∷ []) []) at

  pub start-text : (flat : List FlatModule) (i left : ℕ) (f : FlatModule) → i < length flat → f ≡ get_or flat i f
      → left ≡ 2 - length (filter has_start (take i (numbered flat)))
      → listed names (take 2 (filter has_start (take (i + 1) (numbered flat))))
      ≡ listed names (take 2 (filter has_start (take i (numbered flat)))) ++ start_line names left (i, file_module f)
  start-text flat i left f inside is count =
      let kept = filter has_start (take i (numbered flat)) in
      ap (λ ps. listed names (take 2 ps)) (starts-more flat i f inside is)
      ∙ next-line kept (i, file_module f) (has_start (i, file_module f))
      ∙ ap (λ n. listed names (take 2 kept) ++ start_line names n (i, file_module f)) (sym count)

  pub start-left : (flat : List FlatModule) (i left : ℕ) (f : FlatModule) → i < length flat → f ≡ get_or flat i f
      → left ≡ 2 - length (filter has_start (take i (numbered flat)))
      → left_after left (i, file_module f) ≡ 2 - length (filter has_start (take (i + 1) (numbered flat)))
  start-left flat i left f inside is count =
      let kept = filter has_start (take i (numbered flat)) in
      ap (λ n. left_after n (i, file_module f)) count
      ∙ next-left kept (i, file_module f) (has_start (i, file_module f))
      ∙ ap (λ ps. 2 - length ps) (sym (starts-more flat i f inside is))
