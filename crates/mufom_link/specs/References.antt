-- The references that a link keeps, one after another, and what each reference becomes.
use Rattle.std.specs.Prelude.{◌≡◌, ℕ, List, [], ◌∷◌, ◌++◌, map, if◌then◌else◌, Bool}
use Rattle.std.specs.List.{list_any}
use Rattle.std.specs.Str.{bytes_eq}
use Rattle.mufom_expr.specs.declared.token.Letter.{Letter}
use Rattle.mufom_expr.specs.declared.token.Letter.TheVariants as letters
use Rattle.mufom_names.specs.declared.name.Reference.{Reference}
use Rattle.mufom_names.specs.Index.{Entry, numbered_from}
use Rattle.mufom_names.specs.Keys.{reference_key}
use Rattle.mufom_module.specs.declared.module.Parts.{Parts}
use Rattle.mufom_plan.specs.Names.{has_name}
use Rattle.mufom_meaning.specs.Flat.{flat_references, public_names}
use Rattle.mufom_meaning.specs.Joined.{kept_references, position_of as place_of, same_reference}

-- an equal reference is kept
abbrev pub is_kept : List Reference → Reference → Bool
is_kept kept r = list_any (same_reference r) kept

-- the references kept after one more, which is left out if an equal one is kept
abbrev pub merged_with : List Reference → Reference → List Reference
merged_with kept r = if is_kept kept r then kept else kept ++ r ∷ []

-- the same, except that a reference is also left out if a public has its name
abbrev pub kept_with : List (List ℕ) → List Reference → Reference → List Reference
kept_with names kept r = if has_name names r.name then kept else merged_with kept r

-- the references kept after some more
abbrev pub kept_after : List (List ℕ) → List Reference → List Reference → List Reference
kept_after names kept [] = kept
kept_after names kept (r ∷ rs) = kept_after names (kept_with names kept r) rs

-- the variable that replaces a reference: that of the public with its name, or that of the equal reference
abbrev pub target_in : List (List ℕ) → List Reference → Reference → Letter × ℕ
target_in names kept r =
    if has_name names r.name then (letters.I, place_of (λ name. bytes_eq name r.name) names) else (letters.X, place_of (same_reference r) kept)

-- the variables that replace references, found one after another
abbrev pub targets_after : List (List ℕ) → List Reference → List Reference → List (Letter × ℕ)
targets_after names kept [] = []
targets_after names kept (r ∷ rs) = target_in names kept r ∷ targets_after names (kept_with names kept r) rs

-- the keys of references with their positions
abbrev pub keyed : List Reference → List Entry
keyed kept = numbered_from 0 (map reference_key kept)

-- the variables that replace all references of a list in its link, module by module
abbrev pub targets_of : List Parts → List (Letter × ℕ)
targets_of ms = map (target_in (public_names ms) (kept_references ms)) (flat_references ms)

-- what becomes of the references of a list in its link: these variables replace them, and these references are kept
pub record AreResolved (ms : List Parts) (targets : List (Letter × ℕ)) (kept : List Reference) : Type 0 where
  pub variables : targets ≡ targets_of ms
  pub references : kept ≡ kept_references ms
