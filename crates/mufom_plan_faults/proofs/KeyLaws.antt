-- The keys of a table, as the code goes through them.
use Rattle.std.proofs.Common.{◌≡◌, ℕ, List, [], ◌∷◌, Option, Some, None, Bool, true, false, cond, String, Global, string_bytes, refl}
use Rattle.std.specs.Prelude.{find, not, option_map}
use Rattle.std.specs.Map.{keys_of}
use Rattle.toml.specs.View.{members_view}
use Rattle.toml.specs.declared.value.Value.{Value}
use Rattle.mufom_plan.specs.Names.{has_name}
use Rattle.mufom_plan_faults.specs.Keys.{first_other}

-- the first key that is not allowed, among entries and among members
pub first_other-members : (allowed : List (List ℕ)) (es : List (String Global × Value))
    → option_map string_bytes (find (λ key. not (has_name allowed (string_bytes key))) (keys_of es)) ≡ first_other allowed (members_view es)
first_other-members allowed [] = refl
first_other-members allowed (e ∷ es) = by (not (has_name allowed (string_bytes e.0))) (first_other-members allowed es) where
  by : (b : Bool) → option_map string_bytes (find (λ key. not (has_name allowed (string_bytes key))) (keys_of es)) ≡ first_other allowed (members_view es)
      → option_map string_bytes (cond b (Some e.0) (find (λ key. not (has_name allowed (string_bytes key))) (keys_of es)))
      ≡ cond b (Some (string_bytes e.0)) (first_other allowed (members_view es))
  by true rest = refl
  by false rest = rest

pub option_map-both : {A B C : Type 0} (f : A → B) (g : B → C) (o : Option A) → option_map g (option_map f o) ≡ option_map (λ x. g (f x)) o
option_map-both f g None = refl
option_map-both f g (Some x) = refl
