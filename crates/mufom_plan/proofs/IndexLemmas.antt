-- The names of an index, as kept and as seen.
use Rattle.std.proofs.Common.{◌≡◌, ℕ, List, [], ◌∷◌, map, refl, ap, sym, cond, Vec, Global, Some, None, ◌||◌, ◌+◌, not}
use Rattle.std.proofs.Math.ListN.{length-map}
use Rattle.std.specs.Prelude.{position, nat_lt}
use Rattle.std.specs.List.{list_any, position_or_len}
use Rattle.std.specs.Str.{bytes_eq}

abbrev pub seen : List (Vec ℕ Global) → List (List ℕ)
seen names = map (λ name. name.items) names

pub list_any-seen : (name : List ℕ) (names : List (Vec ℕ Global)) → list_any (λ kept. bytes_eq name kept.items) names ≡ list_any (bytes_eq name) (seen names)
list_any-seen name [] = refl
list_any-seen name (kept ∷ names) = ap (λ b. bytes_eq name kept.items || b) (list_any-seen name names)

pub position_or_len-seen : (name : List ℕ) (names : List (Vec ℕ Global)) → position_or_len (λ kept. bytes_eq name kept.items) names
    ≡ position_or_len (bytes_eq name) (seen names)
position_or_len-seen name [] = refl
position_or_len-seen name (kept ∷ names) = ap (λ n. cond (not (bytes_eq name kept.items)) (1 + n) 0) (position_or_len-seen name names)

pub position-seen : (name : List ℕ) (names : List (Vec ℕ Global)) → position (λ kept. bytes_eq name kept.items) names ≡ position (bytes_eq name) (seen names)
position-seen name names = λ i. let at = position_or_len-seen name names i in cond (nat_lt at (sym (length-map names (λ kept. kept.items)) i)) (Some at) None
