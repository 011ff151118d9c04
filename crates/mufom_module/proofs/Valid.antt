-- A valid module has none of the defects.
use Rattle.std.proofs.Common.{◌≡◌, Bool, true, false, cond, List, [], ◌∷◌, ◌++◌, Option, Some, None, refl, nat_le, ◌<◌, ◌^◌, arith}
use Rattle.std.specs.List.{find, list_any}
use Rattle.mufom_module.specs.declared.module.Parts.{Parts}
use Rattle.mufom_module.specs.declared.module.Defect.TheVariants as d
use Rattle.mufom_module.specs.Written.{weight}
use Rattle.mufom_module.specs.Contents.{any_item}
use Rattle.mufom_module.specs.Defects.{has_bad_size, has_defect, IsValid}

passed : {X : Type 0} (b : Bool) (x : X) (o : Option X) → cond b (Some x) o ≡ None → o ≡ None
passed true x o h = cc
passed false x o h = h

find-rest : {X : Type 0} (p : X → Bool) (xs ys : List X) → find p (xs ++ ys) ≡ None → find p ys ≡ None
find-rest p [] ys h = h
find-rest p (x ∷ xs) ys h = find-rest p xs ys (passed (p x) x (find p (xs ++ ys)) h)

missed : {X : Type 0} (b : Bool) (x : X) → cond b (Some x) None ≡ None → b ≡ false
missed true x h = cc
missed false x h = refl

pub weighs_less : (m : Parts) → IsValid m → weight m < 2 ^ 32
weighs_less m valid =
    let last = find-rest (has_defect m) (d.Depth ∷ d.LongId ∷ d.BadMaus ∷ d.BadAlign ∷ d.MissingBase ∷ d.Position ∷ d.MisplacedP ∷ d.NoSection
    ∷ d.LongRun ∷ d.FieldSize ∷ d.Attribute ∷ d.Nesting ∷ []) (d.Weight ∷ []) valid in
    let light : nat_le (2 ^ 32) (weight m) ≡ false = missed (has_defect m d.Weight) d.Weight last in
    grind arith

found : {X : Type 0} (p : X → Bool) (x : X) (xs : List X) → find p (x ∷ xs) ≡ None → p x ≡ false
found p x xs h = by_case (p x) h where
  by_case : (b : Bool) → cond b (Some x) (find p xs) ≡ None → b ≡ false
  by_case true e = absurd cc
  by_case false e = refl

-- each field of a valid module has a size of 1 to 8 bytes
pub fields_fit : (m : Parts) → IsValid m → list_any (any_item has_bad_size) m.loads ≡ false
fields_fit m valid =
    found (has_defect m) d.FieldSize (d.Attribute ∷ d.Nesting ∷ d.Weight ∷ [])
    (find-rest (has_defect m) (d.Depth ∷ d.LongId ∷ d.BadMaus ∷ d.BadAlign ∷ d.MissingBase ∷ d.Position ∷ d.MisplacedP ∷ d.NoSection ∷ d.LongRun ∷ [])
    (d.FieldSize ∷ d.Attribute ∷ d.Nesting ∷ d.Weight ∷ []) valid)
