-- A generated module has no defect, and weighs little.
use Rattle.std.proofs.Common.{◌≡◌, ℕ, ◌+◌, ◌<◌, ◌≤◌, ◌^◌, ◌∷◌, [], List, length, Bool, true, false, cond, Some, None, refl, ◌∙◌, ap, arith}
use Rattle.std.specs.Prelude.{codes}
use Rattle.std.specs.List.{find, list_any}
use Rattle.std.specs.Fmt.{decimal}
use Rattle.std.proofs.lemmas.Fmt.{length-decimal-le}
use Rattle.mufom_numbers.specs.declared.limits.TheConstants.{MOST_STRING_BYTES}
use Rattle.mufom_names.specs.declared.name.Public.{Public}
use Rattle.mufom_names.specs.declared.name.Reference.{Reference}
use Rattle.mufom_module.specs.declared.module.Defect.{Defect}
use Rattle.mufom_module.specs.declared.module.Defect.TheVariants as d
use Rattle.mufom_module.specs.Defects.{has_defect, defects, is_long, IsValid}
use Rattle.mufom_module.specs.Written.{weight}
use Rattle.mufom_module.proofs.WeightLaws.{weight-sum}
use Rattle.mufom_numbers.proofs.Choices.{not_le, not_lt, two_false}
use Rattle.mufom_make.specs.Generated.{entry_at, module_at, name_at, references_at}
use Rattle.mufom_make.specs.Links.{most_weight}

short-decimal : (n : ℕ) → n ≤ 65536 → length (decimal n) ≤ 5
short-decimal n few = length-decimal-le 5 n (omega arith) (omega (arith, few)) (omega (arith, few))

pub short-m : (n : ℕ) → n ≤ 65536 → length (name_at (codes "m") n) ≤ 6
short-m n few = let short = short-decimal n few in omega (arith, short)

short-f : (n : ℕ) → n ≤ 65536 → length (name_at (codes "f") n) ≤ 6
short-f n few = let short = short-decimal n few in omega (arith, short)

not_long : (text : List ℕ) → length text ≤ 6 → is_long text ≡ false
not_long text short = not_lt MOST_STRING_BYTES (length text) (omega (arith, short))

short-references : (last : Bool) (n : ℕ) → n < 65536 → list_any (λ (r : Reference). is_long r.name) (references_at last n) ≡ false
short-references true n few = refl
short-references false n few = two_false (is_long (name_at (codes "f") (n + 1))) false
    (not_long (name_at (codes "f") (n + 1)) (short-f (n + 1) (omega (arith, few)))) refl

short-strings : (last : Bool) (n : ℕ) → n < 65536 → has_defect (module_at last n) d.LongId ≡ false
short-strings last n few =
    two_false (is_long (name_at (codes "m") n)) _ (not_long (name_at (codes "m") n) (short-m n (omega (arith, few))))
    (two_false (list_any (λ (p : Public). is_long p.name) (entry_at n ∷ [])) _
    (two_false (is_long (name_at (codes "f") n)) false (not_long (name_at (codes "f") n) (short-f n (omega (arith, few)))) refl)
    (two_false (list_any (λ (r : Reference). is_long r.name) (references_at last n)) false (short-references last n few) refl))

light : (last : Bool) (n : ℕ) → n < 65536 → weight (module_at last n) ≤ most_weight
light true n few = let whole = weight-sum (module_at true n) in let own = short-decimal n (omega (arith, few)) in omega (arith, whole, own)
light false n few =
    let whole = weight-sum (module_at false n) in
    let own = short-decimal n (omega (arith, few)) in
    let next = short-decimal (n + 1) (omega (arith, few)) in omega (arith, whole, own, next)

not_heavy : (last : Bool) (n : ℕ) → n < 65536 → has_defect (module_at last n) d.Weight ≡ false
not_heavy last n few = let own = light last n few in not_le (2 ^ 32) (weight (module_at last n)) (omega (arith, own))

no_defect : (last : Bool) (n : ℕ) → n < 65536 → (defect : Defect) → has_defect (module_at last n) defect ≡ false
no_defect last n few d.Depth = refl
no_defect last n few d.LongId = short-strings last n few
no_defect last n few d.BadMaus = refl
no_defect last n few d.BadAlign = refl
no_defect last n few d.MissingBase = refl
no_defect true n few d.Position = refl
no_defect false n few d.Position = refl
no_defect true n few d.MisplacedP = refl
no_defect false n few d.MisplacedP = refl
no_defect last n few d.NoSection = refl
no_defect last n few d.LongRun = refl
no_defect last n few d.FieldSize = refl
no_defect last n few d.Attribute = refl
no_defect last n few d.Nesting = refl
no_defect last n few d.Weight = not_heavy last n few

finds_nothing : (test : Defect → Bool) (xs : List Defect) → ((x : Defect) → test x ≡ false) → find test xs ≡ None
finds_nothing test [] fails = refl
finds_nothing test (x ∷ xs) fails = ap (λ b. cond b (Some x) (find test xs)) (fails x) ∙ finds_nothing test xs fails

pub module_at-valid : (last : Bool) (n : ℕ) → n < 65536 → IsValid (module_at last n)
module_at-valid last n few = finds_nothing (has_defect (module_at last n)) defects (no_defect last n few)

pub module_at-light : (last : Bool) (n : ℕ) → n < 65536 → weight (module_at last n) ≤ most_weight
module_at-light = light
