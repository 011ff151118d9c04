-- A module without a defect has none under another name.
use Rattle.std.proofs.Common.{◌≡◌, ℕ, ◌+◌, ◌<◌, ◌^◌, List, [], ◌∷◌, length, Some, None, Bool, false, ◌||◌, cond, refl, ap, ◌∙◌, arith}
use Rattle.std.specs.List.{find, list_any, AllByRecursion}
use Rattle.mufom_numbers.specs.declared.limits.TheConstants.{MOST_STRING_BYTES}
use Rattle.mufom_numbers.proofs.Choices.{not_le, not_lt, two_false}
use Rattle.mufom_module.specs.declared.module.Parts.{Parts}
use Rattle.mufom_module.specs.declared.module.Defect.TheVariants as kinds
use Rattle.mufom_module.specs.Contents.{debug_marks}
use Rattle.mufom_module.specs.Defects.{IsValid, defects, has_defect, has_long_name, is_long}
use Rattle.mufom_module.specs.Written.{weight}
use Rattle.mufom_module.proofs.WeightLaws.{weight-sum}
use Rattle.mufom_meaning.proofs.NoDefects.{no_defect}
use Rattle.mufom_meaning.proofs.Tests.{either_false}
use Rattle.mufom_stages.specs.Stages.{named}
use Rattle.mufom_stages.specs.StageLaws.{ModulesMayBeRenamed}

find-nothing : {A : Type 0} (p : A → Bool) (xs : List A) → AllByRecursion (λ x. p x ≡ false) xs → find p xs ≡ None
find-nothing p [] all = refl
find-nothing p (x ∷ xs) all = ap (λ b. cond b (Some x) (find p xs)) all.0 ∙ find-nothing p xs all.1

module _ (m : Parts) (name : List ℕ) (valid : IsValid m) where
  heavier : weight (named name m) + length m.name ≡ weight m + length name
  heavier = let a = weight-sum m in let b = weight-sum (named name m) in omega (arith, a, b)

  too-heavy : weight m + length name < 2 ^ 32 → has_defect (named name m) kinds.Weight ≡ false
  too-heavy light = let same = heavier in not_le (2 ^ 32) (weight (named name m)) (omega (arith, light, same))

  -- all strings but the name
  strings : (is_long m.processor ≡ false) × ((list_any (λ s. is_long s.name) m.sections
      || (list_any (λ p. is_long p.name) m.names.publics
      || (list_any (λ r. is_long r.name) m.names.references
      || list_any has_long_name (debug_marks m)))) ≡ false)
  strings =
      let (processor, rest) = either_false (is_long m.processor) _ (no_defect m valid kinds.LongId) in
      (processor, (either_false (is_long m.name) _ rest).1)

  long-id : length name < 2 ^ 16 → has_defect (named name m) kinds.LongId ≡ false
  long-id short =
      let (processor, rest) = strings in
      two_false (is_long m.processor) _ processor (two_false (is_long name) _ (not_lt MOST_STRING_BYTES (length name) (omega (arith, short))) rest)

  valid-under : length name < 2 ^ 16 → weight m + length name < 2 ^ 32 → IsValid (named name m)
  valid-under short light = find-nothing (has_defect (named name m)) defects (
    no_defect m valid kinds.Depth,
    (
      long-id short,
      (
        no_defect m valid kinds.BadMaus,
        (
          no_defect m valid kinds.BadAlign,
          (
            no_defect m valid kinds.MissingBase,
            (
              no_defect m valid kinds.Position,
              (
                no_defect m valid kinds.MisplacedP,
                (
                  no_defect m valid kinds.NoSection,
                  (
                    no_defect m valid kinds.LongRun,
                    (
                      no_defect m valid kinds.FieldSize,
                      (no_defect m valid kinds.Attribute, (no_defect m valid kinds.Nesting, (too-heavy light, tt))),
                    ),
                  ),
                ),
              ),
            ),
          ),
        ),
      ),
    ),
  )

pub modules-may-be-renamed : ModulesMayBeRenamed
modules-may-be-renamed m name valid short light = valid-under m name valid short light
