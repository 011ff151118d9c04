-- A module without a defect has none without its debug items.
use Rattle.std.proofs.Common.{◌≡◌, ◌≤◌, ◌<◌, ◌^◌, List, [], ◌∷◌, Some, None, Bool, false, cond, refl, ap, ◌∙◌, arith}
use Rattle.std.specs.List.{find, list_any, AllByRecursion}
use Rattle.mufom_numbers.proofs.Choices.{not_le, of_not_le, two_false}
use Rattle.mufom_module.specs.declared.module.Parts.{Parts}
use Rattle.mufom_module.specs.declared.module.Defect.TheVariants as kinds
use Rattle.mufom_module.specs.Contents.{any_of, placed_loads}
use Rattle.mufom_module.specs.Defects.{IsValid, counts_of, defects, has_defect, has_bad_place, has_other_counter, is_long, misplaces_counter, names_outside}
use Rattle.mufom_module.specs.Written.{weight}
use Rattle.mufom_module.proofs.WeightLaws.{weight-sum}
use Rattle.mufom_meaning.proofs.NoDefects.{no_defect}
use Rattle.mufom_meaning.proofs.Tests.{either_false}
use Rattle.mufom_debug_laws.specs.Without.{without_debug}
use Rattle.mufom_debug_laws.specs.DebugLaws.{ModulesStayValid}

find-nothing : {A : Type 0} (p : A → Bool) (xs : List A) → AllByRecursion (λ x. p x ≡ false) xs → find p xs ≡ None
find-nothing p [] all = refl
find-nothing p (x ∷ xs) all = ap (λ b. cond b (Some x) (find p xs)) all.0 ∙ find-nothing p xs all.1

module _ (m : Parts) (valid : IsValid m) where
  not-heavier : weight (without_debug m) ≤ weight m
  not-heavier = let a = weight-sum m in let b = weight-sum (without_debug m) in omega (arith, a, b)

  not-heavy : has_defect (without_debug m) kinds.Weight ≡ false
  not-heavy =
      let light : weight m < 2 ^ 32 = of_not_le (2 ^ 32) (weight m) (no_defect m valid kinds.Weight) in
      let less = not-heavier in
      not_le (2 ^ 32) (weight (without_debug m)) (omega (arith, light, less))

  long-id : has_defect (without_debug m) kinds.LongId ≡ false
  long-id =
      let a = either_false (is_long m.processor) _ (no_defect m valid kinds.LongId) in
      let b = either_false (is_long m.name) _ a.1 in
      let c = either_false (list_any (λ s. is_long s.name) m.sections) _ b.1 in
      let d = either_false (list_any (λ p. is_long p.name) m.names.publics) _ c.1 in
      let e = either_false (list_any (λ r. is_long r.name) m.names.references) _ d.1 in
      two_false _ _ a.0 (two_false _ _ b.0 (two_false _ _ c.0 (two_false _ _ d.0 (two_false _ _ e.0 refl))))

  position : has_defect (without_debug m) kinds.Position ≡ false
  position =
      let n = counts_of m in
      let a = either_false (list_any (λ p. names_outside n p.value) m.names.publics) _ (no_defect m valid kinds.Position) in
      let b = either_false (list_any (has_bad_place n) m.loads) _ a.1 in
      let c = either_false _ _ b.1 in
      let d = either_false (any_of (names_outside n) m.start) _ c.1 in
      two_false _ _ a.0 (two_false _ _ b.0 (two_false _ _ d.0 refl))

  counters : has_defect (without_debug m) kinds.MisplacedP ≡ false
  counters =
      let a = either_false (list_any (λ p. has_other_counter None p.value) m.names.publics) _ (no_defect m valid kinds.MisplacedP) in
      let b = either_false (any_of (has_other_counter None) m.start) _ a.1 in
      let c = either_false _ (list_any misplaces_counter (placed_loads m)) b.1 in
      two_false _ _ a.0 (two_false _ _ b.0 c.1)

  none-left : AllByRecursion (λ defect. has_defect (without_debug m) defect ≡ false) defects
  none-left =
      let after-weight : AllByRecursion (λ defect. has_defect (without_debug m) defect ≡ false) (kinds.Weight ∷ []) = (not-heavy, tt) in (
        refl,
        (
          long-id,
          (
            no_defect m valid kinds.BadMaus,
            (
              no_defect m valid kinds.BadAlign,
              (
                no_defect m valid kinds.MissingBase,
                (
                  position,
                  (
                    counters,
                    (no_defect m valid kinds.NoSection, (no_defect m valid kinds.LongRun, (no_defect m valid kinds.FieldSize, (refl, (refl, after-weight))))),
                  ),
                ),
              ),
            ),
          ),
        ),
      )

pub modules-stay-valid : ModulesStayValid
modules-stay-valid m valid = find-nothing (has_defect (without_debug m)) defects (none-left m valid)
