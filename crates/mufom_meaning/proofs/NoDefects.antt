-- What modules without a defect have.
use Rattle.std.proofs.Common.{◌≡◌, Bool, true, false, cond, List, [], ◌∷◌, Some, None, refl}
use Rattle.std.specs.List.{find, list_any, AllByRecursion}
use Rattle.mufom_loads.specs.declared.load.Load.{Load}
use Rattle.mufom_loads.specs.declared.load.Load.TheVariants.{SetSection, SetPc, One, Repeat}
use Rattle.mufom_module.specs.declared.module.Parts.{Parts}
use Rattle.mufom_module.specs.declared.module.Defect.{Defect}
use Rattle.mufom_module.specs.declared.module.Defect.TheVariants as d
use Rattle.mufom_module.specs.Contents.{placed_from}
use Rattle.mufom_module.specs.Defects.{has_defect, defects, loads_nowhere, IsValid}

-- if nothing is found, no element passes
none_found : {A : Type 0} (test : A → Bool) (xs : List A) → find test xs ≡ None → AllByRecursion (λ x. test x ≡ false) xs
none_found test [] e = tt
none_found test (x ∷ xs) e = by_case (test x) refl e (none_found test xs) where
  by_case : (b : Bool) → test x ≡ b → cond b (Some x) (find test xs) ≡ None → (find test xs ≡ None → AllByRecursion (λ y. test y ≡ false) xs)
      → AllByRecursion (λ y. test y ≡ false) (x ∷ xs)
  by_case true h e later = absurd cc
  by_case false h e later = (h, later e)

-- a module without a defect has none of them
pub no_defect : (m : Parts) → IsValid m → (defect : Defect) → has_defect m defect ≡ false
no_defect m valid defect = at defect (none_found (has_defect m) defects valid) where
  at : (defect : Defect) → AllByRecursion (λ defect. has_defect m defect ≡ false) defects → has_defect m defect ≡ false
  at d.Depth all = all.0
  at d.LongId all = all.1.0
  at d.BadMaus all = all.1.1.0
  at d.BadAlign all = all.1.1.1.0
  at d.MissingBase all = all.1.1.1.1.0
  at d.Position all = all.1.1.1.1.1.0
  at d.MisplacedP all = all.1.1.1.1.1.1.0
  at d.NoSection all = all.1.1.1.1.1.1.1.0
  at d.LongRun all = all.1.1.1.1.1.1.1.1.0
  at d.FieldSize all = all.1.1.1.1.1.1.1.1.1.0
  at d.Attribute all = all.1.1.1.1.1.1.1.1.1.1.0
  at d.Nesting all = all.1.1.1.1.1.1.1.1.1.1.1.0
  at d.Weight all = all.1.1.1.1.1.1.1.1.1.1.1.1.0

-- no item comes before the first load that sets the current section
abbrev pub begin_with_section : List Load → Bool
begin_with_section [] = true
begin_with_section (SetSection section ∷ loads) = true
begin_with_section (SetPc section t ∷ loads) = begin_with_section loads
begin_with_section (One item ∷ loads) = false
begin_with_section (Repeat count items ∷ loads) = false

begins : (loads : List Load) → list_any loads_nowhere (placed_from None loads) ≡ false → begin_with_section loads ≡ true
begins [] h = refl
begins (SetSection section ∷ loads) h = refl
begins (SetPc section t ∷ loads) h = begins loads h
begins (One item ∷ loads) h = absurd cc
begins (Repeat count items ∷ loads) h = absurd cc

pub loads_begin_with_section : (m : Parts) → IsValid m → begin_with_section m.loads ≡ true
loads_begin_with_section m valid = begins m.loads (no_defect m valid d.NoSection)
