-- The bytes that are counted load by load are those that the steps load.
use Rattle.std.proofs.Common.{◌≡◌, ℕ, zero, suc, ◌+◌, ◌*◌, List, [], ◌∷◌, ◌++◌, length, flat_map, Some, None, Bool, true, false, cond, refl, sym, ◌∙◌}
use Rattle.std.proofs.Common.{ap, arith}
use Rattle.std.specs.List.{find, list_any}
use Rattle.std.proofs.lemmas.List.Sums.{sum_by-append, sum_by-cons}
use Rattle.mufom_debug.specs.Marks.{marks_of}
use Rattle.mufom_loads.specs.declared.load.Item.{Item}
use Rattle.mufom_loads.specs.declared.load.Load.{Load}
use Rattle.mufom_loads.specs.declared.load.Load.TheVariants.{SetSection, SetPc, One, Repeat}
use Rattle.mufom_loads.specs.Lengths.{byte_count, lengths_of, repeated, length_loaded, lengths_loaded}
use Rattle.mufom_module.specs.declared.module.Parts.{Parts}
use Rattle.mufom_module.specs.declared.module.Defect.TheVariants as d
use Rattle.mufom_module.specs.Contents.{placed_from}
use Rattle.mufom_module.specs.Defects.{loads_nowhere, has_defect, IsValid}
use Rattle.mufom_meaning.specs.Flat.{Sited, name_count, sited_from}
use Rattle.mufom_meaning.specs.Steps.{Step, counter_step, item_step, item_steps, steps_of}
use Rattle.mufom_meaning.specs.Counts.{loaded_total, step_length, lengths_of_steps}
use Rattle.mufom_meaning.specs.Staging.{AreValid}
use Rattle.mufom_meaning.specs.FactLaws.{CountsAgree}

-- if none passes, this one does not
not_found : {X : Type 0} (p : X → Bool) (xs : List X) (x : X) (ys : List X) → find p (xs ++ x ∷ ys) ≡ None → p x ≡ false
not_found p [] x ys e = by_case (p x) e where
  by_case : (b : Bool) → cond b (Some x) (find p ys) ≡ None → b ≡ false
  by_case true e = absurd cc
  by_case false e = refl
not_found p (y ∷ xs) x ys e = not_found p xs x ys (by_case (p y) e) where
  by_case : (b : Bool) → cond b (Some y) (find p (xs ++ x ∷ ys)) ≡ None → find p (xs ++ x ∷ ys) ≡ None
  by_case true e = absurd cc
  by_case false e = e

-- no load of a valid module comes before the first section
pub loads_somewhere : (m : Parts) → IsValid m → list_any loads_nowhere (placed_from None m.loads) ≡ false
loads_somewhere m valid =
    not_found (has_defect m) (d.Depth ∷ d.LongId ∷ d.BadMaus ∷ d.BadAlign ∷ d.MissingBase ∷ d.Position ∷ d.MisplacedP ∷ []) d.NoSection
    (d.LongRun ∷ d.FieldSize ∷ d.Attribute ∷ d.Nesting ∷ d.Weight ∷ []) valid

length-item_steps : (site : Sited) (section : ℕ) (items : List Item) → lengths_of_steps (item_steps site (Some section) items) ≡ lengths_of items
length-item_steps site section [] = refl
length-item_steps site section (item ∷ items) =
    sum_by-cons step_length (item_step site (site.first_section + section) item) (item_steps site (Some section) items)
    ∙ ap (λ n. byte_count item + n) (length-item_steps site section items) ∙ sym (sum_by-cons byte_count item items)

length-repeated : (n : ℕ) (xs : List Step) → lengths_of_steps (repeated n xs) ≡ n * lengths_of_steps xs
length-repeated zero xs = omega arith
length-repeated (suc n) xs =
    let rest = length-repeated n xs in
    let split = sum_by-append step_length xs (repeated n xs) in
    grind (arith, rest, split)

-- if a section is current
length-steps_of : (site : Sited) (section : ℕ) (loads : List Load) → lengths_of_steps (steps_of site (Some section) loads) ≡ lengths_loaded loads
length-steps_of site section [] = refl
length-steps_of site section (SetSection n ∷ loads) =
    let rest = length-steps_of site n loads in
    let whole : lengths_loaded (SetSection n ∷ loads) ≡ 0 + lengths_loaded loads = sum_by-cons length_loaded (SetSection n) loads in
    omega (arith, rest, whole)
length-steps_of site section (SetPc n t ∷ loads) =
    let rest = length-steps_of site section loads in
    let step = counter_step site (site.first_section + n) t in
    let first : lengths_of_steps (step ∷ steps_of site (Some section) loads) ≡ 0 + lengths_of_steps (steps_of site (Some section) loads)
    = sum_by-cons step_length step (steps_of site (Some section) loads) in
    let whole : lengths_loaded (SetPc n t ∷ loads) ≡ 0 + lengths_loaded loads = sum_by-cons length_loaded (SetPc n t) loads in
    omega (arith, rest, first, whole)
length-steps_of site section (One item ∷ loads) =
    let rest = length-steps_of site section loads in
    sum_by-append step_length (item_steps site (Some section) (item ∷ [])) (steps_of site (Some section) loads)
    ∙ (let own = length-item_steps site section (item ∷ []) in λ i. own i + rest i)
    ∙ (let single : lengths_of (item ∷ []) ≡ byte_count item = omega arith in ap (λ n. n + lengths_loaded loads) single)
    ∙ sym (sum_by-cons length_loaded (One item) loads)
length-steps_of site section (Repeat count items ∷ loads) =
    let rest = length-steps_of site section loads in
    sum_by-append step_length (repeated count (item_steps site (Some section) items)) (steps_of site (Some section) loads)
    ∙ (let own = length-repeated count (item_steps site (Some section) items) ∙ ap (λ n. count * n) (length-item_steps site section items) in
    λ i. own i + rest i)
    ∙ sym (sum_by-cons length_loaded (Repeat count items) loads)

-- if none is current yet
length-from_none : (site : Sited) (loads : List Load) → list_any loads_nowhere (placed_from None loads) ≡ false
    → lengths_of_steps (steps_of site None loads) ≡ lengths_loaded loads
length-from_none site [] h = refl
length-from_none site (SetSection n ∷ loads) h =
    let rest = length-steps_of site n loads in
    let whole : lengths_loaded (SetSection n ∷ loads) ≡ 0 + lengths_loaded loads = sum_by-cons length_loaded (SetSection n) loads in
    omega (arith, rest, whole)
length-from_none site (SetPc n t ∷ loads) h =
    let rest = length-from_none site loads h in
    let step = counter_step site (site.first_section + n) t in
    let first : lengths_of_steps (step ∷ steps_of site None loads) ≡ 0 + lengths_of_steps (steps_of site None loads)
    = sum_by-cons step_length step (steps_of site None loads) in
    let whole : lengths_loaded (SetPc n t ∷ loads) ≡ 0 + lengths_loaded loads = sum_by-cons length_loaded (SetPc n t) loads in
    omega (arith, rest, first, whole)
length-from_none site (One item ∷ loads) h = absurd cc
length-from_none site (Repeat count items ∷ loads) h = absurd cc

total_from : (s p n : ℕ) (ms : List Parts) → AreValid ms → loaded_total ms
    ≡ lengths_of_steps (flat_map (λ site. steps_of site None site.parts.loads) (sited_from s p n ms))
total_from s p n [] v = refl
total_from s p n (m ∷ ms) v =
    let site : Sited = record { parts = m; first_section = s; first_public = p; first_name = n } in
    let own = length-from_none site m.loads (loads_somewhere m v.0) in
    let rest = total_from (s + length m.sections) (p + length m.names.publics) (n + name_count (marks_of m.debug)) ms v.1 in
    sum_by-cons (λ x. lengths_loaded x.loads) m ms
    ∙ (λ i. sym own i + rest i)
    ∙ sym (sum_by-append step_length (steps_of site None m.loads) _)

pub counts_agree : CountsAgree
counts_agree ms v = total_from 0 0 0 ms v
