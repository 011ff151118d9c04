-- The generated modules of `make`: they have a location, so no run of it is refused, and it opens no input.
use Rattle.std.proofs.Common.{◌≡◌, ℕ, zero, suc, ◌≤◌, List, Option, refl, ap, subst, ◌∙◌, inl, inr, arith, option_map}
use Rattle.mufom_host.specs.World.{NamedFile}
use Rattle.mufom_make.specs.Generated.{made_modules, made_plan}
use Rattle.mufom_works.specs.Works.{maus_of, located_unless, making}
use Rattle.mufom_numbers.specs.declared.limits.TheConstants.{MOST_MODULES}
use Rattle.mufom_make.proofs.NoFactLaws.{all-locate}
use Rattle.mufom_planned.specs.Planned.{PlanFact, of_list}
use Rattle.mufom_groups.specs.Work.{stops}
use Rattle.mufom_outcome.specs.Stop.{Stop}
use Rattle.mufom_task.specs.declared.task.Task.TheVariants as task
use Rattle.mufom_outcome.specs.declared.outcome.Input.{Input}
use Rattle.mufom_outcome.specs.declared.outcome.Input.TheVariants as input
use Rattle.mufom_task.specs.Ends.{IsInputReached}
use Rattle.mufom_task.specs.Tasks.{no_inputs}
use Rattle.mufom_works.proofs.EndLaws.{plain-answer}

-- an address of the generated modules has 4 units
pub made-units : (count : ℕ) → 1 ≤ count → maus_of (made_modules count) ≡ 4
made-units zero some = absurd (omega (arith, some))
made-units (suc count) some = refl

-- no run of `make` is refused: the modules that it generates have a location
pub make-never : (count : ℕ) → 1 ≤ count → count ≤ MOST_MODULES → (s : Stop) → making count (stops s) → ⊥
make-never count some few s (inl ends) =
    subst (λ (o : Option PlanFact). located_unless o (made_plan count) (made_modules count) (stops s))
    (plain-answer (made_modules count) (made_plan count) refl (refl, tt) ∙ ap (option_map of_list) (all-locate count some few)) ends
make-never count some few s (inr (r, is, ends)) = ends

pub none-reached : (at : Input) (files : Option (List NamedFile)) → IsInputReached files no_inputs at → ⊥
none-reached input.Plan files reached = cc
none-reached (input.File n) files (there, all) = absurd (omega (arith, there))
