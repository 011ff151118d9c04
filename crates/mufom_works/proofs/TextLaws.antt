-- What a text comes to: its runs and the module of these, or the errors of it.
use Rattle.std.proofs.Common.{◌≡◌, ℕ, ◌*◌, List, Option, Some, refl, sym, subst, inl, inr}
use Rattle.mufom_host.specs.World.{NamedFile}
use Rattle.mufom_meaning.specs.declared.located.Run.{Run}
use Rattle.mufom_module.specs.declared.module.Parts.{Parts}
use Rattle.mufom_module.specs.Written.{written}
use Rattle.mufom_refusals.specs.declared.text.TxtRefusal.{TxtRefusal}
use Rattle.mufom_titxt.specs.Texts.{IsTxtOf, txt_refusal}
use Rattle.mufom_groups.specs.Work.{Work, gives, stops}
use Rattle.mufom_outcome.specs.declared.outcome.Outcome.{Outcome}
use Rattle.mufom_outcome.specs.declared.outcome.Outcome.TheVariants as outcome
use Rattle.mufom_outcome.specs.declared.outcome.Refusal.TheVariants as refusal
use Rattle.mufom_outcome.specs.Stop.{Stop, text_refused}
use Rattle.mufom_task.specs.declared.task.Inputs.{Inputs}
use Rattle.mufom_task.specs.Reading.{text_in}
use Rattle.mufom_works.specs.WorkEnds.{EndsAt}
use Rattle.mufom_works.specs.Works.{IsHeld, made, module_of_text, parts_of_txt, runs_of_text, runs_unless}

-- ---- what the text comes to

module _ (maus : ℕ) (text : List ℕ) where
  pub text-rows : (runs : List Run) → IsTxtOf text (8 * maus) runs → runs_of_text maus text (gives runs)
  text-rows runs is = subst (λ (o : Option TxtRefusal). runs_unless o text (gives runs)) (sym is.accepted) is.rows

  pub text-refusal : (r : TxtRefusal) → txt_refusal text (8 * maus) ≡ Some r → EndsAt (runs_of_text maus text) (outcome.Refused (refusal.Text r))
  text-refusal r is = inr (text_refused r, tt, refl, subst (λ (o : Option TxtRefusal). runs_unless o text (stops (text_refused r))) (sym is) refl)

-- an end of the runs of a text is one of its module
pub parts-end : (maus : ℕ) (text : List ℕ) (o : Outcome) → EndsAt (runs_of_text maus text) o → EndsAt (parts_of_txt maus text) o
parts-end maus text o (inl none) = inl none
parts-end maus text o (inr (s, of_text, is, ends)) = inr (s, of_text, is, inl ends)

-- ---- the work of making its module

module _ (parts_of : List ℕ → Work Stop Parts) (out : List ℕ) (c : Inputs) (text : List ℕ) (fs : List NamedFile)
    (read : text_in fs c.files (gives text)) where
  pub text-gives : («module» : Parts) → parts_of text (gives «module») → IsHeld «module»
      → module_of_text parts_of out fs c (gives (made out (written «module»)))
  text-gives «module» is held = (text, read, («module», is, (held, refl)))

  pub text-stops : (s : Stop) → parts_of text (stops s) → module_of_text parts_of out fs c (stops s)
  text-stops s ends = inr (text, read, inl ends)
