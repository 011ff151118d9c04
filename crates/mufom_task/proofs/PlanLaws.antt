-- Reading the plan: an open and the reads after it, and the plan of enough of the bytes.
use Rattle.std.proofs.Common.{◌≡◌, ◌⊎◌, ℕ, ◌<◌, List, [], ◌∷◌, length, Option, Some, None, Result, Ok, Err, IfSome, OnSome, not, refl, sym, ap, subst}
use Rattle.std.proofs.Common.{◌∙◌, inl, inr, arith}
use Rattle.std.proofs.lemmas.Bool.{lt-ltb}
use Rattle.std.proofs.lemmas.List.{length-append}
use Rattle.mufom_host.specs.World.{Faults, Meaning, NamedFile, GrowsBy, InputFails, KeepsAllButLeft, file_named}
use Rattle.mufom_plan.specs.declared.plan.Plan.{Plan}
use Rattle.mufom_plan.specs.declared.refusal.PlanRefusal.{PlanRefusal}
use Rattle.mufom_plan.specs.declared.refusal.PlanRefusal.TheVariants.{TooLong, Syntax}
use Rattle.std.specs.List.{IsDistinct}
use Rattle.mufom_plan.specs.Names.{AreDistinctNames}
use Rattle.mufom_plan.specs.Document.{document_of}
use Rattle.mufom_plan.specs.PlanText.{◌>>=◌, or_refuse, unless, plan_of_document, plan_of_text}
use Rattle.mufom_planned.specs.ReadPlans.{IsReadPlan}
use Rattle.mufom_meaning.specs.Absolute.{no_regions}
use Rattle.mufom_groups.specs.Work.{gives, stops}
use Rattle.mufom_outcome.specs.declared.outcome.Input.TheVariants as input
use Rattle.mufom_outcome.specs.declared.outcome.Outcome.{Outcome}
use Rattle.mufom_outcome.specs.declared.outcome.Outcome.TheVariants as outcome
use Rattle.mufom_outcome.specs.declared.outcome.Refusal.TheVariants as refusal
use Rattle.mufom_outcome.specs.Stop.{plan_refused}
use Rattle.mufom_task.specs.Reading.{plan_by, plan_in}
use Rattle.mufom_task.specs.FilesRead.{FileHas}
use Rattle.mufom_task.specs.InputsRead.{IsEnoughOf, IsPlanAnswer, KeepsPlan, PlanStops, most_plan_bytes}
use Rattle.mufom_task.proofs.InputLaws.{call_between}

none-twice : AreDistinctNames []
unfolding IsDistinct
none-twice = tt

-- the plan without regions has what each plan that is read has
pub no-regions-sound : IsReadPlan (record { regions = []; symbols = []; keep = [] })
no-regions-sound = record {
  placed = record { names = none-twice; regions = omega arith; common = omega arith };
  symbols = record { distinct = none-twice; short = omega arith };
  loads = refl;
}

plan_by-sound : (r : Result Plan PlanRefusal) (plan : Plan) → plan_by r (gives plan) → IsReadPlan plan
plan_by-sound (Ok own) plan (sound, is) = let same : plan ≡ own = cc in subst IsReadPlan (sym same) sound
plan_by-sound (Err r) plan never = absurd never

-- each plan that is read has these properties
pub plan-sound : (files : List NamedFile) (name : Option (List ℕ)) (plan : Plan) → plan_in files name (gives plan) → IsReadPlan plan
plan-sound files None plan is = let same : plan ≡ no_regions = cc in subst IsReadPlan (sym same) no-regions-sound
plan-sound files (Some name) plan (bytes, there, is) = plan_by-sound (plan_of_text bytes) plan is

pub on_some : {T : Type 0} (o : Option T) (P : Type 0) → P → OnSome o P
on_some None P p = tt
on_some (Some x) P p = p

-- the file's name stands last among those opened
pub grows-then-read : (a b c : Meaning) (name : List ℕ) → GrowsBy a.opened b.opened (name ∷ []) → KeepsAllButLeft b c → GrowsBy a.opened c.opened (name ∷ [])
grows-then-read a b c name names stays = subst (λ (o : Option (List (List ℕ))). GrowsBy a.opened o (name ∷ []))
    (sym (ap (λ (m : Meaning). m.opened) stays)) names

pub opened_then_read : (a b c : Meaning) (name : List ℕ) → GrowsBy a.opened b.opened (name ∷ []) → KeepsAllButLeft b c
    → OnSome c.opened (GrowsBy a.opened c.opened (name ∷ []))
opened_then_read a b c name names stays = on_some c.opened (GrowsBy a.opened c.opened (name ∷ [])) (grows-then-read a b c name names stays)

-- what was read is of the file with the name
pub bytes_of_file : (name bytes : List ℕ) (limit : ℕ) (files : Option (List NamedFile)) (left : Option (List ℕ))
    → IfSome files (λ fs. (all : List ℕ) × (file_named name fs ≡ Some all) × (left ≡ Some all)) → IfSome left (λ l. IsEnoughOf limit l bytes)
    → FileHas name files (λ all. IsEnoughOf limit all bytes)
bytes_of_file name bytes limit None left opened enough = tt
bytes_of_file name bytes limit (Some fs) left opened enough =
    (opened.0, opened.1, subst (λ (o : Option (List ℕ)). IfSome o (λ l. IsEnoughOf limit l bytes)) opened.2 enough)

-- ---- enough of the bytes

too-long : (bytes : List ℕ) → most_plan_bytes < length bytes → plan_of_text bytes ≡ Err TooLong
too-long bytes long = ap (λ b. unless (not b) TooLong (or_refuse Syntax (document_of bytes) >>= plan_of_document)) (lt-ltb 65536 (length bytes) long)

plan-enough : (all bytes : List ℕ) → IsEnoughOf most_plan_bytes all bytes → plan_of_text all ≡ plan_of_text bytes
plan-enough all bytes (inl same) = ap plan_of_text same
plan-enough all bytes (inr (long, (rest, same))) =
    let longer : most_plan_bytes < length all = (let size = ap (λ (l : List ℕ). length l) same in let sum = length-append bytes rest in
    omega (arith, size, sum, long)) in
    too-long all longer ∙ sym (too-long bytes long)

module _ (name bytes : List ℕ) where
  pub plan-read : (files : Option (List NamedFile)) (plan : Plan) → FileHas name files (λ all. IsEnoughOf most_plan_bytes all bytes)
      → plan_of_text bytes ≡ Ok plan → IsReadPlan plan
      → IfSome files (λ fs. plan_in fs (Some name) (gives plan))
  plan-read None plan has is sound = tt
  plan-read (Some fs) plan (all, there, enough) is sound =
      (all, there, subst (λ (r : Result Plan PlanRefusal). plan_by r (gives plan)) (sym (plan-enough all bytes enough ∙ is)) (sound, refl))

  plan-refused : (files : Option (List NamedFile)) (r : PlanRefusal) → FileHas name files (λ all. IsEnoughOf most_plan_bytes all bytes)
      → plan_of_text bytes ≡ Err r
      → IfSome files (λ fs. plan_in fs (Some name) (stops (plan_refused r)))
  plan-refused None r has is = tt
  plan-refused (Some fs) r (all, there, enough) is =
      inr (
        all,
        there,
        subst (λ (result : Result Plan PlanRefusal). plan_by result (stops (plan_refused r)))
            (sym (plan-enough all bytes enough ∙ is)) refl,
      )

  -- bytes that are no plan end the run
  pub no-plan : (old new : Meaning) (before now : Faults) → FileHas name old.files (λ all. IsEnoughOf most_plan_bytes all bytes) → (stop : Outcome)
      → IsPlanAnswer (plan_of_text bytes) stop
      → PlanStops (Some name) (call_between old new before now) stop
  no-plan old new before now has (outcome.Refused (refusal.Plan r)) (is, memory) = (refl, memory, plan-refused old.files r has is)
  no-plan old new before now has (outcome.Refused (refusal.Read n r)) is = absurd is
  no-plan old new before now has (outcome.Refused (refusal.Bin count)) is = absurd is
  no-plan old new before now has (outcome.Refused (refusal.Keep kept)) is = absurd is
  no-plan old new before now has (outcome.Refused (refusal.SharedName shared)) is = absurd is
  no-plan old new before now has (outcome.Refused (refusal.Text r)) is = absurd is
  no-plan old new before now has (outcome.Refused (refusal.Build r)) is = absurd is
  no-plan old new before now has (outcome.Refused (refusal.InputLimit n)) is = absurd is
  no-plan old new before now has (outcome.Refused (refusal.TooManyModules n)) is = absurd is
  no-plan old new before now has (outcome.Refused (refusal.TooManyFiles n)) is = absurd is
  no-plan old new before now has (outcome.Refused (refusal.TooDeep n)) is = absurd is
  no-plan old new before now has (outcome.Refused (refusal.Link l)) is = absurd is
  no-plan old new before now has (outcome.Refused (refusal.Locate l maus)) is = absurd is
  no-plan old new before now has outcome.Done is = absurd is
  no-plan old new before now has (outcome.Usage f) is = absurd is
  no-plan old new before now has (outcome.ReadFault at) is = absurd is
  no-plan old new before now has outcome.WriteFault is = absurd is
  no-plan old new before now has outcome.NoMemory is = tt

  -- all bytes of the file were read, or there are too many
  kept-all : (r : PlanRefusal) (all : List ℕ) → IsEnoughOf most_plan_bytes all bytes → plan_of_text bytes ≡ Err r
      → (all ≡ bytes) ⊎ (r ≡ TooLong)
  kept-all r all (inl same) is = inl same
  kept-all r all (inr (long, rest)) is = inr (let both : ◌≡◌ {A = Result Plan PlanRefusal} (Err r) (Err TooLong) = sym is ∙ too-long bytes long in cc)

  kept-of : (files : Option (List NamedFile)) (r : PlanRefusal) → FileHas name files (λ all. IsEnoughOf most_plan_bytes all bytes)
      → plan_of_text bytes ≡ Err r → FileHas name files (λ all. (all ≡ bytes) ⊎ (r ≡ TooLong))
  kept-of None r has is = tt
  kept-of (Some fs) r (all, there, enough) is = (all, there, kept-all r all enough is)

  -- bytes that are no plan are kept
  pub keeps-plan : (files : Option (List NamedFile)) → FileHas name files (λ all. IsEnoughOf most_plan_bytes all bytes) → (stop : Outcome)
      → IsPlanAnswer (plan_of_text bytes) stop → KeepsPlan (Some name) files bytes stop
  keeps-plan files has (outcome.Refused (refusal.Plan r)) (is, memory) = λ other named.
      let same : name ≡ other = cc in
      subst (λ (n : List ℕ). FileHas n files (λ all. (all ≡ bytes) ⊎ (r ≡ TooLong))) same (kept-of files r has is)
  keeps-plan files has (outcome.Refused (refusal.Read n r)) is = tt
  keeps-plan files has (outcome.Refused (refusal.Bin count)) is = tt
  keeps-plan files has (outcome.Refused (refusal.Keep kept)) is = tt
  keeps-plan files has (outcome.Refused (refusal.SharedName shared)) is = tt
  keeps-plan files has (outcome.Refused (refusal.Text r)) is = tt
  keeps-plan files has (outcome.Refused (refusal.Build r)) is = tt
  keeps-plan files has (outcome.Refused (refusal.InputLimit n)) is = tt
  keeps-plan files has (outcome.Refused (refusal.TooManyModules n)) is = tt
  keeps-plan files has (outcome.Refused (refusal.TooManyFiles n)) is = tt
  keeps-plan files has (outcome.Refused (refusal.TooDeep n)) is = tt
  keeps-plan files has (outcome.Refused (refusal.Link l)) is = tt
  keeps-plan files has (outcome.Refused (refusal.Locate l maus)) is = tt
  keeps-plan files has outcome.Done is = tt
  keeps-plan files has (outcome.Usage f) is = tt
  keeps-plan files has (outcome.ReadFault at) is = tt
  keeps-plan files has outcome.WriteFault is = tt
  keeps-plan files has outcome.NoMemory is = tt

-- an outcome of another kind needs no bytes
pub keeps-unread : (name : Option (List ℕ)) (files : Option (List NamedFile)) (text : List ℕ) (before now : Faults) (stop : Outcome)
    → ((stop ≡ outcome.ReadFault input.Plan) × InputFails before now) ⊎ (stop ≡ outcome.NoMemory) → KeepsPlan name files text stop
keeps-unread name files text before now stop (inl (is, fails)) = subst (λ (o : Outcome). KeepsPlan name files text o) (sym is) tt
keeps-unread name files text before now stop (inr is) = subst (λ (o : Outcome). KeepsPlan name files text o) (sym is) tt

-- the file was not read
pub unread-plan : (name : List ℕ) (old new : Meaning) (before now : Faults) (stop : Outcome)
    → ((stop ≡ outcome.ReadFault input.Plan) × InputFails before now) ⊎ (stop ≡ outcome.NoMemory)
    → PlanStops (Some name) (call_between old new before now) stop
unread-plan name old new before now stop (inl (is, fails)) = subst (λ (o : Outcome). PlanStops (Some name) (call_between old new before now) o)
    (sym is) (refl, fails)
unread-plan name old new before now stop (inr is) = subst (λ (o : Outcome). PlanStops (Some name) (call_between old new before now) o) (sym is) tt
