-- Which inputs were opened: all of them, or none.
use Rattle.std.proofs.Common.{◌≡◌, ℕ, Ok, Err, List, length, take, Option, Some, None, OnSome, refl, sym, ap, subst, arith, Result}
use Rattle.std.proofs.lemmas.List.{take_all, append-nil}
use Rattle.mufom_host.specs.World.{Faults, Meaning, GrowsBy}
use Rattle.mufom_outcome.specs.declared.outcome.Outcome.{Outcome}
use Rattle.mufom_outcome.specs.declared.outcome.Outcome.TheVariants as outcome
use Rattle.mufom_task.specs.declared.task.Inputs.{Inputs}
use Rattle.mufom_task.specs.Calls.{IsOpenedCount, OpensInputs}
use Rattle.mufom_task.specs.Tasks.{input_names, inputs_of, request_of}
use Rattle.mufom_task.proofs.InputLaws.{call_between}
use Rattle.mufom_words.specs.declared.command.Command.{Command}
use Rattle.mufom_words.specs.declared.stop.WordsStop.{WordsStop}
use Rattle.mufom_task.specs.declared.task.Request.{Request}
use Rattle.mufom_task.specs.declared.task.Request.TheVariants as request
use Rattle.mufom_works.specs.Run.{OpensFor, OpensBy}

opens-all : (names : List (List ℕ)) (a b : Option (List (List ℕ))) → GrowsBy a b names → OnSome b (GrowsBy a b (take (length names) names))
opens-all names a None grows = tt
opens-all names a (Some l) grows = subst (λ (all : List (List ℕ)). GrowsBy a (Some l) all) (sym (take_all (length names) names (omega arith))) grows

-- all inputs were opened
pub opens-read : (c : Inputs) (old mid new : Meaning) (before now : Faults) → GrowsBy old.opened mid.opened (input_names c) → (result : Outcome)
    → new.opened ≡ mid.opened → IsOpenedCount c result (length (input_names c)) → OpensInputs c (call_between old new before now) result
opens-read c old mid new before now opened result same exact = record {
  count = length (input_names c);
  exact = exact;
  within = omega arith;
  opened = opens-all (input_names c) old.opened new.opened (subst (λ (o : Option (List (List ℕ))). GrowsBy old.opened o (input_names c)) (sym same) opened);
}

opens-none : (names : List (List ℕ)) (o : Option (List (List ℕ))) → OnSome o (GrowsBy o o (take 0 names))
opens-none names None = tt
opens-none names (Some l) = ap (λ (x : List (List ℕ)). Some x) (sym (append-nil l))

-- nothing was opened
pub request-nothing : (q : Request) (m : Meaning) (f : Faults) → OpensFor q (call_between m m f f) outcome.NoMemory
request-nothing (request.Run t) m f = record { count = 0; exact = tt; within = omega arith; opened = opens-none (input_names (inputs_of t)) m.opened }
request-nothing request.Explain m f = refl

pub opens-nothing : (r : Result Command WordsStop) (m : Meaning) (f : Faults) → OpensBy r (call_between m m f f) outcome.NoMemory
opens-nothing (Ok c) m f = request-nothing (request_of c) m f
opens-nothing (Err s) m f = refl
