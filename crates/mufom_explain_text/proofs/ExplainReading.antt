-- Explaining a task that was stopped while its inputs were read: the line of the input that its outcome names. And the end of what was
-- explained is told, unless memory ran out.
use Rattle.std.proofs.Common.{◌≡◌, ◌≢◌, ◌⊎◌, ℕ, ◌+◌, ◌<◌, ◌≤◌, Bool, true, false, List, [], ◌∷◌, length, nat_lt, Option, Some, None, Result, Ok, Err}
use Rattle.std.proofs.Common.{IfSome, IsSome, option_to_list, refl, sym, ap, subst, ◌∙◌, inl, inr, arith}
use Rattle.std.proofs.lemmas.List.{length-append}
use Rattle.mufom_numbers.specs.declared.limits.TheConstants.{MOST_FILE_BYTES}
use Rattle.mufom_host.specs.World.{Faults, Meaning, NamedFile, OnlyOpens, OnlyPrints}
use Rattle.mufom_host.proofs.Composing.{InputFails-writes}
use Rattle.mufom_host.specs.declared.cause.Cause.{Cause}
use Rattle.mufom_plan.specs.declared.plan.Plan.{Plan}
use Rattle.mufom_plan.specs.declared.refusal.PlanRefusal.{PlanRefusal}
use Rattle.mufom_plan.specs.declared.refusal.PlanRefusal.TheVariants as plan_refusal
use Rattle.mufom_plan.specs.PlanText.{plan_of_text}
use Rattle.mufom_words.specs.declared.command.Command.{Command}
use Rattle.mufom_words.specs.declared.stop.WordsStop.{WordsStop}
use Rattle.mufom_words.specs.declared.stop.WordsStop.TheVariants as words_stop
use Rattle.mufom_words.specs.Answer.{answer_of}
use Rattle.mufom_explain.specs.Lines.{plan_line}
use Rattle.mufom_groups.specs.Work.{Work, gives, stops}
use Rattle.mufom_outcome.specs.declared.outcome.Input.{Input}
use Rattle.mufom_outcome.specs.declared.outcome.Input.TheVariants as input
use Rattle.mufom_outcome.specs.declared.outcome.Outcome.{Outcome}
use Rattle.mufom_outcome.specs.declared.outcome.Outcome.TheVariants as outcome
use Rattle.mufom_outcome.specs.declared.outcome.Refusal.TheVariants as refusal
use Rattle.mufom_outcome.specs.Outcomes.{stop_answer}
use Rattle.mufom_outcome.specs.Stop.{Stop, words_refused, plan_refused, file_refused, past_limit, link_fact, keep_unknown, name_shared, locate_fact}
use Rattle.mufom_outcome.specs.Stop.{bytes_refused, text_refused, listing_refused, too_many_modules}
use Rattle.mufom_task.specs.declared.task.Inputs.{Inputs}
use Rattle.mufom_task.specs.declared.task.Request.{Request}
use Rattle.mufom_task.specs.declared.task.Request.TheVariants as request
use Rattle.mufom_task.specs.declared.task.Task.{Task}
use Rattle.mufom_task.specs.Calls.{Call, OpensInputs}
use Rattle.mufom_task.specs.Ends.{IsInputReached, IsOfInputs, stop_outcome}
use Rattle.mufom_task.specs.FilesRead.{FileHas}
use Rattle.mufom_task.specs.InputsRead.{KeepsPlan, NamesPlan, ReadingStops, inputs_in}
use Rattle.mufom_task.specs.Reading.{modules_in, plan_by, plan_in, text_in, unless_past_limit}
use Rattle.mufom_task.specs.Tasks.{input_names, inputs_of, keep_of, out_of, reads_files}
use Rattle.mufom_task.proofs.InputLaws.{call_between}
use Rattle.mufom_task.proofs.InputsLaws.{over-map}
use Rattle.mufom_works.specs.Explain.{EndsBy, EndsFor, EndsWith}
use Rattle.mufom_works.specs.ExplainText.{explain_text}
use Rattle.mufom_works.specs.HasDetails.{HasDetails, HasPlanLine, HasPlanLines, HasUnreadLine, HasUnreadPlan, IsInputDetail, IsUnreadDetail}
use Rattle.mufom_works.specs.HasDetails.{lines_of_link, lines_of_locate, lines_of_name, lines_of_shared}
use Rattle.mufom_works.specs.InputLines.{unread_plan, untried_lines, usage_lines}
use Rattle.mufom_works.specs.PlanLines.{ArePlanLines}
use Rattle.mufom_works.specs.Making.{IsPrinted}
use Rattle.mufom_works.specs.Run.{IsOutput, OpensBy, OpensFor, PutsOutNothing}
use Rattle.mufom_explain_text.specs.Explains.{AskFor, Explains}
use Rattle.mufom_works.specs.Works.{Output, not_explained, work_of}
use Rattle.mufom_works.proofs.OpenedLaws.{opens-nothing}
use Rattle.mufom_explain_text.proofs.ExplainLaws.{lacking-explains, opens-later, some-opened, told-counts, told-explains}

-- ---- how reading ends

-- an input was refused, there are too many modules, or a text is wrong
abbrev pub IsOfReading : Stop → Type 0
IsOfReading (plan_refused r) = Unit {0}
IsOfReading (file_refused n r) = Unit {0}
IsOfReading (past_limit n) = Unit {0}
IsOfReading (too_many_modules n) = Unit {0}
IsOfReading (text_refused r) = Unit {0}
IsOfReading (listing_refused r) = Unit {0}
IsOfReading _ = ⊥

plan_by-ends : (r : Result Plan PlanRefusal) (s : Stop) → plan_by r (stops s) → IsOfReading s
plan_by-ends (Ok plan) s (sound, never) = absurd never
plan_by-ends (Err r) s ends = subst IsOfReading (sym ends) tt

plan-ends : (files : List NamedFile) (name : Option (List ℕ)) (s : Stop) → plan_in files name (stops s) → IsOfReading s
plan-ends files None s ends = absurd ends
plan-ends files (Some name) s (inl ends) = absurd ends
plan-ends files (Some name) s (inr (bytes, there, ends)) = plan_by-ends (plan_of_text bytes) s ends

pub modules-end : (files : List NamedFile) (c : Inputs) (s : Stop) → modules_in files c (stops s) → IsOfReading s
modules-end files c (file_refused n r) ends = tt
modules-end files c (past_limit n) ends = tt
modules-end files c (too_many_modules n) ends = tt
modules-end files c (words_refused s) ends = absurd ends
modules-end files c (plan_refused r) ends = absurd ends
modules-end files c (link_fact f) ends = absurd ends
modules-end files c (keep_unknown name) ends = absurd ends
modules-end files c (locate_fact maus f) ends = absurd ends
modules-end files c (bytes_refused b) ends = absurd ends
modules-end files c (name_shared name) ends = absurd ends
modules-end files c (text_refused r) ends = absurd ends
modules-end files c (listing_refused r) ends = absurd ends

pub inputs-end : (c : Inputs) (files : List NamedFile) (s : Stop) → inputs_in files c (stops s) → IsOfReading s
inputs-end c files s (inl ends) = plan-ends files c.plan s ends
inputs-end c files s (inr (plan, planned, inl ends)) = modules-end files c s ends
inputs-end c files s (inr (plan, planned, inr (ms, read, never))) = absurd never

unless-ends : (b : Bool) (bytes : List ℕ) (s : Stop) → unless_past_limit b bytes (stops s) → IsOfReading s
unless-ends true bytes s ends = subst IsOfReading (sym ends) tt
unless-ends false bytes s ends = absurd ends

pub text-end : (names : List (List ℕ)) (files : List NamedFile) (s : Stop) → text_in files names (stops s) → IsOfReading s
text-end [] files s ends = absurd ends
text-end (name ∷ names) files s (inl ends) = absurd ends
text-end (name ∷ names) files s (inr (bytes, there, ends)) = unless-ends (nat_lt MOST_FILE_BYTES (length bytes)) bytes s ends

-- ---- the line of the input

plan-line : (c : Inputs) (plan : Option (List ℕ)) → c.plan ≡ plan → IsSome plan → (details : List ℕ)
    → ((name : List ℕ) → c.plan ≡ Some name → details ≡ plan_line name) → HasPlanLine c details
plan-line c None same some details is = absurd cc
plan-line c (Some name) same some details is = record { name = name; named = same; are = is name same }

-- if the plan is too long, its lines say nothing of its text
too-long-lines : (name all text : List ℕ) (r : PlanRefusal) → r ≡ plan_refusal.TooLong → (details : List ℕ) → ArePlanLines name text r details
    → ArePlanLines name all r details
too-long-lines name all text r long details is =
    subst (λ (e : PlanRefusal). ArePlanLines name all e details) (sym long)
    (let own : ArePlanLines name text plan_refusal.TooLong details = subst (λ (e : PlanRefusal). ArePlanLines name text e details) long is in own)

module _ (c : Inputs) (host_tells : Cause) (text : List ℕ) (r : PlanRefusal) (details : List ℕ) where
  plan-lines-with : (files : Option (List NamedFile)) (name : List ℕ) → c.plan ≡ Some name
      → FileHas name files (λ all. (all ≡ text) ⊎ (r ≡ plan_refusal.TooLong)) → ArePlanLines name text r details → HasPlanLines files c r details
  plan-lines-with None name named has is = record { name = name; named = named; text = text; of_file = tt; are = is }
  plan-lines-with (Some fs) name named (all, there, inl same) is = record {
    name = name;
    named = named;
    text = all;
    of_file = there;
    are = subst (λ (bytes : List ℕ). ArePlanLines name bytes r details) (sym same) is;
  }
  plan-lines-with (Some fs) name named (all, there, inr long) is = record {
    name = name;
    named = named;
    text = all;
    of_file = there;
    are = too-long-lines name all text r long details is;
  }

  plan-lines : (files : Option (List NamedFile)) (plan : Option (List ℕ)) → c.plan ≡ plan → IsSome plan
      → KeepsPlan c.plan files text (outcome.Refused (refusal.Plan r)) → IsUnreadDetail c host_tells text (outcome.Refused (refusal.Plan r)) details
      → HasPlanLines files c r details
  plan-lines files None same some keeps is = absurd cc
  plan-lines files (Some name) same some keeps is = plan-lines-with files name same (keeps name same) (is name same)

unread-plan-line : (c : Inputs) (host_tells : Cause) (plan : Option (List ℕ)) → c.plan ≡ plan → IsSome plan → (details : List ℕ)
    → ((name : List ℕ) → c.plan ≡ Some name → details ≡ unread_plan name host_tells) → HasUnreadPlan c details
unread-plan-line c host_tells None same some details is = absurd cc
unread-plan-line c host_tells (Some name) same some details is = record { cause = host_tells; name = name; named = same; are = is name same }

file-there : (c : Inputs) (n count : ℕ) → count ≡ length (option_to_list c.plan) + n + 1 → count ≤ length (input_names c) → n < length c.files
file-there c n count exact within = let sum = length-append (option_to_list c.plan) c.files in omega (arith, exact, within, sum)

module _ {A : Type 0} (t : Task) (reading : List NamedFile → Work Stop A) (ends : (files : List NamedFile) (s : Stop) → reading files (stops s)
    → IsOfReading s) (some : 0 < length (inputs_of t).files) (text : List ℕ) where
  abbrev c : Inputs
  c = inputs_of t

  abbrev keep : List (List ℕ)
  keep = keep_of t

  -- an end of another kind is that of no files that are known
  never-known : (files : Option (List NamedFile)) (s : Stop) (P : List NamedFile → Type 0) → (IsOfReading s → ⊥)
      → IfSome files (λ fs. reading fs (stops s)) → IfSome files P
  never-known None s P never cause = tt
  never-known (Some fs) s P never cause = absurd (never (ends fs s cause))

  module _ (old mid : Meaning) (before between : Faults) (host_tells : Cause) where
    stop-details : (s : Stop) → OpensInputs c (call_between old mid before between) (stop_outcome s) → NamesPlan c.plan (stop_outcome s) → IsOfInputs s
        → KeepsPlan c.plan old.files text (stop_outcome s)
        → IfSome old.files (λ fs. reading fs (stops s)) → (details : List ℕ) → IsUnreadDetail c host_tells text (stop_outcome s) details
        → HasDetails old.files c keep s details
    stop-details (plan_refused r) opens named of_inputs keeps cause details is = plan-lines c host_tells text r details old.files c.plan refl named keeps is
    stop-details (file_refused n r) opens named of_inputs keeps cause details is =
        record { there = file-there c n opens.count opens.exact opens.within; are = is }
    stop-details (past_limit n) opens named of_inputs keeps cause details is =
        record { there = file-there c n opens.count opens.exact opens.within; are = is }
    stop-details (too_many_modules n) opens named of_inputs keeps cause details is = is
    stop-details (text_refused r) opens named of_inputs keeps cause details is = record { there = some; are = is }
    stop-details (listing_refused r) opens named of_inputs keeps cause details is = record { there = some; are = is }
    stop-details (link_fact f) opens named of_inputs keeps cause details is =
        never-known old.files (link_fact f) (λ fs. lines_of_link fs c f (gives details)) (λ never. never) cause
    stop-details (keep_unknown name) opens named of_inputs keeps cause details is =
        never-known old.files (keep_unknown name) (λ fs. lines_of_name fs c name (gives details)) (λ never. never) cause
    stop-details (name_shared name) opens named of_inputs keeps cause details is =
        never-known old.files (name_shared name) (λ fs. lines_of_shared fs c name (gives details)) (λ never. never) cause
    stop-details (locate_fact maus f) opens named of_inputs keeps cause details is =
        never-known old.files (locate_fact maus f) (λ fs. lines_of_locate fs c keep maus f (gives details)) (λ never. never) cause
    stop-details (bytes_refused b) opens named of_inputs keeps cause details is = is
    stop-details (words_refused s) opens named of_inputs keeps cause details is = absurd of_inputs

    input-line : (at : Input) → IsInputReached old.files c at → (details : List ℕ) → IsInputDetail c host_tells (outcome.ReadFault at) details
        → HasUnreadLine c at details
    input-line input.Plan reached details is = unread-plan-line c host_tells c.plan refl reached details is
    input-line (input.File n) reached details is = record { cause = host_tells; there = reached.0; are = is }

    -- The inputs were not all read, so this is how the task ended, and the line of the input that its outcome names.
    module _ (begins : (files : List NamedFile) (s : Stop) → reading files (stops s)
        → work_of t files (stops s)) (of_files : reads_files t ≡ true) (new : Meaning) (now : Faults) (prints : OnlyPrints mid new between now) where
      pub reading-ends : (stop : Outcome) → ReadingStops reading c (call_between old mid before between) stop
          → OpensInputs c (call_between old mid before between) stop → NamesPlan c.plan stop → stop ≢ outcome.NoMemory → (details : List ℕ)
          → KeepsPlan c.plan old.files text stop → IsUnreadDetail c host_tells text stop details → EndsFor t (call_between old new before now) stop details
      reading-ends (outcome.Refused r) why opens named memory details keeps is = (
        record {
          stop = why.stop;
          is = why.is;
          of_inputs = why.of_inputs;
          cause = over-map of_files (λ fs. reading fs (stops why.stop)) (λ fs. work_of t fs (stops why.stop)) old.files
              (λ fs comes. begins fs why.stop comes) why.cause;
        },
        stop-details why.stop (subst (λ (o : Outcome). OpensInputs c (call_between old mid before between) o) why.is opens)
            (subst (λ (o : Outcome). NamesPlan c.plan o) why.is named) why.of_inputs
            (subst (λ (o : Outcome). KeepsPlan c.plan old.files text o) why.is keeps) why.cause details
            (subst (λ (o : Outcome). IsUnreadDetail c host_tells text o details) why.is is),
      )
      reading-ends (outcome.ReadFault at) (fails, reached) opens named memory details keeps is = (
        InputFails-writes before between now fails prints.1,
        reached,
        input-line at reached details is,
      )
      reading-ends outcome.NoMemory why opens named memory details keeps is = absurd (memory refl)
      reading-ends outcome.Done why opens named memory details keeps is = absurd why
      reading-ends (outcome.Usage f) why opens named memory details keeps is = absurd why
      reading-ends outcome.WriteFault why opens named memory details keeps is = absurd why

-- ---- the end is not a write fault

-- an outcome is not a write fault if something is true of it that is not true of a write fault
pub never-written : (P : Outcome → Type 0) → (P outcome.WriteFault → ⊥) → (answer : Outcome) → P answer → answer ≢ outcome.WriteFault
never-written P never answer is = λ same. never (subst P same is)

pub words-unwritten : (s : WordsStop) (answer : Outcome) → answer ≡ stop_answer s → answer ≢ outcome.WriteFault
words-unwritten (words_stop.Usage f) answer is = λ same. let both : outcome.Usage f ≡ outcome.WriteFault = sym is ∙ same in cc
words-unwritten (words_stop.TooManyFiles n) answer is =
    λ same. let both : outcome.Refused (refusal.TooManyFiles n) ≡ outcome.WriteFault = sym is ∙ same in cc
words-unwritten (words_stop.TooDeep n) answer is =
    λ same. let both : outcome.Refused (refusal.TooDeep n) ≡ outcome.WriteFault = sym is ∙ same in cc
words-unwritten words_stop.NoMemory answer is = λ same. let both : outcome.NoMemory ≡ outcome.WriteFault = sym is ∙ same in cc

-- ---- the end is told, unless memory ran out

module _ (words : List (List ℕ)) (old mid : Meaning) (before between : Faults) (only : OnlyOpens old mid before between) (new : Meaning)
    (now : Faults) (prints : OnlyPrints mid new between now) (answer : Outcome)
    (opens : OpensBy (answer_of words) (call_between old mid before between) answer) where
  -- nothing was printed, since memory ran out
  pub untold-explains : PutsOutNothing (call_between mid new between now) → Explains words (call_between old new before now) outcome.NoMemory
  untold-explains is = record {
    answers = is ∙ ap (λ (m : Meaning). record m { left = new.left; err = new.err; opened = new.opened }) only.0;
    opens = some-opened (answer_of words) old new before now answer
        (opens-later words old mid before between only new now prints (answer_of words) answer opens);
    err = ap (λ (m : Meaning). m.err) prints.0 ∙ ap (λ (m : Meaning). m.err) only.0;
    counts = told-counts words old mid before between only new now prints;
  }

  pub printed-explains : (details : List ℕ) → (answer ≢ outcome.NoMemory → EndsBy words (answer_of words) (call_between old new before now) answer details)
      → (result : Outcome) → IsPrinted (explain_text words answer details) (call_between mid new between now) result
      → (result ≢ outcome.NoMemory → answer ≢ outcome.NoMemory)
      → Explains words (call_between old new before now) result
  printed-explains details ends outcome.Done is told =
      told-explains words old mid before between only new now prints answer details (ends (told (λ same. cc))) opens outcome.Done is
  printed-explains details ends outcome.WriteFault is told =
      told-explains words old mid before between only new now prints answer details (ends (told (λ same. cc))) opens outcome.WriteFault is
  printed-explains details ends outcome.NoMemory is told = untold-explains is
  printed-explains details ends (outcome.Refused r) is told = absurd is
  printed-explains details ends (outcome.Usage f) is told = absurd is
  printed-explains details ends (outcome.ReadFault at) is told = absurd is

-- ---- arguments that ask for a task

module _ (words : List (List ℕ)) (t : Task) (asks : AskFor words (request.Run t)) (old mid : Meaning) (before between : Faults)
    (only : OnlyOpens old mid before between) (new : Meaning) (now : Faults) (prints : OnlyPrints mid new between now) where
  pub task-opens : (answer : Outcome) → OpensInputs (inputs_of t) (call_between old mid before between) answer
      → OpensBy (answer_of words) (call_between old mid before between) answer
  task-opens answer opens =
      subst (λ (r : Result Command WordsStop). OpensBy r (call_between old mid before between) answer) (sym asks.given)
      (subst (λ (q : Request). OpensFor q (call_between old mid before between) answer) (sym asks.is) opens)

  pub task-ends : (call : Call) (answer : Outcome) (details : List ℕ) → EndsFor t call answer details → EndsBy words (answer_of words) call answer details
  task-ends call answer details ends =
      subst (λ (r : Result Command WordsStop). EndsBy words r call answer details) (sym asks.given)
      (subst (λ (q : Request). EndsWith q call answer details) (sym asks.is) ends)

  pub task-explains : (answer : Outcome) → OpensInputs (inputs_of t) (call_between old mid before between) answer → (details : List ℕ)
      → (answer ≢ outcome.NoMemory → EndsFor t (call_between old new before now) answer details) → (result : Outcome)
      → IsPrinted (explain_text words answer details) (call_between mid new between now) result
      → (result ≢ outcome.NoMemory → answer ≢ outcome.NoMemory)
      → Explains words (call_between old new before now) result
  task-explains answer opens details ends result is told =
      printed-explains words old mid before between only new now prints answer (task-opens answer opens) details
      (λ memory. task-ends (call_between old new before now) answer details (ends memory)) result is told

  -- The task would put this out.
  pub done-explains : OpensInputs (inputs_of t) (call_between old mid before between) outcome.Done → (output : Output) → IsOutput t old.files output
      → (result : Outcome) → IsPrinted (explain_text words outcome.Done (untried_lines (out_of t))) (call_between mid new between now) result
      → Explains words (call_between old new before now) result
  done-explains opens output is result put =
      task-explains outcome.Done opens (untried_lines (out_of t)) (λ memory. ((output, is), refl)) result put (λ memory. λ same. cc)

  -- The inputs were not all read.
  pub unread-explains : {A : Type 0} (reading : List NamedFile → Work Stop A)
      → ((files : List NamedFile) (s : Stop) → reading files (stops s) → IsOfReading s)
      → ((files : List NamedFile) (s : Stop) → reading files (stops s) → work_of t files (stops s)) → reads_files t ≡ true
      → 0 < length (inputs_of t).files → (stop : Outcome) → ReadingStops reading (inputs_of t) (call_between old mid before between) stop
      → OpensInputs (inputs_of t) (call_between old mid before between) stop → NamesPlan (inputs_of t).plan stop → (host_tells : Cause) (text details : List ℕ)
      → KeepsPlan (inputs_of t).plan old.files text stop → IsUnreadDetail (inputs_of t) host_tells text stop details
      → (result : Outcome) → IsPrinted (explain_text words stop details) (call_between mid new between now) result
      → (result ≢ outcome.NoMemory → stop ≢ outcome.NoMemory)
      → Explains words (call_between old new before now) result
  unread-explains reading ends begins of_files some stop why opens named host_tells text details keeps is result printed told =
      task-explains stop opens details
      (λ memory. reading-ends t reading ends some text old mid before between host_tells begins of_files new now prints stop why opens named memory details
      keeps is)
      result printed told

-- ---- arguments that ask for none

module _ (words : List (List ℕ)) (old : Meaning) (before : Faults) where
  no_input : OnlyOpens old old before before
  no_input = (refl, refl, omega arith)

  -- memory ran out
  pub lacking-all : Explains words (call_between old old before before) outcome.NoMemory
  lacking-all = lacking-explains words old old before before no_input outcome.NoMemory (opens-nothing (answer_of words) old before)

  module _ (new : Meaning) (now : Faults) (prints : OnlyPrints old new before now) (answer result : Outcome) (details : List ℕ)
      (put : IsPrinted (explain_text words answer details) (call_between old new before now) result)
      (told : result ≢ outcome.NoMemory → answer ≢ outcome.NoMemory) where
    wrong-words : (stop : WordsStop) → answer ≡ stop_answer stop → answer_of words ≡ Err stop → details ≡ usage_lines words stop
        → Explains words (call_between old new before now) result
    wrong-words stop is refused are =
        printed-explains words old old before before no_input new now prints answer
        (subst (λ (r : Result Command WordsStop). OpensBy r (call_between old old before before) answer) (sym refused) refl) details
        (λ memory. subst (λ (r : Result Command WordsStop). EndsBy words r (call_between old new before now) answer details) (sym refused) (is, memory, are))
        result put told

    pub words-explain : (stop : WordsStop) → answer ≡ stop_answer stop → (stop ≢ words_stop.NoMemory → answer_of words ≡ Err stop)
        → details ≡ usage_lines words stop → Explains words (call_between old new before now) result
    words-explain words_stop.NoMemory is refused are =
        printed-explains words old old before before no_input new now prints answer
        (subst (λ (o : Outcome). OpensBy (answer_of words) (call_between old old before before) o) (sym is) (opens-nothing (answer_of words) old before))
        details
        (λ memory. absurd (memory is)) result put told
    words-explain (words_stop.Usage f) is refused are = wrong-words (words_stop.Usage f) is (refused (λ same. cc)) are
    words-explain (words_stop.TooManyFiles n) is refused are = wrong-words (words_stop.TooManyFiles n) is (refused (λ same. cc)) are
    words-explain (words_stop.TooDeep n) is refused are = wrong-words (words_stop.TooDeep n) is (refused (λ same. cc)) are

    -- they ask for an explanation
    pub again-explains : AskFor words request.Explain → answer ≡ stop_answer not_explained → details ≡ []
        → Explains words (call_between old new before now) result
    again-explains asks is none =
        printed-explains words old old before before no_input new now prints answer
        (subst (λ (r : Result Command WordsStop). OpensBy r (call_between old old before before) answer) (sym asks.given)
        (subst (λ (q : Request). OpensFor q (call_between old old before before) answer) (sym asks.is) refl)) details
        (λ memory. subst (λ (r : Result Command WordsStop). EndsBy words r (call_between old new before now) answer details) (sym asks.given)
        (subst (λ (q : Request). EndsWith q (call_between old new before now) answer details) (sym asks.is) (is, none)))
        result put told
