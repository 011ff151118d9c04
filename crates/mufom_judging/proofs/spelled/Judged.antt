-- A module's file has no error and is not cut off, and is the file of only one module.
use Rattle.std.proofs.Common.{◌≡◌, ℕ, ◌<◌, ◌≤◌, List, length, sym, subst, inl, inr, arith}
use Rattle.mufom_numbers.specs.declared.reason.Reason.{Reason}
use Rattle.mufom_numbers.specs.Spelling.{AreBytes}
use Rattle.mufom_module.specs.declared.module.Parts.{Parts}
use Rattle.mufom_module.specs.Grammar.{file_limit}
use Rattle.mufom_module.proofs.OneModule.{one_module}
use Rattle.mufom_judging.specs.Judging.{IsSoundPrefix, EndsAt, IsRefusedAt, IsModule}
use Rattle.mufom_judging.specs.Laws.{JudgmentsExcludeEachOther}
use Rattle.mufom_judging.proofs.judged.PrefixesOne.{one_end, fault_not_ended, ended_not_waiting, not_cut}
use Rattle.mufom_judging.proofs.spelled.Prefix.{within, module_is_ended_prefix}
use Rattle.mufom_records.specs.declared.options.ReadOptions.{ReadOptions}

-- a module's file is no longer than a file may be
short : (options : ReadOptions) (bytes : List ℕ) (m : Parts) → IsModule options bytes m → length bytes ≤ file_limit
short options bytes m (f, cut, names, states, valid) = cut.limit

-- the module ends where its file does
ends_there : (options : ReadOptions) (bytes : List ℕ) (m : Parts) → AreBytes bytes → IsModule options bytes m → EndsAt options bytes (length bytes)
ends_there options bytes m fits is =
    let its = module_is_ended_prefix options bytes m fits is in
    record {
      prefix = its.0;
      sound = subst (λ (l : List ℕ). IsSoundPrefix options its.0 l) (sym (within bytes (short options bytes m is))) its.1;
      ended = its.2;
      here = its.3;
    }

not_refused : (options : ReadOptions) (bytes : List ℕ) (m : Parts) (offset : ℕ) (reason : Reason) → AreBytes bytes → IsModule options bytes m
    → IsRefusedAt options bytes offset reason → ⊥
not_refused options bytes m offset reason fits is (inl fault) =
    fault_not_ended options bytes offset (length bytes) reason fault (ends_there options bytes m fits is)
not_refused options bytes m offset reason fits is (inr (inl after)) =
    let same : offset ≡ length bytes = one_end options bytes offset (length bytes) after.1 (ends_there options bytes m fits is) in
    let before : offset < length bytes = after.2 in
    absurd (omega arith)
not_refused options bytes m offset reason fits is (inr (inr long)) =
    let over : file_limit < length bytes = long.2 in
    let under : length bytes ≤ file_limit = short options bytes m is in
    absurd (omega arith)

pub judgments_exclude_each_other : JudgmentsExcludeEachOther
judgments_exclude_each_other options bytes fits = record {
  not_module = λ m offset reason is refused. not_refused options bytes m offset reason fits is refused;
  not_cut = λ offset reason cut refused. not_cut options bytes offset reason cut refused;
  whole = λ m is cut. ended_not_waiting options bytes cut.1 (length bytes) (ends_there options bytes m fits is) cut.2;
  one_module = λ m n one other. one_module m n bytes options one other;
}
