-- Of two sound prefixes of a stream, one begins with the other; and a stream has at most one error.
use Rattle.std.proofs.Common.{◌≡◌, ◌⊎◌, ℕ, ◌+◌, ◌<◌, ◌≤◌, true, List, [], ◌∷◌, ◌++◌, length, drop, Option, Some, None, refl, sym, ap, subst}
use Rattle.std.proofs.Common.{◌∙◌, inl, inr, arith, append_assoc, append-nil}
use Rattle.std.proofs.lemmas.Bool.{both_ways}
use Rattle.std.proofs.lemmas.List.{drop-drop, length-append}
use Rattle.mufom_numbers.specs.declared.reason.Reason.{Reason}
use Rattle.mufom_numbers.specs.declared.taken.Taken.{Taken}
use Rattle.mufom_numbers.specs.declared.taken.Taken.TheVariants.{More}
use Rattle.mufom_module.specs.Grammar.{file_limit}
use Rattle.mufom_judging.specs.Prefixes.{Step, step_bytes, prefix_bytes, size_of, next_step, is_ended}
use Rattle.mufom_judging.specs.Faults.{Fault, fault_after}
use Rattle.mufom_judging.specs.Judging.{IsSoundFrom, IsSoundPrefix, within_limit, HasFault, EndsAt, IsWaiting, IsRefusedAt, IsTruncated}
use Rattle.mufom_judging.specs.Laws.{PrefixesAreOne, RefusalIsSingle}
use Rattle.mufom_judging.proofs.ended.Walk.{taken}
use Rattle.mufom_records.specs.declared.options.ReadOptions.{ReadOptions}

got_step : (a b : Step) (m n : ℕ) (answer : Taken Step) → answer ≡ taken a m → answer ≡ taken b n → a ≡ b
got_step a b m n answer x y = let both : taken a m ≡ taken b n = sym x ∙ y in cc

prefix_of : (options : ReadOptions) (before a b : List Step) (rest : List ℕ) → IsSoundFrom options before a rest → IsSoundFrom options before b rest
    → ((more : List Step) × (b ≡ a ++ more)) ⊎ ((more : List Step) × (a ≡ b ++ more))
prefix_of options before [] b rest x y = inl (b, refl)
prefix_of options before (s ∷ a) [] rest x y = inr (s ∷ a, refl)
prefix_of options before (s ∷ a) (t ∷ b) rest x y =
    let same : t ≡ s = got_step t s (length (step_bytes t)) (length (step_bytes s)) (next_step options before rest) y.2 x.2 in
    let From : Step → Type 0 = λ u. IsSoundFrom options (before ++ u ∷ []) b (drop (length (step_bytes u)) rest) in
    elim (prefix_of options (before ++ s ∷ []) a b (drop (length (step_bytes s)) rest) x.3 (subst From same y.3)) [
      | inl longer ↦ inl (longer.0, ap (λ (u : Step). u ∷ b) same ∙ ap (λ (us : List Step). s ∷ us) longer.1)
      | inr shorter ↦ inr (shorter.0, ap (λ (us : List Step). s ∷ us) shorter.1 ∙ ap (λ (u : Step). u ∷ (b ++ shorter.0)) (sym same))
    ]

pub prefixes_are_one : PrefixesAreOne
prefixes_are_one options bytes a b x y = prefix_of options [] a b bytes x y

-- ---- the longest prefix

-- after the first steps of a sound prefix the others go on
pub sound_after : (options : ReadOptions) (before a more : List Step) (rest : List ℕ) → IsSoundFrom options before (a ++ more) rest
    → IsSoundFrom options (before ++ a) more (drop (size_of a) rest)
sound_after options before [] more rest h = subst (λ (l : List Step). IsSoundFrom options l more rest) (sym (append-nil before)) h
sound_after options before (s ∷ a) more rest h =
    let n = length (step_bytes s) in
    let size : size_of (s ∷ a) ≡ n + size_of a = length-append (step_bytes s) (prefix_bytes a) in
    let at : drop (size_of a) (drop n rest) ≡ drop (size_of (s ∷ a)) rest = drop-drop (size_of a) n rest ∙ ap (λ k. drop k rest) (sym size) in
    subst (λ (l : List ℕ). IsSoundFrom options (before ++ s ∷ a) more l) at
    (subst (λ (l : List Step). IsSoundFrom options l more (drop (size_of a) (drop n rest))) (append_assoc before (s ∷ []) a)
    (sound_after options (before ++ s ∷ []) a more (drop n rest) h.3))

-- no step follows a prefix: it has ended, an error follows it, or more bytes are needed
abbrev pub IsStuck : ReadOptions → List Step → List ℕ → Type 0
IsStuck options prefix rest = (is_ended prefix ≡ true) ⊎ (((fault : Fault) × (fault_after options prefix rest ≡ Some fault))
    ⊎ (next_step options prefix rest ≡ More))

abbrev wanting : Taken Step
wanting = More

none_or_some : (o : Option Fault) (fault : Fault) → o ≡ None → o ≡ Some fault → ⊥
none_or_some None fault x y = cc
none_or_some (Some it) fault x y = cc

no_step : (options : ReadOptions) (prefix : List Step) (s : Step) (steps : List Step) (rest : List ℕ) → IsStuck options prefix rest
    → IsSoundFrom options prefix (s ∷ steps) rest → ⊥
no_step options prefix s steps rest (inl ended) h = both_ways (is_ended prefix) h.0 ended
no_step options prefix s steps rest (inr (inl fault)) h = none_or_some (fault_after options prefix rest) fault.0 h.1 fault.1
no_step options prefix s steps rest (inr (inr more)) h = let wrong : wanting ≡ taken s (length (step_bytes s)) = sym more ∙ h.2 in cc

stuck_end : (options : ReadOptions) (bytes : List ℕ) (a more : List Step) → IsStuck options a (drop (size_of a) bytes)
    → IsSoundPrefix options (a ++ more) bytes → more ≡ []
stuck_end options bytes a [] stuck h = refl
stuck_end options bytes a (s ∷ more) stuck h = absurd (no_step options a s more (drop (size_of a) bytes) stuck
    (sound_after options [] a (s ∷ more) bytes h))

-- two sound prefixes after which nothing goes on are one
pub one_longest : (options : ReadOptions) (bytes : List ℕ) (a b : List Step) → IsSoundPrefix options a bytes → IsSoundPrefix options b bytes
    → IsStuck options a (drop (size_of a) bytes) → IsStuck options b (drop (size_of b) bytes) → a ≡ b
one_longest options bytes a b x y stuck_a stuck_b = elim (prefix_of options [] a b bytes x y) [
  | inl longer ↦ sym (longer.1 ∙ ap (λ l. a ++ l) (stuck_end options bytes a longer.0 stuck_a
      (subst (λ (l : List Step). IsSoundPrefix options l bytes) longer.1 y)) ∙ append-nil a)
  | inr shorter ↦ shorter.1 ∙ ap (λ l. b ++ l) (stuck_end options bytes b shorter.0 stuck_b
      (subst (λ (l : List Step). IsSoundPrefix options l bytes) shorter.1 x)) ∙ append-nil b
]

-- ---- what a stream is stated to be

pub fault_stuck : (options : ReadOptions) (bytes : List ℕ) (offset : ℕ) (reason : Reason) (h : HasFault options bytes offset reason)
    → IsStuck options h.prefix (drop (size_of h.prefix) (within_limit bytes))
fault_stuck options bytes offset reason h = inr (inl ((offset, reason), h.fault))

pub waiting_stuck : (options : ReadOptions) (bytes pending : List ℕ) (h : IsWaiting options bytes pending)
    → IsStuck options h.prefix (drop (size_of h.prefix) (within_limit bytes))
waiting_stuck options bytes pending h = inr (inr (subst (λ (l : List ℕ). next_step options h.prefix l ≡ More) h.after h.wanting))

waiting_faultless : (options : ReadOptions) (bytes pending : List ℕ) (h : IsWaiting options bytes pending)
    → fault_after options h.prefix (drop (size_of h.prefix) (within_limit bytes)) ≡ None
waiting_faultless options bytes pending h = subst (λ (l : List ℕ). fault_after options h.prefix l ≡ None) h.after h.faultless

-- if there is an error, the module has not ended
pub fault_not_ended : (options : ReadOptions) (bytes : List ℕ) (offset other : ℕ) (reason : Reason) → HasFault options bytes offset reason
    → EndsAt options bytes other → ⊥
fault_not_ended options bytes offset other reason a b =
    let same = one_longest options (within_limit bytes) a.prefix b.prefix a.sound b.sound (fault_stuck options bytes offset reason a) (inl b.ended) in
    both_ways (is_ended a.prefix) a.unended (ap (λ l. is_ended l) same ∙ b.ended)

-- if there is an error, no more bytes are needed
pub fault_not_waiting : (options : ReadOptions) (bytes pending : List ℕ) (offset : ℕ) (reason : Reason) → HasFault options bytes offset reason
    → IsWaiting options bytes pending → ⊥
fault_not_waiting options bytes pending offset reason a b =
    let same = one_longest options (within_limit bytes) a.prefix b.prefix a.sound b.sound (fault_stuck options bytes offset reason a)
    (waiting_stuck options bytes pending b) in
    let none = waiting_faultless options bytes pending b in
    none_or_some (fault_after options b.prefix (drop (size_of b.prefix) (within_limit bytes))) (offset, reason) none
    (ap (λ l. fault_after options l (drop (size_of l) (within_limit bytes))) (sym same) ∙ a.fault)

-- if the module has ended, no more bytes are needed
pub ended_not_waiting : (options : ReadOptions) (bytes pending : List ℕ) (offset : ℕ) → EndsAt options bytes offset → IsWaiting options bytes pending → ⊥
ended_not_waiting options bytes pending offset a b =
    let same = one_longest options (within_limit bytes) a.prefix b.prefix a.sound b.sound (inl a.ended) (waiting_stuck options bytes pending b) in
    both_ways (is_ended b.prefix) b.unended (ap (λ l. is_ended l) (sym same) ∙ a.ended)

pub one_end : (options : ReadOptions) (bytes : List ℕ) (offset other : ℕ) → EndsAt options bytes offset → EndsAt options bytes other → offset ≡ other
one_end options bytes offset other a b =
    let same = one_longest options (within_limit bytes) a.prefix b.prefix a.sound b.sound (inl a.ended) (inl b.ended) in
    sym a.here ∙ ap size_of same ∙ b.here

one_fault : (options : ReadOptions) (bytes : List ℕ) (offset other : ℕ) (reason why_ : Reason) → HasFault options bytes offset reason
    → HasFault options bytes other why_ → (offset ≡ other) × (reason ≡ why_)
one_fault options bytes offset other reason why_ a b =
    let same = one_longest options (within_limit bytes) a.prefix b.prefix a.sound b.sound (fault_stuck options bytes offset reason a)
    (fault_stuck options bytes other why_ b) in
    let e : Some (offset, reason) ≡ Some (other, why_) = sym a.fault
    ∙ ap (λ l. fault_after options l (drop (size_of l) (within_limit bytes))) same ∙ b.fault in
    let pair : (offset, reason) ≡ (other, why_) = cc in
    (ap (λ (p : Fault). p.0) pair, ap (λ (p : Fault). p.1) pair)

-- whatever numbers the stream has
pub one_refusal : (options : ReadOptions) (bytes : List ℕ) (offset other : ℕ) (reason why_ : Reason) → IsRefusedAt options bytes offset reason
    → IsRefusedAt options bytes other why_ → (offset ≡ other) × (reason ≡ why_)
one_refusal options bytes offset other reason why_ (inl a) (inl b) = one_fault options bytes offset other reason why_ a b
one_refusal options bytes offset other reason why_ (inl a) (inr (inl b)) = absurd (fault_not_ended options bytes offset other reason a b.1)
one_refusal options bytes offset other reason why_ (inl a) (inr (inr b)) = absurd (fault_not_waiting options bytes b.3 offset reason a b.4)
one_refusal options bytes offset other reason why_ (inr (inl a)) (inl b) = absurd (fault_not_ended options bytes other offset why_ b a.1)
one_refusal options bytes offset other reason why_ (inr (inl a)) (inr (inl b)) = (one_end options bytes offset other a.1 b.1, a.0 ∙ sym b.0)
one_refusal options bytes offset other reason why_ (inr (inl a)) (inr (inr b)) = absurd (ended_not_waiting options bytes b.3 offset a.1 b.4)
one_refusal options bytes offset other reason why_ (inr (inr a)) (inl b) = absurd (fault_not_waiting options bytes a.3 other why_ b a.4)
one_refusal options bytes offset other reason why_ (inr (inr a)) (inr (inl b)) = absurd (ended_not_waiting options bytes a.3 other b.1 a.4)
one_refusal options bytes offset other reason why_ (inr (inr a)) (inr (inr b)) = (a.1 ∙ sym b.1, a.0 ∙ sym b.0)

pub refusal_is_single : RefusalIsSingle
refusal_is_single options bytes offset other reason why_ fits = one_refusal options bytes offset other reason why_

-- a stream that is cut off has no error
pub not_cut : (options : ReadOptions) (bytes : List ℕ) (offset : ℕ) (reason : Reason) → IsTruncated options bytes
    → IsRefusedAt options bytes offset reason → ⊥
not_cut options bytes offset reason cut (inl a) = fault_not_waiting options bytes cut.1 offset reason a cut.2
not_cut options bytes offset reason cut (inr (inl a)) = ended_not_waiting options bytes cut.1 offset a.1 cut.2
not_cut options bytes offset reason cut (inr (inr a)) = let short : length bytes ≤ file_limit = cut.0 in let long : file_limit < length bytes =
    a.2 in absurd (omega arith)
